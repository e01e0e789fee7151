-- What a node's publishing adds to a state, and what it leaves as it was.
use Rattle.std.specs.Prelude.{◌≡◌, ℕ, ◌+◌, ◌≤◌, ◌≢◌, length}
use Rattle.pm_market.specs.Lists.{Lists, parent, IsNode, IsInner}
use Rattle.pm_market.specs.State.{State, SameOn, cut_at, newest_number_of, part, knowledge, number, clearings, cleared_cut}

-- the state `new` is `old` after y published, or as the auctioneer cleared, what it knows: one cut more
pub record HasAdded (lists : Lists) (old new : State) (y : ℕ) : Type 0 where
  -- the cuts under their numbers
  pub added : cut_at (new.published y) (length (old.published y) + 1) ≡ knowledge lists old y
  pub kept : (z i : ℕ) → i ≤ length (old.published z) → cut_at (new.published z) i ≡ cut_at (old.published z) i
  -- the newest numbers
  pub newest_added : newest_number_of lists new y ≡ newest_number_of lists old y + 1
  pub newest_kept : (z : ℕ) → z ≢ y → newest_number_of lists new z ≡ newest_number_of lists old z
  -- what numbers stand for
  pub part_added : part lists new y (newest_number_of lists old y + 1) ≡ knowledge lists old y
  pub part_kept : (z i : ℕ) → i ≤ newest_number_of lists old z → part lists new z i ≡ part lists old z i
  -- what nodes know
  pub known_kept : (z : ℕ) → IsInner lists z → SameOn lists z (knowledge lists old z) (knowledge lists new z)
  -- the numbers of a child that cuts contain: what was added has the number learnt
  pub number_added : (z : ℕ) → IsNode lists z → parent lists z ≡ y →
      number lists new z (cut_at (new.published y) (length (old.published y) + 1)) ≡ old.learnt z
  pub number_kept : (z i : ℕ) → IsNode lists z → i ≤ length (old.published (parent lists z)) →
      number lists new z (cut_at (new.published (parent lists z)) i) ≡ number lists old z (cut_at (old.published (parent lists z)) i)
  -- the numbers of any node that clearings contain
  pub number_cleared : (z j : ℕ) → IsNode lists z → j ≤ clearings old →
      number lists new z (cleared_cut new j) ≡ number lists old z (cleared_cut old j)
