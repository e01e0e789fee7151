-- What every state after a legal journal keeps.
use Rattle.std.specs.Prelude.{◌≡◌, ℕ, ◌+◌, ◌-◌, ◌<◌, ◌≤◌, true, length, slice_index_or}
use Rattle.std.specs.List.{Contains}
use Rattle.pm_base.specs.Limits.{window_size}
use Rattle.pm_market.specs.Lists.{Lists, phases, parent, changes, IsNode, IsLeaf, IsInner, IsConcentrator, end_count}
use Rattle.pm_market.specs.State.{State, SameOn, AtMostOn, RisesOn, cut_at, newest_number_of}
use Rattle.pm_market.specs.State.{part, knowledge, number, last_index, clearings, cleared_cut, addresses}
use Rattle.pm_market.specs.Moves.{Reached, Idle}

-- a sound state; the auctioneer's list of published cuts is that of the cleared ones
pub record Sound (lists : Lists) (s : State) : Type 0 where
  -- no device made more than its changes, all changes of closed phases are made, and none of a phase that is not open yet
  pub counts_within : (d : ℕ) → IsLeaf lists d → s.counts d ≤ changes lists d
  pub counts_from : (d : ℕ) → IsLeaf lists d → end_count lists s.closed d ≤ s.counts d
  pub counts_to : s.closed < phases lists → (d : ℕ) → IsLeaf lists d → s.counts d ≤ end_count lists (s.closed + 1) d
  pub closed_within : s.closed ≤ phases lists
  -- once all phases are closed every change is made and the state is idle
  pub ended_counts : s.closed ≡ phases lists → (d : ℕ) → IsLeaf lists d → s.counts d ≡ changes lists d
  pub ended_idle : s.closed ≡ phases lists → Idle lists s
  -- a parent learnt no number that its child has not reached
  pub learnt_within : (x : ℕ) → IsNode lists x → s.learnt x ≤ newest_number_of lists s x
  -- the cuts that a node published or cleared rise strictly; number 0, all zeros, is below all of them
  pub published_rise : (c i j : ℕ) → IsInner lists c → i < j → j ≤ length (s.published c) →
      RisesOn lists c (cut_at (s.published c) i) (cut_at (s.published c) j)
  -- the last of them is at most what the node knows
  pub published_known : (c : ℕ) → IsInner lists c → AtMostOn lists c (cut_at (s.published c) (length (s.published c))) (knowledge lists s c)
  -- on the leaves of each child each of them is the child's part under some number that was learnt
  pub published_parts : (x i : ℕ) → IsNode lists x → i ≤ length (s.published (parent lists x)) →
      (n : ℕ) × (n ≤ s.learnt x) × SameOn lists x (cut_at (s.published (parent lists x)) i) (part lists s x n)
  -- the indices passed to a node rise strictly, are those of clearings that address it, and reached its parent
  pub passed_rise : (x i j : ℕ) → i < j → j < length (s.passed x) → slice_index_or (s.passed x) i 0 < slice_index_or (s.passed x) j 0
  pub passed_within : (x j : ℕ) → Contains (s.passed x) j → (1 ≤ j) × (j ≤ clearings s)
  pub passed_addressed : (x j : ℕ) → Contains (s.passed x) j → addresses lists s j x ≡ true
  pub passed_reached : (x j : ℕ) → Contains (s.passed x) j → Reached s (parent lists x) j
  -- at most as many numbers of a concentrator as its window has lie above the one that the last price passed to it names
  pub window : (c : ℕ) → IsConcentrator lists c → newest_number_of lists s c - number lists s c (cleared_cut s (last_index s c)) ≤ window_size
