-- The greatest index of a clearing that is due to a node: that reached its parent and addresses it.
use Rattle.std.specs.Prelude.{◌≡◌, ℕ, ◌<◌, ◌≤◌, Bool, true, if◌then◌else◌, ◌==◌, ◌&&◌, nat_lt, List, length, slice_index_or}
use Rattle.pm_base.specs.Cuts.{Cut}
use Rattle.pm_market.specs.Lists.{Lists, parent, IsNode}
use Rattle.pm_market.specs.State.{State, clearings, addresses, addresses_of}
use Rattle.pm_market.specs.Legality.{is_one_of, has_reached}

-- due is, of each node, the greatest index of a clearing that is due to it, 0 if there is none
pub record KnowsDue (lists : Lists) (s : State) (due : ℕ → ℕ) : Type 0 where
  -- what was passed are clearings
  pub passed_made : (x j : ℕ) → is_one_of (s.passed x) j ≡ true → j ≤ clearings s
  pub reached : (x : ℕ) → IsNode lists x → 1 ≤ due x → has_reached s (parent lists x) (due x) ≡ true
  pub addressed : (x : ℕ) → IsNode lists x → 1 ≤ due x → addresses lists s (due x) x ≡ true
  pub greatest : (x j : ℕ) → IsNode lists x → has_reached s (parent lists x) j ≡ true → addresses lists s j x ≡ true → j ≤ due x

-- the greatest index of a clearing that is due to x, once clearing j, of this cut, reached y
abbrev pub due_after : Lists → (ℕ → ℕ) → ℕ → ℕ → Cut → ℕ → ℕ
due_after lists due y j cut x =
    if nat_lt (due x) j && (parent lists x == y) && addresses_of lists cut x then j
    else due x

-- each node that is a parent is marked so
abbrev pub AreParents : List ℕ → List Bool → Type 0
AreParents parents marks = (at : ℕ) → at < length parents → slice_index_or marks (slice_index_or parents at 0) true ≡ true
