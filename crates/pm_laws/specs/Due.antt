-- Which clearings are to be passed to a node.
use Rattle.std.specs.Prelude.{◌≡◌, ℕ, ◌<◌, ◌≤◌, Bool, true, ◌&&◌}
use Rattle.pm_market.specs.Lists.{Lists, parent}
use Rattle.pm_market.specs.State.{State, addresses}
use Rattle.pm_market.specs.Legality.{has_reached}

-- whether clearing j reached the parent of x and addresses x
abbrev pub is_due : Lists → State → ℕ → ℕ → Bool
is_due lists s x j = has_reached s (parent lists x) j && addresses lists s j x

-- the greatest index of a clearing that is to be passed to the node, 0 if there is none
pub record IsNewestDue (lists : Lists) (s : State) (x j : ℕ) : Type 0 where
  pub due : 0 < j → is_due lists s x j ≡ true
  pub most : (i : ℕ) → is_due lists s x i ≡ true → i ≤ j
