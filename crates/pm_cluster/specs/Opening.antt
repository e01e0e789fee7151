-- What opening makes of each list.
use Rattle.std.specs.Prelude.{◌≡◌, ℕ, ◌+◌, ◌<◌, ◌≤◌, ℤ, pos, List, length, replicate, slice_index_or, Option, Some, None, MatchOption}
use Rattle.pm_tree.specs.Entries.{children_of}
use Rattle.pm_market.specs.Lists.{nodes, IsLeaf, IsConcentrator}
use Rattle.pm_session.specs.Links.{Session, new_session}
use Rattle.pm_concentrator.specs.Concentrators.{Gathered, IsNewConcentrator}
use Rattle.pm_plan.specs.Plans.{PlanData, node, start_of, phases, end_cut}
use Rattle.pm_plan.specs.Market.{plan_lists}
use Rattle.pm_stands.specs.Core.{limits_at, row_at}

-- a state for each node, that of a device before its first change
pub record AreStarts (plan : PlanData) (states : List ℤ) : Type 0 where
  pub one_each : length states ≡ nodes (plan_lists plan) + 1
  pub starts : (d : ℕ) → IsLeaf (plan_lists plan) d → start_of (node plan d) ≡ Some (slice_index_or states d (pos 0))

-- a number for each node, of a device that of its changes in the first phase, if there is one
pub record AreFirstDue (plan : PlanData) (due : List ℕ) : Type 0 where
  pub one_each : length due ≡ nodes (plan_lists plan) + 1
  pub first : 0 < phases plan → (d : ℕ) → IsLeaf (plan_lists plan) d → slice_index_or due d 0 ≡ end_cut plan 1 d

-- a row for each node, of new links, one for each child
pub record AreNewRows (plan : PlanData) (rows : List (List Session)) : Type 0 where
  pub one_each : length rows ≡ nodes (plan_lists plan) + 1
  pub new : (y : ℕ) → y ≤ nodes (plan_lists plan) → row_at rows y ≡ replicate (length (children_of plan.entries y)) (new_session plan.basis.steps)

-- a new concentrator if the node is one, and none elsewhere
abbrev pub IsNewAt : PlanData → ℕ → Option Gathered → Type 0
IsNewAt plan y made = MatchOption made (IsConcentrator (plan_lists plan) y → ⊥)
    (λ c. IsConcentrator (plan_lists plan) y × IsNewConcentrator (length (children_of plan.entries y)) plan.basis.steps (limits_at plan y) c)

pub record AreNewConcentrators (plan : PlanData) (concentrators : List (Option Gathered)) : Type 0 where
  pub one_each : length concentrators ≡ nodes (plan_lists plan) + 1
  pub new : (y : ℕ) → y ≤ nodes (plan_lists plan) → IsNewAt plan y (slice_index_or concentrators y None)
