-- The end of a phase that the parts of the nodes hold.
use Rattle.std.specs.Prelude.{◌≡◌, ℕ, Bool, false, if◌then◌else◌, List, [], ◌∷◌, ◌++◌, map, filter, slice_get}
use Rattle.pm_base.specs.Cuts.{Cut}
use Rattle.pm_plan.specs.Auction.{EndData}
use Rattle.pm_plan.specs.Plans.{PlanData, node_numbers}
use Rattle.pm_plan.specs.States.{end_of}
use Rattle.pm_carried.specs.Carried.{Carried, carried_member, carried_end}
use Rattle.pm_phase.specs.SettledParts.{carried_of, of_part, member_of_duty}
use Rattle.pm_phase.specs.Standing.{PartsStand}
use Rattle.pm_phase.specs.declared.node.NodePart.{NodePart}

-- what the nodes hold by their numbers; which prices came, and how many changes were made, says nothing of the end
abbrev pub held_of_parts : List NodePart → Carried
held_of_parts parts = carried_of parts [] (λ x. [])

-- whether a node is a device that is a member, by the changes that it made
abbrev pub is_member_in : List NodePart → ℕ → Bool
is_member_in parts d = of_part member_of_duty false (slice_get parts d)

-- the end that is read of the parts: the auctioneer's step with its price and its sum there, each member with its power by the
-- price that it holds and the entry that its parent has of it, and each limited concentrator
abbrev pub parts_end : PlanData → List NodePart → EndData
parts_end plan parts =
    record (carried_end plan (held_of_parts parts)) {
      members = map (carried_member plan (held_of_parts parts)) (filter (is_member_in parts) (node_numbers plan));
    }

-- after a settled phase: the end that the parts hold is that of the plain auction over the changes made, and the parts stand after
-- these changes
pub record EndsPlainly (plan : PlanData) (parts : List NodePart) (cut : Cut) : Type 0 where
  pub end : parts_end plan parts ≡ end_of plan cut
  pub stand : PartsStand plan parts cut

-- the line of a node joins those of the nodes before it, if the node passes the test
abbrev pub AddsLineIf : {A : Type 0} → (ℕ → A) → (ℕ → Bool) → ℕ → List A → List A → Type 0
AddsLineIf line test x old new = new ≡ old ++ (if test x then line x ∷ [] else [])
