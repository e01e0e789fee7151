-- After a settled phase the end that the parts hold is that of the plain auction over the changes made.
use Rattle.std.proofs.Common.{◌≡◌, ◌∙◌, sym, ap, ℕ, Bool, true, false, List, map, Option, Some, None, refl, inl, inr}
use Rattle.std.specs.Prelude.{filter, is_some, ◌&&◌, Vec, slice_get}
use Rattle.std.specs.declared.alloc.Global.{Global}
use Rattle.std.proofs.lemmas.Bool.{cases_Bool}
use Rattle.pm_agent.specs.Agents.{Agent}
use Rattle.pm_base.specs.Cuts.{cut_of}
use Rattle.pm_nodes.specs.DeviceAgents.{IsAgentOf}
use Rattle.pm_device.specs.declared.state.Next.{Next}
use Rattle.pm_device.specs.declared.kind.Kind.{Kind}
use Rattle.pm_plan.specs.Kept.{IsPlan}
use Rattle.pm_plan.specs.Plans.{PlanData, NodeData, node, kind_of, is_device, is_leaf, node_numbers}
use Rattle.pm_plan.specs.declared.node.Node.TheVariants as nodes
use Rattle.pm_session.specs.Ports.{Seat}
use Rattle.pm_session.specs.declared.price.PriceUpdate.{PriceUpdate}
use Rattle.pm_carried.specs.Carried.{is_port_joined, cache_at, entry_head, entry_demand, carried_member, carried_limited, carried_end}
use Rattle.pm_phase.specs.PartsEnd.{held_of_parts, is_member_in, parts_end, EndsPlainly}
use Rattle.pm_phase.specs.Running.{HasRun}
use Rattle.pm_phase.specs.SettledParts.{AreSettled, carried_of, cut_after, of_part, member_of_duty, seat_of_duty}
use Rattle.pm_phase.specs.Standing.{DutyStands, PartsStand}
use Rattle.pm_phase.specs.Telling.{AreChanges}
use Rattle.pm_phase.specs.declared.node.Duty.{Duty}
use Rattle.pm_phase.specs.declared.node.Duty.TheVariants.{Device, Parent}
use Rattle.pm_phase.specs.declared.node.NodePart.{NodePart}
use Rattle.pm_phase.specs.declared.phase.PhaseRun.{PhaseRun}
use Rattle.pm_phase.proofs.PhaseLeft as phase
use Rattle.pm_phase.proofs.StandsAgain.{stands_again}

-- ---- a device is a member exactly if its port is joined

kind_tells : (n : NodeData) (kind : Kind) → kind_of n ≡ Some kind → is_device n ≡ true
kind_tells nodes.Concentrator kind e = absurd (cc e)
kind_tells (nodes.Limited limits) kind e = absurd (cc e)
kind_tells (nodes.Device planned) kind e = refl

-- the node of an agent is a leaf
pub agent_leaf : (plan : PlanData) → IsPlan plan → (d : ℕ) (agent : Agent) → IsAgentOf plan d agent → is_leaf plan d ≡ true
agent_leaf plan is_plan d agent its = sym (is_plan.nodes.devices d) ∙ kind_tells (node plan d) agent.kind its.kind

and_false : (b : Bool) → false ≡ (b && false)
and_false true = refl
and_false false = refl

abbrev pub no_seat : Seat
no_seat = record { joined = None; given = None }

-- a device is a member exactly if its port is joined
pub member_joined : (plan : PlanData) → IsPlan plan → (d before : ℕ) (o : Option NodePart) →
    ((part : NodePart) → o ≡ Some part → DutyStands plan d before part.duty) →
    of_part member_of_duty false o ≡ (is_leaf plan d && is_some (of_part seat_of_duty no_seat o).joined)
member_joined plan is_plan d before None stands = and_false (is_leaf plan d)
member_joined plan is_plan d before (Some part) stands = by part.duty (stands part refl)
  where
    by : (duty : Duty) → DutyStands plan d before duty → member_of_duty duty ≡ (is_leaf plan d && is_some (seat_of_duty duty).joined)
    by (Parent parent) s = and_false (is_leaf plan d)
    by (Device device) s =
        let leaf = agent_leaf plan is_plan d device.agent s.agent in
        elim (cases_Bool device.member) [
          | inl has ↦ has ∙ sym (ap (λ (b : Bool). b && is_some device.port.joined) leaf ∙ ap is_some (s.joined has).1)
          | inr lacks ↦ lacks ∙ sym (ap (λ (b : Bool). b && is_some device.port.joined) leaf ∙ ap is_some (s.left lacks))
        ]

-- ---- the end

-- if a member is exactly a device whose port is joined, the parts hold the end that is carried
pub held_is : (plan : PlanData) (parts : List NodePart) (before : List ℕ) (came : ℕ → List PriceUpdate) →
    ((d : ℕ) → is_member_in parts d ≡ is_port_joined plan (carried_of parts before came) d) →
    parts_end plan parts ≡ carried_end plan (carried_of parts before came)
unfolding carried_end carried_member carried_limited entry_head entry_demand cache_at
held_is plan parts before came same =
    ap (λ (test : ℕ → Bool). record (carried_end plan (held_of_parts parts)) {
      members = map (carried_member plan (held_of_parts parts)) (filter test (node_numbers plan));
    }) (λ i d. same d i)

-- a settled phase ends plainly, and the parts stand again
pub ends_plainly : (plan : PlanData) → IsPlan plan → (before : List ℕ) (changes : List (Vec Next Global)) (parts : List NodePart) (run : PhaseRun) →
    PartsStand plan parts (cut_of before) → AreChanges plan (cut_of before) changes → HasRun plan changes parts run →
    AreSettled plan run.parts.items before changes run.links.items → EndsPlainly plan run.parts.items (cut_after before changes)
ends_plainly plan is_plan before changes parts run stand next ran settled =
    let again = stands_again plan is_plan before changes parts run stand next ran settled in
    record {
      end = held_is plan run.parts.items before (phase.came plan is_plan before changes parts run stand next ran settled)
          (λ d. member_joined plan is_plan d (cut_after before changes d) (slice_get run.parts.items d) (λ part here. (again.each d part here).stands))
          ∙ phase.phase_end plan is_plan before changes parts run stand next ran settled;
      stand = again;
    }
