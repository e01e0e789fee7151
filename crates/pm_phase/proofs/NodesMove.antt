-- A turn of a node keeps what the node keeps.
use Rattle.std.proofs.Common.{◌≡◌, subst, ℕ, List, Option, refl}
use Rattle.std.specs.Prelude.{Vec, IfSome, slice_get}
use Rattle.std.specs.declared.alloc.Global.{Global}
use Rattle.pm_cache.specs.Cache.{Cache}
use Rattle.pm_cells.specs.declared.message.UpMessage.{UpMessage}
use Rattle.pm_cells.specs.declared.message.Message.{Message}
use Rattle.pm_device.specs.declared.state.Next.{Next}
use Rattle.pm_plan.specs.Plans.{PlanData}
use Rattle.pm_phase.specs.KeepingParents.{IsUpHere, OverEnd, KeepsParent, PartMovesOn, ChildrenMoveOn, UpMovesOn, sent_over, came_over}
use Rattle.pm_phase.specs.Telling.{AreNext, KeepsDevice, DutyKeeps, StepsOn}
use Rattle.pm_phase.specs.declared.device.DevicePart.{DevicePart}
use Rattle.pm_phase.specs.declared.parent.ParentPart.{ParentPart}
use Rattle.pm_phase.specs.declared.node.FreeNode.{FreeNode}
use Rattle.pm_phase.specs.declared.node.Duty.{Duty}
use Rattle.pm_phase.specs.declared.node.Duty.TheVariants.{Device, Parent}
use Rattle.pm_phase.specs.declared.ends.UpEnd.{UpEnd}
use Rattle.pm_phase.specs.declared.ends.DownEnd.{DownEnd}

-- a node with other duties and ends
abbrev pub with_duty : FreeNode → Duty → Option UpEnd → Vec DownEnd Global → FreeNode
with_duty node duty up downs = record node { part = record node.part { duty = duty }; up = up; downs = downs }

-- a turn of a device steps on
pub device_steps : (plan : PlanData) (changes : List (Vec Next Global)) (node : FreeNode) (device device' : DevicePart) (up' : Option UpEnd) →
    node.part.duty ≡ Device device → ((y : ℕ) → IsUpHere y node.up → IsUpHere y up') →
    ((before : ℕ) → (list : List Next) → IfSome (slice_get changes node.part.number) (λ l. l.items ≡ list) →
    AreNext plan node.part.number before list →
    OverEnd (KeepsDevice plan node.part.number before device) node.up →
    OverEnd (KeepsDevice plan node.part.number before device') up') →
    StepsOn plan changes node (with_duty node (Device device') up' node.downs)
device_steps plan changes node device device' up' is here keeps = record {
  number = refl;
  keeps = λ before was had own list of_list are kept. record {
    up = here node.part.number kept.up;
    duty =
        let now = subst (λ duty. DutyKeeps plan node.part.number before was had own duty node.up node.downs.items) is kept.duty in
        (keeps before list of_list are now.0, now.1);
  };
}

-- a node with children keeps what it kept through its children, its own calls and its parent
pub parent_keeps : (plan : PlanData) (y : ℕ) (was : Cache) (had : List (Option UpMessage)) (own : List Message) (a b c d : ParentPart)
    (up up' : Option UpEnd) (downs downs' : List DownEnd) →
    ChildrenMoveOn downs downs' a b → PartMovesOn b c → UpMovesOn up up' c d → KeepsParent plan y was had own a up downs →
    KeepsParent plan y was had own d up' downs'
parent_keeps plan y was had own a b c d up up' downs downs' children sends above kept =
    let part_b = children.kept plan y (came_over up) kept.part in
    let part_c = sends.kept plan y (came_over up) part_b in
    record {
      part = above.kept plan y part_c;
      sent = above.sent part_c.waits (sends.sent (sent_over up) part_b.own (children.sent (sent_over up) kept.part.own kept.sent));
      told = above.told own (sends.sent own part_b.own (children.sent own kept.part.own kept.told));
      each = λ place end inside.
          above.child plan y was had place _ (sends.child plan y was had (came_over up) place _ part_b.own
          (children.each plan y was had (came_over up) kept.part kept.each place end inside));
    }

-- a turn of a node with children steps on
pub parent_steps : (plan : PlanData) (changes : List (Vec Next Global)) (node : FreeNode) (a b c d : ParentPart) (up' : Option UpEnd)
    (downs' : Vec DownEnd Global) →
    node.part.duty ≡ Parent a → ChildrenMoveOn node.downs.items downs'.items a b → PartMovesOn b c → UpMovesOn node.up up' c d →
    StepsOn plan changes node (with_duty node (Parent d) up' downs')
parent_steps plan changes node a b c d up' downs' is children sends above = record {
  number = refl;
  keeps = λ before was had own list of_list are kept. record {
    up = above.here node.part.number kept.up;
    duty = parent_keeps plan node.part.number was had own a b c d node.up up' node.downs.items downs'.items children sends above
        (subst (λ duty. DutyKeeps plan node.part.number before was had own duty node.up node.downs.items) is kept.duty);
  };
}
