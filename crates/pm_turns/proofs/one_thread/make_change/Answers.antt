-- Of `make_change`: what the calls of `work`, `post` and `unreachable` require.
use Rattle.std.proofs.Common.{◌≡◌, ◌∙◌, sym, ap, subst, ℕ, Some}
use Rattle.pm_board.specs.Boards.{board_state}
use Rattle.pm_cluster.specs.Next.{IsNext}
use Rattle.pm_device.specs.declared.state.Next.{Next}
use Rattle.pm_market.specs.Lists.{IsLeaf}
use Rattle.pm_plan.specs.Kept.{IsPlan}
use Rattle.pm_plan.specs.Market.{plan_lists}
use Rattle.pm_plan.specs.Plans.{node, kind_of}
use Rattle.pm_nodes.proofs.DeviceAgents.{arrays_fit}
use Rattle.pm_turns.proofs.Devices.{next_fits}
use Rattle.pm_turns.proofs.Finishing.{not_refused}
use Rattle.pm_turns.proofs.one_thread.make_change.Goals as goal

pub work-made-requires-clause-fits : goal.work-made-requires-clause-fits
work-made-requires-clause-fits g c =
    let s = board_state c.args.board.now in
    next_fits c.args.board.now.plan (subst IsPlan c.plan.ensures.plan c.basis-basis.ensures.sound) s.closed s.counts c.args.next.device c.args.next
    c.args.agent.now.kind c.requires.next c.requires.its.kind

pub work-made-requires-clause-arrays : goal.work-made-requires-clause-arrays
work-made-requires-clause-arrays g c =
    arrays_fit c.args.board.now.plan (subst IsPlan c.plan.ensures.plan c.basis-basis.ensures.sound) c.plan-2.result.now
    c.arrays.result.now c.args.agent.now.steps
    c.arrays.ensures.arrays c.plan-2.ensures.plan c.requires.its.steps

pub post-requires : goal.post-requires
post-requires g c = record { steps = c.work-made.ensures.steps ∙ c.requires.its.steps }

pub unreachable-requires : goal.unreachable-requires
unreachable-requires g c =
    let plan = c.args.board.now.plan in
    let s = board_state c.args.board.now in
    let made = c.work-made.result.now in
    let device : made.next.device ≡ c.args.next.device = ap (λ (n : Next). n.device) c.work-made.ensures.next in
    not_refused plan s.closed s.counts made c.in_default.field-0 c.in_default.ensures.refused
    (subst (λ (d : ℕ). IsLeaf (plan_lists plan) d) (sym device) c.requires.leaf)
    (subst (λ (n : Next). IsNext plan s.closed s.counts n.device n) (sym c.work-made.ensures.next) c.requires.next)
    (ap (λ (d : ℕ). kind_of (node plan d)) device ∙ c.requires.its.kind ∙ ap Some (sym c.work-made.ensures.kind))
