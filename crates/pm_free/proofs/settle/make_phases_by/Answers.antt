-- Of `make_phases_by`: the turns of its loop over `phase`.
use Rattle.std.proofs.Common.{◌≡◌, ◌∙◌, sym, ap, subst, ℕ, ◌+◌, ◌-◌, List, length, refl, arith}
use Rattle.std.specs.Prelude.{IfSome}
use Rattle.pm_plan.specs.Plans.{PlanData}
use Rattle.pm_free.specs.Links.{AreKept}
use Rattle.pm_free.specs.Nodes.{StandAfter}
use Rattle.pm_free.specs.OverLinks.{CameOverLinks}
use Rattle.pm_free.specs.declared.phase.FreePhase.{FreePhase}
use Rattle.pm_free.proofs.Chain.{HaveLeft, none_left, one_left, none_kept, kept_more}
use Rattle.pm_free.proofs.settle.make_phases_by.Goals as goal

pub loop-phase-init : goal.loop-phase-init
loop-phase-init g c =
    let nodes = c.in_ok-nodes.nodes in
    let empty = sym c.new-kept.ensures.items in
    let none = ap (λ (ks : List FreePhase). length ks) c.new-kept.ensures.items in (
      refl,
      c.requires.agents,
      omega (arith, none),
      subst AreKept empty none_kept,
      subst (λ (p : PlanData). StandAfter p 0 nodes) c.plan.ensures.plan c.in_ok-nodes.ensures.stand,
      subst (λ (p : PlanData). HaveLeft p c.new-kept.result.items nodes.parts.items) c.plan.ensures.plan
          (subst (λ (ks : List FreePhase). HaveLeft c.plan.result.now ks nodes.parts.items) empty
          (none_left c.plan.result.now nodes.parts.items c.in_ok-nodes.ensures.new)),
    )

pub loop-phase-preserved : goal.loop-phase-preserved
loop-phase-preserved g c =
    let plan = c.make_phase.new.board.plan in
    let phase : ℕ = c.loop-phase.phase in
    let kept = c.loop-phase.kept.items in
    let now = c.loop-phase.nodes.parts.items in
    let left = c.in_ok-left.left in
    let made = c.in_ok-left.made in
    let pushed = sym c.in_ok-push.ensures.items in
    let had = subst (λ (p : PlanData). HaveLeft p kept now) (sym c.make_phase.ensures.plan) c.loop-phase.invariant.5 in
    let over = subst (λ (n : ℕ). IfSome made.end (λ end. CameOverLinks plan n now left.parts.items made end.end)) (sym c.loop-phase.invariant.2)
    c.in_ok-left.ensures.over in (
      c.make_phase.ensures.plan ∙ c.loop-phase.invariant.0,
      c.make_phase.ensures.agents,
      omega (arith, c.loop-phase.invariant.2, c.in_ok-push.ensures.len),
      subst AreKept pushed (kept_more kept made c.loop-phase.invariant.3 c.in_ok-left.ensures.logs),
      subst (λ (n : ℕ). StandAfter plan n left) (let e : phase ≡ phase + 1 - 1 = omega arith in e) c.in_ok-left.ensures.stand,
      subst (λ (ks : List FreePhase). HaveLeft plan ks left.parts.items) pushed (one_left plan kept now had made left.parts.items over),
    )
