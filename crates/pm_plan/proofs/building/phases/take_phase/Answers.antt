-- Of `take_phase`: its clauses `made`, `nodes` and `arrays`.
use Rattle.std.proofs.Common.{◌≡◌, ◌∙◌, ap, ◌≤◌, refl, arith, true, List, length, map}
use Rattle.std.specs.Prelude.{nat_le}
use Rattle.std.proofs.lemmas.Bool.Decides.{nat_tests}
use Rattle.std.proofs.lemmas.Grind.{common_steps}
use Rattle.std.proofs.lemmas.List.{length-map}
use Rattle.pm_base.specs.Limits.{most_events}
use Rattle.pm_base.proofs.Outcomes.{Refuses-first}
use Rattle.pm_plan.specs.declared.parts.EventSpec.{EventSpec}
use Rattle.pm_plan.specs.declared.refusal.PlanFault.TheVariants.{NoMemory}
use Rattle.pm_plan.specs.Plans.{PlanData}
use Rattle.pm_plan.specs.Parts.{event_part}
use Rattle.pm_plan.specs.Building.{phase_of}
use Rattle.pm_plan.proofs.Folds.{step-err}
use Rattle.pm_plan.proofs.building.phases.take_phase.Goals as goal

-- as many events as a phase may have pass the test
few_events : (list : List EventSpec) → length list ≤ most_events → nat_le (length (map event_part list)) most_events ≡ true
few_events list few = rw (length-map list event_part) (grind (arith, nat_tests))

pub returns-then-not-are_minutes-clause-made : goal.returns-then-not-are_minutes-clause-made
unfolding phase_of
returns-then-not-are_minutes-clause-made c = grind (arith, common_steps)

pub returns-in_err-tick-in-Tick : goal.returns-in_err-tick-in-Tick
returns-in_err-tick-in-Tick c = step-err _ NoMemory _ _ _ _ _ c.from_residual.ensures.1 tt

pub returns-then-len-gt-MOST_EVENTS-clause-made : goal.returns-then-len-gt-MOST_EVENTS-clause-made
unfolding phase_of
returns-then-len-gt-MOST_EVENTS-clause-made c = grind (arith, common_steps)

pub returns-in_err-add_events-in-Events : goal.returns-in_err-add_events-in-Events
unfolding phase_of
returns-in_err-add_events-in-Events c =
    step-err _ _ _ _ _ _ _ c.from_residual-in_err-add_events-in-Events.ensures.1
    (rw (c.in-Events.is, ← c.deref.ensures.value, few_events c.deref.result.now (omega (arith, c.len.ensures, c.deref.ensures.len)))
    (Refuses-first _ _ _ c.in_err-add_events-in-Events.ensures.made))

pub returns-in_err-push_phase-in-Events : goal.returns-in_err-push_phase-in-Events
returns-in_err-push_phase-in-Events c = step-err _ NoMemory _ _ _ _ _ c.from_residual-in_err-push_phase-in-Events.ensures.1 tt

pub returns-in_ok-tick-in-Tick-clause-made : goal.returns-in_ok-tick-in-Tick-clause-made
unfolding phase_of
returns-in_ok-tick-in-Tick-clause-made c = grind (arith, common_steps)

pub returns-in_ok-tick-in-Tick-clause-nodes : goal.returns-in_ok-tick-in-Tick-clause-nodes
returns-in_ok-tick-in-Tick-clause-nodes c = ap (λ (p : PlanData). length p.nodes) c.in_ok-tick-in-Tick.ensures ∙ length-map c.args.draft.now.nodes _

pub returns-in_ok-tick-in-Tick-clause-arrays : goal.returns-in_ok-tick-in-Tick-clause-arrays
returns-in_ok-tick-in-Tick-clause-arrays c = omega (arith, ap (λ (p : PlanData). length p.arrays) c.in_ok-tick-in-Tick.ensures)

pub returns-in_ok-push_phase-in-Events : goal.returns-in_ok-push_phase-in-Events
unfolding phase_of
returns-in_ok-push_phase-in-Events c =
    let more = c.in_ok-push_phase-in-Events.ensures in
    let after = c.in_ok-add_events-in-Events.ensures in
    record {
      made =
          rw (
            c.in-Events.is,
            ← c.deref.ensures.value,
            few_events c.deref.result.now (omega (arith, c.len.ensures, c.deref.ensures.len)),
            after.made,
            more,
          ) refl;
      entries = ap (λ (p : PlanData). p.entries) more ∙ after.entries;
      nodes = ap (λ (p : PlanData). length p.nodes) more ∙ after.nodes;
      arrays = omega (arith, ap (λ (p : PlanData). length p.arrays) more, after.arrays, c.len.ensures, c.deref.ensures.len);
    }
