-- Of `standing_at`: its clauses `stands` and `cut`; what the calls of `stop_at` and `over` require.
use Rattle.std.proofs.Common.{◌≡◌, ◌∙◌, ap, sym, subst, List, Vec, Global, arith}
use Rattle.std.proofs.lemmas.List.{with_items_is}
use Rattle.std.specs.Prelude.{IfOk}
use Rattle.std.specs.Vec.{with_items}
use Rattle.pm_plan.specs.Plans.{PlanData}
use Rattle.pm_base.specs.Cuts.{Cut}
use Rattle.pm_walk.specs.declared.changes.Progress.{Progress}
use Rattle.pm_walk.specs.Cuts.{AreStops}
use Rattle.pm_walk.specs.Standing.{StandingValue, HaveCome, cut_made}
use Rattle.pm_walk.proofs.Phases.{start_stops, cut_reached}
use Rattle.pm_walk.proofs.run.standing_at.Goals as goal

-- where the nodes come further, the vector keeps all that was written to it
stops-are : (plan : PlanData) (before : Vec Progress Global) (after : List Progress) → HaveCome plan before.items → HaveCome plan after →
    (with_items before after).items ≡ after
stops-are plan before after old new = with_items_is before after (omega (arith, old.one_each, new.one_each, before.ok))

pub stop_at-requires-clause-stops : goal.stop_at-requires-clause-stops
stop_at-requires-clause-stops c =
    let plan = c.args.plan.now in
    subst (λ (l : List Progress). AreStops plan c.args.cut.now 0 l) (sym c.deref_mut.ensures.value)
    (start_stops plan c.args.cut.now _ c.in_ok-run.ensures.sound.stands.sound c.in_ok-stops.ensures.reached c.in_ok-stops.ensures.none)

pub over-requires : goal.over-requires
over-requires c =
    let plan = c.args.plan.now in
    let kept = stops-are plan c.in_ok-stops.stops c.stop_at.new.stops c.in_ok-stops.ensures.reached c.stop_at.ensures.reached in
    subst (HaveCome plan) (sym (c.deref.ensures.value ∙ kept)) c.stop_at.ensures.reached

pub returns-clause-stands : goal.returns-clause-stands
returns-clause-stands c = c.over.ensures.stands

pub returns-clause-cut : goal.returns-clause-cut
returns-clause-cut c =
    let plan = c.args.plan.now in
    let kept = stops-are plan c.in_ok-stops.stops c.stop_at.new.stops c.in_ok-stops.ensures.reached c.stop_at.ensures.reached in
    let cut = ap (λ (l : List Progress). cut_made l) (c.deref.ensures.value ∙ kept)
    ∙ c.stop_at.ensures.cut
    ∙ cut_reached plan c.args.cut.now c.in_ok-run.ensures.sound.stands.sound c.requires.one_each c.requires.planned in
    subst (λ (k : Cut). IfOk c.over.result (λ (s : StandingValue). cut_made s.progress ≡ k)) cut c.over.ensures.cut
