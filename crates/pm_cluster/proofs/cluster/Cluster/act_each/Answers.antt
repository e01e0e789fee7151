-- Of `Cluster::act_each`: its clauses `made` and `illegal`; the turns of its loop over `at`.
use Rattle.std.proofs.Common.{◌≡◌, ◌∙◌, refl, sym, subst, ◌+◌, ◌<◌, List, [], ◌∷◌, ◌++◌, length, take, get_or}
use Rattle.std.proofs.lemmas.List.{take_more, take_all}
use Rattle.std.proofs.lemmas.Option.{slice_get-get_or}
use Rattle.pm_market.specs.State.{State}
use Rattle.pm_market.specs.Moves.{after, act_of}
use Rattle.pm_market.specs.declared.moves.Act.{Act}
use Rattle.pm_market.specs.declared.moves.Act.TheVariants as act
use Rattle.pm_market.specs.declared.journal.Line.{Line}
use Rattle.pm_plan.specs.Plans.{PlanData}
use Rattle.pm_plan.specs.Market.{plan_lists}
use Rattle.pm_stands.specs.Stands.{StandsFor}
use Rattle.pm_stands.specs.Actors.{IsMadeLine}
use Rattle.pm_cluster.specs.Acts.{moves_of, IsRunOf, NotActed}
use Rattle.pm_cluster.specs.declared.fault.ActFault.{ActFault}
use Rattle.pm_cluster.proofs.Runs.{run_start, run_more, run_illegal}
use Rattle.pm_cluster.proofs.cluster.Cluster.act_each.Goals as goal

pub loop-at-init : goal.loop-at-init
loop-at-init c = record {
  same = refl;
  run = subst (λ (l : List Line). IsRunOf c.args.self.now.plan [] c.args.self.now.core l) (sym c.requires.no_lines)
      (run_start c.args.self.now.plan c.args.self.now.core c.requires.opened);
}

pub loop-at-preserved : goal.loop-at-preserved
loop-at-preserved c =
    let plan = c.args.self.now.plan in
    let acts : List Act = c.args.acts.now in
    let at = c.loop-at.at in
    let inside : at < length acts = c.loop-at-test.true in
    let a : Act = get_or acts at (act.Change 0) in
    let form : act_of c.in-Ok.line.what ≡ a = c.in-Ok.ensures.form in
    let run : IsRunOf plan (take at acts) c.loop-at.self.core c.loop-at.journal.lines = c.loop-at.invariant.run in
    let s : State = after (plan_lists plan) (moves_of c.loop-at.journal.lines) in
    let Claim : PlanData → Type 0 = λ p. StandsFor p c.loop-at.self.core s → IsMadeLine p c.act.new.self.core s c.in-Ok.line in
    let made = subst Claim c.loop-at.invariant.same (c.in-Ok.ensures.made s) run.stands in
    let more = run_more plan (take at acts) a c.loop-at.self.core c.act.new.self.core c.loop-at.journal.lines c.in-Ok.line run form made in
    record {
      same = c.act.ensures.plan ∙ c.loop-at.invariant.same;
      run =
          subst (λ (l : List Line). IsRunOf plan (take (at + 1) acts) c.act.new.self.core l) (sym c.in_ok-push-in-Ok.ensures.lines)
          (subst (λ (l : List Act). IsRunOf plan l c.act.new.self.core (c.loop-at.journal.lines ++ c.in-Ok.line ∷ [])) (sym (take_more acts at
          (act.Change 0) inside)) more);
    }

pub returns-clause-made : goal.returns-clause-made
returns-clause-made c =
    subst (λ (l : List Act). IsRunOf c.args.self.now.plan l c.loop-at.self.core c.loop-at.journal.lines)
    (take_all c.loop-at.at c.args.acts.now c.loop-at-test.false)
    c.loop-at.invariant.run

pub returns-in-Err-Illegal-clause-illegal : goal.returns-in-Err-Illegal-clause-illegal
returns-in-Err-Illegal-clause-illegal c =
    let plan = c.args.self.now.plan in
    let acts : List Act = c.args.acts.now in
    let at = c.loop-at.at in
    let inside : at < length acts = c.loop-at-test.true in
    let a : Act = get_or acts at (act.Change 0) in
    let s : State = after (plan_lists plan) (moves_of c.loop-at.journal.lines) in
    let run : IsRunOf plan (take at acts) c.loop-at.self.core c.loop-at.journal.lines = c.loop-at.invariant.run in
    let Claim : PlanData → Type 0 = λ p. StandsFor p c.loop-at.self.core s → NotActed p s a c.in-Err-Illegal.field-0 in
    let refused = subst Claim c.loop-at.invariant.same (c.in-Err-Illegal.ensures.refused s) run.stands in
    run_illegal plan acts at a c.loop-at.self.core c.loop-at.journal.lines run inside (slice_get-get_or acts at (act.Change 0) inside)
    (subst (λ (fault : ActFault). NotActed plan s a fault) c.in-Err-Illegal.field-0-is refused)
