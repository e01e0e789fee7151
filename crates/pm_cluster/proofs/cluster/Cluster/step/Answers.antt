-- Of `Cluster::step`: its clause `made`.
use Rattle.std.proofs.Common.{subst}
use Rattle.pm_plan.specs.Plans.{PlanData}
use Rattle.pm_stands.specs.Stands.{MakesMove}
use Rattle.pm_stands.specs.Actors.{IsMadeLine}
use Rattle.pm_cluster.proofs.cluster.Cluster.step.Goals as goal

pub returns-in-Some-clause-made : goal.returns-in-Some-clause-made
returns-in-Some-clause-made c s stands =
    let Claim : PlanData → Type 0 = λ p. MakesMove p c.move_of.new.self.core s c.in-Some.what → IsMadeLine p c.move_of.new.self.core s c.line_of.result in
    subst Claim c.move_of.ensures.plan (c.line_of.ensures.line s) (c.in-Some.ensures.made s stands)
