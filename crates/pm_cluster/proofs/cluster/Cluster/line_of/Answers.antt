-- Of `Cluster::line_of`: its clause `line`.
use Rattle.std.proofs.Common.{ap, subst, ℕ}
use Rattle.std.specs.Prelude.{Option}
use Rattle.pm_market.specs.Moves.{step}
use Rattle.pm_market.specs.declared.moves.Move.{Move}
use Rattle.pm_market.specs.declared.moves.Move.TheVariants.{Pass}
use Rattle.pm_plan.specs.Market.{plan_lists}
use Rattle.pm_stands.specs.Stands.{MakesMove}
use Rattle.pm_market.specs.declared.journal.Line.{Line}
use Rattle.pm_cluster.proofs.cluster.Cluster.line_of.Goals as goal

pub returns-in-Pass-clause-line : goal.returns-in-Pass-clause-line
returns-in-Pass-clause-line c s makes =
    let plan = c.args.self.now.plan in
    let what : Move = Pass c.in-Pass.node c.in-Pass.index in
    let made = subst (λ (m : Move). MakesMove plan c.args.self.now.core s m) c.in-Pass.is makes in
    let Told : Option (ℕ × ℕ) → Line = λ held. record { what = what; held = held } in
    record { makes = made; line = ap Told (c.held_by-held.ensures.held (step (plan_lists plan) s what) made.stands) }
