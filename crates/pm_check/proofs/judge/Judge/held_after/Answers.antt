-- Of `Judge::held_after`: what it ensures; what the call of `held` requires.
use Rattle.std.proofs.Common.{◌≡◌, ◌∙◌, sym, ap, subst, refl, ℕ}
use Rattle.std.specs.Prelude.{None}
use Rattle.pm_market.specs.State.{State}
use Rattle.pm_market.specs.Market.{market_state}
use Rattle.pm_market.specs.declared.moves.Move.{Move}
use Rattle.pm_market.specs.declared.moves.Move.TheVariants.{Change, Learn, Publish, Clear, Pass, Close}
use Rattle.pm_plan.specs.Plans.{PlanData}
use Rattle.pm_report.specs.Trace.{NamesNodes}
use Rattle.pm_check.specs.Judges.{held_in}
use Rattle.pm_check.proofs.judge.Judge.held_after.Goals as goal

-- after a move that is no pass nothing is held
none_held : (plan : PlanData) (s : State) (m : Move) → ((x j : ℕ) → m ≡ Pass x j → ⊥) → None ≡ held_in plan s m
none_held plan s (Change d n) no_pass = refl
none_held plan s (Learn x n) no_pass = refl
none_held plan s (Publish c n) no_pass = refl
none_held plan s (Clear j) no_pass = refl
none_held plan s (Pass x j) no_pass = absurd (no_pass x j refl)
none_held plan s (Close p) no_pass = refl

pub held-requires-clause-node : goal.held-requires-clause-node
held-requires-clause-node c = (subst (NamesNodes c.args.plan.now) c.in-Pass.is c.requires.nodes).1

pub returns-in-Pass : goal.returns-in-Pass
returns-in-Pass c = c.held.ensures ∙ sym (ap (held_in c.args.plan.now (market_state c.args.self.now.market)) c.in-Pass.is)

pub returns-in_default : goal.returns-in_default
returns-in_default c = none_held c.args.plan.now (market_state c.args.self.now.market) c.args.what c.in_default.not-Pass
