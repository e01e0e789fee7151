-- Of `Curve::new`: its clause `falls`; what the type keeps.
use Rattle.std.proofs.Common.{arith}
use Rattle.pm_bid.proofs.FoundStep.{never_rises}
use Rattle.pm_ask.proofs.curve.Curve.new.Goals as goal

pub invariant_of-result : goal.invariant_of-result
invariant_of-result c = rw c.copy_into.ensures.bid (record {
  steps = rw c.steps.ensures.steps at c.steps.ensures.within;
  falls = never_rises c.args.total.now (omega arith);
  its_own = c.in_ok-breaks.ensures;
})

pub returns-clause-falls : goal.returns-clause-falls
returns-clause-falls c = never_rises c.args.total.now (omega arith)
