-- Of `make_plan`: its clause `bad_size`.
use Rattle.std.proofs.Common.{rules}
use Rattle.pm_gen.proofs.demo.make_plan.Goals as goal

pub returns-then-size-eq0-clause-bad_size : goal.returns-then-size-eq0-clause-bad_size
returns-then-size-eq0-clause-bad_size c = search rules
