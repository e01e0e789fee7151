-- Of `greatest_of`: what it ensures.
use Rattle.std.proofs.Common.{rules}
use Rattle.pm_ask.proofs.breaks.greatest_of.Goals as goal

pub returns-then-step-gt0 : goal.returns-then-step-gt0
returns-then-step-gt0 c = search rules
