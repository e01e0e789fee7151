-- Of `bill_of_ends`: what it ensures.
use Rattle.std.proofs.Common.{rules}
use Rattle.pm_answer.proofs.texts.bill_of_ends.Goals as goal

pub returns : goal.returns
returns c = search rules
