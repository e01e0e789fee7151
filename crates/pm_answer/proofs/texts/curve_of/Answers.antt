-- Of `curve_of`: what the call of `unreachable` requires.
use Rattle.pm_answer.proofs.Answering.{never_refused}
use Rattle.pm_answer.proofs.texts.curve_of.Goals as goal

pub unreachable-requires : goal.unreachable-requires
unreachable-requires c =
    never_refused c.args.total.now c.in-Err-Rising.field-0 c.in-Err-Rising.field-0-0 c.requires.falls c.in-Err-Rising.field-0-is c.in-Err-Rising.ensures.rising
