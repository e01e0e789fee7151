-- Of `texts_have_one_reading`: what it ensures.
use Rattle.pm_ask.proofs.TargetTexts.{one_list, no_list, one_bad_line}
use Rattle.pm_ask.proofs.target_list.texts_have_one_reading.Goals as goal

pub returns : goal.returns
returns c = record { list = one_list; line = one_bad_line; apart = no_list }
