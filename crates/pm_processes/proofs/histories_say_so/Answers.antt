-- Of `histories_say_so`: what it ensures.
use Rattle.pm_processes.proofs.Said.{says}
use Rattle.pm_processes.proofs.histories_say_so.Goals as goal

pub returns : goal.returns
returns c tree p numbering first last events happen law = says tree p numbering first last events happen law
