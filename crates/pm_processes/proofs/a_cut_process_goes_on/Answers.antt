-- Of `a_cut_process_goes_on`: what it ensures.
use Rattle.pm_processes.proofs.Worked.{goes_on}
use Rattle.pm_processes.proofs.a_cut_process_goes_on.Goals as goal

pub returns : goal.returns
returns c root relays = goes_on root relays
