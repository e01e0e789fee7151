-- Of `a_relay_keeps_the_limits_given`: what it ensures.
use Rattle.pm_processes.proofs.LimitsLaw.{keeps_the_law}
use Rattle.pm_processes.proofs.a_relay_keeps_the_limits_given.Goals as goal

pub returns : goal.returns
returns c root relays = keeps_the_law root relays c.histories_keep_the_law.ensures
