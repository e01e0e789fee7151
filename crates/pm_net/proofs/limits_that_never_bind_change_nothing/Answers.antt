-- Of `limits_that_never_bind_change_nothing`: what it ensures.
use Rattle.pm_net.proofs.Unbound.{goes_unbound}
use Rattle.pm_net.proofs.limits_that_never_bind_change_nothing.Goals as goal

pub returns : goal.returns
returns c lists p limits by good = goes_unbound lists p by limits good
