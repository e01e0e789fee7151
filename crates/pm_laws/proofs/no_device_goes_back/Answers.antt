-- Of `no_device_goes_back`: what it ensures.
use Rattle.pm_laws.proofs.Order.{never_back}
use Rattle.pm_laws.proofs.no_device_goes_back.Goals as goal

pub returns : goal.returns
returns c lists front mid rest x i j law legal = never_back lists law front mid rest x i j legal
