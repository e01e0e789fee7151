-- Of `settled_devices_were_told`: what it ensures.
use Rattle.pm_net.proofs.Told.{told_now}
use Rattle.pm_net.proofs.devices.settled_devices_were_told.Goals as goal

pub returns : goal.returns
returns c lists p events d law one by leaf runs settled member own = told_now lists law one p by events d leaf runs settled member own
