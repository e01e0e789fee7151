-- Of `relays_are_devices`: what it ensures.
use Rattle.pm_guard.proofs.Relays.{relay_takes, relay_tells, relay_hears, relay_may_promise}
use Rattle.pm_guard.proofs.laws.relays_are_devices.Goals as goal

pub returns-clause-takes : goal.returns-clause-takes
returns-clause-takes c depth relay knows may = relay_takes depth relay knows may

pub returns-clause-tells : goal.returns-clause-tells
returns-clause-tells c told promised guard child band may = relay_tells told promised guard child band may

pub returns-clause-hears : goal.returns-clause-hears
returns-clause-hears c told promised guard child index may = relay_hears told promised guard child index may

pub returns-clause-promises : goal.returns-clause-promises
returns-clause-promises c told guard band is limits inside = relay_may_promise told guard band is limits inside
