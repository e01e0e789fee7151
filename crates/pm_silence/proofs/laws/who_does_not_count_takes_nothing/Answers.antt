-- Of `who_does_not_count_takes_nothing`: a market is sound at each device.
use Rattle.pm_silence.proofs.Markets.{takes_nothing, takes_no_more, takes_as_told}
use Rattle.pm_silence.proofs.laws.who_does_not_count_takes_nothing.Goals as goal

pub returns-clause-total : goal.returns-clause-total
returns-clause-total c clocks e validity grace told events devices are enough = takes_no_more clocks e validity grace told events devices are enough

pub returns-clause-each : goal.returns-clause-each
returns-clause-each c clocks e validity grace device told events are enough gone = takes_nothing clocks e validity grace device told events are enough gone

pub returns-clause-told : goal.returns-clause-told
returns-clause-told c clocks e validity grace device told events are enough hold = takes_as_told clocks e validity grace device told events are enough hold
