-- Of `frames_are_carried`: its clauses.
use Rattle.pm_lives.proofs.Carrying.{relay_reads_bid, relay_reads_limits, root_reads_bid, relay_reads_price, device_reads_price, device_reads_old}
use Rattle.pm_lives.proofs.frames_are_carried.Goals as goal

pub returns-clause-relay_bids : goal.returns-clause-relay_bids
returns-clause-relay_bids c lists p numbering sys x node bid sent y up passes own place frame more behind formed fits same =
    relay_reads_bid lists p numbering sys x node bid sent y up passes own place frame more behind formed fits same

pub returns-clause-relay_limits : goal.returns-clause-relay_limits
returns-clause-relay_limits c lists p numbering sys x node bid sent y up gone limits gives own given place frame more behind formed fits same =
    relay_reads_limits lists p numbering sys x node bid sent y up gone limits gives own given place frame more behind formed fits same

pub returns-clause-root_bids : goal.returns-clause-root_bids
returns-clause-root_bids c lists p numbering sys x node bid sent up stage frame more behind formed fits same =
    root_reads_bid lists p numbering sys x node bid sent up stage frame more behind formed fits same

pub returns-clause-relay_prices : goal.returns-clause-relay_prices
returns-clause-relay_prices c lists p numbering sys x price sent own place frame more behind formed fits same =
    relay_reads_price lists p numbering sys x price sent own place frame more behind formed fits same

pub returns-clause-device_prices : goal.returns-clause-device_prices
returns-clause-device_prices c lists p numbering sys x price sent basis place frame more behind formed fits same =
    device_reads_price lists p numbering sys x price sent basis place frame more behind formed fits same

pub returns-clause-device_olds : goal.returns-clause-device_olds
returns-clause-device_olds c child kept place frame more behind formed fits same = device_reads_old child kept place frame more behind formed fits same
