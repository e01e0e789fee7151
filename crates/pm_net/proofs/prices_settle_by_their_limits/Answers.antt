-- Of `prices_settle_by_their_limits`: its clauses `limits` and `given`.
use Rattle.pm_net.specs.Network.{sent_price}
use Rattle.pm_net.proofs.PriceLimits.{same_given, same_limits}
use Rattle.pm_net.proofs.prices_settle_by_their_limits.Goals as goal

pub returns-clause-limits : goal.returns-clause-limits
returns-clause-limits c lists p net s y k law by agrees conc lt =
    same_limits lists law p s agrees.sound y (conc.0, conc.1) (sent_price net y k) (agrees.prices_sent y k (conc.0, conc.1) lt) by

pub returns-clause-given : goal.returns-clause-given
returns-clause-given c lists p net s y k d law agrees conc lt child =
    same_given lists law p s agrees.sound y (conc.0, conc.1) (sent_price net y k) (agrees.prices_sent y k (conc.0, conc.1) lt) d child
