-- Of `size_at`: its clause `size`.
use Rattle.std.proofs.Common.{rules}
use Rattle.pm_wire.proofs.bid_frames.size_at.Goals as goal

pub returns-then-kind-eq-BID-clause-size : goal.returns-then-kind-eq-BID-clause-size
returns-then-kind-eq-BID-clause-size c = search rules
