-- Of `Concentrator::next_bid`: its clause `made`; what the call of `record_bid` requires.
use Rattle.std.proofs.Common.{rules}
use Rattle.pm_concentrator.proofs.concentrator.Concentrator.next_bid.Goals as goal

pub record_bid-requires-clause-room : goal.record_bid-requires-clause-room
record_bid-requires-clause-room c = search rules

pub returns-clause-made : goal.returns-clause-made
returns-clause-made c = search rules
