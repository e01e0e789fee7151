-- Of `answer` of the auctioneer: what the call of `take` requires.
use Rattle.pm_wire.proofs.Known.{known_stands, known_few}
use Rattle.pm_wire.proofs.server.ServerServiceFrame.answer.Goals as goal

pub take-requires-clause-stands : goal.take-requires-clause-stands
take-requires-clause-stands g c = known_stands _ _ c.requires

pub take-requires-clause-clearings : goal.take-requires-clause-clearings
take-requires-clause-clearings g c = known_few _ _ c.requires
