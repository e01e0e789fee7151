-- The heads of bids: the number under which a child sent its newest bid, and whether the bid is gone.
use Rattle.std.specs.Prelude.{true}
use Rattle.pm_bid.specs.declared.head.BidHead.{BidHead}

-- the head of a child that sent nothing
abbrev pub nothing_sent : BidHead
nothing_sent = record { number = 0; gone = true }
