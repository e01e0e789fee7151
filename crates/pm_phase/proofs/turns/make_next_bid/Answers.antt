-- Of `make_next_bid`: its clause `moves`.
use Rattle.pm_phase.proofs.PartsMove.{made_or_not}
use Rattle.pm_phase.proofs.turns.make_next_bid.Goals as goal

pub returns : goal.returns
returns c = record {
  moves = made_or_not c.make_bid.result c.args.parent.now c.make_bid.new.self c.make_bid.ensures.made c.make_bid.ensures.unchanged c.make_bid.ensures.failed;
}
