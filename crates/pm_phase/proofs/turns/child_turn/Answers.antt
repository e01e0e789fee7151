-- Of `child_turn`: its clause `moves`.
use Rattle.pm_phase.proofs.Moves.{child_trans}
use Rattle.pm_phase.proofs.turns.child_turn.Goals as goal

pub returns-then-heard-clause-moves : goal.returns-then-heard-clause-moves
returns-then-heard-clause-moves c =
    child_trans c.args.place c.args.down.now c.hear_bid-heard.new.down c.put_price_to_child-put.new.down c.args.parent.now c.hear_bid-heard.new.parent
    c.put_price_to_child-put.new.parent c.hear_bid-heard.ensures.moves c.put_price_to_child-put.ensures.moves

pub returns-else-heard-clause-moves : goal.returns-else-heard-clause-moves
returns-else-heard-clause-moves c =
    child_trans c.args.place c.args.down.now c.hear_bid-heard.new.down c.put_price_to_child-put.new.down c.args.parent.now c.hear_bid-heard.new.parent
    c.put_price_to_child-put.new.parent c.hear_bid-heard.ensures.moves c.put_price_to_child-put.ensures.moves
