-- Of `send`: its clause `moves`.
use Rattle.pm_phase.proofs.PartsMove.{send_moves, cleared_or_not, passed_or_not}
use Rattle.pm_phase.proofs.turns.send.Goals as goal

pub returns-then-made : goal.returns-then-made
returns-then-made c = record {
  moves = send_moves c.args.parent.now c.clear-cleared.new.self c.make_next_bid-made.new.parent c.pass_on-passed.new.self
      (cleared_or_not c.clear-cleared.result c.args.parent.now c.clear-cleared.new.self c.clear-cleared.ensures.cleared c.clear-cleared.ensures.unchanged)
      c.make_next_bid-made.ensures.moves
      (passed_or_not c.pass_on-passed.result c.make_next_bid-made.new.parent c.pass_on-passed.new.self c.pass_on-passed.ensures.passed
      c.pass_on-passed.ensures.not_passed);
}

pub returns-else-made : goal.returns-else-made
returns-else-made c = record {
  moves = send_moves c.args.parent.now c.clear-cleared.new.self c.make_next_bid-made.new.parent c.pass_on-passed.new.self
      (cleared_or_not c.clear-cleared.result c.args.parent.now c.clear-cleared.new.self c.clear-cleared.ensures.cleared c.clear-cleared.ensures.unchanged)
      c.make_next_bid-made.ensures.moves
      (passed_or_not c.pass_on-passed.result c.make_next_bid-made.new.parent c.pass_on-passed.new.self c.pass_on-passed.ensures.passed
      c.pass_on-passed.ensures.not_passed);
}
