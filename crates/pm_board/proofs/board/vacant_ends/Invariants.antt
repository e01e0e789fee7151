-- Of `vacant_ends`: what lasts from turn to turn.
use Rattle.std.proofs.Common.{◌≡◌, length}
use Rattle.std.specs.Prelude.{All}
use Rattle.pm_board.specs.Kept.{HasRoomForAll}
use Rattle.pm_board.proofs.board.vacant_ends.Given as goal

abbrev pub invariant-loop : goal.invariant-loop
invariant-loop l = record { many : length l.ends.items ≡ l.counter; room : All (HasRoomForAll l.plan) l.ends.items }
