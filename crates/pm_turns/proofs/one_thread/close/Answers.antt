-- Of `close`: what the call of `unreachable` requires.
use Rattle.std.proofs.Common.{◌≡◌, ◌+◌, subst, refl, false, rules}
use Rattle.pm_board.specs.Boards.{board_state}
use Rattle.pm_market.specs.declared.moves.Move.TheVariants.{Close}
use Rattle.pm_plan.specs.Kept.{IsPlan}
use Rattle.pm_turns.proofs.Finishing.{can_close}
use Rattle.pm_turns.proofs.one_thread.close.Goals as goal

pub unreachable-requires : goal.unreachable-requires
unreachable-requires g c =
    let off : c.close_phase-closed.result ≡ false = search rules in
    c.close_phase-closed.ensures.refused off (Close ((board_state c.args.board.now).closed + 1)) refl
    (can_close c.args.board.now (subst IsPlan c.plan.ensures.plan c.basis-basis.ensures.sound) c.journal-journal.ensures.journal c.requires.open_phase
    c.requires.idle c.requires.made)
