-- Of `relay_frames_are_calls`: its clause.
use Rattle.pm_lives.proofs.RelayMoves.{relay_answers}
use Rattle.pm_lives.proofs.relay_frames_are_calls.Goals as goal

pub returns : goal.returns
returns c lists p numbering before sys node market has conc own old after frame outs stands may did =
    relay_answers c.systems_run_the_market.ensures.goes_on c.expiring_is_two_calls.ensures.relay lists p numbering before sys node market has conc
    own old after frame outs stands may did
