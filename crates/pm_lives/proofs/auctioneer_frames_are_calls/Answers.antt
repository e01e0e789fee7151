-- Of `auctioneer_frames_are_calls`: its clause.
use Rattle.pm_lives.proofs.RootMoves.{root_answers}
use Rattle.pm_lives.proofs.auctioneer_frames_are_calls.Goals as goal

pub returns : goal.returns
returns c lists p numbering before sys market has basis old after frame outs is may did =
    root_answers c.expiring_is_two_calls.ensures.root lists p numbering before sys market has basis old after frame outs is may did
