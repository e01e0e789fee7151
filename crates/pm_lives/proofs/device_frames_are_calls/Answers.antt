-- Of `device_frames_are_calls`: its clause.
use Rattle.pm_lives.proofs.DeviceMoves.{device_answers}
use Rattle.pm_lives.proofs.device_frames_are_calls.Goals as goal

pub returns : goal.returns
returns c lists p numbering sys d leaf basis old frame stands may = device_answers lists p numbering sys d leaf basis old frame stands may
