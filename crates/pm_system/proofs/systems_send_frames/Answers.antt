-- Of `systems_send_frames`: what it ensures.
use Rattle.pm_system.proofs.Frames.{all_sent}
use Rattle.pm_system.proofs.systems_send_frames.Goals as goal

pub returns : goal.returns
returns c lists p numbering sys new calls market at runs = all_sent c.agents_come_back.ensures lists p numbering sys new calls market at runs
