-- Of `offering_anew_is_two_calls`: what it ensures.
use Rattle.pm_system.proofs.Anew.{two_calls}
use Rattle.pm_system.proofs.offering_anew_is_two_calls.Goals as goal

pub returns : goal.returns
returns c lists p numbering sys new d kept did = two_calls lists p numbering sys d kept new did
