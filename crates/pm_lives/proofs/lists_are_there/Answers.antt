-- Of `lists_are_there`: what it ensures.
use Rattle.pm_lives.proofs.Given.{has_lists}
use Rattle.pm_lives.proofs.lists_are_there.Goals as goal

pub returns : goal.returns
returns c tree p numbering market around world new steps none live = has_lists tree p numbering market around world new steps none live
