-- Of `small_lives_settle`: what it ensures.
use Rattle.pm_lives.proofs.WorkedLives.{settles}
use Rattle.pm_lives.proofs.small_lives_settle.Goals as goal

pub returns : goal.returns
returns c = settles
