-- Of `roots_learn`: what it ensures.
use Rattle.pm_relay_net.proofs.RootLearning.{learns}
use Rattle.pm_relay_net.proofs.root.roots_learn.Goals as goal

pub returns : goal.returns
returns c = learns
