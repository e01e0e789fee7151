-- Of `from_share`: what it ensures.
use Rattle.std.proofs.Common.{rules}
use Rattle.pm_strategy.proofs.kinds.from_share.Goals as goal

pub returns : goal.returns
returns c = search rules
