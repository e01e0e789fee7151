-- Of `check_newer`: what it ensures.
use Rattle.std.proofs.Common.{rules}
use Rattle.pm_cache.proofs.cache.check_newer.Goals as goal

pub returns : goal.returns
returns c = search rules
