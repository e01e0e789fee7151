-- Of `open_link`: what the call of `split_seat` requires.
use Rattle.std.proofs.Common.{rules}
use Rattle.pm_cells.proofs.CutAndJoin.{may_cut}
use Rattle.pm_cells.proofs.link.open_link.Goals as goal

pub split_seat-other-requires : goal.split_seat-other-requires
split_seat-other-requires c = (search rules, search rules, may_cut _ _ (search rules))
