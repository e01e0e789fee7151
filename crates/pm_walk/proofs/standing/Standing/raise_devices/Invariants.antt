-- Of `Standing::raise_devices`: what its loop over `number` keeps.
use Rattle.pm_base.specs.Cuts.{cut_of}
use Rattle.pm_walk.specs.Cuts.{device_cut}
use Rattle.pm_walk.specs.Standing.{cut_made}
use Rattle.pm_walk.proofs.Standings.{IsAlong}
use Rattle.pm_walk.proofs.standing.Standing.raise_devices.Given as goal

abbrev pub invariant-loop-number : goal.invariant-loop-number
invariant-loop-number l =
    IsAlong l.plan l.number l.self l.spare (device_cut l.plan (cut_of l.cut)) (cut_made l.fn.self.progress)
