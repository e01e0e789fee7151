-- Of `HeldRoot::expire`: what the type keeps.
use Rattle.std.proofs.Common.{◌-◌, None}
use Rattle.pm_services.proofs.OpenRoots.{learnt}
use Rattle.pm_services.proofs.held_root.HeldRoot.expire.Goals as goal

pub invariant_of-self : goal.invariant_of-self
invariant_of-self c =
    learnt c.self.inside.steps c.self.inside.root c.expire-number.new.self (c.from-place.result - 1) c.expire-number.result None c.self.invariant
    c.expire-number.ensures.gone
