-- Of `HeldRoot::learn`: what the type keeps.
use Rattle.std.proofs.Common.{◌-◌}
use Rattle.std.specs.Option.{option_copied}
use Rattle.pm_services.proofs.OpenRoots.{learnt}
use Rattle.pm_services.proofs.held_root.HeldRoot.learn.Goals as goal

pub invariant_of-self : goal.invariant_of-self
invariant_of-self c =
    learnt c.self.inside.steps c.self.inside.root c.learn.new.self (c.from-place.result - 1) c.args.number (option_copied c.args.demand) c.self.invariant
    c.learn.ensures.learnt
