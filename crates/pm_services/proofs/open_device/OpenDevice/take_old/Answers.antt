-- Of `OpenDevice::take_old`: what the type keeps.
use Rattle.std.proofs.Common.{sym, subst}
use Rattle.pm_services.specs.DeviceServiceFields.{HasSmallOffers}
use Rattle.pm_services.proofs.SmallOffers.{old_small}
use Rattle.pm_services.proofs.open_device.OpenDevice.take_old.Goals as goal

pub invariant_of-self-2 : goal.invariant_of-self-2
invariant_of-self-2 c = subst HasSmallOffers (sym c.take_old.ensures.after) (old_small c.self.inside.agent c.args.kept c.self.invariant)
