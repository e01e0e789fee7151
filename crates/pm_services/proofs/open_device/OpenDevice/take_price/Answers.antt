-- Of `OpenDevice::take_price`: what the call of `write_setpoint` requires, its clause `answered`, and what the type keeps.
use Rattle.std.proofs.Common.{◌≡◌, ◌++◌, sym, subst}
use Rattle.pm_net.specs.Agents.{after_price, setpoints_for}
use Rattle.pm_control.specs.Control.{message_of}
use Rattle.pm_services.specs.DeviceAnswers.{OpenDevice}
use Rattle.pm_services.specs.DeviceWrites.{device_bytes, told_outs}
use Rattle.pm_services.specs.DeviceServiceFields.{HasSmallOffers}
use Rattle.pm_services.proofs.DeviceReplies.{told_written}
use Rattle.pm_services.proofs.SmallOffers.{priced_small, told_fits}
use Rattle.pm_services.proofs.open_device.OpenDevice.take_price.Goals as goal

pub write_setpoint-requires-clause-power : goal.write_setpoint-requires-clause-power
write_setpoint-requires-clause-power c =
    (told_fits c.self.inside.agent (message_of c.args.price) _ c.self.invariant c.in-Some.ensures.setpoint).1

pub invariant_of-self-2 : goal.invariant_of-self-2
invariant_of-self-2 c =
    subst HasSmallOffers (sym c.in-Some.ensures.after) (priced_small c.self.inside.agent (message_of c.args.price) c.self.invariant)

pub returns-clause-answered : goal.returns-clause-answered
returns-clause-answered c child =
    let price = message_of c.args.price in
    subst (λ (d : OpenDevice). c.write_resume.new.out.items ≡ c.args.out.now.items ++ device_bytes child d.basis
    (told_outs d.basis (after_price d.agent price) price (setpoints_for d.agent price))) c.self.view_is
    (told_written child c.self.inside.basis (after_price c.self.inside.agent price) c.take_price.new.self price _
    (setpoints_for c.self.inside.agent price) c.args.out.now.items c.write_setpoint.new.out.items c.write_resume.new.out.items
    c.in-Some.ensures.setpoint c.in-Some.ensures.after c.write_setpoint.ensures.written c.write_resume.ensures.written)
