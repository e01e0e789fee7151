-- Of `OpenDevice::take`: its clause `answered` where the frame is a price.
use Rattle.std.proofs.Common.{◌≡◌, ◌∙◌, sym, ap, ◌++◌, ℕ}
use Rattle.pm_net.specs.Messages.{price_message}
use Rattle.pm_frames.specs.declared.parent.ParentFrame.TheVariants.{Price}
use Rattle.pm_frames.specs.declared.device.DeviceFrame.{DeviceFrame}
use Rattle.pm_frames.specs.declared.device.DeviceFrame.TheVariants.{Parent}
use Rattle.pm_services.specs.DeviceWrites.{device_bytes, price_outs_of}
use Rattle.pm_services.specs.DeviceAnswers.{device_reply}
use Rattle.pm_services.proofs.open_device.OpenDevice.take.Goals as goal

pub returns-in-Parent-Price-clause-answered : goal.returns-in-Parent-Price-clause-answered
returns-in-Parent-Price-clause-answered g c =
    let price = c.in-Parent-Price in
    let device = c.args.self.now in
    let told : price.field-0 ≡ Price price.field-0-0 price.number price.index price.step price.basis = rw price.is at price.field-0-is in
    c.take_price_of.ensures.answered c.args.child
    ∙ ap (λ (n : ℕ). c.args.out.now.items
    ++ device_bytes c.args.child device.basis (price_outs_of device.basis device.agent (price_message price.number price.index n) price.basis)) c.from.ensures
    ∙ ap (λ (f : DeviceFrame). c.args.out.now.items ++ device_reply c.args.child device f) (sym (price.is ∙ ap Parent told))
