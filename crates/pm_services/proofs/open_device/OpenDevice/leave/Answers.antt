-- Of `OpenDevice::leave`: its clause `answered`.
use Rattle.std.proofs.Common.{◌≡◌, subst, ◌++◌}
use Rattle.pm_services.specs.DeviceAnswers.{OpenDevice}
use Rattle.pm_services.specs.DeviceWrites.{device_bytes, leave_outs}
use Rattle.pm_services.proofs.DeviceReplies.{left_written}
use Rattle.pm_services.proofs.open_device.OpenDevice.leave.Goals as goal

pub returns-clause-answered : goal.returns-clause-answered
returns-clause-answered c =
    subst (λ (d : OpenDevice). c.write_gone.new.out.items ≡ c.args.out.now.items
    ++ device_bytes c.args.child d.basis (leave_outs d.basis.steps d.basis d.agent))
    c.self.view_is
    (left_written c.args.child c.self.inside.basis c.self.inside.basis.steps c.self.inside.agent c.leave.new.self c.in-Some.number c.args.out.now.items
    c.write_resume.new.out.items c.write_gone.new.out.items c.in-Some.ensures.answer.0 c.in-Some.ensures.answer.1 c.in-Some.ensures.left
    c.write_resume.ensures.written c.write_gone.ensures.written)
