-- Of `OpenDevice::write_resume`: what the call of `write_agent_resume` requires, and the clause `few`.
use Rattle.std.proofs.Common.{sym, ap, subst, length, arith, length-append}
use Rattle.std.specs.Option.{option_copied}
use Rattle.pm_frames.specs.Stored.{newest_bytes}
use Rattle.pm_services.specs.DeviceServiceFields.{IsSmall}
use Rattle.pm_services.proofs.SmallOffers.{newest_small}
use Rattle.pm_services.proofs.DeviceReplies.{newest_few}
use Rattle.pm_services.proofs.open_device.OpenDevice.write_resume.Goals as goal

pub write_agent_resume-requires-clause-small : goal.write_agent_resume-requires-clause-small
write_agent_resume-requires-clause-small c =
    subst IsSmall (sym c.resume-resume.ensures.newest) (newest_small c.self.inside.agent c.self.invariant)

pub write_agent_resume-requires-clause-room : goal.write_agent_resume-requires-clause-room
write_agent_resume-requires-clause-room c =
    let resume = c.resume-resume.result in
    let steps = c.steps_if_some-steps in
    omega (arith, newest_few resume.number resume.index c.self.inside.basis (option_copied resume.newest) steps.result steps.ensures.steps steps.ensures.few)

pub returns-clause-few : goal.returns-clause-few
returns-clause-few c =
    let resume = c.resume-resume.result in
    let steps = c.steps_if_some-steps in
    omega (
      arith,
      ap length c.write_agent_resume.ensures.written,
      length-append c.args.out.now.items (newest_bytes resume.number resume.index c.self.inside.basis (option_copied resume.newest)),
      newest_few resume.number resume.index c.self.inside.basis (option_copied resume.newest) steps.result steps.ensures.steps steps.ensures.few,
    )
