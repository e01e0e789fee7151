-- Of `HeldRoot::write_resume`: its clause `size`.
use Rattle.std.proofs.Common.{ap, length, arith, length-append}
use Rattle.pm_frames.specs.Stored.{StoredRoot, root_resume_bytes}
use Rattle.pm_services.proofs.RootReplies.{length-root_resume}
use Rattle.pm_services.proofs.held_root.HeldRoot.write_resume.Goals as goal

pub returns-clause-size : goal.returns-clause-size
returns-clause-size c =
    let stored : StoredRoot = record { last = c.last.result; basis = c.args.basis.now; numbers = c.numbers.result.now } in
    omega (
      arith,
      ap length c.write_root_resume.ensures.written,
      length-append c.args.out.now.items (root_resume_bytes stored),
      length-root_resume stored c.numbers.ensures.children,
      c.args.out.now.ok.0,
      c.write_root_resume.new.out.ok.0,
    )
