-- Of `write_resume`: its clause `size`.
use Rattle.std.proofs.Common.{ap, arith, length, length-append}
use Rattle.pm_frames.specs.Terms.{giver_number}
use Rattle.pm_frames.specs.Stored.{StoredRelay, relay_resume_bytes}
use Rattle.pm_services.proofs.RelayReplies.{length-relay_resume}
use Rattle.pm_services.proofs.relay_bytes.write_resume.Goals as goal

pub returns-clause-size : goal.returns-clause-size
returns-clause-size c =
    let kept = c.resume.result in
    let own = c.own.inside in
    let stored : StoredRelay = record {
      last = kept.last;
      answered = kept.answered;
      index = kept.index;
      basis = own.basis;
      first = own.terms.limits;
      giver = giver_number own.terms.giver;
      limits = kept.limits;
      numbers = kept.numbers.now;
    } in
    omega (
      arith,
      ap length c.write_relay_resume.ensures.written,
      length-append c.args.out.now.items (relay_resume_bytes stored),
      length-relay_resume stored c.resume.ensures.children,
      c.args.out.now.ok.0,
      c.write_relay_resume.new.out.ok.0,
    )
