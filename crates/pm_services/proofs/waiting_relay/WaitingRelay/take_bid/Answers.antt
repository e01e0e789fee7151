-- Of `WaitingRelay::take_bid`: what it ensures.
use Rattle.std.proofs.Common.{◌≡◌, ◌∙◌, ap, ℕ, Bool, not, List, ◌++◌, arith}
use Rattle.std.specs.Prelude.{◌==◌}
use Rattle.pm_cache.specs.Cache.{kept_number}
use Rattle.pm_frames.specs.Stored.{StoredRelay}
use Rattle.pm_services.specs.Receipts.{sender_place, receipt_outs}
use Rattle.std.specs.Option.{option_copied}
use Rattle.pm_frames.specs.Stored.{relay_resume_bytes}
use Rattle.pm_services.specs.Limits.{relay_reply_limit}
use Rattle.pm_services.specs.RelayWrites.{WritesBid, relay_bytes}
use Rattle.pm_services.proofs.Written.{mapped, receipt_written}
use Rattle.pm_services.proofs.Learning.{WritesLearnt, learnt_answered}
use Rattle.pm_services.proofs.waiting_relay.WaitingRelay.take_bid.Goals as goal

pub returns : goal.returns
returns c =
    let own = c.args.own.now in
    let old = c.args.self.now in
    let learnt = c.learn.new.self.relay in
    let new = c.try_waiting.new.self in
    let out : List ℕ = c.args.out.now.items in
    let longer : List ℕ = c.try_waiting.new.out.items in
    let had : Bool = c.is_some-had_record.result in
    let is_had : had ≡ not (old.relay.gathered.window.last == 0) = grind (arith, c.resend.ensures, c.is_some-had_record.ensures) in
    let kept : ℕ = kept_number old.relay.gathered.cache (sender_place c.args.sender) in
    let receipt = receipt_outs {K = StoredRelay} kept c.args.sender c.args.number in
    record {
      answered =
          mapped (relay_bytes own) (WritesLearnt own old learnt new receipt)
          (WritesBid own old c.args.sender c.args.number (option_copied c.args.demand) new) relay_reply_limit relay_reply_limit out longer (omega arith)
          (λ outs writes. record {
            learnt = learnt;
            looks = c.learn.ensures.learnt;
            waiting_reply = writes.waiting_reply;
            tries = writes.tries;
            replied = writes.replied;
          })
          (learnt_answered own old learnt new had c.learn.new.self.waiting receipt out _ _ longer is_had c.learn.ensures.waits
          (c.learn.ensures.written ∙ ap (λ (l : List ℕ). out ++ l)
          (receipt_written relay_resume_bytes own.basis own.child kept c.args.sender c.args.number)) (omega (arith, c.learn.ensures.few))
          c.send_again.ensures.written (omega (arith, c.send_again.ensures.few)) c.try_waiting.ensures.answered);
    }
