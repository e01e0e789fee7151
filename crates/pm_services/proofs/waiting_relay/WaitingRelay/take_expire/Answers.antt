-- Of `WaitingRelay::take_expire`: what it ensures.
use Rattle.std.proofs.Common.{◌≡◌, sym, ℕ, Bool, not, List, [], arith, append-nil}
use Rattle.std.specs.Prelude.{◌==◌}
use Rattle.pm_services.specs.Limits.{relay_reply_limit}
use Rattle.pm_services.specs.RelayWrites.{WritesExpire, relay_bytes}
use Rattle.pm_services.proofs.Written.{mapped}
use Rattle.pm_services.proofs.Learning.{WritesLearnt, learnt_answered}
use Rattle.pm_services.proofs.waiting_relay.WaitingRelay.take_expire.Goals as goal

pub returns : goal.returns
returns c =
    let own = c.args.own.now in
    let old = c.args.self.now in
    let learnt = c.expire.new.self.relay in
    let new = c.try_waiting.new.self in
    let out : List ℕ = c.args.out.now.items in
    let longer : List ℕ = c.try_waiting.new.out.items in
    let had : Bool = c.is_some-had_record.result in
    let is_had : had ≡ not (old.relay.gathered.window.last == 0) = grind (arith, c.resend.ensures, c.is_some-had_record.ensures) in
    record {
      answered =
          mapped (relay_bytes own) (WritesLearnt own old learnt new []) (WritesExpire own old c.args.sender new)
          relay_reply_limit relay_reply_limit out longer (omega arith)
          (λ outs writes. record {
            learnt = learnt;
            looks = c.expire.ensures.learnt;
            waiting_reply = writes.waiting_reply;
            tries = writes.tries;
            replied = writes.replied;
          })
          (learnt_answered own old learnt new had c.expire.new.self.waiting [] out _ _ longer is_had c.expire.ensures.waits
          (sym (append-nil out)) (omega arith) c.send_again.ensures.written (omega (arith, c.send_again.ensures.few)) c.try_waiting.ensures.answered);
    }
