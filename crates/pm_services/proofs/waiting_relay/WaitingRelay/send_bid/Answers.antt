-- Of `WaitingRelay::send_bid`: its clause `answered`.
use Rattle.std.proofs.Common.{sym, subst, ◌+◌, List, ℕ, Vec, Global, arith}
use Rattle.pm_frames.specs.Stored.{relay_resume_size}
use Rattle.pm_relay.specs.Relays.{NotSent}
use Rattle.pm_relay.specs.declared.fault.SendFault.{SendFault}
use Rattle.pm_relay.specs.declared.fault.SendFault.TheVariants.{NotCaughtUp, NotChanged, WindowFull, OutOfNumbers}
use Rattle.pm_services.specs.Limits.{own_bid_limit}
use Rattle.pm_services.specs.Receipts.{Appended}
use Rattle.pm_services.specs.RelayWrites.{WaitingRelay, WritesAsked, relay_bytes}
use Rattle.pm_services.proofs.Learning.{sent_answered, not_sent_answered}
use Rattle.pm_services.proofs.waiting_relay.WaitingRelay.send_bid.Goals as goal
use Rattle.pm_services.proofs.waiting_relay.WaitingRelay.send_bid.Goals.{in-Ok, in-Err-NotCaughtUp, in-Err-NotChanged, in-Err-WindowFull, in-Err-OutOfNumbers}

pub returns-clause-answered : goal.returns-clause-answered
returns-clause-answered c =
    let own = c.args.own.now in
    let old = c.self.inside.relay in
    let new = c.send.new.self in
    let out : List ℕ = c.args.out.now.items in
    subst (λ (it : WaitingRelay). Appended (relay_bytes own) (WritesAsked own it.relay new) (relay_resume_size + own_bid_limit) out c.match-send.out.items)
    c.self.view_is (elim c.match-send.branch [
      | in-Ok w ↦
          subst (λ (v : Vec ℕ Global). Appended (relay_bytes own) (WritesAsked own old new) (relay_resume_size + own_bid_limit) out v.items) (sym w.out-is)
          (sent_answered own old new out w.write_sent.new.out.items w.in-Ok._number w.in-Ok.ensures.sent w.write_sent.ensures.written
          (omega (arith, w.write_sent.ensures.few)))
      | in-Err-NotCaughtUp w ↦
          subst (λ (v : Vec ℕ Global). Appended (relay_bytes own) (WritesAsked own old new) (relay_resume_size + own_bid_limit) out v.items) (sym w.out-is)
          (not_sent_answered own old new out w.write_not_caught_up.new.out.items NotCaughtUp
          (subst (λ (fault : SendFault). NotSent old fault) w.in-Err-NotCaughtUp.field-0-is w.in-Err-NotCaughtUp.ensures.refused)
          w.in-Err-NotCaughtUp.ensures.unchanged
          w.write_not_caught_up.ensures.written (omega arith))
      | in-Err-NotChanged w ↦
          subst (λ (v : Vec ℕ Global). Appended (relay_bytes own) (WritesAsked own old new) (relay_resume_size + own_bid_limit) out v.items) (sym w.out-is)
          (not_sent_answered own old new out w.write_reply.new.out.items NotChanged
          (subst (λ (fault : SendFault). NotSent old fault) w.in-Err-NotChanged.field-0-is w.in-Err-NotChanged.ensures.refused)
          w.in-Err-NotChanged.ensures.unchanged
          w.write_reply.ensures.written (omega arith))
      | in-Err-WindowFull w ↦
          subst (λ (v : Vec ℕ Global). Appended (relay_bytes own) (WritesAsked own old new) (relay_resume_size + own_bid_limit) out v.items) (sym w.out-is)
          (not_sent_answered own old new out w.write_window_full.new.out.items WindowFull
          (subst (λ (fault : SendFault). NotSent old fault) w.in-Err-WindowFull.field-0-is w.in-Err-WindowFull.ensures.refused)
          w.in-Err-WindowFull.ensures.unchanged
          w.write_window_full.ensures.written (omega arith))
      | in-Err-OutOfNumbers w ↦
          subst (λ (v : Vec ℕ Global). Appended (relay_bytes own) (WritesAsked own old new) (relay_resume_size + own_bid_limit) out v.items) (sym w.out-is)
          (not_sent_answered own old new out w.write_out_of_numbers.new.out.items OutOfNumbers
          (subst (λ (fault : SendFault). NotSent old fault) w.in-Err-OutOfNumbers.field-0-is w.in-Err-OutOfNumbers.ensures.refused)
          w.in-Err-OutOfNumbers.ensures.unchanged
          w.write_out_of_numbers.ensures.written (omega arith))
    ])
