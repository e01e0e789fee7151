-- Of `WaitingRelay::send`: what it ensures.
use Rattle.pm_services.proofs.Learning.{asked_then}
use Rattle.pm_services.proofs.waiting_relay.WaitingRelay.send.Goals as goal

pub returns : goal.returns
returns c = record {
  answered = asked_then c.args.own.now c.args.self.now c.send_bid.new.self.relay c.try_waiting.new.self c.send_bid.new.self.waiting _ _ _
      c.send_bid.ensures.waits c.send_bid.ensures.answered c.try_waiting.ensures.answered;
}
