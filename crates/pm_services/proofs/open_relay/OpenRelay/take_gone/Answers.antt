-- Of `OpenRelay::take_gone`: what it ensures.
use Rattle.std.proofs.Common.{refl, subst}
use Rattle.pm_wire.specs.declared.frame.Frame.TheVariants.{Gone}
use Rattle.pm_frames.specs.declared.relay.RelayFrame.TheVariants.{Child}
use Rattle.pm_services.specs.Limits.{relay_reply_limit}
use Rattle.pm_services.specs.Receipts.{Appended}
use Rattle.pm_services.specs.RelayWrites.{relay_bytes}
use Rattle.pm_services.specs.RelayAnswers.{OpenRelay, WritesOpenRelay}
use Rattle.pm_services.proofs.OpenRelays.{opened}
use Rattle.pm_services.proofs.open_relay.OpenRelay.take_gone.Goals as goal

pub returns : goal.returns
returns c =
    let old : OpenRelay = record { setup = c.self.inside.setup; bounds = c.self.inside.bounds; held = c.self.inside.held } in
    record {
      answered =
          subst (λ (it : OpenRelay). Appended (relay_bytes it.setup)
          (WritesOpenRelay it (Child (Gone c.args.sender c.args.number))
          (record { setup = c.self.inside.setup; bounds = c.self.inside.bounds; held = c.take_bid.new.self }))
          relay_reply_limit c.args.out.now.items c.take_bid.new.out.items) c.self.view_is
          (opened old (Child (Gone c.args.sender c.args.number)) c.take_bid.new.self _ _ refl c.take_bid.ensures.answered);
    }
