-- Of `OpenRelay::take_bid`: what it ensures.
use Rattle.std.proofs.Common.{subst}
use Rattle.pm_wire.specs.declared.frame.Frame.TheVariants.{Bid}
use Rattle.pm_frames.specs.declared.relay.RelayFrame.TheVariants.{Child}
use Rattle.pm_frames.proofs.ReadNodes.{fails, passes}
use Rattle.pm_services.specs.Limits.{relay_reply_limit}
use Rattle.pm_services.specs.Receipts.{Appended}
use Rattle.pm_services.specs.RelayWrites.{relay_bytes}
use Rattle.pm_services.specs.RelayAnswers.{OpenRelay, WritesOpenRelay}
use Rattle.pm_services.proofs.OpenRelays.{counts, is_beyond}
use Rattle.pm_services.proofs.open_relay.OpenRelay.take_bid.Goals as goal

pub returns-then-not-admit : goal.returns-then-not-admit
returns-then-not-admit c =
    let old : OpenRelay = record { setup = c.self.inside.setup; bounds = c.self.inside.bounds; held = c.self.inside.held } in
    record {
      answered =
          subst (λ (it : OpenRelay). Appended (relay_bytes it.setup)
          (WritesOpenRelay it (Child (Bid c.args.sender c.args.number c.args.demand.now)) it) relay_reply_limit c.args.out.now.items
          c.write_too_much.new.out.items) c.self.view_is
          (is_beyond old _ _ _ _ _ (fails c.admit.result c.if-not-admit.true c.admit.ensures.1) c.write_too_much.ensures.written);
    }

pub returns : goal.returns
returns c =
    let old : OpenRelay = record { setup = c.self.inside.setup; bounds = c.self.inside.bounds; held = c.self.inside.held } in
    record {
      answered =
          subst (λ (it : OpenRelay). Appended (relay_bytes it.setup)
          (WritesOpenRelay it (Child (Bid c.args.sender c.args.number c.args.demand.now))
          (record { setup = c.self.inside.setup; bounds = c.self.inside.bounds; held = c.take_bid.new.self })) relay_reply_limit
          c.args.out.now.items c.take_bid.new.out.items) c.self.view_is
          (counts old _ _ _ c.take_bid.new.self _ _ (passes c.admit.result c.if-not-admit.false c.admit.ensures.0) c.take_bid.ensures.answered);
    }
