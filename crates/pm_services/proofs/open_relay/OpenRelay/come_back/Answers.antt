-- Of `OpenRelay::come_back`: what it ensures.
use Rattle.std.proofs.Common.{sym, subst}
use Rattle.pm_frames.specs.declared.relay.RelayFrame.TheVariants.{Resume}
use Rattle.pm_services.specs.Limits.{relay_reply_limit}
use Rattle.pm_services.specs.Receipts.{Appended}
use Rattle.pm_services.specs.RelayWrites.{relay_bytes}
use Rattle.pm_services.specs.RelayAnswers.{OpenRelay, WritesOpenRelay}
use Rattle.pm_services.proofs.OpenRelays.{comes_back}
use Rattle.pm_services.proofs.open_relay.OpenRelay.come_back.Goals as goal

pub returns-clause-answered : goal.returns-clause-answered
returns-clause-answered c =
    let old : OpenRelay = record { setup = c.self.inside.setup; bounds = c.self.inside.bounds; held = c.self.inside.held } in
    subst (λ (new : OpenRelay). Appended (relay_bytes c.args.self.now.setup)
    (WritesOpenRelay c.args.self.now (Resume c.args.stored.now) new) relay_reply_limit c.args.out.now.items c.learn_kept.new.out.items)
    (sym c.learn_kept.ensures.kept)
    (subst (λ (it : OpenRelay). Appended (relay_bytes it.setup)
    (WritesOpenRelay it (Resume c.args.stored.now) (record { setup = c.self.inside.setup; bounds = c.self.inside.bounds; held = c.learn_kept.new.self.held }))
    relay_reply_limit c.args.out.now.items c.learn_kept.new.out.items) c.self.view_is
    (comes_back old c.in_ok-back.back c.args.stored.now c.learn_kept.new.self.held _ _ c.in_ok-back.ensures.opens c.learn_kept.ensures.answered))
