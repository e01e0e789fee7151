-- Of `OpenRelay::take_price`: what the call of `take_price` requires; what it ensures.
use Rattle.std.proofs.Common.{ap, refl, subst, arith}
use Rattle.pm_basis.specs.Prices.{BasisValue}
use Rattle.pm_frames.proofs.ReadNodes.{fails, passes}
use Rattle.pm_services.specs.Limits.{relay_reply_limit}
use Rattle.pm_services.specs.Receipts.{Appended}
use Rattle.pm_services.specs.RelayWrites.{relay_bytes, WritesTold}
use Rattle.pm_services.specs.RelayAnswers.{OpenRelay, with_held}
use Rattle.pm_services.proofs.OpenRelays.{is_told, is_other}
use Rattle.pm_services.proofs.open_relay.OpenRelay.take_price.Goals as goal

pub take_price-requires-clause-step : goal.take_price-requires-clause-step
take_price-requires-clause-step c =
    let same = passes c.has_basis.result c.if-not-has_basis.false c.has_basis.ensures.0 in
    omega (arith, c.requires.step, ap (λ (b : BasisValue). b.steps) same, c.self.invariant)

pub returns-then-not-has_basis : goal.returns-then-not-has_basis
returns-then-not-has_basis c =
    let old : OpenRelay = record { setup = c.self.inside.setup; bounds = c.self.inside.bounds; held = c.self.inside.held } in
    record {
      answered =
          subst (λ (it : OpenRelay). Appended (relay_bytes it.setup)
          (WritesTold it.setup it.held c.args.price c.args.basis.now it.held) relay_reply_limit c.args.out.now.items
          c.write_other_basis.new.out.items) c.self.view_is
          (is_other old.setup old.held _ _ _ _ (fails c.has_basis.result c.if-not-has_basis.true c.has_basis.ensures.1) c.write_other_basis.ensures.written);
      kept = refl;
    }

pub returns : goal.returns
returns c =
    let old : OpenRelay = record { setup = c.self.inside.setup; bounds = c.self.inside.bounds; held = c.self.inside.held } in
    record {
      answered =
          subst (λ (it : OpenRelay). Appended (relay_bytes it.setup)
          (WritesTold it.setup it.held c.args.price c.args.basis.now c.take_price.new.self) relay_reply_limit
          c.args.out.now.items c.take_price.new.out.items) c.self.view_is
          (is_told old.setup old.held _ _ _ _ _ (passes c.has_basis.result c.if-not-has_basis.false c.has_basis.ensures.0) c.take_price.ensures.answered);
      kept = ap (λ (it : OpenRelay). with_held it c.take_price.new.self) c.self.view_is;
    }
