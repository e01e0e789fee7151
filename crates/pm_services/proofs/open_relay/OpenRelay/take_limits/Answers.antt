-- Of `OpenRelay::take_limits`: what it ensures.
use Rattle.std.proofs.Common.{◌∙◌, ap, refl, sym, subst}
use Rattle.pm_services.specs.Limits.{relay_reply_limit}
use Rattle.pm_services.specs.Receipts.{Appended}
use Rattle.pm_services.specs.RelayWrites.{relay_bytes, WritesGiven}
use Rattle.pm_services.specs.RelayAnswers.{OpenRelay, with_held}
use Rattle.pm_services.proofs.RelaySteps.{limits_keep}
use Rattle.pm_services.proofs.OpenRelays.{is_given, is_fixed}
use Rattle.pm_services.proofs.open_relay.OpenRelay.take_limits.Goals as goal

pub returns-in_default : goal.returns-in_default
returns-in_default c =
    let it : OpenRelay = c.args.self.now in
    record {
      answered = is_fixed it.setup it.held _ _ _
          (ap (λ (r : OpenRelay). r.setup.terms.giver) (sym c.self.view_is) ∙ sym c.giver-place.ensures.giver ∙ c.in_default.is);
      kept = refl;
    }

pub returns : goal.returns
returns c =
    let old : OpenRelay = record { setup = c.self.inside.setup; bounds = c.self.inside.bounds; held = c.self.inside.held } in
    record {
      answered =
          subst (λ (it : OpenRelay). Appended (relay_bytes it.setup)
          (WritesGiven it.setup.terms.giver it.setup it.held c.args.number c.args.limits c.take_limits.new.self) relay_reply_limit
          c.args.out.now.items c.take_limits.new.out.items) c.self.view_is
          (is_given old.setup old.held _ _ _ _ _ _ (sym c.giver-place.ensures.giver ∙ c.in-Some.is) c.take_limits.ensures.answered);
      kept = ap (λ (it : OpenRelay). with_held it c.take_limits.new.self) c.self.view_is;
    }

pub invariant_of-self : goal.invariant_of-self
invariant_of-self c =
    limits_keep c.self.inside.setup c.self.inside.held _ _ _ _ _ c.take_limits.ensures.answered.writes ∙ c.self.invariant
