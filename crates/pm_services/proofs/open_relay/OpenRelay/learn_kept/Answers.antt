-- Of `OpenRelay::learn_kept`: what it ensures.
use Rattle.std.proofs.Common.{◌≡◌, ◌∙◌, sym, ap, refl, arith, ℕ}
use Rattle.pm_relay.specs.Numbers.{child_number}
use Rattle.pm_services.specs.Receipts.{sender_place}
use Rattle.pm_services.specs.RelayAnswers.{OpenRelay}
use Rattle.pm_services.proofs.OpenRelays.{keeps_none, was_given_none, was_given}
use Rattle.pm_services.proofs.open_relay.OpenRelay.learn_kept.Goals as goal

pub returns-in_default : goal.returns-in_default
returns-in_default c =
    let it : OpenRelay = c.args.self.now in
    let giver = ap (λ (r : OpenRelay). r.setup.terms.giver) (sym c.self.view_is) ∙ sym c.giver-place.ensures.giver ∙ c.in_default.is in
    record { answered = keeps_none it.setup it.held _ _ giver; kept = refl }

pub returns-then-number-eq0 : goal.returns-then-number-eq0
returns-then-number-eq0 c =
    let it : OpenRelay = c.args.self.now in
    let numbered : c.number_of-number.result ≡ child_number c.args.stored.now.numbers (sender_place c.in-Some.giver) =
    c.number_of-number.ensures ∙ ap (λ (k : ℕ). child_number c.args.stored.now.numbers k) (omega (arith, c.from-at.ensures)) in
    let giver = ap (λ (r : OpenRelay). r.setup.terms.giver) (sym c.self.view_is) ∙ sym c.giver-place.ensures.giver ∙ c.in-Some.is in
    record {
      answered = was_given_none it.setup it.held c.in-Some.giver _ _ giver (sym numbered ∙ omega (arith, c.if-number-eq0.true));
      kept = refl;
    }

pub returns : goal.returns
returns c =
    let it : OpenRelay = c.args.self.now in
    let numbered : c.number_of-number.result ≡ child_number c.args.stored.now.numbers (sender_place c.in-Some.giver) =
    c.number_of-number.ensures ∙ ap (λ (k : ℕ). child_number c.args.stored.now.numbers k) (omega (arith, c.from-at.ensures)) in
    let giver = ap (λ (r : OpenRelay). r.setup.terms.giver) (sym c.self.view_is) ∙ sym c.giver-place.ensures.giver ∙ c.in-Some.is in
    record {
      answered = was_given it.setup it.held c.in-Some.giver c.number_of-number.result c.args.stored.now _ _ _ _ giver numbered
          c.resume-resume.ensures.limits (omega (arith, c.if-number-eq0.false)) c.take_limits.ensures.answered;
      kept = c.take_limits.ensures.kept;
    }
