-- Of `answer` of a relay: what the call of `take` requires; what Hello makes of it.
use Rattle.std.proofs.Common.{rules, ◌≡◌, ◌∙◌, sym, ap, subst, refl, [], Some, None}
use Rattle.std.proofs.lemmas.List.{append-nil}
use Rattle.pm_wire.specs.declared.frame.Frame.{Frame}
use Rattle.pm_wire.specs.declared.frame.Frame.TheVariants.{Hello}
use Rattle.pm_frames.specs.declared.relay.RelayFrame.{RelayFrame}
use Rattle.pm_frames.specs.declared.relay.RelayFrame.TheVariants.{Child}
use Rattle.pm_services.specs.RelayAnswers.{OpenRelay, RelayServiceValue, AnswersRelay, WritesNow, ComesUp, written_by}
use Rattle.pm_services.specs.RelayStands.{MayStandWithSteps, steps_known}
use Rattle.pm_services.proofs.RelayPlaces.{relay_stands}
use Rattle.pm_services.proofs.relay.RelayServiceServiceRelayFrame.answer.Goals as goal

-- before Hello a child's frame is answered so
answered_before : (service : RelayServiceValue) (frame : RelayFrame) (child : Frame) (new : OpenRelay) → service.relay ≡ None → frame ≡ Child child →
    ComesUp service.child service.terms (Child child) (Some new) → AnswersRelay service frame (record service { relay = Some new }) []
answered_before service frame child new closed is comes = record {
  child = refl;
  terms = refl;
  outs = [];
  writes = subst (λ known. WritesNow service.child service.terms known frame (Some new) []) (sym closed)
      (subst (λ first. ComesUp service.child service.terms first (Some new)) (sym is) comes, refl);
  written = subst (λ known. [] ≡ written_by known []) (sym closed) refl;
}

pub take-requires-clause-stands : goal.take-requires-clause-stands
take-requires-clause-stands g c =
    subst (λ known. MayStandWithSteps (steps_known known) c.args.frame.now)
    (sym (ap (λ (service : RelayServiceValue). service.relay) c.self.view_is) ∙ c.in-Some.is) (relay_stands c.args.self.now c.args.frame.now c.requires)

pub returns-in_ok-new-clause-taken : goal.returns-in_ok-new-clause-taken
returns-in_ok-new-clause-taken g c =
    let old : RelayServiceValue = record { child = c.self.inside.child; terms = c.self.inside.terms; relay = c.self.inside.relay } in
    let hello : c.in-Child-Hello.field-0 ≡ Hello c.in-Child-Hello.basis = rw c.in-Child-Hello.is at c.in-Child-Hello.field-0-is in
    let comes = subst (λ (child : Frame). ComesUp old.child old.terms (Child child) (Some c.in_ok-new.field-0)) (sym hello) c.in_ok-new.ensures.opens in
    record {
      reply = [];
      answers = subst (λ (service : RelayServiceValue). AnswersRelay service c.args.frame.now (record old { relay = Some c.in_ok-new.field-0 }) [])
          c.self.view_is (answered_before old c.args.frame.now c.in-Child-Hello.field-0 c.in_ok-new.field-0 c.in_default.is c.in-Child-Hello.is comes);
      appended = c.in_ok-reserve.ensures.items ∙ sym (append-nil _);
    }

-- before Hello a frame that brings no relay up is answered by nothing
silent_before : (service : RelayServiceValue) (frame : RelayFrame) → service.relay ≡ None → ComesUp service.child service.terms frame None →
    AnswersRelay service frame service []
silent_before service frame closed comes = record {
  child = refl;
  terms = refl;
  outs = [];
  writes = subst (λ known. WritesNow service.child service.terms known frame known []) (sym closed) (comes, refl);
  written = subst (λ known. [] ≡ written_by known []) (sym closed) refl;
}

pub returns-in_default-clause-taken : goal.returns-in_default-clause-taken
returns-in_default-clause-taken g c =
    let old : RelayServiceValue = record { child = c.self.inside.child; terms = c.self.inside.terms; relay = c.self.inside.relay } in
    let comes : ComesUp c.self.inside.child c.self.inside.terms c.args.frame.now None = search rules in
    record {
      reply = [];
      answers = subst (λ (service : RelayServiceValue). AnswersRelay service c.args.frame.now old []) c.self.view_is
          (silent_before old c.args.frame.now c.in_default.is comes);
      appended = c.in_ok-reserve.ensures.items ∙ sym (append-nil _);
    }

pub returns-in_default-2-clause-taken : goal.returns-in_default-2-clause-taken
returns-in_default-2-clause-taken g c =
    let old : RelayServiceValue = record { child = c.self.inside.child; terms = c.self.inside.terms; relay = c.self.inside.relay } in
    let comes : ComesUp c.self.inside.child c.self.inside.terms c.args.frame.now None = search rules in
    record {
      reply = [];
      answers = subst (λ (service : RelayServiceValue). AnswersRelay service c.args.frame.now old []) c.self.view_is
          (silent_before old c.args.frame.now c.in_default.is comes);
      appended = c.in_ok-reserve.ensures.items ∙ sym (append-nil _);
    }
