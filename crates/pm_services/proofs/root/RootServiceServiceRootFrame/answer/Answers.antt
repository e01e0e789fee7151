-- Of `answer` of an auctioneer's service: what the call of `take` requires, and what it ensures of the first Hello.
use Rattle.std.proofs.Common.{◌≡◌, ◌∙◌, sym, subst, refl, [], Option, Some, None}
use Rattle.std.proofs.lemmas.List.{append-nil}
use Rattle.pm_wire.specs.declared.frame.Frame.{Frame}
use Rattle.pm_wire.specs.declared.frame.Frame.TheVariants.{Hello}
use Rattle.pm_frames.specs.declared.root.RootFrame.{RootFrame}
use Rattle.pm_frames.specs.declared.root.RootFrame.TheVariants.{Market}
use Rattle.pm_services.specs.RootAnswers.{OpenRoot, AnswersRoot, RootComesUpBy}
use Rattle.pm_services.specs.RootStands.{steps_known, MayStandWithSteps}
use Rattle.pm_services.proofs.RootPlaces.{known_stands}
use Rattle.pm_services.proofs.root.RootServiceServiceRootFrame.answer.Goals as goal

pub take-requires-clause-stands : goal.take-requires-clause-stands
take-requires-clause-stands g c =
    subst (λ (known : Option OpenRoot). MayStandWithSteps (steps_known known) c.args.frame.now) (sym c.self.view_is ∙ c.in-Some.is)
    (known_stands c.args.self.now c.args.frame.now c.requires)

-- before Hello a frame of the market is answered so
answered_before : (service : Option OpenRoot) (frame : RootFrame) (first : Frame) (new : OpenRoot) → service ≡ None → frame ≡ Market first →
    RootComesUpBy (Market first) (Some new) → AnswersRoot service frame (Some new) []
answered_before service frame first new closed is comes =
    subst (λ (known : Option OpenRoot). AnswersRoot known frame (Some new) []) (sym closed)
    (record { outs = []; writes = (subst (λ (it : RootFrame). RootComesUpBy it (Some new)) (sym is) comes, refl); written = refl })

pub returns-in_ok-new-clause-taken : goal.returns-in_ok-new-clause-taken
returns-in_ok-new-clause-taken g c =
    let hello : c.in-Market-Hello.field-0 ≡ Hello c.in-Market-Hello.basis = rw c.in-Market-Hello.is at c.in-Market-Hello.field-0-is in
    let comes = subst (λ (first : Frame). RootComesUpBy (Market first) (Some c.in_ok-new.field-0)) (sym hello) c.in_ok-new.ensures.opens in
    record {
      reply = [];
      answers = answered_before c.args.self.now c.args.frame.now c.in-Market-Hello.field-0 c.in_ok-new.field-0
          (sym c.self.view_is ∙ c.in_default.is) c.in-Market-Hello.is comes;
      appended = c.in_ok-reserve.ensures.items ∙ sym (append-nil _);
    }
