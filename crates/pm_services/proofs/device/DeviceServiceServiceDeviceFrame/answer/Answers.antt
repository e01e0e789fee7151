-- Of `answer` of a device's service: what the call of `take` requires, and what it answers after Hello.
use Rattle.std.proofs.Common.{◌≡◌, ◌∙◌, sym, ap, ◌++◌, ℕ, List, Option, Some, Result, Ok, Err}
use Rattle.std.specs.Prelude.{OnOk}
use Rattle.pm_frames.specs.declared.device.DeviceFrame.{DeviceFrame}
use Rattle.pm_services.specs.DeviceAnswers.{OpenDevice, DeviceServiceValue, AnswersDevice, open_device_after, device_after, device_reply, reply_to}
use Rattle.pm_services.proofs.DeviceFrames.{taken_small}
use Rattle.pm_services.proofs.device.DeviceServiceServiceDeviceFrame.answer.Goals as goal

both_ok : {T E : Type 0} (r : Result T E) (P Q X : Type 0) → (P → Q → X) → OnOk r P → OnOk r Q → OnOk r X
both_ok (Ok value) P Q X both p q = both p q
both_ok (Err fault) P Q X both p q = tt

-- what a device that is known makes of a frame is what its service makes of it
answered : (child' : ℕ) (known : Option OpenDevice) (device' new : OpenDevice) (service : DeviceServiceValue) (frame : DeviceFrame) →
    record { child = child'; device = known } ≡ service → known ≡ Some device' → new ≡ open_device_after device' frame →
    AnswersDevice service frame (record { child = child'; device = Some new }) (device_reply child' device' frame)
answered child known device new service frame view is after = record {
  child = ap (λ (s : DeviceServiceValue). s.child) view;
  device = ap (λ (d : OpenDevice). Some d) after ∙ ap (λ (o : Option OpenDevice). device_after o frame) (sym is)
      ∙ ap (λ (s : DeviceServiceValue). device_after s.device frame) view;
  replied = ap (λ (o : Option OpenDevice). reply_to child o frame) (sym is) ∙ ap (λ (s : DeviceServiceValue). reply_to s.child s.device frame) view;
}

pub take-requires-clause-small : goal.take-requires-clause-small
take-requires-clause-small g c = taken_small _ _ c.requires

pub returns-in-Some-clause-taken : goal.returns-in-Some-clause-taken
returns-in-Some-clause-taken g c =
    both_ok c.take.result _ _ _
    (λ after written. record {
      reply = device_reply c.self.inside.child c.in-Some.device c.args.frame.now;
      answers = answered c.self.inside.child c.self.inside.device c.in-Some.device c.take.new.self c.args.self.now c.args.frame.now c.self.view_is
          c.in-Some.is after;
      appended = written ∙ ap (λ (l : List ℕ). l ++ device_reply c.self.inside.child c.in-Some.device c.args.frame.now) c.in_ok-reserve.ensures.items;
    })
    c.take.ensures.taken c.take.ensures.answered
