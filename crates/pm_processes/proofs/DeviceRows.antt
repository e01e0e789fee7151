-- Of the worked answers: those of a device, whose answers are functions of its frames; and the frames that nodes read.
use Rattle.std.proofs.Common.{◌≡◌, ◌∙◌, sym, ap, subst, refl, ℕ, List, [], ◌∷◌, Option, None}
use Rattle.pm_wire.specs.Taking.{Runs}
use Rattle.pm_frames.specs.declared.parent.ParentFrame.TheVariants.{Price}
use Rattle.pm_frames.specs.declared.device.DeviceFrame.{DeviceFrame}
use Rattle.pm_frames.specs.declared.device.DeviceFrame.TheVariants as to_device
use Rattle.pm_services.specs.DeviceAnswers.{OpenDevice, DeviceServiceValue, AnswersDevice, device_after, reply_to}
use Rattle.pm_services.proofs.DeviceReplies.{of_another}
use Rattle.pm_lives.specs.Answering.{IsOfOtherBasis, SaysOtherBasis}
use Rattle.pm_lives.proofs.Answering.{device_says_other}
use Rattle.pm_processes.specs.Processes.{new_device_service}
use Rattle.pm_processes.specs.WorkedAnswers.{device_with, IsDeviceHello, DeviceSays, DeviceRows, FrameRows}

-- the service behind a frame, and behind frames
abbrev service_after : DeviceServiceValue → DeviceFrame → DeviceServiceValue
service_after s frame = record { child = s.child; device = device_after s.device frame }

abbrev behind : DeviceServiceValue → List DeviceFrame → DeviceServiceValue
behind s [] = s
behind s (frame ∷ frames) = behind (service_after s frame) frames

answered : (old : DeviceServiceValue) (frame : DeviceFrame) (new : DeviceServiceValue) (reply : List ℕ) → AnswersDevice old frame new reply →
    new ≡ service_after old frame
answered old frame new reply a =
    ap (λ (c : ℕ). record { child = c; device = new.device }) a.child ∙ ap (λ (d : Option OpenDevice). record { child = old.child; device = d }) a.device

runs_to : (first : DeviceServiceValue) (frames : List DeviceFrame) (old : DeviceServiceValue) (said : List ℕ) → Runs AnswersDevice first frames old said →
    old ≡ behind first frames
runs_to first [] old said runs = runs.0
runs_to first (frame ∷ frames) old said runs =
    runs_to runs.0 frames old runs.2 runs.4 ∙ ap (λ (s : DeviceServiceValue). behind s frames) (answered first frame runs.0 runs.1 runs.3)

says : (before : List DeviceFrame) (frame : DeviceFrame) (bytes : List ℕ) →
    reply_to (behind (new_device_service 2) before).child (behind (new_device_service 2) before).device frame ≡ bytes → DeviceSays before frame bytes
says before frame bytes is = record {
  any = λ old new said reply runs a.
      a.replied ∙ (ap (λ (s : DeviceServiceValue). reply_to s.child s.device frame) (runs_to (new_device_service 2) before old said runs) ∙ is);
}

-- before Hello it stays as it is
stays_closed : (frame : DeviceFrame) → (IsDeviceHello frame → ⊥) → device_after None frame ≡ None
stays_closed (to_device.Hello basis) others = absurd (others tt)
stays_closed (to_device.Offer form demand) others = refl
stays_closed (to_device.Kind named) others = refl
stays_closed to_device.Leave others = refl
stays_closed (to_device.Parent frame) others = refl
stays_closed (to_device.Resume stored) others = refl

-- a price of another basis is refused
refuses : (child : ℕ) (old : OpenDevice) (frame : DeviceFrame) (new : DeviceServiceValue) (reply : List ℕ) → IsOfOtherBasis old.basis frame →
    AnswersDevice (device_with child old) frame new reply → SaysOtherBasis reply frame × (new ≡ device_with child old)
refuses child old frame new reply other a =
    let says_so = device_says_other child old frame other in (
      subst (λ (l : List ℕ). SaysOtherBasis l frame) (sym a.replied) says_so.1,
      answered (device_with child old) frame new reply a ∙ ap (device_with child) says_so.0,
    )

-- the rows of a device
pub device_rows : DeviceRows
device_rows = record {
  before_hello = λ child' frame new reply a. (
    a.replied,
    λ others. answered (new_device_service child') frame new reply a
        ∙ ap (λ (d : Option OpenDevice). record { child = child'; device = d }) (stays_closed frame others),
  );
  other_basis = λ child' old sender number index step basis' new reply other a.
      refuses child' old (to_device.Parent (Price sender number index step basis')) new reply (of_another basis' old.basis other) a;
  offers = says _ _ _ refl;
  settles = says _ _ _ refl;
  dropped = says _ _ _ refl;
  not_kept = says _ _ _ refl;
  moved = says _ _ _ refl;
  let_go = says _ _ _ refl;
  leaves = says _ _ _ refl;
  bids_again = says _ _ _ refl;
  leaves_again = says _ _ _ refl;
  never_offered = says _ _ _ refl;
  window_full = says _ _ _ refl;
  no_offer_left = says _ _ _ refl;
  no_number_left = says _ _ _ refl;
}

-- the frames by their bytes
pub frame_rows : FrameRows
frame_rows = record {
  hello = refl;
  bid = refl;
  gone = refl;
  clear = refl;
  old = refl;
  send = refl;
  expire = refl;
  limits = refl;
  bound = refl;
  price = refl;
  offer = refl;
  leave = refl;
  kind = refl;
  state = λ state' demand. refl;
  points = λ demand. refl;
}
