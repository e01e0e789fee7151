-- A process of a node, as who moves its bytes sees it at any moment, its end included: the bytes that it took, and those that it wrote.
use Rattle.std.specs.Prelude.{◌≡◌, ◌⊎◌, ℕ, List, [], ◌++◌, take, Option, None}
use Rattle.pm_basis.specs.Prices.{BasisValue}
use Rattle.pm_wire.specs.Framing.{Framing, Stops}
use Rattle.pm_wire.specs.Taking.{AnswersFrom}
use Rattle.pm_wire.specs.Services.{IsReplyDue}
use Rattle.pm_frames.specs.declared.terms.RelayTerms.{RelayTerms}
use Rattle.pm_frames.specs.declared.place.NodePlace.{NodePlace}
use Rattle.pm_frames.specs.declared.place.RelayPlace.{RelayPlace}
use Rattle.pm_frames.specs.declared.place.Stage.TheVariants.{Start}
use Rattle.pm_frames.specs.RelayFrames.{relay_framing}
use Rattle.pm_frames.specs.RootFrames.{root_framing}
use Rattle.pm_frames.specs.DeviceFrames.{device_framing}
use Rattle.pm_services.specs.RelayAnswers.{RelayServiceValue, AnswersRelay}
use Rattle.pm_services.specs.RootAnswers.{AnswersRoot}
use Rattle.pm_services.specs.DeviceAnswers.{DeviceServiceValue, AnswersDevice}
use Rattle.pm_services.specs.Outputs.{Output, outputs_bytes}
use Rattle.pm_lives.specs.Cutting.{IsCutStream}

-- What was written is a beginning of what is due for the bytes that were taken. `left` is what was left to be taken.
pub record IsProcess {P F : Type 0} (framing : Framing P F) (start : P) (Answer : List F → List ℕ → Type 0) (took wrote : List ℕ) : Type 0 where
  pub left : Option (List ℕ)
  pub due : List ℕ
  pub more : List ℕ
  pub is_due : IsReplyDue framing start Answer left took due
  pub spelled : due ≡ wrote ++ more

-- ---- a node at the start of its stream; of a device no kind was named

abbrev pub stream_start : ℕ → NodePlace
stream_start child' = record { child = child'; stage = Start; kind = None }

abbrev pub relay_start : ℕ → RelayTerms → RelayPlace
relay_start child' terms' = record { child = child'; terms = terms'; stage = Start }

abbrev pub new_relay_service : ℕ → RelayTerms → RelayServiceValue
new_relay_service child' terms' = record { child = child'; terms = terms'; relay = None }

abbrev pub new_device_service : ℕ → DeviceServiceValue
new_device_service child' = record { child = child'; device = None }

-- ---- the processes of `live`

abbrev pub IsRelayProcess : ℕ → RelayTerms → (took wrote : List ℕ) → Type 0
IsRelayProcess child terms took wrote =
    IsProcess relay_framing (relay_start child terms) (AnswersFrom AnswersRelay (new_relay_service child terms)) took wrote

abbrev pub IsRootProcess : (took wrote : List ℕ) → Type 0
IsRootProcess took wrote = IsProcess root_framing Start (AnswersFrom AnswersRoot None) took wrote

abbrev pub IsDeviceProcess : ℕ → (took wrote : List ℕ) → Type 0
IsDeviceProcess child took wrote =
    IsProcess device_framing (stream_start child) (AnswersFrom AnswersDevice (new_device_service child)) took wrote

-- ---- what a process wrote, frame by frame

-- The bytes written are the first ones of these frames; or all of these frames, and some bytes of a fault behind them.
pub record Wrote {K : Type 0} (kept : K → List ℕ) (basis : BasisValue) (child : ℕ) (outs : List (Output K)) (wrote : List ℕ) : Type 0 where
  pub many : ℕ
  -- of the frames in these bytes so many are whole
  pub cut : IsCutStream kept basis child outs many
  pub beyond : List ℕ
  pub wrote_is : wrote ≡ take many (outputs_bytes kept basis child outs) ++ beyond
  pub at_end : (beyond ≡ []) ⊎ (take many (outputs_bytes kept basis child outs) ≡ outputs_bytes kept basis child outs)

-- no frame in the bytes taken is whole, or the first one is bad
abbrev pub HasNoFrame : {P F : Type 0} → Framing P F → P → List ℕ → Type 0
HasNoFrame framing start took = Stops framing start took
