-- How a service of a stream ends by what its source had, where the source tells that. `old` and `new` are what the source had left before and
-- after, `held` and `holds` what the sink held; `rose_source` and `rose_sink` say that a fault of the source, or of the sink, was counted.
use Rattle.std.specs.Prelude.{◌≡◌, ◌⊎◌, ℕ, ◌<◌, ◌≤◌, List, length, Option}
use Rattle.pm_io.specs.Taken.{taken_bytes}
use Rattle.pm_wire.specs.Framing.{Framing, AreFrames, HasBadFrame, EndsWithin}
use Rattle.pm_wire.specs.Services.{stream_limit, TellsFault}
use Rattle.pm_wire.specs.declared.stream.Served.{Served}
use Rattle.pm_wire.specs.declared.stream.Served.TheVariants.{Done, Refused, TooLong, ReadFault, WriteFault, NoMemory}

-- how it ends by what the source had, where the source tells that
pub record EndsAsDue {P F : Type 0} (framing : Framing P F) (start : P) (Answer : List F → List ℕ → Type 0) (all : List ℕ)
    (old new held holds : Option (List ℕ)) (rose_source rose_sink : Type 0) (served : Served) : Type 0 where
  -- a bad frame stands in the bytes taken
  pub bad_frame : (offset : ℕ) → HasBadFrame framing start (taken_bytes old new) offset →
      (served ≡ Refused) ⊎ (served ≡ WriteFault) ⊎ (served ≡ NoMemory)
  -- they are too many, and no bad frame stands in them
  pub took_more : stream_limit < length (taken_bytes old new) → ((offset : ℕ) → ¬ HasBadFrame framing start (taken_bytes old new) offset) →
      (served ≡ TooLong) ⊎ (served ≡ WriteFault) ⊎ (served ≡ NoMemory)
  -- an input within the limit is a list of frames
  pub frames : (frames : List F) → length all ≤ stream_limit → AreFrames framing start all frames →
      (served ≡ Done) ⊎ (served ≡ ReadFault) ⊎ (served ≡ WriteFault) ⊎ (served ≡ NoMemory)
  -- or has a bad frame, or ends within one
  pub refusal : (offset : ℕ) → length all ≤ stream_limit → HasBadFrame framing start all offset ⊎ EndsWithin framing start all offset →
      (served ≡ Refused) ⊎ (served ≡ ReadFault) ⊎ (served ≡ WriteFault) ⊎ (served ≡ NoMemory)
  -- and no fault was counted
  pub complete : length all ≤ stream_limit → ¬ rose_source → ¬ rose_sink → (served ≡ Done) ⊎ (served ≡ Refused) ⊎ (served ≡ NoMemory)
  -- the fault that is told has the offset of the bad frame, or of the one within which the input ends
  pub fault : (offset : ℕ) → served ≡ Refused → HasBadFrame framing start all offset ⊎ EndsWithin framing start all offset →
      TellsFault framing start Answer all held holds offset
