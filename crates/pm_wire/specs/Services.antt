-- What a service over a stream reads and writes, by how it ends, whatever its frames and its answers are. `old` and `new` are what the
-- source had left before and after, `held` and `holds` what the sink held. `Answer frames reply` says that these bytes answer these frames.
use Rattle.std.specs.Prelude.{◌≡◌, ◌≢◌, ◌⊎◌, ℕ, ◌<◌, ◌≤◌, List, [], ◌∷◌, ◌++◌, length, take, Option, Some}
use Rattle.std.specs.Int.{w64, to_be_bytes}
use Rattle.std.specs.Io.KnownBytes.{Appends, Consumes, IsAtEnd}
use Rattle.pm_wire.specs.Kinds.{fault_kind}
use Rattle.pm_wire.specs.Framing.{Framing, place_behind, stream_bytes, IsUnfinished, BeginsBadly, BeginsWith, AreFrames, HasFrames}
use Rattle.pm_wire.specs.Decoding.{Decoding}
use Rattle.pm_wire.specs.Taking.{AreBehind}
use Rattle.pm_wire.specs.declared.stream.Served.{Served}
use Rattle.pm_wire.specs.declared.stream.Served.TheVariants.{Done, Refused, TooLong, ReadFault, WriteFault, NoMemory}

-- the most bytes of an input
abbrev pub stream_limit : ℕ
stream_limit = 1073741824

-- the last answer where a frame is bad: its kind, and the offset of the frame
abbrev pub fault_bytes : ℕ → List ℕ
fault_bytes offset = fault_kind ∷ to_be_bytes w64 offset

-- ---- what is due

-- the bytes taken are all that the source had, no more than the limit, and end within a frame
pub record EndsInside {P F : Type 0} (framing : Framing P F) (new : Option (List ℕ)) (bytes : List ℕ) (place : P) (rest : List ℕ) : Type 0 where
  pub at_end : IsAtEnd new
  pub short : length bytes ≤ stream_limit
  pub some : rest ≢ []
  pub unfinished : IsUnfinished framing place rest

-- a bad frame stands behind these frames in the bytes taken, or they end within one and are all that the source had
pub record HasFault {P F : Type 0} (framing : Framing P F) (start : P) (new : Option (List ℕ)) (bytes : List ℕ) (frames : List F) : Type 0 where
  pub rest : List ℕ
  pub begins : BeginsWith framing start bytes frames rest
  pub bad : BeginsBadly framing (place_behind framing start frames) rest
      ⊎ EndsInside framing new bytes (place_behind framing start frames) rest

-- the bytes answer the frames, and tell the fault of the frame that comes next
pub record AnswersAndFault {P F : Type 0} (framing : Framing P F) (Answer : List F → List ℕ → Type 0) (frames : List F) (due : List ℕ) : Type 0 where
  pub reply : List ℕ
  pub answers : Answer frames reply
  pub spelled : due ≡ reply ++ fault_bytes (length (stream_bytes framing frames))

-- what is due for the bytes taken: the answers to their frames, and a fault where there is one
pub data IsReplyDue {P F : Type 0} (framing : Framing P F) (start : P) (Answer : List F → List ℕ → Type 0) (new : Option (List ℕ)) (bytes : List ℕ) :
    List ℕ → Type 0 where
  answered : (frames : List F) (reply : List ℕ) → HasFrames framing start bytes frames → Answer frames reply →
      IsReplyDue framing start Answer new bytes reply
  refused : (frames : List F) (due : List ℕ) → HasFault framing start new bytes frames → AnswersAndFault framing Answer frames due →
      IsReplyDue framing start Answer new bytes due

-- ---- how a service ends

-- Done: the input was read to its end and is a list of frames
pub record IsDone {P F : Type 0} (framing : Framing P F) (start : P) (Answer : List F → List ℕ → Type 0) (old new held holds : Option (List ℕ)) :
    Type 0 where
  pub input : List ℕ
  pub frames : List F
  pub reply : List ℕ
  pub consumes : Consumes old new input
  pub at_end : IsAtEnd new
  pub short : length input ≤ stream_limit
  pub are_frames : AreFrames framing start input frames
  pub answers : Answer frames reply
  pub appends : Appends held holds reply

-- Refused: the bytes taken have a bad frame, or the input was read to its end and ends within one
pub record IsRefused {P F : Type 0} (framing : Framing P F) (start : P) (Answer : List F → List ℕ → Type 0) (old new held holds : Option (List ℕ)) :
    Type 0 where
  pub input : List ℕ
  pub frames : List F
  pub due : List ℕ
  pub consumes : Consumes old new input
  pub fault : HasFault framing start new input frames
  pub answers : AnswersAndFault framing Answer frames due
  pub appends : Appends held holds due

-- all whole frames of the bytes taken were answered, and no bad frame shows in them: so it is where the source failed
pub record IsAnswered {P F : Type 0} (framing : Framing P F) (start : P) (Answer : List F → List ℕ → Type 0) (old new held holds : Option (List ℕ))
    (input : List ℕ) : Type 0 where
  pub frames : List F
  pub reply : List ℕ
  pub consumes : Consumes old new input
  pub has : HasFrames framing start input frames
  pub answers : Answer frames reply
  pub appends : Appends held holds reply

-- ReadFault: so it is with the bytes that were taken
abbrev pub FailsReading : {P F : Type 0} → Framing P F → P → (List F → List ℕ → Type 0) → Option (List ℕ) → Option (List ℕ) → Option
    (List ℕ) →
    Option (List ℕ) → Type 0
FailsReading framing start Answer old new held holds =
    (input : List ℕ) × IsAnswered framing start Answer old new held holds input × (length input ≤ stream_limit)

-- TooLong: more bytes than the limit were taken
pub record IsLongStream {P F : Type 0} (framing : Framing P F) (start : P) (Answer : List F → List ℕ → Type 0)
    (old new held holds : Option (List ℕ)) : Type 0 where
  pub input : List ℕ
  pub answered : IsAnswered framing start Answer old new held holds input
  pub long : stream_limit < length input

-- a proper prefix of what is due for the bytes taken was appended: so it is where the sink failed
pub record IsCutShort {P F : Type 0} (framing : Framing P F) (start : P) (Answer : List F → List ℕ → Type 0)
    (old new held holds : Option (List ℕ)) : Type 0 where
  pub input : List ℕ
  pub due : List ℕ
  pub written : ℕ
  pub consumes : Consumes old new input
  pub is_due : IsReplyDue framing start Answer new input due
  pub proper : written < length due
  pub appends : Appends held holds (take written due)

-- the first frames of the bytes taken were answered: so it is where an allocation failed
pub record IsBegun {P F : Type 0} (framing : Framing P F) (start : P) (Answer : List F → List ℕ → Type 0)
    (old new held holds : Option (List ℕ)) : Type 0 where
  pub input : List ℕ
  pub frames : List F
  pub rest : List ℕ
  pub reply : List ℕ
  pub consumes : Consumes old new input
  pub begins : BeginsWith framing start input frames rest
  pub answers : Answer frames reply
  pub appends : Appends held holds reply

-- Done or Refused: the service answered its input to the end, or to a fault
abbrev pub EndsWhole : {P F : Type 0} → Framing P F → P → (List F → List ℕ → Type 0) → Option (List ℕ) → Option (List ℕ) → Option
    (List ℕ) →
    Option (List ℕ) → Type 0
EndsWhole framing start Answer old new held holds =
    IsDone framing start Answer old new held holds ⊎ IsRefused framing start Answer old new held holds

-- one sink holds the answers to the first frames of the input behind `held`, and the other the same and more
pub record HoldsFirstAnswers {P F : Type 0} (framing : Framing P F) (start : P) (Answer : List F → List ℕ → Type 0) (all held : List ℕ)
    (holds kept : Option (List ℕ)) : Type 0 where
  pub frames : List F
  pub rest : List ℕ
  pub reply : List ℕ
  pub more : List ℕ
  pub begins : BeginsWith framing start all frames rest
  pub answers : Answer frames reply
  pub first : holds ≡ Some (held ++ reply)
  pub whole : kept ≡ Some (held ++ (reply ++ more))

-- one sink holds bytes behind `held`, and the other the same bytes and at least one more
pub record HoldsLess (held : List ℕ) (holds kept : Option (List ℕ)) : Type 0 where
  pub written : List ℕ
  pub more : List ℕ
  pub some : more ≢ []
  pub first : holds ≡ Some (held ++ written)
  pub whole : kept ≡ Some (held ++ (written ++ more))

-- the frames before this offset were answered, and the fault that was told has it
pub record TellsFault {P F : Type 0} (framing : Framing P F) (start : P) (Answer : List F → List ℕ → Type 0) (all : List ℕ)
    (held holds : Option (List ℕ)) (offset : ℕ) : Type 0 where
  pub frames : List F
  pub rest : List ℕ
  pub reply : List ℕ
  pub begins : BeginsWith framing start all frames rest
  pub before : offset ≡ length (stream_bytes framing frames)
  pub answers : Answer frames reply
  pub appends : Appends held holds (reply ++ fault_bytes offset)

-- frames have one answer, and the answer to more frames goes on from it
pub record HaveOneAnswer {F : Type 0} (Answer : List F → List ℕ → Type 0) : Type 0 where
  pub one : (frames : List F) (reply other : List ℕ) → Answer frames reply → Answer frames other → reply ≡ other
  pub goes_on : (frames more : List F) (reply other : List ℕ) → Answer frames reply → Answer (frames ++ more) other →
      (behind : List ℕ) × (other ≡ reply ++ behind)

-- what is known of the reads and writes of a service that ended in this way; `rose_source` and `rose_sink` say that a fault of
-- the source, or of the sink, was counted
abbrev pub EndsSo : {P F : Type 0} → Framing P F → P → (List F → List ℕ → Type 0) → (old new held holds : Option (List ℕ))
    (rose_source rose_sink : Type 0) →
    Served → Type 0
EndsSo framing start Answer old new held holds rose_source rose_sink Done = IsDone framing start Answer old new held holds
EndsSo framing start Answer old new held holds rose_source rose_sink Refused = IsRefused framing start Answer old new held holds
EndsSo framing start Answer old new held holds rose_source rose_sink TooLong = IsLongStream framing start Answer old new held holds
EndsSo framing start Answer old new held holds rose_source rose_sink ReadFault = rose_source × FailsReading framing start Answer old new held holds
EndsSo framing start Answer old new held holds rose_source rose_sink WriteFault = rose_sink × IsCutShort framing start Answer old new held holds
EndsSo framing start Answer old new held holds rose_source rose_sink NoMemory = IsBegun framing start Answer old new held holds

-- ---- on the way

-- So far: the bytes taken were fed and counted, all their whole frames were answered, and no bad frame shows.
pub record Serving {P F S : Type 0} (framing : Framing P F) (start : P) (Answers : S → F → S → List ℕ → Type 0) (state : S)
    (old new held holds : Option (List ℕ)) (decoding : Decoding P) (after : S) (count : ℕ) : Type 0 where
  pub input : List ℕ
  pub frames : List F
  pub reply : List ℕ
  pub consumes : Consumes old new input
  pub counted : count ≡ length input
  pub follows : AreBehind framing start Answers state input frames decoding after reply
  pub unfinished : IsUnfinished framing decoding.place decoding.rest
  pub appends : Appends held holds reply
