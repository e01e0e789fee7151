-- What a run of the program's work reads and writes, by its status.
use Rattle.std.specs.Prelude.{◌≡◌, ℕ, ◌<◌, ◌≤◌, List, codes, length, take, Option, Some, None}
use Rattle.std.specs.Io.KnownBytes.{Appends, Consumes, IsAtEnd}
use Rattle.pm_io.specs.Taken.{TookMore}
use Rattle.pm_wire.specs.Services.{stream_limit, HasFault}
use Rattle.pm_wire.specs.Answers.{replies, replies_and_fault}
use Rattle.pm_wire.specs.Framing.{HasFrames}
use Rattle.pm_wire.specs.Frames.{bid_framing, AreFrames}
use Rattle.pm_wire.specs.declared.frame.Frame.{Frame}
use Rattle.pm_answer.specs.declared.arguments.Command.{Command}
use Rattle.pm_answer.specs.declared.arguments.Command.TheVariants.{File, Demo, Serve}
use Rattle.pm_answer.specs.declared.arguments.FileCommand.{FileCommand}
use Rattle.pm_answer.specs.declared.arguments.FileCommand.TheVariants.{Run, Trace, Check, Bill, Ask, Free}
use Rattle.pm_answer.specs.declared.status.Status.{Status}
use Rattle.pm_answer.specs.declared.status.Status.TheVariants.{Done, Usage, TooLong, Refused}
use Rattle.pm_answer.specs.Inputs.{input_limit}
use Rattle.pm_answer.specs.Answers.{IsAnswer, IsSummary}

abbrev pub usage_line : List ℕ
usage_line = codes "usage: market run | market trace | market demo SIZE NUMBER | market check | market bill | market serve | market ask | market free\n"

-- the line of an input that has more bytes than its command's limit
abbrev pub too_long_line : FileCommand → List ℕ
too_long_line Run = codes "too long, more than 4194304 bytes\n"
too_long_line Trace = codes "too long, more than 4194304 bytes\n"
too_long_line Check = codes "too long, more than 536870912 bytes\n"
too_long_line Bill = codes "too long, more than 4194304 bytes\n"
too_long_line Ask = codes "too long, more than 8388608 bytes\n"
too_long_line Free = codes "too long, more than 4194304 bytes\n"

-- ---- the causes of the statuses that write a text; `old` and `new` are what the source had left before and after

-- Usage: the arguments are no command
abbrev pub IsNoCommand : Option Command → Type 0
IsNoCommand command = command ≡ None

-- TooLong: of the input of a command more than its limit was taken
pub record IsTooLong (command : Option Command) (asked : FileCommand) (old new : Option (List ℕ)) : Type 0 where
  pub asks : command ≡ Some (File asked)
  pub took : TookMore old new (input_limit asked)

-- an input was read to its end, and this is what it had
pub record IsRead (command : Option Command) (asked : FileCommand) (old new : Option (List ℕ)) (input : List ℕ) : Type 0 where
  pub asks : command ≡ Some (File asked)
  pub consumes : Consumes old new input
  pub at_end : IsAtEnd new
  pub short : length input ≤ input_limit asked

-- a status is due with a text if its cause holds
pub data IsDue (command : Option Command) (old new : Option (List ℕ)) : Status → List ℕ → Type 0 where
  usage : IsNoCommand command → IsDue command old new Usage usage_line
  too_long : (asked : FileCommand) → IsTooLong command asked old new → IsDue command old new TooLong (too_long_line asked)
  answered : (asked : FileCommand) (input : List ℕ) (status : Status) (text : List ℕ) → IsRead command asked old new input →
      IsAnswer asked input status text → IsDue command old new status text
  summary : (size number : ℕ) (text : List ℕ) → command ≡ Some (Demo size number) → IsSummary size number text → IsDue command old new Done text
  -- of a service: the answers to all frames of the input; to those before a bad one, and its fault; to those of too many bytes
  served : (frames : List Frame) (input : List ℕ) → command ≡ Some Serve → Consumes old new input → IsAtEnd new → AreFrames input frames →
      IsDue command old new Done (replies frames)
  served_fault : (frames : List Frame) (input : List ℕ) → command ≡ Some Serve → Consumes old new input →
      HasFault bid_framing None new input frames → IsDue command old new Refused (replies_and_fault frames)
  served_long : (frames : List Frame) (input : List ℕ) → command ≡ Some Serve → Consumes old new input →
      HasFrames bid_framing None input frames → stream_limit < length input → IsDue command old new TooLong (replies frames)

-- a prefix of the text was written, and not all of it
abbrev pub WrotePrefix : Option (List ℕ) → Option (List ℕ) → List ℕ → Type 0
WrotePrefix old new text = (n : ℕ) × (n < length text) × Appends old new (take n text)
