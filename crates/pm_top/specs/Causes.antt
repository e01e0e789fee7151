-- What a text that is due says of its cause, by its status, for the statuses that no text of the market has.
use Rattle.std.specs.Prelude.{◌≡◌, ℕ, ◌<◌, ◌⊎◌, List, length, Option, Some, None}
use Rattle.std.specs.Io.KnownBytes.{Consumes, IsAtEnd}
use Rattle.pm_wire.specs.Services.{stream_limit, HasFault}
use Rattle.pm_wire.specs.Answers.{replies, replies_and_fault}
use Rattle.pm_wire.specs.Frames.{bid_framing, AreFrames}
use Rattle.pm_wire.specs.declared.frame.Frame.{Frame}
use Rattle.pm_answer.specs.declared.arguments.Command.{Command}
use Rattle.pm_answer.specs.declared.arguments.Command.TheVariants.{File, Serve}
use Rattle.pm_answer.specs.declared.arguments.FileCommand.{FileCommand}
use Rattle.pm_answer.specs.Inputs.{input_limit}
use Rattle.pm_headline.specs.Promises.{RefusesInput}
use Rattle.pm_top.specs.Top.{too_long_line}

-- a source that tells what it has had more bytes than a command takes, and the line says so; a stream had more than a service takes
pub record WasTooLong (command : Option Command) (input : List ℕ) (text : List ℕ) : Type 0 where
  pub file_or_stream : ((asked : FileCommand) × ((command ≡ Some (File asked)) × ((input_limit asked < length input) × (text ≡ too_long_line asked))))
      ⊎ ((command ≡ Some Serve) × (stream_limit < length input))

-- an input was refused, or a stream has a bad frame
pub record WasRefused (command : Option Command) (old new : Option (List ℕ)) (text : List ℕ) : Type 0 where
  pub file_or_stream : ((asked : FileCommand) × ((command ≡ Some (File asked)) × RefusesInput asked old new text))
      ⊎ ((command ≡ Some Serve)
      × ((frames : List Frame) × ((input : List ℕ) × (Consumes old new input × HasFault bid_framing None new input frames
      × (text ≡ replies_and_fault frames)))))

-- a stream was served to its end: it is these frames, and the text answers them
pub record WasServed (old new : Option (List ℕ)) (text : List ℕ) : Type 0 where
  pub frames : List Frame
  pub input : List ℕ
  pub consumed : Consumes old new input
  pub at_end : IsAtEnd new
  pub are_frames : AreFrames input frames
  pub written : text ≡ replies frames
