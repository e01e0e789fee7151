-- How a service of a stream of bids ends, as a status of the program.
use Rattle.std.specs.Prelude.{◌≡◌, ℕ, List, Option, Some, None}
use Rattle.pm_wire.specs.Frames.{bid_framing}
use Rattle.pm_wire.specs.Answers.{AreReplies}
use Rattle.pm_wire.specs.Services.{EndsSo}
use Rattle.pm_wire.specs.Due.{EndsAsDue}
use Rattle.pm_wire.specs.declared.stream.Served.{Served}
use Rattle.pm_wire.specs.declared.stream.Served.TheVariants.{Done, Refused, TooLong, ReadFault, WriteFault, NoMemory}
use Rattle.pm_answer.specs.declared.status.Status.{Status}
use Rattle.pm_answer.specs.declared.status.Status.TheVariants as status

-- each way in which a service ends has the status of its name
abbrev pub service_status : Served → Status
service_status Done = status.Done
service_status Refused = status.Refused
service_status TooLong = status.TooLong
service_status ReadFault = status.ReadFault
service_status WriteFault = status.WriteFault
service_status NoMemory = status.NoMemory

-- A stream of bids was served. `old` and `new` are what the source had left before and after, `held` and `holds` what the sink held;
-- `rose_source` and `rose_sink` say that a fault of the source, or of the sink, was counted.
pub record ServesBids (old new held holds : Option (List ℕ)) (rose_source rose_sink : Type 0) (status : Status) : Type 0 where
  -- how it ended, of which this is the status
  pub served : Served
  pub told : status ≡ service_status served
  -- what was read and appended by that
  pub ends : EndsSo bid_framing None AreReplies old new held holds rose_source rose_sink served
  -- which end that is follows from what the source had, where it tells that, but for a failure
  pub due : (all : List ℕ) → old ≡ Some all → EndsAsDue bid_framing None AreReplies all old new held holds rose_source rose_sink served
