-- How the program's work ends, whatever the command is. `old` and `new` are what the source had left before and after, `held` and `holds` what the
-- sink held; `rose_source` and `rose_sink` say that a fault of the source, or of the sink, was counted.
use Rattle.std.specs.Prelude.{◌≡◌, ◌≢◌, ℕ, ◌<◌, ◌≤◌, List, [], ◌++◌, length, Option, Some, None, IfSome}
use Rattle.pm_io.specs.Taken.{taken_bytes}
use Rattle.pm_plan.specs.Plans.{PlanData}
use Rattle.pm_plan.specs.declared.refusal.Refusal.{Refusal}
use Rattle.pm_report.specs.Refusal.{refusal_line}
use Rattle.pm_check.specs.Traces.{IsBadLine}
use Rattle.pm_answer.specs.declared.arguments.Command.{Command}
use Rattle.pm_answer.specs.declared.arguments.Command.TheVariants.{File, Demo, Serve}
use Rattle.pm_answer.specs.declared.arguments.FileCommand.{FileCommand}
use Rattle.pm_answer.specs.declared.arguments.FileCommand.TheVariants.{Check}
use Rattle.pm_answer.specs.declared.status.Status.{Status}
use Rattle.pm_answer.specs.declared.status.Status.TheVariants.{Done, Invalid, Usage, ReadFault, TooLong, Refused, WriteFault, NoMemory}
use Rattle.pm_answer.specs.Inputs.{input_limit, HasPlan, HasStatus, IsRefusalOf, report_of}
use Rattle.pm_answer.specs.Answers.{invalid_line}
use Rattle.pm_top.specs.Endings.{EndsUnlessUnwritten, EndsUnlessCutShort, EndsUnlessFailed, EndsUnlessNoMemory, WrotePartOfDue}

-- What a failure leaves in the sink, but for a service, which writes while it reads. `held` tells what a sink holds.
pub record FailsCleanly {K : Type 0} (held : K → Option (List ℕ)) (command : Option Command) (old new : Option (List ℕ)) (sink_old sink_new : K)
    (status : Status) : Type 0 where
  -- a fault of the source leaves it as it was
  pub unread : command ≢ Some Serve → status ≡ ReadFault → sink_new ≡ sink_old
  -- so does an allocation failure
  pub no_memory : command ≢ Some Serve → status ≡ NoMemory → sink_new ≡ sink_old
  -- and a fault of the sink leaves a part of the text due
  pub cut_short : command ≢ Some Serve → status ≡ WriteFault → WrotePartOfDue command old new (held sink_old) (held sink_new)

-- where the cause of Usage, TooLong, Refused or Invalid stands, and the source tells what it has, this is the answer, unless something failed
pub record EndsByCause (command : Option Command) (old new held holds : Option (List ℕ)) (status : Status) : Type 0 where
  -- the arguments are no command
  pub only_usage : command ≡ None → EndsUnlessUnwritten Usage status
  -- of the input of a command more than its limit was taken
  pub took_more : (asked : FileCommand) → command ≡ Some (File asked) → input_limit asked < length (taken_bytes old new) →
      EndsUnlessCutShort TooLong status
  -- an input has this status
  pub answer : (asked : FileCommand) → command ≡ Some (File asked) →
      IfSome old (λ input. (due : Status) → HasStatus asked input due → EndsUnlessFailed due status)
  -- an input has a refusal, and the sink grew by the whole line of it: then nothing failed
  pub exact_refused : (asked : FileCommand) (input before : List ℕ) (r : Refusal) → command ≡ Some (File asked) →
      length input ≤ input_limit asked → IsRefusalOf asked input r →
      old ≡ Some input → new ≡ Some [] → held ≡ Some before → holds ≡ Some (before ++ refusal_line r) → status ≡ Refused
  -- a trace has a bad line, and the sink grew by the whole line that tells it: then nothing failed
  pub exact_invalid : (plan : PlanData) (input trace before : List ℕ) (line : ℕ) → command ≡ Some (File Check) →
      length input ≤ input_limit Check → HasPlan Check input plan trace → IsBadLine plan (report_of plan) trace line →
      old ≡ Some input → new ≡ Some [] → held ≡ Some before → holds ≡ Some (before ++ invalid_line line) → status ≡ Invalid

-- with no fault counted the answer is what the arguments and the input say, or an allocation failed
pub record EndsWithoutFault (command : Option Command) (old : Option (List ℕ)) (rose_source rose_sink : Type 0) (status : Status) : Type 0 where
  -- the arguments are no command
  pub complete_usage : command ≡ None → ¬ rose_sink → status ≡ Usage
  -- an input has this status
  pub complete : (asked : FileCommand) → command ≡ Some (File asked) →
      IfSome old (λ input. (due : Status) → HasStatus asked input due → ¬ rose_source → ¬ rose_sink → EndsUnlessNoMemory due status)
  -- a demo
  pub complete_demo : (size number : ℕ) → command ≡ Some (Demo size number) → ¬ rose_sink → EndsUnlessNoMemory Done status
