-- A text that is due has its cause.
use Rattle.std.proofs.Common.{◌≡◌, ◌≢◌, ◌∙◌, sym, ap, refl, inl, inr, ℕ, ◌<◌, List, length, Option, Some, None, arith}
use Rattle.std.proofs.lemmas.List.{length-append}
use Rattle.std.specs.Io.KnownBytes.{Consumes}
use Rattle.pm_wire.specs.Services.{stream_limit}
use Rattle.pm_answer.specs.declared.arguments.Command.{Command}
use Rattle.pm_answer.specs.declared.arguments.Command.TheVariants.{File, Serve}
use Rattle.pm_answer.specs.declared.status.Status.{Status}
use Rattle.pm_answer.specs.declared.status.Status.TheVariants.{Done, Usage, TooLong, Refused, ReadFault, WriteFault, NoMemory}
use Rattle.pm_answer.specs.Answers.{IsAnswer, refused, planned, valid, invalid}
use Rattle.pm_answer.specs.declared.arguments.FileCommand.{FileCommand}
use Rattle.pm_headline.proofs.Headline.{answer_refuses}
use Rattle.pm_top.specs.Top.{usage_line, IsDue, usage, too_long, answered, summary, served, served_fault, served_long}
use Rattle.pm_top.specs.Causes.{WasTooLong, WasRefused, WasServed}
use Rattle.pm_top.proofs.Due.{long_input}

-- an answer never has one of these statuses
answer_is : (asked : FileCommand) (input : List ℕ) (status : Status) (text : List ℕ) → IsAnswer asked input status text →
    (status ≢ Usage) × (status ≢ TooLong) × (status ≢ ReadFault) × (status ≢ WriteFault) × (status ≢ NoMemory)
answer_is asked input status text (refused refusal is) = (λ e. cc e, λ e. cc e, λ e. cc e, λ e. cc e, λ e. cc e)
answer_is asked input status text (planned plan rest targets t has are text_is) = (λ e. cc e, λ e. cc e, λ e. cc e, λ e. cc e, λ e. cc e)
answer_is asked input status text (valid plan rest moves asks has is) = (λ e. cc e, λ e. cc e, λ e. cc e, λ e. cc e, λ e. cc e)
answer_is asked input status text (invalid plan rest line asks has is) = (λ e. cc e, λ e. cc e, λ e. cc e, λ e. cc e, λ e. cc e)

-- the usage line is due where the arguments are no command
pub usage_has_cause : (command : Option Command) (old new : Option (List ℕ)) (status : Status) (text : List ℕ) → status ≡ Usage →
    IsDue command old new status text → (command ≡ None) × (text ≡ usage_line)
usage_has_cause command old new status text is_status (usage is) = (is, refl)
usage_has_cause command old new status text is_status (too_long asked is) = absurd (cc is_status)
usage_has_cause command old new status text is_status (answered asked input status' text' read answer) =
    absurd ((answer_is asked input status' text' answer).0 is_status)
usage_has_cause command old new status text is_status (summary size number written asks is) = absurd (cc is_status)
usage_has_cause command old new status text is_status (served frames input asks all end are) = absurd (cc is_status)
usage_has_cause command old new status text is_status (served_fault frames input asks all fault) = absurd (cc is_status)
usage_has_cause command old new status text is_status (served_long frames input asks all has long) = absurd (cc is_status)

-- bytes that were taken are no more than the source had
taken_within : (input : List ℕ) (new : Option (List ℕ)) (bytes : List ℕ) (limit : ℕ) → Consumes (Some input) new bytes → limit < length bytes →
    limit < length input
taken_within input None bytes limit all long = absurd all
taken_within input (Some left) bytes limit all long = omega (arith, long, ap length all, length-append bytes left)

-- the line of a long input is due where the source, which tells what it has, had too much
pub too_long_has_cause : (command : Option Command) (input : List ℕ) (new : Option (List ℕ)) (status : Status) (text : List ℕ) → status ≡ TooLong →
    IsDue command (Some input) new status text → WasTooLong command input text
too_long_has_cause command input new status text long (usage is) = absurd (cc long)
too_long_has_cause command input new status text long (too_long asked is) =
    record { file_or_stream = inl (asked, (is.asks, (long_input input new _ is.took, refl))) }
too_long_has_cause command input new status text long (answered asked bytes status' text' read answer) =
    absurd ((answer_is asked bytes status' text' answer).1 long)
too_long_has_cause command input new status text long (summary size number written asks is) = absurd (cc long)
too_long_has_cause command input new status text long (served frames bytes asks all end are) = absurd (cc long)
too_long_has_cause command input new status text long (served_fault frames bytes asks all fault) = absurd (cc long)
too_long_has_cause command input new status text long (served_long frames bytes asks all has more) =
    record { file_or_stream = inr (asks, taken_within input new bytes stream_limit all more) }

-- a refusal is due where the input is refused, or the stream has a fault
pub refused_has_cause : (command : Option Command) (old new : Option (List ℕ)) (status : Status) (text : List ℕ) → status ≡ Refused →
    IsDue command old new status text → WasRefused command old new text
refused_has_cause command old new status text is_status (usage is) = absurd (cc is_status)
refused_has_cause command old new status text is_status (too_long asked is) = absurd (cc is_status)
refused_has_cause command old new status text is_status (answered asked input status' text' read answer) =
    record {
      file_or_stream = inl (
        asked,
        (
          read.asks,
          answer_refuses old new input read.consumes read.at_end asked read.short status' text' is_status answer,
        ),
      );
    }
refused_has_cause command old new status text is_status (summary size number written asks is) = absurd (cc is_status)
refused_has_cause command old new status text is_status (served frames input asks all end are) = absurd (cc is_status)
refused_has_cause command old new status text is_status (served_fault frames input asks all fault) =
    record { file_or_stream = inr (asks, (frames, (input, (all, fault, refl)))) }
refused_has_cause command old new status text is_status (served_long frames input asks all has long) = absurd (cc is_status)

-- of a service Done is due where the input is a list of frames, which the text answers
pub served_has_cause : (command : Option Command) (old new : Option (List ℕ)) (status : Status) (text : List ℕ) → command ≡ Some Serve →
    status ≡ Done → IsDue command old new status text → WasServed old new text
served_has_cause command old new status text serves done (usage is) = absurd (cc done)
served_has_cause command old new status text serves done (too_long asked is) = absurd (cc done)
served_has_cause command old new status text serves done (answered asked input status' text' read answer) =
    let both : Some Serve ≡ Some (File asked) = sym serves ∙ read.asks in absurd (cc both)
served_has_cause command old new status text serves done (summary size number written asks is) = absurd (cc (sym serves ∙ asks))
served_has_cause command old new status text serves done (served frames input asks all end are) =
    record { frames = frames; input = input; consumed = all; at_end = end; are_frames = are; written = refl }
served_has_cause command old new status text serves done (served_fault frames input asks all fault) = absurd (cc done)
served_has_cause command old new status text serves done (served_long frames input asks all has long) = absurd (cc done)

-- no text is due with the status of a fault or of want of memory
pub no_other_status : (command : Option Command) (old new : Option (List ℕ)) (status : Status) (text : List ℕ) → IsDue command old new status text →
    (status ≢ ReadFault) × (status ≢ WriteFault) × (status ≢ NoMemory)
no_other_status command old new status text (usage is) = (λ e. cc e, λ e. cc e, λ e. cc e)
no_other_status command old new status text (too_long asked is) = (λ e. cc e, λ e. cc e, λ e. cc e)
no_other_status command old new status text (answered asked input status' text' read answer) =
    let never = answer_is asked input status' text' answer in (never.2, never.3, never.4)
no_other_status command old new status text (summary size number written asks is) = (λ e. cc e, λ e. cc e, λ e. cc e)
no_other_status command old new status text (served frames input asks all end are) = (λ e. cc e, λ e. cc e, λ e. cc e)
no_other_status command old new status text (served_fault frames input asks all fault) = (λ e. cc e, λ e. cc e, λ e. cc e)
no_other_status command old new status text (served_long frames input asks all has long) = (λ e. cc e, λ e. cc e, λ e. cc e)
