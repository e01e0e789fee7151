-- What is given for an input is due, with the status for it.
use Rattle.std.proofs.Common.{◌≡◌, ◌≢◌, ◌∙◌, ℕ, ◌-◌, ◌<◌, ◌≤◌, List, ◌++◌, length, Option, Some, None, IfSome}
use Rattle.std.proofs.Common.{sym, ap, subst, inl, inr, arith, append-nil}
use Rattle.std.proofs.lemmas.List.{length-take}
use Rattle.std.specs.Io.KnownBytes.{Appends, Consumes, IsAtEnd}
use Rattle.pm_io.specs.Taken.{TookMore}
use Rattle.pm_answer.specs.Inputs.{input_limit, HasStatus}
use Rattle.pm_answer.specs.Answers.{IsAnswer, IsSummary}
use Rattle.pm_top.specs.Top.{IsDue, summary, WrotePrefix}
use Rattle.pm_top.specs.Endings.{EndsUnlessUnwritten, EndsUnlessCutShort, EndsUnlessFailed, EndsUnlessNoMemory, WrotePartOfDue}
use Rattle.pm_answer.specs.declared.arguments.Command.{Command}
use Rattle.pm_answer.specs.declared.arguments.Command.TheVariants.{Demo}
use Rattle.pm_answer.specs.declared.arguments.FileCommand.{FileCommand}
use Rattle.pm_answer.specs.declared.status.Status.{Status}
use Rattle.pm_answer.specs.declared.status.Status.TheVariants.{Done, TooLong, ReadFault, WriteFault, NoMemory}
use Rattle.pm_answer.proofs.Meanings.{one_status, long_status}

-- a demo's summary is due with the status Done, which is the one that is left
pub summary_is_due : (old new : Option (List ℕ)) (command : Option Command) (size number : ℕ) (status : Status) (text : List ℕ) →
    command ≡ Some (Demo size number) → status ≡ Done → IsSummary size number text
    → IsDue command old new status text
summary_is_due old new command size number status text asks done is = subst (λ (s : Status). IsDue command old new s text) (sym done)
    (summary size number text asks is)

-- a status that is Done, WriteFault or NoMemory, and neither of the last two, is Done
pub left_done : (status : Status) → EndsUnlessCutShort Done status → status ≢ WriteFault →
    status ≢ NoMemory → status ≡ Done
left_done status (inl done) no_fault no_failure = done
left_done status (inr (inl fault)) no_fault no_failure = absurd (no_fault fault)
left_done status (inr (inr failure)) no_fault no_failure = absurd (no_failure failure)

-- what was given with its status is due
pub given_is_due : (command : Option Command) (old new before after : Option (List ℕ)) (due status : Status) (text given : List ℕ) →
    IsDue command old new due text →
    given ≡ text → (status ≡ due) × Appends before after given → (text' : List ℕ) × IsDue command old new status text' × Appends before after text'
given_is_due command old new before after due status text given is same (told, appended) =
    (text, subst (λ (s : Status). IsDue command old new s text) (sym told) is, subst (Appends before after) same appended)

-- where the sink failed, a prefix of what is due was written
pub prefix_is_due : (command : Option Command) (old new before after : Option (List ℕ)) (due : Status) (text given : List ℕ) →
    IsDue command old new due text →
    given ≡ text → WrotePrefix before after given → WrotePartOfDue command old new before after
prefix_is_due command old new before after due text given is same wrote = (due, (text, is, subst (WrotePrefix before after) same wrote))

-- ---- the status for an input

-- the status is the one for the input, or tells of a fault or an allocation failure
abbrev pub Answers : FileCommand → Status → List ℕ → Type 0
Answers asked result input =
    (status : Status) → HasStatus asked input status → EndsUnlessFailed status result

-- bytes that were read to the end are what the source had
whole : (old new : Option (List ℕ)) (bytes : List ℕ) → Consumes old new bytes → IsAtEnd new → IfSome old (λ input. bytes ≡ input)
whole None new bytes all end = tt
whole (Some input) None bytes all end = absurd all
whole (Some input) (Some left) bytes all end = sym (all ∙ ap (λ l. bytes ++ l) end ∙ append-nil bytes)

answers_by : (asked : FileCommand) (result due : Status) (old : Option (List ℕ)) → EndsUnlessUnwritten due result →
    IfSome old (λ input. (status : Status) → HasStatus asked input status → due ≡ status) → IfSome old (Answers asked result)
answers_by asked result due None given same = tt
answers_by asked result due (Some input) (inl told) same = λ status has. inl (told ∙ same status has)
answers_by asked result due (Some input) (inr fault) same = λ status has. inr (inr (inl fault))

read_status : (asked : FileCommand) (old : Option (List ℕ)) (bytes : List ℕ) (due : Status) (text : List ℕ) → IfSome old (λ input. bytes ≡ input) →
    length bytes ≤ input_limit asked → IsAnswer asked bytes due text →
    IfSome old (λ input. (status : Status) → HasStatus asked input status → due ≡ status)
read_status asked None bytes due text same short answer = tt
read_status asked (Some input) bytes due text same short answer = λ status has.
    one_status asked bytes status due text short (subst (λ (i : List ℕ). HasStatus asked i status) (sym same) has) answer

-- the answer to an input that was read to its end
pub read_answers : (asked : FileCommand) (old new : Option (List ℕ)) (bytes : List ℕ) (result due : Status) (text : List ℕ) → Consumes old new bytes →
    IsAtEnd new →
    length bytes ≤ input_limit asked → IsAnswer asked bytes due text → EndsUnlessUnwritten due result → IfSome old (Answers asked result)
read_answers asked old new bytes result due text all end short answer given =
    answers_by asked result due old given (read_status asked old bytes due text (whole old new bytes all end) short answer)

-- an input of which more than a limit was taken has more
pub long_input : (input : List ℕ) (new : Option (List ℕ)) (limit : ℕ) → TookMore (Some input) new limit → limit < length input
long_input input None limit more = absurd (omega (arith, more))
long_input input (Some left) limit more = omega (arith, more, length-take (length input - length left) input)

too_long_status : (asked : FileCommand) (old new : Option (List ℕ)) → TookMore old new (input_limit asked) →
    IfSome old (λ input. (status : Status) → HasStatus asked input status → TooLong ≡ status)
too_long_status asked None new more = tt
too_long_status asked (Some input) new more = λ status has. long_status asked input status (long_input input new (input_limit asked) more) has

-- the answer to an input of which more than the limit was taken
pub long_answers : (asked : FileCommand) (old new : Option (List ℕ)) (result : Status) → TookMore old new (input_limit asked) →
    EndsUnlessUnwritten TooLong result →
    IfSome old (Answers asked result)
long_answers asked old new result more given = answers_by asked result TooLong old given (too_long_status asked old new more)

-- with no fault the status is the one for the input, or an allocation failed
pub completes : (asked : FileCommand) (old : Option (List ℕ)) (result : Status) (read write : Type 0) → IfSome old (Answers asked result) →
    (result ≡ ReadFault → read) →
    (result ≡ WriteFault → write) →
    IfSome old (λ input. (status : Status) → HasStatus asked input status → (read → ⊥) → (write → ⊥) →
    EndsUnlessNoMemory status result)
completes asked None result read write answers at_read at_write = tt
completes asked (Some input) result read write answers at_read at_write = λ status has no_read no_write. elim (answers status has) [
  | inl told ↦ inr told
  | inr (inl e) ↦ absurd (no_read (at_read e))
  | inr (inr (inl e)) ↦ absurd (no_write (at_write e))
  | inr (inr (inr e)) ↦ inl e
]
