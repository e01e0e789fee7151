-- How the program's work ends: with the status that is due, unless something failed; and what it has written then.
use Rattle.std.specs.Prelude.{◌≡◌, ◌≢◌, ◌⊎◌, ℕ, List, Option}
use Rattle.std.specs.Io.KnownBytes.{Appends}
use Rattle.pm_answer.specs.declared.arguments.Command.{Command}
use Rattle.pm_answer.specs.declared.status.Status.{Status}
use Rattle.pm_answer.specs.declared.status.Status.TheVariants.{ReadFault, WriteFault, NoMemory}
use Rattle.pm_top.specs.Top.{IsDue, WrotePrefix}

-- it ended as is due, unless the sink failed
abbrev pub EndsUnlessUnwritten : Status → Status → Type 0
EndsUnlessUnwritten due status = (status ≡ due) ⊎ (status ≡ WriteFault)

-- with the input read, it ended as is due, unless the sink or an allocation failed
abbrev pub EndsUnlessCutShort : Status → Status → Type 0
EndsUnlessCutShort due status = (status ≡ due) ⊎ (status ≡ WriteFault) ⊎ (status ≡ NoMemory)

-- it ended as is due, unless the source, the sink or an allocation failed
abbrev pub EndsUnlessFailed : Status → Status → Type 0
EndsUnlessFailed due status = (status ≡ due) ⊎ (status ≡ ReadFault) ⊎ (status ≡ WriteFault) ⊎ (status ≡ NoMemory)

-- with no fault of the source or the sink, it ended as is due, unless an allocation failed
abbrev pub EndsUnlessNoMemory : Status → Status → Type 0
EndsUnlessNoMemory due status = (status ≡ NoMemory) ⊎ (status ≡ due)

-- unless something failed, a text that is due with the status was written, whole; `old` and `new` are what the source had left
-- before and after, `held` and `holds` what the sink held
abbrev pub WroteItsText : Option Command → Option (List ℕ) → Option (List ℕ) → Option (List ℕ) → Option (List ℕ) → Status → Type 0
WroteItsText command old new held holds status = status ≢ ReadFault → status ≢ WriteFault → status ≢ NoMemory →
    (text : List ℕ) × IsDue command old new status text × Appends held holds text

-- a prefix of a text that is due was written, and not all of it
abbrev pub WrotePartOfDue : Option Command → Option (List ℕ) → Option (List ℕ) → Option (List ℕ) → Option (List ℕ) → Type 0
WrotePartOfDue command old new held holds = (due : Status) × ((text : List ℕ) × IsDue command old new due text × WrotePrefix held holds text)
