-- What is true of each phase over links.
use Rattle.std.specs.Prelude.{List, All, IfSome}
use Rattle.pm_phase.specs.Logs.{IsLogOfLink}
use Rattle.pm_free.specs.declared.phase.FreePhase.{FreePhase}

-- on each link the numbers taken rise, and each of them was put
abbrev pub HasLogs : FreePhase → Type 0
HasLogs phase = All (λ log. IfSome log IsLogOfLink) phase.links.items

-- each phase that was kept has such logs
abbrev pub AreKept : List FreePhase → Type 0
AreKept phases = All HasLogs phases
