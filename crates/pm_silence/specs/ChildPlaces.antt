-- What a parent has of all of its children.
use Rattle.std.specs.Prelude.{ℕ, ◌+◌, if◌then◌else◌, List, [], ◌∷◌}
use Rattle.pm_silence.specs.declared.placing.ChildPlace.{ChildPlace}
use Rattle.pm_silence.specs.Placing.{is_overdue}

-- the numbers of those that are due, the first of which has this number
abbrev pub due_from : List ChildPlace → ℕ → ℕ → ℕ → List ℕ
due_from [] grace now n = []
due_from (p ∷ ps) grace now n = if is_overdue p grace now then n ∷ due_from ps grace now (n + 1) else due_from ps grace now (n + 1)
