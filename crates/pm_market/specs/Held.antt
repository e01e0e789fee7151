-- Which price a device holds, and the lines of a journal.
use Rattle.std.specs.Prelude.{ℕ, zero, suc, Bool, if◌then◌else◌, ◌&&◌, not, nat_lt, nat_le, Option, Some, None, List, [], ◌∷◌}
use Rattle.pm_market.specs.Lists.{Lists, is_leaf, is_member}
use Rattle.pm_market.specs.State.{State, start, last_index, cleared_cut}
use Rattle.pm_base.specs.Cuts.{Cut}
use Rattle.pm_market.specs.Moves.{step}
use Rattle.pm_market.specs.declared.moves.Move.{Move}
use Rattle.pm_market.specs.declared.moves.Move.TheVariants.{Pass}
use Rattle.pm_market.specs.declared.journal.Line.{Line}

-- the number of the last join of a device among its first n changes, 0 if there is none. A change is a join if
-- the device is a member after it and was none before it
unfoldable pub last_join : Lists → ℕ → ℕ → ℕ
last_join lists d zero = 0
last_join lists d (suc n) =
    if is_member lists d (suc n) && not (is_member lists d n) then suc n
    else last_join lists d n

-- whether a device holds a price: that of the clearing passed to it last, if it is a member now and the number that
-- the price names is at least that of its last join; a price of a former membership is dropped
unfoldable pub holds_price : Lists → State → ℕ → Bool
holds_price lists s d =
    nat_lt 0 (last_index s d) && is_member lists d (s.counts d) && nat_le (last_join lists d (s.counts d)) (cleared_cut s (last_index s d) d)

-- the number that the price passed to a device last names, which is the one that it then holds
abbrev pub held_number : State → ℕ → ℕ
held_number s d = cleared_cut s (last_index s d) d

-- the step and the number that a device holds, or none; local gives the step of a cut at a node
abbrev pub holding : Lists → (Cut → ℕ → ℕ) → State → ℕ → Option (ℕ × ℕ)
holding lists local s d = if holds_price lists s d then Some (local (cleared_cut s (last_index s d)) d, held_number s d) else None

-- what the line of a move says beside the move: after a Pass to a device what the device then holds
abbrev pub holding_after : Lists → (Cut → ℕ → ℕ) → State → Move → Option (ℕ × ℕ)
holding_after lists local s (Pass x j) = if is_leaf lists x then holding lists local (step lists s (Pass x j)) x else None
holding_after lists local s m = None

-- the line of a move that is made in state s
abbrev pub line_of : Lists → (Cut → ℕ → ℕ) → State → Move → Line
line_of lists local s m = record { what = m; held = holding_after lists local s m }

-- the lines of moves that begin in s
abbrev pub lines_from : Lists → (Cut → ℕ → ℕ) → State → List Move → List Line
lines_from lists local s [] = []
lines_from lists local s (m ∷ ms) = line_of lists local s m ∷ lines_from lists local (step lists s m) ms

-- the lines of a journal
abbrev pub lines : Lists → (Cut → ℕ → ℕ) → List Move → List Line
lines lists local journal = lines_from lists local start journal
