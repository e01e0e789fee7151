-- Which moves are legal, what they change, and journals.
use Rattle.std.specs.Prelude.{◌≡◌, ℕ, ◌+◌, ◌-◌, ◌<◌, ◌≤◌, ◌⊎◌, true, List, [], ◌∷◌, ◌++◌}
use Rattle.std.specs.List.{Contains}
use Rattle.pm_base.specs.Limits.{window_size}
use Rattle.pm_market.specs.Lists.{Lists, phases, parent, IsNode, IsLeaf, IsConcentrator, end_count}
use Rattle.pm_market.specs.State.{State, start, update, DifferOn, newest_number_of, part, knowledge, number, last_index, clearings, cleared_cut, addresses}
use Rattle.pm_market.specs.declared.moves.Move.{Move}
use Rattle.pm_market.specs.declared.moves.Move.TheVariants.{Change, Learn, Publish, Clear, Pass, Close}
use Rattle.pm_market.specs.declared.moves.Act.{Act}
use Rattle.pm_market.specs.declared.moves.Act.TheVariants as act

-- clearing j reached y: y is the auctioneer and cleared it, or it was passed to y
abbrev pub Reached : State → ℕ → ℕ → Type 0
Reached s y j = ((y ≡ 0) × (1 ≤ j) × (j ≤ clearings s)) ⊎ Contains (s.passed y) j

-- the node moves, Learn, Publish, Clear and Pass, that are legal in a state
abbrev pub NodeLegal : Lists → State → Move → Type 0
-- the parent of the child learns a number above the one learnt and at most the child's newest
NodeLegal lists s (Learn child number') =
    IsNode lists child × (s.learnt child < number') × (number' ≤ newest_number_of lists s child)
-- a concentrator that knows something other than it published last, and has fewer numbers above the one that the last
-- price passed to it names than its window has, publishes what it knows under its next number
NodeLegal lists s (Publish node number') =
    IsConcentrator lists node
    × DifferOn lists node (knowledge lists s node) (part lists s node (newest_number_of lists s node))
    × (newest_number_of lists s node - number lists s node (cleared_cut s (last_index s node)) < window_size)
    × (number' ≡ newest_number_of lists s node + 1)
-- the auctioneer that knows something other than it cleared last clears what it knows under its next index
NodeLegal lists s (Clear index) =
    DifferOn lists 0 (knowledge lists s 0) (cleared_cut s (clearings s))
    × (index ≡ clearings s + 1)
-- a clearing that reached the parent, addresses the node and is later than the last one passed to the node is passed to it
NodeLegal lists s (Pass node index) =
    IsNode lists node
    × Reached s (parent lists node) index
    × (last_index s node < index)
    × (addresses lists s index node ≡ true)
NodeLegal lists s _ = ⊥

-- a state is idle if no node move is legal
abbrev pub Idle : Lists → State → Type 0
Idle lists s = (m : Move) → NodeLegal lists s m → ⊥

-- the moves that are legal in a state
abbrev pub Legal : Lists → State → Move → Type 0
-- a device makes its next change, if that change belongs to the open phase
Legal lists s (Change device number') =
    IsLeaf lists device
    × (s.closed < phases lists)
    × (number' ≡ s.counts device + 1)
    × (number' ≤ end_count lists (s.closed + 1) device)
-- the open phase is closed, if all its changes are made and the state is idle
Legal lists s (Close phase) =
    (phase ≡ s.closed + 1)
    × (phase ≤ phases lists)
    × ((d : ℕ) → IsLeaf lists d → s.counts d ≡ end_count lists phase d)
    × Idle lists s
Legal lists s m = NodeLegal lists s m

-- the state after a move; all other parts stay
abbrev pub step : Lists → State → Move → State
step lists s (Change device number') = record s { counts = update s.counts device number' }
step lists s (Learn child number') = record s { learnt = update s.learnt child number' }
step lists s (Publish node number') = record s { published = update s.published node (s.published node ++ knowledge lists s node ∷ []) }
step lists s (Clear index) = record s { published = update s.published 0 (s.published 0 ++ knowledge lists s 0 ∷ []) }
step lists s (Pass node index) = record s { passed = update s.passed node (s.passed node ++ index ∷ []) }
step lists s (Close phase) = record s { closed = phase }

-- the state after a list of moves that begins in s
abbrev pub after_from : Lists → State → List Move → State
after_from lists s [] = s
after_from lists s (m ∷ ms) = after_from lists (step lists s m) ms

-- each of the moves is legal in the state after those before it, from s on
abbrev pub LegalFrom : Lists → State → List Move → Type 0
LegalFrom lists s [] = Unit {0}
LegalFrom lists s (m ∷ ms) = Legal lists s m × LegalFrom lists (step lists s m) ms

-- the state at the end of a journal
abbrev pub after : Lists → List Move → State
after lists journal = after_from lists start journal

-- a legal journal, or interleaving: each of its moves is legal in the state after those before it, from the start
abbrev pub LegalJournal : Lists → List Move → Type 0
LegalJournal lists journal = LegalFrom lists start journal

-- a journal is complete if it closes every phase
abbrev pub IsComplete : Lists → List Move → Type 0
IsComplete lists journal = (after lists journal).closed ≡ phases lists

-- an act is a move without its numbers
abbrev pub act_of : Move → Act
act_of (Change device number') = act.Change device
act_of (Learn child number') = act.Learn child
act_of (Publish node number') = act.Publish node
act_of (Clear index) = act.Clear
act_of (Pass node index) = act.Pass node
act_of (Close phase) = act.Close
