-- Legality as tests that compute. For lawful lists and a sound state each agrees with the definition in Moves that it is
-- named for.
use Rattle.std.specs.Prelude.{ℕ, suc, ◌+◌, ◌-◌, Bool, true, false, if◌then◌else◌}
use Rattle.std.specs.Prelude.{◌==◌, ◌&&◌, ◌||◌, not, nat_lt, nat_le, List, [], ◌∷◌}
use Rattle.pm_base.specs.Limits.{window_size}
use Rattle.pm_market.specs.Lists.{Lists, nodes, phases, parent, is_leaf, end_count}
use Rattle.pm_market.specs.State.{State, all_to, is_same_on, knowledge, newest_number_of, part, number, last_index, clearings, cleared_cut, addresses}
use Rattle.pm_market.specs.Moves.{step}
use Rattle.pm_market.specs.declared.moves.Move.{Move}
use Rattle.pm_market.specs.declared.moves.Move.TheVariants.{Change, Learn, Publish, Clear, Pass, Close}

-- whether an index is in a list
unfoldable pub is_one_of : List ℕ → ℕ → Bool
is_one_of [] j = false
is_one_of (x ∷ xs) j = (x == j) || is_one_of xs j

-- whether it is a device or a concentrator
abbrev pub is_node : Lists → ℕ → Bool
is_node lists x = nat_le 1 x && nat_le x (nodes lists)

-- whether clearing j reached y: y is the auctioneer and cleared it, or it was passed to y
abbrev pub has_reached : State → ℕ → ℕ → Bool
has_reached s y j = ((y == 0) && nat_le 1 j && nat_le j (clearings s)) || is_one_of (s.passed y) j

unfoldable pub learn_is_legal : Lists → State → ℕ → ℕ → Bool
learn_is_legal lists s x n = is_node lists x && nat_lt (s.learnt x) n && nat_le n (newest_number_of lists s x)

unfoldable pub publish_is_legal : Lists → State → ℕ → ℕ → Bool
publish_is_legal lists s c n =
    is_node lists c && not (is_leaf lists c)
    && not (is_same_on lists c (knowledge lists s c) (part lists s c (newest_number_of lists s c)))
    && nat_lt (newest_number_of lists s c - number lists s c (cleared_cut s (last_index s c))) window_size
    && (n == newest_number_of lists s c + 1)

unfoldable pub clear_is_legal : Lists → State → ℕ → Bool
clear_is_legal lists s j = not (is_same_on lists 0 (knowledge lists s 0) (cleared_cut s (clearings s))) && (j == clearings s + 1)

unfoldable pub pass_is_legal : Lists → State → ℕ → ℕ → Bool
pass_is_legal lists s x j = is_node lists x && has_reached s (parent lists x) j && nat_lt (last_index s x) j && addresses lists s j x

-- whether no Learn or Publish of this node and no Pass to it is legal; of the numbers of a Learn the newest is legal
-- if any is
unfoldable pub is_idle_at : Lists → State → ℕ → Bool
is_idle_at lists s x =
    not (learn_is_legal lists s x (newest_number_of lists s x))
    && not (publish_is_legal lists s x (newest_number_of lists s x + 1))
    && all_to (clearings s) (λ j. not (pass_is_legal lists s x j))

-- whether no node move is legal
unfoldable pub is_idle : Lists → State → Bool
is_idle lists s = all_to (nodes lists) (is_idle_at lists s) && not (clear_is_legal lists s (clearings s + 1))

unfoldable pub change_is_legal : Lists → State → ℕ → ℕ → Bool
change_is_legal lists s d n = is_leaf lists d && nat_lt s.closed (phases lists) && (n == s.counts d + 1) && nat_le n (end_count lists (s.closed + 1) d)

-- whether the changes made are just those of the phases up to p
unfoldable pub are_made : Lists → State → ℕ → Bool
are_made lists s p = all_to (nodes lists) (λ d. if is_leaf lists d then (s.counts d == end_count lists p d) else true)

unfoldable pub close_is_legal : Lists → State → ℕ → Bool
close_is_legal lists s p = (p == s.closed + 1) && nat_le p (phases lists) && are_made lists s p && is_idle lists s

-- whether a move is legal in a state
unfoldable pub is_legal : Lists → State → Move → Bool
is_legal lists s (Change d n) = change_is_legal lists s d n
is_legal lists s (Learn x n) = learn_is_legal lists s x n
is_legal lists s (Publish c n) = publish_is_legal lists s c n
is_legal lists s (Clear j) = clear_is_legal lists s j
is_legal lists s (Pass x j) = pass_is_legal lists s x j
is_legal lists s (Close p) = close_is_legal lists s p

-- whether each move is legal in the state after those before it
unfoldable pub are_legal : Lists → State → List Move → Bool
are_legal lists s [] = true
are_legal lists s (m ∷ ms) = is_legal lists s m && are_legal lists (step lists s m) ms

-- the place of the first move that is not legal, from 0; the length if all are
unfoldable pub first_illegal : Lists → State → List Move → ℕ
first_illegal lists s [] = 0
first_illegal lists s (m ∷ ms) = if is_legal lists s m then suc (first_illegal lists (step lists s m) ms) else 0
