-- A number that each legal move raises.
use Rattle.std.specs.Prelude.{ℕ, ◌+◌, length}
use Rattle.pm_market.specs.Lists.{Lists, nodes}
use Rattle.pm_market.specs.State.{State, sum_to, newest_number_of, clearings}

-- of a node: its newest number, the number learnt of it, and how many clearings were passed to it
unfoldable pub potential_at : Lists → State → ℕ → ℕ
potential_at lists s x = newest_number_of lists s x + s.learnt x + length (s.passed x)

-- the sum over all nodes, with the number of clearings and of closed phases
unfoldable pub potential : Lists → State → ℕ
potential lists s = sum_to (nodes lists) (potential_at lists s) + clearings s + s.closed
