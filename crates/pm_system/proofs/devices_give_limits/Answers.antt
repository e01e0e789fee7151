-- Of `devices_give_limits`: its clauses.
use Rattle.std.proofs.Common.{ap, ℕ, Some}
use Rattle.pm_system.proofs.devices_give_limits.Goals as goal

pub returns-clause-gives : goal.returns-clause-gives
returns-clause-gives c lists steps demand limits giver y n a is = ap (λ (i : ℕ). Some (limits y i)) is

pub returns-clause-passes : goal.returns-clause-passes
returns-clause-passes c lists steps demand limits giver y x ne a b same = ap (λ (i : ℕ). Some (limits y i)) (same (giver y) ne)
