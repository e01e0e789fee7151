-- Of `end_groups`: what its loop over `line` keeps.
use Rattle.std.proofs.Common.{◌≡◌, ◌∷◌, map, take}
use Rattle.pm_bill.specs.Charges.{free_power, limited_group}
use Rattle.pm_bill.proofs.charges.end_groups.Given as goal

abbrev pub invariant-loop-line : goal.invariant-loop-line
invariant-loop-line l = l.groups.items
    ≡ record { price = l.end.end.price; power = free_power l.plan l.end.end } ∷ map (limited_group l.plan) (take l.line-index l.line-items)
