-- Kinds as rows of numbers, by which they are compared.
use Rattle.std.specs.Prelude.{ℕ, ℤ, pos, Bool, ◌==◌}
use Rattle.std.specs.Ordering.{int_eq, on, eq_of_both}
use Rattle.pm_device.specs.declared.kind.Kind.{Kind}
use Rattle.pm_device.specs.declared.kind.Kind.TheVariants.{Freezer, HeatPump, Cogeneration, Battery, Solar, Load, Objective, Manual}

-- the number of a kind among the kinds, and its parameters in their order with zeros after them
abbrev pub key_of : Kind → ℕ × ℤ × ℤ × ℤ × ℤ × ℤ
key_of (Freezer low high power warm cool) = (0, low, high, power, warm, cool)
key_of (HeatPump low high power loss gain) = (1, low, high, power, loss, gain)
key_of (Cogeneration low high power loss gain) = (2, low, high, power, loss, gain)
key_of (Battery capacity charge discharge spread) = (3, capacity, charge, discharge, spread, pos 0)
key_of Solar = (4, pos 0, pos 0, pos 0, pos 0, pos 0)
key_of Load = (5, pos 0, pos 0, pos 0, pos 0, pos 0)
key_of Objective = (6, pos 0, pos 0, pos 0, pos 0, pos 0)
key_of Manual = (7, pos 0, pos 0, pos 0, pos 0, pos 0)

-- whether two such rows have the same numbers
abbrev pub are_same_keys : ℕ × ℤ × ℤ × ℤ × ℤ × ℤ → ℕ × ℤ × ℤ × ℤ × ℤ × ℤ → Bool
are_same_keys =
    eq_of_both (eq_of_both (eq_of_both (eq_of_both (eq_of_both (on (λ k. k.0) ◌==◌) (on (λ k. k.1) int_eq))
    (on (λ k. k.2) int_eq)) (on (λ k. k.3) int_eq)) (on (λ k. k.4) int_eq)) (on (λ k. k.5) int_eq)

-- whether two kinds have the same row
abbrev pub are_same_kinds : Kind → Kind → Bool
are_same_kinds = on key_of are_same_keys
