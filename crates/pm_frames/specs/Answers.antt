-- The bytes of the frames that a node writes, beside those that stand in a stream too.
use Rattle.std.specs.Prelude.{ℕ, ℤ, List, [], ◌∷◌, ◌++◌}
use Rattle.std.specs.Int.{w16, w32, to_be_bytes}
use Rattle.pm_wire.specs.Frames.{signed_bytes}
use Rattle.pm_frames.specs.Kinds.{window_full_kind, dropped_kind, setpoint_kind, not_caught_up_kind, out_of_numbers_kind}
use Rattle.pm_frames.specs.Kinds.{too_much_kind, other_basis_kind, out_of_limits_kind}

abbrev pub window_full_bytes : List ℕ
window_full_bytes = window_full_kind ∷ []

abbrev pub not_caught_up_bytes : List ℕ
not_caught_up_bytes = not_caught_up_kind ∷ []

abbrev pub out_of_numbers_bytes : List ℕ
out_of_numbers_bytes = out_of_numbers_kind ∷ []

abbrev pub dropped_bytes : ℕ → ℕ → List ℕ
dropped_bytes number index = dropped_kind ∷ (to_be_bytes w32 number ++ to_be_bytes w32 index)

-- a child's bid of this number is beyond its bound
abbrev pub too_much_bytes : ℕ → ℕ → List ℕ
too_much_bytes child number = too_much_kind ∷ (to_be_bytes w16 child ++ to_be_bytes w32 number)

-- a price, of this number and index, is of another basis
abbrev pub other_basis_bytes : ℕ → ℕ → List ℕ
other_basis_bytes number index = other_basis_kind ∷ (to_be_bytes w32 number ++ to_be_bytes w32 index)

-- no step of the sum in the bid of this number is within its limits
abbrev pub out_of_limits_bytes : ℕ → List ℕ
out_of_limits_bytes number = out_of_limits_kind ∷ to_be_bytes w32 number

abbrev pub setpoint_bytes : ℕ → ℕ → ℕ → ℤ → List ℕ
setpoint_bytes number index step power =
    setpoint_kind ∷ (to_be_bytes w32 number ++ (to_be_bytes w32 index ++ (to_be_bytes w16 step ++ signed_bytes power)))
