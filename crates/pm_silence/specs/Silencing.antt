-- What a control is told that goes by answers and by heartbeats.
use Rattle.std.specs.Prelude.{◌≡◌, ℕ, ◌-◌, ◌≤◌, Bool, true, if◌then◌else◌, nat_lt, ◌&&◌, not}
use Rattle.pm_silence.specs.declared.silence.Silence.{Silence}
use Rattle.pm_silence.specs.declared.silence.ControlOrder.{ControlOrder}
use Rattle.pm_silence.specs.declared.silence.ControlOrder.TheVariants.{Holds, FallBack}
use Rattle.pm_silence.specs.Holding.{holds_at, used_of}
use Rattle.pm_silence.specs.Beating.{is_silent}

abbrev pub holds_still : Silence → ℕ → ℕ → Bool
holds_still s validity now = holds_at s.hold validity now && not (is_silent s.beats validity now)

-- what is left by both
abbrev pub least : ℕ → ℕ → ℕ
least a b = if nat_lt a b then a else b

abbrev pub left_of : Silence → ℕ → ℕ → ℕ
left_of s validity now = least (validity - (now - s.beats.heard)) (validity - used_of s.hold.since now)

abbrev pub told_at : Silence → ℕ → ℕ → ControlOrder
told_at s validity now = if holds_still s validity now then Holds (left_of s validity now) else FallBack

-- what is told to hold holds by the answers too, and no longer than they say
abbrev pub IsToldWithin : Silence → ℕ → ℕ → ControlOrder → Type 0
IsToldWithin s validity now (Holds left) = (holds_at s.hold validity now ≡ true) × (left ≤ validity - used_of s.hold.since now)
IsToldWithin s validity now FallBack = Unit {0}
