-- Words that are said and answered in time, and a hop of a path.
use Rattle.std.specs.Prelude.{ℕ, ◌+◌, ◌*◌, ◌<◌, ◌≤◌, Option, Some, None}

-- words are said at the moments S 0 to S n, each at most gap after the one before
abbrev pub IsRhythm : ℕ → (ℕ → ℕ) → ℕ → Type 0
IsRhythm gap S n = (i : ℕ) → i < n → S (i + 1) ≤ S i + gap

-- it holds by an answer to what was said when its clock showed x, or later, of which at most so much was used up
abbrev pub HoldsBy : Option ℕ → ℕ → ℕ → Type 0
HoldsBy None used x = ⊥
HoldsBy (Some s) used x = x ≤ s + used

-- there is room for so much real time: most * (1 + e) + used + 1 tick < validity
abbrev pub IsRoom : ℕ → ℕ → ℕ → ℕ → Type 0
IsRoom e validity used most = (most * (1000000 + e)) + used * 1000000 + 1000000 < validity * 1000000
