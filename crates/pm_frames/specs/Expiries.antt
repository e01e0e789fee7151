-- The frame by which a device is let go at its parent.
use Rattle.std.specs.Prelude.{ℕ, ◌<◌, ◌≤◌, ◌^◌, List, ◌∷◌}
use Rattle.std.specs.Int.{w16, to_be_bytes}
use Rattle.pm_base.specs.Limits.{most_nodes}
use Rattle.pm_frames.specs.Kinds.{expire_kind}

-- the child, from 1 on
abbrev pub expire_bytes : ℕ → List ℕ
expire_bytes child = expire_kind ∷ to_be_bytes w16 child

abbrev pub IsExpireFormed : ℕ → Type 0
IsExpireFormed child = child < 2 ^ 16

abbrev pub IsExpireAccepted : ℕ → Type 0
IsExpireAccepted child = (1 ≤ child) × (child ≤ most_nodes)
