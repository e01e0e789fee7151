-- What a crash leaves of a store, now and at each moment before.
use Rattle.std.specs.Prelude.{◌≡◌, ◌⊎◌, List, ℕ}

-- a crash leaves this and nothing else
abbrev pub Only : List ℕ → (List ℕ → Type 0) → Type 0
Only value outcomes = (c : List ℕ) → outcomes c → c ≡ value

-- Once this value was put, or while it is, a crash leaves it or what it might have left before.
abbrev pub LeavesOldOr : List ℕ → (old new : List ℕ → Type 0) → Type 0
LeavesOldOr value old new = (c : List ℕ) → new c → old c ⊎ (c ≡ value)

-- A crash at some moment until now might have left what it might have left until the call, what it might have left when the call began, or the
-- value put. What it might have left once stays so.
pub record LeavesInTime (value : List ℕ) (may_leave had_left has_left : List ℕ → Type 0) : Type 0 where
  pub nothing_else : (c : List ℕ) → has_left c → had_left c ⊎ (may_leave c ⊎ (c ≡ value))
  pub keeps : (c : List ℕ) → had_left c → has_left c
