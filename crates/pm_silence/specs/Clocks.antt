-- Clocks that have no common zero and are off by at most a share of the time that they count.
use Rattle.std.specs.Prelude.{ℕ, ◌+◌, ◌-◌, ◌*◌, ◌<◌, ◌≤◌}

-- a million, of which a clock is off by at most e in a million
abbrev pub million : ℕ
million = 1000000

-- A clock tells, at each real moment, a whole number of ticks. It only rises.
-- From a moment s to d ticks of real time later it rises by d ticks or less, by at most e in a million and one tick, which it rounds off.
pub record IsNotSlow (e : ℕ) (clock : ℕ → ℕ) : Type 0 where
  pub rises : (s d : ℕ) → clock s ≤ clock (s + d)
  pub slow : (s d : ℕ) → d * (1000000 - e) + clock s * 1000000 ≤ clock (s + d) * 1000000 + 1000000

-- .. by d ticks or more, by at most as much
pub record IsNotFast (e : ℕ) (clock : ℕ → ℕ) : Type 0 where
  pub rises : (s d : ℕ) → clock s ≤ clock (s + d)
  pub fast : (s d : ℕ) → clock (s + d) * 1000000 ≤ clock s * 1000000 + d * (1000000 + e) + 1000000

-- the clock that each start of the control counts by, and that each start of the parent does
pub record Clocks : Type 0 where
  pub control : ℕ → ℕ → ℕ
  pub parent : ℕ → ℕ → ℕ

-- no control's clock is slow, and no parent's is fast: nothing else is asked of them. A parent's clock may stand still while its machine sleeps,
-- a control's may not
pub record AreClocks (e : ℕ) (clocks : Clocks) : Type 0 where
  pub control : (life : ℕ) → IsNotSlow e (clocks.control life)
  pub parent : (home : ℕ) → IsNotFast e (clocks.parent home)

-- grace is enough for validity, the time from a word to its fallback with what the control's machine takes to act:
-- grace > validity * (1 + e) / (1 - e) + 1 tick
abbrev pub IsEnough : ℕ → ℕ → ℕ → Type 0
IsEnough e validity grace = (validity * (1000000 + e)) + (1000000 - e) < grace * (1000000 - e)
