-- A path of nodes down from a cut: each holds by answers of the one above, which lends no more than what is left of its own hold.
use Rattle.std.specs.Prelude.{ℕ, zero, suc, ◌+◌, ◌-◌, ◌*◌, ◌<◌, ◌≤◌}

-- A child holds until its clock shows u, by a word that it said at `said` and its parent answered at `heard`. The parent held until its own clock
-- shows `above`, and lent what was left
pub record IsLent (parent child : ℕ → ℕ) (validity : ℕ) (Above : ℕ → Type 0) (u : ℕ) : Type 0 where
  pub above : ℕ
  pub said : ℕ
  pub heard : ℕ
  pub lent : ℕ
  pub lease : Above above
  pub first : said ≤ heard
  pub held : parent heard < above
  pub most : lent ≤ validity
  pub left : parent heard + lent ≤ above
  pub until : u ≤ child said + lent

-- the first node's parent made no answer after the cut
pub record IsFromCut (child : ℕ → ℕ) (validity cut u : ℕ) : Type 0 where
  pub said : ℕ
  pub before : said ≤ cut
  pub until : u ≤ child said + validity

-- what node n of the path, counted from the cut, holds by
abbrev pub IsLease : (ℕ → ℕ → ℕ) → ℕ → ℕ → ℕ → ℕ → Type 0
IsLease clocks validity cut zero u = IsFromCut (clocks 0) validity cut u
IsLease clocks validity cut (suc n) u = IsLent (clocks n) (clocks (suc n)) validity (IsLease clocks validity cut n) u

-- how long after the cut node n holds at most
abbrev pub reach : ℕ → ℕ → ℕ → ℕ
reach first step zero = first
reach first step (suc n) = reach first step n + step

-- validity / (1 - e) < first, and what a relay adds is less than step
abbrev pub IsReach : ℕ → ℕ → ℕ → Type 0
IsReach e validity first = validity * 1000000 < first * (1000000 - e)

abbrev pub IsStep : ℕ → ℕ → ℕ → Type 0
IsStep e validity step = (validity * (2 * e) * 1000000) + 1000000 * (1000000 - e) < step * (1000000 - e) * (1000000 - e)
