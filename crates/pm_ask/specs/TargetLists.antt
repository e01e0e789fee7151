-- Lists of targets as text: a line for each.
use Rattle.std.specs.Prelude.{◌≡◌, ◌≢◌, ℕ, ◌+◌, ◌≤◌, ◌⊎◌, ℤ, List, [], ◌∷◌, ◌++◌, length, flat_map, All, ⊤}
use Rattle.std.specs.Fmt.{signed_decimal}
use Rattle.pm_base.specs.Limits.{IsWithin, demand_limit}
use Rattle.pm_ask.specs.declared.target_fault.TargetsFault.{TargetsFault}
use Rattle.pm_ask.specs.declared.target_fault.TargetsFault.TheVariants.{Bad, NoMemory}

-- the most targets of a list
abbrev pub most_targets : ℕ
most_targets = 100000

-- a list of targets: not too many, and each within the limit of a demand
pub record AreTargets (targets : List ℤ) : Type 0 where
  pub few : length targets ≤ most_targets
  pub within : All (IsWithin demand_limit) targets

-- the line of a target: the number in decimal digits, with `-` in front if it is negative, and a line feed
abbrev pub target_line : ℤ → List ℕ
target_line target = signed_decimal target ++ (10 ∷ [])

-- the text of a list of targets: their lines in order
abbrev pub targets_text : List ℤ → List ℕ
targets_text targets = flat_map target_line targets

-- the text is that of these targets
pub record IsListText (targets : List ℤ) (text : List ℕ) : Type 0 where
  pub list : AreTargets targets
  pub lines : text ≡ targets_text targets

-- a target's line begins the text
abbrev pub BeginsWithTarget : List ℕ → Type 0
BeginsWithTarget text = (target : ℤ) × ((rest : List ℕ) × (IsWithin demand_limit target × (text ≡ target_line target ++ rest)))

-- the text begins with the lines of these targets, and a bad line follows: something stands there, and it is either one
-- line too many, or begins with the line of no target, so that it has no end or is no number within the limit
pub record IsBadAfter (before : List ℤ) (rest text : List ℕ) : Type 0 where
  pub parts : text ≡ targets_text before ++ rest
  pub targets : AreTargets before
  pub some : rest ≢ []
  pub bad : (length before ≡ most_targets) ⊎ (¬ (BeginsWithTarget rest))

-- the first bad line of a text, counted from 1
abbrev pub IsFirstBadLine : ℕ → List ℕ → Type 0
IsFirstBadLine line text = (before : List ℤ) × ((rest : List ℕ) × (IsBadAfter before rest text × (line ≡ length before + 1)))

-- a text is refused at its first bad line
abbrev pub IsFaultOfText : List ℕ → TargetsFault → Type 0
IsFaultOfText text (Bad line) = IsFirstBadLine line text
IsFaultOfText text NoMemory = ⊤
