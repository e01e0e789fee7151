-- Who sleeps, and whom nobody may forget to wake.
use Rattle.std.specs.Prelude.{◌≡◌, ℕ, ◌+◌, ◌^◌, ◌<◌, ◌≤◌, ◌⊎◌, if◌then◌else◌, Bool}
use Rattle.std.specs.Prelude.{true, false, List, length, Option, Some, None, Contains, All, slice_get}
use Rattle.std.specs.List.{count_by}
use Rattle.pm_waking.specs.Work.{has_work, has_change, has_unsent}
use Rattle.pm_waking.specs.declared.node.NodePending.{NodePending}
use Rattle.pm_waking.specs.declared.rings.Rings.{Rings}
use Rattle.pm_waking.specs.declared.roster.Entry.{Entry}
use Rattle.pm_waking.specs.declared.roster.Totals.{Totals}

-- what a list of nodes has, where each sleeps, and which bells are to be rung
pub record Roll : Type 0 where
  pub entries : List Entry
  pub rings : Rings

-- a bell that is to be rung: it is listed, or all are to be rung
abbrev pub IsRung : Rings → ℕ → Type 0
IsRung rings bell = (rings.all ≡ true) ⊎ Contains rings.bells.items bell

-- a node that sleeps has no work
abbrev pub SleepsIdle : Entry → Type 0
SleepsIdle entry = (bell : ℕ) → entry.asleep ≡ Some bell → has_work entry.node ≡ false

-- the bell at which a node sleeps
abbrev pub asleep_of : Option Entry → Option ℕ
asleep_of None = None
asleep_of (Some entry) = entry.asleep

abbrev pub asleep_at : List Entry → ℕ → Option ℕ
asleep_at entries x = asleep_of (slice_get entries x)

-- all nodes but one stay as they are, and there are as many
pub record OthersStay (number : ℕ) (old new : List Entry) : Type 0 where
  pub many : length new ≡ length old
  pub others : (x : ℕ) → (x ≡ number → ⊥) → slice_get new x ≡ slice_get old x

-- the node of a number
abbrev pub pending_of : Option Entry → Option NodePending
pending_of None = None
pending_of (Some entry) = Some entry.node

abbrev pub pending_at : List Entry → ℕ → Option NodePending
pending_at entries x = pending_of (slice_get entries x)

-- who slept still sleeps there, or its bell is to be rung
abbrev pub WakesEntry : Entry → Entry → Rings → Type 0
WakesEntry old new rings = (bell : ℕ) → old.asleep ≡ Some bell → (new.asleep ≡ Some bell) ⊎ IsRung rings bell

-- no bell that was to be rung is dropped
abbrev pub KeepsRings : Rings → Rings → Type 0
KeepsRings old new = (bell : ℕ) → IsRung old bell → IsRung new bell

-- nobody is forgotten: who slept still sleeps there, or its bell is to be rung; and no bell is dropped
pub record ForgetsNobody (old new : Roll) : Type 0 where
  pub many : length new.entries ≡ length old.entries
  pub slept : (x bell : ℕ) → asleep_at old.entries x ≡ Some bell → (asleep_at new.entries x ≡ Some bell) ⊎ IsRung new.rings bell
  pub rung : KeepsRings old.rings new.rings

-- how many of the nodes have what
abbrev pub count : (NodePending → Bool) → List Entry → ℕ
count has entries = count_by (λ entry. has entry.node) entries

abbrev pub is_offered : NodePending → Bool
is_offered node = node.offered

-- the totals are those of the nodes, and no node that sleeps has work
pub record IsKept (entries : List Entry) (totals : Totals) : Type 0 where
  pub working : totals.working ≡ count has_work entries
  pub changing : totals.changing ≡ count has_change entries
  pub offered : totals.offered ≡ count is_offered entries
  pub unsent : totals.unsent ≡ count has_unsent entries
  pub calm : All SleepsIdle entries

-- 1 for what is so
abbrev pub one_if : Bool → ℕ
one_if b = if b then 1 else 0

-- a number of nodes of which one is counted if it is so, and which has room for one more if it is not
pub record MayRecount (total : ℕ) (before : Bool) : Type 0 where
  pub low : before ≡ true → 1 ≤ total
  pub high : before ≡ false → total + 1 < 2 ^ 64

pub record TotalsMayFollow (totals : Totals) (before : NodePending) : Type 0 where
  pub working : MayRecount totals.working (has_work before)
  pub changing : MayRecount totals.changing (has_change before)
  pub offered : MayRecount totals.offered (is_offered before)
  pub unsent : MayRecount totals.unsent (has_unsent before)

-- the totals once a node is another
pub record TotalsFollow (old new : Totals) (before after : NodePending) : Type 0 where
  pub working : new.working + one_if (has_work before) ≡ old.working + one_if (has_work after)
  pub changing : new.changing + one_if (has_change before) ≡ old.changing + one_if (has_change after)
  pub offered : new.offered + one_if (is_offered before) ≡ old.offered + one_if (is_offered after)
  pub unsent : new.unsent + one_if (has_unsent before) ≡ old.unsent + one_if (has_unsent after)
