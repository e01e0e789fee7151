-- A leaf is one of the nodes.
use Rattle.std.proofs.Common.{◌≡◌, ◌∙◌, sym, ℕ, zero, suc, ◌≤◌, true, false, List, ◌∷◌, length, arith, inl, inr}
use Rattle.std.proofs.Math.ListN.{get_or-eq_default}
use Rattle.std.proofs.lemmas.Bool.{cases_lt}
use Rattle.pm_tree.proofs.Named.{length-leaves_of}
use Rattle.pm_tree.specs.Entries.{Entry, is_leaf_at, leaves_of}
use Rattle.pm_plan.specs.Plans.{PlanData, is_leaf}
use Rattle.pm_plan.specs.Kept.{IsPlan}

-- a number from 1 to this many
pub record IsInside (x many : ℕ) : Type 0 where
  -- the number is at least 1
  pub from_one : 1 ≤ x
  -- the number is at most this many
  pub to_last : x ≤ many

-- the number of a leaf is from 1 to the count of the tree's entries
pub leaf_inside : (entries : List Entry) (x : ℕ) → is_leaf_at entries x ≡ true → IsInside x (length entries)
leaf_inside entries zero leaf = absurd (cc leaf)
leaf_inside entries (suc x) leaf = elim (cases_lt (length entries) (suc x)) [
  | inl far ↦
      let none = get_or-eq_default (false ∷ leaves_of entries) false {n = suc x} (let long = length-leaves_of entries in omega (arith, long)) in
      absurd (cc (sym none ∙ leaf))
  | inr near ↦ record { from_one = omega arith; to_last = omega arith }
]

-- a device is one of the planned nodes
pub first_of : (plan : PlanData) (x : ℕ) → IsPlan plan → is_leaf plan x ≡ true → 1 ≤ x
first_of plan x is leaf = (leaf_inside plan.entries x leaf).from_one

-- the number of a leaf is at most the count of the planned nodes
pub last_of : (plan : PlanData) (x : ℕ) → IsPlan plan → is_leaf plan x ≡ true → x ≤ length plan.nodes
last_of plan x is leaf = omega (arith, (leaf_inside plan.entries x leaf).to_last, is.nodes.one_each)
