-- How many changes are due, with those of one more phase.
use Rattle.std.proofs.Common.{◌≡◌, ◌∙◌, sym, ap, ℕ, ◌+◌, ◌-◌, ◌<◌, ◌≤◌, ◌^◌, List, length, slice_index_or, arith, inl, inr}
use Rattle.std.proofs.Common.{get_or-set_same, get_or-set_other}
use Rattle.std.proofs.Math.ListN.{set, length-set}
use Rattle.std.proofs.lemmas.Bool.{cases_eq}
use Rattle.pm_base.specs.Limits.{most_changes}
use Rattle.pm_market.specs.Lists.{IsLeaf}
use Rattle.pm_plan.specs.Kept.{IsPlan}
use Rattle.pm_plan.specs.Plans.{PlanData, end_cut, phase_changes}
use Rattle.pm_plan.specs.Market.{plan_lists}
use Rattle.pm_plan.proofs.Ends.{end-rises, end-within}
use Rattle.pm_plan.proofs.PlannedChanges.{few_changes}

-- the changes of the next phase come on top of those of the phases before it
pub one_phase_more : (plan : PlanData) (closed d count more : ℕ) → count ≡ end_cut plan closed d →
    more ≡ phase_changes plan (closed + 1) d → count + more ≡ end_cut plan (closed + 1) d
one_phase_more plan closed d count more counted added =
    let same : closed + 1 - 1 ≡ closed = omega arith in
    let before : end_cut plan (closed + 1 - 1) d ≡ end_cut plan closed d = ap (λ (p : ℕ). end_cut plan p d) same in
    omega (arith, counted, added, before, end-rises plan closed (closed + 1) d (omega arith))

-- the changes of a device up to the end of any phase are at most the most changes of a run
pub few_due : (plan : PlanData) → IsPlan plan → (p d : ℕ) → end_cut plan p d ≤ most_changes
few_due plan is_plan p d = omega (arith, end-within plan p d, few_changes plan d is_plan)

-- what is due of the devices before number has the changes of the phase after the closed ones
pub record IsDueTo (plan : PlanData) (closed number : ℕ) (old new : List ℕ) : Type 0 where
  -- the new list of due changes is as long as the old one
  pub same_length : length new ≡ length old
  -- of a device before number as many changes are due as at the end of the phase after the closed ones
  pub after : (d : ℕ) → IsLeaf (plan_lists plan) d → d < number → slice_index_or new d 0 ≡ end_cut plan (closed + 1) d
  -- of a device from number on as many changes are due as at the end of the closed phases
  pub before : (d : ℕ) → IsLeaf (plan_lists plan) d → number ≤ d → slice_index_or new d 0 ≡ end_cut plan closed d

-- with the changes up to the next phase's end written in place n, what is due is right before n + 1
pub due_set : (plan : PlanData) (closed n : ℕ) (old now : List ℕ) (value : ℕ) → IsDueTo plan closed n old now → n < length now →
    value ≡ end_cut plan (closed + 1) n →
    IsDueTo plan closed (n + 1) old (set now n value)
due_set plan closed n old now value due inside is = record {
  same_length = length-set now n value ∙ due.same_length;
  after = λ d leaf low. elim (cases_eq d n) [
    | inl here ↦ ap (λ (i : ℕ). slice_index_or (set now n value) i 0) here ∙ get_or-set_same now n value 0 inside ∙ is
        ∙ ap (end_cut plan (closed + 1)) (sym here)
    | inr other ↦ get_or-set_other now n d value 0 other ∙ due.after d leaf (omega arith)
  ];
  before = λ d leaf low. get_or-set_other now n d value 0 (λ e. omega arith) ∙ due.before d leaf (omega arith);
}

-- where n is no device, what is due is right before n + 1 where it is right before n
pub due_skip : (plan : PlanData) (closed n : ℕ) (old now : List ℕ) → IsDueTo plan closed n old now →
    (IsLeaf (plan_lists plan) n → ⊥) → IsDueTo plan closed (n + 1) old now
due_skip plan closed n old now due no_leaf = record {
  same_length = due.same_length;
  after = λ d leaf low. elim (cases_eq d n) [
    | inl here ↦ absurd (no_leaf (Rattle.std.proofs.Common.subst (λ (i : ℕ). IsLeaf (plan_lists plan) i) here leaf))
    | inr other ↦ due.after d leaf (omega arith)
  ];
  before = λ d leaf low. due.before d leaf (omega arith);
}
