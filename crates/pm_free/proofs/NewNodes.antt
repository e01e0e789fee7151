-- The nodes before the first phase.
use Rattle.std.proofs.Common.{◌≡◌, ◌∙◌, sym, ap, subst, ℕ, List, [], ◌∷◌, ◌++◌, length, Some, inl, inr, arith, replicate}
use Rattle.std.specs.Prelude.{nat_le, slice_get}
use Rattle.std.proofs.lemmas.Bool.{cases_Bool, leb-true, leb-false}
use Rattle.std.proofs.lemmas.List.{length-replicate, get_or-replicate}
use Rattle.pm_base.specs.Cuts.{cut_of}
use Rattle.pm_plan.specs.Kept.{IsPlan}
use Rattle.pm_plan.specs.Plans.{PlanData, end_cut}
use Rattle.pm_plan.proofs.Ends.{end-none}
use Rattle.pm_phase.specs.Nodes.{IsNewDuty, AreNewParts}
use Rattle.pm_phase.specs.PartsEnd.{EndsPlainly}
use Rattle.pm_phase.specs.declared.node.NodePart.{NodePart}
use Rattle.pm_phase.proofs.NewEnd.{new_ends_plainly}
use Rattle.pm_free.specs.Nodes.{AreAfter}
use Rattle.pm_free.proofs.Counted.{get_past}
use Rattle.pm_free.proofs.Lists.{in_more}

-- the parts are those of the nodes in their places
abbrev pub NewTo : PlanData → List NodePart → Type 0
NewTo plan parts = (x : ℕ) (part : NodePart) → slice_get parts x ≡ Some part → (part.number ≡ x) × IsNewDuty plan x part.duty

-- one part more
pub parts_more : (plan : PlanData) (n : ℕ) (parts : List NodePart) (part : NodePart) → length parts ≡ n → NewTo plan parts → part.number ≡ n →
    IsNewDuty plan n part.duty → NewTo plan (parts ++ part ∷ [])
parts_more plan n parts part long before number duty x other at = elim (in_more parts part x other at) [
  | inl here ↦ before x other here
  | inr last ↦
      let place : n ≡ x = sym long ∙ sym last.0 in
      subst (λ (q : NodePart). (q.number ≡ x) × IsNewDuty plan x q.duty) last.1
      (number ∙ place, subst (λ (k : ℕ). IsNewDuty plan k part.duty) place duty)
]

zero_at : (n d : ℕ) → cut_of (replicate n 0) d ≡ 0
zero_at n d = elim (cases_Bool (nat_le n d)) [
  | inl past ↦ let le = leb-true n d past in let long = length-replicate {A = ℕ} n 0 in get_past (replicate n 0) d (omega (arith, le, long))
  | inr inside ↦ get_or-replicate {A = ℕ} n d 0 0 (leb-false n d inside)
]

-- they stand, and hold the end over no changes
pub new_after : (plan : PlanData) → IsPlan plan → (parts : List NodePart) (made : List ℕ) (n : ℕ) → AreNewParts plan parts →
    made ≡ replicate n 0 → AreAfter plan 0 parts made
new_after plan is_plan parts made n new made_is =
    let none : (d : ℕ) → 0 ≡ end_cut plan 0 d = λ d. sym (end-none plan d is_plan.in_phases) in
    record {
      counts = (λ i d. (ap (λ (xs : List ℕ). cut_of xs d) made_is ∙ zero_at n d ∙ none d) i);
      ends = subst (EndsPlainly plan parts) (λ i d. none d i) (new_ends_plainly plan is_plan parts new);
    }
