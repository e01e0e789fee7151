-- The changes of a phase, as they are noted.
use Rattle.std.proofs.Common.{◌≡◌, ◌∙◌, sym, ap, subst, ℕ, ◌<◌, List, [], ◌∷◌, ◌++◌, length, Option, Some, None, inl, inr, refl}
use Rattle.std.specs.Prelude.{Vec, slice_get}
use Rattle.std.specs.declared.alloc.Global.{Global}
use Rattle.std.proofs.Math.ListN.{set}
use Rattle.std.proofs.lemmas.Bool.{cases_eq}
use Rattle.pm_base.specs.Cuts.{Cut}
use Rattle.pm_cluster.specs.Next.{IsNext}
use Rattle.pm_device.specs.declared.state.Next.{Next}
use Rattle.pm_plan.specs.Plans.{PlanData}
use Rattle.pm_phase.specs.Telling.{IsPlannedNext, listed_changes}
use Rattle.pm_free.specs.Counting.{AreTold}
use Rattle.pm_free.proofs.Lists.{in_more, get_set_same, get_set_other}

-- an empty list more
pub told_more : (plan : PlanData) (changes : List (Vec Next Global)) (list : Vec Next Global) → list.items ≡ [] → AreTold plan changes →
    AreTold plan (changes ++ list ∷ [])
told_more plan changes list empty told d k next at = by (slice_get (changes ++ list ∷ []) d) refl at
  where
    by : (o : Option (Vec Next Global)) → slice_get (changes ++ list ∷ []) d ≡ o → slice_get (listed_changes o) k ≡ Some next →
        IsPlannedNext plan d next.number next
    by None is here = absurd (cc here)
    by (Some own) is here = elim (in_more changes list d own is) [
      | inl before ↦ told d k next (ap (λ (o : Option (Vec Next Global)). slice_get (listed_changes o) k) before ∙ here)
      | inr last ↦
          let none : slice_get [] k ≡ Some next =
          ap (λ (ns : List Next). slice_get ns k) (sym empty) ∙ ap (λ (v : Vec Next Global). slice_get v.items k) last.1 ∙ here in
          absurd (cc none)
    ]

-- a change more behind those of its device
pub told_set : (plan : PlanData) (changes : List (Vec Next Global)) (device : ℕ) (list : Vec Next Global) (had : List Next) (next : Next) →
    device < length changes → listed_changes (slice_get changes device) ≡ had → list.items ≡ had ++ next ∷ [] →
    IsPlannedNext plan device next.number next → AreTold plan changes → AreTold plan (set changes device list)
told_set plan changes device list had next inside had_is pushed is told d k other at = elim (cases_eq d device) [
  | inl e ↦
      let here : slice_get (had ++ next ∷ []) k ≡ Some other =
      ap (λ (ns : List Next). slice_get ns k) (sym pushed)
      ∙ ap (λ (o : Option (Vec Next Global)). slice_get (listed_changes o) k) (sym (get_set_same changes device list inside))
      ∙ ap (λ (j : ℕ). slice_get (listed_changes (slice_get (set changes device list) j)) k) (sym e) ∙ at in
      elim (in_more had next k other here) [
        | inl before ↦
            told d k other (ap (λ (j : ℕ). slice_get (listed_changes (slice_get changes j)) k) e
            ∙ ap (λ (ns : List Next). slice_get ns k) had_is ∙ before)
        | inr last ↦
            subst (λ (n : Next). IsPlannedNext plan d n.number n) last.1 (subst (λ (j : ℕ). IsPlannedNext plan j next.number next) (sym e) is)
      ]
  | inr ne ↦ told d k other (ap (λ (o : Option (Vec Next Global)). slice_get (listed_changes o) k) (sym (get_set_other changes device d list ne)) ∙ at)
]

-- what a device makes next is what the plan makes of it by the change with that number
pub planned_of : (plan : PlanData) (closed : ℕ) (counts : Cut) (d : ℕ) (next : Next) → IsNext plan closed counts d next →
    IsPlannedNext plan d next.number next
planned_of plan closed counts d next is = record { number = refl; member = is.member; state = is.state }
