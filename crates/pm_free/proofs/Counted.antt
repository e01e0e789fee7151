-- The counts after a phase are those of the plan, and its changes are those that follow.
use Rattle.std.proofs.Common.{◌≡◌, ◌∙◌, sym, ap, subst, ℕ, zero, suc, ◌+◌, ◌-◌, ◌<◌, ◌≤◌, false, List, [], ◌∷◌, ◌++◌}
use Rattle.std.proofs.Common.{length, Option, Some, None, inl, inr, refl, arith, get_or}
use Rattle.std.specs.Prelude.{Vec, nat_le, slice_get, slice_index_or}
use Rattle.std.specs.List.{prefix_len}
use Rattle.std.specs.declared.alloc.Global.{Global}
use Rattle.std.proofs.lemmas.Bool.{cases_eq, cases_Bool, leb-true, leb-false}
use Rattle.std.proofs.lemmas.List.{get_or_append_left}
use Rattle.std.proofs.Math.Seq.{get_or-append_seam}
use Rattle.std.proofs.lemmas.Option.{slice_get_past}
use Rattle.pm_base.specs.Cuts.{Cut, cut_of}
use Rattle.pm_device.specs.declared.state.Next.{Next}
use Rattle.pm_market.proofs.Tree.{leaf_node}
use Rattle.pm_plan.specs.Kept.{IsPlan}
use Rattle.pm_plan.specs.Market.{plan_lists}
use Rattle.pm_plan.specs.Plans.{PlanData, node, is_leaf, is_up_to, end_cut, phase_changes}
use Rattle.pm_plan.specs.declared.planned.Change.{Change}
use Rattle.pm_plan.proofs.DeviceNodes.{changes_of-none}
use Rattle.pm_plan.proofs.Ends.{end-rises}
use Rattle.pm_plan.proofs.MarketLists.{lawful, is_leaf-is, nodes_are}
use Rattle.pm_phase.specs.SettledParts.{changes_count, cut_after}
use Rattle.pm_phase.specs.Telling.{AreChanges, IsPlannedNext, listed_changes}
use Rattle.pm_free.specs.Counting.{AreTold, Follow, IsCounted, AreCounted, HaveNone}

-- ---- a node that is no device makes no change

no_end : (plan : PlanData) → IsPlan plan → (p d : ℕ) → is_leaf plan d ≡ false → end_cut plan p d ≡ 0
unfolding end_cut
no_end plan is_plan p d fails = ap (λ (cs : List Change). prefix_len (is_up_to p) cs) (changes_of-none (node plan d) (is_plan.nodes.devices d ∙ fails))

-- so it has none in a phase
pub none_due : (plan : PlanData) → IsPlan plan → (p d : ℕ) → is_leaf plan d ≡ false → 0 ≡ phase_changes plan p d
none_due plan is_plan p d fails = omega (arith, no_end plan is_plan p d fails, no_end plan is_plan (p - 1) d fails)

-- past the last node there is none
past_leaf : (plan : PlanData) → IsPlan plan → (d : ℕ) → length plan.entries < d → is_leaf plan d ≡ false
past_leaf plan is_plan d past = elim (cases_Bool (is_leaf plan d)) [
  | inl passes ↦
      let inside = leaf_node (plan_lists plan) (lawful plan is_plan) d (is_leaf-is plan d ∙ passes) in
      absurd (omega (arith, past, inside.1, nodes_are plan))
  | inr fails ↦ fails
]

-- ---- the counts of all nodes

-- past the end of a list of numbers stands 0
pub get_past : (xs : List ℕ) (k : ℕ) → length xs ≤ k → slice_index_or xs k 0 ≡ 0
get_past [] k le = refl
get_past (x ∷ xs) zero le = absurd (omega (arith, le))
get_past (x ∷ xs) (suc k) le = get_past xs k (omega (arith, le))

none_follow : (made : ℕ) → Follow made []
none_follow made k next at = absurd (cc at)

past_counted : (plan : PlanData) → IsPlan plan → (phase : ℕ) (made : List ℕ) (changes : List (Vec Next Global)) (d : ℕ) →
    length made ≤ d → length changes ≤ d → length plan.entries < d → IsCounted plan phase made changes d 0
past_counted plan is_plan phase made changes d few_made few_changes past =
    let none = slice_get_past changes d few_changes in
    record {
      counted =
          let a = get_past made d few_made in
          let b = ap changes_count none in
          omega (arith, a, b);
      all = ap changes_count none ∙ none_due plan is_plan phase d (past_leaf plan is_plan d past);
      follow = subst (λ (o : Option (Vec Next Global)). Follow (cut_of made d) (listed_changes o)) (sym none) (none_follow (cut_of made d));
    }

count_listed : (o : Option (Vec Next Global)) → length (listed_changes o) ≡ changes_count o
count_listed None = refl
count_listed (Some list) = refl

-- node n, by its list
pub counted_here : (plan : PlanData) (phase : ℕ) (made : List ℕ) (changes : List (Vec Next Global)) (n count before : ℕ) (list : List Next) →
    before ≡ cut_of made n → list ≡ listed_changes (slice_get changes n) → count ≡ before + length list →
    length list ≡ phase_changes plan phase n → Follow before list → IsCounted plan phase made changes n count
counted_here plan phase made changes n count before list before_is list_is counted all follow =
    let long : length list ≡ changes_count (slice_get changes n) =
    ap (λ (ns : List Next). length ns) list_is ∙ count_listed (slice_get changes n) in
    record {
      counted = omega (arith, counted, before_is, long);
      all = sym long ∙ all;
      follow = subst (λ (b : ℕ). Follow b (listed_changes (slice_get changes n))) before_is (subst (λ (ns : List Next). Follow before ns) list_is follow);
    }

-- those of the nodes before number n
abbrev pub CountedTo : PlanData → ℕ → List ℕ → List (Vec Next Global) → ℕ → List ℕ → Type 0
CountedTo plan phase made changes n counts = (d : ℕ) → d < n → IsCounted plan phase made changes d (cut_of counts d)

-- one node more
pub counted_more : (plan : PlanData) (phase : ℕ) (made : List ℕ) (changes : List (Vec Next Global)) (n : ℕ) (counts : List ℕ) (count : ℕ) →
    length counts ≡ n → CountedTo plan phase made changes n counts → IsCounted plan phase made changes n count →
    CountedTo plan phase made changes (n + 1) (counts ++ count ∷ [])
counted_more plan phase made changes n counts count long before here d low = elim (cases_eq d n) [
  | inl e ↦
      let same : count ≡ cut_of (counts ++ count ∷ []) d =
      sym (get_or-append_seam counts count [] 0) ∙ ap (λ (k : ℕ). get_or (counts ++ count ∷ []) k 0) (long ∙ sym e) in
      subst (λ (c : ℕ). IsCounted plan phase made changes d c) same (subst (λ (k : ℕ). IsCounted plan phase made changes k count) (sym e) here)
  | inr ne ↦
      let under : d < length counts = omega (arith, low, ne, long) in
      subst (λ (c : ℕ). IsCounted plan phase made changes d c) (sym (get_or_append_left counts (count ∷ []) 0 d under))
      (before d (omega (arith, low, ne)))
]

-- counts of all nodes are counts: past the last there is no change
pub all_counted : (plan : PlanData) → IsPlan plan → (phase : ℕ) (made : List ℕ) (changes : List (Vec Next Global)) (counts : List ℕ) →
    length made ≤ length plan.entries + 1 → length changes ≤ length plan.entries + 1 → length counts ≡ length plan.entries + 1 →
    CountedTo plan phase made changes (length plan.entries + 1) counts → AreCounted plan phase made changes counts
all_counted plan is_plan phase made changes counts few_made few_changes long to d = elim (cases_Bool (nat_le d (length plan.entries))) [
  | inl passes ↦ let le : d ≤ length plan.entries = leb-true d (length plan.entries) passes in to d (omega (arith, le))
  | inr fails ↦
      let past : length plan.entries < d = leb-false d (length plan.entries) fails in
      subst (λ (c : ℕ). IsCounted plan phase made changes d c) (sym (get_past counts d (omega (arith, long, past))))
      (past_counted plan is_plan phase made changes d (omega (arith, few_made, past)) (omega (arith, few_changes, past)) past)
]

-- ---- what the counts say

-- the changes end where the plan's phase does
pub after_is : (plan : PlanData) (phase : ℕ) (made counts : List ℕ) (changes : List (Vec Next Global)) → 1 ≤ phase →
    cut_of made ≡ end_cut plan (phase - 1) → AreCounted plan phase made changes counts → cut_after made changes ≡ end_cut plan phase
after_is plan phase made counts changes first before counted = λ i d. at d i
  where
    at : (d : ℕ) → cut_after made changes d ≡ end_cut plan phase d
    at d =
        let own = ap (λ (cut : Cut). cut d) before in
        let all = (counted d).all in
        let rises = end-rises plan (phase - 1) phase d (omega (arith, first)) in
        omega (arith, own, all, rises)

-- and the counts are those of its end
pub counts_are : (plan : PlanData) (phase : ℕ) (made counts : List ℕ) (changes : List (Vec Next Global)) → 1 ≤ phase →
    cut_of made ≡ end_cut plan (phase - 1) → AreCounted plan phase made changes counts → cut_of counts ≡ end_cut plan phase
counts_are plan phase made counts changes first before counted =
    (λ i d. (counted d).counted i) ∙ after_is plan phase made counts changes first before counted

-- the changes are those of the plan that follow
pub changes_next : (plan : PlanData) (phase : ℕ) (made counts : List ℕ) (changes : List (Vec Next Global)) →
    AreTold plan changes → AreCounted plan phase made changes counts → AreChanges plan (cut_of made) changes
changes_next plan phase made counts changes told counted d k next at =
    subst (λ (n : ℕ). IsPlannedNext plan d n next) ((counted d).follow k next at) (told d k next at)

-- without changes a phase ends where the one before it did
pub none_more : (plan : PlanData) (phase : ℕ) (made counts : List ℕ) (changes : List (Vec Next Global)) → 1 ≤ phase →
    cut_of made ≡ end_cut plan (phase - 1) → AreCounted plan phase made changes counts → HaveNone changes →
    end_cut plan (phase - 1) ≡ end_cut plan phase
none_more plan phase made counts changes first before counted none =
    sym before ∙ (λ i d. at d i) ∙ after_is plan phase made counts changes first before counted
  where
    at : (d : ℕ) → cut_of made d ≡ cut_after made changes d
    at d = let n = none d in omega (arith, n)
