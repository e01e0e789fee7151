-- The limited concentrator above a node: that it is one, that it stands above the node, and that it is the first on the way up.
use Rattle.std.proofs.Common.{◌≡◌, ◌∙◌, sym, ap, subst, ℕ, ◌≤◌, Bool, true, false, eqb, ◌⊎◌, inl, inr, length, arith}
use Rattle.std.specs.Prelude.{◌&&◌}
use Rattle.std.proofs.lemmas.Bool.{cases_eq, cases_Bool, and_parts, and_from, both_ways, false_from_ne_true, eqb-true, eq-eqb}
use Rattle.pm_tree.proofs.Named.{length-parents_of}
use Rattle.pm_market.specs.Lists.{nodes, parent, is_below}
use Rattle.pm_market.proofs.Loops.{same_tests}
use Rattle.pm_market.proofs.Tree.{parent_zero, parent_smaller}
use Rattle.pm_plan.specs.Plans.{PlanData, is_limited, group}
use Rattle.pm_plan.specs.Kept.{IsPlan}
use Rattle.pm_plan.specs.Market.{plan_lists}
use Rattle.pm_plan.proofs.Drafts.{group_is_parent, group_of_parent, limited_is_no_root}
use Rattle.pm_plan.proofs.Groups.{group-zero}
use Rattle.pm_plan.proofs.MarketLists.{lawful}
use Rattle.pm_offer.specs.Offers.{is_limited_at}
use Rattle.pm_offer.proofs.Above.{climb, below_least, below_self, below_parent, below_strict, below_both}

-- the nodes of the lists are those of the plan
pub nodes_are : (plan : PlanData) → IsPlan plan → nodes (plan_lists plan) ≡ length plan.nodes
nodes_are plan is = length-parents_of plan.entries ∙ sym is.nodes.one_each

-- the parent of a node of the plan, or of the auctioneer, is no number beyond the last node
pub parent_inside : (plan : PlanData) → IsPlan plan → (z : ℕ) → z ≤ length plan.nodes → parent (plan_lists plan) z ≤ length plan.nodes
parent_inside plan is z inside = elim (cases_eq z 0) [
  | inl none ↦ omega (arith, ap (parent (plan_lists plan)) none ∙ parent_zero (plan_lists plan))
  | inr some ↦ let one : 1 ≤ z = omega arith in omega (arith, parent_smaller (plan_lists plan) (lawful plan is) z one)
]

-- a node whose parent is a limited concentrator has that parent as its group
pub group_here : (plan : PlanData) (z : ℕ) → 1 ≤ z → is_limited plan (parent (plan_lists plan) z) ≡ true →
    group plan z ≡ parent (plan_lists plan) z
unfolding parent
group_here plan z one h = group_is_parent plan z one h

-- a node whose parent is not limited has the group of its parent
pub group_on : (plan : PlanData) → IsPlan plan → (z : ℕ) → 1 ≤ z → z ≤ length plan.nodes →
    is_limited plan (parent (plan_lists plan) z) ≡ false →
    group plan z ≡ group plan (parent (plan_lists plan) z)
unfolding parent
group_on plan is z one inside h = sym (group_of_parent plan z is.tree one (omega (arith, is.nodes.one_each)) h)

-- the auctioneer has no limited concentrator above it
no_root : (plan : PlanData) {A : Type 0} → is_limited plan (group plan 0) ≡ true → A
no_root plan h = absurd (let one : 1 ≤ group plan 0 = limited_is_no_root plan (group plan 0) h in omega (arith, group-zero plan))

-- a group is 0, or a limited concentrator
pub group_kind : (plan : PlanData) → IsPlan plan → (z : ℕ) → z ≤ length plan.nodes → (group plan z ≡ 0)
    ⊎ (is_limited plan (group plan z) ≡ true)
group_kind plan is z =
    climb (plan_lists plan) (lawful plan is) (λ (d : ℕ). d ≤ length plan.nodes → (group plan d ≡ 0) ⊎ (is_limited plan (group plan d) ≡ true))
    (λ inside. inl (group-zero plan))
    (λ d one before inside. elim (cases_Bool (is_limited plan (parent (plan_lists plan) d))) [
      | inl bounded ↦ inr (ap (is_limited plan) (group_here plan d one bounded) ∙ bounded)
      | inr free ↦
          subst (λ (g : ℕ). (g ≡ 0) ⊎ (is_limited plan g ≡ true)) (sym (group_on plan is d one inside free))
          (before (parent_inside plan is d inside))
    ]) z

-- it is no later than the parent
pub group_small : (plan : PlanData) → IsPlan plan → (z : ℕ) → z ≤ length plan.nodes → group plan z ≤ parent (plan_lists plan) z
group_small plan is z =
    climb (plan_lists plan) (lawful plan is) (λ (d : ℕ). d ≤ length plan.nodes → group plan d ≤ parent (plan_lists plan) d)
    (λ inside. omega (arith, group-zero plan))
    (λ d one before inside.
    let p : ℕ = parent (plan_lists plan) d in
    elim (cases_Bool (is_limited plan p)) [
      | inl bounded ↦ omega (arith, group_here plan d one bounded)
      | inr free ↦
          let further : group plan p ≤ parent (plan_lists plan) p = before (parent_inside plan is d inside) in
          let same : group plan d ≡ group plan p = group_on plan is d one inside free in
          elim (cases_eq p 0) [
            | inl none ↦ omega (arith, same, ap (group plan) none ∙ group-zero plan)
            | inr some ↦ let low : 1 ≤ p = omega arith in omega (arith, same, further, parent_smaller (plan_lists plan) (lawful plan is) p low)
          ]
    ]) z

-- it stands above the node
pub group_above : (plan : PlanData) → IsPlan plan → (z : ℕ) → z ≤ length plan.nodes → is_limited plan (group plan z) ≡ true →
    is_below (plan_lists plan) (group plan z) (parent (plan_lists plan) z) ≡ true
group_above plan is z =
    climb (plan_lists plan) (lawful plan is)
    (λ (d : ℕ). d ≤ length plan.nodes → is_limited plan (group plan d) ≡ true →
    is_below (plan_lists plan) (group plan d) (parent (plan_lists plan) d) ≡ true)
    (λ inside h. no_root plan h)
    (λ d one before inside h.
    let law = lawful plan is in
    let p : ℕ = parent (plan_lists plan) d in
    elim (cases_Bool (is_limited plan p)) [
      | inl bounded ↦ subst (λ (g : ℕ). is_below (plan_lists plan) g p ≡ true) (sym (group_here plan d one bounded)) (below_self (plan_lists plan) law p)
      | inr free ↦
          let same : group plan d ≡ group plan p = group_on plan is d one inside free in
          subst (λ (g : ℕ). is_below (plan_lists plan) g p ≡ true) (sym same)
          (below_parent (plan_lists plan) law (group plan p) p (before (parent_inside plan is d inside) (ap (is_limited plan) (sym same) ∙ h)))
    ]) z

-- a limited concentrator that stands above a node: the group is limited, and is that concentrator or stands below it
pub record IsFound (plan : PlanData) (c z : ℕ) : Type 0 where
  -- the group of z is a limited concentrator
  pub limited : is_limited plan (group plan z) ≡ true
  -- the group of z is c or stands below c
  pub below : is_below (plan_lists plan) c (group plan z) ≡ true

-- a node below a limited concentrator c has a limited group that is c or stands below c
pub group_found : (plan : PlanData) → IsPlan plan → (c : ℕ) → is_limited plan c ≡ true → (z : ℕ) → z ≤ length plan.nodes →
    is_below (plan_lists plan) c (parent (plan_lists plan) z) ≡ true → IsFound plan c z
group_found plan is c limited z =
    climb (plan_lists plan) (lawful plan is)
    (λ (d : ℕ). d ≤ length plan.nodes → is_below (plan_lists plan) c (parent (plan_lists plan) d) ≡ true → IsFound plan c d)
    (λ inside h.
    let low : 1 ≤ c = limited_is_no_root plan c limited in
    let least : c ≤ parent (plan_lists plan) 0 = below_least (plan_lists plan) (lawful plan is) c (parent (plan_lists plan) 0) h in
    absurd (omega (arith, parent_zero (plan_lists plan))))
    (λ d one before inside h.
    let p : ℕ = parent (plan_lists plan) d in
    elim (cases_Bool (is_limited plan p)) [
      | inl bounded ↦ record {
        limited = ap (is_limited plan) (group_here plan d one bounded) ∙ bounded;
        below = subst (λ (g : ℕ). is_below (plan_lists plan) c g ≡ true) (sym (group_here plan d one bounded)) h;
      }
      | inr free ↦
          let same : group plan p ≡ group plan d = sym (group_on plan is d one inside free) in
          let further = before (parent_inside plan is d inside)
          (below_strict (plan_lists plan) (lawful plan is) c p h (λ e. both_ways (is_limited plan p) free (ap (is_limited plan) (sym e) ∙ limited))) in
          record {
            limited = ap (is_limited plan) (sym same) ∙ further.limited;
            below = subst (λ (g : ℕ). is_below (plan_lists plan) c g ≡ true) same further.below;
          }
    ]) z

-- below a limited concentrator stands no limited one
pub none_below : (plan : PlanData) → IsPlan plan → (c g : ℕ) → g ≤ length plan.nodes → is_limited plan c ≡ true → is_limited plan g ≡ true →
    is_below (plan_lists plan) c (parent (plan_lists plan) g) ≡ true → ⊥
none_below plan is c g inside limited too h =
    let found = group_found plan is c limited g inside h in
    let low : 1 ≤ group plan g = limited_is_no_root plan (group plan g) found.limited in
    omega (arith, is.one_limit g too)

-- whether g is a limited concentrator that stands below y
abbrev pub is_limited_below : PlanData → ℕ → ℕ → Bool
is_limited_below plan y g = is_limited plan g && is_below (plan_lists plan) y (parent (plan_lists plan) g)

-- for y itself not limited, that is to stand at or below y
pub at_is_below : (plan : PlanData) → IsPlan plan → (y g : ℕ) → is_limited plan y ≡ false → is_limited_at plan y g ≡ is_limited_below plan y g
at_is_below plan is y g free = same_tests (is_limited_at plan y g) (is_limited_below plan y g)
    (λ h. let parts = and_parts (is_limited plan g) (is_below (plan_lists plan) y g) h in
    and_from (is_limited plan g) (is_below (plan_lists plan) y (parent (plan_lists plan) g)) parts.0
    (below_strict (plan_lists plan) (lawful plan is) y g parts.1 (λ e. both_ways (is_limited plan y) free (ap (is_limited plan) e ∙ parts.0))))
    (λ h. let parts = and_parts (is_limited plan g) (is_below (plan_lists plan) y (parent (plan_lists plan) g)) h in
    and_from (is_limited plan g) (is_below (plan_lists plan) y g) parts.0 (below_parent (plan_lists plan) (lawful plan is) y g parts.1))

-- where y is limited, there is none
pub limited_has_none : (plan : PlanData) → IsPlan plan → (y g : ℕ) → g ≤ length plan.nodes → is_limited plan y ≡ true →
    is_limited_below plan y g ≡ false
limited_has_none plan is y g inside limited = false_from_ne_true (is_limited_below plan y g)
    (λ h. let parts = and_parts (is_limited plan g) (is_below (plan_lists plan) y (parent (plan_lists plan) g)) h in
    none_below plan is y g inside limited parts.0 parts.1)

-- the group of a node at or below x stands at or below x, where it stands below the parent of x
above_child : (plan : PlanData) → IsPlan plan → (x : ℕ) → 1 ≤ x → (z : ℕ) → z ≤ length plan.nodes →
    is_below (plan_lists plan) x z ≡ true →
    is_limited plan (group plan z) ≡ true → is_below (plan_lists plan) (parent (plan_lists plan) x) (parent (plan_lists plan) (group plan z)) ≡ true →
    is_below (plan_lists plan) x (group plan z) ≡ true
above_child plan is x x_one z =
    climb (plan_lists plan) (lawful plan is)
    (λ (d : ℕ). d ≤ length plan.nodes → is_below (plan_lists plan) x d ≡ true →
    is_limited plan (group plan d) ≡ true → is_below (plan_lists plan) (parent (plan_lists plan) x) (parent (plan_lists plan) (group plan d)) ≡ true →
    is_below (plan_lists plan) x (group plan d) ≡ true)
    (λ inside at limited h. no_root plan limited)
    (λ d one before inside at limited h.
    let law = lawful plan is in
    let p : ℕ = parent (plan_lists plan) d in
    elim (cases_eq x d) [
      | inl same ↦
          let g : ℕ = group plan d in
          let low : 1 ≤ g = limited_is_no_root plan g limited in
          let small : g ≤ p = group_small plan is d inside in
          let least : parent (plan_lists plan) x ≤ parent (plan_lists plan) g =
          below_least (plan_lists plan) law (parent (plan_lists plan) x) (parent (plan_lists plan) g) h in
          absurd (omega (arith, ap (parent (plan_lists plan)) same, parent_smaller (plan_lists plan) law g low))
      | inr other ↦
          let higher : is_below (plan_lists plan) x p ≡ true = below_strict (plan_lists plan) law x d at other in
          elim (cases_Bool (is_limited plan p)) [
            | inl bounded ↦ subst (λ (g : ℕ). is_below (plan_lists plan) x g ≡ true) (sym (group_here plan d one bounded)) higher
            | inr free ↦
                let same : group plan p ≡ group plan d = sym (group_on plan is d one inside free) in
                subst (λ (g : ℕ). is_below (plan_lists plan) x g ≡ true) same
                (before (parent_inside plan is d inside) higher (ap (is_limited plan) same ∙ limited)
                (subst (λ (g : ℕ). is_below (plan_lists plan) (parent (plan_lists plan) x) (parent (plan_lists plan) g) ≡ true) (sym same) h))
          ]
    ]) z

-- so for a node at or below a child the same limited concentrators stand between, seen from the child and from its parent
pub child_same : (plan : PlanData) → IsPlan plan → (x z : ℕ) → 1 ≤ x → z ≤ length plan.nodes → is_below (plan_lists plan) x z ≡ true →
    is_limited_at plan x (group plan z) ≡ is_limited_below plan (parent (plan_lists plan) x) (group plan z)
child_same plan is x z one inside at =
    let lists = plan_lists plan in
    let g : ℕ = group plan z in
    same_tests (is_limited_at plan x g) (is_limited_below plan (parent lists x) g)
    (λ h. let parts = and_parts (is_limited plan g) (is_below lists x g) h in
    and_from (is_limited plan g) (is_below lists (parent lists x) (parent lists g)) parts.0 (below_both lists (lawful plan is) x g parts.1))
    (λ h. let parts = and_parts (is_limited plan g) (is_below lists (parent lists x) (parent lists g)) h in
    and_from (is_limited plan g) (is_below lists x g) parts.0 (above_child plan is x one z inside at parts.0 parts.1))

-- a device is in the group of a limited concentrator exactly where it stands below it
pub group_of_limited : (plan : PlanData) → IsPlan plan → (y z : ℕ) → z ≤ length plan.nodes → is_limited plan y ≡ true →
    eqb (group plan z) y ≡ is_below (plan_lists plan) y (parent (plan_lists plan) z)
group_of_limited plan is y z inside limited = same_tests (eqb (group plan z) y) (is_below (plan_lists plan) y (parent (plan_lists plan) z))
    (λ h. let e : group plan z ≡ y = eqb-true (group plan z) y h in
    subst (λ (g : ℕ). is_below (plan_lists plan) g (parent (plan_lists plan) z) ≡ true) e
    (group_above plan is z inside (ap (is_limited plan) e ∙ limited)))
    (λ h. let found = group_found plan is y limited z inside h in
    let g : ℕ = group plan z in
    elim (cases_eq g y) [
      | inl e ↦ eq-eqb g y e
      | inr other ↦ absurd (
          let within : g ≤ length plan.nodes = omega (arith, group_small plan is z inside, parent_inside plan is z inside) in
          none_below plan is y g within limited found.limited (below_strict (plan_lists plan) (lawful plan is) y g found.below (λ e. other (sym e))))
    ])
