-- The total of all groups is within the limit of a sum, since each device is in one group and a clamped sum is nearer to 0.
use Rattle.std.proofs.Common.{◌≡◌, ◌≢◌, ◌∙◌, sym, ap, ℕ, zero, suc, ◌+◌, ◌-◌, ◌*◌, ◌<◌, ◌≤◌, ℤ, pos, ◌+ℤ◌}
use Rattle.std.proofs.Common.{◌≤ℤ◌, Bool, true, false, cond, List, [], ◌∷◌, ◌++◌, length, map, refl, arith, subst, inl, inr, Option, Some}
use Rattle.std.proofs.Common.{None}
use Rattle.std.specs.Prelude.{◌==◌, filter, is_some}
use Rattle.std.specs.List.{range_with_len}
use Rattle.std.proofs.lemmas.Bool.{cases_eq, eq-eqb, ne_eqb, cond-true, cond-false}
use Rattle.std.proofs.lemmas.Int.{ints, clamps}
use Rattle.std.proofs.lemmas.List.{length-map, map-append, append-nil}
use Rattle.std.proofs.lemmas.List.Elements.{All-cons, All-nil, filter-append}
use Rattle.pm_bid.specs.Bids.{demand_at, pairwise_sum, sum_of, HaveSteps, AllWithinLimit, clamp, nearest_in_range}
use Rattle.pm_base.specs.Limits.{demand_limit, sum_limit, IsWithin}
use Rattle.pm_bid.proofs.Sums.{length-sum_of, sum_of-at, total_at, Has, zeros-at}
use Rattle.pm_bid.proofs.SumLaws.{sum_of-append, added_zeros}
use Rattle.pm_plan.specs.Plans.{PlanData, node, limits_of, group, is_limited, node_numbers}
use Rattle.pm_plan.specs.Kept.{IsPlan}
use Rattle.pm_base.specs.declared.limits.Limits.{Limits}
use Rattle.pm_bid.specs.Limited.{within_limits}
use Rattle.pm_plan.proofs.DeviceNodes.{limits_of-tells}
use Rattle.pm_plan.specs.Auction.{States, part_in, sum_in, announcement, total, limited_nodes}
use Rattle.pm_base.specs.Cuts.{Cut}
use Rattle.pm_base.proofs.Lists.{range_with_len-more}
use Rattle.pm_walk.specs.Parts.{groups_to, total_to}
use Rattle.pm_walk.proofs.Sums.{Fit, part_other, part_within, parts_fit, sum_fits}
use Rattle.pm_base.proofs.Ints.{wider}
use Rattle.pm_bid.proofs.EachStep.{clamp-at}

-- how many of the n devices from a on are in group g
size : (ℕ → ℕ) → ℕ → ℕ → ℕ → ℕ
size f g a zero = 0
size f g a (suc n) = cond (f a == g) 1 0 + size f g (a + 1) n

-- how many are in these groups
sizes : (ℕ → ℕ) → List ℕ → ℕ → ℕ → ℕ
sizes f [] a n = 0
sizes f (g ∷ gs) a n = size f g a n + sizes f gs a n

-- whether x is among these groups, as a number
hits : ℕ → List ℕ → ℕ
hits x [] = 0
hits x (g ∷ gs) = cond (x == g) 1 0 + hits x gs

sizes-none : (f : ℕ → ℕ) (gs : List ℕ) (a : ℕ) → sizes f gs a 0 ≡ 0
unfolding sizes size
sizes-none f [] a = refl
sizes-none f (g ∷ gs) a = omega (arith, sizes-none f gs a)

sizes-more : (f : ℕ → ℕ) (gs : List ℕ) (a n : ℕ) → sizes f gs a (suc n) ≡ hits (f a) gs + sizes f gs (a + 1) n
unfolding sizes size hits
sizes-more f [] a n = refl
sizes-more f (g ∷ gs) a n = omega (arith, sizes-more f gs a n)

at_most_one : (b : Bool) → cond b 1 0 ≤ 1
at_most_one true = omega arith
at_most_one false = omega arith

hits_skip : (b : Bool) (x a : ℕ) (gs : List ℕ) → x ≢ a → hits x gs ≡ 0 → hits x (cond b (a ∷ gs) gs) ≡ 0
unfolding hits
hits_skip true x a gs other none = omega (arith, cond-false {A = ℕ} (x == a) 1 0 (ne_eqb x a other))
hits_skip false x a gs other none = none

hits_first : (b : Bool) (x a : ℕ) (gs : List ℕ) → hits x gs ≡ 0 → hits x (cond b (a ∷ gs) gs) ≤ 1
unfolding hits
hits_first true x a gs none = omega (arith, at_most_one (x == a))
hits_first false x a gs none = omega arith

hits_past : (b : Bool) (x a : ℕ) (gs : List ℕ) → x ≢ a → hits x (cond b (a ∷ gs) gs) ≡ hits x gs
unfolding hits
hits_past true x a gs other = omega (arith, cond-false {A = ℕ} (x == a) 1 0 (ne_eqb x a other))
hits_past false x a gs other = refl

hits-below : (x a k : ℕ) (p : ℕ → Bool) → x < a → hits x (filter p (range_with_len a k)) ≡ 0
unfolding hits
hits-below x a zero p low = refl
hits-below x a (suc k) p low = hits_skip (p a) x a (filter p (range_with_len (a + 1) k)) (omega arith) (hits-below x (a + 1) k p (omega arith))

hits-once : (x a k : ℕ) (p : ℕ → Bool) → hits x (filter p (range_with_len a k)) ≤ 1
unfolding hits
hits-once x a zero p = omega arith
hits-once x a (suc k) p = elim (cases_eq x a) [
  | inl same ↦ hits_first (p a) x a (filter p (range_with_len (a + 1) k)) (hits-below x (a + 1) k p (omega arith))
  | inr other ↦ omega (arith, hits_past (p a) x a (filter p (range_with_len (a + 1) k)) other, hits-once x (a + 1) k p)
]

once : (f : ℕ → ℕ) (k a : ℕ) (p : ℕ → Bool) → hits (f a) (0 ∷ filter p (range_with_len 1 k)) ≤ 1
unfolding hits
once f k a p = elim (cases_eq (f a) 0) [
  | inl same ↦ omega (arith, at_most_one (f a == 0), hits-below (f a) 1 k p (omega arith))
  | inr other ↦ omega (arith, cond-false {A = ℕ} (f a == 0) 1 0 (ne_eqb (f a) 0 other), hits-once (f a) 1 k p)
]

-- no device is in two of these groups
sizes-within : (f : ℕ → ℕ) (k a n : ℕ) (p : ℕ → Bool) → sizes f (0 ∷ filter p (range_with_len 1 k)) a n ≤ n
sizes-within f k a zero p = omega (arith, sizes-none f (0 ∷ filter p (range_with_len 1 k)) a)
sizes-within f k a (suc n) p =
    let gs = 0 ∷ filter p (range_with_len 1 k) in
    omega (arith, sizes-more f gs a n, sizes-within f k (a + 1) n p, once f k a p)

-- at a step the sum of a group is at most as many times the limit as it has devices
sum-size : (plan : PlanData) (s : States) (cut : Cut) (g a n step : ℕ) → 1 ≤ a → a + n ≤ 1 + length plan.nodes →
    step < plan.basis.steps → Fit plan s cut →
    IsWithin (size (group plan) g a n * demand_limit) (total_at (map (part_in plan s cut g) (range_with_len a n)) step)
unfolding size
sum-size plan s cut g a zero step low high below fit = record { low = omega (arith, ints); high = omega (arith, ints) }
sum-size plan s cut g a (suc n) step low high below fit =
    let rest = sum-size plan s cut g (a + 1) n step (omega arith) (omega arith) below fit in
    elim (cases_eq (group plan a) g) [
      | inl same ↦
          let one = cond-true {A = ℕ} (group plan a == g) 1 0 (eq-eqb (group plan a) g same) in
          let here = part_within plan s cut g a step (omega arith) (omega arith) below fit in
          record { low = omega (arith, ints, one, here.low, rest.low); high = omega (arith, ints, one, here.high, rest.high) }
      | inr other ↦
          let none = cond-false {A = ℕ} (group plan a == g) 1 0 (ne_eqb (group plan a) g other) in
          let here : demand_at (part_in plan s cut g a) step ≡ pos 0 =
          ap (λ bid. demand_at bid step) (part_other plan s cut g a other) ∙ zeros-at plan.basis.steps step in
          record { low = omega (arith, ints, none, here, rest.low); high = omega (arith, ints, none, here, rest.high) }
    ]

within_more : (m n : ℕ) (a b : ℤ) → IsWithin (m * demand_limit) a → IsWithin (n * demand_limit) b → IsWithin ((m + n) * demand_limit) (a +ℤ b)
within_more m n a b h k = record { low = omega (arith, ints, h.low, k.low); high = omega (arith, ints, h.high, k.high) }

nearest_within : (limit : ℕ) (floor ceiling z : ℤ) → floor ≤ℤ pos 0 → pos 0 ≤ℤ ceiling → IsWithin limit z →
    IsWithin limit (nearest_in_range floor ceiling z)
nearest_within limit floor ceiling z low high h = record { low = omega (arith, ints, clamps, h.low, h.high); high = omega (arith, ints, clamps, h.low, h.high) }

group_sum : (plan : PlanData) (s : States) (cut : Cut) (g step : ℕ) → step < plan.basis.steps → Fit plan s cut →
    IsWithin (size (group plan) g 1 (length plan.nodes) * demand_limit) (demand_at (sum_in plan s cut g) step)
unfolding sum_in
group_sum plan s cut g step below fit =
    subst (IsWithin (size (group plan) g 1 (length plan.nodes) * demand_limit))
    (sym (sum_of-at plan.basis.steps (map (part_in plan s cut g) (node_numbers plan)) step (parts_fit plan s cut g fit) below))
    (sum-size plan s cut g 1 (length plan.nodes) step (omega arith) (omega arith) below fit)

limited_within : (plan : PlanData) (g limit step : ℕ) (l : Option Limits) (bid : List ℤ) → limits_of (node plan g) ≡ l → IsPlan plan →
    step < length bid → IsWithin limit (demand_at bid step) → IsWithin limit (demand_at (within_limits l bid) step)
limited_within plan g limit step None bid e is inside h = h
limited_within plan g limit step (Some l) bid e is inside h =
    let limits = is.within.limits g l (limits_of-tells (node plan g) l e) in
    subst (IsWithin limit) (sym (clamp-at l.floor l.ceiling bid step inside))
    (nearest_within limit l.floor l.ceiling (demand_at bid step) limits.floor_not_positive limits.ceiling_not_negative h)

announced_within : (plan : PlanData) (s : States) (cut : Cut) (g step : ℕ) → IsPlan plan → step < plan.basis.steps → Fit plan s cut →
    IsWithin (size (group plan) g 1 (length plan.nodes) * demand_limit) (demand_at (announcement plan s cut g) step)
unfolding announcement
announced_within plan s cut g step is below fit =
    limited_within plan g _ step (limits_of (node plan g)) (sum_in plan s cut g) refl is (omega (arith, sum_fits plan s cut g fit))
    (group_sum plan s cut g step below fit)

limited_steps : (l : Option Limits) (bid : List ℤ) → length (within_limits l bid) ≡ length bid
limited_steps None bid = refl
limited_steps (Some l) bid = length-map bid (nearest_in_range l.floor l.ceiling)

-- what a group announces has as many steps as the basis, where the demands fit
pub announced_steps : (plan : PlanData) (s : States) (cut : Cut) (g : ℕ) → Fit plan s cut → length (announcement plan s cut g) ≡ plan.basis.steps
unfolding announcement
announced_steps plan s cut g fit = limited_steps (limits_of (node plan g)) (sum_in plan s cut g) ∙ sum_fits plan s cut g fit

all_announced : (plan : PlanData) (s : States) (cut : Cut) (gs : List ℕ) → Fit plan s cut → HaveSteps plan.basis.steps (map (announcement plan s cut) gs)
all_announced plan s cut [] fit = All-nil (Has plan.basis.steps)
all_announced plan s cut (g ∷ gs) fit = All-cons (Has plan.basis.steps) (announcement plan s cut g) (map (announcement plan s cut) gs)
    (announced_steps plan s cut g fit) (all_announced plan s cut gs fit)

groups_within : (plan : PlanData) (s : States) (cut : Cut) (gs : List ℕ) (step : ℕ) → IsPlan plan → step < plan.basis.steps → Fit plan s cut →
    IsWithin (sizes (group plan) gs 1 (length plan.nodes) * demand_limit) (total_at (map (announcement plan s cut) gs) step)
unfolding sizes
groups_within plan s cut [] step is below fit = record { low = omega (arith, ints); high = omega (arith, ints) }
groups_within plan s cut (g ∷ gs) step is below fit =
    within_more (size (group plan) g 1 (length plan.nodes)) (sizes (group plan) gs 1 (length plan.nodes)) _ _
    (announced_within plan s cut g step is below fit) (groups_within plan s cut gs step is below fit)

-- the total up to node k has as many steps as the basis, where the demands fit
pub total_to-steps : (plan : PlanData) (s : States) (cut : Cut) (k : ℕ) → Fit plan s cut → length (total_to plan s cut k) ≡ plan.basis.steps
unfolding total_to
total_to-steps plan s cut k fit =
    length-sum_of plan.basis.steps (map (announcement plan s cut) (groups_to plan k)) (all_announced plan s cut (groups_to plan k) fit)

-- the total up to node k is within the limit of a sum, where the demands fit
pub total_to-within : (plan : PlanData) (s : States) (cut : Cut) (k : ℕ) → IsPlan plan → Fit plan s cut →
    AllWithinLimit sum_limit (total_to plan s cut k)
unfolding total_to
total_to-within plan s cut k is fit step inside =
    let gs = groups_to plan k in
    let n = length plan.nodes in
    let all = all_announced plan s cut gs fit in
    let below : step < plan.basis.steps = omega (arith, length-sum_of plan.basis.steps (map (announcement plan s cut) gs) all) in
    let few : sizes (group plan) gs 1 n ≤ n = sizes-within (group plan) k 1 n (is_limited plan) in
    let nodes = is.nodes.few in
    wider (sizes (group plan) gs 1 n * demand_limit) sum_limit _ (omega arith)
    (subst (IsWithin (sizes (group plan) gs 1 n * demand_limit))
    (sym (sum_of-at plan.basis.steps (map (announcement plan s cut) gs) step all below)) (groups_within plan s cut gs step is below fit))

-- the total up to the last node is the total of the cut
pub total_to-all : (plan : PlanData) (s : States) (cut : Cut) → total_to plan s cut (length plan.nodes) ≡ total plan s cut
unfolding total_to total announcement
total_to-all plan s cut = refl

-- the total up to no node is the sum of group 0, where the demands fit
pub total_to-none : (plan : PlanData) (s : States) (cut : Cut) → Fit plan s cut → total_to plan s cut 0 ≡ sum_in plan s cut 0
unfolding total_to announcement
total_to-none plan s cut fit = added_zeros plan.basis.steps (sum_in plan s cut 0) (sum_fits plan s cut 0 fit)

sum_of-push : (steps : ℕ) (xs : List (List ℤ)) (y : List ℤ) → HaveSteps steps xs → length y ≡ steps →
    sum_of steps (xs ++ y ∷ []) ≡ pairwise_sum (sum_of steps xs) y
sum_of-push steps xs y all same =
    sum_of-append steps xs (y ∷ []) all (All-cons (Has steps) y [] same (All-nil (Has steps)))
    ∙ ap (λ z. pairwise_sum (sum_of steps xs) z) (added_zeros steps y same)

groups-more : (plan : PlanData) (k : ℕ) → groups_to plan (k + 1) ≡ groups_to plan k ++ cond (is_limited plan (1 + k)) ((1 + k) ∷ []) []
groups-more plan k = ap (λ xs. 0 ∷ filter (is_limited plan) xs) (range_with_len-more 1 k)
    ∙ ap (λ xs. 0 ∷ xs) (filter-append (is_limited plan) (range_with_len 1 k) ((1 + k) ∷ []))

-- limited concentrator k + 1 adds what it announces to the total up to node k, where the demands fit
pub total_to-more : (plan : PlanData) (s : States) (cut : Cut) (k : ℕ) → is_limited plan (1 + k) ≡ true → Fit plan s cut →
    total_to plan s cut (k + 1) ≡ pairwise_sum (total_to plan s cut k) (announcement plan s cut (1 + k))
unfolding total_to
total_to-more plan s cut k limited_nodes fit =
    ap (λ gs. sum_of plan.basis.steps (map (announcement plan s cut) gs))
    (groups-more plan k ∙ ap (λ gs. groups_to plan k ++ gs) (cond-true {A = List ℕ} (is_limited plan (1 + k)) ((1 + k) ∷ []) [] limited_nodes))
    ∙ ap (sum_of plan.basis.steps) (map-append (announcement plan s cut) (groups_to plan k) ((1 + k) ∷ []))
    ∙ sum_of-push plan.basis.steps (map (announcement plan s cut) (groups_to plan k)) (announcement plan s cut (1 + k))
    (all_announced plan s cut (groups_to plan k) fit) (announced_steps plan s cut (1 + k) fit)

-- node k + 1, no limited concentrator, leaves the total up to node k as it is
pub total_to-same : (plan : PlanData) (s : States) (cut : Cut) (k : ℕ) → is_limited plan (1 + k) ≡ false →
    total_to plan s cut (k + 1) ≡ total_to plan s cut k
unfolding total_to
total_to-same plan s cut k limited_nodes =
    ap (λ gs. sum_of plan.basis.steps (map (announcement plan s cut) gs))
    (groups-more plan k ∙ ap (λ gs. groups_to plan k ++ gs)
    (cond-false {A = List ℕ} (is_limited plan (1 + k)) ((1 + k) ∷ []) [] limited_nodes) ∙ append-nil (groups_to plan k))

-- the sum of a group clamped to the limits of its concentrator is what the concentrator announces
pub announced_is : (plan : PlanData) (s : States) (cut : Cut) (g : ℕ) (limits : Limits) (x y : List ℤ) → limits_of (node plan g) ≡ Some limits →
    x ≡ sum_in plan s cut g → y ≡ clamp limits.floor limits.ceiling x → y ≡ announcement plan s cut g
unfolding announcement
announced_is plan s cut g limits x y e x_is y_is = y_is ∙ ap (clamp limits.floor limits.ceiling) x_is
    ∙ sym (ap (λ l. within_limits l (sum_in plan s cut g)) e)

-- the total before a limited g, with what g announces added, is the total up to g, where the demands fit
pub group_added : (plan : PlanData) (s : States) (cut : Cut) (g : ℕ) (limits : Limits) (out x : List ℤ) → Fit plan s cut → 1 ≤ g →
    limits_of (node plan g) ≡ Some limits →
    out ≡ total_to plan s cut (g - 1) → x ≡ announcement plan s cut g → pairwise_sum out x ≡ total_to plan s cut g
group_added plan s cut zero limits out x fit low e before here = absurd (omega arith)
group_added plan s cut (suc k) limits out x fit low e before here =
    let same : suc k ≡ 1 + k = omega arith in
    let limited' : is_limited plan (1 + k) ≡ true = ap (is_limited plan) (sym same) ∙ ap (λ (l : Option Limits). is_some l) e in
    let up : k + 1 ≡ suc k = omega arith in
    let down : suc k - 1 ≡ k = omega arith in
    ap (λ l. pairwise_sum l x) (before ∙ ap (total_to plan s cut) down)
    ∙ ap (pairwise_sum (total_to plan s cut k)) (here ∙ ap (announcement plan s cut) same)
    ∙ sym (total_to-more plan s cut k limited' fit) ∙ ap (total_to plan s cut) up

-- the total before node g is the total up to g, where g has no limits
pub group_passed : (plan : PlanData) (s : States) (cut : Cut) (g : ℕ) (out : List ℤ) → 1 ≤ g → limits_of (node plan g) ≡ None →
    out ≡ total_to plan s cut (g - 1) → out ≡ total_to plan s cut g
group_passed plan s cut zero out low e before = absurd (omega arith)
group_passed plan s cut (suc k) out low e before =
    let same : suc k ≡ 1 + k = omega arith in
    let limited' : is_limited plan (1 + k) ≡ false = ap (is_limited plan) (sym same) ∙ ap (λ (l : Option Limits). is_some l) e in
    let up : k + 1 ≡ suc k = omega arith in
    let down : suc k - 1 ≡ k = omega arith in
    before ∙ ap (total_to plan s cut) down ∙ sym (total_to-same plan s cut k limited') ∙ ap (total_to plan s cut) up
