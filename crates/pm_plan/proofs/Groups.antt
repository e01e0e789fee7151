-- The limited concentrator above a node, found by going up from parent to parent.
use Rattle.std.proofs.Common.{◌≡◌, ◌∙◌, sym, ap, ℕ, zero, suc, ◌<◌, ◌≤◌, Bool, true, false, cond, length, refl, arith, Some, None}
use Rattle.pm_tree.proofs.Named.{length-parents_of}
use Rattle.pm_plan.specs.Kept.{IsPlan}
use Rattle.pm_plan.specs.Plans.{PlanData, parent, is_limited, group, group_in, unless_zero, group_above}

-- each parent of the first nodes is an earlier node
abbrev pub Earlier : PlanData → ℕ → Type 0
Earlier plan many = (x : ℕ) → 1 ≤ x → x ≤ many → parent plan x < x

-- no limited concentrator is found above the auctioneer, at however many levels
pub group_in-zero : (plan : PlanData) (levels : ℕ) → group_in plan levels 0 ≡ 0
unfolding group_in
group_in-zero plan zero = refl
group_in-zero plan (suc levels) = group_in-zero plan levels

-- more levels than the node's number find the same
same_within : (plan : PlanData) (many n levels x : ℕ) → Earlier plan many → x ≤ many → levels ≤ n → x ≤ levels →
    group_in plan levels x ≡ group_in plan x x
unfolding group_in
same_within plan many n levels zero earlier within low high = group_in-zero plan levels
same_within plan many n zero (suc x) earlier within low high = absurd (omega arith)
same_within plan many zero (suc levels) (suc x) earlier within low high = absurd (omega arith)
same_within plan many (suc n) (suc levels) (suc x) earlier within low high =
    let y = parent plan (suc x) in
    let below : y < suc x = earlier (suc x) (omega arith) within in
    let long = same_within plan many n levels y earlier (omega arith) (omega arith) (omega arith) in
    let short = same_within plan many n x y earlier (omega arith) (omega arith) (omega arith) in
    ap (cond (is_limited plan y) y) (long ∙ sym short)

-- from a node to its parent: the parent, where it is limited, and else what is found from the parent on
pub group_in-up : (plan : PlanData) (many x : ℕ) → Earlier plan many → 1 ≤ x → x ≤ many →
    group_in plan x x ≡ cond (is_limited plan (parent plan x)) (parent plan x) (group_in plan (parent plan x) (parent plan x))
unfolding group_in
group_in-up plan many zero earlier low high = absurd (omega arith)
group_in-up plan many (suc x) earlier low high =
    let y = parent plan (suc x) in
    let below : y < suc x = earlier (suc x) low high in
    ap (cond (is_limited plan y) y) (same_within plan many x x y earlier (omega arith) (omega arith) (omega arith))

-- a node's group is its parent where that is limited, else its parent's group, if parents come earlier
pub group-up : (plan : PlanData) (many x : ℕ) → Earlier plan many → 1 ≤ x → x ≤ many →
    group plan x ≡ cond (is_limited plan (parent plan x)) (parent plan x) (group plan (parent plan x))
unfolding group
group-up plan many x earlier low high = group_in-up plan many x earlier low high

-- the auctioneer's group is 0
pub group-zero : (plan : PlanData) → group plan 0 ≡ 0
unfolding group group_in
group-zero plan = refl

group_above-some : (plan : PlanData) (x y : ℕ) → group plan x ≡ y → 1 ≤ y → group_above plan x ≡ Some y
group_above-some plan x zero is low = absurd (omega arith)
group_above-some plan x (suc y) is low = ap unless_zero is

-- a node whose group is 0 has no limited concentrator above it
pub group_above-none : (plan : PlanData) (x : ℕ) → group plan x ≡ 0 → group_above plan x ≡ None
group_above-none plan x is = ap unless_zero is

-- in a plan the parent of each node is an earlier node
pub earlier_in : (plan : PlanData) → IsPlan plan → Earlier plan (length plan.nodes)
earlier_in plan is x low high = is.tree.earlier x low (omega (arith, length-parents_of plan.entries, is.nodes.one_each))

-- the search from x has come to a node
pub record HasCome (plan : PlanData) (x here : ℕ) : Type 0 where
  -- the node that the search has come to is not the auctioneer
  pub low : 1 ≤ here
  -- the number of the node that the search has come to is at most the count of nodes
  pub inside : here ≤ length plan.nodes
  -- the node that the search has come to has the same group as x
  pub same : group plan x ≡ group plan here

chosen : (b : Bool) (v : Bool) (y g : ℕ) → b ≡ v → cond b y g ≡ cond v y g
chosen b v y g is = rw is refl

positive : (plan : PlanData) (y : ℕ) → is_limited plan y ≡ true → 1 ≤ y
positive plan zero limited = absurd (cc limited)
positive plan (suc y) limited = omega arith

-- where the parent of the node that the search came to is limited, it is the limited concentrator above x
pub found_above : (plan : PlanData) (x here y : ℕ) → IsPlan plan → HasCome plan x here → y ≡ parent plan here →
    is_limited plan y ≡ true → group_above plan x ≡ Some y
found_above plan x here y is come up limited =
    let all = group-up plan (length plan.nodes) here (earlier_in plan is) come.low come.inside in
    let here_is = chosen (is_limited plan (parent plan here)) true (parent plan here) (group plan (parent plan here))
    (ap (is_limited plan) (sym up) ∙ limited) in
    group_above-some plan x y (come.same ∙ all ∙ here_is ∙ sym up) (positive plan y limited)

-- where the parent of the node that the search came to is not limited, x has the same group as that parent
pub go_on : (plan : PlanData) (x here y : ℕ) → IsPlan plan → HasCome plan x here → y ≡ parent plan here → is_limited plan y ≡ false →
    group plan x ≡ group plan y
go_on plan x here y is come up free =
    let all = group-up plan (length plan.nodes) here (earlier_in plan is) come.low come.inside in
    let here_is = chosen (is_limited plan (parent plan here)) false (parent plan here) (group plan (parent plan here))
    (ap (is_limited plan) (sym up) ∙ free) in
    come.same ∙ all ∙ here_is ∙ ap (group plan) (sym up)
