-- The lines of a phase's end.
use Rattle.std.proofs.Common.{◌≡◌, ◌∙◌, sym, ap, ℕ, zero, suc, ◌+◌, ◌-◌, ◌≤◌, ℤ, Bool, true, false, cond, List, [], ◌∷◌}
use Rattle.std.proofs.Common.{◌++◌, length, map, arith}
use Rattle.std.specs.Prelude.{filter, Some, None}
use Rattle.std.specs.List.{range_with_len}
use Rattle.std.proofs.lemmas.Bool.{cond-true, cond-false}
use Rattle.std.proofs.lemmas.List.{map-append, append-nil}
use Rattle.std.proofs.lemmas.List.Elements.{filter-append}
use Rattle.pm_basis.specs.Prices.{price_at}
use Rattle.pm_base.specs.declared.limits.Limits.{Limits}
use Rattle.pm_bid.specs.Bids.{demand_at}
use Rattle.pm_bid.specs.Limited.{step_within, local_step}
use Rattle.pm_plan.specs.Plans.{PlanData, node, limits_of, group, is_member, is_limited}
use Rattle.pm_plan.specs.Auction.{States, sum_in, plain_step, local_step_in, local_step_of_group, power}
use Rattle.pm_plan.specs.Auction.{member_line, limited_line, total, end_in, EndData, demand_in_cut}
use Rattle.pm_base.specs.Cuts.{Cut}
use Rattle.pm_plan.specs.States.{state, end_of}
use Rattle.pm_plan.specs.declared.end.MemberLine.{MemberLine}
use Rattle.pm_plan.specs.declared.end.LimitedLine.{LimitedLine}
use Rattle.pm_plan.specs.EndLines.{members_to, limited_to}
use Rattle.pm_base.proofs.Lists.{range_with_len-more}

-- the step of a group, by its limits
pub limited_step : (plan : PlanData) (s : States) (cut : Cut) (k g : ℕ) (limits : Limits) (sum : List ℤ) (l : ℕ) →
    limits_of (node plan g) ≡ Some limits → sum ≡ sum_in plan s cut g → l ≡ step_within limits k sum → l ≡ local_step_of_group plan s cut k g
unfolding local_step_of_group
limited_step plan s cut k g limits sum l limits_is sum_is l_is =
    l_is ∙ ap (step_within limits k) sum_is ∙ ap (λ own. local_step own k (sum_in plan s cut g)) (sym limits_is)

-- the step of a group without limits is the step of the whole
pub free_step : (plan : PlanData) (s : States) (cut : Cut) (k g : ℕ) → limits_of (node plan g) ≡ None → k ≡ local_step_of_group plan s cut k g
unfolding local_step_of_group
free_step plan s cut k g free = sym (ap (λ limits. local_step limits k (sum_in plan s cut g)) free)

-- a device's demand in a cut, at the step of its group, is its power
pub power_is : (plan : PlanData) (s : States) (cut : Cut) (d g l : ℕ) (bid : List ℤ) (z : ℤ) → g ≡ group plan d →
    l ≡ local_step_of_group plan s cut (plain_step plan s cut) g → bid ≡ demand_in_cut plan s cut d → z ≡ demand_at bid l → z ≡ power plan s cut d
unfolding power local_step_in
power_is plan s cut d g l bid z g_is l_is bid_is z_is =
    z_is ∙ ap (λ b. demand_at b l) bid_is
    ∙ ap (demand_at (demand_in_cut plan s cut d)) (l_is ∙ ap (local_step_of_group plan s cut (plain_step plan s cut)) g_is)

-- a node with the step of its group and the group's sum there makes a limited concentrator's line
pub limited_line_is : (plan : PlanData) (s : States) (cut : Cut) (g l : ℕ) (sum : List ℤ) (z : ℤ) →
    l ≡ local_step_of_group plan s cut (plain_step plan s cut) g → sum ≡ sum_in plan s cut g → z ≡ demand_at sum l →
    (let x : LimitedLine = record { node = g; step = l; total = z } in x) ≡ limited_line plan s cut g
unfolding limited_line
limited_line_is plan s cut g l sum z l_is sum_is z_is =
    ap (λ w. (let x : LimitedLine = record { node = g; step = l; total = w } in x)) (z_is ∙ ap (λ b. demand_at b l) sum_is)
    ∙ ap (λ h. (let x : LimitedLine = record { node = g; step = h; total = demand_at (sum_in plan s cut g) h } in x)) l_is

-- one more node of a list of those that pass
listed-more : {X : Type 0} (f : ℕ → X) (p : ℕ → Bool) (k : ℕ) → map f (filter p (range_with_len 1 (k + 1)))
    ≡ map f (filter p (range_with_len 1 k)) ++ map f (cond (p (1 + k)) ((1 + k) ∷ []) [])
listed-more f p k =
    ap (λ xs. map f (filter p xs)) (range_with_len-more 1 k)
    ∙ ap (map f) (filter-append p (range_with_len 1 k) ((1 + k) ∷ []))
    ∙ map-append f (filter p (range_with_len 1 k)) (filter p ((1 + k) ∷ []))

-- at node d, which passes or does not
pub listed-yes : {X : Type 0} (f : ℕ → X) (p : ℕ → Bool) (d : ℕ) → 1 ≤ d → p d ≡ true →
    map f (filter p (range_with_len 1 (d + 1 - 1))) ≡ map f (filter p (range_with_len 1 (d - 1))) ++ f d ∷ []
listed-yes f p zero low passes = absurd (omega arith)
listed-yes f p (suc k) low passes =
    let e : suc k + 1 - 1 ≡ k + 1 = omega arith in
    let d : 1 + k ≡ suc k = omega arith in
    let down : k ≡ suc k - 1 = omega arith in
    ap (λ n. map f (filter p (range_with_len 1 n))) e ∙ listed-more f p k
    ∙ ap (λ xs. map f (filter p (range_with_len 1 k)) ++ map f xs) (ap (λ n. cond (p n) (n ∷ []) []) d
    ∙ cond-true {A = List ℕ} (p (suc k)) (suc k ∷ []) [] passes)
    ∙ ap (λ n. map f (filter p (range_with_len 1 n)) ++ f (suc k) ∷ []) down

-- at node d, which fails the test, the list of the nodes that pass stays as it is
pub listed-no : {X : Type 0} (f : ℕ → X) (p : ℕ → Bool) (d : ℕ) → 1 ≤ d → p d ≡ false →
    map f (filter p (range_with_len 1 (d + 1 - 1))) ≡ map f (filter p (range_with_len 1 (d - 1)))
listed-no f p zero low fails = absurd (omega arith)
listed-no f p (suc k) low fails =
    let e : suc k + 1 - 1 ≡ k + 1 = omega arith in
    let d : 1 + k ≡ suc k = omega arith in
    let down : k ≡ suc k - 1 = omega arith in
    ap (λ n. map f (filter p (range_with_len 1 n))) e ∙ listed-more f p k
    ∙ ap (λ xs. map f (filter p (range_with_len 1 k)) ++ map f xs) (ap (λ n. cond (p n) (n ∷ []) []) d
    ∙ cond-false {A = List ℕ} (p (suc k)) (suc k ∷ []) [] fails)
    ∙ append-nil (map f (filter p (range_with_len 1 k)))
    ∙ ap (λ n. map f (filter p (range_with_len 1 n))) down

-- a line put behind the lines before it makes the lines due
pub line_put : {X : Type 0} (new old before after : List X) (line due : X) → new ≡ old ++ line ∷ [] → old ≡ before → line ≡ due →
    after ≡ before ++ due ∷ [] → new ≡ after
line_put new old before after line due new_is old_is line_is after_is =
    new_is ∙ ap (λ xs. xs ++ line ∷ []) old_is ∙ ap (λ x. before ++ x ∷ []) line_is ∙ sym after_is

-- node d, a member in the cut, adds its line behind the lines of the members before it
pub members-yes : (plan : PlanData) (cut : Cut) (d : ℕ) → 1 ≤ d → is_member plan d (cut d) ≡ true →
    members_to plan cut (d + 1 - 1) ≡ members_to plan cut (d - 1) ++ member_line plan (state plan) cut d ∷ []
unfolding members_to
members-yes plan cut d low h = listed-yes (member_line plan (state plan) cut) (λ e. is_member plan e (cut e)) d low h

-- node d, no member in the cut, leaves the lines of the members as they are
pub members-no : (plan : PlanData) (cut : Cut) (d : ℕ) → 1 ≤ d → is_member plan d (cut d) ≡ false →
    members_to plan cut (d + 1 - 1) ≡ members_to plan cut (d - 1)
unfolding members_to
members-no plan cut d low h = listed-no (member_line plan (state plan) cut) (λ e. is_member plan e (cut e)) d low h

-- limited concentrator d adds its line behind the lines of the limited concentrators before it
pub limited-yes : (plan : PlanData) (cut : Cut) (d : ℕ) → 1 ≤ d → is_limited plan d ≡ true →
    limited_to plan cut (d + 1 - 1) ≡ limited_to plan cut (d - 1) ++ limited_line plan (state plan) cut d ∷ []
unfolding limited_to
limited-yes plan cut d low h = listed-yes (limited_line plan (state plan) cut) (is_limited plan) d low h

-- node d, no limited concentrator, leaves the lines of the limited concentrators as they are
pub limited-no : (plan : PlanData) (cut : Cut) (d : ℕ) → 1 ≤ d → is_limited plan d ≡ false →
    limited_to plan cut (d + 1 - 1) ≡ limited_to plan cut (d - 1)
unfolding limited_to
limited-no plan cut d low h = listed-no (limited_line plan (state plan) cut) (is_limited plan) d low h

-- a node with its power and the number that the cut gives it makes a member's line
pub member_line_is : (plan : PlanData) (s : States) (cut : Cut) (d n : ℕ) (z : ℤ) → z ≡ power plan s cut d → n ≡ cut d →
    (let x : MemberLine = record { node = d; power = z; number = n } in x) ≡ member_line plan s cut d
unfolding member_line
member_line_is plan s cut d n z z_is n_is =
    ap (λ w. (let x : MemberLine = record { node = d; power = w; number = n } in x)) z_is
    ∙ ap (λ m. (let x : MemberLine = record { node = d; power = power plan s cut d; number = m } in x)) n_is

end_with : ℕ → ℤ → ℤ → List MemberLine → List LimitedLine → EndData
end_with k p t m l = record { step = k; price = p; total = t; members = m; limited = l }

-- the step of the plain auction, its price, the total there and all lines make the end of the cut
pub end_is : (plan : PlanData) (cut : Cut) (k : ℕ) (p t : ℤ) (sum : List ℤ) (m : List MemberLine) (l : List LimitedLine) →
    k ≡ plain_step plan (state plan) cut → p ≡ price_at plan.basis k → t ≡ demand_at sum k → sum ≡ total plan (state plan) cut →
    m ≡ members_to plan cut (length plan.nodes) → l ≡ limited_to plan cut (length plan.nodes) →
    (let x : EndData = record { step = k; price = p; total = t; members = m; limited = l } in x) ≡ end_of plan cut
unfolding end_with end_in members_to limited_to
end_is plan cut k p t sum m l k_is p_is t_is sum_is m_is l_is =
    ap (λ q. end_with k q t m l) (p_is ∙ ap (price_at plan.basis) k_is)
    ∙ ap (λ u. end_with k (price_at plan.basis (plain_step plan (state plan) cut)) u m l) (t_is ∙ ap (λ b. demand_at b k) sum_is
    ∙ ap (demand_at (total plan (state plan) cut)) k_is)
    ∙ ap (λ j. end_with j (price_at plan.basis (plain_step plan (state plan) cut))
    (demand_at (total plan (state plan) cut) (plain_step plan (state plan) cut)) m l) k_is
    ∙ ap (λ n. end_with (plain_step plan (state plan) cut) (price_at plan.basis (plain_step plan (state plan) cut))
    (demand_at (total plan (state plan) cut) (plain_step plan (state plan) cut)) n l) m_is
    ∙ ap (λ n. end_with (plain_step plan (state plan) cut) (price_at plan.basis (plain_step plan (state plan) cut))
    (demand_at (total plan (state plan) cut) (plain_step plan (state plan) cut)) (members_to plan cut (length plan.nodes)) n) l_is
