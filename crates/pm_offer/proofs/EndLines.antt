-- The lines of the end over a cut tell the plain auction, and the local step is the one that is said without computing it.
use Rattle.std.proofs.Common.{◌≡◌, ◌∙◌, sym, ap, subst, refl, ℕ, zero, suc, ◌<◌, ◌≤◌, inl, inr}
use Rattle.std.proofs.Common.{ℤ, pos, ◌+ℤ◌, ◌≤ℤ◌, Bool, true, false, cond, List, [], length, map, get_or, take, arith}
use Rattle.std.specs.Prelude.{◌<ℤ◌, int_lt, filter, ◌==◌, Option, Some, None, is_some}
use Rattle.std.proofs.lemmas.Int.{ints}
use Rattle.std.proofs.lemmas.Bool.{cond-true, cond-false, false≢true, cases_lt, cond_both}
use Rattle.std.proofs.lemmas.List.{map-id}
use Rattle.std.proofs.lemmas.List.Elements.{All-map, filter_passes}
use Rattle.std.proofs.lemmas.Simd.{map-map}
use Rattle.pm_base.specs.Cuts.{Cut}
use Rattle.pm_base.specs.declared.limits.Limits.{Limits}
use Rattle.pm_base.proofs.Filters.{filter-map, filter_twice}
use Rattle.pm_base.specs.Limits.{AreLimits}
use Rattle.pm_base.proofs.Ints.{is_below, is_not_below, not_below}
use Rattle.pm_bid.specs.Bids.{demand_at, NeverRises}
use Rattle.pm_bid.specs.Clearing.{first_at_most, last_at_least, IsFirstAtMost, IsLastAtLeast, Clears}
use Rattle.pm_bid.specs.Limited.{local_step, step_within}
use Rattle.pm_bid.proofs.FoundStep.{first_at_most_is_first, last_at_least_is_last}
use Rattle.pm_plan.specs.Devices.{DeviceData, is_member_after}
use Rattle.pm_plan.specs.declared.node.Node.TheVariants.{Concentrator, Limited, Device}
use Rattle.pm_plan.specs.declared.end.MemberLine.{MemberLine}
use Rattle.pm_plan.specs.declared.end.LimitedLine.{LimitedLine}
use Rattle.pm_plan.specs.Plans.{PlanData, NodeData, node, changes_of, is_member, is_limited, limits_of, group, node_numbers}
use Rattle.pm_plan.specs.Kept.{IsPlan}
use Rattle.pm_plan.specs.Auction.{demand_in_cut, sum_in, limited_nodes, total, plain_step, local_step_of_group, power, local_step_in, node_bid}
use Rattle.pm_plan.specs.Auction.{member_line, limited_line, end_in}
use Rattle.pm_plan.specs.States.{state, end_of}
use Rattle.pm_offer.specs.Offers.{local_step_at}
use Rattle.pm_offer.specs.LocalSteps.{IsLocalStep, GoesBy, IsAuctionStep, unlimited, kept, above, below}
use Rattle.pm_offer.specs.Powers.{total_watts, group_power, announced_power, KeepsLimits}
use Rattle.pm_offer.specs.EndLines.{TellsMember, told_power, TellsLimited, TellsEnd}
use Rattle.pm_bid.proofs.Taken.{falls_to}
use Rattle.pm_offer.proofs.Falls.{sum_falls}
use Rattle.pm_offer.proofs.GroupPowers.{powers_group, powers_total, powers_within}
use Rattle.pm_offer.proofs.Steps.{sum_steps, total_steps}

-- ---- the local step

-- a sum that is above a limit at step k is first at most it at k or later
late_enough : (limit : ℤ) (sum : List ℤ) (k step : ℕ) → NeverRises sum → k < length sum → limit <ℤ demand_at sum k →
    IsFirstAtMost limit sum step → k ≤ step
late_enough limit sum k step falls inside over first = elim (cases_lt step k) [
  | inl early ↦ absurd (omega (arith, ints, first.met (omega arith), falls_to sum falls step k (omega arith) inside))
  | inr late ↦ late
]

-- one that is below a limit at step k is last at least it at k or before
early_enough : (limit : ℤ) (sum : List ℤ) (k step : ℕ) → NeverRises sum → demand_at sum k <ℤ limit → IsLastAtLeast limit sum step → step ≤ k
early_enough limit sum k step falls under last = elim (cases_lt k step) [
  | inl late ↦ absurd (omega (arith, ints, last.met (omega arith), falls_to sum falls k step (omega arith) last.inside))
  | inr early ↦ early
]

local_step_is : (limits : Option Limits) (sum : List ℤ) (k : ℕ) → NeverRises sum → k < length sum →
    IsLocalStep sum k limits (local_step limits k sum)
local_step_is None sum k falls inside = unlimited
local_step_is (Some limits) sum k falls inside =
    let P : ℕ → Type 0 = IsLocalStep sum k (Some limits) in
    let first = first_at_most_is_first limits.ceiling sum (omega arith) in
    let last = last_at_least_is_last limits.floor sum (omega arith) in
    cond_both (int_lt limits.ceiling (demand_at sum k)) (first_at_most limits.ceiling sum) _ P
    (λ over.
    let more = is_below limits.ceiling (demand_at sum k) over in
    above limits (first_at_most limits.ceiling sum) more (late_enough limits.ceiling sum k _ falls inside more first) first)
    (λ not_over. cond_both (int_lt (demand_at sum k) limits.floor) (last_at_least limits.floor sum) k P
    (λ under.
    let less = is_below (demand_at sum k) limits.floor under in
    below limits (last_at_least limits.floor sum) less (early_enough limits.floor sum k _ falls less last) last)
    (λ not_under. kept limits (record {
      floor = is_not_below (demand_at sum k) limits.floor not_under;
      ceiling = is_not_below limits.ceiling (demand_at sum k) not_over;
    })))

below_passes : (a b : ℤ) → a <ℤ b → int_lt a b ≡ true
below_passes a b h = grind (arith, ints)

-- there is one first step at most a limit, and one last step at least a limit
first_once : (limit : ℤ) (sum : List ℤ) (a b : ℕ) → IsFirstAtMost limit sum a → IsFirstAtMost limit sum b → a ≡ b
first_once limit sum a b one other = elim (cases_lt a b) [
  | inl less ↦ absurd (omega (arith, ints, other.before a less, one.met (omega (arith, other.inside))))
  | inr most ↦ elim (cases_lt b a) [
    | inl less ↦ absurd (omega (arith, ints, one.before b less, other.met (omega (arith, one.inside))))
    | inr least ↦ omega arith
  ]
]

last_once : (limit : ℤ) (sum : List ℤ) (a b : ℕ) → IsLastAtLeast limit sum a → IsLastAtLeast limit sum b → a ≡ b
last_once limit sum a b one other = elim (cases_lt a b) [
  | inl less ↦ absurd (omega (arith, ints, one.after b less other.inside, other.met (omega arith)))
  | inr most ↦ elim (cases_lt b a) [
    | inl less ↦ absurd (omega (arith, ints, other.after a less one.inside, one.met (omega arith)))
    | inr least ↦ omega arith
  ]
]

-- so the local step is the only one that limits allow whose floor is not above their ceiling
local_step_only : (limits : Option Limits) (sum : List ℤ) (k step : ℕ) → 1 ≤ length sum →
    ((l : Limits) → limits ≡ Some l → l.floor ≤ℤ l.ceiling) → IsLocalStep sum k limits step → step ≡ local_step limits k sum
local_step_only limits sum k step some ordered unlimited = refl
local_step_only limits sum k step some ordered (kept l keeps) =
    sym (otherwise l (not_below l.ceiling (demand_at sum k) keeps.ceiling)
    ∙ ap (λ (b : Bool). cond b (last_at_least l.floor sum) k) (not_below (demand_at sum k) l.floor keeps.floor))
  where
    otherwise : (l : Limits) → int_lt l.ceiling (demand_at sum k) ≡ false →
        step_within l k sum ≡ cond (int_lt (demand_at sum k) l.floor) (last_at_least l.floor sum) k
    otherwise l not_over = cond-false (int_lt l.ceiling (demand_at sum k)) _ _ not_over
local_step_only limits sum k step some ordered (above l _ over late first) =
    first_once l.ceiling sum step (first_at_most l.ceiling sum) first (first_at_most_is_first l.ceiling sum some)
    ∙ sym (cond-true (int_lt l.ceiling (demand_at sum k)) _ _ (below_passes l.ceiling (demand_at sum k) over))
local_step_only limits sum k step some ordered (below l _ under early last) =
    last_once l.floor sum step (last_at_least l.floor sum) last (last_at_least_is_last l.floor sum some)
    ∙ sym (cond-false (int_lt l.ceiling (demand_at sum k)) _ _ (not_below l.ceiling (demand_at sum k) (omega (arith, ints, under, ordered l refl)))
    ∙ cond-true (int_lt (demand_at sum k) l.floor) _ _ (below_passes (demand_at sum k) l.floor under))

limits_ordered : (x : NodeData) (l : Limits) → limits_of x ≡ Some l → ((m : Limits) → x ≡ Limited m → AreLimits m) → l.floor ≤ℤ l.ceiling
limits_ordered Concentrator l is are = absurd (cc is)
limits_ordered (Device device) l is are = absurd (cc is)
limits_ordered (Limited m) l is are =
    let same : m ≡ l = cc is in
    let within = are m refl in
    subst (λ (n : Limits). n.floor ≤ℤ n.ceiling) same (omega (arith, ints, within.floor_not_positive, within.ceiling_not_negative))

-- ---- members

take_none : (n : ℕ) → take n (changes_of Concentrator) ≡ []
take_none zero = refl
take_none (suc n) = refl

-- only a device is a member
member_device : (x : NodeData) (n : ℕ) → is_member_after (take n (changes_of x)) ≡ true → (device : DeviceData) × (x ≡ Device device)
member_device Concentrator n is = absurd (false≢true (sym (ap is_member_after (take_none n)) ∙ is))
member_device (Limited limits) n is = absurd (false≢true (sym (ap is_member_after (take_none n)) ∙ is))
member_device (Device device) n is = (device, refl)

device_of : (plan : PlanData) (d n : ℕ) → is_member plan d n ≡ true → (device : DeviceData) × (node plan d ≡ Device device)
unfolding is_member
device_of plan d n is = member_device (node plan d) n is

its_limits : (limits : Option Limits) → is_some limits ≡ true → (l : Limits) × (limits ≡ Some l)
its_limits None is = absurd (false≢true is)
its_limits (Some l) is = (l, refl)

module _ (plan : PlanData) (is : IsPlan plan) (cut : Cut) where
  abbrev clears_at : ℕ
  clears_at = plain_step plan (state plan) cut

  plain_clears : Clears (total plan (state plan) cut) clears_at
  unfolding plain_step
  plain_clears = first_at_most_is_first (pos 0) (total plan (state plan) cut) (omega (arith, total_steps plan is cut, is.basis.steps))

  plain_inside : clears_at < plan.basis.steps
  plain_inside = omega (arith, plain_clears.inside, total_steps plan is cut)

  group_step_is : (g : ℕ) → IsLocalStep (sum_in plan (state plan) cut g) clears_at (limits_of (node plan g))
      (local_step_of_group plan (state plan) cut clears_at g)
  unfolding local_step_of_group
  group_step_is g =
      local_step_is (limits_of (node plan g)) (sum_in plan (state plan) cut g) clears_at (sum_falls plan is cut g)
      (subst (λ (n : ℕ). clears_at < n) (sym (sum_steps plan is cut g)) plain_inside)

  goes_by : (x : ℕ) → GoesBy plan cut clears_at x (local_step_in plan (state plan) cut x)
  unfolding local_step_in
  goes_by x = group_step_is (group plan x)

  -- the local step of a node is the one that it goes by in the plain auction
  pub step_is : (x : ℕ) → IsAuctionStep plan cut x (local_step_at plan cut x)
  step_is x = (clears_at, plain_clears, goes_by x)

  -- the total clears at one step
  pub clears_once : (k : ℕ) → Clears (total plan (state plan) cut) k → k ≡ clears_at
  clears_once k clears = first_once (pos 0) (total plan (state plan) cut) k clears_at clears plain_clears

  -- where the cluster clears at its step, a group goes by one step
  pub group_step_only : (k g step : ℕ) → k ≡ clears_at → IsLocalStep (sum_in plan (state plan) cut g) k (limits_of (node plan g)) step →
      step ≡ local_step_of_group plan (state plan) cut clears_at g
  unfolding local_step_of_group
  group_step_only k g step one goes =
      let sum : List ℤ = sum_in plan (state plan) cut g in
      local_step_only (limits_of (node plan g)) sum k step (omega (arith, sum_steps plan is cut g, is.basis.steps))
      (λ l here. limits_ordered (node plan g) l here (is.within.limits g)) goes
      ∙ ap (λ (j : ℕ). local_step (limits_of (node plan g)) j sum) one

  -- the local step of a node is the only one that it goes by
  pub step_only : (x step : ℕ) → IsAuctionStep plan cut x step → step ≡ local_step_at plan cut x
  unfolding local_step_in
  step_only x step goes = group_step_only goes.0 (group plan x) step (clears_once goes.0 goes.1) goes.2

  abbrev line : ℕ → MemberLine
  line d = member_line plan (state plan) cut d

  tells_member : (d : ℕ) → is_member plan d (cut d) ≡ true → TellsMember plan cut clears_at (line d)
  unfolding member_line power demand_in_cut
  tells_member d member =
      let found = device_of plan d (cut d) member in
      record {
        device = found.0;
        planned = found.1;
        member = member;
        number = refl;
        step = local_step_in plan (state plan) cut d;
        goes_by = goes_by d;
        power =
            ap (λ (bid : List ℤ). demand_at bid (local_step_in plan (state plan) cut d))
            (cond-true (is_member plan d (cut d)) _ _ member ∙ ap (λ (x : NodeData). node_bid plan x (state plan d (cut d))) found.1);
      }

  abbrev members : List ℕ
  members = filter (λ d. is_member plan d (cut d)) (node_numbers plan)

  -- the powers that the lines of a group tell are those of its members
  pub told_is : (g : ℕ) → told_power plan (map line members) g ≡ group_power plan cut g
  unfolding member_line group_power
  told_is g =
      let mine : ℕ → Bool = λ d. group plan d == g in
      let watts : List MemberLine → ℤ = λ ls. total_watts (map (λ (l : MemberLine). l.power) ls) in
      ap watts (filter-map (λ (l : MemberLine). group plan l.node == g) line members)
      ∙ ap total_watts (map-map (λ (l : MemberLine). l.power) line (filter mine members))
      ∙ ap (λ (ds : List ℕ). total_watts (map (power plan (state plan) cut) ds)) (filter_twice mine (λ d. is_member plan d (cut d)) (node_numbers plan))

  tells_limited : (g : ℕ) → is_limited plan g ≡ true →
      TellsLimited plan cut clears_at (map line members) (limited_line plan (state plan) cut g)
  unfolding limited_line
  tells_limited g is_one =
      let found = its_limits (limits_of (node plan g)) is_one in
      record {
        limits = found.0;
        limited = found.1;
        step =
            subst (λ (l : Option Limits). IsLocalStep (sum_in plan (state plan) cut g) clears_at l (local_step_of_group plan (state plan) cut clears_at g))
            found.1 (group_step_is g);
        sum = sym (told_is g ∙ powers_group plan g cut is);
      }

  root_step : local_step_of_group plan (state plan) cut clears_at 0 ≡ clears_at
  unfolding local_step_of_group
  root_step = refl

  -- the end over a cut tells the plain auction over it
  pub tells_end : TellsEnd plan cut (end_of plan cut)
  unfolding end_in member_line limited_line
  tells_end = record {
    clears = plain_clears;
    price = refl;
    total = refl;
    members_all = map-map (λ (l : MemberLine). l.node) line members ∙ map-id members;
    members =
        All-map (TellsMember plan cut clears_at) line members
        (λ i d inside. tells_member (get_or members i d) (filter_passes (λ e. is_member plan e (cut e)) (node_numbers plan) i d inside));
    limited_all = map-map (λ (l : LimitedLine). l.node) (limited_line plan (state plan) cut) (limited_nodes plan) ∙ map-id (limited_nodes plan);
    limited =
        All-map (TellsLimited plan cut clears_at (map line members)) (limited_line plan (state plan) cut) (limited_nodes plan)
        (λ i g inside. tells_limited (get_or (limited_nodes plan) i g) (filter_passes (is_limited plan) (node_numbers plan) i g inside));
    balance =
        powers_total plan cut clears_at is plain_inside
        ∙ ap (λ (z : ℤ). z +ℤ announced_power plan cut clears_at)
        (sym (told_is 0 ∙ powers_group plan 0 cut is ∙ ap (demand_at (sum_in plan (state plan) cut 0)) root_step));
    within = λ g limits step here inside keeps.
        subst (KeepsLimits limits) (sym (told_is g)) (powers_within plan g cut limits step is here inside keeps);
  }
