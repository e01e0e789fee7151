-- The lines of a phase's end, by what a quiet cluster keeps.
use Rattle.std.proofs.Common.{◌≡◌, ◌∙◌, sym, ap, ℕ, ℤ, ◌+◌, ◌-◌, ◌≤◌, true, false, [], ◌∷◌, ◌++◌, length}
use Rattle.std.proofs.Common.{slice_index_or, refl, arith, inl, inr}
use Rattle.std.proofs.lemmas.Bool.{cond-true, cond-false, cases_Bool}
use Rattle.std.proofs.lemmas.List.{append-nil}
use Rattle.pm_base.specs.Cuts.{Cut}
use Rattle.pm_market.specs.Lists.{nodes, is_leaf, IsLeaf}
use Rattle.pm_market.specs.State.{State}
use Rattle.pm_plan.specs.Kept.{IsPlan}
use Rattle.pm_plan.specs.Plans.{PlanData, is_member, is_limited}
use Rattle.pm_plan.specs.Auction.{power, member_line, limited_line}
use Rattle.pm_plan.specs.States.{state}
use Rattle.pm_plan.specs.Market.{plan_lists}
use Rattle.pm_plan.specs.declared.end.MemberLine.{MemberLine}
use Rattle.pm_plan.specs.declared.end.LimitedLine.{LimitedLine}
use Rattle.pm_basis.specs.Prices.{price_at}
use Rattle.pm_bid.specs.Bids.{demand_at}
use Rattle.pm_cache.specs.Cache.{aggregate_of}
use Rattle.pm_plan.specs.Auction.{EndData}
use Rattle.pm_plan.specs.Ends.{EndValue}
use Rattle.pm_plan.specs.States.{end_of}
use Rattle.pm_plan.specs.EndLines.{members_to, limited_to}
use Rattle.pm_plan.proofs.EndLines.{members-yes, members-no, limited-yes, limited-no, end_is}
use Rattle.pm_offer.proofs.Steps.{no_member}
use Rattle.pm_stands.specs.Core.{Core}
use Rattle.pm_stands.specs.Stands.{StandsFor}
use Rattle.pm_stands.specs.Quiet.{IsQuiet}
use Rattle.pm_stands.specs.Current.{kept_power, kept_line}
use Rattle.pm_stands.proofs.MoveLaws.{quiet_is_idle}
use Rattle.pm_stands.proofs.AllCurrent.{quiet_current}
use Rattle.pm_stands.proofs.QuietPowers.{power_current, line_current}
use Rattle.pm_cluster.specs.Ends.{member_at, limited_at}
use Rattle.pm_cluster.proofs.LimitedTold.{limited_concentrator}

-- the line of a member
pub member_told : (plan : PlanData) (c : Core) (s : State) (d number' : ℕ) (power' : ℤ) → IsPlan plan → StandsFor plan c s →
    IsQuiet plan c → IsLeaf (plan_lists plan) d →
    is_member plan d (slice_index_or c.counts d 0) ≡ true → power' ≡ kept_power plan c d → number' ≡ slice_index_or c.counts d 0 →
    (let line : MemberLine = record { node = d; power = power'; number = number' } in line ∷ []) ≡ member_at plan s.counts d
unfolding member_line
member_told plan c s d number' power' is_plan stands quiet leaf member power_is number_is =
    let count = stands.counts d leaf in
    let idle = (quiet_is_idle plan c s is_plan stands).0 quiet in
    ap (λ (p : ℤ). let line : MemberLine = record { node = d; power = p; number = number' } in line ∷ [])
    (power_is ∙ power_current plan c s d is_plan stands idle leaf)
    ∙ ap (λ (n : ℕ). let line : MemberLine = record { node = d; power = power plan (state plan) s.counts d; number = n } in line ∷ [])
    (number_is ∙ count)
    ∙ sym (cond-true (is_member plan d (s.counts d)) (member_line plan (state plan) s.counts d ∷ []) [] (sym (ap (is_member plan d) count) ∙ member))

-- no line of a device that is no member, nor of any other node
pub no_member_told : (plan : PlanData) (c : Core) (s : State) (d : ℕ) → StandsFor plan c s → IsLeaf (plan_lists plan) d →
    is_member plan d (slice_index_or c.counts d 0) ≡ false → [] ≡ member_at plan s.counts d
no_member_told plan c s d stands leaf none =
    sym (cond-false (is_member plan d (s.counts d)) (member_line plan (state plan) s.counts d ∷ []) []
    (sym (ap (is_member plan d) (stands.counts d leaf)) ∙ none))

-- a node that is no device adds no member's line to a phase's end
pub no_leaf_told : (plan : PlanData) (cut : Cut) (x : ℕ) → IsPlan plan → is_leaf (plan_lists plan) x ≡ false → [] ≡ member_at plan cut x
no_leaf_told plan cut x is_plan inner =
    sym (cond-false (is_member plan x (cut x)) (member_line plan (state plan) cut x ∷ []) [] (no_member plan is_plan x (cut x) inner))

-- the line of a limited concentrator
pub limited_line_told : (plan : PlanData) (c : Core) (s : State) (g : ℕ) (line : LimitedLine) → IsPlan plan → StandsFor plan c s →
    IsQuiet plan c → g ≤ nodes (plan_lists plan) →
    is_limited plan g ≡ true → line ≡ kept_line plan c g → line ∷ [] ≡ limited_at plan s.counts g
limited_line_told plan c s g line is_plan stands quiet inside limited is =
    let idle = (quiet_is_idle plan c s is_plan stands).0 quiet in
    ap (λ (l : LimitedLine). l ∷ []) (is ∙ line_current plan c s g is_plan stands idle (limited_concentrator plan g is_plan inside limited) limited)
    ∙ sym (cond-true (is_limited plan g) (limited_line plan (state plan) s.counts g ∷ []) [] limited)

-- an end with the lines of the nodes before number, and room for those of the others
pub record IsEndTo (plan : PlanData) (c : Core) (number' : ℕ) (head : EndData) (out : EndValue) : Type 0 where
  -- the end is head with the lines of the nodes before number', over the changes of any state stood for
  pub lines : (s : State) → StandsFor plan c s → out.end ≡ record head {
    members = members_to plan s.counts (number' - 1);
    limited = limited_to plan s.counts (number' - 1);
  }
  -- there is room for a member's line of each node from number' on
  pub member_room : nodes (plan_lists plan) + 1 ≤ out.member_room + number'
  -- there is room for a limited concentrator's line of each node from number' on
  pub limited_room : nodes (plan_lists plan) + 1 ≤ out.limited_room + number'

-- no lines before the first node
pub no_lines : (plan : PlanData) (cut : Cut) → ([] ≡ members_to plan cut 0) × ([] ≡ limited_to plan cut 0)
unfolding members_to limited_to
no_lines plan cut = (refl, refl)

-- one more node
members_more : (plan : PlanData) (cut : Cut) (n : ℕ) → 1 ≤ n → members_to plan cut (n - 1) ++ member_at plan cut n ≡ members_to plan cut (n + 1 - 1)
members_more plan cut n first = elim (cases_Bool (is_member plan n (cut n))) [
  | inl has ↦ ap (λ xs. members_to plan cut (n - 1) ++ xs)
      (cond-true (is_member plan n (cut n)) (member_line plan (state plan) cut n ∷ []) [] has) ∙ sym (members-yes plan cut n first has)
  | inr lacks ↦ ap (λ xs. members_to plan cut (n - 1) ++ xs) (cond-false (is_member plan n (cut n)) (member_line plan (state plan) cut n ∷ []) [] lacks)
      ∙ append-nil (members_to plan cut (n - 1)) ∙ sym (members-no plan cut n first lacks)
]

limited_more : (plan : PlanData) (cut : Cut) (n : ℕ) → 1 ≤ n → limited_to plan cut (n - 1) ++ limited_at plan cut n ≡ limited_to plan cut (n + 1 - 1)
limited_more plan cut n first = elim (cases_Bool (is_limited plan n)) [
  | inl has ↦ ap (λ xs. limited_to plan cut (n - 1) ++ xs)
      (cond-true (is_limited plan n) (limited_line plan (state plan) cut n ∷ []) [] has) ∙ sym (limited-yes plan cut n first has)
  | inr lacks ↦ ap (λ xs. limited_to plan cut (n - 1) ++ xs) (cond-false (is_limited plan n) (limited_line plan (state plan) cut n ∷ []) [] lacks)
      ∙ append-nil (limited_to plan cut (n - 1)) ∙ sym (limited-no plan cut n first lacks)
]

-- the lines of one more node were told
pub end_more : (plan : PlanData) (c : Core) (n : ℕ) (head : EndData) (old between new : EndValue) → 1 ≤ n →
    n ≤ nodes (plan_lists plan) → IsEndTo plan c n head old →
    ((s : State) → StandsFor plan c s → between.end ≡ record old.end { members = old.end.members ++ member_at plan s.counts n }) →
    old.member_room ≤ between.member_room + 1 → between.limited_room ≡ old.limited_room →
    ((s : State) → StandsFor plan c s → new.end ≡ record between.end { limited = between.end.limited ++ limited_at plan s.counts n }) →
    new.member_room ≡ between.member_room → between.limited_room ≤ new.limited_room + 1 → IsEndTo plan c (n + 1) head new
end_more plan c n head old between new first inside is member_told' room_one room_two limited_told' room_three room_four = record {
  lines = λ s stands.
      let cut : Cut = s.counts in
      limited_told' s stands
      ∙ ap (λ (e : EndData). record e { limited = e.limited ++ limited_at plan cut n }) (member_told' s stands)
      ∙ ap (λ (e : EndData). record e { members = e.members ++ member_at plan cut n; limited = e.limited ++ limited_at plan cut n }) (is.lines s stands)
      ∙ ap (λ xs. record head { members = xs; limited = limited_to plan cut (n - 1) ++ limited_at plan cut n }) (members_more plan cut n first)
      ∙ ap (λ xs. record head { members = members_to plan cut (n + 1 - 1); limited = xs }) (limited_more plan cut n first);
  member_room = omega (arith, is.member_room, room_one, room_three);
  limited_room = omega (arith, is.limited_room, room_two, room_four);
}

-- with the lines of all nodes, and the step, price and total of a quiet cluster, it is the end over all changes made
pub whole_end : (plan : PlanData) (c : Core) (s : State) (n : ℕ) (head : EndData) (out : EndValue) → IsPlan plan →
    StandsFor plan c s → IsQuiet plan c → IsEndTo plan c n head out →
    n - 1 ≡ length plan.nodes → head.step ≡ c.auctioneer.step → head.price ≡ price_at plan.basis head.step →
    head.total ≡ demand_at (aggregate_of c.auctioneer.cache) head.step →
    out.end ≡ end_of plan s.counts
whole_end plan c s n head out is_plan stands quiet is all step_is price_is total_is =
    let idle = (quiet_is_idle plan c s is_plan stands).0 quiet in
    let now = quiet_current plan c s is_plan stands idle in
    is.lines s stands
    ∙ end_is plan s.counts head.step head.price head.total (aggregate_of c.auctioneer.cache) _ _ (step_is ∙ now.step) price_is total_is now.aggregate
    (ap (members_to plan s.counts) all) (ap (limited_to plan s.counts) all)
