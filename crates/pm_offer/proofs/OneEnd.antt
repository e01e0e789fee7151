-- The end over a cut is the only one whose lines tell the plain auction over it: the words of `TellsEnd` leave nothing open.
use Rattle.std.proofs.Common.{◌≡◌, ◌∙◌, sym, ap, subst, refl, ℕ, ℤ, List, [], ◌∷◌, map, Option}
use Rattle.std.specs.Prelude.{filter, All}
use Rattle.std.proofs.lemmas.Bool.{cond-true}
use Rattle.std.proofs.lemmas.List.Elements.{All-head, All-tail}
use Rattle.pm_base.specs.Cuts.{Cut}
use Rattle.pm_base.specs.declared.limits.Limits.{Limits}
use Rattle.pm_basis.specs.Prices.{price_at}
use Rattle.pm_bid.specs.Bids.{demand_at}
use Rattle.pm_bid.specs.Clearing.{Clears}
use Rattle.pm_strategy.specs.Strategies.{bid_of}
use Rattle.pm_plan.specs.declared.end.MemberLine.{MemberLine}
use Rattle.pm_plan.specs.declared.end.LimitedLine.{LimitedLine}
use Rattle.pm_plan.specs.Plans.{PlanData, NodeData, node, is_member, node_numbers}
use Rattle.pm_plan.specs.Kept.{IsPlan}
use Rattle.pm_plan.specs.Auction.{EndData, demand_in_cut, sum_in, limited_nodes, total, plain_step, local_step_of_group, power, node_bid}
use Rattle.pm_plan.specs.Auction.{member_line, limited_line, end_in}
use Rattle.pm_plan.specs.States.{state, end_of}
use Rattle.pm_offer.specs.Offers.{local_step_at}
use Rattle.pm_offer.specs.LocalSteps.{IsLocalStep}
use Rattle.pm_offer.specs.EndLines.{TellsMember, told_power, TellsLimited, TellsEnd}
use Rattle.pm_offer.proofs.EndLines.{clears_once, step_only, group_step_only, told_is}
use Rattle.pm_offer.proofs.GroupPowers.{powers_group}

-- a list of lines, each made of its node, is made of its nodes
made_again : {X : Type 0} (f : ℕ → X) (node_of : X → ℕ) (xs : List X) → All (λ x. x ≡ f (node_of x)) xs → xs ≡ map f (map node_of xs)
made_again f node_of [] each = refl
made_again f node_of (x ∷ xs) each =
    ap (λ y. y ∷ xs) (All-head (λ y. y ≡ f (node_of y)) x xs each)
    ∙ ap (λ ys. f (node_of x) ∷ ys) (made_again f node_of xs (All-tail (λ y. y ≡ f (node_of y)) x xs each))

same_member : (n : ℕ) (p q : ℤ) (a b : ℕ) → p ≡ q → a ≡ b →
    record { node = n; power = p; number = a } ≡ (let line : MemberLine = record { node = n; power = q; number = b } in line)
same_member n p q a b powers numbers = cc

same_limited : (n a b : ℕ) (p q : ℤ) → a ≡ b → p ≡ q →
    record { node = n; step = a; total = p } ≡ (let line : LimitedLine = record { node = n; step = b; total = q } in line)
same_limited n a b p q steps totals = cc

same_end : (a b : ℕ) (p q t u : ℤ) (ms ns : List MemberLine) (ls ks : List LimitedLine) → a ≡ b → p ≡ q → t ≡ u → ms ≡ ns → ls ≡ ks →
    record { step = a; price = p; total = t; members = ms; limited = ls }
    ≡ (let end : EndData = record { step = b; price = q; total = u; members = ns; limited = ks } in end)
same_end a b p q t u ms ns ls ks steps prices totals members groups = cc

module _ (plan : PlanData) (is : IsPlan plan) (cut : Cut) where
  member_only : (k : ℕ) → Clears (total plan (state plan) cut) k → (line : MemberLine) → TellsMember plan cut k line →
      line ≡ member_line plan (state plan) cut line.node
  unfolding member_line power demand_in_cut
  member_only k clears line tells =
      let d : ℕ = line.node in
      let at_step : tells.step ≡ local_step_at plan cut d = step_only plan is cut d tells.step (k, clears, tells.goes_by) in
      let its_power : line.power ≡ power plan (state plan) cut d =
      tells.power
      ∙ ap (demand_at (bid_of tells.device.kind (state plan d line.number) plan.arrays plan.basis.steps)) at_step
      ∙ ap (λ (n : ℕ). demand_at (bid_of tells.device.kind (state plan d n) plan.arrays plan.basis.steps) (local_step_at plan cut d)) tells.number
      ∙ sym (ap (λ (bid : List ℤ). demand_at bid (local_step_at plan cut d))
      (cond-true (is_member plan d (cut d)) _ _ tells.member ∙ ap (λ (x : NodeData). node_bid plan x (state plan d (cut d))) tells.planned)) in
      same_member d line.power (power plan (state plan) cut d) line.number (cut d) its_power tells.number

  limited_only : (k : ℕ) (members : List MemberLine) → k ≡ plain_step plan (state plan) cut →
      members ≡ map (member_line plan (state plan) cut) (filter (λ d. is_member plan d (cut d)) (node_numbers plan)) →
      (line : LimitedLine) → TellsLimited plan cut k members line → line ≡ limited_line plan (state plan) cut line.node
  unfolding limited_line local_step_of_group
  limited_only k members at_clearing are line tells =
      let g : ℕ = line.node in
      let its_step : line.step ≡ local_step_of_group plan (state plan) cut (plain_step plan (state plan) cut) g =
      group_step_only plan is cut k g line.step at_clearing
      (subst (λ (l : Option Limits). IsLocalStep (sum_in plan (state plan) cut g) k l line.step) (sym tells.limited) tells.step) in
      same_limited g line.step (local_step_of_group plan (state plan) cut (plain_step plan (state plan) cut) g) line.total
      (demand_at (sum_in plan (state plan) cut g) (local_step_of_group plan (state plan) cut (plain_step plan (state plan) cut) g)) its_step
      (tells.sum ∙ ap (λ (ms : List MemberLine). told_power plan ms g) are ∙ told_is plan is cut g ∙ powers_group plan g cut is)

  -- the end over a cut is the only one that tells it
  pub end_only : (end : EndData) → TellsEnd plan cut end → end ≡ end_of plan cut
  unfolding end_in
  end_only end tells =
      let at_clearing : end.step ≡ plain_step plan (state plan) cut = clears_once plan is cut end.step tells.clears in
      let members_are : end.members ≡ map (member_line plan (state plan) cut) (filter (λ d. is_member plan d (cut d)) (node_numbers plan)) =
      made_again (member_line plan (state plan) cut) (λ (line : MemberLine). line.node) end.members
      (λ i line inside. member_only end.step tells.clears _ (tells.members i line inside))
      ∙ ap (map (member_line plan (state plan) cut)) tells.members_all in
      let limited_are : end.limited ≡ map (limited_line plan (state plan) cut) (limited_nodes plan) =
      made_again (limited_line plan (state plan) cut) (λ (line : LimitedLine). line.node) end.limited
      (λ i line inside. limited_only end.step end.members at_clearing members_are _ (tells.limited i line inside))
      ∙ ap (map (limited_line plan (state plan) cut)) tells.limited_all in
      same_end end.step (plain_step plan (state plan) cut) end.price (price_at plan.basis (plain_step plan (state plan) cut)) end.total
      (demand_at (total plan (state plan) cut) (plain_step plan (state plan) cut)) end.members
      (map (member_line plan (state plan) cut) (filter (λ d. is_member plan d (cut d)) (node_numbers plan))) end.limited
      (map (limited_line plan (state plan) cut) (limited_nodes plan)) at_clearing (tells.price ∙ ap (price_at plan.basis) at_clearing)
      (tells.total ∙ ap (demand_at (total plan (state plan) cut)) at_clearing) members_are limited_are
