-- A port answers the price that the market's definition names.
use Rattle.std.proofs.Common.{◌≡◌, ◌∙◌, sym, ap, refl, ℕ, ◌<◌, Bool, true, false, ◌&&◌, cond, Option, Some, None, arith, inl, inr}
use Rattle.std.proofs.lemmas.Bool.{cases_eq, cond-false, lt-ltb}
use Rattle.std.specs.Prelude.{nat_lt, nat_le}
use Rattle.pm_session.specs.Ports.{held_by}
use Rattle.pm_session.specs.declared.price.PriceUpdate.{PriceUpdate}
use Rattle.pm_session.specs.declared.price.Held.{Held}
use Rattle.pm_market.specs.Lists.{is_member, IsLeaf}
use Rattle.pm_market.specs.State.{State, last_index, cleared_cut}
use Rattle.pm_market.specs.Held.{last_join, holds_price}
use Rattle.pm_plan.specs.Kept.{IsPlan}
use Rattle.pm_plan.specs.Plans.{PlanData}
use Rattle.pm_plan.specs.Market.{plan_lists}
use Rattle.pm_offer.specs.Offers.{local_step_at}
use Rattle.pm_stands.specs.Core.{Core, seat_of}
use Rattle.pm_stands.specs.Stands.{StandsFor}
use Rattle.pm_stands.specs.Current.{held_price}
use Rattle.pm_stands.proofs.Offered.{offer_inside}

-- the answer of a port that was given this price, by whether its device is a member
abbrev answer : Bool → ℕ → Option PriceUpdate → Option Held
answer member join given = held_by (record { joined = cond member (Some join) None; given = given })

answer_none : (member : Bool) (join : ℕ) → answer member join None ≡ None
answer_none true join = refl
answer_none false join = refl

answer_some : (member : Bool) (join step number index : ℕ) → answer member join (Some (record { step = step; number = number; index = index }))
    ≡ cond (member && nat_le join number) (Some (record { step = step; number = number; index = index })) None
answer_some false join step number index = refl
answer_some true join step number index = refl

module _ (plan : PlanData) (c : Core) (s : State) (d : ℕ) (stands : StandsFor plan c s) (leaf : IsLeaf (plan_lists plan) d) where
  abbrev member : Bool
  member = is_member (plan_lists plan) d (s.counts d)

  abbrev join : ℕ
  join = last_join (plan_lists plan) d (s.counts d)

  by_given : (given : Option PriceUpdate) → (seat_of c d).given ≡ given → held_by (seat_of c d) ≡ answer member join given
  by_given given is = ap (λ (j : Option ℕ). held_by (record { joined = j; given = (seat_of c d).given })) (stands.joined d leaf)
      ∙ ap (answer member join) is

  -- a device's port holds what held_price gives in the state stood for, with no premise on the plan
  pub held_agrees_at : held_by (seat_of c d) ≡ held_price plan s d
  unfolding holds_price
  held_agrees_at = elim (cases_eq (last_index s d) 0) [
    | inl none ↦
        by_given None (stands.given_none d leaf none) ∙ answer_none member join
        ∙ sym (cond-false (nat_lt 0 (last_index s d) && member && nat_le join (cleared_cut s (last_index s d) d)) _ None
        (ap (λ (k : ℕ). nat_lt 0 k && member && nat_le join (cleared_cut s (last_index s d) d)) none))
    | inr some ↦
        by_given _ (stands.given d leaf (omega arith)) ∙ answer_some member join _ _ _
        ∙ ap (λ b. cond (b && member && nat_le join (cleared_cut s (last_index s d) d))
        (Some (record { step = local_step_at plan (cleared_cut s (last_index s d)) d; number = cleared_cut s (last_index s d) d; index = last_index s d }))
        None)
        (sym (lt-ltb 0 (last_index s d) (omega arith)))
  ]

-- a port holds the price of the clearing passed to its device last, unless that is of a former membership
pub held_agrees : (plan : PlanData) (c : Core) (s : State) (d : ℕ) → IsPlan plan → StandsFor plan c s → IsLeaf (plan_lists plan) d →
    held_by (seat_of c d) ≡ held_price plan s d
held_agrees plan c s d is_plan stands leaf = held_agrees_at plan c s d stands leaf

step_of : Option Held → ℕ
step_of None = 0
step_of (Some held) = held.step

-- the step that a device holds is a step of the basis
pub held_inside : (plan : PlanData) (c : Core) (s : State) (d : ℕ) (price : Held) → IsPlan plan → StandsFor plan c s → IsLeaf (plan_lists plan) d →
    held_by (seat_of c d) ≡ Some price → price.step < plan.basis.steps
unfolding step_of
held_inside plan c s d price is_plan stands leaf holds =
    some_inside (holds_price (plan_lists plan) s d) (sym (held_agrees plan c s d is_plan stands leaf) ∙ holds)
  where
    some_inside : (b : Bool) →
        cond b (Some (record {
          step = local_step_at plan (cleared_cut s (last_index s d)) d;
          number = cleared_cut s (last_index s d) d;
          index = last_index s d;
        })) None ≡ Some price →
        price.step < plan.basis.steps
    some_inside true is =
        let same : local_step_at plan (cleared_cut s (last_index s d)) d ≡ price.step = ap step_of is in
        omega (arith, same, offer_inside plan is_plan d (cleared_cut s (last_index s d)))
    some_inside false is = (cc)

-- a device that is no member holds no price
pub none_held : (plan : PlanData) (s : State) (d : ℕ) → is_member (plan_lists plan) d (s.counts d) ≡ false → held_price plan s d ≡ None
unfolding holds_price
none_held plan s d out =
    cond-false (holds_price (plan_lists plan) s d) _ None
    (ap (λ b. nat_lt 0 (last_index s d) && b && nat_le (last_join (plan_lists plan) d (s.counts d)) (cleared_cut s (last_index s d) d)) out
    ∙ amid (nat_lt 0 (last_index s d)) _)
  where
    amid : (a b : Bool) → (a && false && b) ≡ false
    amid true b = refl
    amid false b = refl
