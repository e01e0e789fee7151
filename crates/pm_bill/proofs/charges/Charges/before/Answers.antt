-- Of `Charges::before`: what it ensures; what the calls of `bounds` and `at` require.
use Rattle.std.proofs.Common.{◌≡◌, ◌∙◌, sym, ap, subst, ℕ, ◌-◌, ◌≤◌, List, [], length, get_or, arith, Result, Ok, Err, IfOk}
use Rattle.std.proofs.lemmas.List.{length-map, get_or-map}
use Rattle.std.proofs.lemmas.List.FromFn.{get_or-map-range_with_len, length-map-range_with_len}
use Rattle.pm_base.specs.Cuts.{Cut}
use Rattle.pm_plan.specs.Plans.{PlanData, phases, end_cut}
use Rattle.pm_plan.specs.Kept.{IsPlan}
use Rattle.pm_plan.specs.Auction.{EndData}
use Rattle.pm_plan.specs.Ends.{EndValue}
use Rattle.pm_plan.specs.States.{end_of, all_ends}
use Rattle.pm_plan.proofs.Ends.{end-within}
use Rattle.pm_report.specs.Report.{ends_of}
use Rattle.pm_bill.specs.declared.share.Share.{Share}
use Rattle.pm_bill.specs.declared.share.GroupSum.{GroupSum}
use Rattle.pm_bill.specs.Runs.{cut_before}
use Rattle.pm_bill.specs.Charges.{member_shares, end_groups, MayBeCharged, AreCharges}
use Rattle.pm_bill.proofs.Charged.{charges_of, charges_of_none, none_at_start}
use Rattle.pm_bill.proofs.EndCharges.{may_charge, shares_at_end, groups_at_end}
use Rattle.pm_bill.proofs.charges.Charges.before.Goals as goal

-- there is an end for each phase
one_each : (plan : PlanData) (ends : List EndValue) → ends_of ends ≡ all_ends plan → length ends ≡ phases plan
one_each plan ends are =
    sym (length-map ends (λ (e : EndValue). e.end)) ∙ ap length are ∙ length-map-range_with_len (λ p. end_of plan (end_cut plan p)) 1 (phases plan)

-- the end before phase p, which is not the first
end_before : (plan : PlanData) (ends : List EndValue) (p : ℕ) (end : EndValue) → ends_of ends ≡ all_ends plan → 2 ≤ p → p ≤ phases plan →
    end ≡ get_or ends (p - 2) end → end.end ≡ end_of plan (cut_before plan p)
end_before plan ends p end are second last read =
    let long = one_each plan ends are in
    ap (λ (e : EndValue). e.end) read
    ∙ sym (get_or-map (λ (e : EndValue). e.end) ends (p - 2) end end.end (omega arith))
    ∙ ap (λ (all : List EndData). get_or all (p - 2) end.end) are
    ∙ get_or-map-range_with_len (λ k. end_of plan (end_cut plan k)) 1 (phases plan) (p - 2) (p - 1) end.end (omega arith) (omega arith)

-- the charges at that end
charged : (plan : PlanData) (p : ℕ) (end : EndData) (shares : List Share) (groups : List GroupSum) → IsPlan plan →
    end ≡ end_of plan (cut_before plan p) →
    shares ≡ member_shares plan end → groups ≡ end_groups plan end → AreCharges plan (cut_before plan p) shares groups
charged plan p end shares groups is same shares_are groups_are =
    let cut : Cut = cut_before plan p in
    let share = shares_are ∙ ap (member_shares plan) same ∙ shares_at_end plan cut is in
    let group = groups_are ∙ ap (end_groups plan) same ∙ groups_at_end plan cut is in
    rw (share, group) (charges_of plan cut is (λ d. end-within plan (p - 1) d))

-- no charges in the first phase
not_charged : (plan : PlanData) (p : ℕ) (shares : List Share) (groups : List GroupSum) → IsPlan plan → p ≡ 1 →
    shares ≡ [] → groups ≡ [] → AreCharges plan (cut_before plan p) shares groups
not_charged plan p shares groups is first shares_are groups_are =
    rw (first, shares_are, groups_are) (charges_of_none plan (cut_before plan 1) is (none_at_start plan is))

pub bounds-ends-phase : goal.bounds-ends-phase
bounds-ends-phase c =
    let long = one_each c.args.plan.now c.args.ends.now c.requires.ends in
    omega arith

-- what two facts of an answer give
both_ok : {A E : Type 0} (r : Result A E) (P Q R : A → Type 0) → ((a : A) → P a → Q a → R a) → IfOk r P → IfOk r Q → IfOk r R
both_ok (Ok a) P Q R both one other = both a one other
both_ok (Err e) P Q R both one other = tt

-- a phase that is not the first has one before it
is_before : (phase : ℕ) → (phase ≡ 1 → ⊥) → 1 ≤ phase → 2 ≤ phase
is_before phase other first = omega arith

pub at-requires : goal.at-requires
at-requires c =
    let plan = c.args.plan.now in
    let end = end_before plan c.args.ends.now c.args.phase c.index-ends-phase.result c.requires.ends
    (is_before c.args.phase c.if-phase-eq1.false c.requires.first) c.requires.last c.index-ends-phase.is in
    subst (MayBeCharged plan) (sym end) (may_charge plan (c.args.phase - 1) c.requires.sound)

pub returns-then-phase-eq1 : goal.returns-then-phase-eq1
returns-then-phase-eq1 c =
    not_charged c.args.plan.now c.args.phase _ _ c.requires.sound c.if-phase-eq1.true c.none.ensures.shares c.none.ensures.groups

pub returns : goal.returns
returns c =
    let plan = c.args.plan.now in
    let end = end_before plan c.args.ends.now c.args.phase c.index-ends-phase.result c.requires.ends
    (is_before c.args.phase c.if-phase-eq1.false c.requires.first) c.requires.last c.index-ends-phase.is in
    both_ok c.at.result _ _ _
    (λ charges shares groups. charged plan c.args.phase c.index-ends-phase.result.end charges.shares.items charges.groups.items
    c.requires.sound end shares groups)
    c.at.ensures.shares c.at.ensures.groups
