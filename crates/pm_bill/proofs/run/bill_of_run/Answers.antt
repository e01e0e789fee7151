-- Of `bill_of_run`: its clause `leaves`; what the call of `tick` requires; the turns of its loop over `phase`.
use Rattle.std.proofs.Common.{rules, ◌≡◌, ◌∙◌, sym, ap, subst, ℕ, ◌+◌, ◌-◌, ◌≤◌, length, arith, ℤ, List, to_z, of_z, w64}
use Rattle.std.proofs.Common.{FitsSigned, Some, Bool}
use Rattle.std.specs.Prelude.{IsTrue, is_some, true, false}
use Rattle.std.proofs.lemmas.Int.{to_z-of_z}
use Rattle.pm_plan.specs.Plans.{PlanData, minutes_of}
use Rattle.pm_plan.specs.Kept.{are_minutes}
use Rattle.pm_bill.specs.declared.share.Share.{Share}
use Rattle.pm_bill.specs.declared.share.GroupSum.{GroupSum}
use Rattle.pm_bill.specs.Bills.{BillData}
use Rattle.pm_bill.specs.Shares.{AreShares}
use Rattle.pm_bill.specs.Runs.{cut_before, bill_over}
use Rattle.pm_bill.specs.Charges.{AreCharges}
use Rattle.pm_bill.proofs.RunBills.{is_tick, ticks_to, first_bill, few_ticks, one_more_tick, no_more_tick, next_bill, bill_over-leaves, bill_over-ticks}
use Rattle.pm_bill.proofs.run.bill_of_run.Goals as goal
use Rattle.pm_bill.proofs.run.bill_of_run.Goals.{in-Some+in_ok-charges, in_default}

-- the charges as the slices that are lent
lent : (plan : PlanData) (p : ℕ) (shares shares' : List Share) (groups groups' : List GroupSum) → shares' ≡ shares → groups' ≡ groups →
    AreCharges plan (cut_before plan p) shares groups → AreCharges plan (cut_before plan p) shares' groups'
lent plan p shares shares' groups groups' same_shares same_groups are = rw (same_shares, same_groups) are

-- the bill up to the phase after this one
up_to : (plan : PlanData) (p : ℕ) (bill : BillData) → bill ≡ bill_over plan (ticks_to plan p) → bill ≡ bill_over plan (ticks_to plan (p + 1 - 1))
up_to plan p bill is = let same : p ≡ p + 1 - 1 = omega arith in is ∙ ap (λ k. bill_over plan (ticks_to plan k)) same

pub loop-phase-init : goal.loop-phase-init
loop-phase-init c = c.in_ok-bill.ensures ∙ first_bill c.args.plan.now c.phases-phase-end.ensures.sound

pub tick-requires-clause-ticks : goal.tick-requires-clause-ticks
tick-requires-clause-ticks c =
    let plan = c.args.plan.now in
    let before = ticks_to plan (c.loop-phase.phase - 1) in
    let ticks : c.loop-phase.bill.ticks ≡ length before =
    ap (λ (bill : BillData). bill.ticks) c.loop-phase.invariant ∙ bill_over-ticks plan before in
    let most = c.phases-phase-end.ensures.sound.within.few_phases in
    omega (arith, ticks, few_ticks plan (c.loop-phase.phase - 1), most)

pub tick-requires-clause-minutes : goal.tick-requires-clause-minutes
tick-requires-clause-minutes c =
    let fits : FitsSigned w64 c.in-Some.minutes = search rules in
    let some = sym c.minutes.ensures ∙ c.in-Some.is in
    subst (λ (z : ℤ). IsTrue (are_minutes z)) (sym (to_z-of_z w64 c.in-Some.minutes fits))
    (c.phases-phase-end.ensures.sound.within.minutes c.loop-phase.phase c.in-Some.minutes some)

pub tick-requires-clause-groups : goal.tick-requires-clause-groups
tick-requires-clause-groups c =
    (lent c.args.plan.now c.loop-phase.phase _ _ _ _ c.deref.ensures.value c.deref-in-Some.ensures.value c.in_ok-charges.ensures).are_groups

pub tick-requires-clause-same : goal.tick-requires-clause-same
tick-requires-clause-same c =
    (lent c.args.plan.now c.loop-phase.phase _ _ _ _ c.deref.ensures.value c.deref-in-Some.ensures.value c.in_ok-charges.ensures).same

pub tick-requires-clause-shares : goal.tick-requires-clause-shares
tick-requires-clause-shares c =
    let plan = c.args.plan.now in
    let leaves = ap (λ (bill : BillData). bill.leaves) c.loop-phase.invariant ∙ bill_over-leaves plan (ticks_to plan (c.loop-phase.phase - 1)) in
    let are = lent plan c.loop-phase.phase _ _ _ _ c.deref.ensures.value c.deref-in-Some.ensures.value c.in_ok-charges.ensures in
    subst (λ (own : List Bool). AreShares own c.deref.result.now) (sym leaves) are.are_shares

pub loop-phase-preserved : goal.loop-phase-preserved
loop-phase-preserved c =
    let plan = c.args.plan.now in
    let p = c.loop-phase.phase in
    let first : 1 ≤ p = c.loop-phase.auto.phase in
    elim c.match-minutes.branch [
      | in-Some+in_ok-charges w ↦
          let m : ℤ = to_z w64 (of_z w64 w.in-Some.minutes) in
          let fits : FitsSigned w64 w.in-Some.minutes = search rules in
          let some : minutes_of plan p ≡ Some m = sym c.minutes.ensures ∙ w.in-Some.is ∙ ap Some (sym (to_z-of_z w64 w.in-Some.minutes fits)) in
          let are = lent plan p _ _ _ _ w.deref.ensures.value w.deref-in-Some.ensures.value w.in_ok-charges.ensures in
          let tick : is_tick plan p ≡ true = ap is_some some in
          up_to plan p c.match-minutes.bill
          (w.bill-is
          ∙ next_bill plan (ticks_to plan (p - 1)) p m w.deref.result.now w.deref-in-Some.result.now c.loop-phase.bill w.tick.new.self
          c.loop-phase.invariant some are (record {
            accounts = w.tick.ensures.accounts;
            grid = w.tick.ensures.grid;
            one_each = w.tick.ensures.one_each;
            leaves = w.tick.ensures.leaves;
            ticks = w.tick.ensures.ticks;
            minutes = w.tick.ensures.minutes;
          })
          ∙ ap (bill_over plan) (sym (one_more_tick plan p first tick)))
      | in_default w ↦
          let events : is_tick plan p ≡ false = ap is_some (sym c.minutes.ensures ∙ w.in_default.is) in
          up_to plan p c.match-minutes.bill
          (w.bill-is ∙ c.loop-phase.invariant ∙ ap (bill_over plan) (sym (no_more_tick plan p first events)))
    ]

pub returns-clause-leaves : goal.returns-clause-leaves
returns-clause-leaves c = ap (λ (bill : BillData). bill.leaves) c.loop-phase.invariant ∙ bill_over-leaves c.args.plan.now _
