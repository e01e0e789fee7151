-- One more change of a device.
use Rattle.std.proofs.Common.{◌≡◌, ◌∙◌, sym, ap, ℕ, zero, suc, ◌+◌, ◌-◌, ◌<◌, ◌≤◌, ℤ, Bool, true, false, List, [], ◌∷◌}
use Rattle.std.proofs.Common.{length, take, get_or, arith, refl, subst}
use Rattle.std.specs.Prelude.{Option, Some, IsTrue}
use Rattle.std.specs.List.{prefix_len}
use Rattle.std.proofs.lemmas.Bool.Decides.{nat_tests}
use Rattle.std.proofs.lemmas.List.{take_more}
use Rattle.std.proofs.lemmas.List.Sums.{fold-append, sum_by-cons, prefix_len_stops}
use Rattle.pm_base.specs.Limits.{demand_limit, IsWithin, most_changes}
use Rattle.pm_device.specs.Kinds.{is_valid, state_fits}
use Rattle.pm_device.specs.declared.kind.Kind.{Kind}
use Rattle.pm_plan.specs.declared.planned.Change.{Change}
use Rattle.pm_plan.specs.declared.planned.Planned.{Planned}
use Rattle.pm_plan.specs.Devices.{is_member_after, member_after}
use Rattle.pm_plan.specs.Plans.{PlanData, node, kind_of, changes_of, is_leaf, is_up_to, is_member, change_count, all_changes, NodeData, node_at, planned_change}
use Rattle.pm_plan.specs.Plans.{planned_change_at, end_cut}
use Rattle.pm_plan.specs.Kept.{IsPlan, no_change, change_at, change_fits, InPhases}
use Rattle.pm_plan.specs.Auction.{power}
use Rattle.pm_plan.specs.States.{state, changed_state}
use Rattle.pm_walk.specs.declared.changes.Progress.{Progress}
use Rattle.pm_walk.specs.Standing.{HasCome}
use Rattle.pm_plan.proofs.Ends.{end-within}
use Rattle.pm_plan.proofs.DeviceNodes.{HasKind, kind_of-tells}
use Rattle.pm_plan.proofs.StateLaws.{phase_up_to, state-next}
use Rattle.pm_plan.proofs.PlannedChanges.{planned_change-is}
use Rattle.pm_plan.proofs.Fits.{change-fits, state-fits, power-within}

-- a change behind the end of the phases up to p is of a later phase
later : (plan : PlanData) (d p n : ℕ) → InPhases plan → n < change_count plan d → end_cut plan p d ≤ n → p < (change_at plan d n).phase
unfolding end_cut
later plan d p n fits inside behind =
    let changes = changes_of (node plan d) in
    let e = prefix_len (is_up_to p) changes in
    let stops = prefix_len_stops (is_up_to p) changes no_change (omega arith) in
    let rises : (change_at plan d e).phase ≤ (change_at plan d n).phase = fits.rise d e n behind inside in
    let above : p < (change_at plan d e).phase = grind (arith, nat_tests) in
    omega arith

-- the power of a device at the end of a phase is within the limit of one demand
pub used-within : (plan : PlanData) (p d : ℕ) (used : ℤ) → IsPlan plan → used ≡ power plan (state plan) (end_cut plan p) d →
    IsWithin demand_limit used
used-within plan p d used is used_is =
    subst (IsWithin demand_limit) (sym used_is) (power-within plan (end_cut plan p) d is (end-within plan p d))

is_member-next : (plan : PlanData) (d n : ℕ) → n < change_count plan d →
    is_member plan d (n + 1) ≡ member_after (is_member plan d n) (change_at plan d n).what
unfolding is_member
is_member-next plan d n inside =
    let changes = changes_of (node plan d) in
    ap is_member_after (take_more changes n no_change inside)
    ∙ fold-append (λ (member : Bool) (c : Change). member_after member c.what) false (take n changes) (change_at plan d n ∷ [])

-- a device that makes its next change, which is of phase p
pub reached-more : (plan : PlanData) (d p : ℕ) (before after' : Progress) (kind : Kind) (used : ℤ) (what : Planned) → IsPlan plan →
    is_leaf plan d ≡ true → HasKind (node plan d) kind → 1 ≤ p → HasCome plan d before →
    before.count < end_cut plan p d → end_cut plan (p - 1) d ≤ before.count →
    used ≡ power plan (state plan) (end_cut plan (p - 1)) d → what ≡ (change_at plan d before.count).what →
    after'.count ≡ before.count + 1 → after'.state.0 ≡ changed_state kind before.state.0 used what →
    after'.member ≡ member_after before.member what →
    HasCome plan d after'
reached-more plan d p before after' kind used what is leaf has first reached upto from used_is what_is count state' member =
    let n = before.count in
    let inside : n < change_count plan d = omega (arith, end-within plan p d) in
    let phase = phase_up_to plan d p n upto in
    let behind = later plan d (p - 1) n is.in_phases inside from in
    let same : (change_at plan d n).phase - 1 ≡ p - 1 = omega arith in
    record {
      within = omega arith;
      state = λ h.
          state'
          ∙ ap (λ k. changed_state k before.state.0 used what) (sym has.kind_is)
          ∙ ap (λ w. changed_state has.planned.kind before.state.0 used w) what_is
          ∙ ap (λ z. changed_state has.planned.kind z used (change_at plan d n).what) (reached.state leaf)
          ∙ ap (λ w. changed_state has.planned.kind (state plan d n) w (change_at plan d n).what)
          (used_is ∙ ap (λ q. power plan (state plan) (end_cut plan q) d) (sym same))
          ∙ sym (state-next plan d n has.planned is.in_phases has.is inside)
          ∙ ap (state plan d) (sym count);
      member =
          member ∙ ap (λ w. member_after before.member w) what_is ∙ ap (λ m. member_after m (change_at plan d n).what) reached.member
          ∙ sym (is_member-next plan d n inside) ∙ ap (is_member plan d) (sym count);
    }

-- the kind of a device is valid
pub kind-valid : (plan : PlanData) (d : ℕ) (kind : Kind) → IsPlan plan → kind_of (node plan d) ≡ Some kind → IsTrue (is_valid kind)
kind-valid plan d kind is kind_is =
    let has = kind_of-tells (node plan d) kind kind_is in
    subst (λ (k : Kind). IsTrue (is_valid k)) has.kind_is (is.within.devices d has.planned has.is).kind

-- the state of a device that has come so far fits its kind
pub reached-fits : (plan : PlanData) (d : ℕ) (here : Progress) (kind : Kind) → IsPlan plan → is_leaf plan d ≡ true → HasCome plan d here →
    kind_of (node plan d) ≡ Some kind → IsTrue (state_fits kind here.state.0)
reached-fits plan d here kind is leaf reached kind_is =
    let has = kind_of-tells (node plan d) kind kind_is in
    subst (λ (k : Kind). IsTrue (state_fits k here.state.0)) has.kind_is
    (subst (λ z. IsTrue (state_fits has.planned.kind z)) (sym (reached.state leaf)) (state-fits plan d here.count has.planned is has.is reached.within))

-- what is known of the next change of a device
pub record IsNext (plan : PlanData) (d n : ℕ) (found : Option Planned) (what : Planned) : Type 0 where
  -- what was found is change number n + 1 of the device
  pub found_is : found ≡ planned_change plan d (n + 1)
  -- what was found is this change
  pub what_is : found ≡ Some what

some_is : {A : Type 0} (x y : A) → Some x ≡ Some y → x ≡ y
some_is x y h = cc h

-- the next change that was found is that at place n of the device, counted from 0
pub next-is : (plan : PlanData) (d n : ℕ) (found : Option Planned) (what : Planned) → n < change_count plan d →
    IsNext plan d n found what → what ≡ (change_at plan d n).what
next-is plan d n found what inside next = some_is what (change_at plan d n).what (sym next.what_is ∙ next.found_is ∙ planned_change-is plan d n inside)

-- the next change that was found fits the kind of the device
pub next-fits : (plan : PlanData) (d n : ℕ) (found : Option Planned) (what : Planned) (kind : Kind) → IsPlan plan → n < change_count plan d →
    IsNext plan d n found what → kind_of (node plan d) ≡ Some kind → IsTrue (change_fits kind what)
next-fits plan d n found what kind is inside next kind_is =
    let has = kind_of-tells (node plan d) kind kind_is in
    subst (λ (k : Kind). IsTrue (change_fits k what)) has.kind_is
    (subst (λ (w : Planned). IsTrue (change_fits has.planned.kind w)) (sym (next-is plan d n found what inside next))
    (change-fits plan d n has.planned is has.is inside))
