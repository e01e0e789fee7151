-- The next change of a device, and what it makes of it.
use Rattle.std.proofs.Common.{◌≡◌, ◌∙◌, sym, ap, subst, ℕ, ◌+◌, ◌-◌, ◌<◌, ◌≤◌, ℤ, pos}
use Rattle.std.proofs.Common.{Bool, true, false, cond, [], ◌∷◌, length, take, arith, inl, inr}
use Rattle.std.specs.Prelude.{Some, IsTrue, slice_index_or}
use Rattle.std.proofs.Math.Logic.{∥∥₁_elim}
use Rattle.std.proofs.Props.{props}
use Rattle.std.proofs.lemmas.Bool.{cases_lt, cond-true, cond-false}
use Rattle.std.proofs.lemmas.List.{take_more}
use Rattle.std.proofs.lemmas.List.Sums.{fold-append}
use Rattle.pm_base.specs.Limits.{demand_limit, IsWithin}
use Rattle.pm_bid.specs.Bids.{demand_at, zeros}
use Rattle.pm_bid.proofs.Sums.{zeros-at}
use Rattle.pm_device.specs.Kinds.{state_fits, minutes_limit}
use Rattle.pm_device.specs.declared.kind.Kind.{Kind}
use Rattle.pm_device.proofs.Between.{Between, is_between-tells}
use Rattle.pm_strategy.specs.Strategies.{bid_of}
use Rattle.pm_market.specs.Lists.{nodes, IsLeaf, end_count, changes}
use Rattle.pm_market.specs.Lists as market
use Rattle.pm_market.specs.State.{State}
use Rattle.pm_market.proofs.Tree.{leaf_node}
use Rattle.pm_plan.specs.declared.planned.Change.{Change as PlannedChange}
use Rattle.pm_plan.specs.declared.planned.Planned.{Planned}
use Rattle.pm_plan.specs.declared.planned.Planned.TheVariants.{Tick}
use Rattle.pm_plan.specs.Devices.{is_member_after, member_after}
use Rattle.pm_plan.specs.Plans.{PlanData, NodeData, node, kind_of, changes_of, is_member, change_count, end_cut, phases}
use Rattle.pm_plan.proofs.PlannedChanges.{planned_change-is}
use Rattle.pm_plan.specs.Kept.{IsPlan, no_change, change_at, change_fits}
use Rattle.pm_plan.specs.Auction.{power, node_bid, demand_in_cut, local_step_in}
use Rattle.pm_plan.specs.States.{state, changed_state}
use Rattle.pm_plan.specs.Market.{plan_lists}
use Rattle.pm_plan.proofs.Ends.{end-none, end-within}
use Rattle.pm_plan.proofs.DeviceNodes.{device-is, kind_of-tells}
use Rattle.pm_plan.proofs.StateLaws.{state-next}
use Rattle.pm_plan.proofs.Fits.{change-fits, state-fits, power-within}
use Rattle.pm_plan.proofs.MarketLists.{changes-is, end-is, is_member-is, phases-is}
use Rattle.pm_offer.specs.Offers.{device_demand}
use Rattle.pm_offer.proofs.Laws.{phase_between}
use Rattle.pm_stands.specs.Core.{Core}
use Rattle.pm_stands.specs.Stands.{StandsFor, Stands}
use Rattle.pm_plan.proofs.MarketLists.{lawful}
use Rattle.pm_cluster.proofs.Parents as parents
use Rattle.pm_plan.proofs.MarketLists.{leaf_of_plan}
use Rattle.pm_base.specs.Cuts.{Cut}
use Rattle.pm_cluster.specs.Next.{count_of, HasNoNext, IsDueChange}

-- what a cluster that stands for a state keeps of a device, in the words of the plan
pub record KeepsDevice (plan : PlanData) (c : Core) (d : ℕ) : Type 0 where
  -- the device made all its changes of the closed phases
  pub from : end_cut plan c.closed d ≤ count_of c d
  -- while a phase is open, the device made no change of a phase after it
  pub to : c.closed < phases plan → count_of c d ≤ end_cut plan (c.closed + 1) d
  -- the device made at most as many changes as the plan has for it
  pub within : count_of c d ≤ change_count plan d
  -- the state kept of the device is the plan's after the changes that it made
  pub has_state : slice_index_or c.states d (pos 0) ≡ state plan d (count_of c d)
  -- once a phase is closed, the power kept of the device is that at the end of the phase closed last
  pub had_power : 0 < c.closed → slice_index_or c.powers d (pos 0) ≡ power plan (state plan) (end_cut plan c.closed) d

-- the number of a device is at least 1 and at most how many nodes the plan has
pub few_nodes : (plan : PlanData) → IsPlan plan → (d : ℕ) → IsLeaf (plan_lists plan) d → (1 ≤ d) × (d ≤ length plan.nodes)
few_nodes plan is_plan d leaf =
    let at = leaf_node (plan_lists plan) (lawful plan is_plan) d leaf in
    (at.0, omega (arith, at.1, parents.nodes_are plan, is_plan.nodes.one_each))

-- the market's numbers of a device are the plan's
pub end_of_market : (plan : PlanData) → IsPlan plan → (p d : ℕ) → IsLeaf (plan_lists plan) d → p ≤ phases plan → end_count
    (plan_lists plan) p d ≡ end_cut plan p d
end_of_market plan is_plan p d leaf le = let at = few_nodes plan is_plan d leaf in end-is plan p d at.0 at.1 le is_plan.in_phases

-- after any number of its changes a device is a member by the market's lists exactly where by the plan
pub member_of_market : (plan : PlanData) → IsPlan plan → (d n : ℕ) → IsLeaf (plan_lists plan) d → n ≤ change_count plan d →
    market.is_member (plan_lists plan) d n ≡ is_member plan d n
member_of_market plan is_plan d n leaf le = let at = few_nodes plan is_plan d leaf in is_member-is plan d n at.0 at.1 le

keeps_in : (plan : PlanData) → IsPlan plan → (c : Core) (s : State) → StandsFor plan c s → (d : ℕ) → IsLeaf (plan_lists plan) d →
    KeepsDevice plan c d
keeps_in plan is_plan c s stands d leaf =
    let at = few_nodes plan is_plan d leaf in
    let closed_le : s.closed ≤ phases plan = omega (arith, stands.sound.closed_within, phases-is plan) in
    record {
      from = omega (
        arith,
        stands.sound.counts_from d leaf,
        stands.counts d leaf,
        end_of_market plan is_plan s.closed d leaf closed_le,
        ap (λ (p : ℕ). end_cut plan p d) stands.closed,
      );
      to = λ open_phase.
          let lt : s.closed < market.phases (plan_lists plan) = omega (arith, phases-is plan, stands.closed, open_phase) in
          omega (
            arith,
            stands.sound.counts_to lt d leaf,
            stands.counts d leaf,
            end_of_market plan is_plan (s.closed + 1) d leaf (omega (arith, phases-is plan, lt)),
            ap (λ (p : ℕ). end_cut plan (p + 1) d) stands.closed,
          );
      within = omega (arith, stands.sound.counts_within d leaf, stands.counts d leaf, changes-is plan d at.0 at.1);
      has_state = stands.states d leaf ∙ ap (state plan d) (sym (stands.counts d leaf));
      had_power = λ positive.
          stands.powers d leaf (omega (arith, positive, stands.closed))
          ∙ ap (λ (p : ℕ). power plan (state plan) (end_cut plan p) d) (sym stands.closed);
    }

-- what a cluster that stands for some state keeps of a device agrees with the plan
pub keeps_device : (plan : PlanData) → IsPlan plan → (c : Core) → ∥ Stands plan c ∥₁ → (d : ℕ) → IsLeaf (plan_lists plan) d →
    KeepsDevice plan c d
keeps_device plan is_plan c stands d leaf = ∥∥₁_elim stands (Prim.hlevel props) (λ st. keeps_in plan is_plan c st.state st.is d leaf)

-- before the first change no device has power
pub power_first : (plan : PlanData) → IsPlan plan → (d : ℕ) → power plan (state plan) (end_cut plan 0) d ≡ pos 0
unfolding power demand_in_cut is_member
power_first plan is_plan d =
    let none : is_member plan d (end_cut plan 0 d) ≡ false = ap (is_member plan d) (end-none plan d is_plan.in_phases) in
    ap (λ bid. demand_at bid (local_step_in plan (state plan) (end_cut plan 0) d))
    (cond-false (is_member plan d (end_cut plan 0 d)) _ _ none)
    ∙ zeros-at plan.basis.steps (local_step_in plan (state plan) (end_cut plan 0) d)

-- whether it makes the device a member
pub member_next : (plan : PlanData) (d n : ℕ) → n < change_count plan d → member_after (is_member plan d n) (change_at plan d n).what
    ≡ is_member plan d (n + 1)
unfolding is_member
member_next plan d n inside =
    let changes = changes_of (node plan d) in
    sym (ap is_member_after (take_more changes n no_change inside)
    ∙ fold-append (λ (member : Bool) (c : PlannedChange). member_after member c.what) false (take n changes) (change_at plan d n ∷ []))

-- the state that it makes, by the power at the end of phase p where it is of the phase after p
pub state_next : (plan : PlanData) → IsPlan plan → (d n p : ℕ) (kind : Kind) → kind_of (node plan d) ≡ Some kind → end_cut plan p d ≤ n →
    n < end_cut plan (p + 1) d →
    state plan d (n + 1) ≡ changed_state kind (state plan d n) (power plan (state plan) (end_cut plan p) d) (change_at plan d n).what
state_next plan is_plan d n p kind kind_is from to =
    let has = kind_of-tells (node plan d) kind kind_is in
    let inside : n < change_count plan d = omega (arith, end-within plan (p + 1) d) in
    let phase : (change_at plan d n).phase ≡ p + 1 = phase_between plan p d n is_plan from to in
    let before : (change_at plan d n).phase - 1 ≡ p = omega arith in
    state-next plan d n has.planned is_plan.in_phases has.is inside
    ∙ ap (λ (q : ℕ). changed_state has.planned.kind (state plan d n) (power plan (state plan) (end_cut plan q) d) (change_at plan d n).what) before
    ∙ ap (λ (k : Kind). changed_state k (state plan d n) (power plan (state plan) (end_cut plan p) d) (change_at plan d n).what) has.kind_is

-- the change that is due is the plan's after those that the device made, of which the plan has more
pub due_inside : (plan : PlanData) (closed : ℕ) (counts : Cut) (d : ℕ) (what : Planned) → IsDueChange plan closed counts d what →
    counts d < change_count plan d
due_inside plan closed counts d what due = omega (arith, due.of_phase, end-within plan (closed + 1) d)

-- and it is that change
pub due_is : (plan : PlanData) (closed : ℕ) (counts : Cut) (d : ℕ) (what : Planned) → IsDueChange plan closed counts d what →
    what ≡ (change_at plan d (counts d)).what
due_is plan closed counts d what due =
    let same : Some what ≡ Some (change_at plan d (counts d)).what =
    sym due.planned ∙ planned_change-is plan d (counts d) (due_inside plan closed counts d what due) in
    cc same

-- it fits the device's kind
pub what_fits : (plan : PlanData) → IsPlan plan → (d n : ℕ) (kind : Kind) (what : Planned) → kind_of (node plan d) ≡ Some kind →
    n < change_count plan d → what ≡ (change_at plan d n).what → IsTrue (change_fits kind what)
what_fits plan is_plan d n kind what kind_is inside e =
    let has = kind_of-tells (node plan d) kind kind_is in
    subst (λ (k : Kind). IsTrue (change_fits k what)) has.kind_is
    (subst (λ (w : Planned). IsTrue (change_fits has.planned.kind w)) (sym e) (change-fits plan d n has.planned is_plan has.is inside))

-- the state of a device after its first n changes, for each n up to the last, is one its kind may have
pub state_valid : (plan : PlanData) → IsPlan plan → (d n : ℕ) (kind : Kind) (z : ℤ) → kind_of (node plan d) ≡ Some kind →
    n ≤ change_count plan d →
    z ≡ state plan d n → IsTrue (state_fits kind z)
state_valid plan is_plan d n kind z kind_is le e =
    let has = kind_of-tells (node plan d) kind kind_is in
    subst (λ (k : Kind). IsTrue (state_fits k z)) has.kind_is
    (subst (λ (y : ℤ). IsTrue (state_fits has.planned.kind y)) (sym e) (state-fits plan d n has.planned is_plan has.is le))

-- the power of a node at the end of any phase lies within the limit of a demand
pub power_valid : (plan : PlanData) → IsPlan plan → (d p : ℕ) (z : ℤ) → z ≡ power plan (state plan) (end_cut plan p) d → IsWithin demand_limit z
power_valid plan is_plan d p z e = subst (IsWithin demand_limit) (sym e) (power-within plan (end_cut plan p) d is_plan (end-within plan p d))

-- the demand of a device of a kind
pub demand_of_kind : (plan : PlanData) (d n : ℕ) (kind : Kind) → kind_of (node plan d) ≡ Some kind →
    device_demand plan d n ≡ cond (is_member plan d n) (bid_of kind (state plan d n) plan.arrays plan.basis.steps) (zeros plan.basis.steps)
unfolding demand_in_cut
demand_of_kind plan d n kind kind_is =
    let has = kind_of-tells (node plan d) kind kind_is in
    ap (λ (m : NodeData). cond (is_member plan d n) (node_bid plan m (state plan d n)) (zeros plan.basis.steps)) has.is
    ∙ ap (λ (k : Kind). cond (is_member plan d n) (bid_of k (state plan d n) plan.arrays plan.basis.steps) (zeros plan.basis.steps)) has.kind_is

-- the demand of a device that is a member after n changes is its kind's bid for its state then
pub demand_of_member : (plan : PlanData) (d n : ℕ) (kind : Kind) → kind_of (node plan d) ≡ Some kind → is_member plan d n ≡ true →
    device_demand plan d n ≡ bid_of kind (state plan d n) plan.arrays plan.basis.steps
demand_of_member plan d n kind kind_is member = demand_of_kind plan d n kind kind_is ∙ cond-true (is_member plan d n) _ _ member

-- the demand of a device that is no member after n changes is zero at each step
pub demand_of_none : (plan : PlanData) (d n : ℕ) (kind : Kind) → kind_of (node plan d) ≡ Some kind → is_member plan d n ≡ false →
    device_demand plan d n ≡ zeros plan.basis.steps
demand_of_none plan d n kind kind_is none = demand_of_kind plan d n kind kind_is ∙ cond-false (is_member plan d n) _ _ none

-- no next change: no phase is open, or the count is that of its end
pub no_next : (plan : PlanData) (c : Core) (d due : ℕ) → KeepsDevice plan c d → (c.closed < phases plan → due ≡ end_cut plan (c.closed + 1) d) →
    (c.closed < phases plan → due ≤ count_of c d) → HasNoNext plan c.closed (count_of c) d
no_next plan c d due keeps is le = elim (cases_lt c.closed (phases plan)) [
  | inl lt ↦ inr (omega (arith, keeps.to lt, is lt, le lt))
  | inr ge ↦ inl (omega arith)
]

-- a device has a kind
pub has_kind : (plan : PlanData) → IsPlan plan → (d : ℕ) → IsLeaf (plan_lists plan) d → (kind : Kind) × (kind_of (node plan d) ≡ Some kind)
has_kind plan is_plan d leaf =
    let has = device-is (node plan d) (is_plan.nodes.devices d ∙ leaf_of_plan plan d leaf) in
    (has.0.kind, ap kind_of has.1)

-- whether a device is a member after the change that is due, where that is what the change makes of it
pub member_after_due : (plan : PlanData) (closed : ℕ) (counts : Cut) (d : ℕ) (what : Planned) → IsDueChange plan closed counts d what →
    (member : Bool) → member ≡ member_after (is_member plan d (counts d)) what → member ≡ is_member plan d (counts d + 1)
member_after_due plan closed counts d what due member is =
    is ∙ ap (member_after (is_member plan d (counts d))) (due_is plan closed counts d what due)
    ∙ member_next plan d (counts d) (due_inside plan closed counts d what due)

-- the state of a device after the change that is due, where that is what the change makes of the state that is kept
pub state_after_due : (plan : PlanData) → IsPlan plan → (c : Core) → ∥ Stands plan c ∥₁ → (d : ℕ) (what : Planned) →
    IsLeaf (plan_lists plan) d →
    IsDueChange plan c.closed (count_of c) d what → (z : ℤ) → ((kind : Kind) → kind_of (node plan d) ≡ Some kind →
    z ≡ changed_state kind (slice_index_or c.states d (pos 0)) (power plan (state plan) (end_cut plan c.closed) d) what) →
    z ≡ state plan d (count_of c d + 1)
state_after_due plan is_plan c stands d what leaf due z is =
    let keeps = keeps_device plan is_plan c stands d leaf in
    let kind = has_kind plan is_plan d leaf in
    let before = power plan (state plan) (end_cut plan c.closed) d in
    is kind.0 kind.1
    ∙ ap (λ (y : ℤ). changed_state kind.0 y before what) keeps.has_state
    ∙ ap (changed_state kind.0 (state plan d (count_of c d)) before) (due_is plan c.closed (count_of c) d what due)
    ∙ sym (state_next plan is_plan d (count_of c d) c.closed kind.0 kind.1 keeps.from due.of_phase)

-- the minutes of a tick
pub minutes_valid : (plan : PlanData) → IsPlan plan → (d n : ℕ) (kind : Kind) (minutes : ℤ) → kind_of (node plan d) ≡ Some kind →
    n < change_count plan d → Tick minutes ≡ (change_at plan d n).what → Between (pos 1) (pos minutes_limit) minutes
minutes_valid plan is_plan d n kind minutes kind_is inside e =
    is_between-tells (pos 1) (pos minutes_limit) minutes (what_fits plan is_plan d n kind (Tick minutes) kind_is inside e)
