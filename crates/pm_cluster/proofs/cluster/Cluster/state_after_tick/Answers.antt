-- Of `Cluster::state_after_tick`: what it ensures; what the call of `advance` requires.
use Rattle.std.proofs.Common.{◌≡◌, ◌∙◌, sym, ap, subst, ℤ, pos, to_z, of_z, arith}
use Rattle.std.proofs.lemmas.Int.{ints, to_z-of_z}
use Rattle.std.specs.Prelude.{FitsSigned, Some, slice_index_or}
use mir.Syntax.{w64}
use Rattle.pm_base.specs.Limits.{demand_limit, IsWithin}
use Rattle.pm_device.specs.Ticks.{tick}
use Rattle.pm_device.specs.Kinds.{minutes_limit}
use Rattle.pm_device.specs.declared.kind.Kind.{Kind}
use Rattle.pm_device.proofs.Between.{Between}
use Rattle.pm_plan.specs.declared.planned.Planned.TheVariants.{Tick}
use Rattle.pm_plan.specs.Auction.{power}
use Rattle.pm_plan.specs.Plans.{NodeData, node, kind_of, end_cut}
use Rattle.pm_plan.specs.States.{state}
use Rattle.pm_cluster.specs.Clusters.{ClusterValue}
use Rattle.pm_cluster.specs.ClusterFields.{core_of}
use Rattle.pm_cluster.specs.Next.{IsDueChange, count_of}
use Rattle.pm_cluster.proofs.Kept.{leaf_in}
use Rattle.pm_plan.proofs.Fits.{kind_valid}
use Rattle.pm_cluster.proofs.NextChanges.{keeps_device, state_valid, power_valid, minutes_valid, due_inside, due_is}
use Rattle.pm_cluster.proofs.DeviceFields.{state_read, state_made, due_in}
use Rattle.pm_cluster.proofs.cluster.Cluster.state_after_tick.Goals as goal
use Rattle.pm_cluster.proofs.cluster.Cluster.state_after_tick.Goals.{After-power_before}

-- what was read and found before the tick, in the fields' words
record Ticks (c : After-power_before) : Type 0 where
  -- the change that is due
  due : IsDueChange c.self.inside.plan.now c.self.inside.closed (count_of (core_of c.self.inside)) c.args.device.0 (Tick c.args.minutes)
  -- the state before
  before : c.index-before.result.now.0 ≡ slice_index_or (core_of c.self.inside).states c.args.device.0 (pos 0)
  -- that state by the plan
  has_state : c.index-before.result.now.0 ≡ state c.self.inside.plan.now c.args.device.0 (count_of (core_of c.self.inside) c.args.device.0)
  -- the power before
  power : c.power_before.result ≡ power c.self.inside.plan.now (state c.self.inside.plan.now)
      (end_cut c.self.inside.plan.now c.self.inside.closed) c.args.device.0
  -- the limits of that power
  power_within : IsWithin demand_limit c.power_before.result
  -- the limits of the minutes
  minutes_within : Between (pos 1) (pos minutes_limit) c.args.minutes

ticks : (c : After-power_before) → Ticks c
ticks c =
    let v = c.args.self.now in
    let plan = c.self.inside.plan.now in
    let d = c.args.device.0 in
    let due = due_in c.self.inside v c.self.view_is d (Tick c.args.minutes) c.requires.due in
    let before = state_read c.self.inside c.self.invariant v c.self.view_is d c.requires.leaf _ c.index-before.ensures in
    let leaf = leaf_in c.self.inside v d c.self.view_is c.requires.leaf in
    let keeps = keeps_device plan c.self.invariant.is_plan (core_of c.self.inside) c.self.invariant.stands d leaf in
    let Power : ClusterValue → Type 0 = λ v. c.power_before.result ≡ power v.plan (state v.plan) (end_cut v.plan v.core.closed) d in
    let power_is = subst Power (sym c.self.view_is) c.power_before.ensures.power in
    record {
      due = due;
      before = before;
      has_state = before ∙ keeps.has_state;
      power = power_is;
      power_within = power_valid plan c.self.invariant.is_plan d c.self.inside.closed _ power_is;
      minutes_within = minutes_valid plan c.self.invariant.is_plan d (count_of (core_of c.self.inside) d) c.kind-kind.result c.args.minutes
          c.kind-kind.ensures.kind (due_inside plan c.self.inside.closed (count_of (core_of c.self.inside)) d (Tick c.args.minutes) due)
          (due_is plan c.self.inside.closed (count_of (core_of c.self.inside)) d (Tick c.args.minutes) due);
    }

power_same : (c : After-power_before) → to_z w64 (of_z w64 c.power_before.result) ≡ c.power_before.result
power_same c =
    let within = (ticks c).power_within in
    let fits : FitsSigned w64 c.power_before.result = omega (arith, ints, within.low, within.high) in
    to_z-of_z w64 c.power_before.result fits

minutes_same : (c : After-power_before) → to_z w64 (of_z w64 c.args.minutes) ≡ c.args.minutes
minutes_same c =
    let within = (ticks c).minutes_within in
    let fits : FitsSigned w64 c.args.minutes = omega (arith, ints, within.from, within.to) in
    to_z-of_z w64 c.args.minutes fits

pub advance-requires-clause-valid : goal.advance-requires-clause-valid
advance-requires-clause-valid c = kind_valid c.self.inside.plan.now c.self.invariant.is_plan c.args.device.0 c.kind-kind.result c.kind-kind.ensures.kind

pub advance-requires-clause-fits : goal.advance-requires-clause-fits
advance-requires-clause-fits c =
    let counts = count_of (core_of c.self.inside) in
    let inside = due_inside c.self.inside.plan.now c.self.inside.closed counts c.args.device.0 (Tick c.args.minutes) (ticks c).due in
    state_valid c.self.inside.plan.now c.self.invariant.is_plan c.args.device.0 (counts c.args.device.0) c.kind-kind.result c.index-before.result.now.0
    c.kind-kind.ensures.kind (omega (arith, inside)) (ticks c).has_state

pub advance-requires-clause-power_low : goal.advance-requires-clause-power_low
advance-requires-clause-power_low c = omega (arith, ints, (ticks c).power_within.low, power_same c)

pub advance-requires-clause-power_high : goal.advance-requires-clause-power_high
advance-requires-clause-power_high c = omega (arith, ints, (ticks c).power_within.high, power_same c)

pub advance-requires-clause-at_least_one_minute : goal.advance-requires-clause-at_least_one_minute
advance-requires-clause-at_least_one_minute c = omega (arith, ints, (ticks c).minutes_within.from, minutes_same c)

pub advance-requires-clause-at_most_a_day : goal.advance-requires-clause-at_most_a_day
advance-requires-clause-at_most_a_day c = omega (arith, ints, (ticks c).minutes_within.to, minutes_same c)

pub returns : goal.returns
returns c =
    let p = (goal.at.returns c).After-power_before in
    let plan = c.self.inside.plan.now in
    let d = c.args.device.0 in
    let used = power plan (state plan) (end_cut plan c.self.inside.closed) d in
    let before = c.index-before.result.now.0 in
    record {
      state = state_made c.self.inside c.self.invariant c.args.self.now c.self.view_is d (Tick c.args.minutes) c.requires.leaf c.requires.due c.advance.result.0
          (λ kind is. c.advance.ensures.state
          ∙ ap (λ (z : ℤ). tick c.kind-kind.result before z (to_z w64 (of_z w64 c.args.minutes))) (power_same p ∙ (ticks p).power)
          ∙ ap (tick c.kind-kind.result before used) (minutes_same p)
          ∙ ap (λ (k : Kind). tick k before used c.args.minutes) (one_kind c.kind-kind.result kind (node plan d) c.kind-kind.ensures.kind is)
          ∙ ap (λ (z : ℤ). tick kind z used c.args.minutes) (ticks p).before);
    }
  where
    one_kind : (a b : Kind) (n : NodeData) → kind_of n ≡ Some a → kind_of n ≡ Some b → a ≡ b
    one_kind a b n e f = let same : Some a ≡ Some b = sym e ∙ f in cc same
