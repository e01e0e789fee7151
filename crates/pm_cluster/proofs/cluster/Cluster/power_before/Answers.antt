-- Of `Cluster::power_before`: what it ensures; that its numbers fit.
use Rattle.std.proofs.Common.{◌≡◌, ◌∙◌, sym, ap, subst, ℕ, pos, arith}
use Rattle.std.proofs.lemmas.Int.{ints, to_z-of_z}
use Rattle.std.proofs.lemmas.List.{get_or_read}
use Rattle.std.specs.Prelude.{FitsSigned}
use mir.Syntax.{w64}
use Rattle.pm_plan.specs.Plans.{end_cut}
use Rattle.pm_plan.specs.Auction.{power}
use Rattle.pm_plan.specs.States.{state}
use Rattle.pm_cluster.specs.Clusters.{ClusterValue}
use Rattle.pm_cluster.specs.ClusterFields.{core_of}
use Rattle.pm_cluster.proofs.Kept.{leaf_in, leaf_has_place}
use Rattle.pm_cluster.proofs.NextChanges.{keeps_device, power_first, power_valid}
use Rattle.pm_cluster.proofs.cluster.Cluster.power_before.Goals as goal

pub returns-then-self-eq0 : goal.returns-then-self-eq0
returns-then-self-eq0 c =
    let plan = c.self.inside.plan.now in
    let d = c.args.device.0 in
    let Claim : ClusterValue → Type 0 = λ v. pos 0 ≡ power v.plan (state v.plan) (end_cut v.plan v.core.closed) d in
    record {
      power = subst Claim c.self.view_is (
          sym (ap (λ (p : ℕ). power plan (state plan) (end_cut plan p) d) c.if-self-eq0.true ∙ power_first plan c.self.invariant.is_plan d));
    }

pub index-requires : goal.index-requires
index-requires c =
    omega (
      arith,
      leaf_has_place c.self.inside.plan.now c.self.invariant.is_plan c.args.device.0
          (leaf_in c.self.inside c.args.self.now c.args.device.0 c.self.view_is c.requires.leaf),
      c.self.invariant.places.all_powers,
    )

pub returns : goal.returns
returns c =
    let plan = c.self.inside.plan.now in
    let d = c.args.device.0 in
    let leaf = leaf_in c.self.inside c.args.self.now d c.self.view_is c.requires.leaf in
    let inside = leaf_has_place plan c.self.invariant.is_plan d leaf in
    let Claim : ClusterValue → Type 0 = λ v. c.index.result.now ≡ power v.plan (state v.plan) (end_cut v.plan v.core.closed) d in
    let keeps = keeps_device plan c.self.invariant.is_plan (core_of c.self.inside) c.self.invariant.stands d leaf in
    let is : c.index.result.now ≡ power plan (state plan) (end_cut plan c.self.inside.closed) d =
    get_or_read c.self.inside.powers.items d c.index.result.now (omega (arith, inside, c.self.invariant.places.all_powers)) c.index.ensures (pos 0)
    ∙ keeps.had_power (omega (arith, c.if-self-eq0.false)) in
    let within = power_valid plan c.self.invariant.is_plan d c.self.inside.closed c.index.result.now is in
    let fits : FitsSigned w64 c.index.result.now = omega (arith, ints, within.low, within.high) in
    record { power = to_z-of_z w64 c.index.result.now fits ∙ subst Claim c.self.view_is is }
