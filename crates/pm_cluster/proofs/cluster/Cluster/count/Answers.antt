-- Of `Cluster::count`: what it ensures; that its numbers fit.
use Rattle.std.proofs.Common.{ap, ◌∙◌, arith, get_or}
use Rattle.std.proofs.lemmas.List.{get_or_read}
use Rattle.pm_cluster.proofs.Kept.{leaf_in, leaf_has_place}
use Rattle.pm_cluster.proofs.cluster.Cluster.count.Goals as goal

pub index-requires : goal.index-requires
index-requires c =
    omega (
      arith,
      leaf_has_place c.self.inside.plan.now c.self.invariant.is_plan c.args.device.0
          (leaf_in c.self.inside c.args.self.now c.args.device.0 c.self.view_is c.requires.leaf),
      c.self.invariant.places.all_counts,
    )

pub returns : goal.returns
returns c =
    let inside = leaf_has_place c.self.inside.plan.now c.self.invariant.is_plan c.args.device.0
    (leaf_in c.self.inside c.args.self.now c.args.device.0 c.self.view_is c.requires.leaf) in
    record {
      count = get_or_read c.self.inside.counts.items c.args.device.0 c.index.result.now (omega
          (arith, inside, c.self.invariant.places.all_counts)) c.index.ensures 0
          ∙ ap (λ v. get_or v.core.counts c.args.device.0 0) c.self.view_is;
    }
