-- Of `Cluster::power`: what it ensures; what the call of `power_of` requires.
use Rattle.std.proofs.Common.{◌≡◌, ◌∙◌, subst, rules, w64, FitsSigned}
use Rattle.std.proofs.lemmas.Int.{to_z-of_z}
use Rattle.pm_stands.specs.Current.{kept_power}
use Rattle.pm_cluster.specs.Clusters.{ClusterValue}
use Rattle.pm_cluster.proofs.EntriesTold.{told_of}
use Rattle.pm_cluster.proofs.cluster.Cluster.power.Goals as goal

pub power_of-requires : goal.power_of-requires
power_of-requires c = record { told = told_of c.self.inside c.args.self.now c.self.view_is c.self.invariant c.args.device.0 c.requires.leaf }

pub returns : goal.returns
returns c =
    let fits : FitsSigned w64 c.power_of.result = search rules in
    record {
      power = to_z-of_z w64 c.power_of.result fits
          ∙ subst (λ (v : ClusterValue). c.power_of.result ≡ kept_power v.plan v.core c.args.device.0) c.self.view_is c.power_of.ensures.power;
    }
