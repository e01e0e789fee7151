-- Of `Cluster::member_after`: what it ensures; that its numbers fit.
use Rattle.std.proofs.Common.{◌≡◌, ◌∙◌, sym, ap, true, false, inl, inr, arith}
use Rattle.pm_plan.specs.Devices.{member_after}
use Rattle.pm_plan.specs.Plans.{is_member}
use Rattle.pm_cluster.specs.ClusterFields.{core_of}
use Rattle.pm_cluster.specs.Next.{count_of}
use Rattle.pm_cluster.proofs.DeviceFields.{placed, member_read, member_made}
use Rattle.pm_cluster.proofs.cluster.Cluster.member_after.Goals as goal

pub returns-in-Join : goal.returns-in-Join
returns-in-Join c = record {
  member = member_made c.self.inside c.args.self.now c.self.view_is c.args.device.0 c.args.what c.requires.due true
      (ap (member_after (is_member c.self.inside.plan.now c.args.device.0 (count_of (core_of c.self.inside) c.args.device.0))) (sym c.in-Join.is));
}

pub returns-in-Leave : goal.returns-in-Leave
returns-in-Leave c = record {
  member = member_made c.self.inside c.args.self.now c.self.view_is c.args.device.0 c.args.what c.requires.due false
      (ap (member_after (is_member c.self.inside.plan.now c.args.device.0 (count_of (core_of c.self.inside) c.args.device.0))) (sym c.in-Leave.is));
}

pub index-requires : goal.index-requires
index-requires c = omega (
  arith,
  placed c.self.inside c.self.invariant c.args.self.now c.self.view_is c.args.device.0 c.requires.leaf,
  c.self.invariant.same_members,
)

pub returns-in-Set : goal.returns-in-Set
returns-in-Set c =
    let d = c.args.device.0 in
    let before = is_member c.self.inside.plan.now d (count_of (core_of c.self.inside) d) in
    let same : before ≡ member_after before c.args.what = elim c.in-Set.is [
      | inl set ↦ ap (member_after before) (sym set.1)
      | inr tick ↦ ap (member_after before) (sym tick.1)
    ] in
    record {
      member = member_made c.self.inside c.args.self.now c.self.view_is d c.args.what c.requires.due c.index.result.now
          (member_read c.self.inside c.self.invariant c.args.self.now c.self.view_is d c.requires.leaf _ c.index.ensures ∙ same);
    }
