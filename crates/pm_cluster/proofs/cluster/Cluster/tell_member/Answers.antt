-- Of `Cluster::tell_member`: its clause `end`.
use Rattle.std.proofs.Common.{◌≡◌, ◌∙◌, sym, ap, subst, ℕ, false, [], ◌++◌, List, arith, rules, w64, FitsSigned}
use Rattle.std.proofs.lemmas.Int.{to_z-of_z}
use Rattle.std.proofs.lemmas.List.{get_or_read, append-nil}
use Rattle.pm_market.specs.Lists.{IsLeaf}
use Rattle.pm_plan.specs.Auction.{EndData}
use Rattle.pm_plan.specs.Market.{plan_lists}
use Rattle.pm_plan.specs.declared.end.MemberLine.{MemberLine}
use Rattle.pm_stands.specs.Quiet.{IsQuiet}
use Rattle.pm_stands.specs.Current.{kept_power}
use Rattle.pm_cluster.specs.Clusters.{ClusterValue}
use Rattle.pm_cluster.specs.ClusterFields.{core_of}
use Rattle.pm_cluster.specs.Ends.{member_at}
use Rattle.pm_cluster.proofs.Kept.{of_value}
use Rattle.pm_cluster.proofs.Parents.{leaf_inside}
use Rattle.pm_cluster.proofs.LinesTold.{member_told, no_member_told, no_leaf_told}
use Rattle.pm_cluster.proofs.cluster.Cluster.tell_member.Goals as goal
use Rattle.pm_cluster.proofs.cluster.Cluster.tell_member.Goals.{else-is_device-via-then-is_device+else-index, else-is_device-via-else-is_device}

-- a member's line is told
pub returns-then-index-clause-end : goal.returns-then-index-clause-end
returns-then-index-clause-end c =
    let d : ℕ = c.args.node.0 in
    let plan = c.self.inside.plan.now in
    let more : List MemberLine → EndData = λ xs. record c.args.out.now.end { members = c.args.out.now.end.members ++ xs } in
    let leaf : IsLeaf (plan_lists plan) d = sym c.is_device.ensures ∙ c.if-is_device.true in
    let inside = (leaf_inside plan c.self.invariant.is_plan d leaf).1 in
    let quiet = subst (λ (v : ClusterValue). IsQuiet v.plan v.core) (sym c.self.view_is) c.requires.quiet in
    let member = sym (c.self.invariant.members d leaf)
    ∙ sym (get_or_read c.self.inside.members.items d c.index.result.now (omega (arith, inside, c.self.invariant.same_members))
    c.index.ensures false) ∙ c.if-index.true in
    let number = get_or_read c.self.inside.counts.items d c.index-then-index.result.now
    (omega (arith, inside, c.self.invariant.places.all_counts)) c.index-then-index.ensures 0 in
    let fits : FitsSigned w64 c.power-power.result = search rules in
    let power_is = to_z-of_z w64 c.power-power.result fits
    ∙ subst (λ (v : ClusterValue). c.power-power.result ≡ kept_power v.plan v.core d) (sym c.self.view_is) c.power-power.ensures.power in
    of_value c.self.inside c.args.self.now c.self.view_is (λ p s. c.add_member.new.self.end ≡ more (member_at p s.counts d)) (λ s stands.
    c.add_member.ensures.end ∙ ap more (member_told plan (core_of c.self.inside) s d _ _ c.self.invariant.is_plan stands quiet leaf member power_is number))

-- any other node adds nothing
pub returns-else-is_device-clause-end : goal.returns-else-is_device-clause-end
returns-else-is_device-clause-end c =
    let d : ℕ = c.args.node.0 in
    let plan = c.self.inside.plan.now in
    let more : List MemberLine → EndData = λ xs. record c.args.out.now.end { members = c.args.out.now.end.members ++ xs } in
    let same : c.args.out.now.end ≡ more [] = ap (λ xs. record c.args.out.now.end { members = xs }) (sym (append-nil c.args.out.now.end.members)) in
    of_value c.self.inside c.args.self.now c.self.view_is (λ p s. c.args.out.now.end ≡ more (member_at p s.counts d)) (λ s stands.
    same ∙ ap more (elim c.else-is_device.branch [
      | else-is_device-via-then-is_device+else-index w ↦
          let leaf : IsLeaf (plan_lists plan) d = sym c.is_device.ensures ∙ w.if-is_device.true in
          let inside = (leaf_inside plan c.self.invariant.is_plan d leaf).1 in
          let none = sym (c.self.invariant.members d leaf)
          ∙ sym (get_or_read c.self.inside.members.items d w.index.result.now (omega (arith, inside, c.self.invariant.same_members))
          w.index.ensures false) ∙ w.if-index.false in
          no_member_told plan (core_of c.self.inside) s d stands leaf none
      | else-is_device-via-else-is_device w ↦ no_leaf_told plan s.counts d c.self.invariant.is_plan (sym c.is_device.ensures ∙ w.if-is_device.false)
    ]))
