-- Of `Cluster::tell_limited`: its clause `end`; what the call of `limits` requires.
use Rattle.std.proofs.Common.{◌≡◌, ◌∙◌, sym, ap, subst, ℕ, ◌≤◌, true, List, ◌++◌, is_some, arith, false, cond, ◌∷◌, []}
use Rattle.pm_base.proofs.Options.{is_some-option_map}
use Rattle.pm_market.specs.Lists.{nodes}
use Rattle.pm_plan.specs.Auction.{EndData, limited_line}
use Rattle.pm_plan.specs.Plans.{node, limits_of, is_limited}
use Rattle.pm_plan.specs.Market.{plan_lists}
use Rattle.pm_plan.specs.declared.end.LimitedLine.{LimitedLine}
use Rattle.pm_stands.specs.Quiet.{IsQuiet}
use Rattle.pm_stands.specs.Current.{kept_line}
use Rattle.pm_offer.proofs.GroupNodes as group_nodes
use Rattle.pm_cluster.specs.Clusters.{ClusterValue}
use Rattle.pm_cluster.specs.ClusterFields.{core_of}
use Rattle.pm_cluster.specs.Ends.{limited_at}
use Rattle.pm_cluster.proofs.Kept.{of_fields, of_value}
use Rattle.pm_cluster.proofs.LinesTold.{limited_line_told}
use Rattle.pm_plan.specs.States.{state}
use Rattle.std.proofs.lemmas.List.{append-nil}
use Rattle.pm_cluster.proofs.cluster.Cluster.tell_limited.Goals as goal

pub limits-requires : goal.limits-requires
limits-requires c = omega (
  arith,
  of_fields c.self.inside c.args.self.now c.self.view_is (λ plan. c.args.node.0 ≤ nodes (plan_lists plan)) c.requires.inside,
  group_nodes.nodes_are c.self.inside.plan.now c.self.invariant.is_plan,
)

pub returns-then-is_some-clause-end : goal.returns-then-is_some-clause-end
returns-then-is_some-clause-end c =
    let g : ℕ = c.args.node.0 in
    let plan = c.self.inside.plan.now in
    let more : List LimitedLine → EndData = λ xs. record c.args.out.now.end { limited = c.args.out.now.end.limited ++ xs } in
    let quiet = subst (λ (v : ClusterValue). IsQuiet v.plan v.core) (sym c.self.view_is) c.requires.quiet in
    let inside = of_fields c.self.inside c.args.self.now c.self.view_is (λ p. g ≤ nodes (plan_lists p)) c.requires.inside in
    let limited : is_limited plan g ≡ true =
    sym (is_some-option_map _ (limits_of (node plan g))) ∙ ap is_some (sym c.limits.ensures) ∙ sym c.is_some.ensures ∙ c.if-is_some.true in
    let line_is = subst (λ (v : ClusterValue). c.limited_line.result ≡ kept_line v.plan v.core g) (sym c.self.view_is) c.limited_line.ensures.line in
    of_value c.self.inside c.args.self.now c.self.view_is (λ p s. c.add_limited.new.self.end ≡ more (limited_at p s.counts g)) (λ s stands.
    c.add_limited.ensures.end ∙ ap more (limited_line_told plan (core_of c.self.inside) s g c.limited_line.result
    c.self.invariant.is_plan stands quiet inside limited line_is))

pub returns-else-is_some-clause-end : goal.returns-else-is_some-clause-end
returns-else-is_some-clause-end c =
    let g : ℕ = c.args.node.0 in
    let plan = c.self.inside.plan.now in
    let with_lines : List LimitedLine → EndData = λ xs. record c.args.out.now.end { limited = xs } in
    let lines = c.args.out.now.end.limited in
    let unlimited : is_limited plan g ≡ false =
    sym (is_some-option_map _ (limits_of (node plan g))) ∙ ap is_some (sym c.limits.ensures) ∙ sym c.is_some.ensures ∙ c.if-is_some.false in
    of_value c.self.inside c.args.self.now c.self.view_is (λ p s. c.args.out.now.end ≡ with_lines (lines ++ limited_at p s.counts g)) (λ s stands.
    ap with_lines (sym (append-nil lines))
    ∙ ap (λ b. with_lines (lines ++ cond b (limited_line plan (state plan) s.counts g ∷ []) [])) (sym unlimited))
