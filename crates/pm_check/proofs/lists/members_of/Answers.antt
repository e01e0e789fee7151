-- Of `members_of`: what it ensures; what the call of `members_row` requires; the turns of its loop over `at`.
use Rattle.std.proofs.Common.{◌≡◌, ◌∙◌, ap, length, map, arith}
use Rattle.std.proofs.lemmas.List.{map-append}
use Rattle.std.specs.List.{range_with_len}
use Rattle.pm_plan.specs.Market.{members_of}
use Rattle.pm_check.proofs.PlanLists.{next_mapped}
use Rattle.pm_check.proofs.lists.members_of.Goals as goal

pub members_row-requires : goal.members_row-requires
members_row-requires c = omega (arith, c.tree.ensures.sound.nodes.one_each, c.len-at-end.ensures.len, ap (λ e. length e) c.tree.ensures.tree)

pub loop-at-preserved : goal.loop-at-preserved
loop-at-preserved c =
    ap (map (λ row. row.items)) c.in_ok-push.ensures.items ∙ map-append (λ row. row.items) _ _
    ∙ next_mapped (members_of c.args.plan.now) _ c.loop-at.at _ c.loop-at.invariant c.in_ok-members_row.ensures

pub returns : goal.returns
returns c =
    let all : c.loop-at.at ≡ length
    c.args.plan.now.nodes = omega (arith, c.tree.ensures.sound.nodes.one_each, c.len-at-end.ensures.len, ap (λ e. length e) c.tree.ensures.tree) in
    c.loop-at.invariant ∙ ap (λ n. map (members_of c.args.plan.now) (range_with_len 1 n)) all
