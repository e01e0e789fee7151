-- Of `limited_of`: what it ensures; what the call of `limited_line` requires; the turns of its loop over `number`.
use Rattle.std.proofs.Common.{◌∙◌, ◌≡◌, ◌-◌, sym, ap, length, arith, Vec, Global}
use Rattle.std.proofs.lemmas.Result.{IfOk-from_err}
use Rattle.std.specs.Prelude.{is_some}
use Rattle.pm_plan.specs.Plans.{node, limits_of, is_limited}
use Rattle.pm_base.proofs.Options.{is_some-option_map}
use Rattle.pm_plan.specs.declared.end.LimitedLine.{LimitedLine}
use Rattle.pm_plan.specs.EndLines.{limited_to}
use Rattle.pm_walk.specs.Standing.{cut_made}
use Rattle.pm_plan.proofs.EndLines.{line_put, limited-yes, limited-no}
use Rattle.pm_walk.proofs.lines.limited_of.Goals as goal
use Rattle.pm_walk.proofs.lines.limited_of.Goals.{then-is_some+in_ok-push, else-is_some}

pub loop-number-init : goal.loop-number-init
unfolding limited_to
loop-number-init c = c.new-lines.ensures.items

pub loop-number-preserved : goal.loop-number-preserved
loop-number-preserved c =
    let plan = c.args.plan.now in
    let cut = cut_made c.args.standing.now.progress in
    let n = c.loop-number.number in
    let limited : is_limited plan n ≡ c.is_some.result =
    sym (c.is_some.ensures ∙ ap (λ o. is_some o) c.limits.ensures ∙ is_some-option_map _ (limits_of (node plan n))) in
    elim c.if-is_some.branch [
      | then-is_some+in_ok-push w ↦
          line_put _ _ _ _ _ _ (ap (λ (v : Vec LimitedLine Global). v.items) w.lines-is ∙ w.in_ok-push.ensures.items)
          c.loop-number.invariant w.limited_line.ensures (limited-yes plan cut n c.loop-number.auto.number (limited ∙ w.if-is_some.true))
      | else-is_some w ↦
          ap (λ (v : Vec LimitedLine Global). v.items) w.lines-is ∙ c.loop-number.invariant
          ∙ sym (limited-no plan cut n c.loop-number.auto.number (limited ∙ w.if-is_some.false))
    ]

pub limited_line-requires-clause-inside : goal.limited_line-requires-clause-inside
limited_line-requires-clause-inside c =
    omega (arith, c.tree.ensures.sound.nodes.one_each, c.len-number-end.ensures.len, ap (λ e. length e) c.tree.ensures.tree)

pub returns-in_err-push : goal.returns-in_err-push
returns-in_err-push c = IfOk-from_err c.from_residual.result _ c.from_residual.ensures.0

pub returns : goal.returns
returns c =
    let all : c.loop-number.number - 1 ≡ length c.args.plan.now.nodes =
    omega (arith, c.tree.ensures.sound.nodes.one_each, c.len-number-end.ensures.len, ap (λ e. length e) c.tree.ensures.tree) in
    c.loop-number.invariant ∙ ap (limited_to c.args.plan.now (cut_made c.args.standing.now.progress)) all
