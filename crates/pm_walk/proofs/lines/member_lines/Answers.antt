-- Of `member_lines`: what it ensures; what the call of `member_line` requires; the turns of its loop over `number`.
use Rattle.std.proofs.Common.{◌∙◌, ◌≡◌, ◌-◌, ◌≤◌, sym, ap, arith, length, Vec, Global}
use Rattle.std.proofs.lemmas.Result.{IfOk-from_err}
use Rattle.pm_plan.specs.Plans.{is_member}
use Rattle.pm_plan.specs.declared.end.MemberLine.{MemberLine}
use Rattle.pm_walk.specs.declared.changes.Progress.{Progress}
use Rattle.pm_plan.specs.EndLines.{members_to}
use Rattle.pm_walk.specs.Standing.{cut_made}
use Rattle.pm_plan.proofs.EndLines.{line_put, members-yes, members-no}
use Rattle.pm_walk.proofs.lines.member_lines.Goals as goal
use Rattle.pm_walk.proofs.lines.member_lines.Goals.{then-progress+in_ok-push, else-progress}

pub loop-number-init : goal.loop-number-init
unfolding members_to
loop-number-init c = c.new-lines.ensures.items

pub loop-number-preserved : goal.loop-number-preserved
loop-number-preserved c =
    let plan = c.args.plan.now in
    let cut = cut_made c.args.standing.now.progress in
    let n = c.loop-number.number in
    let inside : n ≤ length plan.nodes =
    omega (arith, c.tree.ensures.sound.nodes.one_each, c.len-number-end.ensures.len, ap (λ e. length e) c.tree.ensures.tree) in
    let member : is_member plan n (cut n) ≡ c.progress.result.member =
    sym (ap (λ (p : Progress). p.member) c.progress.ensures.progress ∙ (c.requires.stands.progress.reached n inside).member) in
    elim c.if-progress.branch [
      | then-progress+in_ok-push w ↦
          line_put _ _ _ _ _ _ (ap (λ (v : Vec MemberLine Global). v.items) w.lines-is ∙ w.in_ok-push.ensures.items)
          c.loop-number.invariant w.member_line.ensures (members-yes plan cut n c.loop-number.auto.number (member ∙ w.if-progress.true))
      | else-progress w ↦
          ap (λ (v : Vec MemberLine Global). v.items) w.lines-is ∙ c.loop-number.invariant
          ∙ sym (members-no plan cut n c.loop-number.auto.number (member ∙ w.if-progress.false))
    ]

pub member_line-requires-clause-inside : goal.member_line-requires-clause-inside
member_line-requires-clause-inside c = omega (arith, c.tree.ensures.sound.nodes.one_each, c.len-number-end.ensures.len, ap (λ e. length e) c.tree.ensures.tree)

pub returns-in_err-push : goal.returns-in_err-push
returns-in_err-push c = IfOk-from_err c.from_residual.result _ c.from_residual.ensures.0

pub returns : goal.returns
returns c =
    let all : c.loop-number.number - 1 ≡ length c.args.plan.now.nodes =
    omega (arith, c.tree.ensures.sound.nodes.one_each, c.len-number-end.ensures.len, ap (λ e. length e) c.tree.ensures.tree) in
    c.loop-number.invariant ∙ ap (members_to c.args.plan.now (cut_made c.args.standing.now.progress)) all
