-- Of `run_phase`: its clause `ran`.
use Rattle.std.proofs.Common.{◌≡◌, ◌∙◌, sym, subst, List, length, arith}
use Rattle.std.specs.List.{refill}
use Rattle.pm_phase.specs.Telling.{AllStepOn}
use Rattle.pm_phase.specs.declared.node.FreeNode.{FreeNode}
use Rattle.pm_phase.proofs.StepsOn.{all_trans}
use Rattle.pm_phase.proofs.Running.{ran_of, refilled}
use Rattle.pm_phase.proofs.phase.run_phase.Goals as goal

pub returns-clause-ran : goal.returns-clause-ran
returns-clause-ran g c =
    let plan = c.args.plan.now in
    let changes = c.args.changes.now in
    let len = c.in_ok-links.nodes.len in
    let opened : List FreeNode = c.in_ok-links.nodes.items in
    let made : List FreeNode = c.run_nodes.new.nodes in
    let taken : List FreeNode = c.take_to_end.new.nodes in
    let first = subst (λ (ns : List FreeNode). AllStepOn plan changes ns made) c.as_mut_slice.ensures.value c.run_nodes.ensures.steps in
    let many : length made ≡ len = omega (arith, first.many, c.in_ok-links.nodes.ok.0) in
    let all_made = refilled len opened made many in
    let then = subst (λ (ns : List FreeNode). AllStepOn plan changes ns taken) (c.as_mut_slice-2.ensures.value ∙ all_made) c.take_to_end.ensures.steps in
    let all_taken = refilled len (refill len opened made) taken (omega (arith, then.many, many)) in
    ran_of plan changes c.args.parts.items opened
    (refill len (refill len opened made) taken) c.close_links.result c.in_ok-links.ensures.numbers c.in_ok-links.ensures.opened
    (subst (AllStepOn plan changes opened) (sym all_taken) (all_trans plan changes opened made taken first then)) c.close_links.ensures.same
    c.close_links.ensures.closed
