-- Of `Plan::changes_of`: what it ensures; what the call of `count_up_to` requires; that its numbers fit.
use Rattle.std.proofs.Common.{◌∙◌, sym, ap, subst, ℕ, ◌-◌, ◌<◌, ◌≤◌, List, length, arith}
use Rattle.std.specs.Prelude.{slice_index_or}
use Rattle.std.specs.List.{prefix_len}
use Rattle.pm_plan.specs.Plans.{changes_of, is_up_to, end_cut}
use Rattle.pm_plan.specs.Kept.{no_change}
use Rattle.pm_plan.specs.declared.planned.Change.{Change}
use Rattle.pm_plan.proofs.Ends.{end-rises}
use Rattle.pm_plan.proofs.plan.Plan.changes_of.Goals as goal

abbrev Rise : List Change → Type 0
Rise changes = (m n : ℕ) → m ≤ n → n < length changes → (slice_index_or changes m no_change).phase ≤ (slice_index_or changes n no_change).phase

pub count_up_to-requires-clause-rise : goal.count_up_to-requires-clause-rise
count_up_to-requires-clause-rise c =
    let same = c.changes-changes.ensures ∙ sym (ap changes_of c.device.ensures.node) in
    subst Rise (sym same) (c.device.ensures.sound.in_phases.rise c.args.device.0)

pub count_up_to-requires-2-clause-rise : goal.count_up_to-requires-2-clause-rise
count_up_to-requires-2-clause-rise c =
    let same = c.changes-changes.ensures ∙ sym (ap changes_of c.device.ensures.node) in
    subst Rise (sym same) (c.device.ensures.sound.in_phases.rise c.args.device.0)

pub overflow_sub-result : goal.overflow_sub-result
unfolding end_cut
overflow_sub-result c =
    let same = c.changes-changes.ensures ∙ sym (ap changes_of c.device.ensures.node) in
    let upto = c.count_up_to.ensures ∙ ap (prefix_len (is_up_to c.args.phase)) same in
    let before = c.count_up_to-2.ensures ∙ ap (prefix_len (is_up_to (c.args.phase - 1))) same in
    let rises = end-rises c.args.self.now (c.args.phase - 1) c.args.phase c.args.device.0 (omega arith) in
    omega (arith, upto, before, rises)

pub returns : goal.returns
unfolding end_cut
returns c =
    let same = c.changes-changes.ensures ∙ sym (ap changes_of c.device.ensures.node) in
    let upto = c.count_up_to.ensures ∙ ap (prefix_len (is_up_to c.args.phase)) same in
    let before = c.count_up_to-2.ensures ∙ ap (prefix_len (is_up_to (c.args.phase - 1))) same in
    omega (arith, upto, before)
