-- Of `ends_of`: what it ensures; the turns of its loop over `at`.
use Rattle.std.proofs.Common.{◌≡◌, ◌∙◌, ap, ℕ, Vec, Global, length, map, arith}
use Rattle.std.specs.Prelude.{replicate}
use Rattle.std.proofs.lemmas.List.{map-append}
use Rattle.std.proofs.lemmas.Result.{err_from_is_err_and}
use Rattle.pm_plan.specs.Plans.{end_cut, node_numbers}
use Rattle.pm_check.proofs.PlanLists.{next_mapped, no_ends}
use Rattle.pm_check.proofs.lists.ends_of.Goals as goal

all_nodes : (c : goal.After-phases-at-end) → c.len.result ≡ length c.args.plan.now.nodes
all_nodes c = omega (arith, c.tree.ensures.sound.nodes.one_each, c.len.ensures.len, ap (λ e. length e) c.tree.ensures.tree)

pub loop-at-init : goal.loop-at-init
loop-at-init c = record {
  before = no_ends c.args.plan.now _ c.phases-at-end.ensures.sound (c.in_ok-before.ensures ∙ ap (λ n. replicate n 0) (all_nodes c));
  rows = ap (map (λ (row : Vec ℕ Global). row.items)) c.new-rows.ensures.items;
}

pub loop-at-preserved : goal.loop-at-preserved
loop-at-preserved c = record {
  before = c.in_ok-before-2.ensures.items ∙ c.deref-in-loop-at.ensures.value ∙ c.in_ok-row.ensures;
  rows =
      ap (map (λ (row : Vec ℕ Global). row.items)) c.in_ok-push.ensures.items ∙ map-append (λ (row : Vec ℕ Global). row.items) _ _
      ∙ next_mapped (λ (p : ℕ). map (end_cut c.args.plan.now p) (node_numbers c.args.plan.now)) _ c.loop-at.at _
      c.loop-at.invariant.rows c.in_ok-row.ensures;
}

pub returns-in_err-row : goal.returns-in_err-row
returns-in_err-row c = rw (err_from_is_err_and c.from_residual-in_err-row.result c.from_residual-in_err-row.ensures.1).1 tt
