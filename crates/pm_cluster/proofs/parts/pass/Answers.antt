-- Of `pass`: its clauses `passed` and `only`; what the call of `pass` requires.
use Rattle.std.proofs.Common.{arith, sym, ap, subst, ◌∙◌, ◌≡◌, length, ℕ, ◌<◌, get_or, Option, None, Some}
use Rattle.std.proofs.Math.ListN.{set}
use Rattle.std.proofs.lemmas.List.{with_items_is}
use Rattle.std.specs.Vec.{with_items}
use Rattle.pm_base.specs.declared.limits.Limits.{Limits}
use Rattle.pm_base.specs.Rows.{rows_of}
use Rattle.pm_session.specs.Windows.{Keeps}
use Rattle.pm_concentrator.specs.Limited.{IsStepOf}
use Rattle.pm_concentrator.specs.Concentrators.{Gathered}
use Rattle.pm_stands.specs.Core.{row_at, gathered_at}
use Rattle.pm_stands.specs.Rows.{OneRow}
use Rattle.pm_stands.proofs.Caches.{gathered_known, gathered_same, one_concentrator}
use Rattle.pm_cluster.proofs.Rows.{row_read, is_row_read, there_read}
use Rattle.pm_cluster.proofs.parts.pass.Goals as goal
use Rattle.pm_cluster.proofs.parts.pass.Goals.{In-Some, After-pass}

found : (c : In-Some) → get_or c.args.concentrators.now.items c.args.node None ≡ Some c.in-Some.concentrator
found c =
    there_read c.args.concentrators.now.items c.args.node c.index_mut.result.now c.in-Some.concentrator
    c.requires.concentrator.node c.index_mut.ensures.value c.in-Some.is

known : (c : In-Some) → gathered_at c.args.concentrators.now.items c.args.node ≡ c.in-Some.concentrator
known c = gathered_known c.args.concentrators.now.items c.args.node c.in-Some.concentrator (found c)

pub pass-requires-clause-kept : goal.pass-requires-clause-kept
pass-requires-clause-kept c =
    subst (λ (g : Gathered). Keeps g.window c.args.price.number) (known (goal.at.pass-requires-clause-kept c).In-Some) c.requires.may.keeps

pub pass-requires-clause-same_length : goal.pass-requires-clause-same_length
pass-requires-clause-same_length c =
    let row = row_read (λ row. row.items) c.args.links.now.items c.args.node c.index_mut-row.result.now c.requires.row c.index_mut-row.ensures.value in
    ap length (c.deref_mut.ensures.value ∙ sym row) ∙ c.requires.may.row_length
    ∙ ap (λ (g : Gathered). length g.cache.heads) (known (goal.at.pass-requires-clause-same_length c).In-Some)

pub pass-requires-clause-step : goal.pass-requires-clause-step
pass-requires-clause-step c =
    step_of c.in-Some.concentrator.limits c.in-Some.concentrator.cache.steps c.args.price.step (
    omega (arith, c.requires.may.step, ap (λ (g : Gathered). g.cache.steps) (known (goal.at.pass-requires-clause-step c).In-Some)))
  where
    step_of : (limits : Option Limits) (steps k : ℕ) → k < steps → IsStepOf limits steps k
    step_of None steps k lt = tt
    step_of (Some limits) steps k lt = lt

items_are : (c : After-pass) → (with_items c.index_mut-row.result.now c.pass.new.downs).items ≡ c.pass.new.downs
items_are c = with_items_is c.index_mut-row.result.now c.pass.new.downs (c.pass.ensures.prices.same_length ∙ c.deref_mut.ensures.len)

wrote : (c : After-pass) →
    let rows = set c.args.links.now.items c.args.node (with_items c.index_mut-row.result.now c.pass.new.downs) in
    OneRow (rows_of c.args.links.now.items) (rows_of rows) c.args.node
    × (row_at (rows_of rows) c.args.node ≡ (with_items c.index_mut-row.result.now c.pass.new.downs).items)
wrote c =
    (is_row_read (λ row. row.items) c.args.links.now.items c.args.node c.index_mut-row.result.now c.requires.row c.index_mut-row.ensures.value).wrote
    (with_items c.index_mut-row.result.now c.pass.new.downs)
    (ap length (items_are c) ∙ c.pass.ensures.prices.same_length ∙ ap length c.deref_mut.ensures.value)

pub returns-clause-passed : goal.returns-clause-passed
returns-clause-passed c =
    let at = goal.at.returns-clause-passed c in
    let row = row_read (λ row. row.items) c.args.links.now.items c.args.node c.index_mut-row.result.now c.requires.row c.index_mut-row.ensures.value in
    let old_is = row ∙ sym c.deref_mut.ensures.value in
    let new_is = (wrote at.After-pass).1 ∙ items_are at.After-pass in
    let same = gathered_same c.args.concentrators.now.items c.args.node c.pass.new.self c.requires.concentrator.node in
    record { passed = rw (known at.In-Some, same) c.pass.ensures.passed; offered = rw (known at.In-Some, old_is, new_is) c.pass.ensures.prices }

pub returns-clause-only : goal.returns-clause-only
returns-clause-only c = record {
  alone = one_concentrator c.args.concentrators.now.items c.args.node c.pass.new.self c.requires.concentrator.node;
  row = (wrote (goal.at.returns-clause-only c).After-pass).0;
}
