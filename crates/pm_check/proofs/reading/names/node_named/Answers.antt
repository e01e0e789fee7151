-- Of `node_named`: what it ensures.
use Rattle.std.proofs.Common.{◌∙◌, sym, ap, subst, refl}
use Rattle.std.specs.Str.{IsUtf8}
use Rattle.pm_tree.specs.Entries.{node_named}
use Rattle.pm_check.proofs.NodeNames.{node_text, node_found, node_not_found}
use Rattle.pm_check.proofs.Readings.{reads_none, reads_some}
use Rattle.pm_check.proofs.reading.names.node_named.Goals as goal

pub returns-in_err-text : goal.returns-in_err-text
returns-in_err-text c =
    reads_none _ _ _ c.from_residual.result c.from_residual.ensures
    (λ x inside same. c.in_err-text.ensures.none refl (subst IsUtf8 same (node_text c.args.plan.now c.requires x inside)))

pub returns-in_err-node : goal.returns-in_err-node
returns-in_err-node c =
    let named = ap (λ entries. node_named entries c.in_ok-text.text.now) (sym c.tree.ensures.tree) ∙ sym c.in_err-node.ensures in
    reads_none _ _ _ c.from_residual-in_err-node.result c.from_residual-in_err-node.ensures
    (λ x inside same. node_not_found c.args.plan.now c.requires c.in_ok-text.text.now named x inside (same ∙ sym c.in_ok-text.ensures.text))

pub returns : goal.returns
returns c =
    let named = ap (λ entries. node_named entries c.in_ok-text.text.now) (sym c.tree.ensures.tree) ∙ sym c.in_ok-node.ensures in
    let found = node_found c.args.plan.now c.requires c.in_ok-text.text.now c.in_ok-node.node.0 named in
    reads_some _ _ _ _ _ refl found.0 (found.1 ∙ c.in_ok-text.ensures.text)
