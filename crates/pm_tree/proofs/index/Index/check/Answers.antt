-- Of `Index::check`: its clause `refused`; what the call of `find_parent` requires.
use Rattle.std.proofs.Common.{Some, None, arith, string_bytes}
use Rattle.std.proofs.lemmas.List.{length-map}
use Rattle.std.proofs.lemmas.Result.{err_from_is_err_and, IfOk-weaker, IfErr-weaker, on_ok_weaker}
use Rattle.pm_tree.proofs.Checks.{as_many_rows, name_refused, parent_refused, refusal_below, row_is}
use Rattle.pm_tree.proofs.index.Index.check.Goals as goal

pub returns-in_err-check_name-clause-refused : goal.returns-in_err-check_name-clause-refused
returns-in_err-check_name-clause-refused c =
    let p = err_from_is_err_and c.from_residual.result c.from_residual.ensures.1 in
    rw (p.1, p.2) (name_refused _ _ _ c.requires.inside c.index-entries-place.is _ _ c.requires.index _ c.in_err-check_name.ensures.refused)

pub find_parent-requires-clause-rows : goal.find_parent-requires-clause-rows
find_parent-requires-clause-rows c =
    omega (arith, as_many_rows _ _ _ c.requires.index, length-map c.args.self.now.names.keys string_bytes)

pub returns-in_err-parent-clause-refused : goal.returns-in_err-parent-clause-refused
returns-in_err-parent-clause-refused c =
    let p = err_from_is_err_and c.from_residual-in_err-parent.result c.from_residual-in_err-parent.ensures.1 in
    rw (p.1, p.2) (parent_refused _ _ _ c.requires.inside c.index-entries-place.is _ _ c.requires.index
    c.in_ok-check_name.ensures.accepted _ c.in_err-parent.ensures.refused)

pub returns : goal.returns
returns c =
    let below = refusal_below _ _ _ c.requires.inside c.index-entries-place.is _ _ c.requires.index c.in_ok-check_name.ensures.accepted
    c.in_ok-parent.parent.0 c.in_ok-parent.ensures.parent in
    record {
      accepted = on_ok_weaker c.make_row.result (below None) c.make_row.ensures.accepted;
      row = IfOk-weaker c.make_row.result _ _ (row_is _ _ _ c.requires.inside c.index-entries-place.is _ _ c.requires.index
          c.in_ok-check_name.ensures.accepted c.in_ok-parent.parent.0 c.in_ok-parent.ensures.parent c.requires.lawful) c.make_row.ensures.row;
      refused = IfErr-weaker c.make_row.result _ _ (λ fault. below (Some fault)) c.make_row.ensures.refused;
    }
