-- Of `push_at`: its clauses `err` and `ok`.
use Rattle.std.proofs.Common.{ap, sym, ◌∙◌, [], set, ◌++◌, ◌∷◌}
use Rattle.std.proofs.lemmas.List.{map-set, get_or-map}
use Rattle.std.proofs.Math.Seq.{map-set_same}
use Rattle.pm_base.specs.Rows.{rows_of}
use Rattle.pm_market.proofs.Tables.{on_error}
use Rattle.pm_market.proofs.rows.push_at.Goals as goal

pub returns-in_err-push-clause-err : goal.returns-in_err-push-clause-err
returns-in_err-push-clause-err g c =
    on_error c.from_residual.result _ (map-set_same (λ row. row.items) c.args.table.now c.args.place c.push.new.self c.index-table-place.result
    c.in_err-push.ensures.items)

pub returns-clause-ok : goal.returns-clause-ok
returns-clause-ok g c =
    map-set (λ row. row.items) c.args.table.now c.args.place c.push.new.self
    ∙ ap (λ row. set (rows_of c.args.table.now) c.args.place row)
    (c.in_ok-push.ensures.items ∙ ap (λ row. row ++ c.args.item ∷ [])
    (sym (get_or-map (λ row. row.items) c.args.table.now c.args.place c.index-table-place.result [] c.requires)))
