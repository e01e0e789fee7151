-- Of `empty_rows`: what it ensures; the turns of its loop over `row`.
use Rattle.std.proofs.Common.{◌≡◌, ◌∙◌, ap, map, replicate, [], arith}
use Rattle.pm_market.proofs.Tables.{empty_more}
use Rattle.pm_market.proofs.rows.empty_rows.Goals as goal

pub loop-row-init : goal.loop-row-init
loop-row-init g c = ap (map (λ row. row.items)) c.in_ok-table.ensures.items

pub loop-row-preserved : goal.loop-row-preserved
loop-row-preserved g c = empty_more _ _ _ _ c.in_ok-push.ensures.items c.new.ensures.items c.loop-row.invariant

pub returns : goal.returns
returns g c =
    let all : c.loop-row._row ≡ c.args.rows = omega arith in
    c.loop-row.invariant ∙ ap (λ n. replicate n []) all
