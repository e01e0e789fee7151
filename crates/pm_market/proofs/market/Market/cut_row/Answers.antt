-- Of `Market::cut_row`: what it ensures.
use Rattle.std.proofs.Common.{[], get_or, map, ap, ◌∙◌}
use Rattle.pm_market.specs.State.{cut_at}
use Rattle.pm_base.specs.Cuts.{cut_of}
use Rattle.pm_base.specs.Rows.{rows_of}
use Rattle.pm_market.proofs.Loops.{cut_at_row}
use Rattle.pm_market.proofs.market.Market.cut_row.Goals as goal

pub returns : goal.returns
returns c =
    ap cut_of c.row_from_one.ensures ∙ cut_at_row (rows_of c.row_at.result.now) c.args.number
    ∙ ap (λ rows. cut_at (map cut_of (rows_of rows)) c.args.number)
    (c.row_at.ensures ∙ ap (λ table. get_or (map (λ rows. rows.items) table) c.args.node []) c.deref.ensures.value)
