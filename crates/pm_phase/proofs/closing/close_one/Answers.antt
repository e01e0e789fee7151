-- Of `close_one`: its clause `log`.
use Rattle.std.proofs.Common.{◌≡◌, sym, subst, ℕ, List}
use Rattle.pm_cells.specs.Numbers.{AreRising, AllAmong}
use Rattle.pm_phase.proofs.closing.close_one.Goals as goal

-- numbers that are among others are so as well if both lists are equal to these
among : {taken put kept_taken kept_put : List ℕ} → kept_taken ≡ taken → kept_put ≡ put → AllAmong taken put → AllAmong kept_taken kept_put
among {taken = taken} {put = put} {kept_taken = kept_taken} {kept_put = kept_put} same_taken same_put all =
    subst (λ (t : List ℕ). AllAmong t kept_put) (sym same_taken) (subst (λ (p : List ℕ). AllAmong taken p) (sym same_put) all)

pub returns-clause-log : goal.returns-clause-log
returns-clause-log c =
    let same = c.give_room_back.ensures in
    let closed = c.close_link-log.ensures in record {
      bids_rise = subst AreRising (sym same.bid_takes) closed.bids_rise;
      bids_were_put = among same.bid_takes same.bid_puts closed.bids_were_put;
      prices_rise = subst AreRising (sym same.price_takes) closed.prices_rise;
      prices_were_put = among same.price_takes same.price_puts closed.prices_were_put;
    }
