-- Of `read_state`: what it ensures.
use Rattle.pm_frames.proofs.ReadOffers.{state_of_number, number_refused, number_read, no_kind, unfit, fit_state, bid_of_kind}
use Rattle.pm_frames.proofs.offer.read_state.Goals as goal

pub returns-in_default-clause-one : goal.returns-in_default-clause-one
returns-in_default-clause-one g c =
    let number = c.read_i32-number.result.0 in
    number_refused c.args.place _ _ number c.requires.open c.requires.size c.read_i32-number.ensures.fits c.read_i32-number.ensures.bytes
    (no_kind _ (state_of_number number) c.in_default.is)

pub returns-then-not-fits-clause-one : goal.returns-then-not-fits-clause-one
returns-then-not-fits-clause-one g c =
    let number = c.read_i32-number.result.0 in
    number_refused c.args.place _ _ number c.requires.open c.requires.size c.read_i32-number.ensures.fits c.read_i32-number.ensures.bytes
    (unfit _ _ (state_of_number number) _ c.in-Some.is c.fits.ensures.fits c.if-not-fits.true)

pub returns-clause-one : goal.returns-clause-one
returns-clause-one g c =
    let number = c.read_i32-number.result.0 in
    number_read c.args.place _ _ number _ c.requires.open c.requires.size c.read_i32-number.ensures.fits c.read_i32-number.ensures.bytes
    (fit_state _ _ (state_of_number number) _ c.in-Some.is c.fits.ensures.fits c.if-not-fits.false)
    (bid_of_kind _ _ (state_of_number number) _ _ _ c.in-Some.is c.steps.ensures c.in_ok-demand.ensures.demand) c.in_ok-demand.ensures.bid
