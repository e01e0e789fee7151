-- Of `advance`: its clause `fits`.
use Rattle.std.proofs.Common.{rules, sym, subst, ℤ, IsTrue, w64, FitsSigned}
use Rattle.std.proofs.lemmas.Int.{to_z-of_z}
use Rattle.pm_device.specs.Kinds.{state_fits}
use Rattle.pm_device.proofs.TicksFit.{tick-fits}
use Rattle.pm_device.proofs.tick.advance.Goals as goal

pub returns-clause-fits : goal.returns-clause-fits
returns-clause-fits c =
    let power = c.ranges.power in
    let minutes = c.ranges.minutes in
    let before : FitsSigned w64 c.args.state.0 = search rules in
    let result : FitsSigned w64 c.number_after.result = search rules in
    let after = simp to_z-of_z at c.number_after.ensures in
    let kind = c.args.kind.now in
    let fits = tick-fits kind c.args.state.0 c.args.power c.args.minutes c.requires.valid c.requires.fits in
    simp to_z-of_z (subst (λ (z : ℤ). IsTrue (state_fits kind z)) (sym after) fits)
