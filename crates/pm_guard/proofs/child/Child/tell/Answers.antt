-- Of `tell`: its ends are those of the bands with one more.
use Rattle.std.proofs.Common.{◌≡◌, sym, subst, arith, to_z, of_z, w64}
use Rattle.std.proofs.lemmas.Int.{ints, clamps}
use Rattle.std.proofs.lemmas.List.Elements.{All-push}
use Rattle.pm_guard.specs.Bands.{AreBidBands, IsBidBand, greatest_power, least_power}
use Rattle.pm_guard.proofs.Ends.{greatest_power-push, least_power-push}
use Rattle.pm_guard.proofs.child.Child.tell.Goals as goal

small : (c : goal.After-self-2-1) → AreBidBands c.push.new.self.items
small c =
    subst AreBidBands (sym c.in_ok-push.ensures.items)
    (All-push IsBidBand c.self.inside.held.items c.args.band c.self.invariant.bands c.requires.small)

pub invariant_of-self-2 : goal.invariant_of-self-2
invariant_of-self-2 c =
    let inside = c.self.invariant in
    let held = c.self.inside.held.items in
    let band = c.args.band in
    let most = greatest_power-push held band in
    let least = least_power-push held band in
    let max = c.max-self-inside.ensures.value in
    let min = c.min-self-inside.ensures.value in
    record {
      bands = small c;
      is_most = subst (λ l. to_z w64 (of_z w64 c.max-self-inside.result) ≡ greatest_power l) (sym c.in_ok-push.ensures.items)
          (omega (arith, ints, clamps, inside.is_most, most, max));
      is_least = subst (λ l. to_z w64 (of_z w64 c.min-self-inside.result) ≡ least_power l) (sym c.in_ok-push.ensures.items)
          (omega (arith, ints, clamps, inside.is_least, least, min));
    }

pub returns-clause-small : goal.returns-clause-small
returns-clause-small c = small c
