-- Of `take_promise`: its ends are those of the bands that are kept.
use Rattle.std.proofs.Common.{rules, sym, subst}
use Rattle.std.proofs.lemmas.Int.{to_z-of_z}
use Rattle.std.proofs.lemmas.List.Elements.{All-filter}
use Rattle.pm_guard.specs.Bands.{AreBidBands, IsBidBand, is_from}
use Rattle.pm_guard.proofs.child.Child.take_promise.Goals as goal

small : (c : goal.After-self-then-has_any_from-1) → AreBidBands c.keep_from.new.held.items
small c =
    subst AreBidBands (sym c.keep_from.ensures)
    (All-filter (is_from c.args.index) IsBidBand c.self.inside.held.items c.self.invariant.bands)

pub invariant_of-self : goal.invariant_of-self
invariant_of-self c = record { bands = small c; is_most = search (rules, to_z-of_z); is_least = search (rules, to_z-of_z) }

pub returns-then-has_any_from-clause-small : goal.returns-then-has_any_from-clause-small
returns-then-has_any_from-clause-small c = small c
