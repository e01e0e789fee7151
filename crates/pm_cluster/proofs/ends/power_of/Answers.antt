-- Of `power_of`: what it ensures; what the calls of `parent_of`, `place_in_row`, `demand` and `unreachable` require; that its numbers fit.
use Rattle.std.proofs.Common.{◌≡◌, ◌∙◌, sym, ap, ℕ, ◌<◌, length, Option, Some, None, is_some, slice_index_or, arith, rules, w64, FitsSigned}
use Rattle.std.proofs.lemmas.Int.{to_z-of_z}
use Rattle.std.proofs.lemmas.Bool.{false≢true}
use Rattle.pm_cache.specs.Cache.{Cache}
use Rattle.pm_session.specs.Ports.{held_by}
use Rattle.pm_session.specs.declared.price.Held.{Held}
use Rattle.pm_stands.specs.Core.{cache_in, seat_at}
use Rattle.pm_stands.proofs.Caches.{cache_root}
use Rattle.pm_cluster.proofs.EntriesTold.{concentrator_read, cache_read, power_told, no_power_told}
use Rattle.pm_cluster.proofs.Seats.{seat_read}
use Rattle.pm_cluster.proofs.ends.power_of.Goals as goal
use Rattle.pm_cluster.proofs.ends.power_of.Goals.{After-index, After-counter-1, After-place_in_row-place, After-counter-in-Some-index-1}

pub index-requires : goal.index-requires
index-requires c = omega (arith, c.requires.told.port, c.args.ports.now.ok.0)

pub parent_of-parent-requires : goal.parent_of-parent-requires
parent_of-parent-requires c = record { node = c.requires.told.here }

pub place_in_row-place-requires : goal.place_in_row-place-requires
place_in_row-place-requires c = record { node = c.requires.told.here }

seat_is : (c : After-index) → seat_at c.args.ports.now.items c.args.device.0 ≡ c.index.result.now
seat_is c = seat_read c.args.ports.now.items c.args.device.0 c.index.result.now
    c.requires.told.port c.index.ensures

held_price_is : (c : After-index) (held : Option Held) → held ≡ held_by c.index.result.now →
    held_by (seat_at c.args.ports.now.items c.args.device.0) ≡ held
held_price_is c held is = ap held_by (seat_is c) ∙ sym is

pub returns-in_default : goal.returns-in_default
returns-in_default c =
    let none : held_by (seat_at c.args.ports.now.items c.args.device.0) ≡ None =
    ap held_by (seat_is (goal.at.returns-in_default c).After-index) ∙ sym c.in_default.ensures.held in
    record { power = (no_power_told c.args.plan.now c.args.auctioneer.now c.args.concentrators.now.items c.args.ports.now.items c.args.device.0 none) }

-- at the auctioneer

root_cache : (c : After-counter-1) → c.cache.result.now ≡ cache_in c.args.auctioneer.now c.args.concentrators.now.items c.parent_of-parent.result
root_cache c = c.cache.ensures.cache ∙ sym (cache_root c.args.auctioneer.now c.args.concentrators.now.items c.parent_of-parent.result c.if-parent-eq0.true)

pub demand-requires-clause-child : goal.demand-requires-clause-child
demand-requires-clause-child c =
    let is = root_cache c ∙ ap (cache_in c.args.auctioneer.now c.args.concentrators.now.items) c.parent_of-parent.ensures.parent in
    omega (arith, c.place_in_row-place.ensures.place, c.requires.told.place, ap (λ (q : Cache). length q.heads) is)

pub demand-requires-clause-step : goal.demand-requires-clause-step
demand-requires-clause-step c =
    let is = root_cache c ∙ ap (cache_in c.args.auctioneer.now c.args.concentrators.now.items) c.parent_of-parent.ensures.parent in
    let at = goal.at.demand-requires-clause-step c in
    omega (
      arith,
      c.requires.told.step c.in-Some.price (held_price_is at.After-index (Some c.in-Some.price) c.in-Some.ensures.held),
      c.requires.told.steps,
      ap (λ (q : Cache). q.steps) is,
    )

pub returns-then-parent-eq0 : goal.returns-then-parent-eq0
returns-then-parent-eq0 c =
    let fits : FitsSigned w64 c.demand.result = search rules in
    let at = goal.at.returns-then-parent-eq0 c in
    let price_is = held_price_is at.After-index (Some c.in-Some.price) c.in-Some.ensures.held in
    record {
      power = to_z-of_z w64 c.demand.result fits
          ∙ (power_told c.args.plan.now c.args.auctioneer.now c.args.concentrators.now.items c.args.ports.now.items c.args.device.0
          c.parent_of-parent.result c.place_in_row-place.result c.in-Some.price c.cache.result.now c.demand.result
          price_is c.parent_of-parent.ensures.parent c.place_in_row-place.ensures.place (root_cache at.After-counter-1) c.demand.ensures.demand);
    }

-- at a concentrator

above : (c : After-place_in_row-place) → c.parent_of-parent.result < length c.args.concentrators.now.items
above c = omega (arith, c.requires.told.above, c.parent_of-parent.ensures.parent)

pub unreachable-requires : goal.unreachable-requires
unreachable-requires c =
    let at = goal.at.unreachable-requires c in
    let none : slice_index_or c.args.concentrators.now.items c.parent_of-parent.result None ≡ None =
    concentrator_read c.args.concentrators.now.items c.parent_of-parent.result c.index-2.result.now
    (above at.After-place_in_row-place) c.index-2.ensures ∙ c.in-None.is in
    let some = c.requires.told.there (λ e. c.if-parent-eq0.false (c.parent_of-parent.ensures.parent ∙ e)) in
    false≢true (sym (ap (λ (y : ℕ). is_some (slice_index_or c.args.concentrators.now.items y None))
    (sym c.parent_of-parent.ensures.parent) ∙ ap is_some none) ∙ some)

inner_cache : (c : After-counter-in-Some-index-1) →
    c.cache-in-Some-index.result.now ≡ cache_in c.args.auctioneer.now c.args.concentrators.now.items c.parent_of-parent.result
inner_cache c = cache_read c.args.auctioneer.now c.args.concentrators.now.items c.parent_of-parent.result c.index-2.result.now c.in-Some-index.concentrator
    c.cache-in-Some-index.result.now (omega (arith, c.requires.told.above, c.parent_of-parent.ensures.parent)) c.index-2.ensures
    c.in-Some-index.is c.if-parent-eq0.false c.cache-in-Some-index.ensures.cache

pub demand-requires-in-Some-index-clause-child : goal.demand-requires-in-Some-index-clause-child
demand-requires-in-Some-index-clause-child c =
    let is = inner_cache c ∙ ap (cache_in c.args.auctioneer.now c.args.concentrators.now.items) c.parent_of-parent.ensures.parent in
    omega (arith, c.place_in_row-place.ensures.place, c.requires.told.place, ap (λ (q : Cache). length q.heads) is)

pub demand-requires-in-Some-index-clause-step : goal.demand-requires-in-Some-index-clause-step
demand-requires-in-Some-index-clause-step c =
    let is = inner_cache c ∙ ap (cache_in c.args.auctioneer.now c.args.concentrators.now.items) c.parent_of-parent.ensures.parent in
    let at = goal.at.demand-requires-in-Some-index-clause-step c in
    omega (
      arith,
      c.requires.told.step c.in-Some.price (held_price_is at.After-index (Some c.in-Some.price) c.in-Some.ensures.held),
      c.requires.told.steps,
      ap (λ (q : Cache). q.steps) is,
    )

pub returns : goal.returns
returns c =
    let fits : FitsSigned w64 c.demand-in-Some-index.result = search rules in
    let at = goal.at.returns c in
    let price_is = held_price_is at.After-index (Some c.in-Some.price) c.in-Some.ensures.held in
    record {
      power = to_z-of_z w64 c.demand-in-Some-index.result fits
          ∙ (power_told c.args.plan.now c.args.auctioneer.now c.args.concentrators.now.items c.args.ports.now.items c.args.device.0
          c.parent_of-parent.result c.place_in_row-place.result c.in-Some.price c.cache-in-Some-index.result.now
          c.demand-in-Some-index.result price_is c.parent_of-parent.ensures.parent c.place_in_row-place.ensures.place
          (inner_cache at.After-counter-in-Some-index-1) c.demand-in-Some-index.ensures.demand);
    }
