-- Of `Relay::resumed`: what it ensures; what the type keeps.
use Rattle.std.proofs.Common.{rules, ◌≡◌, ◌∙◌, sym, ap, subst, ◌%◌, List, get_or, length, Some, refl, arith}
use Rattle.std.proofs.lemmas.Int.{ints}
use Rattle.std.proofs.lemmas.List.{length-replicate, get_or-replicate}
use Rattle.pm_base.specs.declared.limits.Limits.{Limits}
use Rattle.pm_relay.specs.Relays.{AreRelayLimits, no_limits, limits_places}
use Rattle.std.specs.List.{All}
use Rattle.std.proofs.lemmas.List.Elements.{All-replicate}
use Rattle.pm_base.specs.Limits.{demand_limit, most_nodes}
use Rattle.pm_bid.specs.Bids.{AllWithinLimit}
use Rattle.pm_bid.specs.Bids.{zeros}
use Rattle.pm_bid.specs.Heads.{nothing_sent}
use Rattle.pm_bid.proofs.Sums.{zeros-within}
use Rattle.pm_concentrator.specs.Concentrators.{own_demand}
use Rattle.pm_cache.specs.Cache.{Cache}
use Rattle.pm_cache.specs.Learning.{HasSingleBids}
use Rattle.pm_relay.specs.RelayFields.{HasRelayLimits}
use Rattle.pm_relay.proofs.Learnt.{same_demand}
use Rattle.pm_relay.proofs.relay.Relay.resumed.Goals as goal

pub invariant_of-result : goal.invariant_of-result
invariant_of-result c =
    let new = c.in_ok-concentrator.ensures.new in
    let steps = c.args.steps in
    let announced : c.in_ok-concentrator.concentrator.announced ≡ Some (zeros steps) = search (rules, new.announced) in
    let own : own_demand c.in_ok-concentrator.concentrator ≡ zeros steps = same_demand _ _ _ announced in
    record {
      children = ap (λ (k : Cache). length k.heads) new.cache ∙ length-replicate most_nodes nothing_sent;
      same_children = search rules;
      limits_kept = search rules;
      limits_small = subst (λ (l : List Limits). All AreRelayLimits l) (sym c.in_ok-made_under.ensures.items)
          (All-replicate AreRelayLimits limits_places c.args.resume.now.limits c.requires.under);
      limits = subst HasRelayLimits (sym new.limits) (record {
        around = record {
          floor_not_positive = omega (arith, ints);
          ceiling_not_negative = omega (arith, ints);
          floor_within = record { low = omega (arith, ints); high = omega (arith, ints) };
          ceiling_within = record { low = omega (arith, ints); high = omega (arith, ints) };
        };
        floor = record { low = omega (arith, ints); high = omega (arith, ints) };
        ceiling = record { low = omega (arith, ints); high = omega (arith, ints) };
      });
      single = subst HasSingleBids (sym new.cache)
          (All-replicate (λ bid. AllWithinLimit demand_limit bid) most_nodes (zeros steps) (zeros-within demand_limit steps));
      announced = announced ∙ ap Some (sym own);
      small = subst (AllWithinLimit demand_limit) (sym own) (zeros-within demand_limit steps);
      numbers = omega arith;
      answered = omega arith;
      window = omega arith;
    }

pub returns : goal.returns
returns c =
    let new = c.in_ok-concentrator.ensures.new in
    let place = c.args.resume.now.last % limits_places in
    record {
      back = record {
        gathered = record {
          cache = new.cache;
          window = new.window;
          limits = search (rules, new.limits);
          announced = search (rules, new.announced);
        };
        base = refl;
        answered = refl;
        index = refl;
        recorded = c.in_ok-recorded.ensures.items;
        made_under = ap (λ (l : List Limits). Some (get_or l place no_limits)) c.in_ok-made_under.ensures.items
            ∙ ap Some (get_or-replicate limits_places place c.args.resume.now.limits no_limits (omega arith));
      };
    }
