-- Of `Relay::send`: its clause `sent`; what the type keeps.
use Rattle.std.proofs.Common.{rules, ◌≡◌, ◌∙◌, sym, ap, subst, ℕ, ◌+◌, ◌%◌, List, length, Some, refl, arith}
use Rattle.std.proofs.Math.ListN.{set}
use Rattle.pm_base.specs.declared.limits.Limits.{Limits}
use Rattle.pm_relay.proofs.MadeUnder.{made_same, made_other}
use Rattle.pm_base.specs.Limits.{most_nodes}
use Rattle.pm_cache.specs.Cache.{Cache}
use Rattle.pm_concentrator.specs.Concentrators.{BidSettled}
use Rattle.pm_relay.specs.Numbers.{head_number}
use Rattle.pm_relay.specs.Relays.{RelayValue, AreRelayLimits, BidSent, newest_bid_number, limits_places}
use Rattle.std.proofs.lemmas.List.Elements.{All-set}
use Rattle.pm_relay.proofs.Gathering.{parts_of, over_bid}
use Rattle.pm_relay.proofs.relay.Relay.send.Goals as goal

pub invariant_of-self : goal.invariant_of-self
invariant_of-self c =
    let made = c.in-Ok.ensures.made in
    let right = over_bid _ _ _ (parts_of _ c.self.invariant) made c.cache.ensures.sound in
    record {
      children = right.children;
      same_children = c.note_numbers.ensures.same_length ∙ c.self.invariant.same_children;
      limits_kept = search rules;
      limits_small = All-set AreRelayLimits c.self.inside.made_under.items _ c.limits-limits.result c.limits-limits.ensures.small c.self.invariant.limits_small;
      limits = right.limits;
      single = right.single;
      announced = right.announced;
      small = right.small;
      numbers = omega (arith, made.number, made.sent.last, c.last-last.ensures, ap newest_bid_number c.self.view_is, c.if-last.false);
      answered = omega (arith, made.number, made.sent.last);
      window = omega (arith, made.sent.answered);
    }

pub returns-clause-sent : goal.returns-clause-sent
returns-clause-sent c =
    let did = c.in-Ok.ensures.made in
    let right = over_bid _ _ _ (parts_of _ c.self.invariant) did c.cache.ensures.sound in
    let old = c.self.inside.concentrator in
    let new = c.next_settled_bid.new.self in
    let heads : c.heads.result.now ≡ old.cache.heads = c.heads.ensures.heads ∙ ap (λ (k : Cache). k.heads) (c.cache.ensures.cache ∙ did.cache) in
    let children : length c.heads.result.now ≡ most_nodes = ap length heads ∙ c.self.invariant.children in
    let kept : List Limits = c.self.inside.made_under.items in
    let made : List Limits = set kept ((c.last-last.result + 1) % limits_places) c.limits-limits.result in
    let limits : Some c.limits-limits.result ≡ old.limits =
    c.limits-limits.ensures.limits ∙ ap (λ (r : RelayValue). r.gathered.limits) (sym c.self.view_is) in
    subst (λ (r : RelayValue). BidSent r (record {
      gathered = new;
      base = c.self.inside.base;
      answered = c.self.inside.answered;
      index = c.self.inside.index;
      recorded = c.note_numbers.new.numbers.items;
      made_under = made;
    }) (c.last-last.result + 1)) c.self.view_is (record {
      caught_up = search rules;
      room = omega (arith, c.last-last.ensures, ap newest_bid_number c.self.view_is, c.if-last-self-ge-WINDOW_SIZE.false);
      number = omega (arith, c.last-last.ensures, ap newest_bid_number c.self.view_is);
      made = subst (λ (n : ℕ). BidSettled old new n) did.number did;
      announced = right.announced ∙ ap Some did.demand;
      numbers = λ child inside. c.note_numbers.ensures.noted child (omega (arith, inside, children)) ∙ ap (λ l. head_number l child) heads;
      children = c.note_numbers.ensures.same_length;
      base = refl;
      answered = refl;
      index = refl;
      made_under = made_same kept (c.last-last.result + 1) c.limits-limits.result c.self.invariant.limits_kept ∙ limits;
      kept_under = λ n from to. made_other kept n (c.last-last.result + 1) c.limits-limits.result
          (omega (arith, to, c.last-last.ensures, ap newest_bid_number c.self.view_is))
          (omega (arith, from, c.last-last.ensures, ap newest_bid_number c.self.view_is, c.if-last-self-ge-WINDOW_SIZE.false));
    })
