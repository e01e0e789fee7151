-- Of `Relay::look_for_record`: what the type keeps.
use Rattle.std.proofs.Common.{rules, arith}
use Rattle.pm_concentrator.specs.Concentrators.{BidSettled}
use Rattle.std.proofs.lemmas.List.Elements.{All-set}
use Rattle.pm_relay.specs.Relays.{AreRelayLimits}
use Rattle.pm_relay.proofs.Gathering.{parts_of, over_bid, over_answer, when_ok}
use Rattle.pm_relay.proofs.relay.Relay.look_for_record.Goals as goal

pub invariant_of-self-then-self : goal.invariant_of-self-then-self
invariant_of-self-then-self c =
    let made =
    when_ok (BidSettled c.self.inside.concentrator c.next_settled_bid.new.self) c.next_settled_bid.result c.if-is_err.ensures.negation
    c.next_settled_bid.ensures.made in
    let right = over_answer _ _ 1 (over_bid _ _ made.0 (parts_of _ c.self.invariant) made.1 c.cache-cache.ensures.sound) c.answer.ensures.passed in
    record {
      children = right.children;
      same_children = c.self.invariant.same_children;
      limits_kept = search rules;
      limits_small = All-set AreRelayLimits c.self.inside.made_under.items _ c.limits-limits.result c.limits-limits.ensures.small c.self.invariant.limits_small;
      limits = right.limits;
      single = right.single;
      announced = right.announced;
      small = right.small;
      numbers = omega (arith, made.1.number, made.1.sent.last, c.answer.ensures.passed.window.last);
      answered = omega (arith, made.1.number, made.1.sent.last, c.answer.ensures.passed.window.last);
      window = omega (arith, c.answer.ensures.passed.window.answered);
    }

pub invariant_of-self-else-self : goal.invariant_of-self-else-self
invariant_of-self-else-self c =
    let made =
    when_ok (BidSettled c.self.inside.concentrator c.next_settled_bid.new.self) c.next_settled_bid.result c.if-is_err.ensures.negation
    c.next_settled_bid.ensures.made in
    let right = over_bid _ _ made.0 (parts_of _ c.self.invariant) made.1 c.cache-cache.ensures.sound in
    record {
      children = right.children;
      same_children = c.self.invariant.same_children;
      limits_kept = search rules;
      limits_small = All-set AreRelayLimits c.self.inside.made_under.items _ c.limits-limits.result c.limits-limits.ensures.small c.self.invariant.limits_small;
      limits = right.limits;
      single = right.single;
      announced = right.announced;
      small = right.small;
      numbers = omega (arith, made.1.number, made.1.sent.last);
      answered = omega (arith, made.1.number, made.1.sent.last);
      window = omega (arith, made.1.sent.answered);
    }
