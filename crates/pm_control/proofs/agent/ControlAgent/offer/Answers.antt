-- Of `ControlAgent::offer`: what the type keeps.
use Rattle.std.proofs.Common.{◌≡◌, ◌∙◌, sym, ap, subst, ◌+◌, length, List, arith}
use Rattle.std.proofs.lemmas.List.{length_push}
use Rattle.pm_net.specs.Agents.{Offer}
use Rattle.pm_net.specs.Devices.{AreFrom}
use Rattle.pm_net.proofs.Offers.{from_push}
use Rattle.pm_control.proofs.agent.ControlAgent.offer.Goals as goal

pub invariant_of-self : goal.invariant_of-self
invariant_of-self c =
    let window = c.self.invariant.window in
    let new = c.new.result in
    let old = c.self.inside.offers.items in
    let number : new.number ≡ window.first + (length old + length old) = ap (λ (o : Offer). o.number) c.new.ensures ∙ sym window.to_last in
    record {
      window = record {
        first = window.first;
        are_from = subst (AreFrom window.first) (sym c.in-Ok.ensures.items) (from_push old window.first new window.are_from number);
        to_last = omega (arith, window.to_last, ap length c.in-Ok.ensures.items, length_push old new);
        low = window.low;
        high = window.high;
        few = omega arith;
      };
      order = omega (arith, c.self.invariant.order);
      room = omega (arith, c.self.invariant.room, c.push.ensures.capacity);
    }
