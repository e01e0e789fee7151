-- Of `ControlAgent::take_price`: its clause `after`; what the type keeps.
use Rattle.std.proofs.Common.{◌≡◌, ◌∙◌, sym, ap, subst, List, Option, Some, ltb, arith}
use Rattle.std.proofs.lemmas.Bool.{cond-true, lt-ltb}
use Rattle.pm_net.specs.Messages.{PriceMessage}
use Rattle.pm_net.specs.Agents.{Offer, DeviceAgent, kept_offer, answered_by, after_price}
use Rattle.pm_net.specs.Devices.{IsOfferWindow}
use Rattle.pm_control.specs.Control.{message_of}
use Rattle.pm_control.proofs.Kept.{answers}
use Rattle.pm_control.proofs.agent.ControlAgent.take_price.Goals as goal

pub invariant_of-self-2 : goal.invariant_of-self-2
invariant_of-self-2 c =
    let price = c.args.price in
    let after = answers _ price.number price.index c.in_ok-kept.field-0.now c.self.invariant.window (sym c.in_ok-kept.ensures) in
    let Window : List Offer → Type 0 = λ l. IsOfferWindow
    (record { number = c.self.inside.number; answered = price.number; offers = l; index = price.index }) in
    record {
      window = subst Window (sym c.drop_offers.ensures.offers) after.window;
      order = after.order;
      room = omega (arith, c.self.invariant.room, c.drop_offers.ensures.capacity);
    }

pub returns-clause-after : goal.returns-clause-after
returns-clause-after c =
    let price : PriceMessage = message_of c.args.price in
    let number = c.self.inside.number in
    let old : DeviceAgent = record {
      number = number;
      answered = c.self.inside.answered;
      offers = c.self.inside.offers.items;
      index = c.self.inside.index;
    } in
    let with_offers : List Offer → DeviceAgent = λ l. record { number = number; answered = price.number; offers = l; index = price.index } in
    let found : kept_offer old price.number ≡ Some c.in_ok-kept.field-0.now = sym c.in_ok-kept.ensures in
    let After : DeviceAgent → Type 0 = λ agent. with_offers c.drop_offers.new.offers.items ≡ after_price agent price in
    subst After c.self.view_is (ap with_offers c.drop_offers.ensures.offers ∙ ap (answered_by old price) (sym found)
    ∙ sym (cond-true (ltb old.index price.index) (answered_by old price (kept_offer old price.number)) old
    (lt-ltb old.index price.index c.if-price-self.false)))
