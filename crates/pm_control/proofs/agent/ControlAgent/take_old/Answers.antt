-- Of `ControlAgent::take_old`: its clause `after`.
use Rattle.std.proofs.Common.{◌≡◌, ◌∙◌, sym, ap, subst, ℕ, ◌+◌, ◌^◌, List, [], ◌∷◌, ◌++◌, length, Option, Some, ltb}
use Rattle.std.proofs.Common.{cond, eqb, arith}
use Rattle.std.proofs.lemmas.Bool.{cond-true, lt-ltb}
use Rattle.std.specs.List.{find}
use Rattle.pm_net.specs.Agents.{Offer, DeviceAgent, kept_offer}
use Rattle.pm_net.specs.Devices.{AreFrom}
use Rattle.pm_control.specs.Control.{newest_demand, demand_of_kept, offered_anew, after_old}
use Rattle.pm_control.proofs.Kept.{last_kept}
use Rattle.pm_control.proofs.agent.ControlAgent.take_old.Goals as goal

pub returns-clause-after : goal.returns-clause-after
returns-clause-after c =
    let n : ℕ = c.self.inside.number in
    let kept : ℕ = c.args.kept in
    let old : DeviceAgent = record {
      number = n;
      answered = c.self.inside.answered;
      offers = c.self.inside.offers.items;
      index = c.self.inside.index;
    } in
    let newest : Offer = c.in_ok-newest.newest in
    let before : List Offer = c.pop.new.self.items in
    let anew : ℕ → DeviceAgent = λ k. record {
      number = k;
      answered = n + 2;
      offers = record { number = k; demand = newest.demand } ∷ [];
      index = c.self.inside.index;
    } in
    let items : c.self.inside.offers.items ≡ before ++ newest ∷ [] = c.in_ok-newest.ensures.items in
    let window = c.self.invariant.window in
    let found : kept_offer old n ≡ Some newest =
    subst (λ (l : List Offer). find (λ (offer : Offer). eqb offer.number n) l ≡ Some newest) (sym items)
    (last_kept n before newest window.first (subst (AreFrom window.first) items window.are_from)
    (subst (λ (l : List Offer). window.first + (length l + length l) ≡ n + 2) items window.to_last)) in
    let with_offers : List Offer → DeviceAgent = λ l. record { number = n + 4; answered = n + 2; offers = l; index = c.self.inside.index } in
    let again : DeviceAgent = offered_anew old (newest_demand old) in
    let After : DeviceAgent → Type 0 = λ agent. with_offers c.push.new.self.items ≡ after_old agent kept in
    subst After c.self.view_is (ap with_offers (c.in-Ok.ensures.items ∙ ap (λ (l : List Offer). l ++ c.renumbered.result ∷ []) c.clear.ensures.items)
    ∙ ap (λ (o : Offer). with_offers (o ∷ [])) c.renumbered.ensures
    ∙ ap anew (let sum : n + 4 ≡ n + 2 + 2 = omega arith in sum)
    ∙ ap (λ (o : Option Offer). offered_anew old (demand_of_kept o)) (sym found)
    ∙ sym (cond-true (ltb (n + 7) (2 ^ 32)) again old (lt-ltb (n + 7) (2 ^ 32) (omega (arith, c.if-self.false))))
    ∙ sym (cond-true (ltb n kept) (cond (ltb (n + 7) (2 ^ 32)) again old) old (lt-ltb n kept (omega (arith, c.if-kept-self.false)))))
