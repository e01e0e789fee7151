-- What the law of the network says of a system.
use Rattle.std.proofs.Common.{sym, subst, ℕ, ◌<◌, List, length}
use Rattle.std.specs.List.{All}
use Rattle.pm_market.specs.Lists.{Lists, IsNode}
use Rattle.pm_market.specs.State.{State, start}
use Rattle.pm_market.specs.Moves.{after_from}
use Rattle.pm_laws.proofs.Facts.{cleared_within}
use Rattle.pm_laws.proofs.Published.{due_within}
use Rattle.pm_net.specs.Pricing.{Pricing}
use Rattle.pm_net.specs.Messages.{PriceMessage}
use Rattle.pm_net.specs.Agrees.{IsItsPrice}
use Rattle.pm_net.specs.Agents.{Setpoint}
use Rattle.pm_net.specs.Devices.{Devices, start_devices, devices_after, DevicesAgree, IsRight}
use Rattle.pm_net.proofs.Steps.{run_from_start}
use Rattle.pm_net.proofs.PriceLimits.{same_limits}
use Rattle.pm_net_plan.specs.Places.{Numbering}
use Rattle.pm_system.specs.System.{System, price_in_channel}
use Rattle.pm_system.specs.Calls.{NodeCall}
use Rattle.pm_system.specs.Given.{IsTreeMarket}
use Rattle.pm_system.specs.Market.{RunsTheMarket, KeepsTheLaw}
use Rattle.pm_system.proofs.Flow.{flows}
use Rattle.pm_system.proofs.Moving.{same_price, prices_in}

-- a system that runs the market keeps the law
pub keeps_the_law : (lists : Lists) (p : Pricing) (numbering : Numbering) (calls : List NodeCall) (sys : System) → IsTreeMarket lists p numbering →
    RunsTheMarket lists p numbering calls sys → KeepsTheLaw lists p sys
keeps_the_law lists p numbering calls sys market has =
    let devices : Devices = devices_after lists p (start_devices p) has.events in
    let goes = run_from_start lists market.law market.one_phase p market.by_nodes has.events in
    let s : State = after_from lists start goes.moves in
    let agree : DevicesAgree lists p devices s = goes.agree in
    let its : (x k : ℕ) → IsNode lists x → k < length (sys.prices_sent x) → IsItsPrice lists p s x (price_in_channel sys x k) =
    λ x k node inside.
    let Its : PriceMessage → Type 0 = λ q. IsItsPrice lists p s x q in
    subst Its (sym (same_price lists p numbering market.places devices sys has.is x k node))
    (agree.agrees.prices_sent x k node (prices_in lists p numbering market.places devices sys has.is x k node inside)) in
    record {
      journal = goes.moves;
      legal = goes.legal;
      prices = its;
      cleared = λ x k node inside. let w = due_within lists s agree.agrees.sound x (price_in_channel sys x k).index (its x k node inside).0 in (w.0, w.1);
      setpoints = λ d leaf. let Right : List Setpoint → Type 0 = λ l. All (IsRight lists p s d) l in
          subst Right (has.is.setpoints d leaf) (agree.setpoints d leaf);
      limits = λ c k conc inside. same_limits lists market.law p s agree.agrees.sound c (conc.0, conc.1) (price_in_channel sys c k)
          (its c k (conc.0, conc.1) inside) market.by_nodes;
      flows = flows lists p numbering market sys s (λ d leaf. let Right : List Setpoint → Type 0 = λ l. All (IsRight lists p s d) l in
          subst Right (has.is.setpoints d leaf) (agree.setpoints d leaf));
      later = λ i j d le within leaf. cleared_within lists market.law s agree.agrees.sound i j le within d leaf;
    }
