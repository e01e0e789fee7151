-- Each run of a system is a run of the network.
use Rattle.std.proofs.Common.{◌≡◌, sym, ap, subst, ℕ, List, [], ◌∷◌, ◌++◌, length, inl, inr, refl, arith}
use Rattle.pm_market.specs.Lists.{Lists}
use Rattle.pm_market.specs.State.{State, start}
use Rattle.pm_market.specs.Moves.{after_from}
use Rattle.pm_net.specs.Pricing.{Pricing}
use Rattle.pm_net.specs.Messages.{BidMessage}
use Rattle.pm_net.specs.Agents.{DeviceAgent}
use Rattle.pm_net.specs.Events.{Event, RunsOn}
use Rattle.pm_net.specs.Devices.{Devices, start_devices, devices_step, devices_after, DevicesAgree}
use Rattle.pm_net.proofs.Steps.{run_goes_on, agree_at_start}
use Rattle.pm_net_plan.specs.Places.{Numbering}
use Rattle.pm_relay_net.proofs.ComingUp as relay
use Rattle.pm_relay_net.proofs.RootComingUp as root
use Rattle.pm_system.specs.System.{System}
use Rattle.pm_system.specs.Calls.{NodeCall, Does, SystemRuns, StaysUp}
use Rattle.pm_system.specs.Calls.{Bids, Expires, TakesBid, Sends, Clears, TakesPrice, Restarts, StopsBidding, Resends, StopsClearing, TellsOne}
use Rattle.pm_system.specs.Given.{IsTreeMarket, IsStarted}
use Rattle.pm_system.specs.Market.{SystemIs, RunsTheMarket}
use Rattle.pm_system.proofs.Moving.{Follows}
use Rattle.pm_system.proofs.DeviceCalls as device_calls
use Rattle.pm_system.proofs.RelayCalls as relay_calls
use Rattle.pm_system.proofs.RootCalls as root_calls

-- events after events
after_both : (lists : Lists) (p : Pricing) (devices : Devices) (es fs : List Event) →
    devices_after lists p devices (es ++ fs) ≡ devices_after lists p (devices_after lists p devices es) fs
after_both lists p devices [] fs = refl
after_both lists p devices (e ∷ es) fs = after_both lists p (devices_step lists p devices e) es fs

on_both : (x : ℕ) (es fs : List Event) → RunsOn x es → RunsOn x fs → RunsOn x (es ++ fs)
on_both x [] fs first then = then
on_both x (e ∷ es) fs first then = (first.0, on_both x es fs first.1 then)

module _ (lists : Lists) (p : Pricing) (numbering : Numbering) (market : IsTreeMarket lists p numbering)
    (back : device_calls.ComesBackAsStored) where
  -- a call is some events
  pub call_follows : (devices : Devices) (s : State) → DevicesAgree lists p devices s → (sys : System) → SystemIs lists p numbering devices sys →
      (call : NodeCall) (new : System) → Does lists p numbering sys call new → Follows lists p numbering devices call new
  call_follows devices s agree sys is (Bids d) new did =
      device_calls.bids lists p numbering market devices s agree sys is d did.agent did.bid did.made new did.new_is
  call_follows devices s agree sys is (Expires d n) new did = device_calls.expires lists p numbering market devices s agree sys is d n new did
  call_follows devices s agree sys is (TakesBid x k) new (inl did) = relay_calls.takes_bid lists p numbering market devices s agree.agrees sys is x k new did
  call_follows devices s agree sys is (TakesBid x k) new (inr did) = root_calls.takes_bid lists p numbering market devices s agree.agrees sys is x k new did
  call_follows devices s agree sys is (Sends c) new did = relay_calls.sends lists p numbering market devices s agree.agrees sys is c new did
  call_follows devices s agree sys is Clears new did = root_calls.clears lists p numbering market devices s agree.agrees sys is new did
  call_follows devices s agree sys is (TakesPrice x k) new (inl did) =
      relay_calls.takes_price lists p numbering market devices s agree.agrees sys is x k new did
  call_follows devices s agree sys is (TakesPrice x k) new (inr did) = device_calls.takes_price lists p numbering market devices s agree sys is x k new did
  call_follows devices s agree sys is (Restarts y k) new (inl did) =
      root_calls.comes_up lists p numbering market devices s agree.agrees sys is y k new did.0 did.1
  call_follows devices s agree sys is (Restarts y k) new (inr (inl did)) =
      relay_calls.comes_up lists p numbering market devices s agree.agrees sys is y k new did
  call_follows devices s agree sys is (Restarts y k) new
      (inr (inr did)) = device_calls.comes_up lists p numbering market devices s agree sys is back y k new did
  call_follows devices s agree sys is (StopsBidding x) new (inl did) = relay_calls.stops lists p numbering market devices s agree.agrees sys is x new did
  call_follows devices s agree sys is (StopsBidding x) new (inr did) =
      device_calls.stops lists p numbering market devices s agree sys is x did.agent did.bid did.made new did.new_is
  call_follows devices s agree sys is (Resends x) new (inl did) = relay_calls.resends lists p numbering market devices s agree.agrees sys is x new did
  call_follows devices s agree sys is (Resends x) new (inr did) = device_calls.resends lists p numbering market devices s agree sys is x new did
  call_follows devices s agree sys is StopsClearing new did = root_calls.stops lists p numbering market devices s agree.agrees sys is new did
  call_follows devices s agree sys is (TellsOne z) new did = root_calls.tells lists p numbering market devices s agree.agrees sys is z new did

  -- calls are events, from any devices that stand for a state
  record FollowAll (devices : Devices) (calls : List NodeCall) (new : System) : Type 0 where
    events : List Event
    is : SystemIs lists p numbering (devices_after lists p devices events) new
    restarts : (x : ℕ) → StaysUp x calls → RunsOn x events

  calls_follow : (calls : List NodeCall) (devices : Devices) (s : State) → DevicesAgree lists p devices s → (sys : System) →
      SystemIs lists p numbering devices sys → (new : System) → SystemRuns lists p numbering sys calls new → FollowAll devices calls new
  calls_follow [] devices s agree sys is new runs = record {
    events = [];
    is = subst (λ (t : System). SystemIs lists p numbering devices t) runs is;
    restarts = λ x up. tt;
  }
  calls_follow (call ∷ calls) devices s agree sys is new runs =
      let first = call_follows devices s agree sys is call runs.0 runs.1 in
      let goes = run_goes_on lists market.law market.one_phase p market.by_nodes first.events devices s agree in
      let rest = calls_follow calls (devices_after lists p devices first.events) (after_from lists s goes.moves) goes.agree runs.0 first.is new runs.2 in
      let Is : Devices → Type 0 = λ w. SystemIs lists p numbering w new in
      record {
        events = first.events ++ rest.events;
        is = subst Is (sym (after_both lists p devices first.events rest.events)) rest.is;
        restarts = λ x up. on_both x first.events rest.events (first.restarts x up.0) (rest.restarts x up.1);
      }

  -- nodes that came up for the first time are what a network has in which nothing was sent
  started : (sys : System) → IsStarted lists p sys → SystemIs lists p numbering (start_devices p) sys
  started sys at = record {
    root = root.first_up lists p numbering market.places sys.root at.root;
    relays = λ c conc.
        let up = at.relays c conc in
        relay.first_up lists p numbering market.places market.by_nodes.limits_alike up.0 c (sys.relays c) up.1 up.2;
    agents = λ d leaf. sym (at.agents d leaf);
    setpoints = λ d leaf. sym (at.setpoints d);
    channels = record {
      sent = λ x k node inside. absurd (omega (arith, inside, ap (λ (l : List BidMessage). length l) (at.bids_sent x)));
      made = λ d n leaf one le. absurd (omega (arith, one, le));
    };
    counted = λ d leaf. inl (omega (arith, ap (λ (a : DeviceAgent). a.number) (at.agents d leaf)));
    prices_sent = λ x node. sym (at.prices_sent x);
  }

  -- a run of a system from its start is a run of the network
  pub system_runs : (sys new : System) (calls : List NodeCall) → IsStarted lists p sys → SystemRuns lists p numbering sys calls new →
      RunsTheMarket lists p numbering calls new
  system_runs sys new calls at runs =
      let all = calls_follow calls (start_devices p) start (agree_at_start lists market.law p market.by_nodes) sys (started sys at) new runs in
      record { events = all.events; is = all.is; restarts = all.restarts }

  -- and what runs the market goes on to
  first_stays : (x : ℕ) (calls more : List NodeCall) → StaysUp x (calls ++ more) → StaysUp x calls
  first_stays x [] more up = tt
  first_stays x (call ∷ calls) more up = (up.0, first_stays x calls more up.1)

  more_stays : (x : ℕ) (calls more : List NodeCall) → StaysUp x (calls ++ more) → StaysUp x more
  more_stays x [] more up = up
  more_stays x (call ∷ calls) more up = more_stays x calls more up.1

  -- what runs the market does so after more calls
  pub goes_on : (before more : List NodeCall) (sys new : System) → RunsTheMarket lists p numbering before sys →
      SystemRuns lists p numbering sys more new → RunsTheMarket lists p numbering (before ++ more) new
  goes_on before more sys new has runs =
      let goes = run_goes_on lists market.law market.one_phase p market.by_nodes has.events (start_devices p) start
      (agree_at_start lists market.law p market.by_nodes) in
      let rest = calls_follow more (devices_after lists p (start_devices p) has.events) (after_from lists start goes.moves) goes.agree sys has.is new runs in
      let Is : Devices → Type 0 = λ w. SystemIs lists p numbering w new in
      record {
        events = has.events ++ rest.events;
        is = subst Is (sym (after_both lists p (start_devices p) has.events rest.events)) rest.is;
        restarts = λ x up. on_both x has.events rest.events (has.restarts x (first_stays x before more up))
            (rest.restarts x (more_stays x before more up));
      }
