-- The lives of the nodes of a market, from the start on, are a run of a system.
use Rattle.std.proofs.Common.{◌≡◌, ◌⊎◌, ◌∙◌, sym, ap, subst, ℕ, ◌<◌, true, false}
use Rattle.std.proofs.Common.{replicate, List, [], ◌∷◌, ◌++◌, length, Some, refl, inl, inr, arith, append-nil}
use Rattle.std.proofs.Common.{append_assoc}
use Rattle.std.proofs.lemmas.Bool.{both_ways}
use Rattle.std.proofs.lemmas.List.{get_or-replicate}
use Rattle.pm_market.specs.Lists.{Lists, IsLeaf}
use Rattle.pm_market.specs.State.{no_changes}
use Rattle.pm_market.proofs.Cuts.{updated_other}
use Rattle.pm_market.proofs.Tree.{leaf_node}
use Rattle.pm_net.specs.Pricing.{Pricing}
use Rattle.pm_net.specs.Messages.{BidMessage, PriceMessage}
use Rattle.pm_net.specs.Agents.{Setpoint, DeviceAgent}
use Rattle.pm_net_plan.specs.Places.{Numbering}
use Rattle.pm_control.specs.Control.{newest_demand}
use Rattle.pm_base.specs.Limits.{most_nodes}
use Rattle.pm_relay.specs.Numbers.{child_number}
use Rattle.pm_frames.specs.Stored.{StoredRelay, StoredRoot}
use Rattle.pm_frames.specs.declared.stored.StoredAgent.{StoredAgent}
use Rattle.pm_lives.specs.Lives.{setup_of}
use Rattle.pm_system.specs.System.{System}
use Rattle.pm_system.specs.Calls.{NodeCall, SystemRuns, StaysUp}
use Rattle.pm_system.specs.Given.{IsTreeMarket, IsStarted}
use Rattle.pm_system.specs.Market.{RunsTheMarket, KeepsTheLaw}
use Rattle.pm_system.proofs.Moving.{relay_no_leaf}
use Rattle.pm_lives.specs.RelayLife.{IsRelayKept, numbers_in_places}
use Rattle.pm_lives.specs.RootLife.{IsRootKept}
use Rattle.pm_lives.specs.DeviceLife.{IsAgentKept}
use Rattle.pm_lives.specs.Lives as lives
use Rattle.pm_lives.specs.Lives.{no_agent_stored}
use Rattle.pm_lives.specs.Lives.{let_go_at_relay, let_go_at_root}
use Rattle.pm_lives.specs.Lives.{World, AllIn, LivesAreCalls, handed_out, stored_last, RelayBegins, RelayReads, RootBegins, RootReads, DeviceBegins}
use Rattle.pm_lives.specs.Lives.{DeviceReads, LifeStep, Lives1, Live, IsNewWorld, LivesKeepTheLaw, restart_outs}
use Rattle.pm_lives.specs.Lives.{RelayUp, Relay, RootUp, Root, DeviceUp, Device}
use Rattle.pm_lives.proofs.After.{runs_on, up_on}
use Rattle.pm_lives.proofs.RelayMoves.{RunsGoOn, ExpiringIsTwoCalls}
use Rattle.pm_lives.proofs.RootMoves.{RootExpiringIsTwoCalls}
use Rattle.pm_lives.proofs.LearntWorlds.{AllGiven, step_given, new_given}
use Rattle.pm_lives.proofs.WorldStands.{WorldStands}
use Rattle.pm_lives.proofs.LivingSteps.{step_done}

-- ---- from the start on

no_number : (k : ℕ) → k < most_nodes → child_number (replicate most_nodes 0) k ≡ 0
no_number k inside = get_or-replicate most_nodes k 0 0 inside

new_stands : (lists : Lists) (p : Pricing) (numbering : Numbering) → IsTreeMarket lists p numbering → (world : World) (sys : System) →
    IsNewWorld p numbering world → IsStarted lists p sys → WorldStands lists p numbering world sys
new_stands lists p numbering market world sys none started = record {
  relays = λ c conc.
      let up = started.relays c conc in
      let at = up.2 in
      record {
        kept = subst (λ (k : StoredRelay). IsRelayKept p numbering sys c k) (sym (none.relay_kept c)) (record {
          last = omega (arith, at.base, at.gathered.window.last);
          numbers = sym at.recorded;
          limits = market.by_nodes.limits_alike c (numbers_in_places numbering (replicate most_nodes 0)) no_changes
              (λ d node leaf above. no_number (numbering.place d) (market.places.inside d node)) ∙ up.1 ∙ ap Some (sym (none.limits c up.0 up.1));
          price = inl (refl, refl);
          older = omega arith;
        });
        stands = λ e. absurd (both_ways (world.up c) (none.up c) e);
      };
  root = record {
    kept = subst (λ (k : StoredRoot). IsRootKept sys k) (sym none.root_kept) (record {
      last = omega (arith, started.root.base, ap (λ (a : Rattle.pm_auctioneer.specs.Auctions.Auction). a.index) started.root.auction);
      numbers = sym started.root.recorded;
    });
    stands = λ e. absurd (both_ways (world.up 0) (none.up 0) e);
  };
  agents = λ d leaf.
      let at = started.agents d leaf in
      record {
        kept = subst (λ (k : StoredAgent). IsAgentKept sys d k) (sym (none.agent_kept d)) (record {
          number = ap (λ (a : DeviceAgent). a.number) (sym at);
          newest = ap newest_demand (sym at);
          price = inl refl;
          older = omega arith;
        });
        stands = λ e. absurd (both_ways (world.up d) (none.up d) e);
        fresh = λ e. (at, world.basis, none.agent_kept d);
      };
  sent = record {
    bids = λ x k node inside. absurd (omega (arith, inside, ap (λ (l : List BidMessage). length l) (none.bids_sent x)));
    prices = λ x k node inside. absurd (omega (arith, inside, ap (λ (l : List PriceMessage). length l) (none.prices_sent x)));
    setpoints = λ d setpoint at. absurd (omega (arith, at.1, ap (λ (l : List Setpoint). length l) (none.setpoints d)));
  };
  told = λ d leaf. none.setpoints d ∙ sym (started.setpoints d);
  known = λ d leaf bid at. absurd (omega (arith, at.1, ap (λ (l : List BidMessage). length l) (started.bids_sent d)));
}

-- the laws of systems
abbrev pub SystemsRun : Type 0
SystemsRun = (lists : Lists) (p : Pricing) (numbering : Numbering) (sys new : System) (calls : List NodeCall) → IsTreeMarket lists p numbering →
    IsStarted lists p sys → SystemRuns lists p numbering sys calls new → RunsTheMarket lists p numbering calls new

abbrev pub SystemsKeepTheLaw : Type 0
SystemsKeepTheLaw = (lists : Lists) (p : Pricing) (numbering : Numbering) (calls : List NodeCall) (sys : System) → IsTreeMarket lists p numbering →
    RunsTheMarket lists p numbering calls sys → KeepsTheLaw lists p sys

module _ (lists : Lists) (p : Pricing) (numbering : Numbering) (market : IsTreeMarket lists p numbering) (goes : RunsGoOn) (two : ExpiringIsTwoCalls)
    (root_two : RootExpiringIsTwoCalls) (run : SystemsRun) (start : System) (started : IsStarted lists p start) where
  -- what is so of the processes of a device from here on: none ran, and one begins at most, or none begins
  abbrev OnceFrom : ℕ → World → List LifeStep → Type 0
  OnceFrom d world steps = lives.BeginsNever d steps ⊎ ((world.up d ≡ false) × lives.BeginsOnce d steps)

  record RunsFrom (before : List NodeCall) (world : World) (steps : List LifeStep) (new : World) : Type 0 where
    calls : List NodeCall
    sys : System
    runs : SystemRuns lists p numbering start (before ++ calls) sys
    sent : AllIn lists p new.seen sys
    stands : WorldStands lists p numbering new sys
    ups : (d : ℕ) → IsLeaf lists d → OnceFrom d world steps → StaysUp d calls

  up_same : (world new : World) (step : LifeStep) → Lives1 lists p numbering world step new → (d : ℕ) → IsLeaf lists d →
      (lives.BeginsProcess d step → ⊥) →
      new.up d ≡ world.up d
  up_same world new (RelayUp c n) did d leaf other =
      ap (λ (w : World). w.up d) did.new_is ∙ updated_other world.up c true d (relay_no_leaf lists c d did.conc leaf)
  up_same world new (Relay c frame n) did d leaf other = ap (λ (w : World). w.up d) did.new_is
  up_same world new RootUp did d leaf other =
      ap (λ (w : World). w.up d) did.new_is ∙ updated_other world.up 0 true d (λ e. omega (arith, e, (leaf_node lists market.law d leaf).0))
  up_same world new (Root frame n) did d leaf other = ap (λ (w : World). w.up d) did.new_is
  up_same world new (DeviceUp e n) did d leaf other =
      ap (λ (w : World). w.up d) did.new_is ∙ updated_other world.up e true d (λ same. other (sym same))
  up_same world new (Device e frame n) did d leaf other = ap (λ (w : World). w.up d) did.new_is

  first_of_once : (world : World) (step : LifeStep) (steps : List LifeStep) (d : ℕ) → OnceFrom d world (step ∷ steps) →
      lives.BeginsProcess d step → world.up d ≡ false
  first_of_once world step steps d (inl never) is = absurd (never.0 is)
  first_of_once world step steps d (inr once) is = once.0

  rest_of_once : (world new : World) (step : LifeStep) (steps : List LifeStep) → Lives1 lists p numbering world step new → (d : ℕ) → IsLeaf lists d →
      OnceFrom d world (step ∷ steps) → OnceFrom d new steps
  rest_of_once world new step steps did d leaf (inl never) = inl never.1
  rest_of_once world new step steps did d leaf (inr once) = elim once.1 [
    | inl never ↦ inl never
    | inr rest ↦ inr (up_same world new step did d leaf rest.0 ∙ once.0, rest.1)
  ]

  lives_from : (steps : List LifeStep) (world : World) (before : List NodeCall) (sys : System) → SystemRuns lists p numbering start before sys →
      WorldStands lists p numbering world sys → AllGiven lists p numbering world → (new : World) → Live lists p numbering world steps new →
      RunsFrom before world steps new
  lives_from [] world before sys runs stands given new live = record {
    calls = [];
    sys = sys;
    runs = subst (λ (l : List NodeCall). SystemRuns lists p numbering start l sys) (sym (append-nil before)) runs;
    sent = subst (λ (w : World). AllIn lists p w.seen sys) live stands.sent;
    stands = subst (λ (w : World). WorldStands lists p numbering w sys) live stands;
    ups = λ d leaf once. tt;
  }
  lives_from (step ∷ steps) world before sys runs stands given new live =
      let has : RunsTheMarket lists p numbering before sys = run lists p numbering start sys before market started runs in
      let done = step_done lists p numbering market goes two root_two world sys stands given before has step live.0 live.1 in
      let rest = lives_from steps live.0 (before ++ done.calls) done.new (runs_on lists p numbering before done.calls start sys done.new runs done.runs)
      done.stands (step_given lists p numbering world given step live.0 live.1) new live.2 in
      record {
        calls = done.calls ++ rest.calls;
        sys = rest.sys;
        runs = subst (λ (l : List NodeCall). SystemRuns lists p numbering start l rest.sys) (append_assoc before done.calls rest.calls) rest.runs;
        sent = rest.sent;
        stands = rest.stands;
        ups = λ d leaf once. up_on d done.calls rest.calls (done.ups d leaf (first_of_once world step steps d once))
            (rest.ups d leaf (rest_of_once world live.0 step steps live.1 d leaf once));
      }

  -- lives are calls
  pub lives_are_calls : (world new : World) (steps : List LifeStep) → IsNewWorld p numbering world → Live lists p numbering world steps new →
      LivesAreCalls lists p numbering start steps new
  lives_are_calls world new steps none live =
      let all = lives_from steps world [] start refl (new_stands lists p numbering market world start none started)
      (new_given lists p numbering world none) new live in
      record {
        calls = all.calls;
        sys = all.sys;
        runs = all.runs;
        sent = all.sent;
        up = λ d leaf once. all.ups d leaf (inr (none.up d, once));
      }

  -- and so they keep the law
  pub lives_keep_the_law : SystemsKeepTheLaw → (world new : World) (steps : List LifeStep) → IsNewWorld p numbering world →
      Live lists p numbering world steps new → LivesKeepTheLaw lists p new
  lives_keep_the_law keeps world new steps none live =
      let are = lives_are_calls world new steps none live in
      let law = keeps lists p numbering are.calls are.sys market (run lists p numbering start are.sys are.calls market started are.runs) in
      let s = Rattle.pm_market.specs.Moves.after lists law.journal in
      record {
        journal = law.journal;
        legal = law.legal;
        prices = λ x k node inside.
            let at = are.sent.prices x k node inside in
            subst (λ (q : PriceMessage). Rattle.pm_net.specs.Agrees.IsItsPrice lists p s x q) at.2 (law.prices x at.0 node at.1);
        setpoints = λ d setpoint leaf at.
            let there = are.sent.setpoints d setpoint at in
            subst (λ (q : Setpoint). Rattle.pm_net.specs.Devices.IsRight lists p s d q) there.2 (law.setpoints d leaf there.0 setpoint there.1);
      }

  -- the world in the end stands for the system after the calls
  pub record LivesStand (steps : List LifeStep) (new : World) : Type 0 where
    -- the calls that the lives are
    pub calls : List NodeCall
    pub sys : System
    -- they lead to this system
    pub runs : SystemRuns lists p numbering start calls sys
    pub stands : WorldStands lists p numbering new sys
    -- a device that began once was not restarted by them
    pub up : (d : ℕ) → IsLeaf lists d → lives.BeginsOnce d steps → StaysUp d calls

  -- the lives of a world in which no process ran before are calls of a system, and it stands for that system
  pub lives_stand : (world new : World) (steps : List LifeStep) → IsNewWorld p numbering world → Live lists p numbering world steps new →
      LivesStand steps new
  lives_stand world new steps none live =
      let all = lives_from steps world [] start refl (new_stands lists p numbering market world start none started)
      (new_given lists p numbering world none) new live in
      record { calls = all.calls; sys = all.sys; runs = all.runs; stands = all.stands; up = λ d leaf once. all.ups d leaf (inr (none.up d, once)) }
