-- A history of processes is lives.
use Rattle.std.proofs.Common.{◌≡◌, ◌∙◌, sym, ap, subst, ℕ, ◌+◌, ◌-◌, true, false, List, [], ◌∷◌, length, take, None, IfSome}
use Rattle.std.proofs.Common.{refl, inl, inr, arith}
use Rattle.std.proofs.lemmas.Bool.{both_ways}
use Rattle.pm_market.specs.Lists.{Lists, IsLeaf, IsConcentrator}
use Rattle.pm_market.specs.State.{update}
use Rattle.pm_market.proofs.Cuts.{updated_same, updated_other}
use Rattle.pm_market.proofs.Tree.{leaf_node}
use Rattle.pm_net.specs.Pricing.{Pricing}
use Rattle.pm_net.specs.Agents.{DeviceAgent}
use Rattle.pm_net_plan.specs.Places.{Numbering}
use Rattle.pm_control.specs.Control.{agent_stored}
use Rattle.pm_relay.specs.Relays.{RelayComesBack}
use Rattle.pm_relay.specs.Roots.{RootValue, RootComesBack}
use Rattle.pm_basis.specs.Prices.{BasisValue}
use Rattle.pm_frames.specs.Stored.{StoredRelay, StoredRoot}
use Rattle.pm_frames.specs.declared.stored.StoredAgent.{StoredAgent}
use Rattle.pm_frames.specs.declared.parent.ParentFrame.TheVariants.{Price, Old}
use Rattle.pm_frames.specs.declared.device.DeviceFrame.{DeviceFrame}
use Rattle.pm_frames.specs.declared.device.DeviceFrame.TheVariants as device_frame
use Rattle.pm_services.specs.DeviceWrites.{same_basis}
use Rattle.pm_system.specs.System.{System, with_relay, with_root, with_agent}
use Rattle.pm_system.specs.Given.{IsTreeMarket, IsDemand}
use Rattle.pm_system.proofs.Moving.{relay_no_leaf, relay_no_root}
use Rattle.pm_services.specs.Outputs.{Output}
use Rattle.pm_services.specs.RelayWrites.{WritesKept}
use Rattle.pm_services.specs.DeviceWrites.{device_outs, agent_after}
use Rattle.pm_lives.specs.Answering.{IsOfOtherBasis}
use Rattle.pm_lives.specs.Lives as lives
use Rattle.pm_lives.specs.Lives.{World, LifeStep, setup_of, handed_out, stored_last, let_go_at_relay, let_go_at_root, HandledSome, restart_outs}
use Rattle.pm_lives.specs.Free.{LivesFree1, LiveFree, DeviceIsFree}
use Rattle.pm_lives.proofs.Handing.{handed_values}
use Rattle.pm_processes.proofs.Offers.{AreDemands, newest_fits, stored_fits, after_fits}
use Rattle.pm_processes.proofs.Streams.{RelayStream, relay_stream, relay_rest, relay_passes, relay_free, RootStream, root_stream, root_rest, root_free}
use Rattle.pm_processes.proofs.Streams.{DeviceStream, device_stream, device_rest, DeviceIsGiven, device_given}
use Rattle.pm_processes.specs.RelayProcess.{RelayExchange, RelayExchanges, setup_with}
use Rattle.pm_processes.specs.RootProcess.{RootExchange, RootExchanges}
use Rattle.pm_processes.specs.DeviceProcess.{IsAsked, DeviceExchange, DeviceExchanges, AnswersAgent}
use Rattle.pm_processes.specs.History.{Scene, HistoryEvent, RelayBegins, RelayGoesOn, RootBegins}
use Rattle.pm_processes.specs.History.{RootGoesOn, DeviceBegins, DeviceGoesOn, Happens1, Happen, life_step, life_steps}
use Rattle.pm_processes.specs.History.{RelayProcessBegins, RelayProcessGoesOn, RootProcessBegins, RootProcessGoesOn, DeviceProcessBegins}
use Rattle.pm_processes.specs.History.{DeviceProcessGoesOn}
use Rattle.pm_processes.proofs.Following.{Follows, relay_as, device_as, Agrees, follows_but}

-- a price that was handed out is of the basis of all
no_other : (own : BasisValue) (sys : System) (d : ℕ) (frame : DeviceFrame) → DeviceIsGiven own sys d frame → IsOfOtherBasis own frame → ⊥
no_other own sys d (device_frame.Parent (Price child number index step basis)) may other = both_ways (same_basis basis own) other may.0
no_other own sys d (device_frame.Parent (Old child kept)) may other = other
no_other own sys d frame may other = other

-- a frame that a device is given is free, since its offers are demands
is_free : (p : Pricing) (own : BasisValue) (sys : System) (d : ℕ) (frame : DeviceFrame) → DeviceIsGiven own sys d frame → IsAsked p.steps frame →
    AreDemands p.steps (sys.agents d) → DeviceIsFree p own sys d frame
is_free p own sys d (device_frame.Offer form demand) may asked are = asked
is_free p own sys d (device_frame.Parent (Price child number index step basis)) may asked are = may
is_free p own sys d (device_frame.Parent (Old child kept)) may asked are = λ demand is. newest_fits p.steps (sys.agents d) are demand is
is_free p own sys d (device_frame.Resume stored) may asked are = absurd asked
is_free p own sys d frame may asked are = tt

module _ (lists : Lists) (p : Pricing) (numbering : Numbering) (market : IsTreeMarket lists p numbering) where
  -- an event is this step of a life
  record Lived (old : Scene) (step : LifeStep) (new : Scene) : Type 0 where
    live : LivesFree1 lists p numbering old.world step new.world
    follows : Follows lists p numbering new

  module _ (old : Scene) (is : Follows lists p numbering old) where
    abbrev world : World
    world = old.world

    no_conc : IsConcentrator lists 0 → ⊥
    no_conc conc = omega (arith, conc.0)

    no_leaf : IsLeaf lists 0 → ⊥
    no_leaf leaf = omega (arith, (leaf_node lists market.law 0 leaf).0)

    -- ---- a relay

    relay_begins : (c : ℕ) (took wrote : List ℕ) (new : Scene) → (did : RelayProcessBegins lists p numbering old c took wrote new) →
        Lived old (lives.RelayUp c did.process.written.cut.n) new
    relay_begins c took wrote new did =
        let made = did.process in
        let n : ℕ = made.written.cut.n in
        let base : System = with_relay world.seen c made.held.relay in
        let values = handed_values lists numbering c (take n made.outs) base in
        let child : ℕ = numbering.place c + 1 in
        let terms = world.terms c in
        let after : Scene = record old {
          world = record world {
            seen = handed_out lists numbering base c (take n made.outs);
            up = update world.up c true;
            waiting = update world.waiting c made.held.waiting;
          };
          relay_next = update old.relay_next c made.exchanges;
          left = update old.left c (n - length made.outs);
        } in
        let agrees : Agrees lists p numbering old c after = record {
          basis = refl;
          terms = refl;
          up = λ z ne. updated_other world.up c true z ne;
          relays = λ z ne. ap (λ f. f z) values.0 ∙ updated_other world.seen.relays c made.held.relay z ne;
          waiting = λ z ne. updated_other world.waiting c made.held.waiting z ne;
          agents = λ z ne. ap (λ f. f z) values.2;
          root = λ ne. values.1;
          relay_next = λ z ne. updated_other old.relay_next c made.exchanges z ne;
          device_next = λ z ne. refl;
          root_next = λ ne. refl;
        } in
        let stored_is = did.promised.stored_last in
        let hello = did.promised.same_hello in
        record {
          live = record {
            conc = did.conc;
            limited = did.limited;
            relay = made.relay;
            after = made.held;
            outs = made.outs;
            learns = subst (λ (b : BasisValue). WritesKept terms.giver (setup_with child terms b) (record { relay = made.relay; waiting = None })
                (world.relay_kept c) made.held made.outs) hello
                (subst (λ (k : StoredRelay). WritesKept terms.giver (setup_with child terms made.basis)
                (record { relay = made.relay; waiting = None }) k made.held made.outs) stored_is made.learns);
            back = subst (λ (s : ℕ). RelayComesBack s terms.limits (world.relay_kept c).last (world.relay_kept c).answered (world.relay_kept c).index
                (world.relay_kept c).numbers (world.relay_kept c).limits made.relay) (ap (λ (b : BasisValue). b.steps) hello ∙ is.steps)
                (subst (λ (k : StoredRelay). RelayComesBack made.basis.steps terms.limits k.last k.answered k.index k.numbers k.limits made.relay) stored_is
                made.back);
            new_is = ap (λ (s : Scene). s.world) did.new_is;
          };
          follows = subst (Follows lists p numbering) (sym did.new_is) (follows_but lists p numbering old is c after agrees
              (λ conc. (
                relay_as (setup_of numbering world c) made.held.relay (after.world.seen.relays c) made.held.waiting (after.world.waiting c)
                    made.exchanges (after.relay_next c) (ap (λ f. f c) values.0 ∙ updated_same world.seen.relays c made.held.relay)
                    (updated_same world.waiting c made.held.waiting) (updated_same old.relay_next c made.exchanges)
                    (subst (λ (b : BasisValue). RelayExchanges (setup_with child terms b) made.held made.exchanges) hello made.answers),
                subst (λ (l : List RelayExchange). RelayStream terms world.basis l) (sym (updated_same old.relay_next c made.exchanges))
                    (subst (λ (b : BasisValue). RelayStream terms b made.exchanges) hello
                    (relay_stream child terms made.basis made.resume made.exchanges did.gives made.begins.stand)),
              ))
              (λ e. absurd (relay_no_root lists c did.conc (sym e)))
              (λ leaf. absurd (relay_no_leaf lists c c did.conc leaf refl)));
        }

    relay_goes_on : (c : ℕ) (new : Scene) → (did : RelayProcessGoesOn lists p numbering old c new) →
        Lived old (lives.Relay c did.exchange.frame did.handled) new
    relay_goes_on c new did =
        let e = did.exchange in
        let n : ℕ = did.handled in
        let base : System = with_relay world.seen c e.after.relay in
        let values = handed_values lists numbering c (take n e.outs) base in
        let kept : StoredRelay = stored_last (world.relay_kept c) (take n e.outs) in
        let after : Scene = record old {
          world = record world {
            seen = handed_out lists numbering base c (take n e.outs);
            waiting = update world.waiting c e.after.waiting;
            relay_kept = update world.relay_kept c kept;
            let_go = let_go_at_relay lists numbering world.seen c e.frame world.let_go;
          };
          relay_next = update old.relay_next c did.exchanges;
          left = update old.left c (old.left c - length e.outs);
        } in
        let agrees : Agrees lists p numbering old c after = record {
          basis = refl;
          terms = refl;
          up = λ z ne. refl;
          relays = λ z ne. ap (λ f. f z) values.0 ∙ updated_other world.seen.relays c e.after.relay z ne;
          waiting = λ z ne. updated_other world.waiting c e.after.waiting z ne;
          agents = λ z ne. ap (λ f. f z) values.2;
          root = λ ne. values.1;
          relay_next = λ z ne. updated_other old.relay_next c did.exchanges z ne;
          device_next = λ z ne. refl;
          root_next = λ ne. refl;
        } in
        let now = subst (λ (l : List RelayExchange). RelayExchanges (setup_of numbering world c)
        (record { relay = world.seen.relays c; waiting = world.waiting c }) l) did.next (is.relays c did.conc did.runs) in
        let stream = subst (λ (l : List RelayExchange). RelayStream (world.terms c) world.basis l) did.next (is.relay_streams c did.conc did.runs) in
        record {
          live = record {
            conc = did.conc;
            runs = did.runs;
            may = relay_free lists p numbering world.seen (setup_of numbering world c) c did.conc e did.exchanges stream did.promised.handed_on;
            passes = relay_passes (world.terms c) world.basis e did.exchanges stream;
            after = e.after;
            outs = e.outs;
            bounds = e.bounds;
            writes = now.0;
            handled = did.promised.in_order;
            new_is = ap (λ (s : Scene). s.world) did.new_is;
          };
          follows = subst (Follows lists p numbering) (sym did.new_is) (follows_but lists p numbering old is c after agrees
              (λ conc. (
                relay_as (setup_of numbering world c) e.after.relay (after.world.seen.relays c) e.after.waiting (after.world.waiting c)
                    did.exchanges (after.relay_next c) (ap (λ f. f c) values.0 ∙ updated_same world.seen.relays c e.after.relay)
                    (updated_same world.waiting c e.after.waiting) (updated_same old.relay_next c did.exchanges) now.1,
                subst (λ (l : List RelayExchange). RelayStream (world.terms c) world.basis l) (sym (updated_same old.relay_next c did.exchanges))
                    (relay_rest (world.terms c) world.basis e did.exchanges stream),
              ))
              (λ e. absurd (relay_no_root lists c did.conc (sym e)))
              (λ leaf. absurd (relay_no_leaf lists c c did.conc leaf refl)));
        }

    -- ---- the auctioneer

    root_begins : (took wrote : List ℕ) (new : Scene) → RootProcessBegins p old took wrote new → Lived old lives.RootUp new
    root_begins took wrote new did =
        let made = did.process in
        let after : Scene = record old {
          world = record world { seen = with_root world.seen made.root; up = update world.up 0 true };
          root_next = made.exchanges;
          left = update old.left 0 made.written.cut.n;
        } in
        let agrees : Agrees lists p numbering old 0 after = record {
          basis = refl;
          terms = refl;
          up = λ z ne. updated_other world.up 0 true z ne;
          relays = λ z ne. refl;
          waiting = λ z ne. refl;
          agents = λ z ne. refl;
          root = λ ne. absurd (ne refl);
          relay_next = λ z ne. refl;
          device_next = λ z ne. refl;
          root_next = λ ne. absurd (ne refl);
        } in
        let hello = did.promised.same_hello in
        record {
          live = record {
            root = made.root;
            back = subst (λ (s : ℕ). RootComesBack s world.root_kept.last world.root_kept.numbers made.root)
                (ap (λ (b : BasisValue). b.steps) hello ∙ is.steps)
                (subst (λ (k : StoredRoot). RootComesBack made.basis.steps k.last k.numbers made.root) did.promised.stored_last made.back);
            new_is = ap (λ (s : Scene). s.world) did.new_is;
          };
          follows = subst (Follows lists p numbering) (sym did.new_is) (follows_but lists p numbering old is 0 after agrees (λ conc. absurd (no_conc conc))
              (λ e. (
                subst (λ (b : BasisValue). RootExchanges b made.root made.exchanges) hello made.answers,
                subst (λ (b : BasisValue). RootStream b made.exchanges) hello (root_stream made.basis made.resume made.exchanges made.begins.stand),
              ))
              (λ leaf. absurd (no_leaf leaf)));
        }

    root_goes_on : (new : Scene) → (did : RootProcessGoesOn lists p numbering old new) → Lived old (lives.Root did.exchange.frame did.handled) new
    root_goes_on new did =
        let e = did.exchange in
        let n : ℕ = did.handled in
        let base : System = with_root world.seen e.after in
        let values = handed_values lists numbering 0 (take n e.outs) base in
        let after : Scene = record old {
          world = record world {
            seen = handed_out lists numbering base 0 (take n e.outs);
            root_kept = stored_last world.root_kept (take n e.outs);
            let_go = let_go_at_root lists numbering world.seen e.frame world.let_go;
          };
          root_next = did.exchanges;
          left = update old.left 0 (old.left 0 - length e.outs);
        } in
        let agrees : Agrees lists p numbering old 0 after = record {
          basis = refl;
          terms = refl;
          up = λ z ne. refl;
          relays = λ z ne. ap (λ f. f z) values.0;
          waiting = λ z ne. refl;
          agents = λ z ne. ap (λ f. f z) values.2;
          root = λ ne. absurd (ne refl);
          relay_next = λ z ne. refl;
          device_next = λ z ne. refl;
          root_next = λ ne. absurd (ne refl);
        } in
        let now = subst (λ (l : List RootExchange). RootExchanges world.basis world.seen.root l) did.next (is.root did.runs) in
        let stream = subst (λ (l : List RootExchange). RootStream world.basis l) did.next (is.root_stream did.runs) in
        record {
          live = record {
            runs = did.runs;
            may = root_free lists p numbering world.seen world.basis e did.exchanges stream did.promised.handed_on;
            after = e.after;
            outs = e.outs;
            bounds = e.bounds;
            writes = now.0;
            handled = did.promised.in_order;
            new_is = ap (λ (s : Scene). s.world) did.new_is;
          };
          follows = subst (Follows lists p numbering) (sym did.new_is) (follows_but lists p numbering old is 0 after agrees (λ conc. absurd (no_conc conc))
              (λ same. (
                subst (λ (r : RootValue). RootExchanges world.basis r did.exchanges) (sym values.1) now.1,
                root_rest world.basis e did.exchanges stream,
              ))
              (λ leaf. absurd (no_leaf leaf)));
        }

    -- ---- a device

    not_conc : (d : ℕ) → IsLeaf lists d → IsConcentrator lists d → ⊥
    not_conc d leaf conc = relay_no_leaf lists d d conc leaf refl

    not_root : (d : ℕ) → IsLeaf lists d → 0 ≡ d → ⊥
    not_root d leaf e = omega (arith, e, (leaf_node lists market.law d leaf).0)

    device_begins : (d : ℕ) (took wrote : List ℕ) (new : Scene) → (did : DeviceProcessBegins lists p numbering old d took wrote new) →
        Lived old (lives.DeviceUp d did.process.written.cut.n) new
    device_begins d took wrote new did =
        let made = did.process in
        let stored : StoredAgent = world.agent_kept d in
        let outs : List (Output StoredAgent) = restart_outs p stored in
        let n : ℕ = made.written.cut.n in
        let agent : DeviceAgent = agent_stored stored.number stored.newest stored.index in
        let base : System = with_agent world.seen d agent in
        let values = handed_values lists numbering d (take n outs) base in
        let after : Scene = record old {
          world = record world { seen = handed_out lists numbering base d (take n outs); up = update world.up d true };
          device_next = update old.device_next d made.exchanges;
          left = update old.left d (n - length outs);
        } in
        let agrees : Agrees lists p numbering old d after = record {
          basis = refl;
          terms = refl;
          up = λ z ne. updated_other world.up d true z ne;
          relays = λ z ne. ap (λ f. f z) values.0;
          waiting = λ z ne. refl;
          agents = λ z ne. ap (λ f. f z) values.2 ∙ updated_other world.seen.agents d agent z ne;
          root = λ ne. values.1;
          relay_next = λ z ne. refl;
          device_next = λ z ne. updated_other old.device_next d made.exchanges z ne;
          root_next = λ ne. refl;
        } in
        let here : after.world.seen.agents d ≡ agent = ap (λ f. f d) values.2 ∙ updated_same world.seen.agents d agent in
        let newest : IfSome stored.newest (IsDemand p.steps) =
        subst (λ (i : ℕ). IfSome stored.newest (IsDemand i)) (ap (λ (b : BasisValue). b.steps) did.promised.same_hello ∙ is.steps)
        (subst (λ (k : StoredAgent). IfSome k.newest (IsDemand made.basis.steps)) did.promised.stored_last made.newest) in
        record {
          live = record { leaf = did.leaf; new_is = ap (λ (s : Scene). s.world) did.new_is };
          follows = subst (Follows lists p numbering) (sym did.new_is) (follows_but lists p numbering old is d after agrees
              (λ conc. absurd (not_conc d did.leaf conc))
              (λ e. absurd (not_root d did.leaf e))
              (λ leaf. (
                device_as p world.basis agent (after.world.seen.agents d) made.exchanges (after.device_next d)
                    here (updated_same old.device_next d made.exchanges)
                    (subst (λ (b : BasisValue). DeviceExchanges p b agent made.exchanges) did.promised.same_hello
                    (subst (λ (k : StoredAgent). DeviceExchanges p made.basis (agent_stored k.number k.newest k.index) made.exchanges)
                    did.promised.stored_last made.answers)),
                subst (AreDemands p.steps) (sym here) (stored_fits p.steps stored.number stored.newest stored.index newest),
                subst (λ (l : List DeviceExchange). DeviceStream world.basis l) (sym (updated_same old.device_next d made.exchanges))
                    (subst (λ (b : BasisValue). DeviceStream b made.exchanges) did.promised.same_hello
                    (device_stream (numbering.place d + 1) made.basis made.resume made.exchanges made.begins.stand)),
              )));
        }

    record IsOwn (d : ℕ) (e : DeviceExchange) : Type 0 where
      asked : IsAsked world.basis.steps e.frame
      after : e.after ≡ agent_after (world.seen.agents d) e.frame
      outs : e.outs ≡ device_outs p.steps world.basis (world.seen.agents d) e.frame

    of_own_basis : (d : ℕ) (e : DeviceExchange) → DeviceIsGiven world.basis world.seen d e.frame →
        AnswersAgent p world.basis (world.seen.agents d) e → IsOwn d e
    of_own_basis d e may (inl same) = record { asked = same.0; after = same.2; outs = same.3 }
    of_own_basis d e may (inr other) = absurd (no_other world.basis world.seen d e.frame may other.0)

    device_goes_on : (d : ℕ) (new : Scene) → (did : DeviceProcessGoesOn lists p numbering old d new) →
        Lived old (lives.Device d did.exchange.frame did.handled) new
    device_goes_on d new did =
        let e = did.exchange in
        let n : ℕ = did.handled in
        let base : System = with_agent world.seen d e.after in
        let values = handed_values lists numbering d (take n e.outs) base in
        let kept : StoredAgent = stored_last (world.agent_kept d) (take n e.outs) in
        let after : Scene = record old {
          world = record world {
            seen = handed_out lists numbering base d (take n e.outs);
            agent_kept = update world.agent_kept d kept;
          };
          device_next = update old.device_next d did.exchanges;
          left = update old.left d (old.left d - length e.outs);
        } in
        let agrees : Agrees lists p numbering old d after = record {
          basis = refl;
          terms = refl;
          up = λ z ne. refl;
          relays = λ z ne. ap (λ f. f z) values.0;
          waiting = λ z ne. refl;
          agents = λ z ne. ap (λ f. f z) values.2 ∙ updated_other world.seen.agents d e.after z ne;
          root = λ ne. values.1;
          relay_next = λ z ne. refl;
          device_next = λ z ne. updated_other old.device_next d did.exchanges z ne;
          root_next = λ ne. refl;
        } in
        let now = subst (λ (l : List DeviceExchange). DeviceExchanges p world.basis (world.seen.agents d) l) did.next (is.devices d did.leaf did.runs) in
        let stream = subst (λ (l : List DeviceExchange). DeviceStream world.basis l) did.next (is.device_streams d did.leaf did.runs) in
        let given = device_given lists p numbering world.seen world.basis d e did.exchanges stream did.promised.handed_on in
        let own = of_own_basis d e given now.0 in
        let asked = subst (λ (i : ℕ). IsAsked i e.frame) is.steps own.asked in
        let are = is.offers d did.leaf did.runs in
        let here : after.world.seen.agents d ≡ e.after = ap (λ f. f d) values.2 ∙ updated_same world.seen.agents d e.after in
        let world_with : DeviceAgent → List (Output StoredAgent) → World = λ a l. record world {
          seen = handed_out lists numbering (with_agent world.seen d a) d (take n l);
          agent_kept = update world.agent_kept d (stored_last (world.agent_kept d) (take n l));
        } in
        record {
          live = record {
            leaf = did.leaf;
            runs = did.runs;
            may = is_free p world.basis world.seen d e.frame given asked are;
            handled = subst (λ (l : List (Output StoredAgent)). HandledSome n l) own.outs did.promised.in_order;
            new_is = ap (λ (s : Scene). s.world) did.new_is ∙ ap (λ (a : DeviceAgent). world_with a e.outs) own.after
                ∙ ap (λ (l : List (Output StoredAgent)). world_with (agent_after (world.seen.agents d) e.frame) l) own.outs;
          };
          follows = subst (Follows lists p numbering) (sym did.new_is) (follows_but lists p numbering old is d after agrees
              (λ conc. absurd (not_conc d did.leaf conc))
              (λ same. absurd (not_root d did.leaf same))
              (λ leaf. (
                device_as p world.basis e.after (after.world.seen.agents d) did.exchanges (after.device_next d) here
                    (updated_same old.device_next d did.exchanges) now.1,
                subst (AreDemands p.steps) (sym (here ∙ own.after)) (after_fits p.steps (world.seen.agents d) e.frame asked are),
                subst (λ (l : List DeviceExchange). DeviceStream world.basis l) (sym (updated_same old.device_next d did.exchanges))
                    (device_rest world.basis e did.exchanges stream),
              )));
        }

    lived : (event : HistoryEvent) (new : Scene) → (did : Happens1 lists p numbering old event new) →
        Lived old (life_step lists p numbering old event new did) new
    lived (RelayBegins c took wrote) new did = relay_begins c took wrote new did
    lived (RelayGoesOn c) new did = relay_goes_on c new did
    lived (RootBegins took wrote) new did = root_begins took wrote new did
    lived RootGoesOn new did = root_goes_on new did
    lived (DeviceBegins d took wrote) new did = device_begins d took wrote new did
    lived (DeviceGoesOn d) new did = device_goes_on d new did

  -- a history is lives
  pub are_lives : (events : List HistoryEvent) (first last : Scene) → Follows lists p numbering first →
      (happen : Happen lists p numbering first events last) →
      LiveFree lists p numbering first.world (life_steps lists p numbering first events last happen) last.world
  are_lives [] first last is happen = ap (λ (s : Scene). s.world) happen
  are_lives (event ∷ events) first last is happen =
      let one = lived first is event happen.0 happen.1 in
      (happen.0.world, one.live, are_lives events happen.0 last one.follows happen.2)

  -- of a scene in which no process ran nothing is to come
  pub follows_new : (scene : Scene) → scene.world.basis.steps ≡ p.steps → ((y : ℕ) → scene.world.up y ≡ false) → Follows lists p numbering scene
  follows_new scene steps none = record {
    steps = steps;
    relays = λ c conc up. absurd (both_ways (scene.world.up c) (none c) up);
    relay_streams = λ c conc up. absurd (both_ways (scene.world.up c) (none c) up);
    root = λ up. absurd (both_ways (scene.world.up 0) (none 0) up);
    root_stream = λ up. absurd (both_ways (scene.world.up 0) (none 0) up);
    devices = λ d leaf up. absurd (both_ways (scene.world.up d) (none d) up);
    device_streams = λ d leaf up. absurd (both_ways (scene.world.up d) (none d) up);
    offers = λ d leaf up. absurd (both_ways (scene.world.up d) (none d) up);
  }
