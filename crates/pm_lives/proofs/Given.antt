-- Lives of which no lists are given are lives of the lists that they make.
use Rattle.std.proofs.Common.{◌≡◌, ◌⊎◌, ◌∙◌, sym, ap, subst, ℕ, ℤ, ◌+◌, ◌-◌, ◌<◌, ◌≤◌, ◌^◌, Bool, true}
use Rattle.std.proofs.Common.{false, cond, ltb, eqb, List, [], ◌∷◌, take, Some, refl, inl, inr, arith, ◌≤ℤ◌}
use Rattle.std.proofs.lemmas.Bool.{cond-true, lt-ltb}
use Rattle.pm_base.specs.Cuts.{Cut}
use Rattle.pm_base.specs.Limits.{AreLimits}
use Rattle.pm_base.specs.declared.limits.Limits.{Limits}
use Rattle.pm_bid.specs.Bids.{zeros}
use Rattle.pm_market.specs.Lists.{Lists, parent, is_leaf, is_member, IsNode, IsLeaf}
use Rattle.pm_market.specs.State.{update}
use Rattle.pm_market.proofs.Tree.{leaf_node}
use Rattle.pm_net.specs.Pricing.{Pricing}
use Rattle.pm_net.specs.Agents.{DeviceAgent, may_offer, after_offer, after_leaving}
use Rattle.pm_net_plan.specs.Places.{Numbering}
use Rattle.pm_control.specs.Control.{newest_demand}
use Rattle.pm_control.specs.Control as control
use Rattle.pm_frames.specs.declared.stored.StoredAgent.{StoredAgent}
use Rattle.pm_frames.specs.declared.parent.ParentFrame.TheVariants.{Price, Old}
use Rattle.pm_wire.specs.declared.frame.Frame.TheVariants as market_frame
use Rattle.pm_frames.specs.declared.relay.RelayFrame.{RelayFrame}
use Rattle.pm_frames.specs.declared.relay.RelayFrame.TheVariants as relay_frame
use Rattle.pm_frames.specs.declared.root.RootFrame.{RootFrame}
use Rattle.pm_frames.specs.declared.root.RootFrame.TheVariants as root_frame
use Rattle.pm_frames.specs.declared.device.DeviceFrame.{DeviceFrame}
use Rattle.pm_frames.specs.declared.device.DeviceFrame.TheVariants.{Hello, Offer, Kind, Leave, Parent, Resume}
use Rattle.pm_basis.specs.Prices.{BasisValue}
use Rattle.pm_services.specs.RelaySetups.{RelaySetup}
use Rattle.pm_services.specs.DeviceWrites.{agent_after}
use Rattle.pm_lives.specs.Lives.{setup_of}
use Rattle.pm_system.specs.System.{System, with_agent, with_relay, with_root}
use Rattle.pm_system.specs.Given.{IsDemand, IsTreeMarket}
use Rattle.pm_services.specs.Outputs.{Output}
use Rattle.pm_lives.specs.RelayLife.{CarriesBid, CarriesLimits, CarriesExpire, RelayMayRead}
use Rattle.pm_lives.specs.RootLife.{RootMayRead}
use Rattle.pm_lives.specs.DeviceLife.{DeviceMayRead, IsGivenOffer, IsGivenLeaving}
use Rattle.pm_services.specs.DeviceWrites.{device_outs}
use Rattle.pm_lives.specs.Lives.{World, LifeStep, RelayUp, Relay, RootUp, Root, DeviceUp, Device, HandledSome, handed_out, stored_last, restart_outs}
use Rattle.pm_lives.specs.Lives.{Live, Lives1}
use Rattle.pm_lives.specs.Lives.{let_go_at_relay, let_go_at_root, IsNewWorld}
use Rattle.pm_lives.specs.Free.{CarriesLetGo, RelayIsFree, RootIsFree, DeviceIsFree, LivesFree1, LiveFree, HasLists}
use Rattle.pm_system.proofs.Offers.{zeros_demand}
use Rattle.pm_lives.proofs.Building.{lists_of, demand_of, pricing_of, members_are, changes_are, is_market}
use Rattle.pm_lives.proofs.Freeing.{Wanted, SameAt, with_wanted, wanted_other, wanted_same}
use Rattle.pm_lives.proofs.SameAnswers.{handed_same, relay_let_same, root_let_same, outs_same, restart_same}
use Rattle.pm_lives.proofs.Freeing.{asks_anew, asks_device, FineAt, number_now, StepAt, bound_of, asks_of, is_odd, AllFine, device_now, step_at}
use Rattle.pm_lives.proofs.Freeing.{all_fine, built, bound}
use Rattle.pm_lives.proofs.Freeing.{step_outside, built_low, built_odd, built_demands}

module _ (tree : Lists) (p : Pricing) (numbering : Numbering) (market : IsTreeMarket tree p numbering) (all : Wanted) (count : ℕ)
    (odd : (d k : ℕ) → all.member d (k + k + 1) ≡ false) where
  abbrev lists : Lists
  lists = lists_of tree all.member count

  abbrev pricing : Pricing
  pricing = pricing_of (lists_of tree all.member count) numbering p.steps (demand_of (lists_of tree all.member count) p.steps all.offer) p

  given_offer : (d n : ℕ) (demand : List ℤ) → IsLeaf tree d → 1 ≤ n → n ≤ count → all.member d n ≡ true → all.offer d n ≡ demand →
      IsGivenOffer lists pricing d n demand
  given_offer d n demand leaf one le is offer_is =
      let node : IsNode tree d = leaf_node tree market.law d leaf in
      let member : is_member lists d n ≡ true = members_are tree all.member count d n node one le ∙ is in
      record {
        has = omega (arith, le, changes_are tree all.member count d node);
        member = member;
        is = sym (cond-true (is_member lists d n) (all.offer d n) (zeros p.steps) member ∙ offer_is);
      }

  given_leaving : (d n : ℕ) → IsLeaf tree d → 1 ≤ n → n ≤ count → all.member d n ≡ false → IsGivenLeaving lists d n
  given_leaving d n leaf one le is =
      let node : IsNode tree d = leaf_node tree market.law d leaf in
      record { has = omega (arith, le, changes_are tree all.member count d node); absent = members_are tree all.member count d n node one le ∙ is }

  given_expire : (y sender known : ℕ) → CarriesLetGo tree p numbering y sender → Rattle.pm_relay.specs.Numbers.parents_number known ≤ count →
      CarriesExpire lists pricing numbering y sender (Rattle.pm_relay.specs.Numbers.parents_number known)
  unfolding parent is_leaf
  given_expire y sender known carries le =
      let half = is_odd known in
      let n : ℕ = Rattle.pm_relay.specs.Numbers.parents_number known in
      let leaves : IsGivenLeaving lists carries.x n = given_leaving carries.x n carries.leaf (omega (arith, half.1)) le
      (ap (all.member carries.x) half.1 ∙ odd carries.x half.0) in
      record {
        x = carries.x;
        up = carries.up;
        node = leaf_node tree market.law carries.x carries.leaf;
        sender_is = carries.sender_is;
        may = record { leaf = carries.leaf; absent = leaves.absent; has_next = leaves.has };
        passes = carries.passes;
      }

  same_bid : (sys : System) (y sender number : ℕ) (demand : Rattle.std.proofs.Common.Option (List ℤ)) →
      CarriesBid tree p numbering sys y sender number demand →
      CarriesBid lists pricing numbering sys y sender number demand
  unfolding parent
  same_bid sys y sender number demand c = record {
    x = c.x;
    node = c.node;
    up = c.up;
    sender_is = c.sender_is;
    place = c.place;
    inside = c.inside;
    number_is = c.number_is;
    demand_is = c.demand_is;
    passes = c.passes;
  }

  same_limits : (sys : System) (c sender number : ℕ) (limits : Limits) → CarriesLimits tree p numbering sys c sender number limits →
      CarriesLimits lists pricing numbering sys c sender number limits
  unfolding parent
  same_limits sys c sender number limits carries = record {
    x = carries.x;
    node = carries.node;
    up = carries.up;
    sender_is = carries.sender_is;
    place = carries.place;
    inside = carries.inside;
    number_is = carries.number_is;
    gone = carries.gone;
    gives = carries.gives;
  }

  relay_may : (own : RelaySetup) (sys : System) (c : ℕ) (frame : RelayFrame) → RelayIsFree tree p numbering own sys c frame →
      Rattle.pm_lives.proofs.Freeing.bound_relay sys c frame ≤ count → RelayMayRead lists pricing numbering own sys c frame
  relay_may own sys c (relay_frame.Child (market_frame.Hello basis)) free le = tt
  relay_may own sys c (relay_frame.Child (market_frame.Bid sender number demand)) free le = same_bid sys c sender number (Some demand) free
  relay_may own sys c (relay_frame.Child (market_frame.Gone sender number)) free le = same_bid sys c sender number Rattle.std.proofs.Common.None free
  relay_may own sys c (relay_frame.Child market_frame.Clear) free le = tt
  relay_may own sys c (relay_frame.Parent (Price child number index step basis)) free le = free
  relay_may own sys c (relay_frame.Parent (Old child kept)) free le = tt
  relay_may own sys c relay_frame.Send free le = tt
  relay_may own sys c (relay_frame.Expire sender) free le =
      given_expire c sender (Rattle.pm_relay.specs.Numbers.known_number (sys.relays c).recorded (sys.relays c).gathered.cache.heads (sender - 1)) free le
  relay_may own sys c (relay_frame.Limits number limits) free le = λ giver is. same_limits sys c giver number limits (free giver is)
  relay_may own sys c (relay_frame.Bound sender bound) free le = tt
  relay_may own sys c (relay_frame.Resume stored) free le = absurd free

  root_may : (sys : System) (frame : RootFrame) → RootIsFree tree p numbering sys frame →
      Rattle.pm_lives.proofs.Freeing.bound_root sys frame ≤ count → RootMayRead lists pricing numbering sys frame
  root_may sys (root_frame.Market (market_frame.Hello basis)) free le = tt
  root_may sys (root_frame.Market (market_frame.Bid sender number demand)) free le = same_bid sys 0 sender number (Some demand) free
  root_may sys (root_frame.Market (market_frame.Gone sender number)) free le = same_bid sys 0 sender number Rattle.std.proofs.Common.None free
  root_may sys (root_frame.Market market_frame.Clear) free le = tt
  root_may sys (root_frame.Expire sender) free le =
      given_expire 0 sender (Rattle.pm_relay.specs.Numbers.known_number sys.root.recorded sys.root.auction.cache.heads (sender - 1)) free le
  root_may sys (root_frame.Bound sender bound) free le = tt
  root_may sys (root_frame.Resume stored) free le = absurd free

  -- what a device asks for is so, where all that is wanted above its number is what is asked with the frame, and behind it
  device_may : (own : BasisValue) (sys : System) (d : ℕ) (frame : DeviceFrame) (rest : Wanted) → IsLeaf tree d → DeviceIsFree p own sys d frame →
      (sys.agents d).number + 4 ≤ count →
      ((n : ℕ) → (sys.agents d).number < n → SameAt all (asks_device (sys.agents d) d frame rest) d n) →
      ((n : ℕ) → n ≤ (agent_after (sys.agents d) frame).number → rest.member d n ≡ false) →
      DeviceMayRead lists pricing own sys d frame
  device_may own sys d (Hello basis) rest leaf free le agree low = tt
  device_may own sys d (Kind named) rest leaf free le agree low = tt
  device_may own sys d (Offer form demand) rest leaf free le agree low = λ may room.
      let a : DeviceAgent = sys.agents d in
      let n : ℕ = a.number + 2 in
      let asked : asks_device a d (Offer form demand) rest ≡ with_wanted rest d n demand =
      cond-true (may_offer a) (cond (ltb (a.number + 5) (2 ^ 32)) (with_wanted rest d n demand) rest) rest may
      ∙ cond-true (ltb (a.number + 5) (2 ^ 32)) (with_wanted rest d n demand) rest room in
      let at = agree n (omega arith) in
      let same = wanted_same rest d n demand in
      given_offer d n demand leaf (omega arith) (omega (arith, le)) (at.0 ∙ ap (λ (w : Wanted). w.member d n) asked ∙ same.0)
      (at.1 ∙ ap (λ (w : Wanted). w.offer d n) asked ∙ same.1)
  device_may own sys d Leave rest leaf free le agree low = λ room.
      let a : DeviceAgent = sys.agents d in
      let after : agent_after a Leave ≡ after_leaving a = cond-true (ltb (a.number + 3) (2 ^ 32)) (after_leaving a) a room in
      given_leaving d (a.number + 2) leaf (omega arith) (omega (arith, le))
      ((agree (a.number + 2) (omega arith)).0 ∙ low (a.number + 2) (omega (arith, ap (λ (b : DeviceAgent). b.number) after)))
  device_may own sys d (Parent (Price child number index step basis)) rest leaf free le agree low = free
  device_may own sys d (Parent (Old child kept)) rest leaf free le agree low = λ newer room demand is.
      let a : DeviceAgent = sys.agents d in
      let n : ℕ = a.number + 2 + 2 in
      let asked : asks_device a d (Parent (Old child kept)) rest ≡ with_wanted rest d n demand =
      cond-true (ltb a.number kept) (cond (ltb (a.number + 7) (2 ^ 32)) (asks_anew d n (newest_demand a) rest) rest) rest newer
      ∙ cond-true (ltb (a.number + 7) (2 ^ 32)) (asks_anew d n (newest_demand a) rest) rest room
      ∙ ap (λ o. asks_anew d n o rest) is in
      let after : agent_after a (Parent (Old child kept)) ≡ after_offer (after_leaving a) demand =
      cond-true (ltb a.number kept) (cond (ltb (a.number + 7) (2 ^ 32)) (control.offered_anew a (newest_demand a)) a) a newer
      ∙ cond-true (ltb (a.number + 7) (2 ^ 32)) (control.offered_anew a (newest_demand a)) a room
      ∙ ap (control.offered_anew a) is in
      let at = agree n (omega arith) in
      let same = wanted_same rest d n demand in (
        given_leaving d (a.number + 2) leaf (omega arith) (omega (arith, le))
            ((agree (a.number + 2) (omega arith)).0 ∙ ap (λ (w : Wanted). w.member d (a.number + 2)) asked
            ∙ (wanted_other rest d n demand d (a.number + 2) (λ e f. omega (arith, f))).0
            ∙ low (a.number + 2) (omega (arith, ap (λ (b : DeviceAgent). b.number) after))),
        given_offer d n demand leaf (omega arith) (omega (arith, le)) (at.0 ∙ ap (λ (w : Wanted). w.member d n) asked ∙ same.0)
            (at.1 ∙ ap (λ (w : Wanted). w.offer d n) asked ∙ same.1),
      )
  device_may own sys d (Resume stored) rest leaf free le agree low = absurd free

  abbrev Agrees : World → Wanted → Type 0
  Agrees world w = (d n : ℕ) → IsLeaf tree d → number_now world d < n → SameAt all w d n

  -- one step
  step_live : (world new : World) (step : LifeStep) → LivesFree1 tree p numbering world step new → AllFine tree p numbering market world →
      (rest : Wanted) →
      Agrees world (asks_of world step rest) → ((d n : ℕ) → IsLeaf tree d → n ≤ number_now new d → rest.member d n ≡ false) →
      bound_of world step ≤ count →
      Lives1 lists pricing numbering world step new
  unfolding is_leaf
  step_live world new (RelayUp c n) did fine rest agree low le =
      let base : System = with_relay world.seen c did.after.relay in
      let outs = take n did.outs in
      let world_of : System → World = λ seen'. record world {
        seen = seen';
        up = update world.up c true;
        waiting = update world.waiting c did.after.waiting;
      } in
      record {
        conc = did.conc;
        limited = did.limited;
        relay = did.relay;
        after = did.after;
        outs = did.outs;
        learns = did.learns;
        back = did.back;
        new_is = did.new_is ∙ ap world_of (sym (handed_same tree all.member count numbering c outs base));
      }
  step_live world new (Relay c frame n) did fine rest agree low le =
      let base : System = with_relay world.seen c did.after.relay in
      let outs = take n did.outs in
      let world_of : System → (ℕ → ℕ) → World = λ seen' let_go'. record world {
        seen = seen';
        waiting = update world.waiting c did.after.waiting;
        relay_kept = update world.relay_kept c (stored_last (world.relay_kept c) (take n did.outs));
        let_go = let_go';
      } in
      record {
        conc = did.conc;
        runs = did.runs;
        may = relay_may (setup_of numbering world c) world.seen c frame did.may le;
        passes = did.passes;
        after = did.after;
        outs = did.outs;
        bounds = did.bounds;
        writes = did.writes;
        handled = did.handled;
        new_is = did.new_is
            ∙ ap (λ (s : System). world_of s (let_go_at_relay tree numbering world.seen c frame world.let_go))
            (sym (handed_same tree all.member count numbering c outs base))
            ∙ ap (λ (f : ℕ → ℕ). world_of (handed_out lists numbering base c outs) f)
            (sym (relay_let_same tree all.member count numbering world.seen c frame world.let_go));
      }
  step_live world new RootUp did fine rest agree low le = record { root = did.root; back = did.back; new_is = did.new_is }
  step_live world new (Root frame n) did fine rest agree low le =
      let base : System = with_root world.seen did.after in
      let outs = take n did.outs in
      let world_of : System → (ℕ → ℕ) → World = λ seen' let_go'. record world {
        seen = seen';
        root_kept = stored_last world.root_kept (take n did.outs);
        let_go = let_go';
      } in
      record {
        runs = did.runs;
        may = root_may world.seen frame did.may le;
        after = did.after;
        outs = did.outs;
        bounds = did.bounds;
        writes = did.writes;
        handled = did.handled;
        new_is = did.new_is
            ∙ ap (λ (s : System). world_of s (let_go_at_root tree numbering world.seen frame world.let_go))
            (sym (handed_same tree all.member count numbering 0 outs base))
            ∙ ap (λ (f : ℕ → ℕ). world_of (handed_out lists numbering base 0 outs) f)
            (sym (root_let_same tree all.member count numbering world.seen frame world.let_go));
      }
  step_live world new (DeviceUp d n) did fine rest agree low le =
      let k : StoredAgent = world.agent_kept d in
      let base : System = with_agent world.seen d (control.agent_stored k.number k.newest k.index) in
      let world_of : System → World = λ seen'. record world { seen = seen'; up = update world.up d true } in
      record {
        leaf = did.leaf;
        new_is = did.new_is ∙ ap world_of (sym (handed_same tree all.member count numbering d (take n (restart_outs p k)) base))
            ∙ ap (λ (l : List (Output StoredAgent)). world_of (handed_out lists numbering base d (take n l)))
            (sym (restart_same p pricing refl world.basis k));
      }
  step_live world new (Device d frame n) did fine rest agree low le =
      let a : DeviceAgent = world.seen.agents d in
      let base : System = with_agent world.seen d (agent_after a frame) in
      let world_of : System → List (Output StoredAgent) → World = λ seen' l. record world {
        seen = seen';
        agent_kept = update world.agent_kept d (stored_last (world.agent_kept d) (take n l));
      } in
      let was = (fine d did.leaf).same did.runs in
      let now = device_now tree p numbering market world new d frame n fine did in
      record {
        leaf = did.leaf;
        runs = did.runs;
        may = device_may world.basis world.seen d frame rest did.leaf did.may le (λ i above. agree d i did.leaf (omega (arith, above, was)))
            (λ i within. low d i did.leaf (omega (arith, within, now)));
        handled = subst (λ (l : List (Output StoredAgent)). HandledSome n l) (sym (outs_same p pricing refl world.basis a frame)) did.handled;
        new_is = did.new_is
            ∙ ap (λ (s : System). world_of s (device_outs p.steps world.basis a frame))
            (sym (handed_same tree all.member count numbering d (take n (device_outs p.steps world.basis a frame)) base))
            ∙ ap (λ (l : List (Output StoredAgent)). world_of (handed_out lists numbering base d (take n l)) l)
            (sym (outs_same p pricing refl world.basis a frame));
      }

  -- and all
  lives : (steps : List LifeStep) (world new : World) (live : LiveFree tree p numbering world steps new) → AllFine tree p numbering market world →
      Agrees world (built tree p numbering market steps world new live) → bound tree p numbering market steps world new live ≤ count →
      Live lists pricing numbering world steps new
  lives [] world new live fine agree le = live
  lives (step ∷ steps) world new live fine agree le =
      let rest : Wanted = built tree p numbering market steps live.0 new live.2 in
      let later : AllFine tree p numbering market live.0 = all_fine tree p numbering market world live.0 step live.1 fine in (
        live.0,
        step_live world live.0 step live.1 fine rest agree
            (λ d n leaf low. built_low tree p numbering market steps live.0 new live.2 later d n leaf low) (omega (arith, le)),
        lives steps live.0 new live.2 later
            (λ d n leaf above.
            let at = step_at tree p numbering market world live.0 step live.1 fine d leaf in
            let one = agree d n leaf (omega (arith, above, at.rises)) in
            let two = step_outside tree p numbering market world live.0 step live.1 fine rest d n leaf (inr above) in
            (one.0 ∙ two.0, one.1 ∙ two.1))
            (omega (arith, le)),
      )

-- for lives of any controls there are lists
pub has_lists : (tree : Lists) (p : Pricing) (numbering : Numbering) → IsTreeMarket tree p numbering →
    ((x : ℕ) (cut : Cut) (l : Limits) → p.limits x cut ≡ Some l → AreLimits l) → (world new : World) (steps : List LifeStep) →
    IsNewWorld p numbering world → LiveFree tree p numbering world steps new → HasLists tree p numbering world steps new
unfolding Rattle.pm_lives.proofs.Freeing.AreDemands is_leaf
has_lists tree p numbering market around world new steps none live =
    let nothing : IsDemand p.steps (zeros p.steps) = zeros_demand p.steps in
    let all : Wanted = built tree p numbering market steps world new live in
    let count : ℕ = bound tree p numbering market steps world new live in
    let fine : AllFine tree p numbering market world = λ d leaf. record {
      same = λ up. absurd (Rattle.std.proofs.lemmas.Bool.both_ways (world.up d) (none.up d) up);
      half = 0;
      even = ap (λ (k : StoredAgent). k.number) (none.agent_kept d);
    } in
    let odd : (d k : ℕ) → all.member d (k + k + 1) ≡ false = built_odd tree p numbering market steps world new live fine in
    record {
      lists = lists_of tree all.member count;
      pricing = pricing_of (lists_of tree all.member count) numbering p.steps (demand_of (lists_of tree all.member count) p.steps all.offer) p;
      parents = refl;
      leaves = refl;
      same_steps = refl;
      same_limits = λ c cut. refl;
      market = is_market tree all.member count all.offer p numbering market around
          (built_demands tree p numbering market steps world new live nothing) nothing;
      started = λ start at. record {
        root = at.root;
        relays = at.relays;
        agents = at.agents;
        setpoints = at.setpoints;
        bids_sent = at.bids_sent;
        prices_sent = at.prices_sent;
      };
      live = lives tree p numbering market all count odd steps world new live fine (λ d n leaf above. (refl, refl)) (omega arith);
    }
