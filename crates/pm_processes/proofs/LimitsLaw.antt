-- What the theorem says of the worked history of a relay under limits.
use Rattle.std.proofs.Common.{◌≡◌, ◌+◌, ◌∙◌, sym, ap, subst, ℕ, zero, suc, ◌<◌, ◌≤◌, Bool, true, false, ℤ}
use Rattle.std.proofs.Common.{List, [], ◌∷◌}
use Rattle.std.proofs.Common.{length, take, replicate, Option, Some, refl, inl, inr, arith}
use Rattle.std.proofs.lemmas.Int.{ints}
use Rattle.std.proofs.lemmas.Bool.{both_ways}
use Rattle.std.specs.List.{Contains}
use Rattle.pm_base.specs.Limits.{IsWithin, demand_limit}
use Rattle.pm_base.specs.declared.limits.Limits.{Limits}
use Rattle.pm_bid.specs.Bids.{demand_at, sum_of, zeros}
use Rattle.pm_bid.specs.Clearing.{clearing_step}
use Rattle.pm_bid.specs.Taken.{announced, CanSay, HasStepWithin, said_between, settled_in}
use Rattle.pm_market.specs.Lists.{Lists, parent, is_leaf, is_member, changes, IsNode, IsConcentrator}
use Rattle.pm_market.specs.State.{update}
use Rattle.pm_net.specs.Pricing.{Pricing}
use Rattle.pm_net.specs.Agents.{Setpoint}
use Rattle.pm_net.specs.Flow.{sum_of_offers, SaysBelow}
use Rattle.pm_net_plan.specs.Places.{children_to, place_in, child_in, demands_of}
use Rattle.pm_relay.specs.Relays.{RelayValue}
use Rattle.pm_relay.specs.Roots.{RootValue}
use Rattle.pm_relay.specs.declared.fault.SendFault.TheVariants as send_fault
use Rattle.pm_relay.specs.declared.fault.RootFault.TheVariants as root_fault
use Rattle.pm_frames.specs.declared.device.DeviceFrame.{DeviceFrame}
use Rattle.pm_frames.specs.declared.device.DeviceFrame.TheVariants as device_frame
use Rattle.pm_frames.specs.declared.form.OfferForm.TheVariants.{Array}
use Rattle.pm_control.specs.Control.{agent_stored}
use Rattle.pm_system.specs.System.{price_in_channel, with_agent}
use Rattle.pm_system.specs.Settled.{number_made, number_held, index_of_held, numbers_counted, head_held, CountsAtParent, HasNothingToSend}
use Rattle.pm_system.specs.Worked.{small_tree, small_places}
use Rattle.pm_system.proofs.Worked.{s0}
use Rattle.pm_system.proofs.WorkedValues.{reaches, reached}
use Rattle.pm_system.proofs.WorkedGiven.{each_node, each_leaf, only_one}
use Rattle.pm_services.specs.DeviceWrites.{device_outs, agent_after}
use Rattle.pm_lives.specs.DeviceLife.{DeviceMayRead, IsGivenOffer, IsGivenLeaving}
use Rattle.pm_lives.specs.Lives.{World, LifeStep, BeginsOnce, handed_out, stored_last, restart_outs}
use Rattle.pm_lives.specs.Settled.{index_above, number_stored, number_noted, IsSettledWorld, IsTakenWorld}
use Rattle.pm_processes.specs.Kept.{HistoriesKeepTheLaw, HistoryKeepsTheLaw}
use Rattle.pm_processes.specs.WorkedLimits.{narrow_limits, limits_given, limits_pricing, asked_demand, limits_events, limits_scene, settled_setpoint}
use Rattle.pm_processes.specs.WorkedLimits.{LimitsHistorySays, LimitsHistoryKeepsTheLaw}
use Rattle.pm_processes.proofs.LimitsMarket.{market, around, starts}
use Rattle.pm_processes.proofs.Said.{same_leaf, same_node}
use Rattle.pm_processes.proofs.LimitsProcesses.{announced_demand}
use Rattle.pm_processes.proofs.WorkedLimits.{limits_steps, scene_0, scene_15, new, happens, steps_are, holds_limits}

-- ---- lists over the small tree

abbrev lists_on : List ℕ → List Bool → Lists → Lists
lists_on parents' leaves' lists = record lists { parents = parents'; leaves = leaves' }

-- what holds of all lists with the nodes of the small tree holds of these
over_tree : (P : Lists → Type 0) → ((lists : Lists) → P (lists_on small_tree.parents small_tree.leaves lists)) → (lists : Lists) →
    lists.parents ≡ small_tree.parents → lists.leaves ≡ small_tree.leaves → P lists
over_tree P each lists parents leaves =
    subst (λ (l : List ℕ). P (lists_on l lists.leaves lists)) (sym parents)
    (subst (λ (l : List Bool). P (lists_on small_tree.parents l lists)) (sym leaves) (each lists))

-- of one setpoint there is no other
only_setpoint : (a b : Setpoint) → Contains (a ∷ []) b → a ≡ b
only_setpoint a b (zero, inside, is) = is
only_setpoint a b (suc k, inside, is) = absurd (omega (arith, inside))

-- what device 2 asks for may be said in a bid, at each step
within_asked : (step : ℕ) → IsWithin demand_limit (demand_at asked_demand step)
within_asked zero = record { low = omega (arith, ints); high = omega (arith, ints) }
within_asked (suc zero) = record { low = omega (arith, ints); high = omega (arith, ints) }
within_asked (suc (suc zero)) = record { low = omega (arith, ints); high = omega (arith, ints) }
within_asked (suc (suc (suc step))) = record { low = omega (arith, ints); high = omega (arith, ints) }

-- some step of it is within the limits given
step_within : HasStepWithin narrow_limits asked_demand
step_within = record { step = 1; inside = omega arith; keeps = record { floor = omega (arith, ints); ceiling = omega (arith, ints) } }

-- if device 3 asks for nothing, the sum at the relay is what device 2 asks for
sum_is : (f : ℕ → List ℤ) → f 2 ≡ asked_demand → f 3 ≡ zeros 3 → sum_of 3 (demands_of 3 small_places 1 f) ≡ asked_demand
unfolding parent children_to place_in child_in demands_of
sum_is f two three = ap (λ (l : List ℤ). sum_of 3 (l ∷ f 3 ∷ replicate 254 (zeros 3))) two
    ∙ ap (λ (l : List ℤ). sum_of 3 (asked_demand ∷ l ∷ replicate 254 (zeros 3))) three

-- it is announced as what is taken at step 1, cut by the ceiling
announced_is : announced (Some narrow_limits) asked_demand ≡ announced_demand
unfolding said_between
announced_is = refl

-- the sum of the market is what the relay announces
total_is : (f : ℕ → List ℤ) → f 1 ≡ announced_demand → sum_of 3 (demands_of 3 small_places 0 f) ≡ announced_demand
unfolding parent children_to place_in child_in demands_of
total_is f one = ap (λ (l : List ℤ). sum_of 3 (l ∷ replicate 255 (zeros 3))) one

one_process : BeginsOnce 2 limits_steps
one_process = inl (
  (λ e. e),
  (
    (λ e. omega (arith, e)),
    (
      (λ e. e),
      ((λ e. e), ((λ e. e), ((λ e. e), ((λ e. e), ((λ e. e), ((λ e. e), ((λ e. e), ((λ e. e), ((λ e. e), ((λ e. e), ((λ e. e), tt))))))))))),
    ),
  ),
)

module _ (root : RootValue) (relays : ℕ → RelayValue) where
  abbrev last : World
  last = (scene_15 root relays).world

  -- ---- the world is settled, and taken

  settled_on : (l : Lists) → IsSettledWorld (lists_on small_tree.parents small_tree.leaves l) small_places last
  unfolding parent is_leaf is_member changes update place_in children_to said_between reaches
  settled_on l =
      let lists = lists_on small_tree.parents small_tree.leaves l in
      record {
        up = λ y is. elim is [
          | inl e ↦ ap last.up e
          | inr node ↦ each_node (λ y. last.up y ≡ true) refl refl refl y node
        ];
        bids = each_node (λ x. number_made lists last.seen x ≤ number_held lists small_places last.seen x) (omega arith) (omega arith) (omega arith);
        let_go = λ d leaf. omega arith;
        prices = λ x k node. each_node
            (λ x. (k : ℕ) → k < length (last.seen.prices_sent x) → (price_in_channel last.seen x k).index ≤ index_of_held lists last.seen x)
            (only_one (λ k. (price_in_channel last.seen 1 k).index ≤ 1) (omega arith))
            (only_one (λ k. (price_in_channel last.seen 2 k).index ≤ 1) (omega arith))
            (λ k inside. let none : k < 0 = inside in absurd (omega (arith, none))) x node k;
        told = λ x node. each_node
            (λ x. CountsAtParent lists small_places last.seen x → (k : ℕ) × (k < length (last.seen.prices_sent x))
            × ((price_in_channel last.seen x k).index ≡ index_above last.seen (parent lists x)))
            (λ counts. (0, omega arith, refl)) (λ counts. (0, omega arith, refl)) (λ counts. elim counts [
              | inl there ↦ absurd (cc there.1)
              | inr inner ↦ absurd (cc inner.0.2)
            ]) x node;
        relays = λ c conc. each_node (λ c. is_leaf lists c ≡ false → HasNothingToSend (last.seen.relays c))
            (λ inner. (
              send_fault.NotChanged,
              (reached (last.seen.relays 1).recorded (last.seen.relays 1).gathered.cache.heads refl, refl),
              (λ e. absurd (cc e)),
            ))
            (λ inner. absurd (cc inner)) (λ inner. absurd (cc inner)) c (conc.0, conc.1) conc.2;
        root = (root_fault.NotChanged, (reached last.seen.root.recorded last.seen.root.auction.cache.heads refl, refl), (λ e. absurd (cc e)));
      }

  taken_on : (l : Lists) → IsTakenWorld (lists_on small_tree.parents small_tree.leaves l) small_places last
  unfolding parent is_leaf is_member changes update place_in children_to said_between reaches
  taken_on l =
      let lists = lists_on small_tree.parents small_tree.leaves l in
      record {
        up = (settled_on l).up;
        bids = each_node (λ x. number_stored lists last x ≤ number_held lists small_places last.seen x) (omega arith) (omega arith) (omega arith);
        let_go = λ d leaf. omega arith;
        noted = each_node (λ x. number_held lists small_places last.seen x ≤ number_noted lists small_places last x) (omega arith) (omega arith)
            (omega arith);
        told = λ d leaf. each_leaf (λ x. (head_held lists small_places last.seen x).gone ≡ false → (k : ℕ) × (k < length (last.seen.prices_sent x))
            × ((price_in_channel last.seen x k).index ≡ last.root_kept.last))
            (λ there. (0, omega arith, refl)) (λ there. absurd (cc there)) d leaf;
        taken = λ d leaf. each_leaf
            (λ d. (head_held lists small_places last.seen d).gone ≡ false → last.root_kept.last ≤ (last.seen.agents d).index)
            (λ there. omega arith) (λ there. absurd (cc there)) d leaf;
      }

  -- both devices count under number 2
  counted_2 : (l : Lists) → numbers_counted (lists_on small_tree.parents small_tree.leaves l) small_places last.seen 2 ≡ 2
  unfolding parent is_leaf update place_in children_to
  counted_2 l = refl

  counted_3 : (l : Lists) → numbers_counted (lists_on small_tree.parents small_tree.leaves l) small_places last.seen 3 ≡ 2
  unfolding parent is_leaf update place_in children_to
  counted_3 l = refl

  -- ---- the offer of device 2, and that device 3 left

  abbrev first : World
  first = (scene_0 root relays).world

  abbrev up_after : Lists → Pricing → World → ℕ → ℕ → World
  up_after lists p world d n = record world {
    seen = handed_out lists small_places (with_agent world.seen d
        (agent_stored (world.agent_kept d).number (world.agent_kept d).newest (world.agent_kept d).index)) d
        (take n (restart_outs p (world.agent_kept d)));
    up = update world.up d true;
  }

  abbrev read_after : Lists → Pricing → World → ℕ → DeviceFrame → ℕ → World
  read_after lists p world d frame n = record world {
    seen = handed_out lists small_places (with_agent world.seen d (agent_after (world.seen.agents d) frame)) d
        (take n (device_outs p.steps world.basis (world.seen.agents d) frame));
    agent_kept = update world.agent_kept d (stored_last (world.agent_kept d) (take n (device_outs p.steps world.basis (world.seen.agents d) frame)));
  }

  abbrev offer : DeviceFrame
  offer = device_frame.Offer Array asked_demand

  given_offer : (lists : Lists) (p : Pricing) (world : World) → world ≡ up_after lists p first 2 4 →
      DeviceMayRead lists p world.basis world.seen 2 offer → IsGivenOffer lists p 2 2 asked_demand
  unfolding update
  given_offer lists p world is may =
      let May : World → Type 0 = λ w. DeviceMayRead lists p w.basis w.seen 2 offer in
      subst May is may refl refl

  given_leaving : (lists : Lists) (p : Pricing) (one two three : World) → one ≡ up_after lists p first 2 4 → two ≡ read_after lists p one 2 offer 2 →
      three ≡ up_after lists p two 3 2 → DeviceMayRead lists p three.basis three.seen 3 device_frame.Leave → IsGivenLeaving lists 3 2
  unfolding update
  given_leaving lists p one two three is_one is_two is_three may =
      let May : World → Type 0 = λ w. DeviceMayRead lists p w.basis w.seen 3 device_frame.Leave in
      subst May (is_three ∙ ap (λ (w : World). up_after lists p w 3 2) (is_two ∙ ap (λ (w : World). read_after lists p w 2 offer 2) is_one)) may refl

  -- ---- the law

  says : HistoryKeepsTheLaw small_tree limits_pricing small_places limits_steps first last → LimitsHistorySays last
  unfolding parent is_leaf update place_in children_to said_between
  says law =
      let has = law.has in
      let lists = has.lists in
      let p = has.pricing in
      let live = has.live in
      let counted : ℕ → ℕ = numbers_counted lists small_places last.seen in
      let two : counted 2 ≡ 2 = over_tree (λ (l : Lists). numbers_counted l small_places last.seen 2 ≡ 2) counted_2 lists has.parents has.leaves in
      let three : counted 3 ≡ 2 = over_tree (λ (l : Lists). numbers_counted l small_places last.seen 3 ≡ 2) counted_3 lists has.parents has.leaves in
      let offer_is = given_offer lists p live.0 live.1.new_is live.2.1.may in
      let leaving = given_leaving lists p live.0 live.2.0 live.2.2.0 live.1.new_is live.2.1.new_is live.2.2.1.new_is live.2.2.2.1.may in
      let leaf : is_leaf lists 2 ≡ true = same_leaf lists small_tree has.leaves 2 in
      let giver : is_leaf lists 3 ≡ true = same_leaf lists small_tree has.leaves 3 in
      let member : is_member lists 2 (counted 2) ≡ true = subst (λ (n : ℕ). is_member lists 2 n ≡ true) (sym two) offer_is.member in
      let settled = over_tree (λ (l : Lists). IsSettledWorld l small_places last) settled_on lists has.parents has.leaves in
      let taken = over_tree (λ (l : Lists). IsTakenWorld l small_places last) taken_on lists has.parents has.leaves in
      let told = (law.current settled).told 2 leaf member one_process in
      let node : (x : ℕ) → IsNode small_tree x → IsNode lists x =
      λ x is. over_tree (λ (l : Lists). IsNode l x) (λ l. is) lists has.parents has.leaves in
      let conc = over_tree (λ (l : Lists). IsConcentrator l 1) (λ l. (omega arith, omega arith, refl)) lists has.parents has.leaves in
      let limits_are : p.limits 1 counted ≡ Some narrow_limits =
      has.same_limits 1 counted ∙ ap (λ (n : ℕ). Some (limits_given 1 n)) three in
      let offers : ℕ → List ℤ = λ x. p.offer x counted in
      let asks : offers 2 ≡ asked_demand = has.market.by_nodes.device 2 counted leaf ∙ ap (p.demand 2) two ∙ sym offer_is.is in
      let none : offers 3 ≡ zeros 3 = has.market.by_nodes.device 3 counted giver ∙ ap (p.demand 3) three
      ∙ has.market.absent 3 2 giver leaving.absent ∙ ap zeros has.same_steps in
      let sum : sum_of_offers p counted 1 ≡ asked_demand = has.market.by_places 1 offers
      ∙ ap (λ (n : ℕ). sum_of n (demands_of n small_places 1 offers)) has.same_steps ∙ sum_is offers asks none in
      let can : (x : ℕ) → SaysBelow lists p counted x = λ x c inner below. each_node
      (λ c. is_leaf lists c ≡ false → CanSay (p.limits c counted) (p.local counted c) (sum_of_offers p counted c))
      (λ e. subst (λ (l : List ℤ). CanSay (p.limits 1 counted) (p.local counted 1) l) (sym sum)
      (subst (λ (o : Option Limits). CanSay o (p.local counted 1) asked_demand) (sym limits_are)
      (within_asked (settled_in narrow_limits (p.local counted 1) asked_demand))))
      (λ e. absurd (both_ways (is_leaf lists 2) e leaf)) (λ e. absurd (both_ways (is_leaf lists 3) e giver)) c
      (same_node lists small_tree has.parents c (inner.0, inner.1)) inner.2 in
      let bids : offers 1 ≡ announced_demand = has.market.by_nodes.relay 1 counted conc
      ∙ ap (λ (o : Option Limits). announced o (sum_of_offers p counted 1)) limits_are ∙ ap (announced (Some narrow_limits)) sum ∙ announced_is in
      let total : sum_of_offers p counted 0 ≡ announced_demand = has.market.by_places 0 offers
      ∙ ap (λ (n : ℕ). sum_of n (demands_of n small_places 0 offers)) has.same_steps ∙ total_is offers bids in
      let top : parent lists 1 ≡ 0 = over_tree (λ (l : Lists). parent l 1 ≡ 0) (λ l. refl) lists has.parents has.leaves in
      let step : p.local counted 1 ≡ 0 = has.market.by_nodes.root 1 counted (node 1 (omega arith, omega arith)) top ∙ ap clearing_step total in
      let before : clearing_step (sum_of_offers p counted 0) + 1 < p.steps =
      let first_step : clearing_step (sum_of_offers p counted 0) ≡ 0 = ap clearing_step total in
      let three_steps : p.steps ≡ 3 = has.same_steps in
      omega (arith, first_step, three_steps) in
      record {
        lists = lists;
        pricing = p;
        offered = offer_is.is;
        member = offer_is.member;
        absent = leaving.absent;
        journal = law.law.journal;
        legal = law.law.legal;
        relay_price = law.law.prices 1 0 (node 1 (omega arith, omega arith)) (omega arith);
        device_price = law.law.prices 2 0 (node 2 (omega arith, omega arith)) (omega arith);
        right = law.law.setpoints 2 settled_setpoint leaf (0, omega arith, refl);
        counts = (law.current settled).counted 2 leaf member;
        newest = (law.current settled).held 2 leaf member;
        settles = sym told.step ∙ sym (ap (λ (s : Setpoint). s.step) (only_setpoint settled_setpoint told.setpoint told.given));
        told = (law.taken taken).told 2 leaf member one_process;
        flows = λ power all. (
          law.flows.relays 1 power conc all (can 1) ∙ ap (λ (l : List ℤ). demand_at l (p.local counted 1)) bids ∙ ap (demand_at announced_demand) step,
          law.flows.within 1 power narrow_limits conc all (can 1) limits_are
              (subst (λ (l : List ℤ). HasStepWithin narrow_limits l) (sym sum) step_within),
        );
        balances = λ power all. (
          law.flows.root power all (can 0) ∙ ap (λ (l : List ℤ). demand_at l (clearing_step l)) total,
          law.flows.balanced power all (can 0) before,
        );
      }

  -- the worked history keeps the law, by the theorem, and so says this
  pub keeps_the_law : HistoriesKeepTheLaw → LimitsHistoryKeepsTheLaw (limits_scene root relays)
  unfolding holds_limits
  keeps_the_law keep = record {
    holds = holds_limits root relays;
    says = says (subst (λ (steps : List LifeStep). HistoryKeepsTheLaw small_tree limits_pricing small_places steps first last) (steps_are root relays)
        (keep small_tree limits_pricing small_places market around s0 starts (scene_0 root relays) (scene_15 root relays) limits_events
        (new root relays) (happens root relays)));
  }
