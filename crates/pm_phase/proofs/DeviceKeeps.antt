-- Each call of a device keeps what the device keeps.
use Rattle.std.proofs.Common.{◌≡◌, ◌∙◌, sym, ap, subst, ℕ, ◌+◌, ◌<◌, ◌≤◌, ℤ, Bool, true, false, cond}
use Rattle.std.proofs.Common.{List, [], ◌∷◌, ◌++◌, Option, Some, None, ltb, refl, arith, inl, inr}
use Rattle.std.specs.Prelude.{map, All, IfSome, OnErr, Result, Ok, Err, slice_get}
use Rattle.std.specs.declared.alloc.AllocError.{AllocError}
use Rattle.std.proofs.lemmas.Bool.{cases_Bool, cond-true, cond-false, both_ways, lt-ltb}
use Rattle.std.proofs.lemmas.List.Elements.{All-push}
use Rattle.pm_agent.specs.Agents.{Agent}
use Rattle.pm_agent.specs.MadeBids.{demand_after_change}
use Rattle.pm_bid.specs.Bids.{zeros}
use Rattle.pm_cells.specs.Ends.{LinkEnd}
use Rattle.pm_cells.specs.declared.view.CellView.{CellView}
use Rattle.pm_cells.specs.declared.message.UpMessage.{UpMessage}
use Rattle.pm_cells.specs.declared.message.Message.{Message}
use Rattle.pm_cells.specs.declared.message.Message.TheVariants.{Bid, Price}
use Rattle.pm_device.specs.declared.state.Next.{Next}
use Rattle.pm_device.specs.declared.kind.Kind.{Kind}
use Rattle.pm_nodes.specs.DeviceAgents.{IsAgentOf}
use Rattle.pm_plan.specs.Plans.{PlanData, NodeData, node, kind_of, is_member}
use Rattle.pm_plan.specs.Auction.{node_bid, demand_in_cut}
use Rattle.pm_plan.specs.States.{state}
use Rattle.pm_plan.specs.declared.node.Node.TheVariants.{Concentrator, Limited, Device}
use Rattle.pm_strategy.specs.Strategies.{bid_of}
use Rattle.pm_offer.specs.Offers.{device_demand}
use Rattle.pm_session.specs.Ports.{Seat}
use Rattle.pm_session.specs.declared.price.PriceUpdate.{PriceUpdate}
use Rattle.pm_carried.specs.Carried.{last_price}
use Rattle.pm_phase.specs.declared.device.DevicePart.{DevicePart}
use Rattle.pm_phase.specs.Devices.{MayMakeChange, MakesChange, changed_demand, seat_after_change}
use Rattle.pm_phase.specs.Waiting.{PutsBid}
use Rattle.pm_phase.specs.Hearing.{HearsPrice}
use Rattle.pm_phase.specs.Telling.{IsPlannedNext, AreNext, TellsChange, TellsMessage, bid_after, prices_among, KeepsDevice}

-- the bid of a kind's node
bid_of_kind : (plan : PlanData) (n : NodeData) (kind : Kind) (z : ℤ) → kind_of n ≡ Some kind →
    bid_of kind z plan.arrays plan.basis.steps ≡ node_bid plan n z
bid_of_kind plan (Device planned) kind z h = ap (λ (k : Kind). bid_of k z plan.arrays plan.basis.steps) (sym (let same : planned.kind ≡ kind = cc h in same))
bid_of_kind plan Concentrator kind z h = absurd (cc h)
bid_of_kind plan (Limited limits) kind z h = absurd (cc h)

-- the bid that a planned change makes is the one that its number says
pub made_is : (plan : PlanData) (d n : ℕ) (agent : Agent) (next : Next) → IsAgentOf plan d agent → IsPlannedNext plan d n next →
    changed_demand plan agent next ≡ bid_after plan d n
unfolding demand_in_cut
made_is plan d n agent next its planned = elim (cases_Bool (is_member plan d n)) [
  | inl belongs ↦
      let member : next.member ≡ true = planned.member ∙ belongs in
      cond-true next.member (Some (demand_after_change agent.kind next plan.arrays agent.steps)) None member
      ∙ ap Some (cond-true next.member (bid_of agent.kind next.state.0 plan.arrays agent.steps) (zeros agent.steps) member
      ∙ ap (λ (s : ℕ). bid_of agent.kind next.state.0 plan.arrays s) its.steps
      ∙ ap (λ (z : ℤ). bid_of agent.kind z plan.arrays plan.basis.steps) planned.state
      ∙ bid_of_kind plan (node plan d) agent.kind (state plan d n) its.kind
      ∙ sym (cond-true (is_member plan d n) (node_bid plan (node plan d) (state plan d n)) (zeros plan.basis.steps) belongs))
      ∙ sym (cond-true (is_member plan d n) (Some (device_demand plan d n)) None belongs)
  | inr gone ↦
      cond-false next.member (Some (demand_after_change agent.kind next plan.arrays agent.steps)) None (planned.member ∙ gone)
      ∙ sym (cond-false (is_member plan d n) (Some (device_demand plan d n)) None gone)
]

module _ (plan : PlanData) (d before : ℕ) where
  -- the seat after a change
  joined_after : (seat : Seat) (was : Bool) (next : Next) (n : ℕ) →
      (was ≡ true → (join : ℕ) × (seat.joined ≡ Some join) × (join ≤ n)) → next.number ≤ n + 1 → next.member ≡ true →
      (join : ℕ) × ((seat_after_change seat was next).joined ≡ Some join) × (join ≤ n + 1)
  joined_after seat true next n had number member =
      let h = had refl in
      (h.0, ap (λ (b : Bool). (cond b seat (record seat { joined = None })).joined) member ∙ h.1, omega (arith, h.2))
  joined_after seat false next n had number member =
      (next.number, ap (λ (b : Bool). (cond b (record seat { joined = Some next.number }) seat).joined) member, omega (arith, number))

  left_after : (seat : Seat) (was : Bool) (next : Next) → (was ≡ false → seat.joined ≡ None) → next.member ≡ false →
      (seat_after_change seat was next).joined ≡ None
  left_after seat true next had member = ap (λ (b : Bool). (cond b seat (record seat { joined = None })).joined) member
  left_after seat false next had member = ap (λ (b : Bool). (cond b (record seat { joined = Some next.number }) seat).joined) member ∙ had refl

  given_after : (seat : Seat) (was : Bool) (next : Next) → (seat_after_change seat was next).given ≡ seat.given
  given_after seat was next = elim (cases_Bool next.member) [
    | inl belongs ↦
        ap (λ (b : Bool). (cond b (cond was seat (record seat { joined = Some next.number })) (cond was (record seat { joined = None }) seat)).given) belongs
        ∙ keeps_in was
    | inr gone ↦
        ap (λ (b : Bool). (cond b (cond was seat (record seat { joined = Some next.number })) (cond was (record seat { joined = None }) seat)).given) gone
        ∙ keeps_out was
  ]
    where
      keeps_in : (b : Bool) → (cond b seat (record seat { joined = Some next.number })).given ≡ seat.given
      keeps_in true = refl
      keeps_in false = refl

      keeps_out : (b : Bool) → (cond b (record seat { joined = None }) seat).given ≡ seat.given
      keeps_out true = refl
      keeps_out false = refl

  -- a change that was made
  pub change_keeps : (changes : List Next) (next : Next) (old new : DevicePart) (end : LinkEnd) → AreNext plan d before changes →
      slice_get changes old.made ≡ Some next → MakesChange plan next old new → KeepsDevice plan d before old end →
      KeepsDevice plan d before new end
  change_keeps changes next old new end are here makes kept =
      let planned = are old.made next here in
      let more : before + new.made ≡ before + old.made + 1 = omega (arith, makes.made) in
      record {
        agent = subst (IsAgentOf plan d) (sym makes.agent) kept.agent;
        member = makes.member ∙ planned.member ∙ ap (is_member plan d) (sym more);
        joined = λ is.
            let j = joined_after old.port old.member next (before + old.made) kept.joined (omega (arith, planned.number)) (sym makes.member ∙ is) in
            (j.0, ap (λ (s : Seat). s.joined) makes.port ∙ j.1, omega (arith, j.2, more));
        left = λ is. ap (λ (s : Seat). s.joined) makes.port ∙ left_after old.port old.member next kept.left (sym makes.member ∙ is);
        waits = subst (λ w. IfSome w (TellsChange plan d)) (sym makes.waiting)
            (made_is plan d (before + old.made + 1) old.agent next kept.agent planned ∙ ap (bid_after plan d) (sym planned.number));
        sent = kept.sent;
        given = λ price last inside. ap (λ (s : Seat). s.given) makes.port ∙ given_after old.port old.member next ∙ kept.given price last inside;
        takes = kept.takes;
      }

  -- with another bid that waits, and another end
  with_end : (device : DevicePart) (waiting : Option UpMessage) (end end' : LinkEnd) → IfSome waiting (TellsChange plan d) →
      All (TellsMessage plan d) end'.known.up.sent → end'.known.down ≡ end.known.down →
      KeepsDevice plan d before device end → KeepsDevice plan d before (record device { waiting = waiting }) end'
  with_end device waiting end end' waits sent same kept = record {
    agent = kept.agent;
    member = kept.member;
    joined = kept.joined;
    left = kept.left;
    waits = waits;
    sent = sent;
    given = λ price last inside. kept.given price (ap (λ (v : CellView). last_price (prices_among v.received)) (sym same) ∙ last) inside;
    takes = subst (λ (v : CellView). v.takes ≡ map (λ (price : PriceUpdate). price.index) (prices_among v.received)) (sym same) kept.takes;
  }

  -- the bid that waited was put, or waits on, or is dropped
  pub put_keeps : (device : DevicePart) (waiting : Option UpMessage) (end end' : LinkEnd) (is_put : Bool) →
      PutsBid end end' device.waiting waiting is_put → KeepsDevice plan d before device end →
      KeepsDevice plan d before (record device { waiting = waiting }) end'
  put_keeps device waiting end end' is_put puts kept = by_what device.waiting is_put puts kept.waits
    where
      none_waits : waiting ≡ None → IfSome waiting (TellsChange plan d)
      none_waits e = subst (λ w. IfSome w (TellsChange plan d)) (sym e) tt

      the_same : end' ≡ end → IfSome waiting (TellsChange plan d) → KeepsDevice plan d before (record device { waiting = waiting }) end'
      the_same e waits =
          with_end device waiting end end' waits (subst (λ (x : LinkEnd). All (TellsMessage plan d) x.known.up.sent) (sym e) kept.sent)
          (ap (λ (x : LinkEnd). x.known.down) e) kept

      by_what : (old : Option UpMessage) (b : Bool) → PutsBid end end' old waiting b → IfSome old (TellsChange plan d) →
          KeepsDevice plan d before (record device { waiting = waiting }) end'
      by_what None b p w = the_same p.0 (none_waits p.1)
      by_what (Some bid) true p w =
          with_end device waiting end end' (none_waits p.none)
          (subst (λ (x : LinkEnd). All (TellsMessage plan d) x.known.up.sent) (sym p.put)
          (All-push (TellsMessage plan d) end.known.up.sent (Bid bid) kept.sent w))
          (ap (λ (x : LinkEnd). x.known.down) p.put) kept
      by_what (Some bid) false (inl k) w =
          with_end device waiting end end' (subst (λ o. IfSome o (TellsChange plan d)) (sym k.waits) w)
          (subst (λ (x : LinkEnd). All (TellsMessage plan d) x.known.up.sent) (sym k.lost) kept.sent)
          (ap (λ (x : LinkEnd). x.known.down) k.lost) kept
      by_what (Some bid) false (inr k) w = the_same k.same (none_waits k.none)

  -- a call that makes the next change, or none
  pub made_or_not : (changes : List Next) (result : Result Bool AllocError) (old new : DevicePart) (end : LinkEnd) → AreNext plan d before changes →
      (result ≡ Ok true → IfSome (slice_get changes old.made) (λ next. MayMakeChange plan old next × MakesChange plan next old new)) →
      (result ≡ Ok true → slice_get changes old.made ≡ None → ⊥) → (result ≡ Ok false → new ≡ old) → OnErr result (new ≡ old) →
      KeepsDevice plan d before old end → KeepsDevice plan d before new end
  made_or_not changes (Ok true) old new end are made some unchanged failed kept = by_next (slice_get changes old.made) refl (made refl)
    where
      by_next : (found : Option Next) → slice_get changes old.made ≡ found →
          IfSome found (λ next. MayMakeChange plan old next × MakesChange plan next old new) → KeepsDevice plan d before new end
      by_next None e m = absurd (some refl e)
      by_next (Some next) e m = change_keeps changes next old new end are e m.1 kept
  made_or_not changes (Ok false) old new end are made some unchanged failed kept =
      subst (λ (x : DevicePart). KeepsDevice plan d before x end) (sym (unchanged refl)) kept
  made_or_not changes (Err fault) old new end are made some unchanged failed kept =
      subst (λ (x : DevicePart). KeepsDevice plan d before x end) (sym failed) kept

-- what is told of the element of a list in a place holds of the element
pub told_of : {A : Type 0} (found : Option A) (value : A) (P : A → Type 0) → found ≡ Some value → IfSome found P → P value
told_of found value P is told = subst (λ o. IfSome o P) is told

-- the prices among messages, with one message more
pub prices_push : (ms : List Message) (price : PriceUpdate) → prices_among (ms ++ Price price ∷ []) ≡ prices_among ms ++ price ∷ []
prices_push [] price = refl
prices_push (Bid bid ∷ ms) price = prices_push ms price
prices_push (Price p ∷ ms) price = ap (λ ps. p ∷ ps) (prices_push ms price)

indices_push : (ps : List PriceUpdate) (price : PriceUpdate) →
    map (λ (p : PriceUpdate). p.index) (ps ++ price ∷ []) ≡ map (λ (p : PriceUpdate). p.index) ps ++ price.index ∷ []
indices_push [] price = refl
indices_push (p ∷ ps) price = ap (λ (ns : List ℕ). p.index ∷ ns) (indices_push ps price)

newest_push : (ps : List PriceUpdate) (price : PriceUpdate) → last_price (ps ++ price ∷ []) ≡ Some price
newest_push [] price = refl
newest_push (p ∷ []) price = refl
newest_push (p ∷ q ∷ ps) price = newest_push (q ∷ ps) price

module _ (plan : PlanData) (d before : ℕ) where
  moved : (device device' : DevicePart) (end end' : LinkEnd) → device' ≡ device → end'.known.up.sent ≡ end.known.up.sent →
      end'.known.down.received ≡ end.known.down.received → end'.known.down.takes ≡ end.known.down.takes → KeepsDevice plan d before device end →
      KeepsDevice plan d before device' end'
  moved device device' end end' same sent received takes kept =
      subst (λ (x : DevicePart). KeepsDevice plan d before x end') (sym same) (record {
        agent = kept.agent;
        member = kept.member;
        joined = kept.joined;
        left = kept.left;
        waits = kept.waits;
        sent = subst (All (TellsMessage plan d)) (sym sent) kept.sent;
        given = λ price last inside. kept.given price (ap (λ ms. last_price (prices_among ms)) (sym received) ∙ last) inside;
        takes = takes ∙ kept.takes ∙ ap (λ (ms : List Message). map (λ (p : PriceUpdate). p.index) (prices_among ms)) (sym received);
      })

  -- a price came, or none did
  pub hear_keeps : (device device' : DevicePart) (end end' : LinkEnd) (heard : Bool) → HearsPrice plan end end' device device' heard →
      KeepsDevice plan d before device end → KeepsDevice plan d before device' end'
  hear_keeps device device' end end' false (inl t, same) kept =
      moved device device' end end' same (ap (λ (x : LinkEnd). x.known.up.sent) t.1) (ap (λ (x : LinkEnd). x.known.down.received) t.1)
      (ap (λ (x : LinkEnd). x.known.down.takes) t.1) kept
  hear_keeps device device' end end' false (inr (inl t), same) kept =
      moved device device' end end' same (ap (λ (x : LinkEnd). x.known.up.sent) t) (ap (λ (x : LinkEnd). x.known.down.received) t)
      (ap (λ (x : LinkEnd). x.known.down.takes) t) kept
  hear_keeps device device' end end' false (inr (inr t), same) kept =
      moved device device' end end' same (ap (λ (x : LinkEnd). x.known.up.sent) t) (ap (λ (x : LinkEnd). x.known.down.received) t)
      (ap (λ (x : LinkEnd). x.known.down.takes) t) kept
  hear_keeps device device' end end' true (price, taken, is) kept =
      let last : last_price (prices_among end'.known.down.received) ≡ Some price =
      ap (λ (x : LinkEnd). last_price (prices_among x.known.down.received)) taken
      ∙ ap last_price (prices_push end.known.down.received price) ∙ newest_push (prices_among end.known.down.received) price in
      let sent : All (TellsMessage plan d) end'.known.up.sent =
      subst (λ (x : LinkEnd). All (TellsMessage plan d) x.known.up.sent) (sym taken) kept.sent in
      let takes : end'.known.down.takes ≡ map (λ (p : PriceUpdate). p.index) (prices_among end'.known.down.received) =
      ap (λ (x : LinkEnd). x.known.down.takes) taken ∙ ap (λ (ns : List ℕ). ns ++ price.index ∷ []) kept.takes
      ∙ sym (indices_push (prices_among end.known.down.received) price)
      ∙ ap (λ (ps : List PriceUpdate). map (λ (p : PriceUpdate). p.index) ps) (sym (prices_push end.known.down.received price))
      ∙ sym (ap (λ (x : LinkEnd). map (λ (p : PriceUpdate). p.index) (prices_among x.known.down.received)) taken) in
      let with_price : DevicePart = record device { port = record device.port { given = Some price } } in
      let P : DevicePart → Type 0 = λ x. KeepsDevice plan d before x end' in
      elim (cases_Bool (ltb price.step plan.basis.steps)) [
        | inl inside ↦ subst P (sym (is ∙ cond-true (ltb price.step plan.basis.steps) with_price device inside)) (record {
          agent = kept.agent;
          member = kept.member;
          joined = kept.joined;
          left = kept.left;
          waits = kept.waits;
          sent = sent;
          given = λ other newest step. sym last ∙ newest;
          takes = takes;
        })
        | inr past ↦ subst P (sym (is ∙ cond-false (ltb price.step plan.basis.steps) with_price device past)) (record {
          agent = kept.agent;
          member = kept.member;
          joined = kept.joined;
          left = kept.left;
          waits = kept.waits;
          sent = sent;
          given = λ other newest step.
              let same : price ≡ other = cc (sym last ∙ newest) in
              let inside : price.step < plan.basis.steps = subst (λ (q : PriceUpdate). q.step < plan.basis.steps) (sym same) step in
              absurd (both_ways (ltb price.step plan.basis.steps) past (lt-ltb price.step plan.basis.steps inside));
          takes = takes;
        })
      ]

-- a device makes its change, puts the bid that waits, and hears a price
pub turn_keeps : (plan : PlanData) (d before : ℕ) (device heard : DevicePart) (waiting : Option UpMessage) (end put took : LinkEnd)
    (is_put has_heard : Bool) →
    KeepsDevice plan d before device end → PutsBid end put device.waiting waiting is_put →
    HearsPrice plan put took (record device { waiting = waiting }) heard has_heard → KeepsDevice plan d before heard took
turn_keeps plan d before device heard waiting end put took is_put has_heard kept puts hears =
    hear_keeps plan d before (record device { waiting = waiting }) heard put took has_heard hears
    (put_keeps plan d before device waiting end put is_put puts kept)
