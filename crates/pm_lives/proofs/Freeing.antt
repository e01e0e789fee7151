-- For any lives there are lists: those in which each device offers what it offered.
use Rattle.std.proofs.Common.{◌≡◌, ◌⊎◌, ◌∙◌, sym, ap, subst, ℕ, ℤ, zero, suc, ◌+◌, ◌-◌, ◌<◌, ◌≤◌, ◌^◌}
use Rattle.std.proofs.Common.{Bool, true, false, cond, ltb, eqb, ◌&&◌, List, [], ◌∷◌, take, Option, Some, None, refl, inl, inr, arith}
use Rattle.std.proofs.Common.{◌%◌, ◌/◌, ◌*◌}
use Rattle.std.proofs.lemmas.Bool.{cases_eq, cases_Bool, cond-true, cond-false, eq-eqb, ne_eqb, both_ways, and_parts, and_from, ltb-true}
use Rattle.pm_bid.specs.Bids.{zeros}
use Rattle.pm_market.specs.Lists.{Lists, IsLeaf}
use Rattle.pm_market.specs.State.{update}
use Rattle.pm_market.proofs.Cuts.{updated_same, updated_other}
use Rattle.pm_market.proofs.Tree.{leaf_node}
use Rattle.pm_net.specs.Pricing.{Pricing}
use Rattle.pm_net.specs.Messages.{BidMessage, PriceMessage, price_message}
use Rattle.pm_net.specs.Agents as agents
use Rattle.pm_net.specs.Agents.{DeviceAgent, may_offer, after_offer, after_leaving, after_price, setpoints_for, setpoints_of, kept_offer}
use Rattle.pm_net.proofs.Messages.{either}
use Rattle.pm_net_plan.specs.Places.{Numbering}
use Rattle.pm_control.specs.Control.{newest_demand, agent_stored}
use Rattle.pm_relay.specs.Numbers.{parents_number}
use Rattle.pm_frames.specs.declared.stored.StoredAgent.{StoredAgent}
use Rattle.pm_frames.specs.declared.parent.ParentFrame.TheVariants.{Price, Old}
use Rattle.pm_frames.specs.declared.relay.RelayFrame.{RelayFrame}
use Rattle.pm_frames.specs.declared.relay.RelayFrame.TheVariants as relay_frame
use Rattle.pm_frames.specs.declared.root.RootFrame.{RootFrame}
use Rattle.pm_frames.specs.declared.root.RootFrame.TheVariants as root_frame
use Rattle.pm_frames.specs.declared.device.DeviceFrame.{DeviceFrame}
use Rattle.pm_frames.specs.declared.device.DeviceFrame.TheVariants.{Hello, Offer, Kind, Leave, Parent, Resume}
use Rattle.pm_basis.specs.Prices.{BasisValue}
use Rattle.pm_services.specs.DeviceWrites.{numbered_bid, agent_after}
use Rattle.pm_system.specs.System.{System, with_agent, with_bid_sent, with_prices_sent, with_setpoints}
use Rattle.pm_system.specs.Given.{IsDemand, IsTreeMarket}
use Rattle.pm_services.specs.Outputs.{Output, Says}
use Rattle.pm_lives.specs.RelayLife.{relay_number}
use Rattle.pm_lives.specs.RootLife.{root_number}
use Rattle.pm_services.specs.DeviceWrites.{made_outs, told_outs, device_outs}
use Rattle.pm_lives.specs.Lives.{World, LifeStep, RelayUp, Relay, RootUp, Root, DeviceUp, Device, HandledSome, stored_last, restart_outs}
use Rattle.pm_lives.specs.Free.{RelayIsFree, RootIsFree, DeviceIsFree, LivesFree1, LiveFree, HasLists}
use Rattle.pm_lives.proofs.Handing.{handed_values}
use Rattle.pm_lives.proofs.Giving.{price_number}

-- ---- the numbers of a device

-- what is stored of it has its newest number
module _ (p : Pricing) (own : BasisValue) where
  abbrev KeepsNumber : DeviceAgent → List (Output StoredAgent) → Type 0
  KeepsNumber after outs = (k : StoredAgent) (n : ℕ) → (outs ≡ [] → k.number ≡ after.number) → HandledSome n outs →
      (stored_last k (take n outs)).number ≡ after.number

  made_keeps : (after : DeviceAgent) (bid : BidMessage) (k : StoredAgent) (n : ℕ) → HandledSome n (made_outs own after bid) →
      (stored_last k (take n (made_outs own after bid))).number ≡ after.number
  made_keeps after bid k zero (inl some) = absurd (omega (arith, some))
  made_keeps after bid k zero (inr none) = absurd (omega (arith, ap (λ l. Rattle.std.proofs.Common.length l) none))
  made_keeps after bid k (suc zero) handled = refl
  made_keeps after bid k (suc (suc zero)) handled = refl
  made_keeps after bid k (suc (suc (suc n))) handled = refl

  said_keeps : (bytes : List ℕ) (number : ℕ) (k : StoredAgent) (n : ℕ) → k.number ≡ number →
      (stored_last k (take n (Says bytes ∷ []))).number ≡ number
  said_keeps bytes number k zero is = is
  said_keeps bytes number k (suc zero) is = is
  said_keeps bytes number k (suc (suc n)) is = is

  none_keeps : (number : ℕ) (k : StoredAgent) (n : ℕ) → k.number ≡ number → (stored_last k (take n [])).number ≡ number
  none_keeps number k zero is = is
  none_keeps number k (suc n) is = is

  told_keeps : (after : DeviceAgent) (price : PriceMessage) (o : Option agents.Offer) (k : StoredAgent) (n : ℕ) → k.number ≡ after.number →
      (stored_last k (take n (told_outs own after price (setpoints_of price o)))).number ≡ after.number
  told_keeps after price None k n is = said_keeps (Rattle.pm_frames.specs.Answers.dropped_bytes price.number price.index) after.number k n is
  told_keeps after price (Some offer) k zero is = is
  told_keeps after price (Some offer) k (suc zero) is = is
  told_keeps after price (Some offer) k (suc (suc zero)) is = refl
  told_keeps after price (Some offer) k (suc (suc (suc n))) is = refl

  price_keeps : (agent : DeviceAgent) (price : PriceMessage) (k : StoredAgent) (n : ℕ) → k.number ≡ agent.number →
      (stored_last k (take n (told_outs own (after_price agent price) price (setpoints_for agent price)))).number ≡ (after_price agent price).number
  price_keeps agent price k n is =
      either (λ (l : List agents.Setpoint). (stored_last k (take n (told_outs own (after_price agent price) price l))).number ≡
      (after_price agent price).number)
      (ltb agent.index price.index) (setpoints_of price (kept_offer agent price.number)) []
      (λ e. told_keeps (after_price agent price) price (kept_offer agent price.number) k n (is ∙ sym (price_number agent price)))
      (λ e. said_keeps (Rattle.pm_frames.specs.Answers.dropped_bytes price.number price.index) (after_price agent price).number k n
      (is ∙ sym (price_number agent price)))

  offer_keeps : (may room : Bool) (agent after : DeviceAgent) (bid : BidMessage) (k : StoredAgent) (n : ℕ) (full out : List ℕ) → k.number
      ≡ agent.number →
      HandledSome n (cond may (cond room (made_outs own after bid) (Says out ∷ [])) (Says full ∷ [])) →
      (stored_last k (take n (cond may (cond room (made_outs own after bid) (Says out ∷ [])) (Says full ∷ [])))).number ≡
      (cond may (cond room after agent) agent).number
  offer_keeps true true agent after bid k n full out is handled = made_keeps after bid k n handled
  offer_keeps true false agent after bid k n full out is handled = said_keeps out agent.number k n is
  offer_keeps false room agent after bid k n full out is handled = said_keeps full agent.number k n is

  leave_keeps : (room : Bool) (agent after : DeviceAgent) (bid : BidMessage) (k : StoredAgent) (n : ℕ) (out : List ℕ) → k.number ≡ agent.number →
      HandledSome n (cond room (made_outs own after bid) (Says out ∷ [])) →
      (stored_last k (take n (cond room (made_outs own after bid) (Says out ∷ [])))).number ≡ (cond room after agent).number
  leave_keeps true agent after bid k n out is handled = made_keeps after bid k n handled
  leave_keeps false agent after bid k n out is handled = said_keeps out agent.number k n is

  old_rises : (agent : DeviceAgent) (kept : ℕ) → agent.number ≤ (Rattle.pm_control.specs.Control.after_old agent kept).number
  old_rises agent kept =
      either (λ (a : DeviceAgent). agent.number ≤ a.number) (ltb agent.number kept)
      (cond (ltb (agent.number + 7) (2 ^ 32)) (Rattle.pm_control.specs.Control.offered_anew agent (newest_demand agent)) agent) agent
      (λ e. either (λ (a : DeviceAgent). agent.number ≤ a.number) (ltb (agent.number + 7) (2 ^ 32))
      (Rattle.pm_control.specs.Control.offered_anew agent (newest_demand agent)) agent
      (λ e. anew_rises (newest_demand agent)) (λ e. omega arith))
      (λ e. omega arith)
    where
      anew_rises : (o : Option (List ℤ)) → agent.number ≤ (Rattle.pm_control.specs.Control.offered_anew agent o).number
      anew_rises None = omega arith
      anew_rises (Some demand) = omega arith

  old_keeps : (agent after : DeviceAgent) (bid : BidMessage) (k : StoredAgent) (n : ℕ) → agent.number ≤ after.number → k.number ≡ agent.number →
      HandledSome n (cond (ltb agent.number after.number) (made_outs own after bid) []) →
      (stored_last k (take n (cond (ltb agent.number after.number) (made_outs own after bid) []))).number ≡ after.number
  old_keeps agent after bid k n rises is =
      either (λ (l : List (Output StoredAgent)). HandledSome n l → (stored_last k (take n l)).number ≡ after.number) (ltb agent.number after.number)
      (made_outs own after bid) [] (λ e handled. made_keeps after bid k n handled)
      (λ e handled. none_keeps after.number k n (omega (arith, is, rises, not_less e)))
    where
      not_less : ltb agent.number after.number ≡ false → after.number ≤ agent.number
      not_less e = elim (Rattle.std.proofs.lemmas.Bool.cases_lt agent.number after.number) [
        | inl less ↦ absurd (both_ways (ltb agent.number after.number) e (Rattle.std.proofs.lemmas.Bool.lt-ltb agent.number after.number less))
        | inr ge ↦ ge
      ]

  -- what is stored after an answer has the number of the agent after it
  pub answer_keeps : (seen : System) (d : ℕ) (agent : DeviceAgent) (frame : DeviceFrame) (k : StoredAgent) (n : ℕ) → DeviceIsFree p own seen d frame →
      k.number ≡ agent.number → HandledSome n (device_outs p.steps own agent frame) →
      (stored_last k (take n (device_outs p.steps own agent frame))).number ≡ (agent_after agent frame).number
  answer_keeps seen d agent (Hello basis) k n free is handled = none_keeps agent.number k n is
  answer_keeps seen d agent (Kind named) k n free is handled = none_keeps agent.number k n is
  answer_keeps seen d agent (Offer form demand) k n free is handled =
      offer_keeps (may_offer agent) (ltb (agent.number + 5) (2 ^ 32)) agent (after_offer agent demand)
      (numbered_bid p.steps (agent.number + 2) (Some demand)) k n
      Rattle.pm_frames.specs.Answers.window_full_bytes Rattle.pm_frames.specs.Answers.out_of_numbers_bytes is handled
  answer_keeps seen d agent Leave k n free is handled =
      leave_keeps (ltb (agent.number + 3) (2 ^ 32)) agent (after_leaving agent)
      (numbered_bid p.steps (agent.number + 2) None) k n Rattle.pm_frames.specs.Answers.out_of_numbers_bytes is handled
  answer_keeps seen d agent (Parent (Price child number index step basis)) k n free is handled = price_keeps agent (price_message number index step) k n is
  answer_keeps seen d agent (Parent (Old child kept)) k n free is handled =
      let after : DeviceAgent = Rattle.pm_control.specs.Control.after_old agent kept in
      old_keeps agent after (numbered_bid p.steps after.number (newest_demand after)) k n (old_rises agent kept) is handled
  answer_keeps seen d agent (Resume stored) k n free is handled = absurd free

-- ---- what is wanted of lists

pub record Wanted : Type 0 where
  -- whether a device is a member under a number
  pub member : ℕ → ℕ → Bool
  pub offer : ℕ → ℕ → List ℤ

abbrev pub with_wanted : Wanted → ℕ → ℕ → List ℤ → Wanted
with_wanted w d n demand = record {
  member = update w.member d (update (w.member d) n true);
  offer = update w.offer d (update (w.offer d) n demand);
}

abbrev pub asks_anew : ℕ → ℕ → Option (List ℤ) → Wanted → Wanted
asks_anew d n None w = w
asks_anew d n (Some demand) w = with_wanted w d n demand

abbrev pub asks_device : DeviceAgent → ℕ → DeviceFrame → Wanted → Wanted
asks_device a d (Hello basis) w = w
asks_device a d (Kind named) w = w
asks_device a d (Offer form demand) w = cond (may_offer a) (cond (ltb (a.number + 5) (2 ^ 32)) (with_wanted w d (a.number + 2) demand) w) w
asks_device a d Leave w = w
asks_device a d (Parent (Price child number index step basis)) w = w
asks_device a d (Parent (Old child kept)) w =
    cond (ltb a.number kept) (cond (ltb (a.number + 7) (2 ^ 32)) (asks_anew d (a.number + 2 + 2) (newest_demand a) w) w) w
asks_device a d (Resume stored) w = w

abbrev pub SameAt : Wanted → Wanted → ℕ → ℕ → Type 0
SameAt w v x n = (w.member x n ≡ v.member x n) × (w.offer x n ≡ v.offer x n)

-- what is wanted of other devices and numbers stays
pub wanted_other : (w : Wanted) (d m : ℕ) (demand : List ℤ) (x n : ℕ) → (x ≡ d → n ≡ m → ⊥) → SameAt (with_wanted w d m demand) w x n
wanted_other w d m demand x n ne = (
  Rattle.pm_net.proofs.Messages.two_other w.member d m true x n ne,
  Rattle.pm_net.proofs.Messages.two_other w.offer d m demand x n ne,
)

-- of this device and number it is the new offer
pub wanted_same : (w : Wanted) (d m : ℕ) (demand : List ℤ) →
    ((with_wanted w d m demand).member d m ≡ true) × ((with_wanted w d m demand).offer d m ≡ demand)
wanted_same w d m demand = (
  Rattle.pm_net.proofs.Messages.two_same w.member d m true d m refl refl,
  Rattle.pm_net.proofs.Messages.two_same w.offer d m demand d m refl refl,
)

same_self : (w : Wanted) (x n : ℕ) → SameAt w w x n
same_self w x n = (refl, refl)

-- an agent's numbers go by two
record Goes (before after : ℕ) : Type 0 where
  by : ℕ
  is : after ≡ before + (by + by)

offer_goes : (may room : Bool) (a after : DeviceAgent) → after.number ≡ a.number + 2 → Goes a.number (cond may (cond room after a) a).number
offer_goes true true a after is = record { by = 1; is = omega (arith, is) }
offer_goes true false a after is = record { by = 0; is = omega arith }
offer_goes false room a after is = record { by = 0; is = omega arith }

leave_goes : (room : Bool) (a after : DeviceAgent) → after.number ≡ a.number + 2 → Goes a.number (cond room after a).number
leave_goes true a after is = record { by = 1; is = omega (arith, is) }
leave_goes false a after is = record { by = 0; is = omega arith }

old_goes : (newer room : Bool) (a : DeviceAgent) (o : Option (List ℤ)) →
    Goes a.number (cond newer (cond room (Rattle.pm_control.specs.Control.offered_anew a o) a) a).number
old_goes true true a None = record { by = 0; is = omega arith }
old_goes true true a (Some demand) = record { by = 2; is = omega arith }
old_goes true false a o = record { by = 0; is = omega arith }
old_goes false room a o = record { by = 0; is = omega arith }

goes : (p : Pricing) (own : BasisValue) (seen : System) (d : ℕ) (a : DeviceAgent) (frame : DeviceFrame) → DeviceIsFree p own seen d frame →
    Goes a.number (agent_after a frame).number
goes p own seen d a (Hello basis) free = record { by = 0; is = omega arith }
goes p own seen d a (Kind named) free = record { by = 0; is = omega arith }
goes p own seen d a (Offer form demand) free = offer_goes (may_offer a) (ltb (a.number + 5) (2 ^ 32)) a (after_offer a demand) refl
goes p own seen d a Leave free = leave_goes (ltb (a.number + 3) (2 ^ 32)) a (after_leaving a) refl
goes p own seen d a (Parent (Price child number index step basis)) free =
    record { by = 0; is = omega (arith, price_number a (price_message number index step)) }
goes p own seen d a (Parent (Old child kept)) free = old_goes (ltb a.number kept) (ltb (a.number + 7) (2 ^ 32)) a (newest_demand a)
goes p own seen d a (Resume stored) free = absurd free

-- outside the numbers that it gives with a frame nothing is asked
abbrev pub Outside : ℕ → ℕ → ℕ → Type 0
Outside before after n = (n ≤ before) ⊎ (after < n)

offer_outside : (may room : Bool) (a after : DeviceAgent) (d : ℕ) (demand : List ℤ) (w : Wanted) → after.number ≡ a.number + 2 → (x n : ℕ) →
    (x ≡ d → Outside a.number (cond may (cond room after a) a).number n) → SameAt (cond may (cond room (with_wanted w d (a.number + 2) demand) w) w) w x n
offer_outside true true a after d demand w is x n out =
    wanted_other w d (a.number + 2) demand x n (λ e at. elim (out e) [
      | inl low ↦ omega (arith, low, at)
      | inr high ↦ omega (arith, high, at, is)
    ])
offer_outside true false a after d demand w is x n out = same_self w x n
offer_outside false room a after d demand w is x n out = same_self w x n

old_outside : (newer room : Bool) (a : DeviceAgent) (o : Option (List ℤ)) (d : ℕ) (w : Wanted) (x n : ℕ) →
    (x ≡ d → Outside a.number (cond newer (cond room (Rattle.pm_control.specs.Control.offered_anew a o) a) a).number n) →
    SameAt (cond newer (cond room (asks_anew d (a.number + 2 + 2) o w) w) w) w x n
old_outside true true a None d w x n out = same_self w x n
old_outside true true a (Some demand) d w x n out =
    wanted_other w d (a.number + 2 + 2) demand x n (λ e at. elim (out e) [
      | inl low ↦ omega (arith, low, at)
      | inr high ↦ omega (arith, high, at)
    ])
old_outside true false a o d w x n out = same_self w x n
old_outside false room a o d w x n out = same_self w x n

asks_outside : (a : DeviceAgent) (d : ℕ) (frame : DeviceFrame) (w : Wanted) (x n : ℕ) → (x ≡ d → Outside a.number (agent_after a frame).number n) →
    SameAt (asks_device a d frame w) w x n
asks_outside a d (Hello basis) w x n out = same_self w x n
asks_outside a d (Kind named) w x n out = same_self w x n
asks_outside a d (Offer form demand) w x n out =
    offer_outside (may_offer a) (ltb (a.number + 5) (2 ^ 32)) a (after_offer a demand) d demand w refl x n out
asks_outside a d Leave w x n out = same_self w x n
asks_outside a d (Parent (Price child number index step basis)) w x n out = same_self w x n
asks_outside a d (Parent (Old child kept)) w x n out = old_outside (ltb a.number kept) (ltb (a.number + 7) (2 ^ 32)) a (newest_demand a) d w x n out
asks_outside a d (Resume stored) w x n out = same_self w x n

-- no odd number is asked
asks_odd : (a : DeviceAgent) (half : ℕ) → a.number ≡ half + half → (d : ℕ) (frame : DeviceFrame) (w : Wanted) (x k : ℕ) →
    (asks_device a d frame w).member x (k + k + 1) ≡ w.member x (k + k + 1)
asks_odd a half even d (Hello basis) w x k = refl
asks_odd a half even d (Kind named) w x k = refl
asks_odd a half even d (Offer form demand) w x k =
    either (λ (v : Wanted). v.member x (k + k + 1) ≡ w.member x (k + k + 1)) (may_offer a)
    (cond (ltb (a.number + 5) (2 ^ 32)) (with_wanted w d (a.number + 2) demand) w) w
    (λ e. either (λ (v : Wanted). v.member x (k + k + 1) ≡ w.member x (k + k + 1)) (ltb (a.number + 5) (2 ^ 32)) (with_wanted w d (a.number + 2) demand) w
    (λ e. (wanted_other w d (a.number + 2) demand x (k + k + 1) (λ e at. omega (arith, at, even))).0) (λ e. refl))
    (λ e. refl)
asks_odd a half even d Leave w x k = refl
asks_odd a half even d (Parent (Price child number index step basis)) w x k = refl
asks_odd a half even d (Parent (Old child kept)) w x k =
    either (λ (v : Wanted). v.member x (k + k + 1) ≡ w.member x (k + k + 1)) (ltb a.number kept)
    (cond (ltb (a.number + 7) (2 ^ 32)) (asks_anew d (a.number + 2 + 2) (newest_demand a) w) w) w
    (λ e. either (λ (v : Wanted). v.member x (k + k + 1) ≡ w.member x (k + k + 1)) (ltb (a.number + 7) (2 ^ 32))
    (asks_anew d (a.number + 2 + 2) (newest_demand a) w) w (λ e. anew (newest_demand a)) (λ e. refl))
    (λ e. refl)
  where
    anew : (o : Option (List ℤ)) → (asks_anew d (a.number + 2 + 2) o w).member x (k + k + 1) ≡ w.member x (k + k + 1)
    anew None = refl
    anew (Some demand) = (wanted_other w d (a.number + 2 + 2) demand x (k + k + 1) (λ e at. omega (arith, at, even))).0
asks_odd a half even d (Resume stored) w x k = refl

-- what is asked are demands
unfoldable pub AreDemands : Pricing → Wanted → Type 0
AreDemands p w = (x n : ℕ) → IsDemand p.steps (w.offer x n)

wanted_demands : (p : Pricing) (w : Wanted) (d m : ℕ) (demand : List ℤ) → AreDemands p w → IsDemand p.steps demand →
    AreDemands p (with_wanted w d m demand)
unfolding AreDemands update
wanted_demands p w d m demand were is x n =
    either (λ (f : ℕ → List ℤ). IsDemand p.steps (f n)) (eqb x d) (update (w.offer d) m demand) (w.offer x)
    (λ e. either (λ (l : List ℤ). IsDemand p.steps l) (eqb n m) demand (w.offer d n) (λ e. is) (λ e. were d n)) (λ e. were x n)

asks_demands : (p : Pricing) (own : BasisValue) (seen : System) (d : ℕ) (frame : DeviceFrame) (w : Wanted) → DeviceIsFree p own seen d frame →
    AreDemands p w →
    AreDemands p (asks_device (seen.agents d) d frame w)
asks_demands p own seen d (Hello basis) w free were = were
asks_demands p own seen d (Kind named) w free were = were
asks_demands p own seen d (Offer form demand) w free were =
    either (AreDemands p) (may_offer (seen.agents d))
    (cond (ltb ((seen.agents d).number + 5) (2 ^ 32)) (with_wanted w d ((seen.agents d).number + 2) demand) w) w
    (λ e. either (AreDemands p) (ltb ((seen.agents d).number + 5) (2 ^ 32)) (with_wanted w d ((seen.agents d).number + 2) demand) w
    (λ e. wanted_demands p w d ((seen.agents d).number + 2) demand were free) (λ e. were)) (λ e. were)
asks_demands p own seen d Leave w free were = were
asks_demands p own seen d (Parent (Price child number index step basis)) w free were = were
asks_demands p own seen d (Parent (Old child kept)) w free were =
    let a : DeviceAgent = seen.agents d in
    either (AreDemands p) (ltb a.number kept) (cond (ltb (a.number + 7) (2 ^ 32)) (asks_anew d (a.number + 2 + 2) (newest_demand a) w) w) w
    (λ e. either (AreDemands p) (ltb (a.number + 7) (2 ^ 32)) (asks_anew d (a.number + 2 + 2) (newest_demand a) w) w
    (λ e. anew (newest_demand a) free) (λ e. were)) (λ e. were)
  where
    anew : (o : Option (List ℤ)) → ((demand : List ℤ) → o ≡ Some demand → IsDemand p.steps demand) →
        AreDemands p (asks_anew d ((seen.agents d).number + 2 + 2) o w)
    anew None all = were
    anew (Some demand) all = wanted_demands p w d ((seen.agents d).number + 2 + 2) demand were (all demand refl)
asks_demands p own seen d (Resume stored) w free were = absurd free

-- ---- the numbers of devices over a step

-- a device whose process runs has the number that is stored, which is even
pub record FineOf (up : Bool) (agent kept : ℕ) : Type 0 where
  -- while a process runs, its number is the stored one
  pub same : up ≡ true → agent ≡ kept
  pub half : ℕ
  -- the stored number is even
  pub even : kept ≡ half + half

abbrev pub number_now : World → ℕ → ℕ
number_now world d = (world.agent_kept d).number

abbrev pub FineAt : World → ℕ → Type 0
FineAt world d = FineOf (world.up d) (world.seen.agents d).number (world.agent_kept d).number

pub record StepAt (world new : World) (d : ℕ) : Type 0 where
  -- the device is still as it should be
  pub fine : FineAt new d
  pub rises : number_now world d ≤ number_now new d

quiet_step : (world new : World) (d : ℕ) → new.up d ≡ world.up d → (new.seen.agents d).number ≡ (world.seen.agents d).number →
    number_now new d ≡ number_now world d → FineAt world d → StepAt world new d
quiet_step world new d e1 e2 e3 fine = record {
  fine = record { same = λ e. e2 ∙ fine.same (sym e1 ∙ e) ∙ sym e3; half = fine.half; even = e3 ∙ fine.even };
  rises = omega (arith, e3);
}

abbrev pub bound_relay : System → ℕ → RelayFrame → ℕ
bound_relay seen c (relay_frame.Expire sender) = relay_number seen c sender
bound_relay seen c frame = 0

abbrev pub bound_root : System → RootFrame → ℕ
bound_root seen (root_frame.Expire sender) = root_number seen sender
bound_root seen frame = 0

abbrev pub bound_of : World → LifeStep → ℕ
bound_of world (RelayUp c i) = 0
bound_of world (Relay c frame n) = bound_relay world.seen c frame
bound_of world RootUp = 0
bound_of world (Root frame n) = bound_root world.seen frame
bound_of world (DeviceUp d n) = 0
bound_of world (Device d frame n) = (world.seen.agents d).number + 4

abbrev pub asks_of : World → LifeStep → Wanted → Wanted
asks_of world (RelayUp c i) w = w
asks_of world (Relay c frame n) w = w
asks_of world RootUp w = w
asks_of world (Root frame n) w = w
asks_of world (DeviceUp d n) w = w
asks_of world (Device d frame n) w = asks_device (world.seen.agents d) d frame w

-- the number under which a parent lets a child go is odd
pub is_odd : (known : ℕ) → (k : ℕ) × (parents_number known ≡ k + k + 1)
is_odd known =
    let parts : known / 2 * 2 + known % 2 ≡ known = Rattle.std.proofs.lemmas.Nat.div-add-mod' known 2 in
    let small : known % 2 < 2 = Rattle.std.proofs.lemmas.Nat.mod_below known 2 (omega arith) in
    either (λ (n : ℕ). (k : ℕ) × (n ≡ k + k + 1)) (eqb (known % 2) 0) (known + 1) known
    (λ e. (known / 2, omega (arith, parts, Rattle.std.proofs.lemmas.Bool.eqb-true (known % 2) 0 e)))
    (λ e. (known / 2, omega (arith, parts, small, λ (none : known % 2 ≡ 0). both_ways (eqb (known % 2) 0) e (eq-eqb (known % 2) 0 none))))

module _ (tree : Lists) (p : Pricing) (numbering : Numbering) (market : IsTreeMarket tree p numbering) where
  abbrev pub AllFine : World → Type 0
  AllFine world = (d : ℕ) → IsLeaf tree d → FineAt world d

  no_root : (d : ℕ) → IsLeaf tree d → d ≡ 0 → ⊥
  no_root d leaf e = omega (arith, e, (leaf_node tree market.law d leaf).0)

  -- the number that a device has after a frame is stored
  pub device_now : (world new : World) (d : ℕ) (frame : DeviceFrame) (n : ℕ) → AllFine world →
      (did : Rattle.pm_lives.specs.Free.DeviceReadsFree tree p numbering world d frame n new) →
      number_now new d ≡ (agent_after (world.seen.agents d) frame).number
  device_now world new d frame n fine did =
      ap (λ (w : World). number_now w d) did.new_is
      ∙ ap (λ (k : StoredAgent). k.number) (updated_same world.agent_kept d
      (stored_last (world.agent_kept d) (take n (device_outs p.steps world.basis (world.seen.agents d) frame))))
      ∙ answer_keeps p world.basis world.seen d (world.seen.agents d) frame (world.agent_kept d) n did.may (sym ((fine d did.leaf).same did.runs)) did.handled

  -- a step leaves each device as it should be, and its number does not fall
  pub step_at : (world new : World) (step : LifeStep) → LivesFree1 tree p numbering world step new → AllFine world → (d : ℕ) →
      IsLeaf tree d → StepAt world new d
  step_at world new (RelayUp c i) did fine d leaf =
      let base : System = Rattle.pm_system.specs.System.with_relay world.seen c did.after.relay in
      quiet_step world new d
      (ap (λ (w : World). w.up d) did.new_is ∙ updated_other world.up c true d (Rattle.pm_system.proofs.Moving.relay_no_leaf tree c d did.conc leaf))
      (ap (λ (w : World). (w.seen.agents d).number) did.new_is ∙ ap (λ f. (f d).number) (handed_values tree numbering c (take i did.outs) base).2)
      (ap (λ (w : World). number_now w d) did.new_is) (fine d leaf)
  step_at world new (Relay c frame n) did fine d leaf =
      let base : System = Rattle.pm_system.specs.System.with_relay world.seen c did.after.relay in
      quiet_step world new d (ap (λ (w : World). w.up d) did.new_is)
      (ap (λ (w : World). (w.seen.agents d).number) did.new_is ∙ ap (λ f. (f d).number) (handed_values tree numbering c (take n did.outs) base).2)
      (ap (λ (w : World). number_now w d) did.new_is) (fine d leaf)
  step_at world new RootUp did fine d leaf =
      quiet_step world new d (ap (λ (w : World). w.up d) did.new_is ∙ updated_other world.up 0 true d (no_root d leaf))
      (ap (λ (w : World). (w.seen.agents d).number) did.new_is) (ap (λ (w : World). number_now w d) did.new_is) (fine d leaf)
  step_at world new (Root frame n) did fine d leaf =
      let base : System = Rattle.pm_system.specs.System.with_root world.seen did.after in
      quiet_step world new d (ap (λ (w : World). w.up d) did.new_is)
      (ap (λ (w : World). (w.seen.agents d).number) did.new_is ∙ ap (λ f. (f d).number) (handed_values tree numbering 0 (take n did.outs) base).2)
      (ap (λ (w : World). number_now w d) did.new_is) (fine d leaf)
  step_at world new (DeviceUp e n) did fine d leaf =
      let k : StoredAgent = world.agent_kept e in
      let agent : DeviceAgent = agent_stored k.number k.newest k.index in
      let base : System = with_agent world.seen e agent in
      let values = handed_values tree numbering e (take n (restart_outs p k)) base in
      let kept : (z : ℕ) → number_now new z ≡ number_now world z = λ z. ap (λ (w : World). number_now w z) did.new_is in
      elim (cases_eq d e) [
        | inl here ↦ subst (λ (z : ℕ). StepAt world new z) (sym here) (record {
          fine = record {
            same = λ up. ap (λ (w : World). (w.seen.agents e).number) did.new_is ∙ ap (λ f. (f e).number) values.2
                ∙ ap (λ (a : DeviceAgent). a.number) (updated_same world.seen.agents e agent) ∙ sym (kept e);
            half = (fine e did.leaf).half;
            even = kept e ∙ (fine e did.leaf).even;
          };
          rises = omega (arith, kept e);
        })
        | inr ne ↦ quiet_step world new d (ap (λ (w : World). w.up d) did.new_is ∙ updated_other world.up e true d ne)
            (ap (λ (w : World). (w.seen.agents d).number) did.new_is ∙ ap (λ f. (f d).number) values.2
            ∙ ap (λ (a : DeviceAgent). a.number) (updated_other world.seen.agents e agent d ne)) (kept d) (fine d leaf)
      ]
  step_at world new (Device e frame n) did fine d leaf =
      let a : DeviceAgent = world.seen.agents e in
      let agent : DeviceAgent = agent_after a frame in
      let base : System = with_agent world.seen e agent in
      let outs : List (Output StoredAgent) = device_outs p.steps world.basis a frame in
      let values = handed_values tree numbering e (take n outs) base in
      elim (cases_eq d e) [
        | inl here ↦
            let now = device_now world new e frame n fine did in
            let was = fine e did.leaf in
            let on = goes p world.basis world.seen e a frame did.may in
            subst (λ (z : ℕ). StepAt world new z) (sym here) (record {
              fine = record {
                same = λ up. ap (λ (w : World). (w.seen.agents e).number) did.new_is ∙ ap (λ f. (f e).number) values.2
                    ∙ ap (λ (b : DeviceAgent). b.number) (updated_same world.seen.agents e agent) ∙ sym now;
                half = was.half + on.by;
                even = omega (arith, now, on.is, was.even, was.same did.runs);
              };
              rises = omega (arith, now, on.is, was.same did.runs);
            })
        | inr ne ↦ quiet_step world new d (ap (λ (w : World). w.up d) did.new_is)
            (ap (λ (w : World). (w.seen.agents d).number) did.new_is ∙ ap (λ f. (f d).number) values.2
            ∙ ap (λ (b : DeviceAgent). b.number) (updated_other world.seen.agents e agent d ne))
            (ap (λ (w : World). number_now w d) did.new_is
            ∙ ap (λ (k : StoredAgent). k.number) (updated_other world.agent_kept e (stored_last (world.agent_kept e) (take n outs)) d ne))
            (fine d leaf)
      ]

  -- so it leaves all devices
  pub all_fine : (world new : World) (step : LifeStep) → LivesFree1 tree p numbering world step new → AllFine world → AllFine new
  all_fine world new step did fine d leaf = (step_at world new step did fine d leaf).fine

  -- ---- all that is wanted

  abbrev pub built : (steps : List LifeStep) (world new : World) → LiveFree tree p numbering world steps new → Wanted
  built [] world new live = record { member = λ d n. false; offer = λ d n. zeros p.steps }
  built (step ∷ steps) world new live = asks_of world step (built steps live.0 new live.2)

  abbrev pub bound : (steps : List LifeStep) (world new : World) → LiveFree tree p numbering world steps new → ℕ
  bound [] world new live = 0
  bound (step ∷ steps) world new live = bound_of world step + bound steps live.0 new live.2

  -- a step asks nothing outside the numbers that it gives
  pub step_outside : (world new : World) (step : LifeStep) → LivesFree1 tree p numbering world step new → AllFine world →
      (w : Wanted) (d n : ℕ) → IsLeaf tree d →
      Outside (number_now world d) (number_now new d) n → SameAt (asks_of world step w) w d n
  step_outside world new (RelayUp c i) did fine w d n leaf out = same_self w d n
  step_outside world new (Relay c frame k) did fine w d n leaf out = same_self w d n
  step_outside world new RootUp did fine w d n leaf out = same_self w d n
  step_outside world new (Root frame k) did fine w d n leaf out = same_self w d n
  step_outside world new (DeviceUp e k) did fine w d n leaf out = same_self w d n
  step_outside world new (Device e frame k) did fine w d n leaf out =
      asks_outside (world.seen.agents e) e frame w d n (λ here.
      let now = device_now world new e frame k fine did in
      let was = (fine e did.leaf).same did.runs in
      let at = subst (λ (z : ℕ). Outside (number_now world z) (number_now new z) n) here out in
      elim at [
        | inl low ↦ inl (omega (arith, low, was))
        | inr high ↦ inr (omega (arith, high, now))
      ])

  -- nothing is wanted up to the number that is stored
  pub built_low : (steps : List LifeStep) (world new : World) (live : LiveFree tree p numbering world steps new) → AllFine world →
      (d n : ℕ) → IsLeaf tree d →
      n ≤ number_now world d → (built steps world new live).member d n ≡ false
  built_low [] world new live fine d n leaf low = refl
  built_low (step ∷ steps) world new live fine d n leaf low =
      let at = step_at world live.0 step live.1 fine d leaf in
      (step_outside world live.0 step live.1 fine (built steps live.0 new live.2) d n leaf (inl low)).0
      ∙ built_low steps live.0 new live.2 (all_fine world live.0 step live.1 fine) d n leaf (omega (arith, low, at.rises))

  step_odd : (world new : World) (step : LifeStep) → LivesFree1 tree p numbering world step new → AllFine world → (w : Wanted) (d k : ℕ) →
      (asks_of world step w).member d (k + k + 1) ≡ w.member d (k + k + 1)
  step_odd world new (RelayUp c i) did fine w d k = refl
  step_odd world new (Relay c frame i) did fine w d k = refl
  step_odd world new RootUp did fine w d k = refl
  step_odd world new (Root frame i) did fine w d k = refl
  step_odd world new (DeviceUp e i) did fine w d k = refl
  step_odd world new (Device e frame i) did fine w d k =
      let was = fine e did.leaf in
      asks_odd (world.seen.agents e) was.half (was.same did.runs ∙ was.even) e frame w d k

  -- under odd numbers no device is a member
  pub built_odd : (steps : List LifeStep) (world new : World) (live : LiveFree tree p numbering world steps new) → AllFine world → (d k : ℕ) →
      (built steps world new live).member d (k + k + 1) ≡ false
  built_odd [] world new live fine d k = refl
  built_odd (step ∷ steps) world new live fine d k =
      step_odd world live.0 step live.1 fine (built steps live.0 new live.2) d k
      ∙ built_odd steps live.0 new live.2 (all_fine world live.0 step live.1 fine) d k

  step_demands : (world new : World) (step : LifeStep) → LivesFree1 tree p numbering world step new → (w : Wanted) → AreDemands p w →
      AreDemands p (asks_of world step w)
  step_demands world new (RelayUp c i) did w were = were
  step_demands world new (Relay c frame i) did w were = were
  step_demands world new RootUp did w were = were
  step_demands world new (Root frame i) did w were = were
  step_demands world new (DeviceUp e i) did w were = were
  step_demands world new (Device e frame i) did w were = asks_demands p world.basis world.seen e frame w did.may were

  -- each offer is a demand
  pub built_demands : (steps : List LifeStep) (world new : World) (live : LiveFree tree p numbering world steps new) → IsDemand p.steps (zeros p.steps) →
      AreDemands p (built steps world new live)
  unfolding AreDemands
  built_demands [] world new live nothing = λ x n. nothing
  built_demands (step ∷ steps) world new live nothing =
      step_demands world live.0 step live.1 (built steps live.0 new live.2) (built_demands steps live.0 new live.2 nothing)
