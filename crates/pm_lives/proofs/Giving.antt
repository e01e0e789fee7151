-- Which bids calls put into the channels of devices: their own, and those under which they are let go.
use Rattle.std.proofs.Common.{◌≡◌, ◌⊎◌, ◌∙◌, sym, ap, subst, ℕ, ◌+◌, ◌≤◌, ltb, true, false, List, [], ◌∷◌}
use Rattle.std.proofs.Common.{◌++◌, length, Option, Some, None, refl, inl, inr, arith}
use Rattle.std.proofs.lemmas.Bool.{cases_lt}
use Rattle.std.proofs.lemmas.List.{get_or_append_left, get_or_push, length_push}
use Rattle.std.specs.List.{Contains}
use Rattle.pm_bid.specs.Bids.{zeros}
use Rattle.pm_market.specs.Lists.{Lists, IsLeaf}
use Rattle.pm_market.specs.State.{update}
use Rattle.pm_market.proofs.Cuts.{updated_same}
use Rattle.pm_laws.proofs.Facts.{updated_at}
use Rattle.pm_net.specs.Pricing.{Pricing}
use Rattle.pm_net.specs.Messages.{BidMessage, PriceMessage, bid_message}
use Rattle.pm_net.specs.Agents.{DeviceAgent, Offer, after_price, answered_by, kept_offer}
use Rattle.pm_net.proofs.Messages.{either}
use Rattle.pm_net_plan.specs.Places.{Numbering}
use Rattle.pm_control.specs.Control.{newest_demand}
use Rattle.pm_system.specs.System.{System, price_in_channel, with_agent, with_bid_sent, with_setpoints}
use Rattle.pm_system.specs.Calls as call
use Rattle.pm_system.specs.Calls.{NodeCall, SystemRuns, DeviceChanges, bid_kept}
use Rattle.pm_system.proofs.Frames.{kept_number}
use Rattle.pm_system.proofs.Moving.{relay_no_leaf}
use Rattle.pm_lives.specs.Moves.{IsCalm, AreCalm}

-- devices are let go only where that may be
abbrev pub GivesCall : (ℕ → ℕ → Type 0) → NodeCall → Type 0
GivesCall Lets (call.Expires d n) = Lets d n
GivesCall Lets one = Unit {0}

abbrev pub GivesOnly : (ℕ → ℕ → Type 0) → List NodeCall → Type 0
GivesOnly Lets [] = Unit {0}
GivesOnly Lets (one ∷ calls) = GivesCall Lets one × GivesOnly Lets calls

calm_call_gives : (Lets : ℕ → ℕ → Type 0) (x : ℕ) (one : NodeCall) → IsCalm Lets x one → GivesCall Lets one
calm_call_gives Lets x (call.Bids d) is = tt
calm_call_gives Lets x (call.Expires d n) is = is
calm_call_gives Lets x (call.TakesBid y k) is = tt
calm_call_gives Lets x (call.Sends c) is = tt
calm_call_gives Lets x call.Clears is = tt
calm_call_gives Lets x (call.TakesPrice y k) is = tt
calm_call_gives Lets x (call.Restarts y k) is = tt
calm_call_gives Lets x (call.StopsBidding y) is = tt
calm_call_gives Lets x (call.Resends y) is = tt
calm_call_gives Lets x call.StopsClearing is = tt
calm_call_gives Lets x (call.TellsOne z) is = tt

-- calm calls let a device go only under the numbers that they may
pub calm_gives : (Lets : ℕ → ℕ → Type 0) (x : ℕ) (calls : List NodeCall) → AreCalm Lets x calls → GivesOnly Lets calls
calm_gives Lets x [] are = tt
calm_gives Lets x (one ∷ calls) are = (calm_call_gives Lets x one are.0, calm_gives Lets x calls are.1)

contains_push : {A : Type 0} (l : List A) (last a : A) → Contains (l ++ last ∷ []) a → Contains l a ⊎ (a ≡ last)
contains_push l last a at = elim (cases_lt at.0 (length l)) [
  | inl inside ↦ inl (at.0, inside, sym (get_or_append_left l (last ∷ []) a at.0 inside) ∙ at.2)
  | inr beyond ↦
      let here : length l ≡ at.0 = omega (arith, beyond, at.1, length_push l last) in
      inr (sym at.2 ∙ get_or_push l last a at.0 here)
]

push_bids : (f : ℕ → List BidMessage) (d : ℕ) (bid : BidMessage) (x : ℕ) (b : BidMessage) → Contains (update f d (f d ++ bid ∷ []) x) b →
    Contains (f x) b ⊎ ((x ≡ d) × (b ≡ bid))
push_bids f d bid x b at = elim (updated_at f d (f d ++ bid ∷ []) x) [
  | inl w ↦ elim (contains_push (f d) bid b (subst (λ (l : List BidMessage). Contains l b) w.1 at)) [
    | inl old ↦ inl (subst (λ (z : ℕ). Contains (f z) b) (sym w.0) old)
    | inr new ↦ inr (w.0, new)
  ]
  | inr w ↦ inl (subst (λ (l : List BidMessage). Contains l b) w.1 at)
]

-- a price leaves the number
answered_number : (agent : DeviceAgent) (price : PriceMessage) (o : Option Offer) → (answered_by agent price o).number ≡ agent.number
answered_number agent price None = refl
answered_number agent price (Some offer) = refl

-- a price gives a device no number
pub price_number : (agent : DeviceAgent) (price : PriceMessage) → (after_price agent price).number ≡ agent.number
price_number agent price =
    either (λ (a : DeviceAgent). a.number ≡ agent.number) (ltb agent.index price.index) (answered_by agent price (kept_offer agent price.number)) agent
    (λ e. answered_number agent price (kept_offer agent price.number)) (λ e. refl)

-- of a device x: its number never falls, and each bid in its channel was there, is of a number that it gave, or of one under which it was let go
pub record Known (Lets : ℕ → ℕ → Type 0) (x : ℕ) (sys new : System) : Type 0 where
  -- its number never falls
  pub rises : (sys.agents x).number ≤ (new.agents x).number
  pub bids : (bid : BidMessage) → Contains (new.bids_sent x) bid →
      Contains (sys.bids_sent x) bid ⊎ ((bid.number ≤ (new.agents x).number) ⊎ Lets x bid.number)

module _ (Lets : ℕ → ℕ → Type 0) (lists : Lists) (p : Pricing) (numbering : Numbering) (x : ℕ) (leaf : IsLeaf lists x) where
  unchanged : (sys : System) → Known Lets x sys sys
  unchanged sys = record { rises = omega arith; bids = λ bid at. inl at }

  -- a bid of another node
  others : (sys : System) (c : ℕ) (bid : BidMessage) → (x ≡ c → ⊥) → Known Lets x sys (with_bid_sent sys c bid)
  others sys c bid ne = record {
    rises = omega arith;
    bids = λ b at. elim (push_bids sys.bids_sent c bid x b at) [
      | inl old ↦ inl old
      | inr new ↦ absurd (ne new.0)
    ];
  }

  -- an agent whose number did not fall
  agent_known : (sys : System) (d : ℕ) (agent : DeviceAgent) → (sys.agents d).number ≤ agent.number → Known Lets x sys (with_agent sys d agent)
  agent_known sys d agent rises = record {
    rises = elim (updated_at sys.agents d agent x) [
      | inl w ↦ omega (arith, rises, ap (λ (a : DeviceAgent). a.number) w.1, ap (λ (z : ℕ). (sys.agents z).number) w.0)
      | inr w ↦ omega (arith, ap (λ (a : DeviceAgent). a.number) w.1)
    ];
    bids = λ bid at. inl at;
  }

  known_then : (sys mid new : System) → Known Lets x sys mid → Known Lets x mid new → Known Lets x sys new
  known_then sys mid new first then = record {
    rises = omega (arith, first.rises, then.rises);
    bids = λ bid at. elim (then.bids bid at) [
      | inl old ↦ elim (first.bids bid old) [
        | inl older ↦ inl older
        | inr (inl le) ↦ inr (inl (omega (arith, le, then.rises)))
        | inr (inr lets) ↦ inr (inr lets)
      ]
      | inr new ↦ inr new
    ];
  }

  -- a bid of a number that its agent has
  own_known : (sys : System) (d : ℕ) (bid : BidMessage) → bid.number ≤ (sys.agents d).number → Known Lets x sys (with_bid_sent sys d bid)
  own_known sys d bid le = record {
    rises = omega arith;
    bids = λ b at. elim (push_bids sys.bids_sent d bid x b at) [
      | inl old ↦ inl old
      | inr new ↦ inr (inl (omega (arith, le, ap (λ (q : BidMessage). q.number) new.1, ap (λ (z : ℕ). (sys.agents z).number) new.0)))
    ];
  }

  change_number : (sys : System) (d : ℕ) (agent : DeviceAgent) (bid : BidMessage) → DeviceChanges lists p sys d agent bid →
      (agent.number ≡ (sys.agents d).number + 2) × (bid.number ≡ (sys.agents d).number + 2)
  change_number sys d agent bid made = elim made.change [
    | inl offers ↦ (ap (λ (a : DeviceAgent). a.number) offers.offered, ap (λ (b : BidMessage). b.number) offers.bid_is)
    | inr leaves ↦ (ap (λ (a : DeviceAgent). a.number) leaves.left, ap (λ (b : BidMessage). b.number) leaves.bid_is)
  ]

  KnownTo : System → System → Type 0
  KnownTo sys new = Known Lets x sys new

  one_call : (one : NodeCall) (sys new : System) → call.Does lists p numbering sys one new → GivesCall Lets one → Known Lets x sys new
  one_call (call.Bids d) sys new did gives =
      let numbers = change_number sys d did.agent did.bid did.made in
      let mid : System = with_agent sys d did.agent in
      subst (λ (t : System). Known Lets x sys t) (sym did.new_is)
      (known_then sys mid (with_bid_sent mid d did.bid) (agent_known sys d did.agent (omega (arith, numbers.0)))
      (own_known mid d did.bid (omega (arith, numbers.0, numbers.1, ap (λ (a : DeviceAgent). a.number) (updated_same sys.agents d did.agent)))))
  one_call (call.Expires d n) sys new did gives = subst (λ (t : System). Known Lets x sys t) (sym did.new_is) (record {
    rises = omega arith;
    bids = λ b at. elim (push_bids sys.bids_sent d (bid_message n true (zeros p.steps)) x b at) [
      | inl old ↦ inl old
      | inr new ↦ inr
          (inr (subst (λ (z : ℕ). Lets z b.number) (sym new.0) (subst (λ (k : ℕ). Lets d k) (sym (ap (λ (q : BidMessage). q.number) new.1)) gives)))
    ];
  })
  one_call (call.TakesBid y k) sys new (inl did) gives =
      subst (λ (t : System). Known Lets x sys t) (sym did.new_is) (record { rises = omega arith; bids = λ b at. inl at })
  one_call (call.TakesBid y k) sys new (inr did) gives =
      subst (λ (t : System). Known Lets x sys t) (sym did.new_is) (record { rises = omega arith; bids = λ b at. inl at })
  one_call (call.Sends c) sys new did gives =
      subst (λ (t : System). Known Lets x sys t) (sym did.new_is) (record {
        rises = omega arith;
        bids = λ b at.
            elim (push_bids sys.bids_sent c (bid_message did.number false (Rattle.pm_concentrator.specs.Concentrators.own_demand did.relay.gathered)) x b at) [
              | inl old ↦ inl old
              | inr new ↦ absurd (relay_no_leaf lists c x did.conc leaf new.0)
            ];
      })
  one_call call.Clears sys new did gives =
      subst (λ (t : System). Known Lets x sys t) (sym did.new_is) (record { rises = omega arith; bids = λ b at. inl at })
  one_call (call.TakesPrice y k) sys new (inl did) gives =
      subst (λ (t : System). Known Lets x sys t) (sym did.new_is) (record { rises = omega arith; bids = λ b at. inl at })
  one_call (call.TakesPrice d k) sys new (inr did) gives =
      let agent : DeviceAgent = after_price (sys.agents d) (price_in_channel sys d k) in
      let known = agent_known sys d agent (omega (arith, price_number (sys.agents d) (price_in_channel sys d k))) in
      subst (λ (t : System). Known Lets x sys t) (sym did.new_is) (record { rises = known.rises; bids = λ b at. inl at })
  one_call (call.Restarts y k) sys new (inl did) gives =
      subst (λ (t : System). Known Lets x sys t) (sym did.1.new_is) (record { rises = omega arith; bids = λ b at. inl at })
  one_call (call.Restarts y k) sys new (inr (inl did)) gives =
      subst (λ (t : System). Known Lets x sys t) (sym did.new_is) (record { rises = omega arith; bids = λ b at. inl at })
  one_call (call.Restarts y k) sys new (inr (inr did)) gives =
      subst (λ (t : System). Known Lets x sys t) (sym did.new_is) (agent_known sys y
      (Rattle.pm_control.specs.Control.agent_stored (sys.agents y).number (newest_demand (sys.agents y))
      (Rattle.pm_system.specs.System.price_stored sys y k (sys.agents y).answered (sys.agents y).index).index) (omega arith))
  one_call (call.StopsBidding y) sys new (inl did) gives =
      subst (λ (t : System). Known Lets x sys t) (sym did.new_is) (record { rises = omega arith; bids = λ b at. inl at })
  one_call (call.StopsBidding d) sys new (inr did) gives =
      let numbers = change_number sys d did.agent did.bid did.made in
      subst (λ (t : System). Known Lets x sys t) (sym did.new_is) (agent_known sys d did.agent (omega (arith, numbers.0)))
  one_call (call.Resends c) sys new (inl did) gives =
      subst (λ (t : System). Known Lets x sys t) (sym did.new_is) (others sys c
      (bid_message (Rattle.pm_relay.specs.Relays.newest_bid_number (sys.relays c)) false
      (Rattle.pm_concentrator.specs.Concentrators.own_demand (sys.relays c).gathered)) (relay_no_leaf lists c x did.conc leaf))
  one_call (call.Resends d) sys new (inr did) gives =
      subst (λ (t : System). Known Lets x sys t) (sym did.new_is) (own_known sys d (bid_kept p (sys.agents d).number (newest_demand (sys.agents d)))
      (omega (arith, kept_number p (sys.agents d).number (newest_demand (sys.agents d)))))
  one_call call.StopsClearing sys new did gives =
      subst (λ (t : System). Known Lets x sys t) (sym did.new_is) (record { rises = omega arith; bids = λ b at. inl at })
  one_call (call.TellsOne z) sys new did gives =
      subst (λ (t : System). Known Lets x sys t) (sym did.new_is) (record { rises = omega arith; bids = λ b at. inl at })

  -- so it is after any calls
  pub known_run : (calls : List NodeCall) (sys new : System) → SystemRuns lists p numbering sys calls new → GivesOnly Lets calls → Known Lets x sys new
  known_run [] sys new runs gives = subst (λ (t : System). Known Lets x sys t) runs (unchanged sys)
  known_run (one ∷ calls) sys new runs gives =
      known_then sys runs.0 new (one_call one sys runs.0 runs.1 gives.0) (known_run calls runs.0 new runs.2 gives.1)
