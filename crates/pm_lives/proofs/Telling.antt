-- Of what a device answers, each setpoint is handed out; and who was told to let a device go.
use Rattle.std.proofs.Common.{◌≡◌, ◌⊎◌, ◌∙◌, sym, ap, ℕ, zero, suc, ◌+◌, ◌-◌, ◌≤◌, ◌^◌, true, cond, ltb, eqb}
use Rattle.std.proofs.Common.{ℤ, ◌&&◌, List, [], ◌∷◌, length, take, Option, Some, None, refl, inl, inr, arith, max}
use Rattle.std.proofs.lemmas.Bool.{cond-true, eq-eqb, and_from}
use Rattle.std.specs.List.{Contains}
use Rattle.pm_market.specs.Lists.{Lists, parent}
use Rattle.pm_net.specs.Pricing.{Pricing}
use Rattle.pm_net.specs.Messages.{BidMessage, PriceMessage, price_message}
use Rattle.pm_net.specs.Agents.{Setpoint, DeviceAgent, may_offer, after_offer, after_leaving, setpoints_for, setpoints_of, kept_offer, after_price}
use Rattle.pm_net.specs.Agents as agents
use Rattle.pm_net.proofs.Messages.{either}
use Rattle.pm_net_plan.specs.Places.{Numbering}
use Rattle.pm_control.specs.Control.{after_old, newest_demand}
use Rattle.pm_basis.specs.Prices.{BasisValue}
use Rattle.pm_frames.specs.Answers.{window_full_bytes, out_of_numbers_bytes}
use Rattle.pm_frames.specs.declared.stored.StoredAgent.{StoredAgent}
use Rattle.pm_frames.specs.declared.parent.ParentFrame.TheVariants.{Price, Old}
use Rattle.pm_frames.specs.declared.device.DeviceFrame.{DeviceFrame}
use Rattle.pm_frames.specs.declared.device.DeviceFrame.TheVariants.{Hello, Offer, Kind, Leave, Parent, Resume}
use Rattle.pm_frames.specs.declared.relay.RelayFrame.{RelayFrame}
use Rattle.pm_frames.specs.declared.relay.RelayFrame.TheVariants as relay_frame
use Rattle.pm_frames.specs.declared.root.RootFrame.{RootFrame}
use Rattle.pm_frames.specs.declared.root.RootFrame.TheVariants as root_frame
use Rattle.pm_system.specs.System.{System}
use Rattle.pm_services.specs.Outputs.{Output, Up, Says}
use Rattle.pm_lives.specs.RelayLife.{RelayLets, LetsGo, relay_number}
use Rattle.pm_lives.specs.RootLife.{RootLets, root_number}
use Rattle.pm_lives.specs.DeviceLife.{told_of}
use Rattle.pm_services.specs.DeviceWrites.{numbered_bid, again_outs, made_outs, told_outs, device_outs}
use Rattle.pm_lives.specs.Lives.{HandledSome, restart_outs, let_go_by, let_go_at_relay, let_go_at_root}
use Rattle.pm_lives.proofs.Handing.{told_by}
use Rattle.pm_lives.proofs.Giving.{Known}

module _ (p : Pricing) (own : BasisValue) where
  -- no setpoint is among these
  abbrev TellsNone : List (Output StoredAgent) → Type 0
  TellsNone outs = (n : ℕ) → told_by (take n outs) ≡ []

  none_silent : TellsNone []
  none_silent zero = refl
  none_silent (suc n) = refl

  said_silent : (bytes : List ℕ) → TellsNone (Says bytes ∷ [])
  said_silent bytes zero = refl
  said_silent bytes (suc zero) = refl
  said_silent bytes (suc (suc n)) = refl

  up_silent : (bid : BidMessage) → TellsNone (Up bid ∷ [])
  up_silent bid zero = refl
  up_silent bid (suc zero) = refl
  up_silent bid (suc (suc n)) = refl

  made_silent : (after : DeviceAgent) (bid : BidMessage) → TellsNone (made_outs own after bid)
  made_silent after bid zero = refl
  made_silent after bid (suc zero) = refl
  made_silent after bid (suc (suc zero)) = refl
  made_silent after bid (suc (suc (suc n))) = refl

  again_silent : (number : ℕ) (newest : Option (List ℤ)) → TellsNone (again_outs p.steps number newest)
  again_silent number (Some demand) n = up_silent (numbered_bid p.steps number (Some demand)) n
  again_silent number None n =
      either (λ (l : List (Output StoredAgent)). told_by (take n l) ≡ []) (eqb number 0) [] (Up (numbered_bid p.steps number None) ∷ [])
      (λ e. none_silent n) (λ e. up_silent (numbered_bid p.steps number None) n)

  -- a device that comes back gives its control no setpoint
  pub restart_silent : (stored : StoredAgent) (n : ℕ) → told_by (take n (restart_outs p stored)) ≡ []
  restart_silent stored n =
      either (λ (l : List (Output StoredAgent)). told_by (take n l) ≡ []) (eqb stored.number 0) []
      (Up (Rattle.pm_system.specs.Calls.bid_kept p stored.number stored.newest) ∷ []) (λ e. none_silent n)
      (λ e. up_silent (Rattle.pm_system.specs.Calls.bid_kept p stored.number stored.newest) n)

  none_or_one : (after : DeviceAgent) (price : PriceMessage) (o : Option agents.Offer) (n : ℕ) →
      HandledSome n (told_outs own after price (setpoints_of price o)) →
      told_by (take n (told_outs own after price (setpoints_of price o))) ≡ setpoints_of price o
  none_or_one after price None n handled = said_silent (Rattle.pm_frames.specs.Answers.dropped_bytes price.number price.index) n
  none_or_one after price (Some offer) zero (inl some) = absurd (omega (arith, some))
  none_or_one after price (Some offer) zero (inr none) = absurd (omega (arith, ap (λ l. length l) none))
  none_or_one after price (Some offer) (suc zero) handled = refl
  none_or_one after price (Some offer) (suc (suc zero)) handled = refl
  none_or_one after price (Some offer) (suc (suc (suc n))) handled = refl

  price_told : (agent : DeviceAgent) (price : PriceMessage) (n : ℕ) →
      HandledSome n (told_outs own (after_price agent price) price (setpoints_for agent price)) →
      told_by (take n (told_outs own (after_price agent price) price (setpoints_for agent price))) ≡ setpoints_for agent price
  price_told agent price n =
      either (λ (l : List Setpoint). HandledSome n (told_outs own (after_price agent price) price l) →
      told_by (take n (told_outs own (after_price agent price) price l)) ≡ l)
      (ltb agent.index price.index) (setpoints_of price (kept_offer agent price.number)) []
      (λ e handled. none_or_one (after_price agent price) price (kept_offer agent price.number) n handled)
      (λ e handled. said_silent (Rattle.pm_frames.specs.Answers.dropped_bytes price.number price.index) n)

  -- what was handled of an answer has its setpoints
  pub answer_told : (agent : DeviceAgent) (frame : DeviceFrame) (n : ℕ) → HandledSome n (device_outs p.steps own agent frame) →
      told_by (take n (device_outs p.steps own agent frame)) ≡ told_of agent frame
  answer_told agent (Hello basis) n handled = none_silent n
  answer_told agent (Kind named) n handled = none_silent n
  answer_told agent (Offer form demand) n handled =
      either (λ (l : List (Output StoredAgent)). told_by (take n l) ≡ []) (may_offer agent)
      (cond (ltb (agent.number + 5) (2 ^ 32)) (made_outs own (after_offer agent demand) (numbered_bid p.steps (agent.number + 2) (Some demand)))
      (Says out_of_numbers_bytes ∷ [])) (Says window_full_bytes ∷ [])
      (λ e. either (λ (l : List (Output StoredAgent)). told_by (take n l) ≡ []) (ltb (agent.number + 5) (2 ^ 32))
      (made_outs own (after_offer agent demand) (numbered_bid p.steps (agent.number + 2) (Some demand))) (Says out_of_numbers_bytes ∷ [])
      (λ e. made_silent (after_offer agent demand) (numbered_bid p.steps (agent.number + 2) (Some demand)) n) (λ e. said_silent out_of_numbers_bytes n))
      (λ e. said_silent window_full_bytes n)
  answer_told agent Leave n handled =
      either (λ (l : List (Output StoredAgent)). told_by (take n l) ≡ []) (ltb (agent.number + 3) (2 ^ 32))
      (made_outs own (after_leaving agent) (numbered_bid p.steps (agent.number + 2) None)) (Says out_of_numbers_bytes ∷ [])
      (λ e. made_silent (after_leaving agent) (numbered_bid p.steps (agent.number + 2) None) n) (λ e. said_silent out_of_numbers_bytes n)
  answer_told agent (Parent (Price child number index step basis)) n handled = price_told agent (price_message number index step) n handled
  answer_told agent (Parent (Old child kept)) n handled =
      either (λ (l : List (Output StoredAgent)). told_by (take n l) ≡ []) (ltb agent.number (after_old agent kept).number)
      (made_outs own (after_old agent kept) (numbered_bid p.steps (after_old agent kept).number (newest_demand (after_old agent kept)))) []
      (λ e. made_silent (after_old agent kept) (numbered_bid p.steps (after_old agent kept).number (newest_demand (after_old agent kept))) n)
      (λ e. none_silent n)
  answer_told agent (Resume stored) n handled = again_silent stored.number stored.newest n

-- ---- who was let go

le_max_left : (a b : ℕ) → a ≤ max a b
le_max_left a b = Rattle.std.proofs.Math.Nat.le-max_left a b

rises_by : (lists : Lists) (numbering : Numbering) (y sender number : ℕ) (let_go : ℕ → ℕ) (d : ℕ) →
    let_go d ≤ let_go_by lists numbering y sender number let_go d
rises_by lists numbering y sender number let_go d =
    either (λ (n : ℕ). let_go d ≤ n) (eqb (parent lists d) y && eqb sender (numbering.place d + 1)) (max (let_go d) number) (let_go d)
    (λ e. le_max_left (let_go d) number) (λ e. omega arith)

lets_by : (lists : Lists) (numbering : Numbering) (y sender number : ℕ) (let_go : ℕ → ℕ) (d n : ℕ) → LetsGo lists numbering y sender number d n →
    n ≤ let_go_by lists numbering y sender number let_go d
lets_by lists numbering y sender number let_go d n lets =
    let test : (eqb (parent lists d) y && eqb sender (numbering.place d + 1)) ≡ true =
    and_from _ _ (eq-eqb (parent lists d) y lets.0) (eq-eqb sender (numbering.place d + 1) lets.1) in
    omega (
      arith,
      lets.2,
      Rattle.std.proofs.Math.Nat.le-max_right (let_go d) number,
      cond-true (eqb (parent lists d) y && eqb sender (numbering.place d + 1)) (max (let_go d) number) (let_go d) test,
    )

-- the number under which a device was let go never falls by what a relay reads
pub relay_rises : (lists : Lists) (numbering : Numbering) (seen : System) (c : ℕ) (frame : RelayFrame) (let_go : ℕ → ℕ) (d : ℕ) →
    let_go d ≤ let_go_at_relay lists numbering seen c frame let_go d
relay_rises lists numbering seen c (relay_frame.Child frame) let_go d = omega arith
relay_rises lists numbering seen c (relay_frame.Parent frame) let_go d = omega arith
relay_rises lists numbering seen c relay_frame.Send let_go d = omega arith
relay_rises lists numbering seen c (relay_frame.Expire sender) let_go d = rises_by lists numbering c sender (relay_number seen c sender) let_go d
relay_rises lists numbering seen c (relay_frame.Limits number limits) let_go d = omega arith
relay_rises lists numbering seen c (relay_frame.Bound sender bound) let_go d = omega arith
relay_rises lists numbering seen c (relay_frame.Resume stored) let_go d = omega arith

-- it is no less than the number under which a relay lets it go
pub relay_lets : (lists : Lists) (numbering : Numbering) (seen sys : System) (c : ℕ) → seen.relays c ≡ sys.relays c →
    (frame : RelayFrame) (let_go : ℕ → ℕ) (d n : ℕ) →
    RelayLets lists numbering sys c frame d n → n ≤ let_go_at_relay lists numbering seen c frame let_go d
relay_lets lists numbering seen sys c same (relay_frame.Child frame) let_go d n lets = absurd lets
relay_lets lists numbering seen sys c same (relay_frame.Parent frame) let_go d n lets = absurd lets
relay_lets lists numbering seen sys c same relay_frame.Send let_go d n lets = absurd lets
relay_lets lists numbering seen sys c same (relay_frame.Expire sender) let_go d n lets =
    lets_by lists numbering c sender (relay_number seen c sender) let_go d n (
      lets.0,
      lets.1,
      lets.2 ∙ ap
          (λ (r : Rattle.pm_relay.specs.Relays.RelayValue). Rattle.pm_relay.specs.Numbers.parents_number
          (Rattle.pm_relay.specs.Numbers.known_number r.recorded r.gathered.cache.heads (sender - 1))) (sym same),
    )
relay_lets lists numbering seen sys c same (relay_frame.Limits number limits) let_go d n lets = absurd lets
relay_lets lists numbering seen sys c same (relay_frame.Bound sender bound) let_go d n lets = absurd lets
relay_lets lists numbering seen sys c same (relay_frame.Resume stored) let_go d n lets = absurd lets

-- nor does it fall by what the auctioneer reads
pub root_rises : (lists : Lists) (numbering : Numbering) (seen : System) (frame : RootFrame) (let_go : ℕ → ℕ) (d : ℕ) →
    let_go d ≤ let_go_at_root lists numbering seen frame let_go d
root_rises lists numbering seen (root_frame.Market frame) let_go d = omega arith
root_rises lists numbering seen (root_frame.Expire sender) let_go d = rises_by lists numbering 0 sender (root_number seen sender) let_go d
root_rises lists numbering seen (root_frame.Bound sender bound) let_go d = omega arith
root_rises lists numbering seen (root_frame.Resume stored) let_go d = omega arith

-- and it is no less than the number under which the auctioneer lets it go
pub root_lets : (lists : Lists) (numbering : Numbering) (seen sys : System) → seen.root ≡ sys.root →
    (frame : RootFrame) (let_go : ℕ → ℕ) (d n : ℕ) →
    RootLets lists numbering sys frame d n → n ≤ let_go_at_root lists numbering seen frame let_go d
root_lets lists numbering seen sys same (root_frame.Market frame) let_go d n lets = absurd lets
root_lets lists numbering seen sys same (root_frame.Expire sender) let_go d n lets =
    lets_by lists numbering 0 sender (root_number seen sender) let_go d n (
      lets.0,
      lets.1,
      lets.2 ∙ ap
          (λ (r : Rattle.pm_relay.specs.Roots.RootValue). Rattle.pm_relay.specs.Numbers.parents_number
          (Rattle.pm_relay.specs.Numbers.known_number r.recorded r.auction.cache.heads (sender - 1))) (sym same),
    )
root_lets lists numbering seen sys same (root_frame.Bound sender bound) let_go d n lets = absurd lets
root_lets lists numbering seen sys same (root_frame.Resume stored) let_go d n lets = absurd lets

-- each bid in the channel of d is of a number that it gave, or of one under which it was let go
abbrev pub BidsKnown : System → (ℕ → ℕ) → ℕ → Type 0
BidsKnown sys let_go d =
    (bid : BidMessage) → Contains (sys.bids_sent d) bid → (bid.number ≤ (sys.agents d).number) ⊎ (bid.number ≤ let_go d)

-- after more calls each bid of a device is still one that it gave, or one under which it was let go
pub known_next : (Lets : ℕ → ℕ → Type 0) (sys new : System) (old later : ℕ → ℕ) (d : ℕ) → BidsKnown sys old d →
    old d ≤ later d → Known Lets d sys new →
    ((n : ℕ) → Lets d n → n ≤ later d) → BidsKnown new later d
known_next Lets sys new old later d was rises known lets bid at = elim (known.bids bid at) [
  | inl there ↦ elim (was bid there) [
    | inl own ↦ inl (omega (arith, own, known.rises))
    | inr gone ↦ inr (omega (arith, gone, rises))
  ]
  | inr (inl own) ↦ inl own
  | inr (inr let_so) ↦ inr (lets bid.number let_so)
]
