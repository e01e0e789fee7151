-- The prices that a node writes for its children were sent, each to its child.
use Rattle.std.proofs.Common.{◌≡◌, ◌∙◌, ap, ℕ, suc, ◌+◌, ◌<◌, List, [], ◌∷◌, length, get_or, Some, None}
use Rattle.std.proofs.Common.{arith}
use Rattle.std.proofs.lemmas.Bool.{cond-false}
use Rattle.pm_bid.specs.Heads.{nothing_sent}
use Rattle.pm_bid.specs.declared.head.BidHead.{BidHead}
use Rattle.pm_market.specs.Lists.{Lists, parent, IsNode}
use Rattle.pm_session.specs.Prices.{price_to}
use Rattle.pm_net.specs.Pricing.{Pricing}
use Rattle.pm_net.specs.Messages.{PriceMessage, price_message}
use Rattle.pm_net.proofs.Messages.{either}
use Rattle.pm_net_plan.specs.Places.{Numbering}
use Rattle.pm_relay_net.specs.RelayIs.{messages_of}
use Rattle.pm_system.specs.System.{System}
use Rattle.pm_lives.specs.Outputs.{PriceWasSent, WereSent, EachKept}
use Rattle.pm_services.specs.Outputs.{Output, Down}
use Rattle.pm_services.specs.Receipts.{down_of, downs}
use Rattle.pm_lives.proofs.Staying.{both_sent, both_kept}

-- each of them is what goes down to its place
module _ (K : Type 0) (lists : Lists) (p : Pricing) (numbering : Numbering) (sys : System) (c index step : ℕ) (all : List BidHead)
    (told : (x : ℕ) → IsNode lists x → parent lists x ≡ c → (price : PriceMessage) →
    messages_of (price_to all step index (numbering.place x)) ≡ price ∷ [] → PriceWasSent sys x price) where
  down_sent : (place : ℕ) (head : BidHead) → get_or all place nothing_sent ≡ head →
      WereSent {K = K} lists p numbering sys c (down_of index step place head)
  down_sent place head is =
      either (WereSent {K = K} lists p numbering sys c) head.gone [] (Down place (price_message head.number index step) ∷ [])
      (λ e. tt)
      (λ e. (
        λ x node up at. told x node up (price_message head.number index step)
            (ap (λ (k : ℕ). messages_of (price_to all step index k)) at
            ∙ ap messages_of (cond-false (get_or all place nothing_sent).gone None
            (Some (record { step = step; number = (get_or all place nothing_sent).number; index = index })) (ap (λ (h : BidHead). h.gone) is ∙ e))
            ∙ ap (λ (h : BidHead). price_message h.number index step ∷ []) is),
        tt,
      ))

  -- these prices were sent, each to its child
  pub downs_sent : (place : ℕ) (heads : List BidHead) →
      ((k : ℕ) → k < length heads → get_or all (place + k) nothing_sent ≡ get_or heads k nothing_sent) →
      WereSent {K = K} lists p numbering sys c (downs index step place heads)
  downs_sent place [] are = tt
  downs_sent place (head ∷ heads) are =
      both_sent lists p numbering sys c (down_of index step place head) (downs index step (place + 1) heads)
      (down_sent place head (ap (λ (k : ℕ). get_or all k nothing_sent) (omega arith) ∙ are 0 (omega arith)))
      (downs_sent (place + 1) heads (λ k inside. ap (λ (j : ℕ). get_or all j nothing_sent) (omega arith) ∙ are (suc k) (omega (arith, inside))))

-- there is no Resume among them
pub downs_keep_none : {K : Type 0} (Is : K → Type 0) (index step place : ℕ) (heads : List BidHead) → EachKept Is (downs index step place heads)
downs_keep_none Is index step place [] = tt
downs_keep_none {K = K} Is index step place (head ∷ heads) =
    both_kept Is (down_of index step place head) (downs index step (place + 1) heads)
    (either (λ (outs : List (Output K)). EachKept Is outs) head.gone [] (Down place (price_message head.number index step) ∷ []) (λ e. tt) (λ e. (tt, tt)))
    (downs_keep_none Is index step (place + 1) heads)
