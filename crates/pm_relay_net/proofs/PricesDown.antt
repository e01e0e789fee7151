-- What a node sends down is what the network sends: by the heads of a record.
use Rattle.std.proofs.Common.{◌≡◌, ◌∙◌, sym, ap, ℕ, Bool, true, false, cond, not, eqb, ◌&&◌, List, [], ◌∷◌}
use Rattle.std.proofs.Common.{◌++◌, get_or, Some, None, refl}
use Rattle.std.proofs.lemmas.Bool.{cond-true, cond-false, and_parts, and_from, eq-eqb, ne_eqb, not_from_false, both_ways}
use Rattle.std.proofs.lemmas.Bool.{false_from_ne_true, not-true}
use Rattle.std.proofs.lemmas.List.{append-nil}
use Rattle.pm_bid.specs.Heads.{nothing_sent}
use Rattle.pm_bid.specs.declared.head.BidHead.{BidHead}
use Rattle.pm_market.specs.Lists.{Lists, parent, IsNode}
use Rattle.pm_session.specs.Prices.{price_to, head_at}
use Rattle.pm_net.specs.Messages.{BidMessage, PriceMessage, price_message}
use Rattle.pm_net.specs.Running.{sent_down}
use Rattle.pm_net_plan.specs.Places.{Numbering, IsNumbering}
use Rattle.pm_relay_net.specs.Heads.{bid_head, heads_of}
use Rattle.pm_relay_net.specs.RelayIs.{messages_of}
use Rattle.pm_relay_net.proofs.Places.{head_there}

-- the price for a bid, none where the bid is gone
abbrev pub price_for_bid : BidMessage → ℕ → ℕ → List PriceMessage
price_for_bid bid index step = cond bid.gone [] (price_message bid.number index step ∷ [])

-- what a child is sent by its head in a record
messages_for : (heads : List BidHead) (k step index : ℕ) (gone : Bool) → (head_at heads k).gone ≡ gone →
    messages_of (price_to heads step index k) ≡ cond gone [] (price_message (head_at heads k).number index step ∷ [])
messages_for heads k step index true e =
    ap messages_of (cond-true (head_at heads k).gone None (Some (record { step = step; number = (head_at heads k).number; index = index })) e)
messages_for heads k step index false e =
    ap messages_of (cond-false (head_at heads k).gone None (Some (record { step = step; number = (head_at heads k).number; index = index })) e)

-- by the heads of a record a child is sent the price for its bid there
pub price_by_heads : (lists : Lists) (numbering : Numbering) → IsNumbering lists numbering → (basis : ℕ → BidMessage) (heads : List BidHead)
    (index step y x : ℕ) → IsNode lists x → parent lists x ≡ y → heads ≡ heads_of numbering y basis →
    messages_of (price_to heads step index (numbering.place x)) ≡ price_for_bid (basis x) index step
price_by_heads lists numbering is basis heads index step y x node up heads_are =
    let k : ℕ = numbering.place x in
    let head : head_at heads k ≡ bid_head (basis x) =
    ap (λ (l : List BidHead). get_or l k nothing_sent) (heads_are ∙ ap (λ (z : ℕ). heads_of numbering z basis) (sym up))
    ∙ head_there lists numbering is basis x node in
    messages_for heads k step index (basis x).gone (ap (λ (h : BidHead). h.gone) head)
    ∙ ap (λ (n : ℕ). cond (basis x).gone [] (price_message n index step ∷ [])) (ap (λ (h : BidHead). h.number) head)

module _ (lists : Lists) (prices : ℕ → List PriceMessage) (y : ℕ) (basis : ℕ → BidMessage) (index step x : ℕ) where
  abbrev sends : Bool
  sends = eqb (parent lists x) y && not (basis x).gone

  abbrev price : PriceMessage
  price = price_message (basis x).number index step

  choice : parent lists x ≡ y → (g : Bool) → (basis x).gone ≡ g →
      cond sends (prices x ++ price ∷ []) (prices x) ≡ prices x ++ cond (basis x).gone [] (price ∷ [])
  choice up true e = cond-false sends (prices x ++ price ∷ []) (prices x) (false_from_ne_true sends (λ h.
      both_ways (basis x).gone (not-true (basis x).gone (and_parts _ _ h).1) e))
      ∙ sym (ap (λ (b : Bool). prices x ++ cond b [] (price ∷ [])) e ∙ append-nil (prices x))
  choice up false e = cond-true sends (prices x ++ price ∷ []) (prices x) (and_from _ _ (eq-eqb (parent lists x) y up) (not_from_false (basis x).gone e))
      ∙ sym (ap (λ (b : Bool). prices x ++ cond b [] (price ∷ [])) e)

  -- what a child of y was sent once y sent a price down
  pub sent_to_child : parent lists x ≡ y → sent_down lists prices y basis index step x ≡ prices x ++ price_for_bid (basis x) index step
  unfolding sent_down
  sent_to_child up = choice up (basis x).gone refl

  -- a node with another parent is sent nothing
  pub none_to_others : (parent lists x ≡ y → ⊥) → sent_down lists prices y basis index step x ≡ prices x
  unfolding sent_down
  none_to_others ne = cond-false sends (prices x ++ price ∷ []) (prices x)
      (ap (λ (b : Bool). b && not (basis x).gone) (ne_eqb (parent lists x) y ne))
