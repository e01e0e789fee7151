-- What the carriers hand out was sent, and what they store may be stored.
use Rattle.std.proofs.Common.{◌≡◌, ◌⊎◌, ◌∙◌, sym, ap, subst, ℕ, zero, suc, ◌<◌, ◌≤◌, cond, eqb, List, [], ◌∷◌}
use Rattle.std.proofs.Common.{◌++◌, length, get_or, take, refl, inl, inr, arith, append-nil, append_assoc}
use Rattle.std.proofs.lemmas.Bool.{cases_Bool, cases_eq, cond-true, cond-false, eqb-true}
use Rattle.std.specs.List.{Contains}
use Rattle.pm_market.specs.Lists.{Lists, parent, IsNode}
use Rattle.pm_laws.proofs.Facts.{updated_at}
use Rattle.pm_market.proofs.Cuts.{updated_same, updated_other}
use Rattle.pm_net.specs.Pricing.{Pricing}
use Rattle.pm_net.specs.Messages.{BidMessage, PriceMessage, nothing_heard, no_price}
use Rattle.pm_net.specs.Agents.{Setpoint}
use Rattle.pm_net.proofs.Messages.{either, each_push}
use Rattle.pm_net_plan.specs.Places.{Numbering}
use Rattle.pm_system.specs.System.{System, bid_in_channel, price_in_channel, with_bid_sent, with_prices_sent, with_setpoints}
use Rattle.pm_lives.specs.Outputs.{PriceWasSent, BidWasSent, WereSent, EachKept, BeginsWithResume}
use Rattle.pm_services.specs.Outputs.{Output, Up, Down, Keeps, Tells, Says}
use Rattle.pm_lives.specs.Moves.{OnlyMoves}
use Rattle.pm_lives.specs.Lives.{handed_out, stored_last, HandledSome, AllIn}
use Rattle.pm_lives.proofs.Staying.{price_still_sent, bid_still_sent}

-- ---- what is stored

stored_is : {K : Type 0} (Is : K → Type 0) (stored : K) (outs : List (Output K)) → Is stored → EachKept Is outs → Is (stored_last stored outs)
stored_is Is stored [] is kept = is
stored_is Is stored (Up bid ∷ outs) is kept = stored_is Is stored outs is kept.1
stored_is Is stored (Down place price ∷ outs) is kept = stored_is Is stored outs is kept.1
stored_is Is stored (Keeps newer ∷ outs) is kept = stored_is Is newer outs kept.0 kept.1
stored_is Is stored (Tells setpoint ∷ outs) is kept = stored_is Is stored outs is kept.1
stored_is Is stored (Says bytes ∷ outs) is kept = stored_is Is stored outs is kept.1

kept_first : {K : Type 0} (Is : K → Type 0) (n : ℕ) (outs : List (Output K)) → EachKept Is outs → EachKept Is (take n outs)
kept_first Is zero outs kept = tt
kept_first Is (suc n) [] kept = tt
kept_first Is (suc n) (out ∷ outs) kept = (kept.0, kept_first Is n outs kept.1)

stored_first : {K : Type 0} (Is : K → Type 0) (stored newer : K) (n : ℕ) (rest : List (Output K)) → 1 ≤ n → EachKept Is (Keeps newer ∷ rest) →
    Is (stored_last stored (take n (Keeps newer ∷ rest)))
stored_first Is stored newer zero rest some kept = absurd (omega (arith, some))
stored_first Is stored newer (suc n) rest some kept = stored_is Is newer (take n rest) kept.0 (kept_first Is n rest kept.1)

no_frame : {K : Type 0} (newer : K) (rest : List (Output K)) → Keeps newer ∷ rest ≡ [] → ⊥
no_frame newer rest e = omega (arith, ap (λ l. length l) e)

-- what is stored after the first frames of an answer may be stored
pub stored_may : {K : Type 0} (Before After : K → Type 0) (stored : K) (n : ℕ) (outs : List (Output K)) → Before stored → EachKept After outs →
    ((k : K) → Before k → After k) ⊎ BeginsWithResume outs → HandledSome n outs → After (stored_last stored (take n outs))
stored_may Before After stored n outs before kept (inl stays) handled =
    stored_is After stored (take n outs) (stays stored before) (kept_first After n outs kept)
stored_may {K = K} Before After stored n outs before kept (inr begins) handled =
    let some : 1 ≤ n = elim handled [
      | inl one ↦ one
      | inr none ↦ absurd (no_frame begins.0 begins.1 (sym begins.2 ∙ none))
    ] in
    subst (λ (l : List (Output K)). After (stored_last stored (take n l))) (sym begins.2)
    (stored_first After stored begins.0 n begins.1 some (subst (λ (l : List (Output K)). EachKept After l) begins.2 kept))

-- ---- what is handed out

pub all_in_then : (lists : Lists) (p : Pricing) (y : ℕ) (seen sys new : System) → OnlyMoves y sys new → AllIn lists p seen sys → AllIn lists p seen new
all_in_then lists p y seen sys new moves all = record {
  bids = λ x k node inside. bid_still_sent p y sys new moves x (bid_in_channel p seen x k) (all.bids x k node inside);
  prices = λ x k node inside. price_still_sent y sys new moves x (price_in_channel seen x k) (all.prices x k node inside);
  setpoints = λ d setpoint at.
      let more = moves.setpoints d in
      let there = all.setpoints d setpoint at in
      subst (λ (l : List Setpoint). Contains l setpoint) (sym more.1) (
        there.0,
        omega (arith, there.1, Rattle.std.proofs.Common.length-append (sys.setpoints d) more.0),
        Rattle.std.proofs.lemmas.List.get_or_append_left (sys.setpoints d) more.0 setpoint there.0 there.1 ∙ there.2,
      );
}

contains_push : (l : List Setpoint) (last setpoint : Setpoint) (P : Setpoint → Type 0) → ((s : Setpoint) → Contains l s → P s) → P last →
    Contains (l ++ last ∷ []) setpoint → P setpoint
contains_push l last setpoint P each one at =
    elim (Rattle.std.proofs.lemmas.Bool.cases_lt at.0 (length l)) [
      | inl inside ↦ each setpoint (at.0, inside, sym (Rattle.std.proofs.lemmas.List.get_or_append_left l (last ∷ []) setpoint at.0 inside) ∙ at.2)
      | inr beyond ↦
          let here : length l ≡ at.0 = omega (arith, beyond, at.1, Rattle.std.proofs.lemmas.List.length_push l last) in
          subst P (sym (Rattle.std.proofs.lemmas.List.get_or_push l last setpoint at.0 here) ∙ at.2) one
    ]

module _ (lists : Lists) (p : Pricing) (numbering : Numbering) (sys : System) (y : ℕ) where
  up_in : (seen : System) (bid : BidMessage) → BidWasSent p sys y bid → AllIn lists p seen sys → AllIn lists p (with_bid_sent seen y bid) sys
  up_in seen bid sent all = record {
    bids = λ x k node. elim (updated_at seen.bids_sent y (seen.bids_sent y ++ bid ∷ []) x) [
      | inl w ↦ subst (λ (l : List BidMessage). k < length l → BidWasSent p sys x (get_or l k (nothing_heard p))) (sym w.1)
          (λ inside. each_push (λ (b : BidMessage). BidWasSent p sys x b) (seen.bids_sent y) bid (nothing_heard p)
          (λ i lt. subst (λ (z : ℕ). i < length (seen.bids_sent z) → BidWasSent p sys x (get_or (seen.bids_sent z) i (nothing_heard p))) w.0
          (all.bids x i node) lt)
          (subst (λ (z : ℕ). BidWasSent p sys z bid) (sym w.0) sent) k inside)
      | inr w ↦ subst (λ (l : List BidMessage). k < length l → BidWasSent p sys x (get_or l k (nothing_heard p))) (sym w.1) (all.bids x k node)
    ];
    prices = all.prices;
    setpoints = all.setpoints;
  }

  abbrev for_place : ℕ → PriceMessage → ℕ → List PriceMessage
  for_place place price k = cond (eqb k place) (price ∷ []) []

  abbrev EachSent : ℕ → ℕ → List PriceMessage → Type 0
  EachSent x k l = k < length l → PriceWasSent sys x (get_or l k no_price)

  down_in : (seen : System) (place : ℕ) (price : PriceMessage) →
      ((x : ℕ) → IsNode lists x → parent lists x ≡ y → numbering.place x ≡ place → PriceWasSent sys x price) →
      AllIn lists p seen sys → AllIn lists p (with_prices_sent lists numbering seen y (for_place place price)) sys
  down_in seen place price sent all = record {
    bids = all.bids;
    prices = λ x k node.
        either (EachSent x k) (eqb (parent lists x) y) (seen.prices_sent x ++ for_place place price (numbering.place x)) (seen.prices_sent x)
        (λ above. either (λ (l : List PriceMessage). EachSent x k (seen.prices_sent x ++ l)) (eqb (numbering.place x) place) (price ∷ []) []
        (λ at inside. each_push (λ (q : PriceMessage). PriceWasSent sys x q) (seen.prices_sent x) price no_price (λ i lt. all.prices x i node lt)
        (sent x node (eqb-true (parent lists x) y above) (eqb-true (numbering.place x) place at)) k inside)
        (λ at. subst (EachSent x k) (sym (append-nil (seen.prices_sent x))) (all.prices x k node)))
        (λ above. all.prices x k node);
    setpoints = all.setpoints;
  }

  tells_in : (seen : System) (setpoint : Setpoint) → Contains (sys.setpoints y) setpoint → AllIn lists p seen sys →
      AllIn lists p (with_setpoints seen y (setpoint ∷ [])) sys
  tells_in seen setpoint sent all = record {
    bids = all.bids;
    prices = all.prices;
    setpoints = λ d s. elim (updated_at seen.setpoints y (seen.setpoints y ++ setpoint ∷ []) d) [
      | inl w ↦ subst (λ (l : List Setpoint). Contains l s → Contains (sys.setpoints d) s) (sym w.1)
          (contains_push (seen.setpoints y) setpoint s (λ (t : Setpoint). Contains (sys.setpoints d) t)
          (λ t at. subst (λ (z : ℕ). Contains (seen.setpoints z) t → Contains (sys.setpoints d) t) w.0 (all.setpoints d t) at)
          (subst (λ (z : ℕ). Contains (sys.setpoints z) setpoint) (sym w.0) sent))
      | inr w ↦ subst (λ (l : List Setpoint). Contains l s → Contains (sys.setpoints d) s) (sym w.1) (all.setpoints d s)
    ];
  }

module _ {K : Type 0} (lists : Lists) (p : Pricing) (numbering : Numbering) (sys : System) (y : ℕ) where
  sent_first : (n : ℕ) (outs : List (Output K)) → WereSent lists p numbering sys y outs → WereSent lists p numbering sys y (take n outs)
  sent_first zero outs sent = tt
  sent_first (suc n) [] sent = tt
  sent_first (suc n) (out ∷ outs) sent = (sent.0, sent_first n outs sent.1)

  handed_all : (outs : List (Output K)) (seen : System) → WereSent lists p numbering sys y outs → AllIn lists p seen sys →
      AllIn lists p (handed_out lists numbering seen y outs) sys
  handed_all [] seen sent all = all
  handed_all (Up bid ∷ outs) seen sent all = handed_all outs (with_bid_sent seen y bid) sent.1 (up_in lists p numbering sys y seen bid sent.0 all)
  handed_all (Down place price ∷ outs) seen sent all =
      handed_all outs (with_prices_sent lists numbering seen y (for_place lists p numbering sys y place price)) sent.1
      (down_in lists p numbering sys y seen place price sent.0 all)
  handed_all (Keeps stored ∷ outs) seen sent all = handed_all outs seen sent.1 all
  handed_all (Tells setpoint ∷ outs) seen sent all =
      handed_all outs (with_setpoints seen y (setpoint ∷ [])) sent.1 (tells_in lists p numbering sys y seen setpoint sent.0 all)
  handed_all (Says bytes ∷ outs) seen sent all = handed_all outs seen sent.1 all

  -- the first frames are handed out
  pub handed_in : (n : ℕ) (outs : List (Output K)) (seen : System) → WereSent lists p numbering sys y outs → AllIn lists p seen sys →
      AllIn lists p (handed_out lists numbering seen y (take n outs)) sys
  handed_in n outs seen sent all = handed_all (take n outs) seen (sent_first n outs sent) all

-- no value of a process is changed by that
pub handed_values : {K : Type 0} (lists : Lists) (numbering : Numbering) (y : ℕ) (outs : List (Output K)) (seen : System) →
    ((handed_out lists numbering seen y outs).relays ≡ seen.relays) × ((handed_out lists numbering seen y outs).root ≡ seen.root)
    × ((handed_out lists numbering seen y outs).agents ≡ seen.agents)
handed_values lists numbering y [] seen = (refl, refl, refl)
handed_values lists numbering y (Up bid ∷ outs) seen = handed_values lists numbering y outs (with_bid_sent seen y bid)
handed_values lists numbering y (Down place price ∷ outs) seen =
    handed_values lists numbering y outs (with_prices_sent lists numbering seen y (λ k. cond (eqb k place) (price ∷ []) []))
handed_values lists numbering y (Keeps stored ∷ outs) seen = handed_values lists numbering y outs seen
handed_values lists numbering y (Tells setpoint ∷ outs) seen = handed_values lists numbering y outs (with_setpoints seen y (setpoint ∷ []))
handed_values lists numbering y (Says bytes ∷ outs) seen = handed_values lists numbering y outs seen

-- the setpoints among these frames
abbrev pub told_by : {K : Type 0} → List (Output K) → List Setpoint
told_by [] = []
told_by (Up bid ∷ outs) = told_by outs
told_by (Down place price ∷ outs) = told_by outs
told_by (Keeps stored ∷ outs) = told_by outs
told_by (Tells setpoint ∷ outs) = setpoint ∷ told_by outs
told_by (Says bytes ∷ outs) = told_by outs

-- the control of y is given those, and nobody else any
pub handed_told : {K : Type 0} (lists : Lists) (numbering : Numbering) (y : ℕ) (outs : List (Output K)) (seen : System) →
    (handed_out lists numbering seen y outs).setpoints y ≡ seen.setpoints y ++ told_by outs
handed_told lists numbering y [] seen = sym (append-nil (seen.setpoints y))
handed_told lists numbering y (Up bid ∷ outs) seen = handed_told lists numbering y outs (with_bid_sent seen y bid)
handed_told lists numbering y (Down place price ∷ outs) seen =
    handed_told lists numbering y outs (with_prices_sent lists numbering seen y (λ k. cond (eqb k place) (price ∷ []) []))
handed_told lists numbering y (Keeps stored ∷ outs) seen = handed_told lists numbering y outs seen
handed_told lists numbering y (Tells setpoint ∷ outs) seen =
    handed_told lists numbering y outs (with_setpoints seen y (setpoint ∷ []))
    ∙ ap (λ (l : List Setpoint). l ++ told_by outs) (updated_same seen.setpoints y (seen.setpoints y ++ setpoint ∷ []))
    ∙ append_assoc (seen.setpoints y) (setpoint ∷ []) (told_by outs)
handed_told lists numbering y (Says bytes ∷ outs) seen = handed_told lists numbering y outs seen

-- what is handed out of a node's frames gives no other node a setpoint
pub handed_untold : {K : Type 0} (lists : Lists) (numbering : Numbering) (y : ℕ) (outs : List (Output K)) (seen : System) (x : ℕ) → (x ≡ y → ⊥) →
    (handed_out lists numbering seen y outs).setpoints x ≡ seen.setpoints x
handed_untold lists numbering y [] seen x ne = refl
handed_untold lists numbering y (Up bid ∷ outs) seen x ne = handed_untold lists numbering y outs (with_bid_sent seen y bid) x ne
handed_untold lists numbering y (Down place price ∷ outs) seen x ne =
    handed_untold lists numbering y outs (with_prices_sent lists numbering seen y (λ k. cond (eqb k place) (price ∷ []) [])) x ne
handed_untold lists numbering y (Keeps stored ∷ outs) seen x ne = handed_untold lists numbering y outs seen x ne
handed_untold lists numbering y (Tells setpoint ∷ outs) seen x ne =
    handed_untold lists numbering y outs (with_setpoints seen y (setpoint ∷ [])) x ne
    ∙ updated_other seen.setpoints y (seen.setpoints y ++ setpoint ∷ []) x ne
handed_untold lists numbering y (Says bytes ∷ outs) seen x ne = handed_untold lists numbering y outs seen x ne
