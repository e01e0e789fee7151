-- What an end that takes learns from what it found in the slot.
use Rattle.std.proofs.Common.{◌≡◌, ℕ, ◌<◌, List, ◌∷◌, Some, None, sym, ap, ◌∙◌, subst, arith}
use mathlib.Core.Logic.{dite}
use native.Mathlib.Decide.{dec_le}
use Rattle.std.specs.Prelude.{All}
use Rattle.std.proofs.lemmas.List.Elements.{Contains-get_or}
use Rattle.pm_session.specs.declared.price.PriceUpdate.{PriceUpdate}
use Rattle.pm_cells.specs.Numbers.{newest_number}
use Rattle.pm_cells.specs.Cells.{CellSlot, IsBidWith, IsPriceOf}
use Rattle.pm_cells.specs.Steps.{Seated, ShowsNewest}
use Rattle.pm_cells.specs.declared.view.EndView.{EndView}
use Rattle.pm_cells.specs.declared.view.CellView.{CellView}
use Rattle.pm_cells.specs.declared.message.Message.{Message}
use Rattle.pm_cells.specs.declared.message.Message.TheVariants.{Bid, Price}
use Rattle.pm_cells.specs.declared.message.UpMessage.{UpMessage}
use Rattle.pm_cells.proofs.Numbers.{above_all}
use Rattle.pm_cells.proofs.Seats.{held_first}

module _ (F : ℕ → Message → Type 0) (a : CellView) (n : ℕ) (x : CellSlot) (s : ShowsNewest F a n x) where
  -- a message in the slot has the number found, which is above the one taken last
  pub some_is_new : (m : Message) → x ≡ Some m → (newest_number a.takes < n) × F n m
  some_is_new m e = dite (dec_le n (newest_number a.takes))
      (λ old. absurd (let none = s.0.1 old in cc))
      (λ new. let y = s.0.0 (omega arith) in (omega arith, subst (F n) (let b = y.1 in cc) y.2))

  -- where the slot is empty the number found is the one taken last
  pub none_is_old : x ≡ None → n ≡ newest_number a.takes
  none_is_old e = dite (dec_le n (newest_number a.takes))
      (λ old. let l = s.2 in omega arith)
      (λ new. absurd (let y = s.0.0 (omega arith) in let b = y.1 in cc))

  all_below : newest_number a.takes < n → All (λ k. k < n) a.takes
  all_below h k d l = above_all a.takes n s.1 h _ (Contains-get_or a.takes k d l)

-- what the claim gave is what the exchange brought out
pub found_slot : (m : Seated) (v : EndView) (k : ℕ) (more others : List (ℕ × CellSlot)) (x y : CellSlot) → m ≡ (v, (k, x) ∷ more) →
    m.1 ≡ (k, y) ∷ others → x ≡ y
found_slot m v k more others x y e f = sym (ap (λ (u : Seated). held_first u.1) e) ∙ ap held_first f

-- a bid in the slot has a number above all that were taken
pub bid_above : (a : CellView) (n : ℕ) (x : CellSlot) → ShowsNewest IsBidWith a n x → (u : UpMessage) → x ≡ Some (Bid u) →
    All (λ k. k < u.number) a.takes
bid_above a n x s u e =
    let (new, (w, is, number)) = some_is_new IsBidWith a n x s (Bid u) e in
    let same : n ≡ u.number = cc in
    subst (λ j. All (λ k. k < j) a.takes) same (all_below IsBidWith a n x s new)

-- a price in the slot has an index above all that were taken
pub price_above : (bids : List ℕ) (a : CellView) (n : ℕ) (x : CellSlot) → ShowsNewest (IsPriceOf bids) a n x → (u : PriceUpdate) →
    x ≡ Some (Price u)
    → All (λ k. k < u.index) a.takes
price_above bids a n x s u e =
    let (new, (w, is, number, _)) = some_is_new (IsPriceOf bids) a n x s (Price u) e in
    let same : n ≡ u.index = cc in
    subst (λ j. All (λ k. k < j) a.takes) same (all_below (IsPriceOf bids) a n x s new)
