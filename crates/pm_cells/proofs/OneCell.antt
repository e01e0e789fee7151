-- Each step on a cell keeps what the rule says of it.
use Rattle.std.proofs.Common.{◌≡◌, ℕ, ◌+◌, ◌*◌, ◌/◌, ◌%◌, ◌<◌, ◌≤◌, List, [], ◌∷◌, ◌++◌, Some, None, bit_or, refl}
use Rattle.std.proofs.Common.{sym, ◌∙◌, subst, arith}
use Rattle.std.specs.Prelude.{Contains}
use mathlib.Core.Logic.{dite}
use mathlib.Core.Option as opt
use native.Mathlib.Decide.{dec_le}
use Rattle.std.proofs.lemmas.List.Elements.{Contains-append_left, Contains-push}
use Rattle.pm_cells.specs.Numbers.{newest_number, AllAmong}
use Rattle.pm_cells.specs.Cells.{CellSlot, IsCell, HoldsNewest, IsPriceOf, WasPut, messages_in, fresh_cell}
use Rattle.pm_cells.specs.Steps.{with_claim_to_put, with_claim_to_take, after_loss, after_put, after_take, after_empty_take}
use Rattle.pm_cells.specs.declared.view.CellView.{CellView}
use Rattle.pm_cells.specs.declared.message.Message.{Message}
use Rattle.pm_cells.proofs.Numbers.{last_above-push, RiseAbove-push, contains_newest, newest_at_most}
use Rattle.pm_cells.proofs.Numbers.{AllAmong-none, AllAmong-one, AllAmong-append, AllAmong-more}
use Rattle.pm_cells.proofs.Words.{bit_or-even, bit_or-odd}

-- a cell on which no step was made
pub empty_cell : (F : ℕ → Message → Type 0) → IsCell F 0 (opt.some None) fresh_cell fresh_cell
empty_cell F = record {
  word_is = omega arith;
  one_holds = omega arith;
  at_home = λ z. (None, refl, ((λ l. absurd (omega arith)), λ l. refl));
  found_is = λ z. absurd (omega arith);
  puts_rise = tt;
  takes_rise = tt;
  takes_were_put = λ n h. h;
  in_hand_was_put = λ n h. h;
  received_were_put = λ n h. h;
}

module _ (F : ℕ → Message → Type 0) (sent : List Message) (n t : ℕ) where
  -- a slot that holds the newest of what was put holds the newest
  pub holds_newest : (x : CellSlot) → HoldsNewest (WasPut F sent) n t x → HoldsNewest F n t x
  holds_newest x h = ((λ l. let y = h.0 l in (y.0, y.1, y.2.0)), h.1)

  -- and what is in it was put
  pub slot_was_put : (x : CellSlot) → HoldsNewest (WasPut F sent) n t x → AllAmong (messages_in x) sent
  slot_was_put None h = AllAmong-none sent
  slot_was_put (Some m) h = dite (dec_le n t)
      (λ old. absurd (let bad = h.1 old in cc))
      (λ new.
      let y = h.0 (omega arith) in
      let same : y.0 ≡ m = let e = y.1 in cc in
      AllAmong-one m sent (subst (Contains sent) same y.2.1))

module _ (F : ℕ → Message → Type 0) (w : ℕ) (h : opt.Option CellSlot) (put take : CellView) (c : IsCell F w h put take) where
  none_holds : w % 2 ≡ 0 → put.holds + take.holds ≡ 0
  none_holds even = let a = c.word_is in let b = c.one_holds in omega arith

  -- the number of a word that is free
  pub number_is : w % 2 ≡ 0 → newest_number put.puts ≡ w / 2
  number_is even = let a = c.word_is in let b = none_holds even in omega arith

  -- what was taken last is at most what was put last
  pub taken_at_most : newest_number take.takes ≤ newest_number put.puts
  taken_at_most = newest_at_most take.takes put.puts c.puts_rise c.takes_were_put

  -- a claim of a free slot, to put
  pub claimed_to_put : w % 2 ≡ 0 → IsCell F (bit_or w 1) opt.none (with_claim_to_put put) take
  claimed_to_put even = let a = c.word_is in let b = none_holds even in let o = bit_or-even w even in record {
    word_is = omega arith;
    one_holds = omega arith;
    at_home = λ z. absurd (omega arith);
    found_is = λ z. absurd (omega arith);
    puts_rise = c.puts_rise;
    takes_rise = c.takes_rise;
    takes_were_put = c.takes_were_put;
    in_hand_was_put = c.in_hand_was_put;
    received_were_put = c.received_were_put;
  }

  -- a claim of a free slot in which this is, to take
  pub claimed_to_take : (x : CellSlot) → AllAmong (messages_in x) put.sent → w % 2 ≡ 0
      → IsCell F (bit_or w 1) opt.none put (with_claim_to_take take (w / 2) x)
  claimed_to_take x was_put even = let a = c.word_is in let b = none_holds even in let o = bit_or-even w even in record {
    word_is = omega arith;
    one_holds = omega arith;
    at_home = λ z. absurd (omega arith);
    found_is = λ z. sym (number_is even);
    puts_rise = c.puts_rise;
    takes_rise = c.takes_rise;
    takes_were_put = c.takes_were_put;
    in_hand_was_put = was_put;
    received_were_put = c.received_were_put;
  }

  -- a claim of the putting end that is lost
  pub lost_to_put : w % 2 ≡ 1 → IsCell F (bit_or w 1) h (after_loss put) take
  lost_to_put odd = record {
    word_is = bit_or-odd w odd ∙ c.word_is;
    one_holds = c.one_holds;
    at_home = c.at_home;
    found_is = c.found_is;
    puts_rise = c.puts_rise;
    takes_rise = c.takes_rise;
    takes_were_put = c.takes_were_put;
    in_hand_was_put = c.in_hand_was_put;
    received_were_put = c.received_were_put;
  }

  -- a claim of the taking end that is lost
  pub lost_to_take : w % 2 ≡ 1 → IsCell F (bit_or w 1) h put (after_loss take)
  lost_to_take odd = record {
    word_is = bit_or-odd w odd ∙ c.word_is;
    one_holds = c.one_holds;
    at_home = c.at_home;
    found_is = c.found_is;
    puts_rise = c.puts_rise;
    takes_rise = c.takes_rise;
    takes_were_put = c.takes_were_put;
    in_hand_was_put = c.in_hand_was_put;
    received_were_put = c.received_were_put;
  }

  -- what an end finds in a free slot
  pub found_in_slot : w % 2 ≡ 0
      → (x : CellSlot) × (h ≡ opt.some x) × HoldsNewest F (w / 2) (newest_number take.takes) x × AllAmong (messages_in x) put.sent
  found_in_slot even =
      let x = c.at_home (none_holds even) in
      let t = newest_number take.takes in
      let newest = holds_newest F put.sent (newest_number put.puts) t x.0 x.2 in (
        x.0,
        x.1,
        subst (λ n. HoldsNewest F n t x.0) (number_is even) newest,
        slot_was_put F put.sent (newest_number put.puts) t x.0 x.2,
      )

  -- a release with a message under a newer number
  pub released_put : (n : ℕ) (m : Message) → put.holds ≡ 1 → newest_number put.puts < n → F n m
      → IsCell F (n * 2) (opt.some (Some m)) (after_put put n m) take
  released_put n m holds above fits =
      let b = c.one_holds in let last = last_above-push 0 put.puts n in let t = taken_at_most in record {
        word_is = omega arith;
        one_holds = omega arith;
        at_home = λ z. (
          Some m,
          refl,
          ((λ l. (m, refl, (subst (λ k. F k m) (sym last) fits, Contains-push put.sent m))), λ l. absurd (omega arith)),
        );
        found_is = λ z. absurd (omega arith);
        puts_rise = RiseAbove-push 0 put.puts n c.puts_rise above;
        takes_rise = c.takes_rise;
        takes_were_put = AllAmong-more take.takes put.puts n c.takes_were_put;
        in_hand_was_put = AllAmong-more (messages_in take.in_hand) put.sent m c.in_hand_was_put;
        received_were_put = AllAmong-more take.received put.sent m c.received_were_put;
      }

  -- a release after a take of a newer number
  pub released_taken : (k : ℕ) → take.holds ≡ 1 → k ≡ 2 * take.found → newest_number take.takes < take.found
      → IsCell F k (opt.some None) put (after_take take)
  released_taken k holds is above =
      let b = c.one_holds in let f = c.found_is holds in let last = last_above-push 0 take.takes take.found in
      let was_put = subst (Contains put.puts) (sym f) (contains_newest put.puts (omega arith)) in record {
        word_is = omega arith;
        one_holds = omega arith;
        at_home = λ z. (None, refl, ((λ l. absurd (omega arith)), λ l. refl));
        found_is = λ z. absurd (omega arith);
        puts_rise = c.puts_rise;
        takes_rise = RiseAbove-push 0 take.takes take.found c.takes_rise above;
        takes_were_put = AllAmong-append take.takes (take.found ∷ []) put.puts c.takes_were_put (AllAmong-one take.found put.puts was_put);
        in_hand_was_put = AllAmong-none put.sent;
        received_were_put = AllAmong-append take.received (messages_in take.in_hand) put.sent c.received_were_put c.in_hand_was_put;
      }

  -- a release after a take that found no newer number
  pub released_none : (k : ℕ) → take.holds ≡ 1 → k ≡ 2 * take.found → take.found ≤ newest_number take.takes
      → IsCell F k (opt.some None) put (after_empty_take take)
  released_none k holds is old = let b = c.one_holds in let f = c.found_is holds in record {
    word_is = omega arith;
    one_holds = omega arith;
    at_home = λ z. (None, refl, ((λ l. absurd (omega arith)), λ l. refl));
    found_is = λ z. absurd (omega arith);
    puts_rise = c.puts_rise;
    takes_rise = c.takes_rise;
    takes_were_put = c.takes_were_put;
    in_hand_was_put = AllAmong-none put.sent;
    received_were_put = c.received_were_put;
  }

  -- the rule of the messages may become weaker
  pub weakened : (G : ℕ → Message → Type 0) → ((n : ℕ) (m : Message) → F n m → G n m) → IsCell G w h put take
  weakened G goes = record {
    word_is = c.word_is;
    one_holds = c.one_holds;
    at_home = λ z. let x = c.at_home z in
        (x.0, x.1, ((λ l. let y = x.2.0 l in (y.0, y.1, (goes (newest_number put.puts) y.0 y.2.0, y.2.1))), x.2.1));
    found_is = c.found_is;
    puts_rise = c.puts_rise;
    takes_rise = c.takes_rise;
    takes_were_put = c.takes_were_put;
    in_hand_was_put = c.in_hand_was_put;
    received_were_put = c.received_were_put;
  }

-- a price that names one of these bids names one of more
pub IsPriceOf-more : (bids : List ℕ) (b n : ℕ) (m : Message) → IsPriceOf bids n m → IsPriceOf (bids ++ b ∷ []) n m
IsPriceOf-more bids b n m (p, e, i, among) = (p, e, i, Contains-append_left bids (b ∷ []) p.number among)
