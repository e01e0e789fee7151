-- The first word of some bytes.
use Rattle.std.proofs.Common.{◌≡◌, ◌≢◌, ◌∙◌, sym, ap, subst, refl, ℕ, zero, suc, ◌+◌, ◌<◌, ◌≤◌, true, ◌&&◌, nat_lt, List}
use Rattle.std.proofs.Common.{[], ◌∷◌, ◌++◌, length, take, drop, get_or, arith, inl, inr}
use Rattle.std.specs.List.{list_all}
use Rattle.std.proofs.lemmas.Bool.{cases_lt, lt-ltb, ltb-true}
use Rattle.std.proofs.lemmas.List.Folds.{list_all_more}
use Rattle.pm_tree.proofs.Named.{and_true}
use Rattle.pm_report.proofs.LineWords.{same_word, SameWord}
use Rattle.pm_check.specs.MoveReading.{is_word}

-- one byte more of a word
pub word_more : (bytes : List ℕ) (at : ℕ) → at < length bytes → is_word (take at bytes) ≡ true → 32 < get_or bytes at 0 →
    is_word (take (at + 1) bytes) ≡ true
word_more bytes at inside word above =
    let here = lt-ltb 32 (get_or bytes at 0) above in
    list_all_more (nat_lt 32) bytes at 0 inside ∙ (λ i. word i && here i)

-- the byte at a place, with what stands before and behind it
parted_at : (bytes : List ℕ) (at : ℕ) → at < length bytes → bytes ≡ take at bytes ++ get_or bytes at 0 ∷ drop (suc at) bytes
parted_at [] at inside = absurd (omega arith)
parted_at (x ∷ xs) zero inside = refl
parted_at (x ∷ xs) (suc at) inside = ap (λ rest. x ∷ rest) (parted_at xs at (omega arith))

-- some bytes are those before a place, the byte there and those behind it
pub parted : (bytes : List ℕ) (at : ℕ) → at < length bytes → bytes ≡ take at bytes ++ get_or bytes at 0 ∷ drop (at + 1) bytes
parted bytes at inside =
    let next : suc at ≡ at + 1 = omega arith in
    parted_at bytes at inside ∙ ap (λ (n : ℕ). take at bytes ++ get_or bytes at 0 ∷ drop n bytes) next

-- bytes with this mark at a place are those before it, the mark and those behind it
pub parted_by : (bytes : List ℕ) (at mark : ℕ) → at < length bytes → get_or bytes at 0 ≡ mark →
    bytes ≡ take at bytes ++ mark ∷ drop (at + 1) bytes
parted_by bytes at mark inside is = parted bytes at inside ∙ ap (λ (m : ℕ). take at bytes ++ m ∷ drop (at + 1) bytes) is

-- a word with a mark behind it is no word
no_word : (word : List ℕ) (mark : ℕ) (rest : List ℕ) → mark ≤ 32 → is_word (word ++ mark ∷ rest) ≡ true → ⊥
no_word [] mark rest low is = let high = ltb-true 32 mark (and_true (nat_lt 32 mark) (list_all (nat_lt 32) rest) is).0 in absurd (omega arith)
no_word (x ∷ word) mark rest low is = no_word word mark rest low (and_true (nat_lt 32 x) (list_all (nat_lt 32) (word ++ mark ∷ rest)) is).1

-- so many bytes or more are all
pub take_all : (xs : List ℕ) (n : ℕ) → length xs ≤ n → take n xs ≡ xs
take_all [] zero le = refl
take_all [] (suc n) le = refl
take_all (x ∷ xs) zero le = absurd (omega arith)
take_all (x ∷ xs) (suc n) le = ap (λ rest. x ∷ rest) (take_all xs n (omega arith))

-- where the first word ends
pub record EndsAt (bytes : List ℕ) (end : ℕ) : Type 0 where
  -- the end is not beyond the bytes
  pub within : end ≤ length bytes
  -- the bytes before the end are a word
  pub word : is_word (take end bytes) ≡ true
  -- the byte at the end, where there is one, is a blank or below it
  pub low : end < length bytes → get_or bytes end 0 ≤ 32

-- a word with a mark behind it is the first word
pub first_word : (bytes : List ℕ) (end : ℕ) → EndsAt bytes end → (word : List ℕ) (mark : ℕ) (rest : List ℕ) → mark ≤ 32 →
    is_word word ≡ true → bytes ≡ word ++ mark ∷ rest →
    (end < length bytes) × SameWord (take end bytes) word (get_or bytes end 0) mark (drop (end + 1) bytes) rest
first_word bytes end ends word mark rest low is same =
    elim (cases_lt end (length bytes)) [
      | inl inside ↦ (
        inside,
        same_word (take end bytes) word (get_or bytes end 0) mark (drop (end + 1) bytes) rest ends.word is
            (ends.low inside) low (sym (parted bytes end inside) ∙ same),
      )
      | inr past ↦
          let all : take end bytes ≡ bytes = take_all bytes end past in
          absurd (no_word word mark rest low (subst (λ l. is_word l ≡ true) (all ∙ same) ends.word))
    ]

-- bytes without a blank at the end of their first word are no word with a blank behind it
pub no_blank : (bytes : List ℕ) (end : ℕ) → EndsAt bytes end → (end < length bytes → get_or bytes end 0 ≢ 32) →
    (word rest : List ℕ) → is_word word ≡ true → bytes ≢ word ++ 32 ∷ rest
no_blank bytes end ends other word rest is same =
    let first = first_word bytes end ends word 32 rest (omega arith) is same in
    other first.0 first.1.mark
