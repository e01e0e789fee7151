-- A line tells its words.
use Rattle.std.proofs.Common.{◌≡◌, ◌∙◌, sym, ap, refl, ℕ, suc, ◌%◌, ◌+◌, ◌<◌, ◌≤◌, ◌^◌, true, ◌&&◌, nat_lt, List, []}
use Rattle.std.proofs.Common.{◌∷◌, ◌++◌, append_assoc, arith, ℤ, pos, negsuc}
use Rattle.std.specs.Fmt.{decimal, signed_decimal}
use Rattle.std.specs.List.{list_all}
use Rattle.std.proofs.lemmas.Bool.{ltb-true, lt-ltb}
use Rattle.std.proofs.lemmas.Fmt.{decimal_by_steps}
use Rattle.std.proofs.lemmas.Int.{ints}
use Rattle.std.proofs.lemmas.List.Folds.{list_all-append}
use Rattle.pm_tree.proofs.Named.{and_true}
use Rattle.pm_report.specs.Words.{text_line}
use lib.Signed.{mag}

-- a word has neither blanks nor line feeds: each of its bytes is above the blank
abbrev pub IsWord : List ℕ → Type 0
IsWord word = list_all (nat_lt 32) word ≡ true

-- at least one word
abbrev pub AreWords : List (List ℕ) → Type 0
AreWords [] = ⊥
AreWords (word ∷ []) = IsWord word
AreWords (word ∷ next ∷ more) = IsWord word × AreWords (next ∷ more)

-- bytes that begin with a word and a mark behind it
pub record SameWord (v w : List ℕ) (c d : ℕ) (r s : List ℕ) : Type 0 where
  -- the words are the same
  pub word : v ≡ w
  -- the marks behind the words are the same
  pub mark : c ≡ d
  -- the bytes behind the marks are the same
  pub rest : r ≡ s

above : (x : ℕ) (word : List ℕ) → IsWord (x ∷ word) → 32 < x
above x word is = ltb-true 32 x (and_true (nat_lt 32 x) (list_all (nat_lt 32) word) is).0

later : (x : ℕ) (word : List ℕ) → IsWord (x ∷ word) → IsWord word
later x word is = (and_true (nat_lt 32 x) (list_all (nat_lt 32) word) is).1

same_first : (x y : ℕ) (v w : List ℕ) → x ∷ v ≡ y ∷ w → x ≡ y
same_first x y v w same = cc

same_later : (x y : ℕ) (v w : List ℕ) → x ∷ v ≡ y ∷ w → v ≡ w
same_later x y v w same = cc

-- bytes that begin with a word and a mark up to the blank do so with one word, one mark and one rest
pub same_word : (v w : List ℕ) (c d : ℕ) (r s : List ℕ) → IsWord v → IsWord w → c ≤ 32 → d ≤ 32 → v ++ c ∷ r ≡ w ++ d ∷ s →
    SameWord v w c d r s
same_word [] [] c d r s v_is w_is c_low d_low same = record { word = refl; mark = same_first c d r s same; rest = same_later c d r s same }
same_word [] (y ∷ w) c d r s v_is w_is c_low d_low same =
    let high = above y w w_is in
    let equal = same_first c y r (w ++ d ∷ s) same in
    absurd (omega arith)
same_word (x ∷ v) [] c d r s v_is w_is c_low d_low same =
    let high = above x v v_is in
    let equal = same_first x d (v ++ c ∷ r) s same in
    absurd (omega arith)
same_word (x ∷ v) (y ∷ w) c d r s v_is w_is c_low d_low same =
    let equal = same_first x y (v ++ c ∷ r) (w ++ d ∷ s) same in
    let rest = same_word v w c d r s (later x v v_is) (later y w w_is) c_low d_low (same_later x y (v ++ c ∷ r) (w ++ d ∷ s) same) in
    record { word = (λ i. equal i ∷ rest.word i); mark = rest.mark; rest = rest.rest }

-- bytes that begin with the line of some words
pub record SameLine (us ws : List (List ℕ)) (r s : List ℕ) : Type 0 where
  -- the words of the two lines are the same
  pub words : us ≡ ws
  -- the bytes behind the two lines are the same
  pub rest : r ≡ s

-- bytes that begin with the line of some words do so with one list of words and one rest
pub same_line : (us ws : List (List ℕ)) (r s : List ℕ) → AreWords us → AreWords ws → text_line us ++ r ≡ text_line ws ++ s → SameLine us ws r s
same_line [] ws r s us_are ws_are same = absurd us_are
same_line (u ∷ us) [] r s us_are ws_are same = absurd ws_are
same_line (u ∷ []) (w ∷ []) r s us_are ws_are same =
    let first = same_word u w 10 10 r s us_are ws_are (omega arith) (omega arith) (sym (append_assoc u (10 ∷ []) r) ∙ same
    ∙ append_assoc w (10 ∷ []) s) in
    record { words = ap (λ x. x ∷ []) first.word; rest = first.rest }
same_line (u ∷ []) (w ∷ z ∷ ws) r s us_are ws_are same =
    let first = same_word u w 10 32 r (text_line (z ∷ ws) ++ s) us_are ws_are.0 (omega arith) (omega arith)
    (sym (append_assoc u (10 ∷ []) r) ∙ same ∙ append_assoc w (32 ∷ text_line (z ∷ ws)) s) in
    let mark = first.mark in
    absurd (omega arith)
same_line (u ∷ v ∷ us) (w ∷ []) r s us_are ws_are same =
    let first = same_word u w 32 10 (text_line (v ∷ us) ++ r) s us_are.0 ws_are (omega arith) (omega arith)
    (sym (append_assoc u (32 ∷ text_line (v ∷ us)) r) ∙ same ∙ append_assoc w (10 ∷ []) s) in
    let mark = first.mark in
    absurd (omega arith)
same_line (u ∷ v ∷ us) (w ∷ z ∷ ws) r s us_are ws_are same =
    let first = same_word u w 32 32 (text_line (v ∷ us) ++ r) (text_line (z ∷ ws) ++ s) us_are.0 ws_are.0 (omega arith) (omega arith)
    (sym (append_assoc u (32 ∷ text_line (v ∷ us)) r) ∙ same ∙ append_assoc w (32 ∷ text_line (z ∷ ws)) s) in
    let more = same_line (v ∷ us) (z ∷ ws) r s us_are.1 ws_are.1 first.rest in
    let equal = first.word in
    let others = more.words in
    record { words = (λ i. equal i ∷ others i); rest = more.rest }

-- numbers are words
digit_word : (n : ℕ) → n < 10 → IsWord ((48 + n) ∷ [])
digit_word n small = ap (λ b. b && true) (lt-ltb 32 (48 + n) (omega arith))

-- the decimal text of a number of 64 bits is a word
pub decimal_word : (n : ℕ) → n < 2 ^ 64 → IsWord (decimal n)
decimal_word = decimal_by_steps (λ n text. IsWord text) digit_word
    (λ n text large front. list_all-append (nat_lt 32) text ((48 + n % 10) ∷ []) ∙ (λ i. front i && digit_word (n % 10) (omega arith) i))

-- the decimal text of a signed number whose size is below 2^63 is a word
pub signed_word : (z : ℤ) → mag z < 2 ^ 63 → IsWord (signed_decimal z)
signed_word (pos n) small = decimal_word n (omega (arith, ints))
signed_word (negsuc n) small = decimal_word (suc n) (omega (arith, ints))
