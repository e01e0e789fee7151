-- Answers of readers, and readers one behind another.
use Rattle.std.proofs.Common.{◌≡◌, ◌≢◌, ◌∙◌, sym, ap, subst, refl, ℕ, ◌<◌, ◌^◌, true, List, [], ◌∷◌, ◌++◌, arith, Option}
use Rattle.std.proofs.Common.{Some, None}
use Rattle.std.specs.Prelude.{decimal}
use Rattle.pm_report.proofs.LineWords.{same_word, SameWord, decimal_word}
use Rattle.pm_check.specs.MoveReading.{Reads, is_word}
use Rattle.pm_basis.specs.Prices.{BasisValue}
use Rattle.pm_report.specs.Words.{text_line}
use Rattle.pm_report.specs.Trace.{held_words}

-- a reader that answers none is right where no value is written so
pub reads_none : {A B : Type 0} (IsValue : A → Type 0) (text_of : A → B) (text : B) (answer : Option A) → answer ≡ None →
    ((value : A) → IsValue value → text_of value ≢ text) → Reads IsValue text_of text answer
reads_none IsValue text_of text None is none = record { told = tt; none = λ e. none }
reads_none IsValue text_of text (Some value) is none = absurd cc

-- a reader that answers a value is right where the value is lawful and written so
pub reads_some : {A B : Type 0} (IsValue : A → Type 0) (text_of : A → B) (text : B) (answer : Option A) (value : A) → answer ≡ Some value →
    IsValue value → text_of value ≡ text → Reads IsValue text_of text answer
reads_some IsValue text_of text None value is lawful same = absurd cc
reads_some IsValue text_of text (Some other) value is lawful same =
    let here : value ≡ other = cc in
    record { told = subst (λ v. IsValue v × (text_of v ≡ text)) here (lawful, same); none = λ e. absurd cc }

-- what is read is read too by another law and another writing that say the same of each value
pub reads_as : {A B : Type 0} {IsValue IsOther : A → Type 0} {text_of other_of : A → B} (text : B) (answer : Option A) →
    ((value : A) → IsValue value → IsOther value) → ((value : A) → IsOther value → IsValue value) →
    ((value : A) → other_of value ≡ text_of value) → Reads IsValue text_of text answer → Reads IsOther other_of text answer
reads_as text None there back same reads =
    record { told = tt; none = λ e value fits written. reads.none e value (back value fits) (sym (same value) ∙ written) }
reads_as text (Some value) there back same reads =
    record { told = (there value reads.told.0, same value ∙ reads.told.1); none = λ e. absurd cc }

-- a number is a word
pub number_word : (n : ℕ) → n < 2 ^ 32 → is_word (decimal n) ≡ true
number_word n small = decimal_word n (omega arith)

-- the first of two texts with a blank behind a word
pub first_same : (v w r s : List ℕ) → is_word v ≡ true → is_word w ≡ true → v ++ 32 ∷ r ≡ w ++ 32 ∷ s → SameWord v w 32 32 r s
first_same v w r s v_is w_is same = same_word v w 32 32 r s v_is w_is (omega arith) (omega arith) same

-- the bytes are a word, a blank and what follows
abbrev pub IsSplit : List ℕ → List ℕ → List ℕ → Type 0
IsSplit text word rest = (is_word word ≡ true) × (text ≡ word ++ 32 ∷ rest)

-- each value is written as a word, a blank and what follows
pub record AreParted {A : Type 0} (IsValue : A → Type 0) (text_of word_of rest_of : A → List ℕ) : Type 0 where
  -- the word of each value is a word
  pub words : (value : A) → IsValue value → is_word (word_of value) ≡ true
  -- the word and the blank come first
  pub parts : (value : A) → text_of value ≡ word_of value ++ 32 ∷ rest_of value

module _ {A : Type 0} {IsValue : A → Type 0} {text_of word_of rest_of : A → List ℕ} (parted : AreParted IsValue text_of word_of rest_of)
    (text : List ℕ) where
  -- a reader that answers none is right where no word comes first
  pub none_split : (answer : Option A) → answer ≡ None → ((word rest : List ℕ) → is_word word ≡ true → text ≢ word ++ 32 ∷ rest) →
      Reads IsValue text_of text answer
  none_split answer is none = reads_none _ _ text answer is (λ value fits same.
      none (word_of value) (rest_of value) (parted.words value fits) (sym same ∙ parted.parts value))

  -- a reader that answers none is right where no value has both the word that comes first and what follows it
  pub none_parts : (answer : Option A) → answer ≡ None → (word rest : List ℕ) → IsSplit text word rest →
      ((value : A) → IsValue value → SameWord (word_of value) word 32 32 (rest_of value) rest → ⊥) → Reads IsValue text_of text answer
  none_parts answer is word rest split none = reads_none _ _ text answer is (λ value fits same.
      none value fits (first_same (word_of value) word (rest_of value) rest (parted.words value fits) split.0
      (sym (parted.parts value) ∙ same ∙ split.1)))

  -- a reader that answers a value is right where the value has the word that comes first and what follows it
  pub some_parts : (value : A) → IsValue value → (word rest : List ℕ) → IsSplit text word rest →
      word_of value ≡ word → rest_of value ≡ rest → Reads IsValue text_of text (Some value)
  some_parts value fits word rest split word_is rest_is = reads_some _ _ text (Some value) value refl fits
      (parted.parts value ∙ (λ i. word_is i ++ 32 ∷ rest_is i) ∙ sym split.1)

module _ {A : Type 0} {IsValue : A → Type 0} (text_of : A → List ℕ) (word first text : List ℕ) (is : is_word word ≡ true)
    (same : first ≡ word) where
  -- a reader that answers none is right where the word that comes first in each text does not come first
  pub none_behind : (answer : Option A) → answer ≡ None → (is_word first ≡ true → (rest : List ℕ) → text ≢ first ++ 32 ∷ rest) →
      Reads IsValue (λ value. word ++ 32 ∷ text_of value) text answer
  none_behind answer is_none none = reads_none _ _ text answer is_none (λ value fits written.
      none (ap is_word same ∙ is) (text_of value) (sym written ∙ ap (λ (bytes : List ℕ). bytes ++ 32 ∷ text_of value) (sym same)))

  -- what is read behind a word is read of the word and what follows it
  pub reads_behind : (rest : List ℕ) (answer : Option A) → text ≡ first ++ 32 ∷ rest → Reads IsValue text_of rest answer →
      Reads IsValue (λ value. word ++ 32 ∷ text_of value) text answer
  reads_behind rest None split reads = reads_none _ _ text None refl (λ value fits written. reads.none refl value fits
      (first_same word word (text_of value) rest is is (written ∙ split ∙ ap (λ (bytes : List ℕ). bytes ++ 32 ∷ rest) same)).rest)
  reads_behind rest (Some value) split reads = reads_some _ _ text (Some value) value refl reads.told.0
      (sym (split ∙ (λ i. same i ++ 32 ∷ sym reads.told.1 i)))

-- two words are the same where they are the same bytes with a line feed behind each
pub last_same : (v w : List ℕ) → is_word v ≡ true → is_word w ≡ true → v ++ 10 ∷ [] ≡ w ++ 10 ∷ [] → v ≡ w
last_same v w v_is w_is same = (same_word v w 10 10 [] [] v_is w_is (omega arith) (omega arith) same).word

-- what the last word of a line is
pub reads_last : (word rest : List ℕ) (answer : Option ℕ) → is_word word ≡ true → rest ≡ word ++ 10 ∷ [] →
    Reads (λ n. n < 2 ^ 32) decimal word answer →
    Reads (λ n. n < 2 ^ 32) (λ n. decimal n ++ 10 ∷ []) rest answer
reads_last word rest None is parts read = record {
  told = tt;
  none = λ e n small same. read.none e n small (last_same (decimal n) word (number_word n small) is (same ∙ parts));
}
reads_last word rest (Some n) is parts read = record {
  told = (read.told.0, ap (λ (w : List ℕ). w ++ 10 ∷ []) read.told.1 ∙ sym parts);
  none = λ e. absurd cc;
}

-- what is held stands behind a blank
pub held_line : (basis : BasisValue) (word : List ℕ) (held : Option (ℕ × ℕ)) → text_line (word ∷ held_words basis held) ≡ word
    ++ 32 ∷ text_line (held_words basis held)
held_line basis word None = refl
held_line basis word (Some held) = refl
