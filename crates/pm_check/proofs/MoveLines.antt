-- The line of a move by what follows its first word.
use Rattle.std.proofs.Common.{◌≡◌, ◌≢◌, sym, ap, refl, ℕ, ◌+◌, ◌≤◌, ◌<◌, ◌^◌, List, [], ◌∷◌, ◌++◌, length, get_or}
use Rattle.std.proofs.Common.{◌∙◌, arith, Option, Some, None, true}
use Rattle.std.specs.Prelude.{decimal, codes, option_map}
use Rattle.pm_market.specs.declared.moves.Move.{Move}
use Rattle.pm_market.specs.declared.moves.Move.TheVariants.{Change, Learn, Publish, Clear, Pass, Close}
use Rattle.pm_market.specs.declared.journal.Line.{Line}
use Rattle.pm_plan.specs.Plans.{PlanData, parent, is_leaf}
use Rattle.pm_report.specs.Words.{name, text_line}
use Rattle.pm_report.specs.Trace.{IsLineOfRun, move_line, device_words}
use Rattle.pm_check.specs.MoveReading.{Reads, IsPassing, is_word}
use Rattle.pm_check.proofs.Readings.{reads_none, reads_some, first_same}

abbrev line : Move → Option (ℕ × ℕ) → Line
line what held = record { what = what; held = held }

-- the second and the third byte, which together tell the six words apart
abbrev key : List ℕ → ℕ
key bytes = get_or bytes 1 0 + get_or bytes 2 0

-- a node and a number
abbrev IsNumbered : PlanData → ℕ × ℕ → Type 0
IsNumbered plan read = (read.0 ≤ length plan.nodes) × (read.1 < 2 ^ 32)

-- the line of a node and a number
abbrev numbered : PlanData → ℕ × ℕ → List ℕ
numbered plan read = text_line (name plan read.0 ∷ decimal read.1 ∷ [])

module _ (plan : PlanData) (rest : List ℕ) (answer : Option Line) where
  -- each line of a run that begins with the word is the word, a blank and a lawful value
  abbrev HasValue : {A : Type 0} → List ℕ → (A → Type 0) → (A → List ℕ) → Type 0
  HasValue {A} word IsValue text_of = (what : Move) (held : Option (ℕ × ℕ)) → IsLineOfRun plan (line what held) →
      move_line plan (line what held) ≡ word ++ 32 ∷ rest →
      (value : A) × IsValue value × (word ++ 32 ∷ text_of value ≡ move_line plan (line what held))

  -- from the reading of what is behind a word, the reading of the line, where the lines with this word are made of what may be read
  reads_line : {A : Type 0} {IsValue : A → Type 0} {text_of : A → List ℕ} (word : List ℕ) (make : A → Line) (read : Option A) →
      is_word word ≡ true → answer ≡ option_map make read → Reads IsValue text_of rest read →
      ((value : A) → IsValue value → IsLineOfRun plan (make value)) → ((value : A) → move_line plan (make value) ≡ word ++ 32 ∷ text_of value) →
      HasValue word IsValue text_of → Reads (IsLineOfRun plan) (move_line plan) (word ++ 32 ∷ rest) answer
  reads_line word make (Some value) word_is is reads fits written has =
      reads_some _ _ _ answer (make value) is (fits value reads.told.0)
      (written value ∙ ap (λ (bytes : List ℕ). word ++ 32 ∷ bytes) reads.told.1)
  reads_line word make None word_is is reads fits written has = reads_none _ _ _ answer is (λ one lawful same.
      let value = has one.what one.held lawful same in
      reads.none refl value.0 value.1 (first_same word word _ rest word_is word_is (value.2 ∙ same)).rest)

  -- from the reading of a node and a number behind the word change, the reading of the line
  pub reads_change : (read : Option (ℕ × ℕ)) → answer ≡ option_map (λ read. line (Change read.0 read.1) None) read →
      Reads (IsNumbered plan) (numbered plan) rest read →
      Reads (IsLineOfRun plan) (move_line plan) (codes "change" ++ 32 ∷ rest) answer
  reads_change read is reads = reads_line (codes "change") (λ read. line (Change read.0 read.1) None) read refl is reads
      (λ read fits. record { of_plan = record { nodes = fits.0; step = tt }; holder = λ e. refl; number_fits = fits.1; held_fits = tt })
      (λ read. refl) go
    where
      go : HasValue (codes "change") (IsNumbered plan) (numbered plan)
      go (Change d n) held fits same = ((d, n), (fits.of_plan.nodes, fits.number_fits), refl)
      go what held fits same = let keys = ap key same in absurd (omega (arith, keys))

  -- from the reading of a parent, its child and a number behind the word learn, the reading of the line
  pub reads_learn : (read : Option (ℕ × ℕ)) → answer ≡ option_map (λ read. line (Learn read.0 read.1) None) read →
      Reads (λ read. (1 ≤ read.0) × (read.0 ≤ length plan.nodes) × (read.1 < 2 ^ 32))
      (λ read. text_line (name plan (parent plan read.0) ∷ name plan read.0 ∷ decimal read.1 ∷ [])) rest read →
      Reads (IsLineOfRun plan) (move_line plan) (codes "learn" ++ 32 ∷ rest) answer
  reads_learn read is reads = reads_line (codes "learn") (λ read. line (Learn read.0 read.1) None) read refl is reads
      (λ read fits. record { of_plan = record { nodes = (fits.0, fits.1); step = tt }; holder = λ e. refl; number_fits = fits.2; held_fits = tt })
      (λ read. refl) go
    where
      go : HasValue (codes "learn") (λ (read : ℕ × ℕ). (1 ≤ read.0) × (read.0 ≤ length plan.nodes) × (read.1 < 2 ^ 32))
          (λ read. text_line (name plan (parent plan read.0) ∷ name plan read.0 ∷ decimal read.1 ∷ []))
      go (Learn d n) held fits same = ((d, n), (fits.of_plan.nodes.0, fits.of_plan.nodes.1, fits.number_fits), refl)
      go what held fits same = let keys = ap key same in absurd (omega (arith, keys))

  -- from the reading of a node and a number behind the word publish, the reading of the line
  pub reads_publish : (read : Option (ℕ × ℕ)) → answer ≡ option_map (λ read. line (Publish read.0 read.1) None) read →
      Reads (IsNumbered plan) (numbered plan) rest read →
      Reads (IsLineOfRun plan) (move_line plan) (codes "publish" ++ 32 ∷ rest) answer
  reads_publish read is reads = reads_line (codes "publish") (λ read. line (Publish read.0 read.1) None) read refl is reads
      (λ read fits. record { of_plan = record { nodes = fits.0; step = tt }; holder = λ e. refl; number_fits = fits.1; held_fits = tt })
      (λ read. refl) go
    where
      go : HasValue (codes "publish") (IsNumbered plan) (numbered plan)
      go (Publish d n) held fits same = ((d, n), (fits.of_plan.nodes, fits.number_fits), refl)
      go what held fits same = let keys = ap key same in absurd (omega (arith, keys))

  -- from the reading of a number behind the word clear, the reading of the line
  pub reads_clear : (read : Option ℕ) → answer ≡ option_map (λ read. line (Clear read) None) read →
      Reads (λ n. n < 2 ^ 32) (λ n. text_line (decimal n ∷ [])) rest read →
      Reads (IsLineOfRun plan) (move_line plan) (codes "clear" ++ 32 ∷ rest) answer
  reads_clear read is reads = reads_line (codes "clear") (λ read. line (Clear read) None) read refl is reads
      (λ read fits. record { of_plan = record { nodes = tt; step = tt }; holder = λ e. refl; number_fits = fits; held_fits = tt })
      (λ read. refl) go
    where
      go : HasValue (codes "clear") (λ n. n < 2 ^ 32) (λ n. text_line (decimal n ∷ []))
      go (Clear n) held fits same = (n, fits.number_fits, refl)
      go what held fits same = let keys = ap key same in absurd (omega (arith, keys))

  -- from the reading of a number behind the word close, the reading of the line
  pub reads_close : (read : Option ℕ) → answer ≡ option_map (λ read. line (Close read) None) read →
      Reads (λ n. n < 2 ^ 32) (λ n. text_line (decimal n ∷ [])) rest read →
      Reads (IsLineOfRun plan) (move_line plan) (codes "close" ++ 32 ∷ rest) answer
  reads_close read is reads = reads_line (codes "close") (λ read. line (Close read) None) read refl is reads
      (λ read fits. record { of_plan = record { nodes = tt; step = tt }; holder = λ e. refl; number_fits = fits; held_fits = tt })
      (λ read. refl) go
    where
      go : HasValue (codes "close") (λ n. n < 2 ^ 32) (λ n. text_line (decimal n ∷ []))
      go (Close n) held fits same = (n, fits.number_fits, refl)
      go what held fits same = let keys = ap key same in absurd (omega (arith, keys))

  -- from the reading of a node, an index and what is held behind the word pass, the reading of the line
  pub reads_pass : (read : Option (ℕ × ℕ × Option (ℕ × ℕ))) → answer ≡ option_map (λ read. line (Pass read.0 read.1) read.2) read →
      Reads (IsPassing plan) (λ read. text_line (name plan read.0 ∷ decimal read.1 ∷ device_words (is_leaf plan read.0) plan.basis read.2)) rest read →
      Reads (IsLineOfRun plan) (move_line plan) (codes "pass" ++ 32 ∷ rest) answer
  reads_pass read is reads = reads_line (codes "pass") (λ read. line (Pass read.0 read.1) read.2) read refl is reads
      (λ read fits. record {
        of_plan = record { nodes = (fits.first, fits.last); step = fits.held.step };
        holder = fits.holder;
        number_fits = fits.index;
        held_fits = fits.held.number;
      })
      (λ read. refl) go
    where
      go : HasValue (codes "pass") (IsPassing plan)
          (λ read. text_line (name plan read.0 ∷ decimal read.1 ∷ device_words (is_leaf plan read.0) plan.basis read.2))
      go (Pass x j) held fits same = (
        (x, j, held),
        record {
          first = fits.of_plan.nodes.0;
          last = fits.of_plan.nodes.1;
          index = fits.number_fits;
          held = record { step = fits.of_plan.step; number = fits.held_fits };
          holder = fits.holder;
        },
        refl,
      )
      go what held fits same = let keys = ap key same in absurd (omega (arith, keys))

-- a line begins with one of the six words and a blank
pub no_kind : (plan : PlanData) (word rest : List ℕ) → is_word word ≡ true → word ≢ codes "change" → word ≢ codes "learn" →
    word ≢ codes "publish" →
    word ≢ codes "clear" → word ≢ codes "pass" → word ≢ codes "close" → (one : Line) → IsLineOfRun plan one →
    move_line plan one ≢ word ++ 32 ∷ rest
no_kind plan word rest is change learn publish clear pass close one fits same = go one.what one.held same
  where
    go : (what : Move) (held : Option (ℕ × ℕ)) → move_line plan (line what held) ≢ word ++ 32 ∷ rest
    go (Change d n) held same = change (sym (first_same (codes "change") word _ rest refl is same).word)
    go (Learn d n) held same = learn (sym (first_same (codes "learn") word _ rest refl is same).word)
    go (Publish d n) held same = publish (sym (first_same (codes "publish") word _ rest refl is same).word)
    go (Clear n) held same = clear (sym (first_same (codes "clear") word _ rest refl is same).word)
    go (Pass d n) held same = pass (sym (first_same (codes "pass") word _ rest refl is same).word)
    go (Close n) held same = close (sym (first_same (codes "close") word _ rest refl is same).word)

-- bytes that begin with no word and a blank are the line of no move of a run
pub no_first : (plan : PlanData) (bytes : List ℕ) → ((word rest : List ℕ) → is_word word ≡ true → bytes ≢ word ++ 32 ∷ rest) →
    (one : Line) → IsLineOfRun plan one → move_line plan one ≢ bytes
no_first plan bytes none one fits same = go one.what one.held same
  where
    go : (what : Move) (held : Option (ℕ × ℕ)) → move_line plan (line what held) ≢ bytes
    go (Change d n) held same = none (codes "change") _ refl (sym same)
    go (Learn d n) held same = none (codes "learn") _ refl (sym same)
    go (Publish d n) held same = none (codes "publish") _ refl (sym same)
    go (Clear n) held same = none (codes "clear") _ refl (sym same)
    go (Pass d n) held same = none (codes "pass") _ refl (sym same)
    go (Close n) held same = none (codes "close") _ refl (sym same)
