-- The words of a move tell the move, and what is held after it.
use Rattle.std.proofs.Common.{◌≡◌, ◌∙◌, sym, ap, refl, ℕ, ◌+◌, ◌<◌, ◌^◌, Bool, true, false, List, [], ◌∷◌, length, get_or, drop}
use Rattle.std.proofs.Common.{arith, Option, Some, None}
use Rattle.std.specs.Prelude.{IfSome}
use Rattle.std.specs.Fmt.{decimal}
use Rattle.std.proofs.lemmas.Fmt.{decimal_injective, signed_decimal_injective}
use Rattle.pm_basis.specs.Prices.{BasisValue, IsBasis, price_at}
use Rattle.pm_market.specs.declared.moves.Move.{Move}
use Rattle.pm_market.specs.declared.moves.Move.TheVariants.{Change, Learn, Publish, Clear, Pass, Close}
use Rattle.pm_market.specs.declared.journal.Line.{Line}
use Rattle.pm_plan.specs.Plans.{PlanData, is_leaf, parent}
use Rattle.pm_plan.specs.Kept.{IsPlan}
use Rattle.pm_report.specs.Trace.{held_words, device_words, move_words, IsLineOfRun}
use Rattle.pm_report.proofs.LineWords.{IsWord, AreWords, decimal_word, signed_word}
use Rattle.pm_report.proofs.Names.{node_word, same_node, parent_inside}
use Rattle.pm_report.proofs.Prices.{same_step, price_fits}

-- a word of a list of words
abbrev word_at : ℕ → List (List ℕ) → List ℕ
word_at place words = get_or words place []

-- numbers of 32 bits
number_word : (n : ℕ) → n < 2 ^ 32 → IsWord (decimal n)
number_word n small = decimal_word n (omega arith)

same_number : (m n : ℕ) → m < 2 ^ 32 → n < 2 ^ 32 → decimal m ≡ decimal n → m ≡ n
same_number m n m_small n_small same = decimal_injective m n (omega arith) (omega arith) same

-- what is held has a step of the basis and a number of 32 bits
abbrev IsHeld : BasisValue → Option (ℕ × ℕ) → Type 0
IsHeld basis held = IfSome held (λ one. one.0 < basis.steps) × IfSome held (λ one. one.1 < 2 ^ 32)

held_are_words : (basis : BasisValue) → IsBasis basis → (held : Option (ℕ × ℕ)) → IsHeld basis held → AreWords (held_words basis held)
held_are_words basis is None fits = refl
held_are_words basis is (Some held) fits =
    (refl, (signed_word (price_at basis held.0) (price_fits basis is held.0 fits.0), (refl, number_word held.1 fits.1)))

same_held : (basis : BasisValue) → IsBasis basis → (one other : Option (ℕ × ℕ)) → IsHeld basis one → IsHeld basis other →
    held_words basis one ≡ held_words basis other → one ≡ other
same_held basis is None None one_is other_is same = refl
same_held basis is None (Some other) one_is other_is same = let long = ap length same in absurd (omega (arith, long))
same_held basis is (Some one) None one_is other_is same = let long = ap length same in absurd (omega (arith, long))
same_held basis is (Some one) (Some other) one_is other_is same =
    let price = signed_decimal_injective (price_at basis one.0) (price_at basis other.0) (price_fits basis is one.0 one_is.0)
    (price_fits basis is other.0 other_is.0) (ap (word_at 1) same) in
    let step = same_step basis is one.0 other.0 price in
    let number = same_number one.1 other.1 one_is.1 other_is.1 (ap (word_at 3) same) in
    (λ i. Some (step i, number i))

-- after the number of a pass
pass_are_words : (basis : BasisValue) → IsBasis basis → (index : ℕ) → index < 2 ^ 32 → (leaf : Bool) (held : Option (ℕ × ℕ)) →
    IsHeld basis held →
    AreWords (decimal index ∷ device_words leaf basis held)
pass_are_words basis is index small false held fits = number_word index small
pass_are_words basis is index small true None fits = (number_word index small, held_are_words basis is None fits)
pass_are_words basis is index small true (Some held) fits = (number_word index small, held_are_words basis is (Some held) fits)

same_device : (basis : BasisValue) → IsBasis basis → (leaf : Bool) (one other : Option (ℕ × ℕ)) → IsHeld basis one → IsHeld basis other →
    (leaf ≡ false → one ≡ None) → (leaf ≡ false → other ≡ None) →
    device_words leaf basis one ≡ device_words leaf basis other → one ≡ other
same_device basis is false one other one_is other_is one_none other_none same = one_none refl ∙ sym (other_none refl)
same_device basis is true one other one_is other_is one_none other_none same = same_held basis is one other one_is other_is same

-- the line of a move
abbrev line : Move → Option (ℕ × ℕ) → Line
line what held = record { what = what; held = held }

module _ (plan : PlanData) (is : IsPlan plan) where
  are_words : (what : Move) (held : Option (ℕ × ℕ)) → IsLineOfRun plan (line what held) → AreWords (move_words plan what held)
  are_words (Change device number) held fits = (refl, (node_word plan is device fits.of_plan.nodes, number_word number fits.number_fits))
  are_words (Learn child number) held fits = (
    refl,
    (
      node_word plan is (parent plan child) (parent_inside plan is child fits.of_plan.nodes.1),
      (node_word plan is child fits.of_plan.nodes.1, number_word number fits.number_fits),
    ),
  )
  are_words (Publish node number) held fits = (refl, (node_word plan is node fits.of_plan.nodes, number_word number fits.number_fits))
  are_words (Clear index) held fits = (refl, number_word index fits.number_fits)
  are_words (Pass node index) held fits = (
    refl,
    (
      node_word plan is node fits.of_plan.nodes.1,
      pass_are_words plan.basis is.basis index fits.number_fits
          (is_leaf plan node) held (fits.of_plan.step, fits.held_fits),
    ),
  )
  are_words (Close phase) held fits = (refl, number_word phase fits.number_fits)

  -- what is written of a line of a run is at least one word, and words only
  pub move_are_words : (one : Line) → IsLineOfRun plan one → AreWords (move_words plan one.what one.held)
  move_are_words one fits = are_words one.what one.held fits

  -- the second and the third byte of the first word, which together tell the six words apart
  abbrev key : List (List ℕ) → ℕ
  key words = get_or (word_at 0 words) 1 0 + get_or (word_at 0 words) 2 0

  same : (one : Move) (one_held : Option (ℕ × ℕ)) (other : Move) (other_held : Option (ℕ × ℕ)) →
      IsLineOfRun plan (line one one_held) → IsLineOfRun plan (line other other_held) →
      move_words plan one one_held ≡ move_words plan other other_held → line one one_held ≡ line other other_held
  same (Change d n) h (Change e m) k one other words =
      let node = same_node plan is d e one.of_plan.nodes other.of_plan.nodes (ap (word_at 1) words) in
      let number = same_number n m one.number_fits other.number_fits (ap (word_at 2) words) in
      let held = one.holder refl ∙ sym (other.holder refl) in
      (λ i. line (Change (node i) (number i)) (held i))
  same (Learn d n) h (Learn e m) k one other words =
      let node = same_node plan is d e one.of_plan.nodes.1 other.of_plan.nodes.1 (ap (word_at 2) words) in
      let number = same_number n m one.number_fits other.number_fits (ap (word_at 3) words) in
      let held = one.holder refl ∙ sym (other.holder refl) in
      (λ i. line (Learn (node i) (number i)) (held i))
  same (Publish d n) h (Publish e m) k one other words =
      let node = same_node plan is d e one.of_plan.nodes other.of_plan.nodes (ap (word_at 1) words) in
      let number = same_number n m one.number_fits other.number_fits (ap (word_at 2) words) in
      let held = one.holder refl ∙ sym (other.holder refl) in
      (λ i. line (Publish (node i) (number i)) (held i))
  same (Clear n) h (Clear m) k one other words =
      let number = same_number n m one.number_fits other.number_fits (ap (word_at 1) words) in
      let held = one.holder refl ∙ sym (other.holder refl) in
      (λ i. line (Clear (number i)) (held i))
  same (Pass d n) h (Pass e m) k one other words =
      let node = same_node plan is d e one.of_plan.nodes.1 other.of_plan.nodes.1 (ap (word_at 1) words) in
      let number = same_number n m one.number_fits other.number_fits (ap (word_at 2) words) in
      let leaf : is_leaf plan e ≡ is_leaf plan d = sym (ap (is_leaf plan) node) in
      let rest = ap (drop 3) words ∙ ap (λ b. device_words b plan.basis k) leaf in
      let held = same_device plan.basis is.basis (is_leaf plan d) h k (one.of_plan.step, one.held_fits) (other.of_plan.step, other.held_fits)
      one.holder (λ none. other.holder (leaf ∙ none)) rest in
      (λ i. line (Pass (node i) (number i)) (held i))
  same (Close n) h (Close m) k one other words =
      let number = same_number n m one.number_fits other.number_fits (ap (word_at 1) words) in
      let held = one.holder refl ∙ sym (other.holder refl) in
      (λ i. line (Close (number i)) (held i))
  same a h b k one other words = let keys = ap key words in absurd (omega (arith, keys))

  -- lines of a run that have the same words are the same line
  pub same_move : (one other : Line) → IsLineOfRun plan one → IsLineOfRun plan other →
      move_words plan one.what one.held ≡ move_words plan other.what other.held → one ≡ other
  same_move one other one_is other_is words = same one.what one.held other.what other.held one_is other_is words
