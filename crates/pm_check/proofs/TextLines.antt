-- A text has one list of lines.
use Rattle.std.proofs.Common.{◌≡◌, ◌≢◌, ◌∙◌, sym, ap, refl, ℕ, ◌+◌, ◌<◌, ◌≤◌, List, [], ◌∷◌}
use Rattle.std.proofs.Common.{◌++◌, length, append_assoc, arith, inl, inr}
use Rattle.std.specs.Prelude.{All}
use Rattle.std.proofs.lemmas.Bool.{cases_eq}
use Rattle.std.proofs.lemmas.Grind.{flat_map-append}
use Rattle.std.proofs.lemmas.List.{append-nil, length-append}
use Rattle.std.proofs.lemmas.List.Elements.{All-append, All-cons, All-head, All-nil, All-tail}
use Rattle.pm_envelope.specs.Lines.{HasNoLineFeed, IsFirstLine}
use Rattle.pm_envelope.proofs.FirstLines.{same_first_line, no_first_line}
use Rattle.pm_check.specs.Lines.{IsWholeLine, text_of_lines, AreLinesOf}

-- the text of two lists of lines, one behind the other
pub text_of_lines-append : (lines more : List (List ℕ)) → text_of_lines (lines ++ more) ≡ text_of_lines lines ++ text_of_lines more
text_of_lines-append lines more = flat_map-append (λ (line : List ℕ). line) lines more

-- the text of one line more
pub text_of_lines-push : (lines : List (List ℕ)) (line : List ℕ) → text_of_lines (lines ++ line ∷ []) ≡ text_of_lines lines ++ line
text_of_lines-push lines line = text_of_lines-append lines (line ∷ []) ∙ ap (λ text. text_of_lines lines ++ text) (append-nil line)

-- a line has at least one byte, so there are no more lines than bytes
pub lines_within : (lines : List (List ℕ)) → All IsWholeLine lines → length lines ≤ length (text_of_lines lines)
lines_within [] whole = omega arith
lines_within (line ∷ lines) whole =
    let first = All-head IsWholeLine line lines whole in
    let more = lines_within lines (All-tail IsWholeLine line lines whole) in
    omega (arith, more, length-append line (text_of_lines lines), ap (λ l. length l) first.1.1, length-append first.0 (10 ∷ []))

-- a text that begins with a whole line begins with a first line
first_of : (line rest text : List ℕ) (whole : IsWholeLine line) → text ≡ line ++ rest → IsFirstLine text whole.0 rest
first_of line rest text whole parts = record {
  parts = parts ∙ ap (λ l. l ++ rest) whole.1.1 ∙ append_assoc whole.0 (10 ∷ []) rest;
  no_line_feed = whole.1.0;
}

-- what lies behind a line is shorter than the text
pub shorter : (line rest text : List ℕ) → IsWholeLine line → text ≡ line ++ rest → length rest < length text
shorter line rest text whole parts =
    omega (arith, ap (λ l. length l) parts, length-append line rest, ap (λ l. length l) whole.1.1, length-append whole.0 (10 ∷ []))

-- what lies behind a line is no rest of a text without a line feed
no_rest : (line rest text : List ℕ) → IsWholeLine line → HasNoLineFeed text → text ≡ line ++ rest → ⊥
no_rest line rest text whole none parts = no_first_line text whole.0 rest none (first_of line rest text whole parts).parts

-- two lists of whole lines, each with a rest without a line feed behind it, that are one text, are the same
pub same_lines : (a b : List (List ℕ)) (r s : List ℕ) → All IsWholeLine a → All IsWholeLine b → HasNoLineFeed r → HasNoLineFeed s →
    text_of_lines a ++ r ≡ text_of_lines b ++ s → (a ≡ b) × (r ≡ s)
same_lines [] [] r s a_are b_are r_none s_none same = (refl, same)
same_lines [] (y ∷ b) r s a_are b_are r_none s_none same =
    absurd (no_rest y (text_of_lines b ++ s) r (All-head IsWholeLine y b b_are) r_none (same ∙ append_assoc y (text_of_lines b) s))
same_lines (x ∷ a) [] r s a_are b_are r_none s_none same =
    absurd (no_rest x (text_of_lines a ++ r) s (All-head IsWholeLine x a a_are) s_none (sym same ∙ append_assoc x (text_of_lines a) r))
same_lines (x ∷ a) (y ∷ b) r s a_are b_are r_none s_none same =
    let x_is = All-head IsWholeLine x a a_are in
    let y_is = All-head IsWholeLine y b b_are in
    let text = x ++ (text_of_lines a ++ r) in
    let other : text ≡ y ++ (text_of_lines b ++ s) = sym (append_assoc x (text_of_lines a) r) ∙ same ∙ append_assoc y (text_of_lines b) s in
    let first = same_first_line text x_is.0 (text_of_lines a ++ r) y_is.0 (text_of_lines b ++ s)
    (first_of x (text_of_lines a ++ r) text x_is refl) (first_of y (text_of_lines b ++ s) text y_is other) in
    let here : x ≡ y = x_is.1.1 ∙ ap (λ bytes. bytes ++ 10 ∷ []) first.0 ∙ sym y_is.1.1 in
    let later = same_lines a b r s (All-tail IsWholeLine x a a_are) (All-tail IsWholeLine y b b_are) r_none s_none first.1 in
    ((λ i. here i ∷ later.0 i), later.1)

-- a text has one list of lines, and one rest
pub one_list : (text : List ℕ) (a b : List (List ℕ)) (r s : List ℕ) → AreLinesOf text a r → AreLinesOf text b s → (a ≡ b) × (r ≡ s)
one_list text a b r s is also = same_lines a b r s is.whole also.whole is.no_end also.no_end (sym is.parts ∙ also.parts)

-- lines in front of a text stand in front of its lines
pub lines_before : (front : List (List ℕ)) (text : List ℕ) (lines : List (List ℕ)) (rest : List ℕ) → All IsWholeLine front →
    AreLinesOf text lines rest →
    AreLinesOf (text_of_lines front ++ text) (front ++ lines) rest
lines_before front text lines rest whole are = record {
  whole = All-append IsWholeLine front lines whole are.whole;
  no_end = are.no_end;
  parts = ap (λ t. text_of_lines front ++ t) are.parts ∙ sym (append_assoc (text_of_lines front) (text_of_lines lines) rest)
      ∙ ap (λ t. t ++ rest) (sym (text_of_lines-append front lines));
}

-- a text without a line feed is a rest alone
pub no_lines : (text : List ℕ) → HasNoLineFeed text → AreLinesOf text [] text
no_lines text none = record { whole = All-nil IsWholeLine; no_end = none; parts = refl }

-- a line in front of a text
pub line_before : (line text : List ℕ) (lines : List (List ℕ)) (rest : List ℕ) → IsWholeLine line → AreLinesOf text lines rest →
    AreLinesOf (line ++ text) (line ∷ lines) rest
line_before line text lines rest whole are = record {
  whole = All-cons IsWholeLine line lines whole are.whole;
  no_end = are.no_end;
  parts = ap (λ t. line ++ t) are.parts ∙ sym (append_assoc line (text_of_lines lines) rest);
}

-- ---- each text has lines

abbrev HasLines : List ℕ → Type 0
HasLines text = (lines : List (List ℕ)) × ((rest : List ℕ) × AreLinesOf text lines rest)

-- a byte in front of the first line, or of the rest
longer : (byte : ℕ) (text : List ℕ) (lines : List (List ℕ)) (rest : List ℕ) → byte ≢ 10 → AreLinesOf text lines rest → HasLines (byte ∷ text)
longer byte text [] rest other are = (
  [],
  (
    byte ∷ rest,
    record {
      whole = All-nil IsWholeLine;
      no_end = All-cons (λ (b : ℕ). b ≢ 10) byte rest other are.no_end;
      parts = ap (λ t. byte ∷ t) are.parts;
    },
  ),
)
longer byte text (line ∷ lines) rest other are =
    let first = All-head IsWholeLine line lines are.whole in (
      (byte ∷ line) ∷ lines,
      (
        rest,
        record {
          whole = All-cons IsWholeLine (byte ∷ line) lines
              (byte ∷ first.0, (All-cons (λ (b : ℕ). b ≢ 10) byte first.0 other first.1.0, ap (λ t. byte ∷ t) first.1.1))
              (All-tail IsWholeLine line lines are.whole);
          no_end = are.no_end;
          parts = ap (λ t. byte ∷ t) are.parts;
        },
      ),
    )

-- each text is some whole lines and a rest without a line feed
pub lines_exist : (text : List ℕ) → HasLines text
lines_exist [] = ([], ([], no_lines [] (All-nil (λ (b : ℕ). b ≢ 10))))
lines_exist (byte ∷ text) =
    let more = lines_exist text in
    elim (cases_eq byte 10) [
      | inl feed ↦
          let line : IsWholeLine (byte ∷ []) = ([], (All-nil (λ (b : ℕ). b ≢ 10), ap (λ (b : ℕ). b ∷ []) feed)) in
          ((byte ∷ []) ∷ more.0, (more.1.0, line_before (byte ∷ []) text more.0 more.1.0 line more.1.1))
      | inr other ↦ longer byte text more.0 more.1.0 other more.1.1
    ]

-- a text with a line feed at its end is whole lines
pub ended_lines : (front : List ℕ) → (lines : List (List ℕ)) × AreLinesOf (front ++ 10 ∷ []) lines []
ended_lines front =
    let are = lines_exist front in
    let last : IsWholeLine (are.1.0 ++ 10 ∷ []) = (are.1.0, (are.1.1.no_end, refl)) in (
      are.0 ++ (are.1.0 ++ 10 ∷ []) ∷ [],
      record {
        whole = All-append IsWholeLine are.0 _ are.1.1.whole (All-cons IsWholeLine _ [] last (All-nil IsWholeLine));
        no_end = All-nil (λ (b : ℕ). b ≢ 10);
        parts =
            ap (λ t. t ++ 10 ∷ []) are.1.1.parts ∙ append_assoc (text_of_lines are.0) are.1.0 (10 ∷ [])
            ∙ sym (text_of_lines-push are.0 (are.1.0 ++ 10 ∷ [])) ∙ sym (append-nil _);
      },
    )
