-- A text is read in one way.
use Rattle.std.proofs.Common.{◌≡◌, ◌∙◌, sym, ap, refl, ℕ, zero, suc, ◌+◌, ◌-◌, ◌<◌, ◌≤◌, ℤ, List, [], ◌∷◌, ◌++◌}
use Rattle.std.proofs.Common.{length, append_assoc, arith, inl, inr}
use Rattle.std.specs.Prelude.{All}
use Rattle.std.specs.Fmt.{signed_decimal}
use Rattle.std.proofs.lemmas.Grind.{flat_map-append}
use Rattle.std.proofs.lemmas.List.{append-nil, length-append}
use Rattle.std.proofs.lemmas.List.Elements.{All-append, All-cons, All-head, All-nil, All-tail}
use Rattle.pm_base.specs.Limits.{IsWithin, demand_limit}
use Rattle.pm_ask.specs.TargetLists.{most_targets, AreTargets, target_line, targets_text, IsListText, BeginsWithTarget, IsBadAfter, IsFirstBadLine}
use Rattle.pm_ask.proofs.TargetLines.{same_target}

-- the reading of targets stops before a rest that begins with a target's line only where there is no room for more
abbrev Stops : ℕ → List ℕ → Type 0
Stops room rest = BeginsWithTarget rest → room ≡ 0

-- the same targets, and the same rest
same_stop : (room : ℕ) (targets others : List ℤ) (rest more : List ℕ) → All (IsWithin demand_limit) targets → All (IsWithin demand_limit) others
    → length targets ≤ room → length others ≤ room → Stops (room - length targets) rest → Stops (room - length others) more
    → targets_text targets ++ rest ≡ targets_text others ++ more → (targets ≡ others) × (rest ≡ more)
same_stop room [] [] rest more are also few too_few stops ends same = (refl, same)
same_stop room [] (other ∷ others) rest more are also few too_few stops ends same =
    let within = All-head (IsWithin demand_limit) other others also in
    let begins = stops (other, (targets_text others ++ more, (within, same ∙ append_assoc (target_line other) (targets_text others) more))) in
    absurd (omega (arith, begins, too_few))
same_stop room (target ∷ targets) [] rest more are also few too_few stops ends same =
    let within = All-head (IsWithin demand_limit) target targets are in
    let begins = ends (target, (targets_text targets ++ rest, (within, sym same ∙ append_assoc (target_line target) (targets_text targets) rest))) in
    absurd (omega (arith, begins, few))
same_stop zero (target ∷ targets) (other ∷ others) rest more are also few too_few stops ends same = absurd (omega (arith, few))
same_stop (suc room) (target ∷ targets) (other ∷ others) rest more are also few too_few stops ends same =
    let joined = sym (append_assoc (target_line target) (targets_text targets) rest) ∙ same ∙ append_assoc (target_line other) (targets_text others) more in
    let first = same_target target other (targets_text targets ++ rest) (targets_text others ++ more)
    (All-head (IsWithin demand_limit) target targets are) (All-head (IsWithin demand_limit) other others also) joined in
    let later = same_stop room targets others rest more
    (All-tail (IsWithin demand_limit) target targets are) (All-tail (IsWithin demand_limit) other others also)
    (omega (arith, few)) (omega (arith, too_few)) (λ begins. omega (arith, stops begins)) (λ begins. omega (arith, ends begins)) first.1 in
    ((λ i. first.0 i ∷ later.0 i), later.1)

-- a reading of targets that stops where it may
record IsWholeReading (targets : List ℤ) (rest text : List ℕ) : Type 0 where
  -- the targets are not too many, and each is within the limit of a demand
  pub list : AreTargets targets
  -- the text is the lines of the targets in order, and then the rest
  pub parts : text ≡ targets_text targets ++ rest
  -- where the rest begins with a target's line, there is no room for more targets
  pub stops : Stops (most_targets - length targets) rest

same_reading : (targets others : List ℤ) (rest more text : List ℕ) → IsWholeReading targets rest text → IsWholeReading others more text
    → (targets ≡ others) × (rest ≡ more)
same_reading targets others rest more text is also =
    same_stop most_targets targets others rest more is.list.within also.list.within is.list.few also.list.few is.stops also.stops (sym is.parts ∙ also.parts)

not_empty : (target : ℤ) (rest : List ℕ) → [] ≡ target_line target ++ rest → ⊥
not_empty target rest same =
    let long = ap (λ text. length text) same in
    absurd (omega (arith, long, length-append (target_line target) rest, length-append (signed_decimal target) (10 ∷ [])))

whole_list : (targets : List ℤ) (text : List ℕ) → IsListText targets text → IsWholeReading targets [] text
whole_list targets text is = record {
  list = is.list;
  parts = is.lines ∙ sym (append-nil (targets_text targets));
  stops = λ begins. absurd (not_empty begins.0 begins.1.0 begins.1.1.1);
}

up_to_bad : (before : List ℤ) (rest text : List ℕ) → IsBadAfter before rest text → IsWholeReading before rest text
up_to_bad before rest text is = record {
  list = is.targets;
  parts = is.parts;
  stops = λ begins. elim is.bad [ inl full ↦ omega (arith, full) | inr none ↦ absurd (none begins) ];
}

-- a text is that of one list
pub one_list : (targets others : List ℤ) (text : List ℕ) → IsListText targets text → IsListText others text → targets ≡ others
one_list targets others text is also = (same_reading targets others [] [] text (whole_list targets text is) (whole_list others text also)).0

-- a text with a bad line is that of no list
pub no_list : (targets : List ℤ) (line : ℕ) (text : List ℕ) → IsListText targets text → IsFirstBadLine line text → ⊥
no_list targets line text is bad =
    let before = bad.0 in
    let rest = bad.1.0 in
    bad.1.1.0.some (sym (same_reading targets before [] rest text (whole_list targets text is) (up_to_bad before rest text bad.1.1.0)).1)

-- and it has one first bad line
pub one_bad_line : (line other : ℕ) (text : List ℕ) → IsFirstBadLine line text → IsFirstBadLine other text → line ≡ other
one_bad_line line other text is also =
    let same = same_reading is.0 also.0 is.1.0 also.1.0 text (up_to_bad is.0 is.1.0 text is.1.1.0) (up_to_bad also.0 also.1.0 text also.1.1.0) in
    is.1.1.1 ∙ ap (λ before. length before + 1) same.0 ∙ sym also.1.1.1

-- targets that reach to the end of a text are its list
pub read_to_end : (targets : List ℤ) (rest text : List ℕ) → AreTargets targets → text ≡ targets_text targets ++ rest → length rest ≡ 0
    → IsListText targets text
read_to_end targets [] text list parts none = record { list = list; lines = parts ∙ append-nil (targets_text targets) }
read_to_end targets (byte ∷ rest) text list parts none = absurd (omega (arith, none))

one_line_more : (targets : List ℤ) (target : ℤ) → targets_text (targets ++ target ∷ []) ≡ targets_text targets ++ target_line target
one_line_more targets target =
    flat_map-append target_line targets (target ∷ []) ∙ ap (λ line. targets_text targets ++ line) (append-nil (target_line target))

-- the targets of the first lines of a text, and what follows these
pub record AreRead (targets : List ℤ) (rest text : List ℕ) : Type 0 where
  -- the targets read so far are not too many, and each is within the limit of a demand
  pub list : AreTargets targets
  -- the text is the lines of the targets read so far in order, and then what is left
  pub parts : text ≡ targets_text targets ++ rest

-- one more line is read
pub target_pushed : (targets more : List ℤ) (target : ℤ) (rest later text : List ℕ) → AreTargets targets → length targets < most_targets
    → IsWithin demand_limit target
    → more ≡ targets ++ target ∷ [] → text ≡ targets_text targets ++ rest → rest ≡ target_line target ++ later → AreRead more later text
target_pushed targets more target rest later text list room within pushed parts line = rw pushed (record {
  list = record {
    few = omega (arith, length-append targets (target ∷ []), room);
    within = All-append (IsWithin demand_limit) targets (target ∷ []) list.within (All-cons (IsWithin demand_limit) target [] within (All-nil _));
  };
  parts =
      parts ∙ ap (λ text. targets_text targets ++ text) line ∙ sym (append_assoc (targets_text targets) (target_line target) later)
      ∙ ap (λ front. front ++ later) (sym (one_line_more targets target));
})
