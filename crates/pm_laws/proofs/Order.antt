-- Journals: what stands in a list stays there, and no device goes back.
use Rattle.std.proofs.Common.{◌≡◌, ℕ, ◌<◌, ◌≤◌, List, [], ◌∷◌, ◌++◌, length, refl, sym, ◌∙◌, ap, subst, inl, inr, arith}
use Rattle.std.specs.List.{Contains}
use Rattle.pm_market.specs.Lists.{Lists, IsLeaf, Lawful}
use Rattle.pm_market.specs.State.{State, start, knowledge, last_index, clearings, cleared_cut}
use Rattle.pm_market.specs.Moves.{step, after_from, LegalFrom, after, LegalJournal}
use Rattle.pm_market.specs.Sound.{Sound}
use Rattle.pm_market.specs.declared.moves.Move.{Move}
use Rattle.pm_market.specs.declared.moves.Move.TheVariants.{Change, Learn, Publish, Clear, Pass, Close}
use Rattle.pm_market.proofs.Cuts.{pushed_same, pushed_length_le, pushed_cut_at_kept}
use Rattle.pm_laws.proofs.Facts.{pushed_contains, contains_last, contains_within, last_cases, cleared_within}
use Rattle.pm_laws.proofs.Kept.{sound_start, sound_step, sound_after_from}

-- the state after two lists of moves in a row is that of the second from where the first ends
pub after_append : (lists : Lists) (front rest : List Move) (s : State) →
    after_from lists s (front ++ rest) ≡ after_from lists (after_from lists s front) rest
after_append lists [] rest s = refl
after_append lists (m ∷ ms) rest s = after_append lists ms rest (step lists s m)

-- of two lists of moves, legal in a row, the first is legal and so is the second from where it ends
pub legal_parts : (lists : Lists) (front rest : List Move) (s : State) → LegalFrom lists s (front ++ rest) → LegalFrom lists s front
    × LegalFrom lists (after_from lists s front) rest
legal_parts lists [] rest s legal = (tt, legal)
legal_parts lists (m ∷ ms) rest s legal = let r = legal_parts lists ms rest (step lists s m) legal.1 in ((legal.0, r.0), r.1)

-- legal moves, and moves that are legal from where those end, are legal in a row
pub legal_append : (lists : Lists) (front rest : List Move) (s : State) → LegalFrom lists s front →
    LegalFrom lists (after_from lists s front) rest → LegalFrom lists s (front ++ rest)
legal_append lists [] rest s legal more = more
legal_append lists (m ∷ ms) rest s legal more = (legal.0, legal_append lists ms rest (step lists s m) legal.1 more)

-- an index that was passed stays
passed_step : (lists : Lists) (s : State) (m : Move) (x j : ℕ) → Contains (s.passed x) j → Contains ((step lists s m).passed x) j
passed_step lists s (Change d n) x j h = h
passed_step lists s (Learn c n) x j h = h
passed_step lists s (Publish c n) x j h = h
passed_step lists s (Clear k) x j h = h
passed_step lists s (Pass y k) x j h = pushed_contains s.passed y k x j h
passed_step lists s (Close p) x j h = h

passed_stays : (lists : Lists) (journal : List Move) (s : State) (x j : ℕ) → Contains (s.passed x) j → Contains ((after_from lists s journal).passed x) j
passed_stays lists [] s x j h = h
passed_stays lists (m ∷ ms) s x j h = passed_stays lists ms (step lists s m) x j (passed_step lists s m x j h)

-- a clearing keeps its cut
cleared_step : (lists : Lists) (s : State) (m : Move) (j : ℕ) → j ≤ clearings s → (j ≤ clearings (step lists s m))
    × (cleared_cut (step lists s m) j ≡ cleared_cut s j)
cleared_step lists s (Change d n) j h = (h, refl)
cleared_step lists s (Learn c n) j h = (h, refl)
cleared_step lists s (Publish c n) j h = (
  omega (arith, pushed_length_le s.published c (knowledge lists s c) 0),
  pushed_cut_at_kept s.published c (knowledge lists s c) 0 j (λ e. omega (arith, ap (λ (z : ℕ). length (s.published z)) e)),
)
cleared_step lists s (Clear k) j h = (
  omega (arith, pushed_length_le s.published 0 (knowledge lists s 0) 0),
  pushed_cut_at_kept s.published 0 (knowledge lists s 0) 0 j (λ e. h),
)
cleared_step lists s (Pass y k) j h = (h, refl)
cleared_step lists s (Close p) j h = (h, refl)

-- a clearing is still there, with the same cut, after any more moves, legal or not
pub cleared_stays : (lists : Lists) (journal : List Move) (s : State) (j : ℕ) → j ≤ clearings s →
    (j ≤ clearings (after_from lists s journal)) × (cleared_cut (after_from lists s journal) j ≡ cleared_cut s j)
cleared_stays lists [] s j h = (h, refl)
cleared_stays lists (m ∷ ms) s j h =
    let one = cleared_step lists s m j h in
    let rest = cleared_stays lists ms (step lists s m) j one.0 in
    (rest.0, rest.1 ∙ one.1)

-- the index passed to a node last never falls
pub last_rises : (lists : Lists) → Lawful lists → (moves : List Move) (s : State) → Sound lists s → LegalFrom lists s moves → (x : ℕ) →
    last_index s x ≤ last_index (after_from lists s moves) x
last_rises lists law moves s sound legal x = elim (last_cases (s.passed x)) [
  | inl none ↦ omega (arith, none.1)
  | inr came ↦ contains_within lists (after_from lists s moves) (sound_after_from lists law moves s sound legal) x (last_index s x)
      (passed_stays lists moves s x (last_index s x) came)
]

-- of two indices passed to a node the cut of the lower is within that of the greater
pub passed_cuts : (lists : Lists) → Lawful lists → (s : State) → Sound lists s → (x i j : ℕ) → Contains (s.passed x) i →
    Contains (s.passed x) j → i ≤ j →
    (d : ℕ) → IsLeaf lists d → cleared_cut s i d ≤ cleared_cut s j d
passed_cuts lists law s sound x i j at_i at_j le d leaf = cleared_within lists law s sound i j le (sound.passed_within x j at_j).1 d leaf

-- two passes to one node, in the order of the journal
two_passes : (lists : Lists) → Lawful lists → (mid rest : List Move) (s : State) → Sound lists s → (x i j : ℕ) →
    LegalFrom lists s (Pass x i ∷ (mid ++ Pass x j ∷ rest)) →
    let end_s = after_from lists s (Pass x i ∷ (mid ++ Pass x j ∷ rest)) in
    (i < j) × ((d : ℕ) → IsLeaf lists d → cleared_cut end_s i d ≤ cleared_cut end_s j d)
two_passes lists law mid rest s sound x i j legal =
    let one : State = step lists s (Pass x i) in
    let sound_one : Sound lists one = sound_step lists law s sound (Pass x i) legal.0 in
    let parts = legal_parts lists mid (Pass x j ∷ rest) one legal.1 in
    let two : State = after_from lists one mid in
    let sound_two : Sound lists two = sound_after_from lists law mid one sound_one parts.0 in
    let at_one : Contains (one.passed x) i = subst (λ (l : List ℕ). Contains l i) (sym (pushed_same s.passed x i)) (contains_last (s.passed x) i) in
    let at_two : Contains (two.passed x) i = passed_stays lists mid one x i at_one in
    let three : State = step lists two (Pass x j) in
    let sound_three : Sound lists three = sound_step lists law two sound_two (Pass x j) parts.1.0 in
    let j_at_three : Contains (three.passed x) j =
    subst (λ (l : List ℕ). Contains l j) (sym (pushed_same two.passed x j)) (contains_last (two.passed x) j) in
    let final : State = after_from lists three rest in
    let sound_final : Sound lists final = sound_after_from lists law rest three sound_three parts.1.1 in
    let lt : i < j = omega (arith, contains_within lists two sound_two x i at_two, parts.1.0.2) in
    let same : after_from lists s (Pass x i ∷ (mid ++ Pass x j ∷ rest)) ≡ final = after_append lists mid (Pass x j ∷ rest) one in
    let i_final : Contains (final.passed x) i = passed_stays lists rest three x i (passed_step lists two (Pass x j) x i at_two) in
    let j_final : Contains (final.passed x) j = passed_stays lists rest three x j j_at_three in (
      lt,
      λ d leaf. subst (λ (t : State). cleared_cut t i d ≤ cleared_cut t j d) (sym same)
          (passed_cuts lists law final sound_final x i j i_final j_final (omega arith) d leaf),
    )

-- of two passes to a node in a legal journal the later's index is greater, and no device's number smaller
pub never_back : (lists : Lists) → Lawful lists → (front mid rest : List Move) (x i j : ℕ) →
    LegalJournal lists (front ++ Pass x i ∷ (mid ++ Pass x j ∷ rest)) →
    let end_s = after lists (front ++ Pass x i ∷ (mid ++ Pass x j ∷ rest)) in
    (i < j) × ((d : ℕ) → IsLeaf lists d → cleared_cut end_s i d ≤ cleared_cut end_s j d)
never_back lists law front mid rest x i j legal =
    let parts = legal_parts lists front (Pass x i ∷ (mid ++ Pass x j ∷ rest)) start legal in
    let s : State = after_from lists start front in
    let sound : Sound lists s = sound_after_from lists law front start (sound_start lists law) parts.0 in
    let r = two_passes lists law mid rest s sound x i j parts.1 in (
      r.0,
      λ d leaf. subst (λ (t : State). cleared_cut t i d ≤ cleared_cut t j d)
          (sym (after_append lists front (Pass x i ∷ (mid ++ Pass x j ∷ rest)) start)) (r.1 d leaf),
    )
