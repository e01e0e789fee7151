-- What stands at a place: a whole frame, fewer bytes than one, or a bad one, and no two of these.
use Rattle.std.proofs.Common.{◌≡◌, ◌∙◌, sym, ap, subst, ℕ, ◌<◌, ◌≤◌, List, [], ◌∷◌, ◌++◌, length, Some, arith}
use Rattle.std.proofs.Common.{append_assoc, length-append, inl, inr}
use Rattle.pm_wire.specs.Framing.{Framing, IsFraming, HasSize, MayStand, IsUnfinished, HasWrongKind, BeginsBadly}

some_same : (m n : ℕ) → Some m ≡ Some n → m ≡ n
some_same m n e = cc

module _ {P F : Type 0} (framing : Framing P F) where
  sized_some : (place : P) (bytes : List ℕ) (size : ℕ) → HasSize framing place bytes size →
      ((kind : ℕ) → framing.size_at place kind ≡ Some size → 1 ≤ size) → 1 ≤ size
  sized_some place [] size has some = absurd has
  sized_some place (kind ∷ more) size has some = some kind has

  sized_not_unfinished : (place : P) (bytes : List ℕ) (size : ℕ) → HasSize framing place bytes size → size ≤ length bytes →
      IsUnfinished framing place bytes → ⊥
  sized_not_unfinished place [] size has within unfinished = has
  sized_not_unfinished place (kind ∷ more) size has within unfinished =
      let same : size ≡ unfinished.0 = some_same size unfinished.0 (sym has ∙ unfinished.1) in
      omega (arith, same, unfinished.2)

  sized_not_wrong : (place : P) (bytes : List ℕ) (size : ℕ) → HasSize framing place bytes size → HasWrongKind framing place bytes → ⊥
  sized_not_wrong place [] size has wrong = has
  sized_not_wrong place (kind ∷ more) size has wrong = cc (sym has ∙ wrong)

  wrong_not_unfinished : (place : P) (bytes : List ℕ) → HasWrongKind framing place bytes → IsUnfinished framing place bytes → ⊥
  wrong_not_unfinished place [] wrong unfinished = wrong
  wrong_not_unfinished place (kind ∷ more) wrong unfinished = cc (sym wrong ∙ unfinished.1)

  wrong_more : (place : P) (bytes more : List ℕ) → HasWrongKind framing place bytes → HasWrongKind framing place (bytes ++ more)
  wrong_more place [] more wrong = absurd wrong
  wrong_more place (kind ∷ bytes) more wrong = wrong

  -- a bad frame stays bad, whatever follows
  pub bad_more : (place : P) (bytes more : List ℕ) → BeginsBadly framing place bytes → BeginsBadly framing place (bytes ++ more)
  bad_more place bytes more (inl wrong) = inl (wrong_more place bytes more wrong)
  bad_more place bytes more (inr bad) = inr (record {
    frame = bad.frame;
    more = bad.more ++ more;
    formed = bad.formed;
    refused = bad.refused;
    spelled = ap (λ l. l ++ more) bad.spelled ∙ append_assoc (framing.frame_bytes bad.frame) bad.more more;
  })

module _ {P F : Type 0} (framing : Framing P F) (sound : IsFraming framing) where
  -- how many bytes a frame has that is formed: at least one
  pub frame_length : (place : P) (f : F) → framing.IsFormed place f → 1 ≤ length (framing.frame_bytes f)
  frame_length place f formed =
      sized_some framing place (framing.frame_bytes f ++ []) (length (framing.frame_bytes f)) (sound.sized place f [] formed)
      (λ kind is. sound.some_bytes place kind _ is)

  formed_not_unfinished : (place : P) (bytes : List ℕ) (f : F) (more : List ℕ) → framing.IsFormed place f →
      bytes ≡ framing.frame_bytes f ++ more → IsUnfinished framing place bytes → ⊥
  formed_not_unfinished place bytes f more formed e unfinished =
      let Q : List ℕ → Type 0 = λ l. IsUnfinished framing place l in
      sized_not_unfinished framing place (framing.frame_bytes f ++ more) (length (framing.frame_bytes f)) (sound.sized place f more formed)
      (omega (arith, length-append (framing.frame_bytes f) more)) (subst Q e unfinished)

  formed_not_wrong : (place : P) (bytes : List ℕ) (f : F) (more : List ℕ) → framing.IsFormed place f →
      bytes ≡ framing.frame_bytes f ++ more → HasWrongKind framing place bytes → ⊥
  formed_not_wrong place bytes f more formed e wrong =
      let Q : List ℕ → Type 0 = λ l. HasWrongKind framing place l in
      sized_not_wrong framing place (framing.frame_bytes f ++ more) (length (framing.frame_bytes f)) (sound.sized place f more formed) (subst Q e wrong)

  -- a whole frame is not one that may still come
  pub whole_not_unfinished : (place : P) (bytes : List ℕ) (f : F) (more : List ℕ) → MayStand framing place f →
      bytes ≡ framing.frame_bytes f ++ more → IsUnfinished framing place bytes → ⊥
  whole_not_unfinished place bytes f more stands e unfinished = formed_not_unfinished place bytes f more stands.formed e unfinished

  -- a whole frame is not bad
  pub whole_not_bad : (place : P) (bytes : List ℕ) (f : F) (more : List ℕ) → MayStand framing place f →
      bytes ≡ framing.frame_bytes f ++ more → BeginsBadly framing place bytes → ⊥
  whole_not_bad place bytes f more stands e (inl wrong) = formed_not_wrong place bytes f more stands.formed e wrong
  whole_not_bad place bytes f more stands e (inr bad) =
      let same = sound.one_frame place f bad.frame more bad.more stands.formed bad.formed (sym e ∙ bad.spelled) in
      let Q : F → Type 0 = λ frame. framing.IsAccepted place frame in
      bad.refused (subst Q same.0 stands.accepted)

  -- a bad frame is not one that may still come
  pub bad_not_unfinished : (place : P) (bytes : List ℕ) → BeginsBadly framing place bytes → IsUnfinished framing place bytes → ⊥
  bad_not_unfinished place bytes (inl wrong) unfinished = wrong_not_unfinished framing place bytes wrong unfinished
  bad_not_unfinished place bytes (inr bad) unfinished = formed_not_unfinished place bytes bad.frame bad.more bad.formed bad.spelled unfinished

  -- two frames at one place with the same bytes are one
  pub whole_same : (place : P) (bytes : List ℕ) (f g : F) (x y : List ℕ) → MayStand framing place f → MayStand framing place g →
      bytes ≡ framing.frame_bytes f ++ x → bytes ≡ framing.frame_bytes g ++ y → (f ≡ g) × (x ≡ y)
  whole_same place bytes f g x y stands stands' e e' = sound.one_frame place f g x y stands.formed stands'.formed (sym e ∙ e')

  -- fewer bytes than a frame are left where one is unfinished
  pub unfinished_short : (place : P) (bytes : List ℕ) → framing.IsPlace place → IsUnfinished framing place bytes →
      length bytes < framing.most_bytes
  unfinished_short place [] is unfinished = omega (arith, sound.not_empty)
  unfinished_short place (kind ∷ more) is unfinished =
      omega (arith, unfinished.2, sound.few_bytes place kind unfinished.0 is unfinished.1)
