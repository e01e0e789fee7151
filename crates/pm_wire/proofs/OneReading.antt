-- Bytes have one reading: one list of frames, and one rest at which it stops.
use Rattle.std.proofs.Common.{◌≡◌, ◌∙◌, sym, ap, subst, refl, ℕ, List, [], ◌∷◌, ◌++◌, length, append_assoc, inl, inr}
use Rattle.pm_wire.specs.Framing.{Framing, IsFraming, MayStand, stream_bytes, place_behind, AllStand, IsUnfinished, BeginsBadly, Stops, BeginsWith}
use Rattle.pm_wire.specs.Framing.{AreFrames, HasFrames, HasBadFrame, EndsWithin}
use Rattle.pm_wire.proofs.Places.{whole_same, whole_not_unfinished, whole_not_bad, bad_not_unfinished, bad_more}

module _ {P F : Type 0} (framing : Framing P F) where
  cut : (f : F) (frames : List F) (rest : List ℕ) →
      stream_bytes framing (f ∷ frames) ++ rest ≡ framing.frame_bytes f ++ (stream_bytes framing frames ++ rest)
  cut f frames rest = append_assoc (framing.frame_bytes f) (stream_bytes framing frames) rest

  -- bytes with more behind them begin with the same frames, and have more behind the rest
  pub begins_more : (start : P) (bytes more : List ℕ) (frames : List F) (rest : List ℕ) → BeginsWith framing start bytes frames rest →
      BeginsWith framing start (bytes ++ more) frames (rest ++ more)
  begins_more start bytes more frames rest b = record {
    stand = b.stand;
    spelled = ap (λ l. l ++ more) b.spelled ∙ append_assoc (stream_bytes framing frames) rest more;
  }

  -- a bad frame stays one at its offset, whatever bytes follow
  pub bad_stays : (start : P) (bytes more : List ℕ) (n : ℕ) → HasBadFrame framing start bytes n → HasBadFrame framing start (bytes ++ more) n
  bad_stays start bytes more n a = record {
    frames = a.frames;
    rest = a.rest ++ more;
    begins = begins_more start bytes more a.frames a.rest a.begins;
    bad = bad_more framing _ a.rest more a.bad;
    before = a.before;
  }

module _ {P F : Type 0} (framing : Framing P F) (sound : IsFraming framing) where
  -- no frame stands where a list of frames stops
  frame_not_stop : (place : P) (bytes : List ℕ) (f : F) (more : List ℕ) → MayStand framing place f → bytes ≡ framing.frame_bytes f ++ more →
      Stops framing place bytes → ⊥
  frame_not_stop place bytes f more stands e (inl unfinished) = whole_not_unfinished framing sound place bytes f more stands e unfinished
  frame_not_stop place bytes f more stands e (inr bad) = whole_not_bad framing sound place bytes f more stands e bad

  -- two lists of frames of the same bytes are one, where both stop
  one_list : (place : P) (fs gs : List F) (r s : List ℕ) → AllStand framing place fs → AllStand framing place gs →
      Stops framing (place_behind framing place fs) r → Stops framing (place_behind framing place gs) s →
      stream_bytes framing fs ++ r ≡ stream_bytes framing gs ++ s → (fs ≡ gs) × (r ≡ s)
  one_list place [] [] r s f g stop stop' e = (refl, e)
  one_list place [] (h ∷ gs) r s f g stop stop' e =
      absurd (frame_not_stop place r h (stream_bytes framing gs ++ s) g.0 (e ∙ cut framing h gs s) stop)
  one_list place (h ∷ fs) [] r s f g stop stop' e =
      absurd (frame_not_stop place s h (stream_bytes framing fs ++ r) f.0 (sym e ∙ cut framing h fs r) stop')
  one_list place (h ∷ fs) (k ∷ gs) r s f g stop stop' e =
      let first = whole_same framing sound place (stream_bytes framing (h ∷ fs) ++ r) h k (stream_bytes framing fs ++ r)
      (stream_bytes framing gs ++ s) f.0 g.0 (cut framing h fs r) (e ∙ cut framing k gs s) in
      let A : F → Type 0 = λ x. AllStand framing (framing.place_after place x) gs in
      let B : F → Type 0 = λ x. Stops framing (place_behind framing (framing.place_after place x) gs) s in
      let others = one_list (framing.place_after place h) fs gs r s f.1 (subst A (sym first.0) g.1) stop (subst B (sym first.0) stop') first.1 in
      (ap (λ x. x ∷ fs) first.0 ∙ ap (λ l. k ∷ l) others.0, others.1)

  -- frames that bytes begin with are the first of those behind which the bytes stop
  pub first_frames : (place : P) (fs gs : List F) (r s : List ℕ) → AllStand framing place fs → AllStand framing place gs →
      Stops framing (place_behind framing place gs) s → stream_bytes framing fs ++ r ≡ stream_bytes framing gs ++ s →
      (hs : List F) × (gs ≡ fs ++ hs)
  first_frames place [] gs r s f g stop e = (gs, refl)
  first_frames place (h ∷ fs) [] r s f g stop e =
      absurd (frame_not_stop place s h (stream_bytes framing fs ++ r) f.0 (sym e ∙ cut framing h fs r) stop)
  first_frames place (h ∷ fs) (k ∷ gs) r s f g stop e =
      let first = whole_same framing sound place (stream_bytes framing (h ∷ fs) ++ r) h k (stream_bytes framing fs ++ r)
      (stream_bytes framing gs ++ s) f.0 g.0 (cut framing h fs r) (e ∙ cut framing k gs s) in
      let A : F → Type 0 = λ x. AllStand framing (framing.place_after place x) gs in
      let B : F → Type 0 = λ x. Stops framing (place_behind framing (framing.place_after place x) gs) s in
      let others = first_frames (framing.place_after place h) fs gs r s f.1 (subst A (sym first.0) g.1) (subst B (sym first.0) stop) first.1 in
      (others.0, ap (λ x. x ∷ gs) (sym first.0) ∙ ap (λ l. h ∷ l) others.1)

  -- two lists of frames that the same bytes begin with are one, and so are their rests, where both stop
  pub same_reading : (start : P) (bytes : List ℕ) (fs gs : List F) (r s : List ℕ) → BeginsWith framing start bytes fs r →
      Stops framing (place_behind framing start fs) r → BeginsWith framing start bytes gs s → Stops framing (place_behind framing start gs) s →
      (fs ≡ gs) × (r ≡ s)
  same_reading start bytes fs gs r s b stop b' stop' = one_list start fs gs r s b.stand b'.stand stop stop' (sym b.spelled ∙ b'.spelled)

  -- where a list of frames stops with a bad frame it does not stop within one
  pub bad_or_unfinished : (start : P) (bytes : List ℕ) (fs gs : List F) (r s : List ℕ) → BeginsWith framing start bytes fs r →
      BeginsBadly framing (place_behind framing start fs) r → BeginsWith framing start bytes gs s →
      IsUnfinished framing (place_behind framing start gs) s → ⊥
  bad_or_unfinished start bytes fs gs r s b bad b' unfinished =
      let same = same_reading start bytes fs gs r s b (inr bad) b' (inl unfinished) in
      let A : List ℕ → Type 0 = λ l. BeginsBadly framing (place_behind framing start gs) l in
      let B : List F → Type 0 = λ l. BeginsBadly framing (place_behind framing start l) r in
      bad_not_unfinished framing sound (place_behind framing start gs) s (subst A same.1 (subst B same.0 bad)) unfinished

  -- bytes have a bad frame at one offset at most
  pub one_offset : (start : P) (bytes : List ℕ) (m n : ℕ) → HasBadFrame framing start bytes m → HasBadFrame framing start bytes n → m ≡ n
  one_offset start bytes m n a b =
      let same = same_reading start bytes a.frames b.frames a.rest b.rest a.begins (inr a.bad) b.begins (inr b.bad) in
      a.before ∙ ap (λ l. length (stream_bytes framing l)) same.0 ∙ sym b.before

  -- bytes end within a frame at one offset at most
  pub one_end : (start : P) (bytes : List ℕ) (m n : ℕ) → EndsWithin framing start bytes m → EndsWithin framing start bytes n → m ≡ n
  one_end start bytes m n a b =
      let same = same_reading start bytes a.frames b.frames a.rest b.rest a.begins (inl a.unfinished) b.begins (inl b.unfinished) in
      a.before ∙ ap (λ l. length (stream_bytes framing l)) same.0 ∙ sym b.before

  -- bytes that are a list of frames have no bad frame
  pub frames_not_bad : (start : P) (bytes : List ℕ) (frames : List F) (n : ℕ) → AreFrames framing start bytes frames →
      HasBadFrame framing start bytes n → ⊥
  frames_not_bad start bytes frames n are a = bad_or_unfinished start bytes a.frames frames a.rest [] a.begins a.bad are tt

  -- bytes all of whose whole frames are read have no bad frame
  pub has_not_bad : (start : P) (bytes : List ℕ) (frames : List F) (n : ℕ) → HasFrames framing start bytes frames →
      HasBadFrame framing start bytes n → ⊥
  has_not_bad start bytes frames n has a = bad_or_unfinished start bytes a.frames frames a.rest has.rest a.begins a.bad has.begins has.unfinished

  -- bytes that are a list of frames do not end within a frame
  pub frames_not_within : (start : P) (bytes : List ℕ) (frames : List F) (n : ℕ) → AreFrames framing start bytes frames →
      EndsWithin framing start bytes n → ⊥
  frames_not_within start bytes frames n are a =
      let same = same_reading start bytes a.frames frames a.rest [] a.begins (inl a.unfinished) are (inl tt) in
      a.some same.1

  -- bytes that have a bad frame do not end within a frame
  pub bad_not_within : (start : P) (bytes : List ℕ) (m n : ℕ) → HasBadFrame framing start bytes m → EndsWithin framing start bytes n → ⊥
  bad_not_within start bytes m n a b = bad_or_unfinished start bytes a.frames b.frames a.rest b.rest a.begins a.bad b.begins b.unfinished
