-- The frames that a decoder gave are those of the bytes that it was fed, in whatever pieces they came.
use Rattle.std.proofs.Common.{◌≡◌, ◌∙◌, sym, ap, subst, refl, ℕ, ◌+◌}
use Rattle.std.proofs.Common.{List, [], ◌∷◌, ◌++◌, length, arith, append_assoc, length-append, inl}
use Rattle.std.proofs.lemmas.List.{append-nil}
use Rattle.pm_wire.specs.Framing.{Framing, IsFraming, stream_bytes, place_behind, AllStand, BeginsWith, HasFrames, HasBadFrame, IsUnfinished, BeginsBadly}
use Rattle.pm_wire.specs.Decoding.{Decoding, nothing_fed_at}
use Rattle.pm_wire.specs.Calls.{Call, feeds, gives, waits, refuses, fails, MakesCall, MakeCalls, bytes_fed, frames_given}
use Rattle.pm_wire.proofs.OneReading.{same_reading}

-- from a decoder to a later one: the frames stood at its place, their bytes and those left are the bytes that it had and that were fed
pub record Moves {P F : Type 0} (framing : Framing P F) (old : Decoding P) (fed : List ℕ) (frames : List F) (new : Decoding P) : Type 0 where
  -- each of the frames may stand where it stands
  pub stand : AllStand framing old.place frames
  -- no byte is lost or made
  pub spelled : old.rest ++ fed ≡ stream_bytes framing frames ++ new.rest
  -- the offset counts the bytes of the frames
  pub offset : new.offset ≡ old.offset + length (stream_bytes framing frames)
  -- the place is that behind the frames
  pub place : new.place ≡ place_behind framing old.place frames

module _ {P F : Type 0} (framing : Framing P F) where
  moves_at : (a b c : Decoding P) (fed : List ℕ) (frames : List F) → b ≡ a → Moves framing a fed frames c → Moves framing b fed frames c
  moves_at a b c fed frames is moves = let Q : Decoding P → Type 0 = λ d. Moves framing d fed frames c in subst Q (sym is) moves

  -- calls move a decoder on by the frames that they gave
  pub calls_move : (calls : List (Call F)) (old new : Decoding P) → MakeCalls framing old calls new →
      Moves framing old (bytes_fed calls) (frames_given calls) new
  calls_move [] old new made =
      let Q : Decoding P → Type 0 = λ d. Moves framing old [] [] d in
      subst Q (sym made) (record { stand = tt; spelled = append-nil old.rest; offset = omega arith; place = refl })
  calls_move (feeds piece ∷ calls) old new made =
      let moves = calls_move calls made.0 new made.2 in
      let A : Decoding P → Type 0 = λ d. AllStand framing d.place (frames_given calls) in
      record {
        stand = subst A made.1 moves.stand;
        spelled = sym (append_assoc old.rest piece (bytes_fed calls)) ∙ ap (λ d. d.rest ++ bytes_fed calls) (sym made.1) ∙ moves.spelled;
        offset = moves.offset ∙ ap (λ d. d.offset + length (stream_bytes framing (frames_given calls))) made.1;
        place = moves.place ∙ ap (λ d. place_behind framing d.place (frames_given calls)) made.1;
      }
  calls_move (gives frame ∷ calls) old new made =
      let moves = calls_move calls made.0 new made.2 in
      let A : P → Type 0 = λ place. AllStand framing place (frames_given calls) in
      let bytes = framing.frame_bytes frame in
      record {
        stand = (made.1.stands, subst A made.1.place moves.stand);
        spelled = ap (λ l. l ++ bytes_fed calls) made.1.bytes ∙ append_assoc bytes made.0.rest (bytes_fed calls) ∙ ap (λ l. bytes ++ l) moves.spelled
            ∙ sym (append_assoc bytes (stream_bytes framing (frames_given calls)) new.rest);
        offset = omega (arith, moves.offset, made.1.offset, length-append bytes (stream_bytes framing (frames_given calls)));
        place = moves.place ∙ ap (λ p. place_behind framing p (frames_given calls)) made.1.place;
      }
  calls_move (waits ∷ calls) old new made = moves_at made.0 old new _ _ (sym made.1.1) (calls_move calls made.0 new made.2)
  calls_move (refuses at ∷ calls) old new made =
      let moves = calls_move calls made.0 new made.2 in
      let A : Decoding P → Type 0 = λ d. AllStand framing d.place (frames_given calls) in
      record {
        stand = subst A made.1.2 moves.stand;
        spelled = ap (λ d. d.rest ++ bytes_fed calls) (sym made.1.2) ∙ moves.spelled;
        offset = moves.offset ∙ ap (λ d. d.offset + length (stream_bytes framing (frames_given calls))) made.1.2;
        place = moves.place ∙ ap (λ d. place_behind framing d.place (frames_given calls)) made.1.2;
      }
  calls_move (fails ∷ calls) old new made = moves_at made.0 old new _ _ (sym made.1) (calls_move calls made.0 new made.2)

  -- the frames given are the first of the bytes fed, and what is left stands behind them
  pub calls_begin : (start : P) (calls : List (Call F)) (new : Decoding P) → MakeCalls framing (nothing_fed_at start) calls new →
      BeginsWith framing start (bytes_fed calls) (frames_given calls) new.rest
  calls_begin start calls new made =
      let moves = calls_move calls (nothing_fed_at start) new made in
      record { stand = moves.stand; spelled = moves.spelled }

  -- a decoder that waits gave all whole frames of the bytes fed
  pub calls_wait : (start : P) (calls : List (Call F)) (mid new : Decoding P) → MakeCalls framing (nothing_fed_at start) calls mid →
      MakesCall framing mid waits new → HasFrames framing start (bytes_fed calls) (frames_given calls)
  calls_wait start calls mid new made waits_there =
      let moves = calls_move calls (nothing_fed_at start) mid made in
      let Q : P → Type 0 = λ place. IsUnfinished framing place mid.rest in
      record { rest = mid.rest; begins = calls_begin start calls mid made; unfinished = subst Q moves.place waits_there.0 }

  -- a decoder that refuses tells the offset of the bad frame of the bytes fed
  pub calls_refuse : (start : P) (calls : List (Call F)) (mid new : Decoding P) (at : ℕ) → MakeCalls framing (nothing_fed_at start) calls mid →
      MakesCall framing mid (refuses at) new → HasBadFrame framing start (bytes_fed calls) at
  calls_refuse start calls mid new at made refused =
      let moves = calls_move calls (nothing_fed_at start) mid made in
      let Q : P → Type 0 = λ place. BeginsBadly framing place mid.rest in
      record {
        frames = frames_given calls;
        rest = mid.rest;
        begins = calls_begin start calls mid made;
        bad = subst Q moves.place refused.1;
        before = refused.0 ∙ moves.offset ∙ omega arith;
      }

-- two decoders that were fed the same bytes and wait gave the same frames, in whatever pieces the bytes came
pub calls_agree : {P F : Type 0} (framing : Framing P F) → IsFraming framing → (start : P) (calls others : List (Call F))
    (mid new mid' new' : Decoding P) →
    bytes_fed calls ≡ bytes_fed others → MakeCalls framing (nothing_fed_at start) calls mid → MakesCall framing mid waits new →
    MakeCalls framing (nothing_fed_at start) others mid' → MakesCall framing mid' waits new' → frames_given calls ≡ frames_given others
calls_agree framing sound start calls others mid new mid' new' same made waits_there made' waits_there' =
    let a = calls_wait framing start calls mid new made waits_there in
    let b = calls_wait framing start others mid' new' made' waits_there' in
    let Q : List ℕ → Type 0 = λ l. BeginsWith framing start l (frames_given others) b.rest in
    (same_reading framing sound start (bytes_fed calls) (frames_given calls) (frames_given others) a.rest b.rest a.begins (inl a.unfinished)
    (subst Q (sym same) b.begins) (inl b.unfinished)).0
