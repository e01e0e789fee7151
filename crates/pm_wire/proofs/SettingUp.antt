-- That want of memory comes only where some was refused, or where a frame sets the service up.
use Rattle.std.proofs.Common.{◌≡◌, ◌∙◌, sym, ap, subst, ℕ, ◌≤◌, List, [], ◌∷◌, ◌++◌, length, Option}
use Rattle.std.proofs.Common.{append_assoc, inl, inr, ◌⊎◌}
use Rattle.std.specs.Io.KnownBytes.{Consumes}
use Rattle.std.proofs.KnownBytes.{Consumes-trans}
use Rattle.std.proofs.lemmas.List.{append-nil}
use Rattle.pm_io.specs.Causes.{Rose}
use Rattle.pm_wire.specs.Framing.{Framing, stream_bytes, place_behind, AllStand, BeginsWith, HasFrames, IsUnfinished}
use Rattle.pm_wire.specs.Decoding.{Decoding, GivesFrame, with_piece}
use Rattle.pm_wire.specs.Taking.{TakesSome}
use Rattle.pm_wire.specs.Services.{Serving}
use Rattle.pm_wire.specs.SettingUp.{StopsSettingUp, EndsSettingUp}
use Rattle.pm_wire.proofs.Ending.{rose_later}
use Rattle.pm_wire.proofs.Lists.{all_stand-append, stream_bytes-append}

-- frames at the front of bytes, and more at the front of what stands behind them
begins-append : {P F : Type 0} (framing : Framing P F) (start : P) (bytes mid rest : List ℕ) (fs gs : List F) → BeginsWith framing start bytes fs mid →
    BeginsWith framing (place_behind framing start fs) mid gs rest → BeginsWith framing start bytes (fs ++ gs) rest
begins-append framing start bytes mid rest fs gs first second = record {
  stand = all_stand-append framing start fs gs first.stand second.stand;
  spelled = first.spelled ∙ ap (λ l. stream_bytes framing fs ++ l) second.spelled
      ∙ sym (append_assoc (stream_bytes framing fs) (stream_bytes framing gs) rest)
      ∙ ap (λ l. l ++ rest) (sym (stream_bytes-append framing fs gs));
}

-- a frame that was given behind frames that were taken
pub stops_at : {P F S : Type 0} (framing : Framing P F) (Answers : S → F → S → List ℕ → Type 0) (SetsUp : F → Type 0) (frame : F)
    (a b c : Decoding P) (m n : S) (out out' : List ℕ) → TakesSome framing Answers a b m n out out' → GivesFrame framing b frame c → SetsUp frame →
    StopsSettingUp framing SetsUp a c
stops_at {P = P} framing Answers SetsUp frame a b c m n out out' taken gives sets = record {
  frames = taken.frames;
  frame = frame;
  begins = begins-append framing a.place a.rest b.rest c.rest taken.frames (frame ∷ []) (record { stand = taken.takes.stand; spelled = taken.takes.spelled })
      (let Q : P → Type 0 = λ place. AllStand framing place (frame ∷ []) in
      record {
        stand = subst Q taken.takes.place (gives.stands, tt);
        spelled = gives.bytes ∙ ap (λ l. l ++ c.rest) (sym (append-nil (framing.frame_bytes frame)));
      });
  sets_up = sets;
}

-- where the last piece has such a frame
pub ends_at_piece : {P F S : Type 0} (framing : Framing P F) (start : P) (Answers : S → F → S → List ℕ → Type 0) (SetsUp : F → Type 0) (most : ℕ)
    (first : S) (old mid new held holds : Option (List ℕ)) (a c : Decoding P) (m : S) (count : ℕ) (piece : List ℕ) →
    Serving framing start Answers first old mid held holds a m count → Consumes mid new piece → length piece ≤ most →
    StopsSettingUp framing SetsUp (with_piece a piece) c → EndsSettingUp framing start SetsUp most old new
ends_at_piece {P = P} framing start Answers SetsUp most first old mid new held holds a c m count piece serving consumes few stops =
    let Q : P → Type 0 = λ place. BeginsWith framing place (a.rest ++ piece) (stops.frames ++ stops.frame ∷ []) c.rest in
    let R : P → Type 0 = λ place. IsUnfinished framing place a.rest in
    let follows = serving.follows in
    record {
      before = serving.input;
      piece = piece;
      frames = serving.frames;
      more = stops.frames;
      frame = stops.frame;
      rest = c.rest;
      consumes = Consumes-trans old mid new serving.input piece serving.consumes consumes;
      few = few;
      whole = record { rest = a.rest; begins = follows.begins; unfinished = subst R follows.place serving.unfinished };
      begins = begins-append framing start (serving.input ++ piece) (a.rest ++ piece) c.rest serving.frames (stops.frames ++ stops.frame ∷ [])
          (record {
            stand = follows.begins.stand;
            spelled = ap (λ l. l ++ piece) follows.begins.spelled ∙ append_assoc (stream_bytes framing serving.frames) a.rest piece;
          })
          (subst Q follows.place stops.begins);
      sets_up = stops.sets_up;
    }

-- a count that rose later rose since an earlier moment, and what else may be is handed on
pub wants_first : (A B : Type 0) (first before now : ℕ) → first ≤ before → (A → B) → Rose before now ⊎ A → Rose first now ⊎ B
wants_first A B first before now kept on (inl rose) = inl (rose_later first before now kept rose)
wants_first A B first before now kept on (inr a) = inr (on a)

-- the same, the other way round
pub wants_of : (A B : Type 0) (first before now : ℕ) → first ≤ before → (A → B) → A ⊎ Rose before now → Rose first now ⊎ B
wants_of A B first before now kept on (inl a) = inr (on a)
wants_of A B first before now kept on (inr rose) = inl (rose_later first before now kept rose)
