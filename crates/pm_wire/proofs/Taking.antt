-- Frames that were given and taken one after the other.
use Rattle.std.proofs.Common.{◌≡◌, ◌∙◌, sym, ap, refl, subst, ℕ, ◌+◌}
use Rattle.std.proofs.Common.{◌*◌, ◌<◌, ◌≤◌, List, [], ◌∷◌, ◌++◌, length, arith}
use Rattle.std.proofs.Common.{append_assoc, length-append}
use Rattle.std.proofs.lemmas.List.{append-nil}
use Rattle.std.proofs.Math.Nat.{mul-le-mul_left, mul-add}
use Rattle.pm_wire.specs.Framing.{Framing, IsFraming, stream_bytes, place_behind, MayStand, AllStand, BeginsBadly}
use Rattle.pm_wire.specs.Decoding.{Decoding, GivesFrame, with_piece, with_refusal}
use Rattle.pm_wire.specs.Taking.{Runs, CanTake, TakesFrame, Agrees, Takes, TakesSome, TakesUpToBad, AreBehind, count_limit}
use Rattle.pm_wire.proofs.Lists.{all_stand-append, place_behind-append, stream_bytes-append, stream_length}
use Rattle.pm_wire.proofs.Places.{frame_length}

-- ---- runs of a service

-- where frames lead to a state, and other frames on from it, both lead there one behind the other
pub runs-append : {S F : Type 0} (Answers : S → F → S → List ℕ → Type 0) (fs gs : List F) (a b c : S) (x y : List ℕ) → Runs Answers a fs b x →
    Runs Answers b gs c y → Runs Answers a (fs ++ gs) c (x ++ y)
runs-append {S = S} Answers [] gs a b c x y first second =
    let A : S → Type 0 = λ s. Runs Answers s gs c (x ++ y) in
    let B : List ℕ → Type 0 = λ l. Runs Answers b gs c (l ++ y) in
    subst A first.0 (subst B (sym first.1) second)
runs-append {S = S} Answers (f ∷ fs) gs a b c x y first second = (
  first.0,
  first.1,
  first.2 ++ y,
  first.3,
  runs-append Answers fs gs first.0 b c first.2 y first.4 second,
  ap (λ l. l ++ y) first.5 ∙ append_assoc first.1 first.2 y,
)

-- ---- frames given by a decoder and taken by a service

module _ {P F S : Type 0} (framing : Framing P F) (Answers : S → F → S → List ℕ → Type 0) where
  -- no frame was taken
  pub takes_none : (a : Decoding P) (m : S) (out : List ℕ) → TakesSome framing Answers a a m m out out
  takes_none a m out = record {
    frames = [];
    reply = [];
    takes = record { stand = tt; spelled = refl; offset = omega arith; place = refl; runs = (refl, refl) };
    appended = sym (append-nil out);
  }

  -- one frame was taken
  takes_one : (old new : Decoding P) (frame : F) (m n : S) (reply : List ℕ) → GivesFrame framing old frame new → Answers m frame n reply →
      Takes framing Answers (frame ∷ []) old new m n reply
  takes_one old new frame m n reply gives answers = record {
    stand = (gives.stands, tt);
    spelled = gives.bytes ∙ ap (λ l. l ++ new.rest) (sym (append-nil (framing.frame_bytes frame)));
    offset = gives.offset ∙ ap (λ l. old.offset + length l) (sym (append-nil (framing.frame_bytes frame)));
    place = gives.place;
    runs = (n, reply, [], answers, (refl, refl), sym (append-nil reply));
  }

  -- some frames were taken, and then others
  takes-trans : (fs gs : List F) (a b c : Decoding P) (m n o : S) (x y : List ℕ) → Takes framing Answers fs a b m n x →
      Takes framing Answers gs b c n o y → Takes framing Answers (fs ++ gs) a c m o (x ++ y)
  takes-trans fs gs a b c m n o x y first second =
      let A : P → Type 0 = λ place. AllStand framing place gs in
      record {
        stand = all_stand-append framing a.place fs gs first.stand (subst A first.place second.stand);
        spelled = first.spelled ∙ ap (λ l. stream_bytes framing fs ++ l) second.spelled
            ∙ sym (append_assoc (stream_bytes framing fs) (stream_bytes framing gs) c.rest)
            ∙ ap (λ l. l ++ c.rest) (sym (stream_bytes-append framing fs gs));
        offset = omega (
          arith,
          first.offset,
          second.offset,
          ap length (stream_bytes-append framing fs gs),
          length-append (stream_bytes framing fs) (stream_bytes framing gs),
        );
        place = second.place ∙ ap (λ p. place_behind framing p gs) first.place ∙ sym (place_behind-append framing a.place fs gs);
        runs = runs-append Answers fs gs m n o x y first.runs second.runs;
      }

  -- some frames were taken, and one more
  pub takes_more : (frame : F) (a b c : Decoding P) (m n o : S) (out0 out out' : List ℕ) → TakesSome framing Answers a b m n out0 out →
      GivesFrame framing b frame c → TakesFrame Answers n frame o out out' → TakesSome framing Answers a c m o out0 out'
  takes_more frame a b c m n o out0 out out' taken gives one = record {
    frames = taken.frames ++ frame ∷ [];
    reply = taken.reply ++ one.reply;
    takes = takes-trans taken.frames (frame ∷ []) a b c m n o taken.reply one.reply taken.takes
        (takes_one b c frame n o one.reply gives one.answers);
    appended = one.appended ∙ ap (λ l. l ++ one.reply) taken.appended ∙ append_assoc out0 taken.reply one.reply;
  }

  -- how many bytes the frames and the rest have, together, stays
  pub takes_length : (fs : List F) (old new : Decoding P) (m n : S) (reply : List ℕ) → Takes framing Answers fs old new m n reply →
      new.offset + length new.rest ≡ old.offset + length old.rest
  takes_length fs old new m n reply takes =
      omega (arith, takes.offset, ap length takes.spelled, length-append (stream_bytes framing fs) new.rest)

  -- a decoder that told a bad frame is where it was, at the front of the bad frame
  pub takes_refused : (a b c : Decoding P) (m n : S) (out out' : List ℕ) (at : ℕ) → TakesSome framing Answers a b m n out out' →
      (at ≡ b.offset) × BeginsBadly framing b.place b.rest × (c ≡ with_refusal b) → TakesUpToBad framing Answers a c m n out out' at
  takes_refused a b c m n out out' at taken told =
      let A : Decoding P → Type 0 = λ d. TakesUpToBad framing Answers a d m n out out' at in
      subst A (sym told.2) (record {
        some = record {
          frames = taken.frames;
          reply = taken.reply;
          takes = record {
            stand = taken.takes.stand;
            spelled = taken.takes.spelled;
            offset = taken.takes.offset;
            place = taken.takes.place;
            runs = taken.takes.runs;
          };
          appended = taken.appended;
        };
        bad = told.1;
        offset = told.0;
      })

  -- with one more piece, and the frames that are whole with it
  pub follows_more : (start : P) (first : S) (bytes piece : List ℕ) (frames more : List F) (old new : Decoding P) (m n : S) (x y : List ℕ) →
      AreBehind framing start Answers first bytes frames old m x → Takes framing Answers more (with_piece old piece) new m n y →
      AreBehind framing start Answers first (bytes ++ piece) (frames ++ more) new n (x ++ y)
  follows_more start first bytes piece frames more old new m n x y follows takes =
      let A : P → Type 0 = λ place. AllStand framing place more in
      record {
        begins = record {
          stand = all_stand-append framing start frames more follows.begins.stand (subst A follows.place takes.stand);
          spelled = ap (λ l. l ++ piece) follows.begins.spelled ∙ append_assoc (stream_bytes framing frames) old.rest piece
              ∙ ap (λ l. stream_bytes framing frames ++ l) takes.spelled
              ∙ sym (append_assoc (stream_bytes framing frames) (stream_bytes framing more) new.rest)
              ∙ ap (λ l. l ++ new.rest) (sym (stream_bytes-append framing frames more));
        };
        place = takes.place ∙ ap (λ p. place_behind framing p more) follows.place ∙ sym (place_behind-append framing start frames more);
        offset = omega (
          arith,
          takes.offset,
          follows.offset,
          ap length (stream_bytes-append framing frames more),
          length-append (stream_bytes framing frames) (stream_bytes framing more),
        );
        runs = runs-append Answers frames more first m n x y follows.runs takes.runs;
      }

  -- how many bytes were fed
  pub follows_length : (start : P) (first : S) (bytes : List ℕ) (frames : List F) (decoding : Decoding P) (m : S) (x : List ℕ) →
      AreBehind framing start Answers first bytes frames decoding m x → length bytes ≡ decoding.offset + length decoding.rest
  follows_length start first bytes frames decoding m x follows = omega (
    arith,
    ap length follows.begins.spelled,
    length-append (stream_bytes framing frames) decoding.rest,
    follows.offset,
  )

-- ---- a service that agrees with its decoder

module _ {P F S : Type 0} (framing : Framing P F) (sound : IsFraming framing) (Begins : P → S → Type 0)
    (Answers : S → F → S → List ℕ → Type 0) where
  -- what a decoder and a service agree on they agree on behind frames
  pub agrees_more : (fs : List F) (old new : Decoding P) (m n : S) (reply : List ℕ) → Takes framing Answers fs old new m n reply →
      Agrees framing Begins Answers old m → Agrees framing Begins Answers new n
  agrees_more fs old new m n reply takes agrees =
      let A : P → Type 0 = λ place. AllStand framing place fs in
      record {
        start = agrees.start;
        first = agrees.first;
        frames = agrees.frames ++ fs;
        reply = agrees.reply ++ reply;
        begins = agrees.begins;
        stand = all_stand-append framing agrees.start agrees.frames fs agrees.stand (subst A agrees.place takes.stand);
        runs = runs-append Answers agrees.frames fs agrees.first m n agrees.reply reply agrees.runs takes.runs;
        place = takes.place ∙ ap (λ p. place_behind framing p fs) agrees.place ∙ sym (place_behind-append framing agrees.start agrees.frames fs);
        few = omega (
          arith,
          agrees.few,
          takes.offset,
          stream_length framing sound fs old.place takes.stand,
          length-append agrees.frames fs,
        );
      }

  -- the frame that the decoder gives may be taken
  pub can_take : (frame : F) (old b c : Decoding P) (m n : S) (out out' : List ℕ) → TakesSome framing Answers old b m n out out' →
      Agrees framing Begins Answers old m → GivesFrame framing b frame c → old.offset + length old.rest < count_limit →
      CanTake framing Begins Answers n frame
  can_take frame old b c m n out out' taken agrees gives fits =
      let now = agrees_more taken.frames old b m n taken.reply taken.takes agrees in
      let A : P → Type 0 = λ place. MayStand framing place frame in
      record {
        start = now.start;
        first = now.first;
        frames = now.frames;
        reply = now.reply;
        begins = now.begins;
        stand = now.stand;
        runs = now.runs;
        stands = subst A now.place gives.stands;
        few = omega (arith, now.few, fits, takes_length framing Answers taken.frames old b m n taken.reply taken.takes);
      }

  -- a decoder and a service behind the first frames of the bytes fed agree
  pub follows_agrees : (start : P) (first : S) (bytes : List ℕ) (frames : List F) (decoding : Decoding P) (m : S) (x : List ℕ) →
      Begins start first → AreBehind framing start Answers first bytes frames decoding m x → Agrees framing Begins Answers decoding m
  follows_agrees start first bytes frames decoding m x begins follows = record {
    start = start;
    first = first;
    frames = frames;
    reply = x;
    begins = begins;
    stand = follows.begins.stand;
    runs = follows.runs;
    place = follows.place;
    few = omega (arith, follows.offset, stream_length framing sound frames start follows.begins.stand);
  }

  -- a frame that is given takes a byte at least off the rest, which pays for its answers
  pub answers_paid : (old new : Decoding P) (frame : F) (most begun out first rest : ℕ) → GivesFrame framing old frame new → out ≤ begun + most →
      begun + most * length old.rest ≤ first + most * rest → out + most * length new.rest ≤ first + most * rest
  answers_paid old new frame most begun out first rest gives few kept =
      let spelled : length old.rest ≡ length (framing.frame_bytes frame) + length new.rest =
      ap length gives.bytes ∙ length-append (framing.frame_bytes frame) new.rest in
      let some = frame_length framing sound old.place frame gives.stands.formed in
      let more : most * (1 + length new.rest) ≤ most * length old.rest = mul-le-mul_left most (omega (arith, spelled, some)) in
      omega (arith, few, kept, more, mul-add most 1 (length new.rest))
