-- How a service ends, from where it was before the last piece.
use Rattle.std.proofs.Common.{◌≡◌, ◌∙◌, sym, ap, subst, refl, ℕ, ◌+◌, ◌-◌, ◌<◌, ◌≤◌, List, [], ◌++◌}
use Rattle.std.proofs.Common.{length, take, Option, None, Some}
use Rattle.std.proofs.Common.{arith, append_assoc, length-append, inl, inr, ◌⊎◌, Result, Ok, Err, OnOk, IfErr, is_err, true, false}
use Rattle.std.specs.Io.KnownBytes.{Appends, Consumes, IsAtEnd}
use Rattle.std.proofs.KnownBytes.{Appends-trans, Consumes-trans}
use Rattle.std.proofs.Math.Seq.{take-append-add}
use Rattle.std.proofs.lemmas.List.{append-nil, nil_from_length}
use Rattle.pm_io.specs.Causes.{Rose}
use Rattle.pm_io.specs.Peers.{MayWriteAll}
use Rattle.pm_wire.specs.Moments.{HasAnswered, IsRestDue, AsksWhatIsDue}
use Rattle.pm_wire.specs.declared.stream.Served.{Served}
use Rattle.pm_wire.specs.declared.stream.Served.TheVariants.{Refused, WriteFault, NoMemory}
use Rattle.pm_wire.specs.Framing.{Framing, stream_bytes, BeginsWith, HasFrames, IsUnfinished, BeginsBadly}
use Rattle.pm_wire.specs.Decoding.{Decoding, nothing_fed_at, with_piece}
use Rattle.pm_wire.specs.Taking.{AnswersFrom, TakesWhole, TakesUpToBad}
use Rattle.pm_wire.specs.Services.{stream_limit, fault_bytes, HasFault, AnswersAndFault, IsReplyDue, answered, refused, IsRefused, Serving}
use Rattle.pm_wire.specs.Services.{IsCutShort, IsBegun, IsDone, IsAnswered, IsLongStream, EndsSo}
use Rattle.pm_wire.proofs.OneReading.{begins_more}
use Rattle.pm_wire.proofs.Taking.{follows_more, follows_length}

-- a prefix of what is due behind what was written before
cut_short : {P F : Type 0} (framing : Framing P F) (start : P) (Answer : List F → List ℕ → Type 0) (old new held holds held' : Option (List ℕ))
    (input begun text due : List ℕ) (n : ℕ) → Consumes old new input → Appends held holds begun → IsReplyDue framing start Answer new input due →
    due ≡ begun ++ text → n < length text → Appends holds held' (take n text) → IsCutShort framing start Answer old new held held'
cut_short framing start Answer old new held holds held' input begun text due n consumes before is_due is proper appends =
    let Q : List ℕ → Type 0 = λ l. Appends held held' l in
    record {
      input = input;
      due = due;
      written = length begun + n;
      consumes = consumes;
      is_due = is_due;
      proper = omega (arith, ap length is, length-append begun text, proper);
      appends = subst Q (sym (take-append-add begun text n)
          ∙ ap (take (length begun + n)) (sym is)) (Appends-trans held holds held' begun (take n text) before appends);
    }

-- the rest of what is due behind what was written before
rest_due : {P F : Type 0} (framing : Framing P F) (start : P) (Answer : List F → List ℕ → Type 0) (old new held holds held' : Option (List ℕ))
    (input begun text due sent rest : List ℕ) → Consumes old new input → Appends held holds begun → IsReplyDue framing start Answer new input due →
    due ≡ begun ++ text → text ≡ sent ++ rest → Appends holds held' sent → IsRestDue framing start Answer old new held held' rest
rest_due framing start Answer old new held holds held' input begun text due sent rest consumes before is_due is split appends = record {
  input = input;
  due = due;
  sent = begun ++ sent;
  consumes = consumes;
  is_due = is_due;
  appends = Appends-trans held holds held' begun sent before appends;
  spelled = is ∙ ap (λ l. begun ++ l) split ∙ sym (append_assoc begun sent rest);
}

-- what is due where there is a fault behind the answers to these frames
record FaultDue {P F : Type 0} (framing : Framing P F) (start : P) (Answer : List F → List ℕ → Type 0) (new : Option (List ℕ))
    (input begun text : List ℕ) :
    Type 0 where
  frames : List F
  due : List ℕ
  fault : HasFault framing start new input frames
  answers : AnswersAndFault framing Answer frames due
  spelled : due ≡ begun ++ text

consumes_none : (left : Option (List ℕ)) → Consumes left left []
consumes_none None = tt
consumes_none (Some bytes) = refl

appends_none : (holds : Option (List ℕ)) → Appends holds holds []
appends_none None = tt
appends_none (Some bytes) = sym (append-nil bytes)

-- before the first piece nothing was taken and nothing appended
pub serving_none : {P F S : Type 0} (framing : Framing P F) (start : P) (Answers : S → F → S → List ℕ → Type 0) (first : S) (a : Decoding P)
    (left holds : Option (List ℕ)) → a ≡ nothing_fed_at start → Serving framing start Answers first left left holds holds a first 0
serving_none {P = P} framing start Answers first a left holds is =
    let Q : Decoding P → Type 0 = λ d. Serving framing start Answers first left left holds holds d first 0 in
    subst Q (sym is) (record {
      input = [];
      frames = [];
      reply = [];
      consumes = consumes_none left;
      counted = refl;
      follows = record { begins = record { stand = tt; spelled = refl }; place = refl; offset = refl; runs = (refl, refl) };
      unfinished = tt;
      appends = appends_none holds;
    })

module _ {P F S : Type 0} (framing : Framing P F) (start : P) (Answers : S → F → S → List ℕ → Type 0) (first : S) where
  -- ---- where the piece has a bad frame

  bad_due : (old mid new held holds : Option (List ℕ)) (a b : Decoding P) (m n : S) (count at : ℕ) (piece out longer : List ℕ)
      (serving : Serving framing start Answers first old mid held holds a m count) → out ≡ [] →
      TakesUpToBad framing Answers (with_piece a piece) b m n out longer at →
      FaultDue framing start (AnswersFrom Answers first) new (serving.input ++ piece) serving.reply (longer ++ fault_bytes at)
  bad_due old mid new held holds a b m n count at piece out longer serving empty found =
      let follows = follows_more framing Answers start first serving.input piece serving.frames found.some.frames a b m n serving.reply found.some.reply
      serving.follows found.some.takes in
      let Q : P → Type 0 = λ place. BeginsBadly framing place b.rest in
      let same : longer ≡ found.some.reply = found.some.appended ∙ ap (λ l. l ++ found.some.reply) empty in
      record {
        frames = serving.frames ++ found.some.frames;
        due = (serving.reply ++ found.some.reply) ++ fault_bytes (length (stream_bytes framing (serving.frames ++ found.some.frames)));
        fault = record { rest = b.rest; begins = follows.begins; bad = inl (subst Q follows.place found.bad) };
        answers = record { reply = serving.reply ++ found.some.reply; answers = (n, follows.runs); spelled = refl };
        spelled = append_assoc serving.reply found.some.reply _
            ∙ ap (λ k. serving.reply ++ (found.some.reply ++ fault_bytes k)) (sym (found.offset ∙ follows.offset))
            ∙ ap (λ l. serving.reply ++ (l ++ fault_bytes at)) (sym same);
      }

  -- what may be written of a piece with a bad frame
  pub bad_next : (old mid new held holds held' : Option (List ℕ)) (a b : Decoding P) (m n : S) (count at : ℕ)
      (piece out longer sent rest : List ℕ) → Serving framing start Answers first old mid held holds a m count → Consumes mid new piece → out ≡ [] →
      TakesUpToBad framing Answers (with_piece a piece) b m n out longer at → longer ++ fault_bytes at ≡ sent ++ rest → Appends holds held' sent →
      IsRestDue framing start (AnswersFrom Answers first) old new held held' rest
  bad_next old mid new held holds held' a b m n count at piece out longer sent rest serving consumes empty found split appends =
      let due = bad_due old mid new held holds a b m n count at piece out longer serving empty found in
      rest_due framing start (AnswersFrom Answers first) old new held holds held' (serving.input ++ piece) serving.reply (longer ++ fault_bytes at)
      due.due sent rest (Consumes-trans old mid new serving.input piece serving.consumes consumes) serving.appends
      (refused due.frames due.due due.fault due.answers) due.spelled split appends

  -- a piece with a bad frame whose answers and fault are all written ends the service as refused
  pub bad_refused : (old mid new held holds held' : Option (List ℕ)) (a b : Decoding P) (m n : S) (count at : ℕ) (piece out longer : List ℕ) →
      Serving framing start Answers first old mid held holds a m count → Consumes mid new piece → out ≡ [] →
      TakesUpToBad framing Answers (with_piece a piece) b m n out longer at → Appends holds held' (longer ++ fault_bytes at) →
      IsRefused framing start (AnswersFrom Answers first) old new held held'
  bad_refused old mid new held holds held' a b m n count at piece out longer serving consumes empty found appends =
      let due = bad_due old mid new held holds a b m n count at piece out longer serving empty found in
      let Q : List ℕ → Type 0 = λ l. Appends held held' l in
      record {
        input = serving.input ++ piece;
        frames = due.frames;
        due = due.due;
        consumes = Consumes-trans old mid new serving.input piece serving.consumes consumes;
        fault = due.fault;
        answers = due.answers;
        appends = subst Q (sym due.spelled) (Appends-trans held holds held' serving.reply _ serving.appends appends);
      }

  -- with a proper prefix written of the answers and fault of a piece with a bad frame a service is cut short
  pub bad_cut_short : (old mid new held holds held' : Option (List ℕ)) (a b : Decoding P) (m n : S) (count at written : ℕ)
      (piece out longer : List ℕ) → Serving framing start Answers first old mid held holds a m count → Consumes mid new piece → out ≡ [] →
      TakesUpToBad framing Answers (with_piece a piece) b m n out longer at → written < length (longer ++ fault_bytes at) →
      Appends holds held' (take written (longer ++ fault_bytes at)) → IsCutShort framing start (AnswersFrom Answers first) old new held held'
  bad_cut_short old mid new held holds held' a b m n count at written piece out longer serving consumes empty found proper appends =
      let due = bad_due old mid new held holds a b m n count at piece out longer serving empty found in
      cut_short framing start (AnswersFrom Answers first) old new held holds held' (serving.input ++ piece) serving.reply (longer ++ fault_bytes at)
      due.due written (Consumes-trans old mid new serving.input piece serving.consumes consumes) serving.appends
      (refused due.frames due.due due.fault due.answers) due.spelled proper appends

  -- ---- where no more memory was had

  -- where one more piece is taken and nothing more written, the first frames of the bytes taken were answered
  pub begun_by : (old mid new held holds held' : Option (List ℕ)) (a : Decoding P) (m : S) (count : ℕ) (piece : List ℕ) →
      Serving framing start Answers first old mid held holds a m count → Consumes mid new piece → holds ≡ held' →
      IsBegun framing start (AnswersFrom Answers first) old new held held'
  begun_by old mid new held holds held' a m count piece serving consumes same =
      let Q : Option (List ℕ) → Type 0 = λ now. Appends held now serving.reply in
      record {
        input = serving.input ++ piece;
        frames = serving.frames;
        rest = a.rest ++ piece;
        reply = serving.reply;
        consumes = Consumes-trans old mid new serving.input piece serving.consumes consumes;
        begins = begins_more framing start serving.input piece serving.frames a.rest serving.follows.begins;
        answers = (m, serving.follows.runs);
        appends = subst Q same serving.appends;
      }

  -- ---- where the piece has none

  -- with a proper prefix written of the answers to a piece without a bad frame a service is cut short
  pub piece_cut_short : (old mid new held holds held' : Option (List ℕ)) (a b : Decoding P) (m n : S) (count written : ℕ)
      (piece out longer : List ℕ) → Serving framing start Answers first old mid held holds a m count → Consumes mid new piece → out ≡ [] →
      TakesWhole framing Answers (with_piece a piece) b m n out longer → written < length longer → Appends holds held' (take written longer) →
      IsCutShort framing start (AnswersFrom Answers first) old new held held'
  piece_cut_short old mid new held holds held' a b m n count written piece out longer serving consumes empty found proper appends =
      let follows = follows_more framing Answers start first serving.input piece serving.frames found.some.frames a b m n serving.reply found.some.reply
      serving.follows found.some.takes in
      let frames = serving.frames ++ found.some.frames in
      let Q : P → Type 0 = λ place. IsUnfinished framing place b.rest in
      let has : HasFrames framing start (serving.input ++ piece) frames =
      record { rest = b.rest; begins = follows.begins; unfinished = subst Q follows.place found.unfinished } in
      let same : longer ≡ found.some.reply = found.some.appended ∙ ap (λ l. l ++ found.some.reply) empty in
      cut_short framing start (AnswersFrom Answers first) old new held holds held' (serving.input ++ piece) serving.reply longer
      (serving.reply ++ found.some.reply) written (Consumes-trans old mid new serving.input piece serving.consumes consumes) serving.appends
      (answered frames (serving.reply ++ found.some.reply) has (n, follows.runs)) (ap (λ l. serving.reply ++ l) (sym same)) proper appends

  -- what may be written of a piece without a bad frame
  pub piece_next : (old mid new held holds held' : Option (List ℕ)) (a b : Decoding P) (m n : S) (count : ℕ)
      (piece out longer sent rest : List ℕ) → Serving framing start Answers first old mid held holds a m count → Consumes mid new piece → out ≡ [] →
      TakesWhole framing Answers (with_piece a piece) b m n out longer → longer ≡ sent ++ rest → Appends holds held' sent →
      IsRestDue framing start (AnswersFrom Answers first) old new held held' rest
  piece_next old mid new held holds held' a b m n count piece out longer sent rest serving consumes empty found split appends =
      let follows = follows_more framing Answers start first serving.input piece serving.frames found.some.frames a b m n serving.reply found.some.reply
      serving.follows found.some.takes in
      let frames = serving.frames ++ found.some.frames in
      let Q : P → Type 0 = λ place. IsUnfinished framing place b.rest in
      let has : HasFrames framing start (serving.input ++ piece) frames =
      record { rest = b.rest; begins = follows.begins; unfinished = subst Q follows.place found.unfinished } in
      let same : longer ≡ found.some.reply = found.some.appended ∙ ap (λ l. l ++ found.some.reply) empty in
      rest_due framing start (AnswersFrom Answers first) old new held holds held' (serving.input ++ piece) serving.reply longer
      (serving.reply ++ found.some.reply) sent rest (Consumes-trans old mid new serving.input piece serving.consumes consumes) serving.appends
      (answered frames (serving.reply ++ found.some.reply) has (n, follows.runs)) (ap (λ l. serving.reply ++ l) (sym same)) split appends

  -- with a piece without a bad frame, and all its answers written, the service goes on, its bytes counted
  pub serving_more : (old mid new held holds held' : Option (List ℕ)) (a b : Decoding P) (m n : S) (count more : ℕ) (piece out longer : List ℕ) →
      Serving framing start Answers first old mid held holds a m count → Consumes mid new piece → length piece ≡ more → out ≡ [] →
      TakesWhole framing Answers (with_piece a piece) b m n out longer → Appends holds held' longer →
      Serving framing start Answers first old new held held' b n (count + more)
  serving_more old mid new held holds held' a b m n count more piece out longer serving consumes many empty found appends =
      let Q : List ℕ → Type 0 = λ l. Appends held held' (serving.reply ++ l) in
      record {
        input = serving.input ++ piece;
        frames = serving.frames ++ found.some.frames;
        reply = serving.reply ++ found.some.reply;
        consumes = Consumes-trans old mid new serving.input piece serving.consumes consumes;
        counted = omega (arith, serving.counted, length-append serving.input piece, many);
        follows = follows_more framing Answers start first serving.input piece serving.frames found.some.frames a b m n serving.reply found.some.reply
            serving.follows found.some.takes;
        unfinished = found.unfinished;
        appends = subst Q (found.some.appended ∙ ap (λ l. l ++ found.some.reply) empty)
            (Appends-trans held holds held' serving.reply longer serving.appends appends);
      }

  -- ---- where the input ends within a frame

  end_due : (old mid new held holds : Option (List ℕ)) (a : Decoding P) (m : S) (count left : ℕ) (out : List ℕ)
      (serving : Serving framing start Answers first old mid held holds a m count) → IsAtEnd new → count ≤ stream_limit → left ≡ length a.rest →
      0 < left → out ≡ [] → FaultDue framing start (AnswersFrom Answers first) new serving.input serving.reply (out ++ fault_bytes (count - left))
  end_due old mid new held holds a m count left out serving at_end short is some empty =
      let Q : P → Type 0 = λ place. IsUnfinished framing place a.rest in
      let at : count - left ≡ length (stream_bytes framing serving.frames) = omega (
        arith,
        is,
        follows_length framing Answers start first serving.input serving.frames a m serving.reply serving.follows,
        serving.counted,
        serving.follows.offset,
      ) in
      record {
        frames = serving.frames;
        due = serving.reply ++ fault_bytes (length (stream_bytes framing serving.frames));
        fault = record {
          rest = a.rest;
          begins = serving.follows.begins;
          bad = inr (record {
            at_end = at_end;
            short = omega (arith, serving.counted, short);
            some = λ none. omega (arith, some, is, ap length none);
            unfinished = subst Q serving.follows.place serving.unfinished;
          });
        };
        answers = record { reply = serving.reply; answers = (m, serving.follows.runs); spelled = refl };
        spelled = ap (λ k. serving.reply ++ fault_bytes k) (sym at) ∙ ap (λ l. serving.reply ++ (l ++ fault_bytes (count - left))) (sym empty);
      }

  no_more : (old mid new : Option (List ℕ)) (input : List ℕ) → Consumes old mid input → Consumes mid new [] → Consumes old new input
  no_more old mid new input before after =
      let Q : List ℕ → Type 0 = λ l. Consumes old new l in
      subst Q (append-nil input) (Consumes-trans old mid new input [] before after)

  -- an input within the limit that ends behind its last frame is done
  pub end_done : (old mid new held holds : Option (List ℕ)) (a : Decoding P) (m : S) (count : ℕ) →
      Serving framing start Answers first old mid held holds a m count → Consumes mid new [] → IsAtEnd new → count ≤ stream_limit →
      length a.rest ≡ 0 → IsDone framing start (AnswersFrom Answers first) old new held holds
  end_done old mid new held holds a m count serving consumes at_end short none =
      let Q : List ℕ → Type 0 = λ rest. BeginsWith framing start serving.input serving.frames rest in
      record {
        input = serving.input;
        frames = serving.frames;
        reply = serving.reply;
        consumes = no_more old mid new serving.input serving.consumes consumes;
        at_end = at_end;
        short = omega (arith, serving.counted, short);
        are_frames = subst Q (nil_from_length a.rest none) serving.follows.begins;
        answers = (m, serving.follows.runs);
        appends = serving.appends;
      }

  -- all whole frames of the bytes taken were answered, and no bad frame shows
  pub answered_so : (old new held holds : Option (List ℕ)) (a : Decoding P) (m : S) (count : ℕ)
      (serving : Serving framing start Answers first old new held holds a m count) →
      IsAnswered framing start (AnswersFrom Answers first) old new held holds serving.input
  answered_so old new held holds a m count serving =
      let Q : P → Type 0 = λ place. IsUnfinished framing place a.rest in
      record {
        frames = serving.frames;
        reply = serving.reply;
        consumes = serving.consumes;
        has = record {
          rest = a.rest;
          begins = serving.follows.begins;
          unfinished = subst Q serving.follows.place serving.unfinished;
        };
        answers = (m, serving.follows.runs);
        appends = serving.appends;
      }

  -- where more bytes than the limit were taken the stream is too long
  pub end_too_long : (old new held holds : Option (List ℕ)) (a : Decoding P) (m : S) (count : ℕ) →
      Serving framing start Answers first old new held holds a m count → stream_limit < count →
      IsLongStream framing start (AnswersFrom Answers first) old new held holds
  end_too_long old new held holds a m count serving long = record {
    input = serving.input;
    answered = answered_so old new held holds a m count serving;
    long = omega (arith, serving.counted, long);
  }

  -- what may be written where the input ends within a frame
  pub end_next : (old mid new held holds held' : Option (List ℕ)) (a : Decoding P) (m : S) (count left : ℕ) (out sent rest : List ℕ) →
      Serving framing start Answers first old mid held holds a m count → Consumes mid new [] → IsAtEnd new → count ≤ stream_limit →
      left ≡ length a.rest → 0 < left → out ≡ [] → out ++ fault_bytes (count - left) ≡ sent ++ rest → Appends holds held' sent →
      IsRestDue framing start (AnswersFrom Answers first) old new held held' rest
  end_next old mid new held holds held' a m count left out sent rest serving consumes at_end short is some empty split appends =
      let due = end_due old mid new held holds a m count left out serving at_end short is some empty in
      rest_due framing start (AnswersFrom Answers first) old new held holds held' serving.input serving.reply _ due.due sent rest
      (no_more old mid new serving.input serving.consumes consumes) serving.appends (refused due.frames due.due due.fault due.answers)
      due.spelled split appends

  -- when more is read, all that is due was written
  pub answered_all : (old new held holds : Option (List ℕ)) (a : Decoding P) (m : S) (count : ℕ) →
      Serving framing start Answers first old new held holds a m count → count ≤ stream_limit →
      HasAnswered framing start (AnswersFrom Answers first) old new held holds
  answered_all old new held holds a m count serving short =
      (serving.input, answered_so old new held holds a m count serving, omega (arith, serving.counted, short))

  -- an input within the limit that ends within a frame, and whose fault is written, ends as refused
  pub end_refused : (old mid new held holds held' : Option (List ℕ)) (a : Decoding P) (m : S) (count left : ℕ) (out : List ℕ) →
      Serving framing start Answers first old mid held holds a m count → Consumes mid new [] → IsAtEnd new → count ≤ stream_limit →
      left ≡ length a.rest → 0 < left → out ≡ [] → Appends holds held' (out ++ fault_bytes (count - left)) →
      IsRefused framing start (AnswersFrom Answers first) old new held held'
  end_refused old mid new held holds held' a m count left out serving consumes at_end short is some empty appends =
      let due = end_due old mid new held holds a m count left out serving at_end short is some empty in
      let Q : List ℕ → Type 0 = λ l. Appends held held' l in
      record {
        input = serving.input;
        frames = due.frames;
        due = due.due;
        consumes = no_more old mid new serving.input serving.consumes consumes;
        fault = due.fault;
        answers = due.answers;
        appends = subst Q (sym due.spelled) (Appends-trans held holds held' serving.reply _ serving.appends appends);
      }

  -- with a proper prefix written of the fault of an input that ends within a frame a service is cut short
  pub end_cut_short : (old mid new held holds held' : Option (List ℕ)) (a : Decoding P) (m : S) (count left written : ℕ) (out : List ℕ) →
      Serving framing start Answers first old mid held holds a m count → Consumes mid new [] → IsAtEnd new → count ≤ stream_limit →
      left ≡ length a.rest → 0 < left → out ≡ [] → written < length (out ++ fault_bytes (count - left)) →
      Appends holds held' (take written (out ++ fault_bytes (count - left))) → IsCutShort framing start (AnswersFrom Answers first) old new held held'
  end_cut_short old mid new held holds held' a m count left written out serving consumes at_end short is some empty proper appends =
      let due = end_due old mid new held holds a m count left out serving at_end short is some empty in
      cut_short framing start (AnswersFrom Answers first) old new held holds held' serving.input serving.reply _ due.due written
      (no_more old mid new serving.input serving.consumes consumes) serving.appends (refused due.frames due.due due.fault due.answers)
      due.spelled proper appends

-- ---- what the calls of a service answer

-- a read leaves what the peer got
pub serving_held : {P F S : Type 0} (framing : Framing P F) (start : P) (Answers : S → F → S → List ℕ → Type 0) (first : S)
    (old mid held holds holds' : Option (List ℕ)) (a : Decoding P) (m : S) (count : ℕ) → holds' ≡ holds →
    Serving framing start Answers first old mid held holds a m count → Serving framing start Answers first old mid held holds' a m count
serving_held framing start Answers first old mid held holds holds' a m count same serving =
    let Q : Option (List ℕ) → Type 0 = λ o. Serving framing start Answers first old mid held o a m count in
    subst Q (sym same) serving

-- a write leaves what the peer has to give
pub serving_left : {P F S : Type 0} (framing : Framing P F) (start : P) (Answers : S → F → S → List ℕ → Type 0) (first : S)
    (old mid mid' held holds : Option (List ℕ)) (a : Decoding P) (m : S) (count : ℕ) → mid' ≡ mid →
    Serving framing start Answers first old mid held holds a m count → Serving framing start Answers first old mid' held holds a m count
serving_left framing start Answers first old mid mid' held holds a m count same serving =
    let Q : Option (List ℕ) → Type 0 = λ o. Serving framing start Answers first old o held holds a m count in
    subst Q (sym same) serving

-- so it ends as before the last write
pub ends_at : {P F : Type 0} (framing : Framing P F) (start : P) (Answer : List F → List ℕ → Type 0) (old new new' held holds : Option (List ℕ))
    (r k : Type 0) (result : Served) → new' ≡ new → EndsSo framing start Answer old new held holds r k result →
    EndsSo framing start Answer old new' held holds r k result
ends_at framing start Answer old new new' held holds r k result same ends =
    let Q : Option (List ℕ) → Type 0 = λ o. EndsSo framing start Answer old o held holds r k result in
    subst Q (sym same) ends

-- where each rest of the text is due, the text may be written
pub may_write_all : {W P F : Type 0} (left held : W → Option (List ℕ)) (becomes : W → W → Type 0) (may_read : W → Type 0)
    (may_write : W → List ℕ → Type 0) (framing : Framing P F) (start : P) (Answer : List F → List ℕ → Type 0) (old at : W) (text : List ℕ) →
    ((a b c : W) → becomes a b → becomes b c → becomes a c) →
    AsksWhatIsDue left held becomes may_read may_write framing start Answer old → becomes old at →
    ((holds : Option (List ℕ)) (sent rest : List ℕ) → text ≡ sent ++ rest → Appends (held at) holds sent →
    IsRestDue framing start Answer (left old) (left at) (held old) holds rest) →
    MayWriteAll left held becomes may_write at text
may_write_all left held becomes may_read may_write framing start Answer old at text goes_on asks so due = λ now sent rest split later same appends.
    let Q : Option (List ℕ) → Type 0 = λ o. IsRestDue framing start Answer (left old) o (held old) (held now) rest in
    asks.write now rest (goes_on old at now so later) (subst Q (sym same) (due (held now) sent rest split appends))

-- a read of no bytes
pub none_read : (mid new : Option (List ℕ)) (buf : List ℕ) (count : ℕ) → count ≡ 0 → Consumes mid new (take count buf) → Consumes mid new []
none_read mid new buf count none consumes = let Q : ℕ → Type 0 = λ n. Consumes mid new (take n buf) in subst Q none consumes

-- a count that rose late has risen
pub rose_later : (a b c : ℕ) → a ≤ b → Rose b c → Rose a c
rose_later a b c le rose = omega (arith, le, rose)

-- a write that failed
pub failed : {T E : Type 0} (P Q R : E → Type 0) (r : Result T E) → is_err r ≡ true → IfErr r P → IfErr r Q → IfErr r R →
    (e : E) × P e × Q e × R e
failed P Q R (Ok x) is p q s = absurd (cc is)
failed P Q R (Err e) is p q s = (e, p, q, s)

-- a write that did not fail
pub not_failed : {T E : Type 0} (A : Type 0) (r : Result T E) → is_err r ≡ false → OnOk r A → A
not_failed A (Ok x) is a = a
not_failed A (Err e) is a = absurd (cc is)

-- the fault at the offset that was told
pub told_text : (holds held' : Option (List ℕ)) (reply : List ℕ) (told at : ℕ) → told ≡ at →
    Appends holds held' (reply ++ fault_bytes told) → Appends holds held' (reply ++ fault_bytes at)
told_text holds held' reply told at is appends = let Q : ℕ → Type 0 = λ n. Appends holds held' (reply ++ fault_bytes n) in subst Q is appends

-- so it is cut short as before the last write
pub cut_at : {P F : Type 0} (framing : Framing P F) (start : P) (Answer : List F → List ℕ → Type 0) (old new new' held holds : Option (List ℕ)) →
    new' ≡ new → IsCutShort framing start Answer old new held holds → IsCutShort framing start Answer old new' held holds
cut_at framing start Answer old new new' held holds same cut =
    let Q : Option (List ℕ) → Type 0 = λ o. IsCutShort framing start Answer old o held holds in
    subst Q (sym same) cut

-- what is left of answers and the fault told is left of answers and the fault at the equal offset
pub told_due : (reply text : List ℕ) (told at : ℕ) → told ≡ at → reply ++ fault_bytes told ≡ text → reply ++ fault_bytes at ≡ text
told_due reply text told at is split = let Q : ℕ → Type 0 = λ n. reply ++ fault_bytes n ≡ text in subst Q is split

-- a written prefix of answers and the fault told is one of answers and the fault at the equal offset
pub told_prefix : (holds held' : Option (List ℕ)) (reply : List ℕ) (told at n : ℕ) → told ≡ at →
    Appends holds held' (take n (reply ++ fault_bytes told)) → Appends holds held' (take n (reply ++ fault_bytes at))
told_prefix holds held' reply told at n is appends =
    let Q : ℕ → Type 0 = λ m. Appends holds held' (take n (reply ++ fault_bytes m)) in
    subst Q is appends

-- a number below the length of answers and the fault told is below that with the fault at the equal offset
pub told_proper : (reply : List ℕ) (told at n : ℕ) → told ≡ at → n < length (reply ++ fault_bytes told) → n < length (reply ++ fault_bytes at)
told_proper reply told at n is proper = let Q : ℕ → Type 0 = λ m. n < length (reply ++ fault_bytes m) in subst Q is proper

-- a refusal ends in one of three ways
pub refuse_ends : {P F : Type 0} (framing : Framing P F) (start : P) (Answer : List F → List ℕ → Type 0) (old new held holds : Option (List ℕ))
    (r k : Type 0) (result : Served) → (result ≡ Refused) ⊎ (result ≡ WriteFault) ⊎ (result ≡ NoMemory) →
    (result ≡ Refused → IsRefused framing start Answer old new held holds) →
    (result ≡ WriteFault → k × IsCutShort framing start Answer old new held holds) →
    (result ≡ NoMemory → IsBegun framing start Answer old new held holds) → EndsSo framing start Answer old new held holds r k result
refuse_ends framing start Answer old new held holds r k result either told cut begun =
    let Q : Served → Type 0 = EndsSo framing start Answer old new held holds r k in
    elim either [
      | inl e ↦ subst Q (sym e) (told e)
      | inr other ↦ elim other [
        | inl e ↦ subst Q (sym e) (cut e)
        | inr e ↦ subst Q (sym e) (begun e)
      ]
    ]
