-- What is appended is of the bytes alone, and what a service holds that ended early is a beginning of what a service holds that ends whole.
use Rattle.std.proofs.Common.{◌≡◌, ◌≢◌, ◌∙◌, sym, ap, subst, refl, ℕ, ◌<◌, List, [], ◌++◌, length, take}
use Rattle.std.proofs.Common.{drop, Option, None, Some, arith, append_assoc, length-append, length-drop, take-append-drop, inl, inr}
use Rattle.std.specs.Io.KnownBytes.{Appends, Consumes}
use Rattle.std.proofs.lemmas.List.{append-nil}
use Rattle.pm_io.proofs.TakenLemmas.{taken_bytes-Consumes}
use Rattle.pm_wire.specs.Framing.{Framing, IsFraming, stream_bytes, place_behind, BeginsWith, HasBadFrame, Stops}
use Rattle.pm_wire.specs.Services.{stream_limit, fault_bytes, HasFault, AnswersAndFault, IsReplyDue, answered, refused, IsDone, IsRefused, IsAnswered}
use Rattle.pm_wire.specs.Services.{FailsReading, IsLongStream, IsCutShort, IsBegun, EndsWhole, HoldsFirstAnswers, HoldsLess, HaveOneAnswer}
use Rattle.pm_wire.proofs.OneReading.{first_frames, same_reading, begins_more, bad_stays}
use Rattle.pm_wire.proofs.Outcomes.{splits, whole, move_bad, move_frames, fault_is, fault_stops, refused_frames}

-- bytes that are appended to known ones are known
known : (held text : List ℕ) (holds : Option (List ℕ)) → Appends (Some held) holds text → holds ≡ Some (held ++ text)
known held text None appends = absurd appends
known held text (Some x) appends = ap (λ l. Some l) appends

-- the rest of a list, behind fewer elements than it has, is not empty
rest_some : (due more : List ℕ) (n : ℕ) → n < length due → drop n due ++ more ≢ []
rest_some due more n less none = omega (arith, less, ap length none, length-append (drop n due) more, length-drop n due)

part_of : (held due more : List ℕ) (n : ℕ) (holds kept : Option (List ℕ)) → n < length due → Appends (Some held) holds (take n due) →
    kept ≡ Some (held ++ (due ++ more)) → HoldsLess held holds kept
part_of held due more n holds kept less appends is = record {
  written = take n due;
  more = drop n due ++ more;
  some = rest_some due more n less;
  first = known held (take n due) holds appends;
  whole = is ∙ ap (λ l. Some (held ++ l)) (ap (λ l. l ++ more) (sym (take-append-drop n due)) ∙ append_assoc (take n due) (drop n due) more);
}

-- the frames behind which the input stops, and the answers to them at the beginning of what is held
record Answered {P F : Type 0} (framing : Framing P F) (start : P) (Answer : List F → List ℕ → Type 0) (all held : List ℕ) (kept : Option (List ℕ)) :
    Type 0 where
  frames : List F
  rest : List ℕ
  reply : List ℕ
  more : List ℕ
  begins : BeginsWith framing start all frames rest
  stops : Stops framing (place_behind framing start frames) rest
  answers : Answer frames reply
  is : kept ≡ Some (held ++ (reply ++ more))

module _ {P F : Type 0} (framing : Framing P F) (sound : IsFraming framing) (start : P) (Answer : List F → List ℕ → Type 0)
    (same : HaveOneAnswer Answer) where
  -- the answers to equal frames are equal
  one_reply : (fs gs : List F) (x y : List ℕ) → fs ≡ gs → Answer fs x → Answer gs y → x ≡ y
  one_reply fs gs x y is first second =
      let Q : List F → Type 0 = λ l. Answer l y in
      same.one fs x y first (subst Q (sym is) second)

  -- ---- two services that end alike

  -- two services of the same input and held bytes that are both done leave the same bytes held
  pub one_done : (all held : List ℕ) (new other holds kept : Option (List ℕ)) → IsDone framing start Answer (Some all) new (Some held) holds →
      IsDone framing start Answer (Some all) other (Some held) kept → holds ≡ kept
  one_done all held new other holds kept a b =
      let x = move_frames framing start _ _ _ (whole all a.input new a.consumes a.at_end) a.are_frames in
      let y = move_frames framing start _ _ _ (whole all b.input other b.consumes b.at_end) b.are_frames in
      let frames = same_reading framing sound start all a.frames b.frames [] [] x (inl tt) y (inl tt) in
      known held a.reply holds a.appends ∙ ap (λ l. Some (held ++ l)) (one_reply a.frames b.frames a.reply b.reply frames.0 a.answers b.answers)
      ∙ sym (known held b.reply kept b.appends)

  -- the fault behind equal frames is the same
  one_due : (fs gs : List F) (x y : List ℕ) → fs ≡ gs → AnswersAndFault framing Answer fs x → AnswersAndFault framing Answer gs y → x ≡ y
  one_due fs gs x y is a b =
      a.spelled ∙ ap (λ l. l ++ fault_bytes (length (stream_bytes framing fs))) (one_reply fs gs a.reply b.reply is a.answers b.answers)
      ∙ ap (λ l. b.reply ++ fault_bytes (length (stream_bytes framing l))) is ∙ sym b.spelled

  fault_frames : (all : List ℕ) (new other : Option (List ℕ)) (x y : List ℕ) (fs gs : List F) → Consumes (Some all) new x →
      Consumes (Some all) other y → HasFault framing start new x fs → HasFault framing start other y gs → fs ≡ gs
  fault_frames all new other x y fs gs cx cy f g =
      let a = fault_stops framing start all new x fs cx f in
      let b = fault_stops framing start all other y gs cy g in
      (same_reading framing sound start all fs gs a.rest b.rest a.begins a.stops b.begins b.stops).0

  -- two services of the same input and held bytes that are both refused leave the same bytes held
  pub one_refused : (all held : List ℕ) (new other holds kept : Option (List ℕ)) →
      IsRefused framing start Answer (Some all) new (Some held) holds → IsRefused framing start Answer (Some all) other (Some held) kept → holds ≡ kept
  one_refused all held new other holds kept a b =
      let frames = fault_frames all new other a.input b.input a.frames b.frames a.consumes b.consumes a.fault b.fault in
      known held a.due holds a.appends ∙ ap (λ l. Some (held ++ l)) (one_due a.frames b.frames a.due b.due frames a.answers b.answers)
      ∙ sym (known held b.due kept b.appends)

  -- of the same input no service is done where another is refused
  pub not_both : (all held : List ℕ) (new other holds kept : Option (List ℕ)) → IsDone framing start Answer (Some all) new (Some held) holds →
      IsRefused framing start Answer (Some all) other (Some held) kept → ⊥
  not_both all held new other holds kept a b =
      refused_frames framing sound start Answer all other (Some held) kept a.frames b
      (move_frames framing start _ _ _ (whole all a.input new a.consumes a.at_end) a.are_frames)

  -- two services that answered all whole frames of the same bytes hold the same
  pub one_answered : (all held input taken : List ℕ) (new holds kept : Option (List ℕ)) →
      IsAnswered framing start Answer (Some all) new (Some held) holds input → IsAnswered framing start Answer (Some all) new (Some held) kept taken →
      holds ≡ kept
  one_answered all held input taken new holds kept a b =
      let bytes : input ≡ taken = sym (taken_bytes-Consumes all new input a.consumes) ∙ taken_bytes-Consumes all new taken b.consumes in
      let Q : List ℕ → Type 0 = λ l. BeginsWith framing start l b.frames b.has.rest in
      let frames = same_reading framing sound start input a.frames b.frames a.has.rest b.has.rest a.has.begins (inl a.has.unfinished)
      (subst Q (sym bytes) b.has.begins) (inl b.has.unfinished) in
      known held a.reply holds a.appends ∙ ap (λ l. Some (held ++ l)) (one_reply a.frames b.frames a.reply b.reply frames.0 a.answers b.answers)
      ∙ sym (known held b.reply kept b.appends)

  -- the same bytes are not both within the limit and past it
  pub within_or_past : (all held : List ℕ) (new holds kept : Option (List ℕ)) → FailsReading framing start Answer (Some all) new (Some held) holds →
      IsLongStream framing start Answer (Some all) new (Some held) kept → ⊥
  within_or_past all held new holds kept a b =
      let taken_a = ap length (taken_bytes-Consumes all new a.0 a.1.consumes) in
      let taken_b = ap length (taken_bytes-Consumes all new b.input b.answered.consumes) in
      omega (arith, a.2, b.long, taken_a, taken_b)

  -- an input past the limit ends whole only with a bad frame
  pub past_the_limit : (all held : List ℕ) (new holds : Option (List ℕ)) → stream_limit < length all →
      EndsWhole framing start Answer (Some all) new (Some held) holds → (offset : ℕ) × HasBadFrame framing start all offset
  past_the_limit all held new holds long (inl d) =
      absurd (omega (arith, long, d.short, ap length (whole all d.input new d.consumes d.at_end)))
  past_the_limit all held new holds long (inr d) =
      let s = splits all d.input new d.consumes in
      elim (fault_is framing start new d.input d.frames d.fault) [
        | inl bad ↦ (length (stream_bytes framing d.frames), move_bad framing start _ _ _ (sym s.is) (bad_stays framing start d.input s.more _ bad))
        | inr ends ↦ absurd (omega (arith, long, ends.1, ap length (whole all d.input new d.consumes ends.0)))
      ]

  -- ---- a service that ends whole

  done_answered : (all held : List ℕ) (other kept : Option (List ℕ)) → IsDone framing start Answer (Some all) other (Some held) kept →
      Answered framing start Answer all held kept
  done_answered all held other kept d = record {
    frames = d.frames;
    rest = [];
    reply = d.reply;
    more = [];
    begins = move_frames framing start d.input all d.frames (whole all d.input other d.consumes d.at_end) d.are_frames;
    stops = inl tt;
    answers = d.answers;
    is = known held d.reply kept d.appends ∙ ap (λ l. Some (held ++ l)) (sym (append-nil d.reply));
  }

  refused_answered : (all held : List ℕ) (other kept : Option (List ℕ)) → IsRefused framing start Answer (Some all) other (Some held) kept →
      Answered framing start Answer all held kept
  refused_answered all held other kept d =
      let stopped = fault_stops framing start all other d.input d.frames d.consumes d.fault in
      record {
        frames = d.frames;
        rest = stopped.rest;
        reply = d.answers.reply;
        more = fault_bytes (length (stream_bytes framing d.frames));
        begins = stopped.begins;
        stops = stopped.stops;
        answers = d.answers.answers;
        is = known held d.due kept d.appends ∙ ap (λ l. Some (held ++ l)) d.answers.spelled;
      }

  whole_answered : (all held : List ℕ) (other kept : Option (List ℕ)) → EndsWhole framing start Answer (Some all) other (Some held) kept →
      Answered framing start Answer all held kept
  whole_answered all held other kept (inl done) = done_answered all held other kept done
  whole_answered all held other kept (inr refusal) = refused_answered all held other kept refusal

  -- ---- whole answers to first frames

  -- what bytes begin with, all of the input begins with
  in_all : (all input rest : List ℕ) (new : Option (List ℕ)) (frames : List F) → Consumes (Some all) new input →
      BeginsWith framing start input frames rest → (behind : List ℕ) × BeginsWith framing start all frames (rest ++ behind)
  in_all all input rest new frames consumes begins =
      let s = splits all input new consumes in
      let Q : List ℕ → Type 0 = λ l. BeginsWith framing start l frames (rest ++ s.more) in
      (s.more, subst Q (sym s.is) (begins_more framing start input s.more frames rest begins))

  -- behind the answers to the first frames stand those to the others
  more_answers : (all held rest reply : List ℕ) (kept : Option (List ℕ)) (frames : List F) → BeginsWith framing start all frames rest →
      Answer frames reply → Answered framing start Answer all held kept → (more : List ℕ) × (kept ≡ Some (held ++ (reply ++ more)))
  more_answers all held rest reply kept frames begins answers w =
      let later = first_frames framing sound start frames w.frames rest w.rest begins.stand w.begins.stand w.stops
      (sym begins.spelled ∙ w.begins.spelled) in
      let Q : List F → Type 0 = λ l. Answer l w.reply in
      let parts = same.goes_on frames later.0 reply w.reply answers (subst Q later.1 w.answers) in
      (parts.0 ++ w.more, w.is ∙ ap (λ l. Some (held ++ l)) (ap (λ l. l ++ w.more) parts.1 ∙ append_assoc reply parts.0 w.more))

  first_answers : (all held input rest reply : List ℕ) (new holds kept : Option (List ℕ)) (frames : List F) → Consumes (Some all) new input →
      BeginsWith framing start input frames rest → Answer frames reply → Appends (Some held) holds reply →
      Answered framing start Answer all held kept → HoldsFirstAnswers framing start Answer all held holds kept
  first_answers all held input rest reply new holds kept frames consumes begins answers appends w =
      let b = in_all all input rest new frames consumes begins in
      let more = more_answers all held (rest ++ b.0) reply kept frames b.1 answers w in
      record {
        frames = frames;
        rest = rest ++ b.0;
        reply = reply;
        more = more.0;
        begins = b.1;
        answers = answers;
        first = known held reply holds appends;
        whole = more.1;
      }

  answered_first : (all held input : List ℕ) (new other holds kept : Option (List ℕ)) →
      IsAnswered framing start Answer (Some all) new (Some held) holds input → EndsWhole framing start Answer (Some all) other (Some held) kept →
      HoldsFirstAnswers framing start Answer all held holds kept
  answered_first all held input new other holds kept d ends =
      first_answers all held input d.has.rest d.reply new holds kept d.frames d.consumes d.has.begins d.answers d.appends
      (whole_answered all held other kept ends)

  -- where the source failed
  pub read_fault : (all held : List ℕ) (new other holds kept : Option (List ℕ)) →
      FailsReading framing start Answer (Some all) new (Some held) holds → EndsWhole framing start Answer (Some all) other (Some held) kept →
      HoldsFirstAnswers framing start Answer all held holds kept
  read_fault all held new other holds kept d ends = answered_first all held d.0 new other holds kept d.1 ends

  -- where the input was too long
  pub too_long : (all held : List ℕ) (new other holds kept : Option (List ℕ)) →
      IsLongStream framing start Answer (Some all) new (Some held) holds → EndsWhole framing start Answer (Some all) other (Some held) kept →
      HoldsFirstAnswers framing start Answer all held holds kept
  too_long all held new other holds kept d ends = answered_first all held d.input new other holds kept d.answered ends

  -- where memory was short
  pub no_memory : (all held : List ℕ) (new other holds kept : Option (List ℕ)) → IsBegun framing start Answer (Some all) new (Some held) holds →
      EndsWhole framing start Answer (Some all) other (Some held) kept → HoldsFirstAnswers framing start Answer all held holds kept
  no_memory all held new other holds kept d ends =
      first_answers all held d.input d.rest d.reply new holds kept d.frames d.consumes d.begins d.answers d.appends
      (whole_answered all held other kept ends)

  -- ---- a part of what is due

  -- with the fault in it, what is due is what a service holds that is refused
  fault_whole : (all held input due : List ℕ) (new other kept : Option (List ℕ)) (frames : List F) → Consumes (Some all) new input →
      HasFault framing start new input frames → AnswersAndFault framing Answer frames due →
      EndsWhole framing start Answer (Some all) other (Some held) kept → kept ≡ Some (held ++ (due ++ []))
  fault_whole all held input due new other kept frames consumes fault answers ends =
      let refusal : IsRefused framing start Answer (Some all) new (Some held) (Some (held ++ due)) =
      record { input = input; frames = frames; due = due; consumes = consumes; fault = fault; answers = answers; appends = refl } in
      elim ends [
        | inl done ↦ absurd (not_both all held other new kept (Some (held ++ due)) done refusal)
        | inr theirs ↦ one_refused all held other new kept (Some (held ++ due)) theirs refusal ∙ ap (λ l. Some (held ++ l)) (sym (append-nil due))
      ]

  cut_short : (all held input due : List ℕ) (n : ℕ) (new other holds kept : Option (List ℕ)) → Consumes (Some all) new input →
      IsReplyDue framing start Answer new input due → n < length due → Appends (Some held) holds (take n due) →
      EndsWhole framing start Answer (Some all) other (Some held) kept → HoldsLess held holds kept
  cut_short all held input due n new other holds kept consumes (answered frames reply has answers) less appends ends =
      let b = in_all all input has.rest new frames consumes has.begins in
      let more = more_answers all held (has.rest ++ b.0) reply kept frames b.1 answers (whole_answered all held other kept ends) in
      part_of held reply more.0 n holds kept less appends more.1
  cut_short all held input due n new other holds kept consumes (refused frames text fault answers) less appends ends =
      part_of held text [] n holds kept less appends (fault_whole all held input text new other kept frames consumes fault answers ends)

  -- where the sink failed
  pub write_fault : (all held : List ℕ) (new other holds kept : Option (List ℕ)) →
      IsCutShort framing start Answer (Some all) new (Some held) holds → EndsWhole framing start Answer (Some all) other (Some held) kept →
      HoldsLess held holds kept
  write_fault all held new other holds kept d ends =
      cut_short all held d.input d.due d.written new other holds kept d.consumes d.is_due d.proper d.appends ends
