-- The ways in which a service ends, as what its source had says.
use Rattle.std.proofs.Common.{◌≡◌, ◌∙◌, sym, ap, refl, subst, ℕ, ◌<◌, ◌≤◌, List, ◌++◌}
use Rattle.std.proofs.Common.{length, Option, None, Some, arith}
use Rattle.std.proofs.Common.{length-append, inl, inr, ◌⊎◌}
use Rattle.std.specs.Io.KnownBytes.{Appends, Consumes, IsAtEnd}
use Rattle.std.proofs.lemmas.List.{append-nil}
use Rattle.pm_io.specs.Taken.{taken_bytes}
use Rattle.pm_io.proofs.TakenLemmas.{taken_bytes-Consumes}
use Rattle.pm_wire.specs.declared.stream.Served.{Served}
use Rattle.pm_wire.specs.declared.stream.Served.TheVariants.{Done, Refused, TooLong, ReadFault, WriteFault, NoMemory}
use Rattle.pm_wire.specs.Framing.{Framing, IsFraming, stream_bytes, place_behind, BeginsWith, AreFrames, HasBadFrame, EndsWithin, Stops}
use Rattle.pm_wire.specs.Services.{stream_limit, fault_bytes, HasFault, IsDone, IsRefused, IsLongStream, FailsReading, TellsFault}
use Rattle.pm_wire.specs.Services.{EndsSo}
use Rattle.pm_wire.specs.Due.{EndsAsDue}
use Rattle.pm_wire.proofs.OneReading.{same_reading, has_not_bad, frames_not_bad, frames_not_within, bad_stays, begins_more}
use Rattle.pm_wire.proofs.Places.{bad_more}

-- what was said of the statuses that tell of the bytes
pub record Outcomes {P F : Type 0} (framing : Framing P F) (start : P) (Answer : List F → List ℕ → Type 0) (old new held holds : Option (List ℕ))
    (rose_source rose_sink : Type 0) (result : Served) : Type 0 where
  -- at Done the input was read to its end, is a list of frames and was answered
  pub done : result ≡ Done → IsDone framing start Answer old new held holds
  -- at Refused the answers before a bad or unfinished frame were written, and its fault
  pub refused : result ≡ Refused → IsRefused framing start Answer old new held holds
  -- at TooLong more bytes than the limit were taken, and all their whole frames were answered
  pub too_long : result ≡ TooLong → IsLongStream framing start Answer old new held holds
  -- at ReadFault the source failed, and all whole frames of the bytes taken were answered
  pub read_fault : result ≡ ReadFault → rose_source × FailsReading framing start Answer old new held holds
  -- at WriteFault the sink failed
  pub write_fault : result ≡ WriteFault → rose_sink

-- what is known of a service that ended in the way that is told
pub ended_so : {P F : Type 0} (framing : Framing P F) (start : P) (Answer : List F → List ℕ → Type 0) (old new held holds : Option (List ℕ))
    (r k : Type 0)
    (result way : Served) → EndsSo framing start Answer old new held holds r k result → result ≡ way →
    EndsSo framing start Answer old new held holds r k way
ended_so framing start Answer old new held holds r k result way ends is =
    let Q : Served → Type 0 = EndsSo framing start Answer old new held holds r k in subst Q is ends

-- the same of a stream whose first frame stands at an equal place
pub begins_at : {P F : Type 0} (framing : Framing P F) (start other : P) (Answer : List F → List ℕ → Type 0) (old new held holds : Option (List ℕ))
    (r k : Type 0) (result : Served) → start ≡ other → EndsSo framing start Answer old new held holds r k result →
    EndsSo framing other Answer old new held holds r k result
begins_at {P = P} framing start other Answer old new held holds r k result is ends =
    let Q : P → Type 0 = λ p. EndsSo framing p Answer old new held holds r k result in subst Q is ends

-- what was said of the statuses, of a source that tells all that it has
pub said : {P F : Type 0} (framing : Framing P F) (start : P) (Answer : List F → List ℕ → Type 0) (all : List ℕ)
    (old new held holds : Option (List ℕ))
    (r k : Type 0) (result : Served) → old ≡ Some all → EndsSo framing start Answer old new held holds r k result →
    Outcomes framing start Answer (Some all) new held holds r k result
said framing start Answer all old new held holds r k result is ends =
    let Q : Option (List ℕ) → Type 0 = λ o. Outcomes framing start Answer o new held holds r k result in
    subst Q is (record {
      done = ended_so framing start Answer old new held holds r k result Done ends;
      refused = ended_so framing start Answer old new held holds r k result Refused ends;
      too_long = ended_so framing start Answer old new held holds r k result TooLong ends;
      read_fault = ended_so framing start Answer old new held holds r k result ReadFault ends;
      write_fault = λ e. (ended_so framing start Answer old new held holds r k result WriteFault ends e).0;
    })

-- the source had the bytes taken, and these behind them
pub record Splits (all input : List ℕ) : Type 0 where
  -- the bytes that were left
  pub more : List ℕ
  pub is : all ≡ input ++ more

-- the bytes left behind those that were taken
pub splits : (all input : List ℕ) (new : Option (List ℕ)) → Consumes (Some all) new input → Splits all input
splits all input None consumes = absurd consumes
splits all input (Some left) consumes = record { more = left; is = consumes }

-- at the end of the source the bytes taken are all that it had
pub whole : (all input : List ℕ) (new : Option (List ℕ)) → Consumes (Some all) new input → IsAtEnd new → input ≡ all
whole all input None consumes at_end = absurd consumes
whole all input (Some left) consumes at_end = sym (consumes ∙ ap (λ l. input ++ l) at_end ∙ append-nil input)

shorter : (all input : List ℕ) (new : Option (List ℕ)) → Consumes (Some all) new input → length input ≤ length all
shorter all input new consumes = let s = splits all input new consumes in omega (arith, ap length s.is, length-append input s.more)

-- the frames before a fault, and where they stop in all the bytes
pub record StopsIn {P F : Type 0} (framing : Framing P F) (start : P) (all : List ℕ) (fs : List F) : Type 0 where
  -- what stands behind the frames
  pub rest : List ℕ
  pub begins : BeginsWith framing start all fs rest
  -- no further frame is whole there
  pub stops : Stops framing (place_behind framing start fs) rest

module _ {P F : Type 0} (framing : Framing P F) (start : P) where
  -- a fault is a bad frame or an end within one
  pub fault_is : (new : Option (List ℕ)) (input : List ℕ) (frames : List F) → HasFault framing start new input frames →
      HasBadFrame framing start input (length (stream_bytes framing frames))
      ⊎ (IsAtEnd new × (length input ≤ stream_limit) × EndsWithin framing start input (length (stream_bytes framing frames)))
  fault_is new input frames fault = elim fault.bad [
    | inl bad ↦ inl (record { frames = frames; rest = fault.rest; begins = fault.begins; bad = bad; before = refl })
    | inr ends ↦ inr (
      ends.at_end,
      ends.short,
      record {
        frames = frames;
        rest = fault.rest;
        begins = fault.begins;
        unfinished = ends.unfinished;
        some = ends.some;
        before = refl;
      },
    )
  ]

  -- equal bytes have a bad frame at the same offset
  pub move_bad : (a b : List ℕ) (n : ℕ) → a ≡ b → HasBadFrame framing start a n → HasBadFrame framing start b n
  move_bad a b n e bad = let Q : List ℕ → Type 0 = λ l. HasBadFrame framing start l n in subst Q e bad

  -- equal bytes end within a frame at the same offset
  pub move_end : (a b : List ℕ) (n : ℕ) → a ≡ b → EndsWithin framing start a n → EndsWithin framing start b n
  move_end a b n e ends = let Q : List ℕ → Type 0 = λ l. EndsWithin framing start l n in subst Q e ends

  -- equal bytes are the same frames
  pub move_frames : (a b : List ℕ) (frames : List F) → a ≡ b → AreFrames framing start a frames → AreFrames framing start b frames
  move_frames a b frames e are = let Q : List ℕ → Type 0 = λ l. AreFrames framing start l frames in subst Q e are

  -- the frames before a fault stop there in all the bytes
  pub fault_stops : (all : List ℕ) (new : Option (List ℕ)) (x : List ℕ) (fs : List F) → Consumes (Some all) new x →
      HasFault framing start new x fs → StopsIn framing start all fs
  fault_stops all new x fs consumes fault =
      let s = splits all x new consumes in
      let Q : List ℕ → Type 0 = λ l. BeginsWith framing start l fs (fault.rest ++ s.more) in
      let R : List ℕ → Type 0 = λ l. BeginsWith framing start l fs fault.rest in
      elim fault.bad [
        | inl bad ↦ record {
          rest = fault.rest ++ s.more;
          begins = subst Q (sym s.is) (begins_more framing start x s.more fs fault.rest fault.begins);
          stops = inr (bad_more framing _ fault.rest s.more bad);
        }
        | inr ends ↦ record {
          rest = fault.rest;
          begins = subst R (whole all x new consumes ends.at_end) fault.begins;
          stops = inl ends.unfinished;
        }
      ]

module _ {P F : Type 0} (framing : Framing P F) (sound : IsFraming framing) (start : P) (Answer : List F → List ℕ → Type 0) where
  -- where the bytes taken have a bad frame, the service ends with Refused, WriteFault or NoMemory
  pub bad_frame : (all : List ℕ) (new held holds : Option (List ℕ)) (r k : Type 0) (result : Served) (n : ℕ) →
      Outcomes framing start Answer (Some all) new held holds r k result → HasBadFrame framing start (taken_bytes (Some all) new) n →
      (result ≡ Refused) ⊎ (result ≡ WriteFault) ⊎ (result ≡ NoMemory)
  bad_frame all new held holds r k Done n out bad =
      let d = out.done refl in
      absurd (frames_not_bad framing sound start d.input d.frames n d.are_frames
      (move_bad framing start _ _ n (taken_bytes-Consumes all new d.input d.consumes) bad))
  bad_frame all new held holds r k Refused n out bad = inl refl
  bad_frame all new held holds r k TooLong n out bad =
      let d = out.too_long refl in
      absurd (has_not_bad framing sound start d.input d.answered.frames n d.answered.has
      (move_bad framing start _ _ n (taken_bytes-Consumes all new d.input d.answered.consumes) bad))
  bad_frame all new held holds r k ReadFault n out bad =
      let d = (out.read_fault refl).1 in
      absurd (has_not_bad framing sound start d.0 d.1.frames n d.1.has (move_bad framing start _ _ n (taken_bytes-Consumes all new d.0 d.1.consumes) bad))
  bad_frame all new held holds r k WriteFault n out bad = inr (inl refl)
  bad_frame all new held holds r k NoMemory n out bad = inr (inr refl)

  refused_long : (all : List ℕ) (new held holds : Option (List ℕ)) → IsRefused framing start Answer (Some all) new held holds →
      stream_limit < length (taken_bytes (Some all) new) → ((n : ℕ) → HasBadFrame framing start (taken_bytes (Some all) new) n → ⊥) → ⊥
  refused_long all new held holds d long none =
      let same = taken_bytes-Consumes all new d.input d.consumes in
      elim (fault_is framing start new d.input d.frames d.fault) [
        | inl bad ↦ none _ (move_bad framing start _ _ _ (sym same) bad)
        | inr ends ↦ omega (arith, ends.1, ap length same, long)
      ]

  -- where it took more bytes than the limit and no bad frame, it ends with TooLong, WriteFault or NoMemory
  pub took_more : (all : List ℕ) (new held holds : Option (List ℕ)) (r k : Type 0) (result : Served) →
      Outcomes framing start Answer (Some all) new held holds r k result → stream_limit < length (taken_bytes (Some all) new) →
      ((n : ℕ) → HasBadFrame framing start (taken_bytes (Some all) new) n → ⊥) → (result ≡ TooLong) ⊎ (result ≡ WriteFault) ⊎
      (result ≡ NoMemory)
  took_more all new held holds r k Done out long none =
      let d = out.done refl in
      absurd (omega (arith, ap length (taken_bytes-Consumes all new d.input d.consumes), d.short, long))
  took_more all new held holds r k Refused out long none = absurd (refused_long all new held holds (out.refused refl) long none)
  took_more all new held holds r k TooLong out long none = inl refl
  took_more all new held holds r k ReadFault out long none =
      let d = (out.read_fault refl).1 in
      absurd (omega (arith, ap length (taken_bytes-Consumes all new d.0 d.1.consumes), d.2, long))
  took_more all new held holds r k WriteFault out long none = inr (inl refl)
  took_more all new held holds r k NoMemory out long none = inr (inr refl)

  -- an input that is refused is no list of frames
  pub refused_frames : (all : List ℕ) (new held holds : Option (List ℕ)) (frames : List F) →
      IsRefused framing start Answer (Some all) new held holds → AreFrames framing start all frames → ⊥
  refused_frames all new held holds frames d are =
      let s = splits all d.input new d.consumes in
      elim (fault_is framing start new d.input d.frames d.fault) [
        | inl bad ↦ frames_not_bad framing sound start all frames _ are
            (move_bad framing start _ _ _ (sym s.is) (bad_stays framing start d.input s.more _ bad))
        | inr ends ↦ frames_not_within framing sound start all frames _ are
            (move_end framing start _ _ _ (whole all d.input new d.consumes ends.0) ends.2)
      ]

  -- an input within the limit that is a list of frames ends with Done, ReadFault, WriteFault or NoMemory
  pub frames : (all : List ℕ) (new held holds : Option (List ℕ)) (r k : Type 0) (result : Served) (list : List F) →
      Outcomes framing start Answer (Some all) new held holds r k result → length all ≤ stream_limit → AreFrames framing start all list →
      (result ≡ Done) ⊎ (result ≡ ReadFault) ⊎ (result ≡ WriteFault) ⊎ (result ≡ NoMemory)
  frames all new held holds r k Done list out short are = inl refl
  frames all new held holds r k Refused list out short are = absurd (refused_frames all new held holds list (out.refused refl) are)
  frames all new held holds r k TooLong list out short are =
      let d = out.too_long refl in
      absurd (omega (arith, d.long, shorter all d.input new d.answered.consumes, short))
  frames all new held holds r k ReadFault list out short are = inr (inl refl)
  frames all new held holds r k WriteFault list out short are = inr (inr (inl refl))
  frames all new held holds r k NoMemory list out short are = inr (inr (inr refl))

  done_refusal : (all : List ℕ) (new held holds : Option (List ℕ)) (n : ℕ) → IsDone framing start Answer (Some all) new held holds →
      HasBadFrame framing start all n ⊎ EndsWithin framing start all n → ⊥
  done_refusal all new held holds n d (inl bad) =
      frames_not_bad framing sound start all d.frames n (move_frames framing start _ _ _ (whole all d.input new d.consumes d.at_end) d.are_frames) bad
  done_refusal all new held holds n d (inr ends) =
      frames_not_within framing sound start all d.frames n (move_frames framing start _ _ _ (whole all d.input new d.consumes d.at_end) d.are_frames) ends

  -- an input within the limit that has a bad frame or ends within one ends with neither Done nor TooLong
  pub refusal : (all : List ℕ) (new held holds : Option (List ℕ)) (r k : Type 0) (result : Served) (n : ℕ) →
      Outcomes framing start Answer (Some all) new held holds r k result → length all ≤ stream_limit →
      HasBadFrame framing start all n ⊎ EndsWithin framing start all n →
      (result ≡ Refused) ⊎ (result ≡ ReadFault) ⊎ (result ≡ WriteFault) ⊎ (result ≡ NoMemory)
  refusal all new held holds r k Done n out short bad = absurd (done_refusal all new held holds n (out.done refl) bad)
  refusal all new held holds r k Refused n out short bad = inl refl
  refusal all new held holds r k TooLong n out short bad =
      let d = out.too_long refl in
      absurd (omega (arith, d.long, shorter all d.input new d.answered.consumes, short))
  refusal all new held holds r k ReadFault n out short bad = inr (inl refl)
  refusal all new held holds r k WriteFault n out short bad = inr (inr (inl refl))
  refusal all new held holds r k NoMemory n out short bad = inr (inr (inr refl))

  -- an input within the limit ends with Done, Refused or NoMemory where neither source nor sink failed
  pub complete : (all : List ℕ) (new held holds : Option (List ℕ)) (r k : Type 0) (result : Served) →
      Outcomes framing start Answer (Some all) new held holds r k result → length all ≤ stream_limit → (r → ⊥) → (k → ⊥) →
      (result ≡ Done) ⊎ (result ≡ Refused) ⊎ (result ≡ NoMemory)
  complete all new held holds r k Done out short calm quiet = inl refl
  complete all new held holds r k Refused out short calm quiet = inr (inl refl)
  complete all new held holds r k TooLong out short calm quiet =
      let d = out.too_long refl in
      absurd (omega (arith, d.long, shorter all d.input new d.answered.consumes, short))
  complete all new held holds r k ReadFault out short calm quiet = absurd (calm (out.read_fault refl).0)
  complete all new held holds r k WriteFault out short calm quiet = absurd (quiet (out.write_fault refl))
  complete all new held holds r k NoMemory out short calm quiet = inr (inr refl)

  -- ---- the offset that a fault tells

  -- the frames before a fault are as long as what stands before the bad frame, or before the one within which the bytes end
  fault_before : (all : List ℕ) (frames : List F) (n : ℕ) → StopsIn framing start all frames →
      HasBadFrame framing start all n ⊎ EndsWithin framing start all n → n ≡ length (stream_bytes framing frames)
  fault_before all frames n stops (inl bad) =
      let same = same_reading framing sound start all frames bad.frames stops.rest bad.rest stops.begins stops.stops bad.begins (inr bad.bad) in
      bad.before ∙ ap (λ l. length (stream_bytes framing l)) (sym same.0)
  fault_before all frames n stops (inr ends) =
      let same = same_reading framing sound start all frames ends.frames stops.rest ends.rest stops.begins stops.stops ends.begins (inl ends.unfinished) in
      ends.before ∙ ap (λ l. length (stream_bytes framing l)) (sym same.0)

  -- a service that is refused tells the offset of the bad frame, or of the one within which the input ends
  pub fault_told : (all : List ℕ) (new held holds : Option (List ℕ)) (n : ℕ) → IsRefused framing start Answer (Some all) new held holds →
      HasBadFrame framing start all n ⊎ EndsWithin framing start all n → TellsFault framing start Answer all held holds n
  fault_told all new held holds n d bad =
      let stops = fault_stops framing start all new d.input d.frames d.consumes d.fault in
      let is = fault_before all d.frames n stops bad in
      let Q : List ℕ → Type 0 = λ l. Appends held holds l in
      let R : ℕ → Type 0 = λ k. Appends held holds (d.answers.reply ++ fault_bytes k) in
      record {
        frames = d.frames;
        rest = stops.rest;
        reply = d.answers.reply;
        begins = stops.begins;
        before = is;
        answers = d.answers.answers;
        appends = subst R (sym is) (subst Q d.answers.spelled d.appends);
      }

  -- how a service ends is as due, where its source tells all that it has
  pub as_due : (all : List ℕ) (old new held holds : Option (List ℕ)) (r k : Type 0) (result : Served) → old ≡ Some all →
      EndsSo framing start Answer old new held holds r k result → EndsAsDue framing start Answer all old new held holds r k result
  as_due all old new held holds r k result is ends =
      let out = said framing start Answer all old new held holds r k result is ends in
      let Q : Option (List ℕ) → Type 0 = λ o. EndsAsDue framing start Answer all o new held holds r k result in
      subst Q (sym is) (record {
        bad_frame = λ offset bad. bad_frame all new held holds r k result offset out bad;
        took_more = λ long none. took_more all new held holds r k result out long none;
        frames = λ list short are. frames all new held holds r k result list out short are;
        refusal = λ offset short bad. refusal all new held holds r k result offset out short bad;
        complete = λ short calm quiet. complete all new held holds r k result out short calm quiet;
        fault = λ offset refused bad. fault_told all new held holds offset (out.refused refused) bad;
      })
