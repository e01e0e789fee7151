-- What asking for the next frame answers, by what stands at the front of the bytes left.
use Rattle.std.proofs.Common.{◌≡◌, ◌∙◌, sym, ap, ℕ, ◌<◌, ◌*◌, ◌≤◌, false, List, length, drop, inl, Ok, Err, Some, None}
use Rattle.std.proofs.Common.{arith, length-drop, refl}
use Rattle.std.proofs.lemmas.Bool.{both_ways}
use Rattle.pm_wire.specs.Framing.{Framing, IsFraming, IsUnfinished, BeginsBadly}
use Rattle.pm_wire.specs.Decoding.{Decoding, with_refusal, GivesFrame, HoldsLittle}
use Rattle.pm_wire.specs.Calls.{GivesNext}
use Rattle.pm_wire.specs.declared.fault.DecodeFault.TheVariants.{Bad}
use Rattle.pm_wire.proofs.Places.{whole_not_bad, whole_not_unfinished, bad_not_unfinished, whole_same}

-- if at most half of the buffer is of frames given, the rest is at least half
pub holds_little : (start : ℕ) (buffer : List ℕ) → 2 * start ≤ length buffer → length buffer ≤ 2 * length (drop start buffer)
holds_little start buffer half = omega (arith, half, length-drop start buffer)

module _ {P F : Type 0} (framing : Framing P F) (sound : IsFraming framing) (old new : Decoding P) (little : HoldsLittle new) where
  -- a whole frame is given
  pub gives_whole : (frame : F) → GivesFrame framing old frame new → GivesNext framing old (Ok (Some frame)) new
  gives_whole frame gives = record {
    given = gives;
    nothing = tt;
    bad = tt;
    no_memory = λ e. absurd (cc e);
    gives = λ other more stands e. inl (ap (λ (f : F). Ok (Some f))
        (whole_same framing sound old.place old.rest frame other new.rest more gives.stands stands gives.bytes e).0);
    waits = λ unfinished. absurd (whole_not_unfinished framing sound old.place old.rest frame new.rest gives.stands gives.bytes unfinished);
    refuses = λ bad. absurd (whole_not_bad framing sound old.place old.rest frame new.rest gives.stands gives.bytes bad);
    always = λ told. absurd (both_ways old.refused gives.none_refused told);
    little = little;
    short = tt;
    call = gives;
  }

  -- of less than a frame nothing is given
  pub gives_none : IsUnfinished framing old.place old.rest → new ≡ old → old.refused ≡ false → length new.rest < framing.most_bytes →
      GivesNext framing old (Ok None) new
  gives_none unfinished same none short = record {
    given = tt;
    nothing = (unfinished, same);
    bad = tt;
    no_memory = λ e. absurd (cc e);
    gives = λ frame more stands e. absurd (whole_not_unfinished framing sound old.place old.rest frame more stands e unfinished);
    waits = λ is. inl refl;
    refuses = λ bad. absurd (bad_not_unfinished framing sound old.place old.rest bad unfinished);
    always = λ told. absurd (both_ways old.refused none told);
    little = little;
    short = short;
    call = (unfinished, same);
  }

  -- a bad frame is refused
  pub gives_bad : (at : ℕ) → at ≡ old.offset → BeginsBadly framing old.place old.rest → new ≡ with_refusal old →
      GivesNext framing old (Err (Bad at)) new
  gives_bad at is bad same = record {
    given = tt;
    nothing = tt;
    bad = λ other e.
        let named : at ≡ other = cc e in
        (sym named ∙ is, bad, same);
    no_memory = λ e. absurd (cc e);
    gives = λ frame more stands e. absurd (whole_not_bad framing sound old.place old.rest frame more stands e bad);
    waits = λ unfinished. absurd (bad_not_unfinished framing sound old.place old.rest bad unfinished);
    refuses = λ begins. inl (ap (λ (n : ℕ). Err (Bad n)) is);
    always = λ told. ap (λ (n : ℕ). Err (Bad n)) is;
    little = little;
    short = tt;
    call = (is, bad, same);
  }
