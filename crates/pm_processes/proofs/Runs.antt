-- What a process read, and what it wrote of the answers.
use Rattle.std.proofs.Common.{◌≡◌, ◌⊎◌, ◌∙◌, sym, ap, ℕ, ◌-◌, List, [], ◌++◌, length, take, Option}
use Rattle.std.proofs.Common.{refl, inl, inr, arith, append-nil}
use Rattle.std.proofs.lemmas.Bool.{cases_lt}
use Rattle.std.proofs.lemmas.List.{take-append-le, take_all}
use Rattle.std.proofs.Math.Seq.{take-append-add}
use Rattle.pm_basis.specs.Prices.{BasisValue}
use Rattle.pm_wire.specs.Framing.{Framing, Stops, BeginsBadly, BeginsWith, place_behind, stream_bytes}
use Rattle.pm_wire.specs.Taking.{Runs, AnswersFrom}
use Rattle.pm_wire.specs.Services.{IsReplyDue, answered, refused, fault_bytes}
use Rattle.pm_wire.specs.Services as services
use Rattle.pm_services.specs.Outputs.{Output, outputs_bytes}
use Rattle.pm_lives.proofs.Cutting.{cut_anywhere}
use Rattle.pm_processes.specs.Processes.{IsProcess, Wrote}

-- the frames that it read, and their answers
pub record Ran {P F S : Type 0} (framing : Framing P F) (start : P) (Answers : S → F → S → List ℕ → Type 0) (state : S) (took wrote : List ℕ) :
    Type 0 where
  -- the whole frames that it took
  pub frames : List F
  pub rest : List ℕ
  -- the bytes taken begin with them
  pub begins : BeginsWith framing start took frames rest
  pub stops : Stops framing (place_behind framing start frames) rest
  -- its state behind them
  pub after : S
  pub reply : List ℕ
  -- they lead to this state and this reply
  pub runs : Runs Answers state frames after reply
  pub beyond : List ℕ
  -- what it did not write of the reply
  pub more : List ℕ
  pub spelled : reply ++ beyond ≡ wrote ++ more

module _ {P F S : Type 0} (framing : Framing P F) (start : P) (Answers : S → F → S → List ℕ → Type 0) (state : S) (took wrote : List ℕ) where
  stops_at : (place : P) (left : Option (List ℕ)) (rest : List ℕ) →
      BeginsBadly framing place rest ⊎ services.EndsInside framing left took place rest → Stops framing place rest
  stops_at place left rest (inl bad) = inr bad
  stops_at place left rest (inr inside) = inl inside.unfinished

  from_due : (left : Option (List ℕ)) (due more : List ℕ) → IsReplyDue framing start (AnswersFrom Answers state) left took due →
      due ≡ wrote ++ more → Ran framing start Answers state took wrote
  from_due left _ more (answered frames reply has answers) spelled = record {
    frames = frames;
    rest = has.rest;
    begins = has.begins;
    stops = inl has.unfinished;
    after = answers.0;
    reply = reply;
    runs = answers.1;
    beyond = [];
    more = more;
    spelled = append-nil reply ∙ spelled;
  }
  from_due left _ more (refused frames due fault answers) spelled = record {
    frames = frames;
    rest = fault.rest;
    begins = fault.begins;
    stops = stops_at (place_behind framing start frames) left fault.rest fault.bad;
    after = answers.answers.0;
    reply = answers.reply;
    runs = answers.answers.1;
    beyond = fault_bytes (length (stream_bytes framing frames));
    more = more;
    spelled = sym answers.spelled ∙ spelled;
  }

  -- a process ran so
  pub ran : IsProcess framing start (AnswersFrom Answers state) took wrote → Ran framing start Answers state took wrote
  ran is = from_due is.left is.due is.more is.is_due is.spelled

-- what was written of a reply is its first bytes, or all of it and more
pub wrote_of : {K : Type 0} (kept : K → List ℕ) (basis : BasisValue) (child : ℕ) (outs : List (Output K)) (reply beyond wrote more : List ℕ) →
    reply ≡ outputs_bytes kept basis child outs → reply ++ beyond ≡ wrote ++ more → Wrote kept basis child outs wrote
wrote_of kept basis child outs reply beyond wrote more is spelled =
    let all : List ℕ = outputs_bytes kept basis child outs in
    let same : all ++ beyond ≡ wrote ++ more = ap (λ (l : List ℕ). l ++ beyond) (sym is) ∙ spelled in
    let first : wrote ≡ take (length wrote) (all ++ beyond) =
    sym (take-append-le (length wrote) wrote more (omega arith) ∙ take_all (length wrote) wrote (omega arith)) ∙ ap (take (length wrote)) (sym same) in
    elim (cases_lt (length all) (length wrote)) [
      | inl past ↦ record {
        many = length all;
        cut = cut_anywhere kept basis child outs (length all);
        beyond = take (length wrote - length all) beyond;
        wrote_is = first ∙ ap (λ (i : ℕ). take i (all ++ beyond)) (omega (arith, past))
            ∙ take-append-add all beyond (length wrote - length all)
            ∙ ap (λ (l : List ℕ). l ++ take (length wrote - length all) beyond) (sym (take_all (length all) all (omega arith)));
        at_end = inr (take_all (length all) all (omega arith));
      }
      | inr within ↦ record {
        many = length wrote;
        cut = cut_anywhere kept basis child outs (length wrote);
        beyond = [];
        wrote_is = first ∙ take-append-le (length wrote) all beyond (omega (arith, within)) ∙ sym (append-nil (take (length wrote) all));
        at_end = inl refl;
      }
    ]
