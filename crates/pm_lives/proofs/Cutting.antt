-- A stream of frames that is cut at any byte.
use Rattle.std.proofs.Common.{◌∙◌, sym, ap, ℕ, suc, ◌-◌, List, [], ◌∷◌, ◌++◌, length, take, drop, refl, inl, inr, arith, append_assoc}
use Rattle.std.proofs.lemmas.Bool.{cases_lt}
use Rattle.std.proofs.lemmas.List.{take-append-le, length-take-le, take-append-drop, take_all}
use Rattle.std.proofs.Math.Seq.{take-append-add}
use Rattle.pm_basis.specs.Prices.{BasisValue}
use Rattle.pm_services.specs.Outputs.{Output, output_bytes, outputs_bytes}
use Rattle.pm_lives.specs.Cutting.{IsCutStream}

-- of a stream that is cut at any byte there are some first frames, whole, and nothing else or a part of the next one
pub cut_anywhere : {K : Type 0} (kept : K → List ℕ) (basis : BasisValue) (child : ℕ) (outs : List (Output K)) (m : ℕ) →
    IsCutStream kept basis child outs m
cut_anywhere kept basis child [] m = record { n = 0; rest = []; held = take_all m [] (omega arith); part = inl refl }
cut_anywhere kept basis child (out ∷ outs) m =
    let b : List ℕ = output_bytes kept basis child out in
    let bs : List ℕ = outputs_bytes kept basis child outs in
    elim (cases_lt m (length b)) [
      | inl lt ↦ record {
        n = 0;
        rest = take m b;
        held = take-append-le m b bs (omega (arith, lt));
        part = inr (omega (arith, lt, length-take-le m b (omega (arith, lt))), (drop m b, sym (take-append-drop m b)));
      }
      | inr ge ↦
          let at = cut_anywhere kept basis child outs (m - length b) in
          record {
            n = suc at.n;
            rest = at.rest;
            held = ap (λ (i : ℕ). take i (b ++ bs)) (omega (arith, ge)) ∙ take-append-add b bs (m - length b)
                ∙ ap (λ (l : List ℕ). b ++ l) at.held ∙ sym (append_assoc b (outputs_bytes kept basis child (take at.n outs)) at.rest);
            part = at.part;
          }
    ]
