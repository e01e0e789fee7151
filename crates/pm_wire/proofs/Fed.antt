-- What the bytes left are once another piece is fed.
use Rattle.std.proofs.Common.{◌≡◌, ◌∙◌, sym, ap, subst, ℕ, ◌≤◌, List, ◌++◌, length, drop, Bool, true, false, arith}
use Rattle.std.proofs.Common.{length-append}
use Rattle.std.specs.Prelude.{if◌then◌else◌}
use Rattle.std.proofs.lemmas.List.{drop-append-le}
use Rattle.pm_wire.specs.Framing.{Framing, BeginsBadly}
use Rattle.pm_wire.proofs.Places.{bad_more}

-- a bad frame stays bad
pub fed_bad : {P F : Type 0} (framing : Framing P F) (place : P) (buffer after piece : List ℕ) (start : ℕ) (ok : Bool) → start ≤ length buffer →
    after ≡ (if ok then buffer ++ piece else buffer) → BeginsBadly framing place (drop start buffer) → BeginsBadly framing place (drop start after)
fed_bad framing place buffer after piece start true within is bad =
    let Q : List ℕ → Type 0 = λ l. BeginsBadly framing place l in
    subst Q (sym (drop-append-le start buffer piece within) ∙ ap (drop start) (sym is)) (bad_more framing place _ piece bad)
fed_bad framing place buffer after piece start false within is bad =
    let Q : List ℕ → Type 0 = λ l. BeginsBadly framing place l in
    subst Q (ap (drop start) (sym is)) bad

-- no byte is gone, whether the piece was added or not
pub fed_longer : (buffer after piece : List ℕ) (ok : Bool) → after ≡ (if ok then buffer ++ piece else buffer) → length buffer ≤ length after
fed_longer buffer after piece true is = omega (arith, ap length is, length-append buffer piece)
fed_longer buffer after piece false is = omega (arith, ap length is)
