-- What a search from the end of a list stops at.
use Rattle.std.proofs.Common.{◌≡◌, ◌∙◌, sym, ap, ℕ, ◌-◌, ◌<◌, ◌≤◌, List, Bool, true, false, length, get_or, arith}
use Rattle.std.specs.Prelude.{reverse}
use Rattle.std.specs.List.{suffix_len}
use Rattle.std.proofs.lemmas.List.{get_or-reverse, length-reverse}
use Rattle.std.proofs.lemmas.List.Sums.{prefix_len_passes, prefix_len_stops}

-- each element of the suffix passes
pub suffix_len_passes : {X : Type 0} (p : X → Bool) (xs : List X) (k : ℕ) (d : X) → length xs - suffix_len p xs ≤ k → k < length xs →
    p (get_or xs k d) ≡ true
suffix_len_passes p xs k d after inside =
    let behind = length xs - 1 - k in
    let here : length xs - 1 - behind ≡ k = omega arith in
    ap (λ n. p (get_or xs n d)) (sym here) ∙ ap p (sym (get_or-reverse xs behind d (omega arith)))
    ∙ prefix_len_passes p (reverse xs) behind d (omega arith)

-- the element before it fails
pub suffix_len_stops : {X : Type 0} (p : X → Bool) (xs : List X) (d : X) → suffix_len p xs < length xs →
    p (get_or xs (length xs - 1 - suffix_len p xs) d) ≡ false
suffix_len_stops p xs d some =
    ap p (sym (get_or-reverse xs (suffix_len p xs) d some)) ∙ prefix_len_stops p (reverse xs) d (omega (arith, length-reverse xs))
