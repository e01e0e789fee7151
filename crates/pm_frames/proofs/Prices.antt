-- The prices for the children of a node: one more, and how many bytes they have.
use Rattle.std.proofs.Common.{◌≡◌, ◌∙◌, sym, ap, ℕ, ◌+◌, ◌*◌, ◌≤◌, ◌<◌, Bool, true, false, List, [], ◌∷◌}
use Rattle.std.proofs.Common.{◌++◌, length, drop, get_or}
use Rattle.std.proofs.Common.{arith, append_assoc, length-append}
use Rattle.std.specs.Prelude.{if◌then◌else◌}
use Rattle.std.proofs.lemmas.List.{drop_more}
use Rattle.pm_basis.specs.Prices.{BasisValue}
use Rattle.pm_bid.specs.declared.head.BidHead.{BidHead}
use Rattle.pm_frames.specs.ParentFrames.{price_bytes, price_bytes_for, prices_bytes}

-- the prices for one child more
pub prices_more : (basis : BasisValue) (index step child i : ℕ) (heads : List BidHead) (d : BidHead) (out out' total : List ℕ) → i < length heads →
    out ++ prices_bytes basis index step child (drop i heads) ≡ total → out' ≡ out ++ price_bytes_for basis index step child (get_or heads i d) →
    out' ++ prices_bytes basis index step (child + 1) (drop (i + 1) heads) ≡ total
prices_more basis index step child i heads d out out' total inside before is =
    let rest = prices_bytes basis index step (child + 1) (drop (i + 1) heads) in
    let first : drop i heads ≡ get_or heads i d ∷ drop (i + 1) heads = drop_more heads i d inside in
    ap (λ l. l ++ rest) is ∙ append_assoc out (price_bytes_for basis index step child (get_or heads i d)) rest
    ∙ ap (λ l. out ++ prices_bytes basis index step child l) (sym first) ∙ before

few_either : (b : Bool) (bytes : List ℕ) → length bytes ≤ 23 → length (if b then [] else bytes) ≤ 23
few_either true bytes few = omega arith
few_either false bytes few = few

-- the price for a child has at most 23 bytes
pub price_for_few : (basis : BasisValue) (index step child : ℕ) (head : BidHead) → length (price_bytes_for basis index step child head) ≤ 23
price_for_few basis index step child head = few_either head.gone (price_bytes child head.number index step basis) (omega arith)

-- and those for some children as many times 23
pub prices_few : (basis : BasisValue) (index step child : ℕ) (heads : List BidHead) →
    length (prices_bytes basis index step child heads) ≤ 23 * length heads
prices_few basis index step child [] = omega arith
prices_few basis index step child (head ∷ heads) =
    omega (
      arith,
      price_for_few basis index step child head,
      prices_few basis index step (child + 1) heads,
      length-append (price_bytes_for basis index step child head) (prices_bytes basis index step (child + 1) heads),
    )
