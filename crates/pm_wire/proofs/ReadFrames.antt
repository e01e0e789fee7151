-- What the readers of a frame's fields have read.
use Rattle.std.proofs.Common.{◌≡◌, ◌∙◌, sym, ap, subst, ℕ, ◌+◌, ◌<◌, ◌≤◌, ◌^◌, ℤ, pos, true, false}
use Rattle.std.proofs.Common.{Bool, List, [], ◌∷◌, ◌++◌, length, take}
use Rattle.std.proofs.Common.{drop, get_or, zero, suc, ◌-◌, None, Some, Ok, Err, Result, arith, length-append, inr}
use Rattle.std.proofs.Common.{FitsSigned, IsTrue}
use Rattle.std.specs.Int.{w16, w32, w64, to_be_bytes, cast_signed, cast_unsigned}
use Rattle.std.specs.Prelude.{if◌then◌else◌, ◌==◌}
use Rattle.std.specs.List.{AllByRecursion}
use Rattle.std.proofs.lemmas.List.{nil_from_length, take-append-drop, length-take-le}
use Rattle.std.proofs.lemmas.Int.{fits_signed_from_abs}
use Rattle.pm_basis.specs.Prices.{BasisValue, checked_basis, has_bad_steps, has_bad_range, is_uneven}
use Rattle.pm_basis.specs.declared.fault.BasisFault.{BasisFault}
use Rattle.pm_bid.specs.Checks.{checked_bid}
use Rattle.pm_wire.specs.declared.frame.Frame.TheVariants.{Hello, Bid, Gone}
use Rattle.pm_wire.specs.Framing.{Framing, BeginsBadly}
use Rattle.pm_wire.specs.Kinds.{hello_kind, bid_kind, gone_kind}
use Rattle.pm_wire.specs.Frames.{bid_framing, frame_bytes, signed_bytes, demand_bytes, IsSender}
use Rattle.pm_wire.specs.Readings.{IsWhole}
use Rattle.pm_wire.specs.Spelling.{IsRefusedFrame, IsFrameAt}
use Rattle.pm_wire.proofs.OneField.{wide}

else_ok : {A E : Type 0} (test : Bool) (fault : E) (rest : Result A E) (value : A) → (if test then Err fault else rest) ≡ Ok value → rest ≡ Ok value
else_ok true fault rest value h = absurd (cc h)
else_ok false fault rest value h = h

-- a basis is that of its numbers
basis_is : (min max : ℤ) (steps : ℕ) (basis : BasisValue) → checked_basis min max (pos steps) ≡ Ok basis →
    record { min = min; max = max; steps = steps } ≡ basis
basis_is min max steps basis h =
    let ranged = else_ok (has_bad_steps (pos steps)) _ _ basis h in
    let even = else_ok (has_bad_range min max) _ _ basis ranged in
    let is : Ok (record { min = min; max = max; steps = steps }) ≡ Ok basis = else_ok (is_uneven min max (pos steps)) _ _ basis even in
    cc is

-- the bytes of Hello by its fields
hello_spelled : (body x y z : List ℕ) (min max : ℤ) (steps : ℕ) → length body ≡ 10 → body ≡ signed_bytes min ++ x →
    x ≡ signed_bytes max ++ y →
    y ≡ to_be_bytes w16 steps ++ z →
    hello_kind ∷ body ≡ frame_bytes (Hello (record { min = min; max = max; steps = steps }))
hello_spelled body x y z min max steps many ex ey ez =
    let first : length body ≡ 4 + length x = omega (arith, ap length ex, length-append (signed_bytes min) x) in
    let second : length x ≡ 4 + length y = omega (arith, ap length ey, length-append (signed_bytes max) y) in
    let third : length y ≡ 2 + length z = omega (arith, ap length ez, length-append (to_be_bytes w16 steps) z) in
    let none : z ≡ [] = nil_from_length z (omega arith) in
    ap (λ l. hello_kind ∷ l) (ex ∙ ap (λ l. signed_bytes min ++ l)
    (ey ∙ ap (λ l. signed_bytes max ++ l) (ez ∙ ap (λ l. to_be_bytes w16 steps ++ l) none)))

-- ten bytes behind the kind of Hello whose fields make a basis are a Hello of that basis
pub hello_read : (body x y z : List ℕ) (min max : ℤ) (steps : ℕ) (basis : BasisValue) → length body ≡ 10 → body ≡ signed_bytes min ++ x →
    x ≡ signed_bytes max ++ y → y ≡ to_be_bytes w16 steps ++ z →
    FitsSigned w32 min → FitsSigned w32 max → steps < 2 ^ 16 → Ok basis ≡ checked_basis min max (pos steps) →
    IsFrameAt bid_framing None (hello_kind ∷ body) (Hello basis)
hello_read body x y z min max steps basis many ex ey ez low high small is =
    let P : BasisValue → Type 0 = λ b. IsFrameAt bid_framing None (hello_kind ∷ body) (Hello b) in
    let value : BasisValue = record { min = min; max = max; steps = steps } in
    let same : value ≡ basis = basis_is min max steps basis (sym is) in
    subst P same (record {
      stands = record { formed = (low, high, small); accepted = sym is ∙ ap (λ b. Ok b) (sym same) };
      spelled = hello_spelled body x y z min max steps many ex ey ez;
    })

-- ten bytes behind the kind of Hello whose fields make no basis are a refused frame
pub hello_refused : (body x y z : List ℕ) (min max : ℤ) (steps : ℕ) (fault : BasisFault) → length body ≡ 10 → body ≡ signed_bytes min ++ x →
    x ≡ signed_bytes max ++ y → y ≡ to_be_bytes w16 steps ++ z →
    FitsSigned w32 min → FitsSigned w32 max → steps < 2 ^ 16 → Err fault ≡ checked_basis min max (pos steps) → IsRefusedFrame bid_framing None
    (hello_kind ∷ body)
hello_refused body x y z min max steps fault many ex ey ez low high small is = record {
  frame = Hello (record { min = min; max = max; steps = steps });
  formed = (low, high, small);
  refused = λ accepted. cc (is ∙ accepted);
  spelled = hello_spelled body x y z min max steps many ex ey ez;
}

-- the bytes of a bid by its fields
bid_spelled : (body x y : List ℕ) (child number : ℕ) (demand : List ℤ) → body ≡ to_be_bytes w16 child ++ x → x ≡ to_be_bytes w32 number ++ y →
    y ≡ demand_bytes demand →
    bid_kind ∷ body ≡ frame_bytes (Bid child number demand)
bid_spelled body x y child number demand ex ey ez =
    ap (λ l. bid_kind ∷ l) (ex ∙ ap (λ l. to_be_bytes w16 child ++ l) (ey ∙ ap (λ l. to_be_bytes w32 number ++ l) ez))

-- a bid whose sender is none, or whose demands are no bid
pub bid_refused : (steps : ℕ) (body x y : List ℕ) (child number : ℕ) (demand : List ℤ) → body ≡ to_be_bytes w16 child ++ x →
    x ≡ to_be_bytes w32 number ++ y → y ≡ demand_bytes demand →
    child < 2 ^ 16 → number < 2 ^ 32 → length demand ≡ steps → AllByRecursion (λ z. FitsSigned w32 z) demand →
    (IsSender child number → checked_bid (length demand) demand ≡ Ok demand → ⊥) → IsRefusedFrame bid_framing (Some steps) (bid_kind ∷ body)
bid_refused steps body x y child number demand ex ey ez few small many fit bad = record {
  frame = Bid child number demand;
  formed = (few, small, many, fit);
  refused = λ accepted. bad accepted.0 accepted.1;
  spelled = bid_spelled body x y child number demand ex ey ez;
}

gone_spelled : (body x y : List ℕ) (child number : ℕ) → length body ≡ 6 → body ≡ to_be_bytes w16 child ++ x →
    x ≡ to_be_bytes w32 number ++ y →
    gone_kind ∷ body ≡ frame_bytes (Gone child number)
gone_spelled body x y child number many ex ey =
    let first : length body ≡ 2 + length x = omega (arith, ap length ex, length-append (to_be_bytes w16 child) x) in
    let second : length x ≡ 4 + length y = omega (arith, ap length ey, length-append (to_be_bytes w32 number) y) in
    let none : y ≡ [] = nil_from_length y (omega arith) in
    ap (λ l. gone_kind ∷ l) (ex ∙ ap (λ l. to_be_bytes w16 child ++ l) (ey ∙ ap (λ l. to_be_bytes w32 number ++ l) none))

-- six bytes behind the kind of Gone whose child and number are no sender's are a refused frame
pub gone_refused : (steps : ℕ) (body x y : List ℕ) (child number : ℕ) → length body ≡ 6 → body ≡ to_be_bytes w16 child ++ x →
    x ≡ to_be_bytes w32 number ++ y →
    child < 2 ^ 16 → number < 2 ^ 32 → (IsSender child number → ⊥) → IsRefusedFrame bid_framing (Some steps) (gone_kind ∷ body)
gone_refused steps body x y child number many ex ey few small bad = record {
  frame = Gone child number;
  formed = (few, small);
  refused = λ accepted. bad accepted;
  spelled = gone_spelled body x y child number many ex ey;
}

-- where a test that each sender passes fails, the child and the number are no sender's
pub not_sender : (test : Bool) (child number : ℕ) → test ≡ false → (IsSender child number → IsTrue test) → IsSender child number → ⊥
not_sender test child number fails back sender = let holds : test ≡ true = back sender in cc (fails, holds)

-- the first byte and those behind it
pub front_is : (bytes : List ℕ) (size : ℕ) → 1 ≤ size → 1 ≤ length bytes → get_or bytes 0 0 ∷ take (size - 1) (drop 1 bytes) ≡ take size bytes
front_is [] size some many = absurd (omega (arith, many))
front_is (b ∷ bytes) zero some many = absurd (omega (arith, some))
front_is (b ∷ bytes) (suc size) some many =
    let less : suc size - 1 ≡ size = omega arith in
    ap (λ n. b ∷ take n bytes) less

-- a whole frame in the first bytes
pub whole_read : {P F : Type 0} (framing : Framing P F) (place : P) (bytes : List ℕ) (frame : F) (size : ℕ) → size ≤ length bytes →
    IsFrameAt framing place (take size bytes) frame →
    IsWhole framing place bytes frame size
whole_read framing place bytes frame size within at = record {
  stands = at.stands;
  spelled = sym (take-append-drop size bytes) ∙ ap (λ l. l ++ drop size bytes) at.spelled;
  same_size = sym (length-take-le size bytes within) ∙ ap length at.spelled;
  within = within;
}

-- a refused frame in the first bytes
pub refused_read : {P F : Type 0} (framing : Framing P F) (place : P) (bytes : List ℕ) (size : ℕ) → IsRefusedFrame framing place (take size bytes) →
    BeginsBadly framing place bytes
refused_read framing place bytes size at = inr (record {
  frame = at.frame;
  more = drop size bytes;
  formed = at.formed;
  refused = at.refused;
  spelled = sym (take-append-drop size bytes) ∙ ap (λ l. l ++ drop size bytes) at.spelled;
})

-- the fields of Hello as numbers of 64 bits
pub same_check : (min max z : ℤ) (steps : ℕ) → FitsSigned w32 min → FitsSigned w32 max → steps < 2 ^ 16 → z ≡ pos steps →
    checked_basis (cast_signed w64 (cast_unsigned w64 min)) (cast_signed w64 (cast_unsigned w64 max)) (cast_signed w64 (cast_unsigned w64 z)) ≡
    checked_basis min max (pos steps)
same_check min max z steps low high small is =
    ap (λ n. checked_basis n (cast_signed w64 (cast_unsigned w64 max)) (cast_signed w64 (cast_unsigned w64 z))) (wide min low)
    ∙ ap (λ n. checked_basis min n (cast_signed w64 (cast_unsigned w64 z))) (wide max high)
    ∙ ap (λ n. checked_basis min max (cast_signed w64 (cast_unsigned w64 n))) is
    ∙ ap (λ n. checked_basis min max n) (wide (pos steps) (fits_signed_from_abs w32 (pos steps) (omega (arith, small))))

-- where the test of having no byte fails, there is at least one byte
pub not_empty : (bytes : List ℕ) (test : Bool) → test ≡ (length bytes == 0) → test ≡ false → 1 ≤ length bytes
not_empty [] test is fails = absurd (cc (is, fails))
not_empty (b ∷ bytes) test is fails = omega arith
