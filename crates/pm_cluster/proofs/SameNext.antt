-- When next changes are the same.
use Rattle.std.proofs.Common.{◌≡◌, ap, Bool, true, false, not, refl, IsTrue, ◌↔◌, Option, Some, None}
use Rattle.std.specs.Bool.{beq}
use Rattle.std.specs.Option.{option_eq}
use Rattle.std.proofs.lemmas.Bool.{false≢true}
use Rattle.std.proofs.lemmas.Bool.Decides.{Decides-eqb, Decides-int_eq, Decides-and, Decides-like}
use Rattle.pm_device.specs.declared.state.Next.{Next}
use Rattle.pm_device.specs.contracts.state.NextPartialEq.TheImpl as nexts

-- a test that fails at what does not hold
fails : {P : Type 0} → (P → ⊥) → IsTrue false ↔ P
fails not_so = (λ e. absurd (false≢true e), λ so. absurd (not_so so))

same_bool : (x y : Bool) → IsTrue (beq x y) ↔ (x ≡ y)
same_bool true true = (λ _. refl, λ _. refl)
same_bool true false = fails (λ e. cc e)
same_bool false true = fails (λ e. cc e)
same_bool false false = (λ _. refl, λ _. refl)

-- the code's test whether two next changes are equal holds exactly where they are the same
pub same_next : (x y : Next) → IsTrue (nexts.eq-value.it x y) ↔ (x ≡ y)
same_next x y =
    Decides-like _ (λ p. λ i. record { device = p.0 i; number = p.1.0 i; member = p.1.1.0 i; state = record { 0 = p.1.1.1 i } })
    (λ e. (ap (λ (n : Next). n.device) e, (ap (λ (n : Next). n.number) e, (ap (λ (n : Next). n.member) e, ap (λ (n : Next). n.state.0) e))))
    (Decides-and _ _ (Decides-eqb x.device y.device) (Decides-and _ _ (Decides-eqb x.number y.number)
    (Decides-and _ _ (same_bool x.member y.member) (Decides-int_eq x.state.0 y.state.0))))

-- the test whether what was found is a given next change holds exactly where it is that change
pub same_found : (found : Option Next) (y : Next) → IsTrue (option_eq nexts.eq-value.it found (Some y)) ↔ (found ≡ Some y)
same_found None y = fails (λ e. absurd (cc e))
same_found (Some x) y = Decides-like (nexts.eq-value.it x y) (ap Some) (λ e. cc e) (same_next x y)

-- what a test that they differ says
pub not_differ : (test : Bool) (P : Type 0) → IsTrue test ↔ P → false ≡ not test → P
not_differ true P decides e = decides.0 refl
not_differ false P decides e = absurd (cc e)

-- where the negation of a test that decides P is true, P does not hold
pub do_differ : (test : Bool) (P : Type 0) → IsTrue test ↔ P → true ≡ not test → P → ⊥
do_differ true P decides e p = absurd (cc e)
do_differ false P decides e p = false≢true (decides.1 p)
