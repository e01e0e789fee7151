-- When changes and minutes are the same.
use Rattle.std.proofs.Common.{◌≡◌, ap, ℤ, true, false, ◌&&◌, refl, eqb, IsTrue, ◌↔◌, Option, Some, None}
use Rattle.std.specs.Option.{option_eq}
use Rattle.std.specs.Ordering.{int_eq}
use Rattle.std.proofs.lemmas.Bool.{false≢true}
use Rattle.std.proofs.lemmas.Bool.Decides.{Decides-eqb, Decides-int_eq, Decides-and, Decides-like}
use Rattle.pm_device.specs.declared.state.DeviceState.{DeviceState}
use Rattle.pm_plan.specs.declared.planned.Change.{Change}
use Rattle.pm_plan.specs.declared.planned.Planned.{Planned}
use Rattle.pm_plan.specs.declared.planned.Planned.TheVariants.{Join, Leave, Set, Tick}
use Rattle.pm_plan.specs.contracts.planned.PlannedPartialEq.TheImpl as planned

-- a test that fails at what does not hold
fails : {P : Type 0} → (P → false ≡ true) → IsTrue false ↔ P
fails not = (λ e. absurd (false≢true e), not)

-- the test of the minutes of two phases, or of none, is true exactly where they are the same
pub same_minutes : (x y : Option ℤ) → IsTrue (option_eq int_eq x y) ↔ (x ≡ y)
same_minutes None None = (λ _. refl, λ _. refl)
same_minutes None (Some y) = fails (λ e. absurd (cc e))
same_minutes (Some x) None = fails (λ e. absurd (cc e))
same_minutes (Some x) (Some y) = Decides-like (int_eq x y) (ap Some) (λ e. cc e) (Decides-int_eq x y)

same_planned : (x y : Planned) → IsTrue (planned.eq-value.it x y) ↔ (x ≡ y)
same_planned Join Join = (λ _. refl, λ _. refl)
same_planned Join Leave = fails (λ e. absurd (cc e))
same_planned Join (Set t) = fails (λ e. absurd (cc e))
same_planned Join (Tick n) = fails (λ e. absurd (cc e))
same_planned Leave Join = fails (λ e. absurd (cc e))
same_planned Leave Leave = (λ _. refl, λ _. refl)
same_planned Leave (Set t) = fails (λ e. absurd (cc e))
same_planned Leave (Tick n) = fails (λ e. absurd (cc e))
same_planned (Set s) Join = fails (λ e. absurd (cc e))
same_planned (Set s) Leave = fails (λ e. absurd (cc e))
same_planned (Set s) (Set t) =
    Decides-like _ (λ p. λ i. Set (record { 0 = p i })) (λ e. ap (λ (state : DeviceState). state.0) (cc e)) (Decides-int_eq s.0 t.0)
same_planned (Set s) (Tick n) = fails (λ e. absurd (cc e))
same_planned (Tick m) Join = fails (λ e. absurd (cc e))
same_planned (Tick m) Leave = fails (λ e. absurd (cc e))
same_planned (Tick m) (Set t) = fails (λ e. absurd (cc e))
same_planned (Tick m) (Tick n) = Decides-like _ (ap Tick) (λ e. cc e) (Decides-int_eq m n)

-- the test of two changes, by phase and by what is planned, is true exactly where they are the same
pub same_change : (x y : Change) → IsTrue (eqb x.phase y.phase && planned.eq-value.it x.what y.what) ↔ (x ≡ y)
same_change x y = Decides-like _ (λ e. λ i. record { phase = e.0 i; what = e.1 i })
    (λ e. (ap (λ (c : Change). c.phase) e, ap (λ (c : Change). c.what) e)) (Decides-and _ _ (Decides-eqb x.phase y.phase) (same_planned x.what y.what))
