-- What is kept of a market where a row is pushed, or where the push fails.
use Rattle.std.proofs.Common.{◌≡◌, ℕ, true, List, length, sym, ap, subst, arith}
use Rattle.std.specs.Prelude.{Result, Ok, Err, OnErr}
use Rattle.pm_base.specs.Cuts.{Cut}
use Rattle.pm_market.specs.Lists.{Lists, parent}
use Rattle.pm_market.specs.State.{State, addresses}
use Rattle.pm_market.specs.Legality.{has_reached}
use Rattle.pm_market.specs.Due.{KnowsDue}

-- what follows from what holds on an error holds on an error too
pub on_failure : {T E : Type 0} (r : Result T E) (P Q : Type 0) → (P → Q) → OnErr r P → OnErr r Q
on_failure (Ok x) P Q f p = tt
on_failure (Err e) P Q f p = f p

-- what is due stays where the auctioneer's cuts do
pub knows_published : (lists : Lists) (s : State) (due : ℕ → ℕ) (published' : ℕ → List Cut) → published' 0 ≡ s.published 0 →
    KnowsDue lists s due → KnowsDue lists (record s { published = published' }) due
knows_published lists s due published' same knows =
    let with_cuts : List Cut → State = λ cuts. record s { published = λ c. cuts } in
    record {
      passed_made = λ x j among. omega (arith, knows.passed_made x j among, ap (λ (cuts : List Cut). length cuts) same);
      reached = λ x node one. subst (λ cuts. has_reached (with_cuts cuts) (parent lists x) (due x) ≡ true) (sym same) (knows.reached x node one);
      addressed = λ x node one. subst (λ cuts. addresses lists (with_cuts cuts) (due x) x ≡ true) (sym same) (knows.addressed x node one);
      greatest = λ x j node reached addressed. knows.greatest x j node
          (subst (λ cuts. has_reached (with_cuts cuts) (parent lists x) j ≡ true) same reached)
          (subst (λ cuts. addresses lists (with_cuts cuts) j x ≡ true) same addressed);
    }
