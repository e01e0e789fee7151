-- What an answer without a refusal says of the steps before it.
use Rattle.std.proofs.Common.{◌≡◌, sym, ap, ℕ, ◌+◌, Bool, true, false, List, [], ◌∷◌, ◌++◌, length, refl, subst, Result, Ok, Err}
use Rattle.std.proofs.lemmas.List.{append_assoc, append-nil, length-append}
use Rattle.pm_plan.specs.declared.refusal.Cause.{Cause}
use Rattle.pm_plan.specs.declared.refusal.Place.{Place}
use Rattle.pm_plan.specs.declared.refusal.Refusal.{Refusal}
use Rattle.pm_plan.specs.Refusals.{check}
use Rattle.pm_base.specs.Outcomes.{◌>>=◌, ◌>>◌, fold_from}

-- two steps gave y: the first gave a value, and the second made y of it
pub record BindOk {A B : Type 0} (r : Result A Refusal) (f : A → Result B Refusal) (y : B) : Type 0 where
  -- the value that the first step gave
  pub value : A
  -- the first step is not refused, and gave this value
  pub first : r ≡ Ok value
  -- the second step makes y of this value
  pub rest : f value ≡ Ok y

-- where two steps give y, the first gave a value, of which the second makes y
pub bind-ok : {A B : Type 0} (r : Result A Refusal) (f : A → Result B Refusal) (y : B) → (r >>= f) ≡ Ok y → BindOk r f y
bind-ok (Ok x) f y h = record { value = x; first = refl; rest = h }
bind-ok (Err e) f y h = absurd (cc h)

-- a check passed and what follows it gave y
pub record CheckOk {B : Type 0} (test : Bool) (next : Result B Refusal) (y : B) : Type 0 where
  -- the test of the check is true
  pub holds : test ≡ true
  -- what follows the check gives y
  pub rest : next ≡ Ok y

-- where a check and what follows it give y, the test is true and what follows gives y
pub check-ok : {B : Type 0} (why : Cause) (place : Place) (test : Bool) (next : Result B Refusal) (y : B) →
    (check why place test >> next) ≡ Ok y → CheckOk test next y
check-ok why place true next y h = record { holds = refl; rest = h }
check-ok why place false next y h = absurd (cc h)

-- answers without a refusal that are the same have the same value
pub ok-is : {A : Type 0} (x y : A) → (let r : Result A Refusal = Ok x in r) ≡ Ok y → x ≡ y
ok-is x y h = cc h

-- what holds of the elements taken so far and of what was made of them, holds of all elements and of the whole
pub fold_keeps : {S A : Type 0} (P : List A → S → Type 0) (f : ℕ → S → A → Result S Refusal) →
    ((done : List A) (s t : S) (x : A) → P done s → f (length done + 1) s x ≡ Ok t → P (done ++ x ∷ []) t) →
    (done xs : List A) (s t : S) → P done s → fold_from (length done + 1) f s xs ≡ Ok t → P (done ++ xs) t
fold_keeps P f keeps done [] s t held h =
    let same : s ≡ t = ok-is s t h in
    subst (λ l. P l t) (sym (append-nil done)) (subst (P done) same held)
fold_keeps P f keeps done (x ∷ xs) s t held h =
    let one = bind-ok (f (length done + 1) s x) (λ u. fold_from (length done + 1 + 1) f u xs) t h in
    let more = keeps done s one.value x held one.first in
    let number : length done + 1 + 1 ≡ length (done ++ x ∷ []) + 1 = ap (λ n. n + 1) (sym (length-append done (x ∷ []))) in
    let rest = subst (λ n. fold_from n f one.value xs ≡ Ok t) number one.rest in
    subst (λ l. P l t) (append_assoc done (x ∷ []) xs) (fold_keeps P f keeps (done ++ x ∷ []) xs one.value t more rest)
