-- Chains of stages that give a value or the first refusal.
use Rattle.std.proofs.Common.{◌≡◌, sym, ap, refl, subst, Result, Ok, Err, Option, Some, None}
use Rattle.std.specs.Prelude.{IsErrAnd}
use Rattle.pm_base.specs.Outcomes.{◌>>=◌, Refuses, Gives}

-- a chain may be grouped either way
pub bind_again : {A B C E : Type 0} (r : Result A E) (f : A → Result B E) (g : B → Result C E) → (r >>= λ x. f x >>= g) ≡ ((r >>= f) >>= g)
bind_again (Ok x) f g = refl
bind_again (Err e) f g = refl

-- stages that give the same are the same in a chain
pub bind_same : {A B E : Type 0} (r : Result A E) (f g : A → Result B E) → ((x : A) → f x ≡ g x) → (r >>= f) ≡ (r >>= g)
bind_same (Ok x) f g h = h x
bind_same (Err e) f g h = refl

-- a refusal is the refusal of all that comes after it
pub Refuses-first : {X Y E : Type 0} (refusal : Option E) (read : Result X E) (next : X → Result Y E) → Refuses refusal read →
    Refuses refusal (read >>= next)
Refuses-first None read next fails = tt
Refuses-first (Some r) read next fails = ap (λ z. z >>= next) fails

-- what the exit by an error returns
pub Gives-err : {X Y F E : Type 0} (refusal : F → Option E) (view : X → Y) (r : Result X F) (e : F) (reading : Result Y E) →
    IsErrAnd r (λ y. y ≡ e) → Refuses (refusal e) reading → Gives refusal view r reading
Gives-err refusal view (Ok x) e reading h fails = absurd h
Gives-err refusal view (Err y) e reading h fails = subst (λ z. Refuses (refusal z) reading) (sym h) fails
