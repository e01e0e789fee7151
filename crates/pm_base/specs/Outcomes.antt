-- Steps that give a value or the first refusal, and what a function answers that takes them.
use Rattle.std.specs.Prelude.{◌≡◌, ℕ, ◌+◌, List, [], ◌∷◌, Option, Some, None, Result, Ok, Err, ⊤}

infixl 10 ◌>>=◌
abbrev pub ◌>>=◌ : {A B E : Type 0} → Result A E → (A → Result B E) → Result B E
(Ok x) >>= f = f x
(Err e) >>= f = Err e

infixl 10 ◌>>◌
abbrev pub ◌>>◌ : {A B E : Type 0} → Result A E → Result B E → Result B E
(Ok x) >> next = next
(Err e) >> next = Err e

-- what f makes of s by each element and its number, counted from n, or the first refusal
abbrev pub fold_from : {S A E : Type 0} → ℕ → (ℕ → S → A → Result S E) → S → List A → Result S E
fold_from n f s [] = Ok s
fold_from n f s (x ∷ xs) = f n s x >>= λ t. fold_from (n + 1) f t xs

-- what f gives of each element and its number, counted from n, or the first refusal
abbrev pub each_from : {A B E : Type 0} → ℕ → (ℕ → A → Result B E) → List A → Result (List B) E
each_from n f [] = Ok []
each_from n f (x ∷ xs) = f n x >>= λ y. each_from (n + 1) f xs >>= λ ys. Ok (y ∷ ys)

-- if an error is a refusal, it is that of the reading; an error that is none says nothing of it
abbrev pub Refuses : {Y E : Type 0} → Option E → Result Y E → Type 0
Refuses None reading = ⊤
Refuses (Some refusal) reading = reading ≡ Err refusal

-- what a function answered, its value seen by view and its error by refusal, is what the reading gives
abbrev pub Gives : {X Y F E : Type 0} → (F → Option E) → (X → Y) → Result X F → Result Y E → Type 0
Gives refusal view (Ok x) reading = reading ≡ Ok (view x)
Gives refusal view (Err e) reading = Refuses (refusal e) reading
