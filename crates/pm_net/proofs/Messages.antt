-- Lists of messages, and functions in which a place was replaced.
use Rattle.std.proofs.Common.{◌≡◌, ℕ, zero, suc, ◌<◌, ◌≤◌, Bool, true, false, cond, eqb, inl, inr, List, [], ◌∷◌, ◌++◌}
use Rattle.std.proofs.Common.{length, get_or, refl, sym, ◌∙◌, ap, subst, arith}
use Rattle.std.proofs.lemmas.Bool.{cases_eq, cases_lt}
use Rattle.std.proofs.lemmas.List.{get_or_append_left, get_or_push, length_push}
use Rattle.pm_market.specs.State.{update}
use Rattle.pm_market.proofs.Cuts.{updated_same, updated_other}
use Rattle.pm_laws.proofs.Facts.{updated_at}

-- what holds on both ways of a test holds of the choice
pub either : {A : Type 0} → (P : A → Type 0) (b : Bool) (x y : A) → (b ≡ true → P x) → (b ≡ false → P y) → P (cond b x y)
either P true x y on_true on_false = on_true refl
either P false x y on_true on_false = on_false refl

-- functions that are the same at a place are so after the same replacement
pub updated_alike : {A : Type 0} → (f g : ℕ → A) (x : ℕ) (v : A) (y : ℕ) → f y ≡ g y → update f x v y ≡ update g x v y
unfolding update
updated_alike f g x v y h = ap (λ z. cond (eqb y x) v z) h

-- a function of two numbers with one replaced
pub two_same : {A : Type 0} → (f : ℕ → ℕ → A) (y m : ℕ) (v : A) (z n : ℕ) → z ≡ y → n ≡ m → update f y (update (f y) m v) z n ≡ v
two_same f y m v z n e h =
    ap (λ (i : ℕ). update f y (update (f y) m v) i n) e ∙ ap (λ q. q n) (updated_same f y (update (f y) m v))
    ∙ ap (λ (i : ℕ). update (f y) m v i) h ∙ updated_same (f y) m v

-- at any other two numbers it is the old one
pub two_other : {A : Type 0} → (f : ℕ → ℕ → A) (y m : ℕ) (v : A) (z n : ℕ) → (z ≡ y → n ≡ m → ⊥) →
    update f y (update (f y) m v) z n ≡ f z n
two_other f y m v z n ne =
    elim (cases_eq z y) [
      | inl e ↦ ap (λ (i : ℕ). update f y (update (f y) m v) i n) e ∙ ap (λ q. q n) (updated_same f y (update (f y) m v))
          ∙ updated_other (f y) m v n (ne e) ∙ ap (λ (i : ℕ). f i n) (sym e)
      | inr d ↦ ap (λ q. q n) (updated_other f y (update (f y) m v) z d)
    ]

-- past the end of a list stands the default
pub past : {A : Type 0} → (l : List A) (k : ℕ) (d : A) → length l ≤ k → get_or l k d ≡ d
past [] zero d le = refl
past [] (suc k) d le = refl
past (x ∷ xs) zero d le = absurd (omega arith)
past (x ∷ xs) (suc k) d le = past xs k d (omega arith)

-- what holds of each message, and of one more, holds of each once that one is sent
pub each_push : {A : Type 0} → (P : A → Type 0) (l : List A) (v d : A) → ((k : ℕ) → k < length l → P (get_or l k d)) → P v →
    (k : ℕ) → k < length (l ++ v ∷ []) → P (get_or (l ++ v ∷ []) k d)
each_push P l v d each new k lt =
    elim (cases_lt k (length l)) [
      | inl below ↦ subst P (sym (get_or_append_left l (v ∷ []) d k below)) (each k below)
      | inr above ↦ let at : length l ≡ k = omega (arith, above, lt, length_push l v) in subst P (sym (get_or_push l v d k at)) new
    ]

-- what holds of some message does so still, and of the one that is sent
pub some_push : {A : Type 0} → (P : A → Type 0) (l : List A) (v d : A) → ((k : ℕ) × (k < length l) × P (get_or l k d)) →
    (k : ℕ) × (k < length (l ++ v ∷ [])) × P (get_or (l ++ v ∷ []) k d)
some_push P l v d some =
    (some.0, omega (arith, some.1, length_push l v), subst P (sym (get_or_append_left l (v ∷ []) d some.0 some.1)) some.2)

-- a message that is sent is there
pub new_push : {A : Type 0} → (P : A → Type 0) (l : List A) (v d : A) → P v →
    (k : ℕ) × (k < length (l ++ v ∷ [])) × P (get_or (l ++ v ∷ []) k d)
new_push P l v d new = (length l, omega (arith, length_push l v), subst P (sym (get_or_push l v d (length l) refl)) new)

-- ---- channels, once one more message is sent on that of x

-- what holds of each message on a channel holds of each still, where it holds of that one
pub each_sent : {A : Type 0} → (P : ℕ → A → Type 0) (channels : ℕ → List A) (x : ℕ) (v d : A) → P x v → (y : ℕ) →
    ((k : ℕ) → k < length (channels y) → P y (get_or (channels y) k d)) →
    (k : ℕ) → k < length (update channels x (channels x ++ v ∷ []) y) → P y (get_or (update channels x (channels x ++ v ∷ []) y) k d)
each_sent {A} P channels x v d new y each = elim (updated_at channels x (channels x ++ v ∷ []) y) [
  | inl w ↦ subst (λ (l : List A). (k : ℕ) → k < length l → P y (get_or l k d)) (sym w.1)
      (each_push (P y) (channels x) v d (subst (λ (z : ℕ). (k : ℕ) → k < length (channels z) → P y (get_or (channels z) k d)) w.0 each)
      (subst (λ (z : ℕ). P z v) (sym w.0) new))
  | inr w ↦ subst (λ (l : List A). (k : ℕ) → k < length l → P y (get_or l k d)) (sym w.1) each
]

-- a message on a channel is there still
pub some_sent : {A : Type 0} → (P : A → Type 0) (channels : ℕ → List A) (x : ℕ) (v d : A) (y : ℕ) →
    ((k : ℕ) × (k < length (channels y)) × P (get_or (channels y) k d)) →
    (k : ℕ) × (k < length (update channels x (channels x ++ v ∷ []) y)) × P (get_or (update channels x (channels x ++ v ∷ []) y) k d)
some_sent {A} P channels x v d y some = elim (updated_at channels x (channels x ++ v ∷ []) y) [
  | inl w ↦ subst (λ (l : List A). (k : ℕ) × (k < length l) × P (get_or l k d)) (sym w.1)
      (some_push P (channels x) v d (subst (λ (z : ℕ). (k : ℕ) × (k < length (channels z)) × P (get_or (channels z) k d)) w.0 some))
  | inr w ↦ subst (λ (l : List A). (k : ℕ) × (k < length l) × P (get_or l k d)) (sym w.1) some
]

-- that one is there
pub new_sent : {A : Type 0} → (P : A → Type 0) (channels : ℕ → List A) (x : ℕ) (v d : A) (y : ℕ) → y ≡ x → P v →
    (k : ℕ) × (k < length (update channels x (channels x ++ v ∷ []) y)) × P (get_or (update channels x (channels x ++ v ∷ []) y) k d)
new_sent {A} P channels x v d y e new =
    subst (λ (l : List A). (k : ℕ) × (k < length l) × P (get_or l k d))
    (sym (ap (update channels x (channels x ++ v ∷ [])) e ∙ updated_same channels x (channels x ++ v ∷ []))) (new_push P (channels x) v d new)
