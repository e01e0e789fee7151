-- Readers of numbered elements: what one has after each of them, up to the first refusal.
use Rattle.std.proofs.Common.{◌≡◌, ◌+◌, ◌∙◌, ◌<◌, ◌≤◌, ℕ, List, [], ◌∷◌, ◌++◌, length, map, take, get_or, sym, ap, subst}
use Rattle.std.proofs.Common.{Option, Result, Ok, take_all}
use Rattle.std.proofs.lemmas.List.{map-append}
use Rattle.pm_base.specs.Outcomes.{each_from, Refuses}
use Rattle.pm_base.proofs.NumberedLists.{each_from_more, each_from-map, Refuses-each_from}
use Rattle.pm_scene.specs.Nodes.{place_number}

-- the first i values were read by shape, each at the number of its place, and gave the parts of these items
abbrev pub HaveRead : {A D X Y E : Type 0} → (ℕ → D → Result Y E) → (A → D) → (X → Y) → List A → ℕ → List X → Type 0
HaveRead shape see part values i items = each_from 1 (λ n v. shape (place_number n) (see v)) (take i values) ≡ Ok (map part items)

-- the next value was read too
pub HaveRead-next : {A D X Y E : Type 0} (shape : ℕ → D → Result Y E) (see : A → D) (part : X → Y) (values : List A) (i here : ℕ) (d value : A)
    (items more : List X) (item : X) → HaveRead shape see part values i items → i < length values → value ≡ get_or values i d
    → here ≡ place_number (1 + i) → shape here (see value) ≡ Ok (part item) → more ≡ items ++ item ∷ []
    → HaveRead shape see part values (i + 1) more
HaveRead-next shape see part values i here d value items more item have within is number read pushed =
    each_from_more 1 (λ n v. shape (place_number n) (see v)) values i d (map part items) (part item) within have
    (ap (λ v. shape (place_number (1 + i)) (see v)) (sym is) ∙ ap (λ n. shape n (see value)) (sym number) ∙ read)
    ∙ ap Ok (sym (ap (map part) pushed ∙ map-append part items (item ∷ [])))

-- the next value is refused, or an allocation failed there, and so it is for all values
pub HaveRead-refuses : {A D X Y E : Type 0} (shape : ℕ → D → Result Y E) (see : A → D) (part : X → Y) (values : List A) (i here : ℕ) (d value : A)
    (items : List X) (refusal : Option E) → HaveRead shape see part values i items → i < length values → value ≡ get_or values i d
    → here ≡ place_number (1 + i) → Refuses refusal (shape here (see value))
    → Refuses refusal (each_from 1 (λ n w. shape (place_number n) w) (map see values))
HaveRead-refuses shape see part values i here d value items refusal have within is number fails =
    subst (Refuses refusal) (each_from-map 1 (λ n w. shape (place_number n) w) see values)
    (Refuses-each_from 1 (λ n v. shape (place_number n) (see v)) values i d (map part items) refusal within have
    (subst (λ v. Refuses refusal (shape (place_number (1 + i)) (see v))) is (subst (λ n. Refuses refusal (shape n (see value))) number fails)))

-- all values were read
pub HaveRead-all : {A D X Y E : Type 0} (shape : ℕ → D → Result Y E) (see : A → D) (part : X → Y) (values : List A) (i : ℕ) (items : List X)
    → HaveRead shape see part values i items → length values ≤ i
    → each_from 1 (λ n w. shape (place_number n) w) (map see values) ≡ Ok (map part items)
HaveRead-all shape see part values i items have past =
    sym (each_from-map 1 (λ n w. shape (place_number n) w) see values)
    ∙ ap (each_from 1 (λ n v. shape (place_number n) (see v))) (sym (take_all i values past)) ∙ have
