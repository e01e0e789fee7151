-- Two lists compared place by place.
use Rattle.std.proofs.Common.{◌≡◌, ℕ, ◌+◌, ◌<◌, List, length, take, map, get_or, sym, ap, ◌∙◌}
use Rattle.std.proofs.lemmas.List.{get_or-map, get_or_read, take_more_same}

-- equal lists have the same element at a place
pub alike_at : {X : Type 0} (xs ys : List X) (i : ℕ) (x y : X) → i < length ys → x ≡ get_or xs i x → y ≡ get_or ys i y → xs ≡ ys → x ≡ y
alike_at xs ys i x y inside read reads same =
    read ∙ ap (λ zs. get_or zs i x) same ∙ sym (get_or_read ys i y inside reads x)

-- lists that have the same elements before a place and at it have the same elements up to it
pub alike_up_to : {X : Type 0} (xs ys : List X) (i : ℕ) (x y : X) → i < length xs → i < length ys → x ≡ get_or xs i x →
    y ≡ get_or ys i y → x ≡ y → take i xs ≡ take i ys → take (i + 1) xs ≡ take (i + 1) ys
alike_up_to xs ys i x y inside within read reads same before =
    take_more_same xs ys i x inside within before (sym read ∙ same ∙ get_or_read ys i y within reads x)

-- what is seen of an element stands at its place in what is seen of the list
pub seen_at : {X Y : Type 0} (f : X → Y) (xs : List X) (i : ℕ) (x : X) → i < length xs → x ≡ get_or xs i x → f x ≡ get_or (map f xs) i (f x)
seen_at f xs i x inside read = ap f read ∙ sym (get_or-map f xs i x (f x) inside)
