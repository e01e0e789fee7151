-- Tables of rows, and states whose parts are the same.
use Rattle.std.proofs.Common.{◌≡◌, ℕ, ◌+◌, ◌<◌, inl, inr, List, [], ◌∷◌, ◌++◌, length, get_or, set, sym, ◌∙◌, ap}
use Rattle.std.specs.Prelude.{Result, Ok, Err, OnErr, OnOk}
use Rattle.std.proofs.lemmas.Bool.{cases_eq}
use Rattle.std.proofs.Common.{get_or-set_same, get_or-set_other, Vec, Global, map, replicate, refl, arith}
use Rattle.std.proofs.lemmas.List.{with_items_is, length-map, length-replicate, map-append, replicate-append-replicate}
use Rattle.std.specs.Vec.{with_items}
use Rattle.std.proofs.Math.Path.{fun_ext}
use Rattle.pm_market.specs.State.{State, update}
use Rattle.pm_base.specs.Cuts.{Cut, cut_of}
use Rattle.pm_base.proofs.Lists.{get_or-replicate_same}
use Rattle.pm_base.specs.Rows.{rows_of}
use Rattle.pm_market.proofs.Cuts.{updated_same, updated_other}

-- what holds at all holds on an error
pub on_error : {T E : Type 0} (r : Result T E) (P : Type 0) → P → OnErr r P
on_error (Ok x) P p = tt
on_error (Err e) P p = p

-- what follows from a success and from an error
pub on_either : {T E : Type 0} (r : Result T E) (P Q X : Type 0) → OnOk r P → OnErr r Q → (P → X) → (Q → X) → X
on_either (Ok x) P Q X p q f g = f p
on_either (Err e) P Q X p q f g = g q

-- states with the same parts
pub state_same : (counts counts' : Cut) (closed : ℕ) (published published' : ℕ → List Cut) (learnt learnt' : ℕ → ℕ)
    (passed passed' : ℕ → List ℕ) →
    counts ≡ counts' → published ≡ published' → learnt ≡ learnt' → passed ≡ passed' →
    let old : State = record { counts = counts; closed = closed; published = published; learnt = learnt; passed = passed } in
    let new : State = record { counts = counts'; closed = closed; published = published'; learnt = learnt'; passed = passed' } in
    old ≡ new
state_same counts counts' closed published published' learnt learnt' passed passed' c p l u =
    let at : Cut → (ℕ → List Cut) → (ℕ → ℕ) → (ℕ → List ℕ) → State =
    λ c p l u. record { counts = c; closed = closed; published = p; learnt = l; passed = u } in
    ap (λ (x : Cut). at x published learnt passed) c ∙ ap (λ (x : ℕ → List Cut). at counts' x learnt passed) p
    ∙ ap (λ (x : ℕ → ℕ). at counts' published' x passed) l ∙ ap (λ (x : ℕ → List ℕ). at counts' published' learnt' x) u

-- what follows from what holds on a success holds on a success too
pub on_success : {T E : Type 0} (r : Result T E) (P Q : Type 0) → (P → Q) → OnOk r P → OnOk r Q
on_success (Ok x) P Q f p = f p
on_success (Err e) P Q f p = tt

-- a number is written
pub number_set : (xs : List ℕ) (at v : ℕ) → at < length xs → (λ (k : ℕ). get_or (set xs at v) k 0) ≡ update (λ (k : ℕ). get_or xs k 0) at v
number_set xs at v lt = fun_ext (λ (k : ℕ). elim (cases_eq k at) [
  | inl e ↦ ap (λ (j : ℕ). get_or (set xs at v) j 0) e ∙ get_or-set_same xs at v 0 lt
      ∙ sym (ap (update (λ (j : ℕ). get_or xs j 0) at v) e ∙ updated_same (λ (j : ℕ). get_or xs j 0) at v)
  | inr ne ↦ get_or-set_other xs at k v 0 ne ∙ sym (updated_other (λ (j : ℕ). get_or xs j 0) at v k ne)
])

-- a list that repeats one item has it at each place, and gives it past its end
pub all_one : {X : Type 0} (xs : List X) (n : ℕ) (x : X) → xs ≡ replicate n x → (k : ℕ) → get_or xs k x ≡ x
all_one {X} xs n x e k = ap (λ (l : List X). get_or l k x) e ∙ get_or-replicate_same n k x

-- one more empty row
pub empty_more : {X : Type 0} (old new : List (Vec X Global)) (row : Vec X Global) (n : ℕ) → new ≡ old ++ row ∷ [] → row.items ≡ [] →
    rows_of old ≡ replicate n [] → rows_of new ≡ replicate (n + 1) []
empty_more {X} old new row n is empty before =
    ap (map (λ (row : Vec X Global). row.items)) is ∙ map-append (λ (row : Vec X Global). row.items) old (row ∷ [])
    ∙ ap (λ (rows : List (List X)). rows ++ row.items ∷ []) before
    ∙ ap (λ (last : List X). replicate n [] ++ last ∷ []) empty
    ∙ replicate-append-replicate n 1 []

-- a table of so many empty rows has so many rows
pub empty_long : {X : Type 0} (table : Vec (Vec X Global) Global) (n : ℕ) → rows_of table.items ≡ replicate n [] → table.len ≡ n
empty_long {X} table n empty =
    let rows = length-map table.items (λ (row : Vec X Global). row.items) in
    let many = ap (λ (rows : List (List X)). length rows) empty in
    let long = length-replicate {A = List X} n [] in
    omega (arith, table.ok, rows, many, long)

-- an item joins a row; h is what the rows stand for
row_pushed : {X Y : Type 0} (h : List X → List Y) (old new : List (List X)) (at : ℕ) (item : X) (y : Y) →
    new ≡ set old at (get_or old at [] ++ item ∷ []) → at < length old → ((rows : List X) → h (rows ++ item ∷ []) ≡ h rows ++ y ∷ []) →
    (λ (k : ℕ). h (get_or new k [])) ≡ update (λ (k : ℕ). h (get_or old k [])) at (h (get_or old at []) ++ y ∷ [])
row_pushed {X} {Y} h old new at item y e lt more = fun_ext (λ (k : ℕ).
    let f : ℕ → List Y = λ k. h (get_or old k []) in
    let row : List X = get_or old at [] ++ item ∷ [] in
    ap (λ (rows : List (List X)). h (get_or rows k [])) e ∙ elim (cases_eq k at) [
      | inl same ↦ ap (λ (j : ℕ). h (get_or (set old at row) j [])) same ∙ ap h (get_or-set_same old at row [] lt) ∙ more (get_or old at [])
          ∙ sym (ap (update f at (h (get_or old at []) ++ y ∷ [])) same ∙ updated_same f at (h (get_or old at []) ++ y ∷ []))
      | inr ne ↦ ap h (get_or-set_other old at k row [] ne) ∙ sym (updated_other f at (h (get_or old at []) ++ y ∷ []) k ne)
    ])

-- where an item joins a row of the table that a Vec lends, it joins what that row stands for
row_joined : {X Y : Type 0} (h : List X → List Y) (table : Vec (Vec X Global) Global) (lent new : List (Vec X Global)) (at : ℕ) (item : X) (y : Y) →
    lent ≡ table.items → length new ≡ table.len → at < length table.items →
    rows_of new ≡ set (rows_of lent) at (get_or (rows_of lent) at [] ++ item ∷ []) →
    ((rows : List X) → h (rows ++ item ∷ []) ≡ h rows ++ y ∷ []) →
    (λ (k : ℕ). h (get_or (rows_of (with_items table new).items) k []))
    ≡ update (λ (k : ℕ). h (get_or (rows_of table.items) k [])) at (h (get_or (rows_of table.items) at []) ++ y ∷ [])
row_joined {X} {Y} h table lent new at item y same size within e more =
    let rows : List (Vec X Global) → List (List X) = map (λ (row : Vec X Global). row.items) in
    row_pushed h (rows table.items) (rows (with_items table new).items) at item y
    (ap rows (with_items_is table new size) ∙ e ∙ ap (λ (old : List (Vec X Global)). set (rows old) at (get_or (rows old) at [] ++ item ∷ [])) same)
    (omega (arith, within, length-map table.items (λ (row : Vec X Global). row.items))) more

-- where the rows of a table that a Vec lends stay, those of the Vec do
pub rows_kept : {X : Type 0} (table : Vec (Vec X Global) Global) (lent new : List (Vec X Global)) → lent ≡ table.items → length new ≡ table.len →
    rows_of new ≡ rows_of lent →
    rows_of (with_items table new).items ≡ rows_of table.items
rows_kept {X} table lent new same size kept =
    let rows : List (Vec X Global) → List (List X) = map (λ (row : Vec X Global). row.items) in
    ap rows (with_items_is table new size) ∙ kept ∙ ap rows same

-- where a row joins those of a node in the table that a Vec lends, its cut joins the cuts of the node
pub cut_joined : (table : Vec (Vec (Vec ℕ Global) Global) Global) (lent new : List (Vec (Vec ℕ Global) Global))
    (at : ℕ) (row : Vec ℕ Global) (cut : Cut) →
    cut_of row.items ≡ cut → lent ≡ table.items → length new ≡ table.len → at < length table.items →
    map (λ rows. rows.items) new ≡ set (map (λ rows. rows.items) lent) at (get_or (map (λ rows. rows.items) lent) at [] ++ row ∷ []) →
    let cuts : Vec (Vec (Vec ℕ Global) Global) Global → ℕ → List Cut =
    λ t c. map cut_of (rows_of (get_or (map (λ rows. rows.items) t.items) c [])) in
    cuts (with_items table new) ≡ update (cuts table) at (cuts table at ++ cut ∷ [])
cut_joined table lent new at row cut is same size within e =
    row_joined (λ (rows : List (Vec ℕ Global)). map cut_of (rows_of rows)) table lent new at row cut same size within e
    (λ rows. ap (map cut_of) (map-append (λ (row : Vec ℕ Global). row.items) rows (row ∷ []))
    ∙ map-append cut_of (rows_of rows) (row.items ∷ [])
    ∙ ap (λ (a : Cut). map cut_of (rows_of rows) ++ a ∷ []) is)

-- where an index joins those of a node in the table that a Vec lends, it joins the indices of the node
pub index_joined : (table : Vec (Vec ℕ Global) Global) (lent new : List (Vec ℕ Global)) (at index : ℕ) →
    lent ≡ table.items → length new ≡ table.len → at < length table.items →
    rows_of new ≡ set (rows_of lent) at (get_or (rows_of lent) at [] ++ index ∷ []) →
    let indices : Vec (Vec ℕ Global) Global → ℕ → List ℕ = λ t x. get_or (rows_of t.items) x [] in
    indices (with_items table new) ≡ update (indices table) at (indices table at ++ index ∷ [])
index_joined table lent new at index same size within e =
    row_joined (λ (row : List ℕ). row) table lent new at index index same size within e (λ row. refl)
