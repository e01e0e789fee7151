-- Links with one changed.
use Rattle.std.proofs.Common.{◌≡◌, ◌∙◌, sym, ap, subst, ℕ, ◌<◌, List, [], length, map, get_or, Option, Some, None, arith, inl, inr}
use Rattle.std.proofs.Common.{get_or-set_same, get_or-set_other}
use Rattle.std.proofs.Math.ListN.{set, length-set}
use Rattle.std.proofs.lemmas.Bool.{cases_eq}
use Rattle.std.proofs.lemmas.List.{get_or_read, get_or-map, length-map, map-set, set-get_or}
use Rattle.pm_session.specs.Links.{Session, new_session}
use Rattle.pm_concentrator.specs.Concentrators.{Gathered}
use Rattle.pm_stands.specs.Core.{row_at, link_at}
use Rattle.pm_stands.specs.Rows.{OneLink, OneRow}

row_same : (links : List (List Session)) (y : ℕ) (r : List Session) → y < length links → row_at (set links y r) y ≡ r
row_same links y r lt = get_or-set_same links y r [] lt

row_other : (links : List (List Session)) (y i : ℕ) (r : List Session) → (i ≡ y → ⊥) → row_at (set links y r) i ≡ row_at links i
row_other links y i r ne = get_or-set_other links y i r [] ne

-- the link in place k of row y is the one that was written there
pub link_set : (links : List (List Session)) (y k : ℕ) (v : Session) → y < length links → k < length (row_at links y) →
    link_at (set links y (set (row_at links y) k v)) y k ≡ v
unfolding link_at
link_set links y k v lt inside =
    ap (λ r. get_or r k (new_session 0)) (row_same links y (set (row_at links y) k v) lt)
    ∙ get_or-set_same (row_at links y) k v (new_session 0) inside

-- writing the link in place k of row y changes no other link and no row's length
pub one_link : (links : List (List Session)) (y k : ℕ) (v : Session) → y < length links → k < length (row_at links y) →
    OneLink links (set links y (set (row_at links y) k v)) y k
unfolding link_at
one_link links y k v lt inside =
    let row : List Session = set (row_at links y) k v in
    let new : List (List Session) = set links y row in
    record {
      all = length-set links y (set (row_at links y) k v);
      rows = λ i. elim (cases_eq i y) [
        | inl e ↦ ap (λ (n : ℕ). length (row_at new n)) e ∙ ap length (row_same links y row lt)
            ∙ length-set (row_at links y) k v ∙ sym (ap (λ (n : ℕ). length (row_at links n)) e)
        | inr ne ↦ ap length (row_other links y i row ne)
      ];
      others = λ i j differs. elim (cases_eq i y) [
        | inl e ↦ ap (λ (n : ℕ). get_or (row_at new n) j (new_session 0)) e ∙ ap (λ r. get_or r j (new_session 0)) (row_same links y row lt)
            ∙ get_or-set_other (row_at links y) k j v (new_session 0) (differs e) ∙ sym (ap (λ (n : ℕ). get_or (row_at links n) j (new_session 0)) e)
        | inr ne ↦ ap (λ r. get_or r j (new_session 0)) (row_other links y i row ne)
      ];
    }

-- the same over rows of any kind
pub record Wrote (old new : List (List Session)) (y k : ℕ) (v : Session) : Type 0 where
  -- of all links only that in place k of row y may be another
  pub one : OneLink old new y k
  -- the new link in place k of row y is v
  pub at : link_at new y k ≡ v

-- row y of the rows that f makes of xs is that of the element read in place y
pub row_read : {R : Type 0} (f : R → List Session) (xs : List R) (y : ℕ) (r : R) → y < length xs → r ≡ get_or xs y r → row_at (map f xs) y ≡ f r
row_read f xs y r lt read = get_or-map f xs y r [] lt ∙ ap f (sym read)

-- the link in place k of row y is the one read in place k of the row of the element read in place y
pub link_read : {R : Type 0} (f : R → List Session) (xs : List R) (y k : ℕ) (r : R) (v : Session) →
    y < length xs → r ≡ get_or xs y r → k < length (f r) → v ≡ get_or (f r) k v → link_at (map f xs) y k ≡ v
unfolding link_at
link_read f xs y k r v lt read inside at =
    ap (λ l. get_or l k (new_session 0)) (row_read f xs y r lt read) ∙ sym (get_or_read (f r) k v inside at (new_session 0))

-- an element written back with v in place k of its row writes v as the link there, and no other link
pub rows_set : {R : Type 0} (f : R → List Session) (xs : List R) (y k : ℕ) (r r' : R) (v : Session) → f r' ≡ set (f r) k v →
    y < length xs → r ≡ get_or xs y r → k < length (f r) → Wrote (map f xs) (map f (set xs y r')) y k v
rows_set f xs y k r r' v written lt read inside =
    let row_is = row_read f xs y r lt read in
    let new_is : map f (set xs y r') ≡ set (map f xs) y (set (row_at (map f xs) y) k v) =
    map-set f xs y r' ∙ ap (set (map f xs) y) (written ∙ ap (λ l. set l k v) (sym row_is)) in
    let lt' : y < length (map f xs) = omega (arith, length-map xs f) in
    let inside' : k < length (row_at (map f xs) y) = omega (arith, ap length row_is) in
    let P : List (List Session) → Type 0 = λ new. Wrote (map f xs) new y k v in
    subst P (sym new_is) (record { one = one_link (map f xs) y k v lt' inside'; at = link_set (map f xs) y k v lt' inside' })

-- an element written back with the row that was read leaves all rows as they were
pub row_kept : {R : Type 0} (f : R → List Session) (xs : List R) (y : ℕ) (r r' : R) → y < length xs → r ≡ get_or xs y r →
    f r' ≡ f r → map f (set xs y r') ≡ map f xs
row_kept f xs y r r' lt read kept =
    map-set f xs y r' ∙ ap (set (map f xs) y) (kept ∙ sym (row_read f xs y r lt read)) ∙ set-get_or (map f xs) y []

-- what is written back changes nothing
pub rows_same : {R : Type 0} (f : R → List Session) (xs : List R) (y k : ℕ) (r r' : R) (v : Session) → f r' ≡ set (f r) k v →
    y < length xs → r ≡ get_or xs y r → k < length (f r) → v ≡ get_or (f r) k v → map f (set xs y r') ≡ map f xs
rows_same f xs y k r r' v written lt read inside at =
    row_kept f xs y r r' lt read
    (written ∙ ap (set (f r) k) (get_or_read (f r) k v inside at (new_session 0)) ∙ set-get_or (f r) k (new_session 0))

-- an element written back with a row as long as before changes row y alone, into its own row
pub row_wrote : {R : Type 0} (f : R → List Session) (xs : List R) (y : ℕ) (r r' : R) → y < length xs → r ≡ get_or xs y r →
    length (f r') ≡ length (f r) → OneRow (map f xs) (map f (set xs y r')) y × (row_at (map f (set xs y r')) y ≡ f r')
unfolding link_at
row_wrote f xs y r r' lt read same =
    let row_is = row_read f xs y r lt read in
    let lt' : y < length (map f xs) = omega (arith, length-map xs f) in
    let new : List (List Session) = set (map f xs) y (f r') in
    let P : List (List Session) → Type 0 = λ l. OneRow (map f xs) l y × (row_at l y ≡ f r') in
    subst P (sym (map-set f xs y r')) (
      record {
        all = length-set (map f xs) y (f r');
        rows = λ i. elim (cases_eq i y) [
          | inl e ↦ ap (λ (n : ℕ). length (row_at new n)) e ∙ ap length (row_same (map f xs) y (f r') lt')
              ∙ same ∙ sym (ap length row_is) ∙ sym (ap (λ (n : ℕ). length (row_at (map f xs) n)) e)
          | inr ne ↦ ap length (row_other (map f xs) y i (f r') ne)
        ];
        others = λ i j ne. ap (λ l. get_or l j (new_session 0)) (row_other (map f xs) y i (f r') ne);
      },
      row_same (map f xs) y (f r') lt',
    )

-- the link in place k of row y that was read, and what writing it back makes of the rows
pub record IsRead {R : Type 0} (f : R → List Session) (xs : List R) (y k : ℕ) (r : R) (v : Session) : Type 0 where
  -- the link in place k of row y is the one that was read
  pub link : link_at (map f xs) y k ≡ v
  -- an element written back with w in place k of its row writes w as the link there, and no other link
  pub wrote : (r' : R) (w : Session) → f r' ≡ set (f r) k w → Wrote (map f xs) (map f (set xs y r')) y k w
  -- an element written back with the link that was read in place k of its row leaves all rows as they were
  pub same : (r' : R) (w : Session) → f r' ≡ set (f r) k w → w ≡ v → map f (set xs y r') ≡ map f xs

-- where element and link were read, the link in place k of row y is known, and so is what writing back does
pub is_read : {R : Type 0} (f : R → List Session) (xs : List R) (y k : ℕ) (r : R) (v : Session) →
    y < length xs → k < length (row_at (map f xs) y) → r ≡ get_or xs y r → v ≡ get_or (f r) k v → IsRead f xs y k r v
is_read f xs y k r v lt within read at =
    let inside : k < length (f r) = omega (arith, within, ap length (row_read f xs y r lt read)) in
    record {
      link = link_read f xs y k r v lt read inside at;
      wrote = λ r' w written. rows_set f xs y k r r' w written lt read inside;
      same = λ r' w written e. rows_same f xs y k r r' w written lt read inside (e ∙ get_or_read (f r) k v inside at w);
    }

-- row y that was read, and what writing it back makes of the rows
pub record IsRowRead {R : Type 0} (f : R → List Session) (xs : List R) (y : ℕ) (r : R) : Type 0 where
  -- row y is the row of the element that was read
  pub row : row_at (map f xs) y ≡ f r
  -- an element written back with a row as long as before changes row y alone, into its own row
  pub wrote : (r' : R) → length (f r') ≡ length (f r) → OneRow (map f xs) (map f (set xs y r')) y × (row_at (map f (set xs y r')) y ≡ f r')

-- where the element in place y was read, row y is its row, and a row as long written back changes it alone
pub is_row_read : {R : Type 0} (f : R → List Session) (xs : List R) (y : ℕ) (r : R) → y < length xs → r ≡ get_or xs y r → IsRowRead f xs y r
is_row_read f xs y r lt read = record {
  row = row_read f xs y r lt read;
  wrote = λ r' same. row_wrote f xs y r r' lt read same;
}

-- the concentrator of y that was read
pub there_read : (concentrators : List (Option Gathered)) (y : ℕ) (o : Option Gathered) (g : Gathered) →
    y < length concentrators → o ≡ get_or concentrators y o → o ≡ Some g → get_or concentrators y None ≡ Some g
there_read concentrators y o g lt read is = sym (get_or_read concentrators y o lt read None) ∙ is
