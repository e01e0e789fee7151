-- Nodes by name.
use Rattle.std.proofs.Common.{◌≡◌, ℕ, ◌+◌, ◌<◌, ◌≤◌, Bool, true, false, cond, ◌&&◌, not, List, [], ◌∷◌, ◌++◌, length, map}
use Rattle.std.proofs.Common.{Option, Some, None, is_some, unwrap_or, refl, sym, ap, ◌∙◌, arith, length-append, ◌||◌}
use Rattle.std.specs.List.{list_any, list_all, position, position_or_len}
use Rattle.std.specs.Str.{bytes_eq}
use Rattle.std.proofs.lemmas.Bool.Decides.{nat_tests}
use Rattle.std.proofs.lemmas.List.{length-map, map-append}
use Rattle.std.proofs.lemmas.List.Folds.{list_all-append}
use Rattle.std.proofs.lemmas.List.Quantifiers.{position-Some}
use Rattle.pm_tree.specs.Names.{auctioneer}
use Rattle.pm_tree.specs.Entries.{Entry, names_of, node_named, number_named, parents_of, leaves_of}

-- searches through the bytes of strings
pub position_or_len-map : {A B : Type 0} (p : B → Bool) (f : A → B) (xs : List A) → position_or_len (λ x. p (f x)) xs ≡ position_or_len p (map f xs)
position_or_len-map p f [] = refl
position_or_len-map p f (x ∷ xs) = rw (position_or_len-map p f xs)

-- testing a function's values finds the same place as a search through the mapped list
pub position-map : {A B : Type 0} (p : B → Bool) (f : A → B) (xs : List A) → position (λ x. p (f x)) xs ≡ position p (map f xs)
position-map p f xs = rw (position_or_len-map p f xs, length-map)

-- some value of a function passes a test just where some element of the mapped list does
pub list_any-map : {A B : Type 0} (p : B → Bool) (f : A → B) (xs : List A) → list_any (λ x. p (f x)) xs ≡ list_any p (map f xs)
list_any-map p f [] = refl
list_any-map p f (x ∷ xs) = rw (list_any-map p f xs)

-- the place of the first element that passes, by the first element
first_passes : {A : Type 0} (p : A → Bool) (x : A) (xs : List A) → p x ≡ true → position_or_len p (x ∷ xs) ≡ 0
first_passes p x xs is = ap (λ b. cond (not b) (1 + position_or_len p xs) 0) is

first_fails : {A : Type 0} (p : A → Bool) (x : A) (xs : List A) → p x ≡ false → position_or_len p (x ∷ xs) ≡ 1 + position_or_len p xs
first_fails p x xs is = ap (λ b. cond (not b) (1 + position_or_len p xs) 0) is

-- where no element passes a test, none is found
past_cons : {A : Type 0} (p : A → Bool) (x : A) (xs : List A) (b : Bool) → p x ≡ b → length (x ∷ xs) ≤ position_or_len p (x ∷ xs) →
    (length xs ≤ position_or_len p xs → list_any p xs ≡ false) → list_any p (x ∷ xs) ≡ false
past_cons p x xs true is past rest = let found = first_passes p x xs is in absurd (omega arith)
past_cons p x xs false is past rest =
    let next = first_fails p x xs is in
    let low : length xs ≤ position_or_len p xs = omega arith in
    ap (λ b. b || list_any p xs) is ∙ rest low

past_none : {A : Type 0} (p : A → Bool) (xs : List A) → length xs ≤ position_or_len p xs → list_any p xs ≡ false
past_none p [] past = refl
past_none p (x ∷ xs) past = past_cons p x xs (p x) refl past (past_none p xs)

none_past : {A : Type 0} (p : A → Bool) (xs : List A) → position p xs ≡ None → length xs ≤ position_or_len p xs
none_past p xs none = grind (arith, nat_tests)

-- where a search finds no place, no element passes its test
pub list_any-position : {A : Type 0} (p : A → Bool) (xs : List A) → position p xs ≡ None → list_any p xs ≡ false
list_any-position p xs none = past_none p xs (none_past p xs none)

-- an element that is found stays so where more come after it
found_cons : {A : Type 0} (p : A → Bool) (x : A) (xs ys : List A) (b : Bool) → p x ≡ b →
    position_or_len p (x ∷ xs) < length (x ∷ xs) →
    (position_or_len p xs < length xs → position_or_len p (xs ++ ys) ≡ position_or_len p xs) →
    position_or_len p (x ∷ (xs ++ ys)) ≡ position_or_len p (x ∷ xs)
found_cons p x xs ys true is low rest = first_passes p x (xs ++ ys) is ∙ sym (first_passes p x xs is)
found_cons p x xs ys false is low rest =
    let next = first_fails p x xs is in
    let inside : position_or_len p xs < length xs = omega arith in
    first_fails p x (xs ++ ys) is ∙ ap (λ n. 1 + n) (rest inside) ∙ sym next

position_or_len-append : {A : Type 0} (p : A → Bool) (xs ys : List A) → position_or_len p xs < length xs →
    position_or_len p (xs ++ ys) ≡ position_or_len p xs
position_or_len-append p [] ys low = absurd (omega arith)
position_or_len-append p (x ∷ xs) ys low = found_cons p x xs ys (p x) refl low (position_or_len-append p xs ys)

some_low : {A : Type 0} (p : A → Bool) (xs : List A) → is_some (position p xs) ≡ true → position_or_len p xs < length xs
some_low p xs some = grind (arith, nat_tests)

low_position : {A : Type 0} (p : A → Bool) (xs : List A) → position_or_len p xs < length xs → position p xs ≡ Some (position_or_len p xs)
low_position p xs low = grind (arith, nat_tests)

position-append : {A : Type 0} (p : A → Bool) (xs ys : List A) → is_some (position p xs) ≡ true → position p (xs ++ ys) ≡ position p xs
position-append p xs ys some =
    let low : position_or_len p xs < length xs = some_low p xs some in
    let same : position_or_len p (xs ++ ys) ≡ position_or_len p xs = position_or_len-append p xs ys low in
    low_position p (xs ++ ys) (omega (arith, same, length-append xs ys)) ∙ ap (λ n. Some n) same ∙ sym (low_position p xs low)

-- the names of entries with more behind them are the names so far, and then those of the further entries
pub names_of-append : (before more : List Entry) → names_of (before ++ more) ≡ names_of before ++ map (λ (e : Entry). e.name) more
names_of-append before more = ap (λ names. auctioneer ∷ names) (map-append (λ (e : Entry). e.name) before more)

-- the node that has a name stays the same where more entries follow
pub node_named-append : (before more : List Entry) (name : List ℕ) → is_some (node_named before name) ≡ true →
    node_named (before ++ more) name ≡ node_named before name
unfolding node_named
node_named-append before more name some =
    ap (position (bytes_eq name)) (names_of-append before more)
    ∙ position-append (bytes_eq name) (names_of before) (map (λ (e : Entry). e.name) more) some

-- a node that is found is no later than the last
pub node_named-inside : (entries : List Entry) (name : List ℕ) (node : ℕ) → node_named entries name ≡ Some node → node ≤ length entries
unfolding node_named
node_named-inside entries name node found =
    let low : node < length (names_of entries) = (position-Some (bytes_eq name) (names_of entries) node [] found).0 in
    let count : length (map (λ (e : Entry). e.name) entries) ≡ length entries = length-map entries (λ (e : Entry). e.name) in
    omega arith

-- the number of the node with a name, 0 where none has it, is at most the number of entries
pub number_named-inside : (entries : List Entry) (name : List ℕ) → number_named entries name ≤ length entries
number_named-inside entries name = by (node_named entries name) refl
  where
    by : (found : Option ℕ) → node_named entries name ≡ found → number_named entries name ≤ length entries
    by None none = let zero_is : number_named entries name ≡ 0 = ap (λ o. unwrap_or o 0) none in omega arith
    by (Some node) some =
        let node_is : number_named entries name ≡ node = ap (λ o. unwrap_or o 0) some in
        let low : node ≤ length entries = node_named-inside entries name node some in
        omega arith

-- whether the parent of each of the entries is named
abbrev pub are_named : List Entry → List Entry → Bool
are_named entries some = list_all (λ entry. is_some (node_named entries entry.parent)) some

-- where two flags joined by `and` are true, each of them is
pub and_true : (a b : Bool) → (a && b) ≡ true → (a ≡ true) × (b ≡ true)
and_true a b both = grind arith

numbers-append : (before more some : List Entry) → are_named before some ≡ true →
    map (λ (e : Entry). number_named (before ++ more) e.parent) some ≡ map (λ (e : Entry). number_named before e.parent) some
numbers-append before more [] named = refl
numbers-append before more (e ∷ some) named =
    let both = and_true (is_some (node_named before e.parent)) (are_named before some) named in
    let first : number_named (before ++ more) e.parent ≡ number_named before e.parent =
    ap (λ o. unwrap_or o 0) (node_named-append before more e.parent both.0) in
    let rest = numbers-append before more some both.1 in
    (λ i. first i ∷ rest i)

are_named-append : (before more some : List Entry) → are_named before some ≡ true → are_named (before ++ more) some ≡ true
are_named-append before more [] named = refl
are_named-append before more (e ∷ some) named =
    let both = and_true (is_some (node_named before e.parent)) (are_named before some) named in
    let first : is_some (node_named (before ++ more) e.parent) ≡ true = ap is_some (node_named-append before more e.parent both.0) ∙ both.0 in
    let rest = are_named-append before more some both.1 in
    (λ i. first i && rest i)

-- all parents stay named with one entry more whose parent is named among the nodes before it
pub are_named-more : (before : List Entry) (e : Entry) → are_named before before ≡ true →
    is_some (node_named before e.parent) ≡ true → are_named (before ++ e ∷ []) (before ++ e ∷ []) ≡ true
are_named-more before e named last =
    let first = are_named-append before (e ∷ []) before named in
    let here : are_named (before ++ e ∷ []) (e ∷ []) ≡ true =
    ap (λ o. is_some o && true) (node_named-append before (e ∷ []) e.parent last) ∙ ap (λ b. b && true) last in
    list_all-append (λ (entry : Entry). is_some (node_named (before ++ e ∷ []) entry.parent)) before (e ∷ []) ∙ (λ i. first i && here i)

-- with one entry more, and all parents named, the parents are those so far and then the entry's
pub parents_of-more : (before : List Entry) (e : Entry) → are_named before before ≡ true →
    is_some (node_named before e.parent) ≡ true → parents_of (before ++ e ∷ []) ≡ parents_of before ++ number_named before e.parent ∷ []
unfolding parents_of
parents_of-more before e named last =
    map-append (λ (entry : Entry). number_named (before ++ e ∷ []) entry.parent) before (e ∷ [])
    ∙ (let first = numbers-append before (e ∷ []) before named in
    let here : number_named (before ++ e ∷ []) e.parent ≡ number_named before e.parent =
    ap (λ o. unwrap_or o 0) (node_named-append before (e ∷ []) e.parent last) in
    (λ i. first i ++ here i ∷ []))

-- with one entry more the leaf marks are those so far and then the entry's
pub leaves_of-more : (before : List Entry) (e : Entry) → leaves_of (before ++ e ∷ []) ≡ leaves_of before ++ e.leaf ∷ []
unfolding leaves_of
leaves_of-more before e = map-append (λ (entry : Entry). entry.leaf) before (e ∷ [])

-- there are as many parents as entries
pub length-parents_of : (entries : List Entry) → length (parents_of entries) ≡ length entries
unfolding parents_of
length-parents_of entries = length-map entries (λ (entry : Entry). number_named entries entry.parent)

-- there are as many leaf marks as entries
pub length-leaves_of : (entries : List Entry) → length (leaves_of entries) ≡ length entries
unfolding leaves_of
length-leaves_of entries = length-map entries (λ (entry : Entry). entry.leaf)
