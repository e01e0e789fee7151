-- A stored value gives back what it was made of.
use Rattle.std.proofs.Common.{
  ◌≡◌,
  ℕ,
  ◌+◌,
  ◌≤◌,
  ◌<◌,
  ◌^◌,
  List,
  [],
  ◌++◌,
  length,
  take,
  drop,
  min,
  refl,
  sym,
  ◌∙◌,
  ap,
  subst,
  arith,
  append_assoc,
  length-append,
  nat_lt,
  if◌then◌else◌,
  false,
}
use Rattle.std.proofs.lemmas.List.{take_at, drop_at}
use Rattle.std.proofs.lemmas.Bool.{le-ltb}
use Rattle.std.proofs.lemmas.Nat.{from_be_bytes-to_be_bytes_8}
use Rattle.std.specs.Int.{w64, to_be_bytes, from_be_bytes}
use Rattle.pm_store.specs.Values.{Kept, node_value, stored_start, stored_kept, stored_resume, stored_bid, resume_length, ValuesGiveBack}

not_short : (start' : ℕ) (kept : Kept) → nat_lt (length (node_value start' kept)) 16 ≡ false
not_short start' kept =
    let rest = to_be_bytes w64 (length kept.resume) ++ (kept.resume ++ kept.bid) in
    let front : length (to_be_bytes w64 start') ≡ 8 = refl in
    let next : length (to_be_bytes w64 (length kept.resume)) ≡ 8 = refl in
    let all = length-append (to_be_bytes w64 start') rest in
    let behind = length-append (to_be_bytes w64 (length kept.resume)) (kept.resume ++ kept.bid) in
    le-ltb (length (node_value start' kept)) 16 (omega (arith, front, next, all, behind))

start : (start' : ℕ) (kept : Kept) → start' < 2 ^ 64 → stored_start (node_value start' kept) ≡ start'
start start' kept fits = ap (λ b. if b then 0 else from_be_bytes w64 (node_value start' kept)) (not_short start' kept) ∙
    from_be_bytes-to_be_bytes_8 start' fits

long : (start' : ℕ) (kept : Kept) → length kept.resume < 2 ^ 64 → resume_length (node_value start' kept) ≡ length kept.resume
long start' kept fits =
    let sum = length-append kept.resume kept.bid in
    ap (λ n. min n (length (kept.resume ++ kept.bid))) (from_be_bytes-to_be_bytes_8 (length kept.resume) fits) ∙ least
    (length kept.resume) (length (kept.resume ++ kept.bid)) (omega (arith, sum))
  where
    least : (a b : ℕ) → a ≤ b → min a b ≡ a
    least a b le = omega (arith, le)

-- the Resume in a value is the one that it was made of
pub resume : (start' : ℕ) (kept : Kept) → length kept.resume < 2 ^ 64 → stored_resume (node_value start' kept) ≡ kept.resume
resume start' kept fits =
    ap (λ b. if b then [] else take (resume_length (node_value start' kept)) (kept.resume ++ kept.bid)) (not_short start' kept)
    ∙ ap (λ n. take n (kept.resume ++ kept.bid)) (long start' kept fits) ∙ take_at kept.resume kept.bid (length kept.resume) refl

-- the Bid in a value is the one that it was made of
pub bid : (start' : ℕ) (kept : Kept) → length kept.resume < 2 ^ 64 → stored_bid (node_value start' kept) ≡ kept.bid
bid start' kept fits =
    ap (λ b. if b then [] else drop (resume_length (node_value start' kept)) (kept.resume ++ kept.bid)) (not_short start' kept)
    ∙ ap (λ n. drop n (kept.resume ++ kept.bid)) (long start' kept fits) ∙ drop_at kept.resume kept.bid (length kept.resume) refl

abbrev pair : List ℕ → List ℕ → Kept
pair resume' bid' = record { resume = resume'; bid = bid' }

-- what a value was made of is in it, where the Resume's length is a u64
pub kept_is : (start' : ℕ) (kept : Kept) → length kept.resume < 2 ^ 64 → stored_kept (node_value start' kept) ≡ kept
kept_is start' kept fits =
    ap (λ (r : List ℕ). pair r (stored_bid (node_value start' kept))) (resume start' kept fits) ∙ ap (pair kept.resume)
    (bid start' kept fits)

-- the parts of the law
pub values_give_back : ValuesGiveBack
values_give_back = record { start = start; kept = kept_is; none = refl }
