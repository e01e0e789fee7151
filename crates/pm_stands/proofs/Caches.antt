-- The parents' caches with one entry changed.
use Rattle.std.proofs.Common.{◌≡◌, ◌∙◌, sym, ap, ℕ, ◌<◌, ℤ, Bool, true, false, not, ◌||◌, eqb, leb, List, length, get_or, Option, Some}
use Rattle.std.proofs.Common.{None, refl, arith, inl, inr, get_or-set_same, get_or-set_other}
use Rattle.std.proofs.Math.ListN.{set, length-set}
use Rattle.std.proofs.lemmas.Bool.{cases_eq, cond-true, cond-false, eq-eqb, ne_eqb, lt-leb}
use Rattle.pm_cache.specs.Cache.{Cache, kept_number}
use Rattle.pm_cache.specs.Learning.{with_newer_bid, after_learning}
use Rattle.pm_concentrator.specs.Concentrators.{Gathered}
use Rattle.pm_auctioneer.specs.Auctions.{Auction}
use Rattle.pm_stands.specs.Core.{gathered_in, gathered_at, cache_in}
use Rattle.pm_stands.specs.Rows.{OneConcentrator, EntryLearnt}

-- the cache of node 0 is the auctioneer's
pub cache_root : (a : Auction) (cs : List (Option Gathered)) (y : ℕ) → y ≡ 0 → cache_in a cs y ≡ a.cache
unfolding cache_in
cache_root a cs y e = cond-true (eqb y 0) a.cache (gathered_at cs y).cache (eq-eqb y 0 e)

-- the cache of any node but node 0 is that of the concentrator in the node's place
pub cache_inner : (a : Auction) (cs : List (Option Gathered)) (y : ℕ) → (y ≡ 0 → ⊥) → cache_in a cs y ≡ (gathered_at cs y).cache
unfolding cache_in
cache_inner a cs y ne = cond-false (eqb y 0) a.cache (gathered_at cs y).cache (ne_eqb y 0 ne)

-- where a concentrator stands in the place of y it is the one that is read of y
pub gathered_known : (cs : List (Option Gathered)) (y : ℕ) (g : Gathered) → get_or cs y None ≡ Some g → gathered_at cs y ≡ g
unfolding gathered_at
gathered_known cs y g e = ap gathered_in e

-- a concentrator that was set in a place of the list is the one that is read there
pub gathered_same : (cs : List (Option Gathered)) (y : ℕ) (g : Gathered) → y < length cs → gathered_at (set cs y (Some g)) y ≡ g
gathered_same cs y g lt = gathered_known (set cs y (Some g)) y g (get_or-set_same cs y (Some g) None lt)

-- setting a concentrator in one place leaves what is read of the others
pub gathered_other : (cs : List (Option Gathered)) (y i : ℕ) (g : Gathered) → (i ≡ y → ⊥) → gathered_at (set cs y (Some g)) i ≡ gathered_at cs i
unfolding gathered_at
gathered_other cs y i g ne = ap gathered_in (get_or-set_other cs y i (Some g) None ne)

-- a bid with a greater number than the one kept is entered when it is learnt
pub learnt_newer : (cache : Cache) (k n : ℕ) (demand : Option (List ℤ)) → kept_number cache k < n →
    after_learning cache k n demand ≡ with_newer_bid cache k n demand
learnt_newer cache k n demand newer = cond-false (leb n (kept_number cache k)) cache (with_newer_bid cache k n demand) (lt-leb n (kept_number cache k) newer)

news_after : (a : Auction) (k n : ℕ) → kept_number a.cache k < n → (a.changed || not (leb n (kept_number a.cache k))) ≡ true
news_after a k n newer = ap (λ b. a.changed || not b) (lt-leb n (kept_number a.cache k) newer) ∙ or_true a.changed
  where
    or_true : (b : Bool) → (b || true) ≡ true
    or_true true = refl
    or_true false = refl

-- an auctioneer that learnt a newer bid of a child has that entry learnt, and nobody else anything
pub learnt_root : (a a' : Auction) (cs : List (Option Gathered)) (y k n : ℕ) (demand : Option (List ℤ)) → y ≡ 0 → kept_number (cache_in a cs y) k < n
    → a' ≡ record a { cache = after_learning a.cache k n demand; changed = a.changed || not (leb n (kept_number a.cache k)) }
    → EntryLearnt a a' cs cs y k n demand
learnt_root a a' cs y k n demand e newer is =
    let newer' : kept_number a.cache k < n = omega (arith, ap (λ c. kept_number c k) (cache_root a cs y e)) in
    record {
      entry = cache_root a' cs y e ∙ ap (λ (x : Auction). x.cache) is ∙ learnt_newer a.cache k n demand newer'
          ∙ ap (λ c. with_newer_bid c k n demand) (sym (cache_root a cs y e));
      others = λ i ne.
          let inner : i ≡ 0 → ⊥ = λ z. ne (z ∙ sym e) in
          cache_inner a' cs i inner ∙ sym (cache_inner a cs i inner);
      kept = λ i. record { window = refl; limits = refl; announced = refl };
      there = λ i h. h;
      all = refl;
      index = ap (λ (x : Auction). x.index) is;
      step = ap (λ (x : Auction). x.step) is;
      changed = ap (λ (x : Auction). x.changed) is ∙ news_after a k n newer' ∙ sym (cond-true (eqb y 0) true a.changed (eq-eqb y 0 e));
    }

-- a concentrator that learnt a newer bid of a child has that entry learnt, and nobody else anything
pub learnt_inner : (a : Auction) (cs : List (Option Gathered)) (g g' : Gathered) (y k n : ℕ) (demand : Option (List ℤ)) →
    (y ≡ 0 → ⊥) → y < length cs → get_or cs y None ≡ Some g
    → kept_number (cache_in a cs y) k < n
    → g' ≡ record g { cache = after_learning g.cache k n demand }
    → EntryLearnt a a cs (set cs y (Some g')) y k n demand
learnt_inner a cs g g' y k n demand ne lt at newer is =
    let old_is : cache_in a cs y ≡ g.cache = cache_inner a cs y ne ∙ ap (λ (x : Gathered). x.cache) (gathered_known cs y g at) in
    let newer' : kept_number g.cache k < n = omega (arith, ap (λ c. kept_number c k) old_is) in
    let same = gathered_same cs y g' lt in
    record {
      entry = cache_inner a (set cs y (Some g')) y ne ∙ ap (λ (x : Gathered). x.cache) same ∙ ap (λ (x : Gathered). x.cache) is
          ∙ learnt_newer g.cache k n demand newer' ∙ ap (λ c. with_newer_bid c k n demand) (sym old_is);
      others = λ i differs. elim (cases_eq i 0) [
        | inl z ↦ cache_root a (set cs y (Some g')) i z ∙ sym (cache_root a cs i z)
        | inr nz ↦ cache_inner a (set cs y (Some g')) i nz ∙ ap (λ (x : Gathered). x.cache) (gathered_other cs y i g' differs)
            ∙ sym (cache_inner a cs i nz)
      ];
      kept = λ i. elim (cases_eq i y) [
        | inl e ↦
            let new_is : gathered_at (set cs y (Some g')) i ≡ record g { cache = after_learning g.cache k n demand } =
            ap (gathered_at (set cs y (Some g'))) e ∙ same ∙ is in
            let was : gathered_at cs i ≡ g = ap (gathered_at cs) e ∙ gathered_known cs y g at in
            record {
              window = ap (λ (x : Gathered). x.window) new_is ∙ sym (ap (λ (x : Gathered). x.window) was);
              limits = ap (λ (x : Gathered). x.limits) new_is ∙ sym (ap (λ (x : Gathered). x.limits) was);
              announced = ap (λ (x : Gathered). x.announced) new_is ∙ sym (ap (λ (x : Gathered). x.announced) was);
            }
        | inr differs ↦
            let other = gathered_other cs y i g' differs in
            record {
              window = ap (λ (x : Gathered). x.window) other;
              limits = ap (λ (x : Gathered). x.limits) other;
              announced = ap (λ (x : Gathered). x.announced) other;
            }
      ];
      there = λ i h. elim (cases_eq i y) [
        | inl e ↦
            ap (λ (z : ℕ). get_or (set cs y (Some g')) z None) e ∙ get_or-set_same cs y (Some g') None lt
            ∙ ap Some (sym (ap (gathered_at (set cs y (Some g'))) e ∙ same))
        | inr differs ↦ get_or-set_other cs y i (Some g') None differs ∙ h ∙ ap Some (sym (gathered_other cs y i g' differs))
      ];
      all = length-set cs y (Some g');
      index = refl;
      step = refl;
      changed = sym (cond-false (eqb y 0) true a.changed (ne_eqb y 0 ne));
    }

-- setting a concentrator in one place of the list changes that of the place alone
pub one_concentrator : (cs : List (Option Gathered)) (y : ℕ) (g : Gathered) → y < length cs → OneConcentrator cs (set cs y (Some g)) y
one_concentrator cs y g lt = record {
  all = length-set cs y (Some g);
  others = λ i ne. gathered_other cs y i g ne;
  there = λ i h. elim (cases_eq i y) [
    | inl e ↦ ap (λ (z : ℕ). get_or (set cs y (Some g)) z None) e ∙ get_or-set_same cs y (Some g) None lt
        ∙ ap Some (sym (ap (gathered_at (set cs y (Some g))) e ∙ gathered_same cs y g lt))
    | inr ne ↦ get_or-set_other cs y i (Some g) None ne ∙ h ∙ ap Some (sym (gathered_other cs y i g ne))
  ];
}
