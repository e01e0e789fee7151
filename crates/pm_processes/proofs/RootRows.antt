-- Of the worked answers: those of an auctioneer.
use Rattle.std.proofs.Common.{◌≡◌, ◌⊎◌, ◌∙◌, sym, ap, refl, inl, inr, ℕ, ◌+◌, ◌^◌, pos, negsuc, true, false, arith}
use Rattle.std.proofs.Common.{List, [], ◌∷◌, ◌++◌, Option, Some, None, eqb, cond, not, ◌&&◌}
use Rattle.std.proofs.lemmas.Int.{ints}
use Rattle.std.proofs.lemmas.Bool.{true≢false}
use Rattle.pm_base.specs.declared.limits.Limits.{Limits}
use Rattle.pm_basis.specs.Prices.{BasisValue}
use Rattle.pm_cache.specs.Cache.{Cache}
use Rattle.pm_wire.specs.declared.frame.Frame.TheVariants.{Hello, Bid, Gone, Clear}
use Rattle.pm_relay.specs.Numbers.{IsCaughtUp}
use Rattle.pm_relay.specs.Roots.{RootValue, RootCleared, NotCleared, newest_index, with_root_bid, LooksForClearing, HearsItsClearing}
use Rattle.pm_relay.specs.declared.fault.RootFault.{RootFault}
use Rattle.pm_relay.specs.declared.fault.RootFault.TheVariants.{NotCaughtUp, NotChanged, OutOfNumbers}
use Rattle.pm_frames.specs.Stored.{StoredRoot}
use Rattle.pm_frames.specs.declared.root.RootFrame.{RootFrame}
use Rattle.pm_frames.specs.declared.root.RootFrame.TheVariants.{Market, Expire, Bound, Resume}
use Rattle.pm_services.specs.Bounds.{KeepsBound, no_bounds, widest}
use Rattle.pm_services.specs.Outputs.{Output, Keeps, Says}
use Rattle.pm_services.specs.Receipts.{downs}
use Rattle.pm_services.specs.RootWrites.{WritesRoot, WritesRootBid, WritesRootBounded, WritesClear, root_bytes, root_bounds_after, stored_root, clearing_outs}
use Rattle.pm_services.specs.RootWrites.{not_cleared_reply, clearing_again_outs}
use Rattle.pm_services.specs.RootAnswers.{OpenRoot, RootComesUpBy}
use Rattle.pm_system.proofs.WorkedValues.{reaches, reached, suffices, enough}
use Rattle.pm_processes.specs.WorkedAnswers.{nine_basis, nine_field, numbers_field, price_written, first_demand, small_bound}
use Rattle.pm_processes.specs.WorkedAnswers.{child_numbers, RootSays, RootTurns, HasIndexBeyond, IsRootHello, RootRows}
use Rattle.pm_processes.specs.WorkedAnswers.{old_written, too_much_written, root_without, root_hears_bid}
use Rattle.pm_processes.specs.WorkedAnswers.{root_hears_gone, root_hears_newer, root_cleared, bounded_root, first_bids}
use Rattle.pm_processes.proofs.AnswerRows.{two_keep, recorded_are}

abbrev Outs : Type 0
Outs = List (Output StoredRoot)

-- ---- from what an auctioneer makes of a frame to what its service answers

same_root : (a b : OpenRoot) → a.basis ≡ b.basis → a.bounds ≡ b.bounds → a.root ≡ b.root → a ≡ b
same_root a b one two three =
    ap (λ (x : BasisValue). record { basis = x; bounds = a.bounds; root = a.root }) one
    ∙ (ap (λ (x : List Limits). record { basis = b.basis; bounds = x; root = a.root }) two
    ∙ ap (λ (x : RootValue). record { basis = b.basis; bounds = b.bounds; root = x }) three)

says : (old : OpenRoot) (frame : RootFrame) (bytes : List ℕ) →
    ((new : RootValue) (outs : Outs) → WritesRoot old.basis old.bounds old.root frame new outs → root_bytes old.basis outs ≡ bytes) →
    RootSays old frame bytes
says old frame bytes does = record { any = λ new reply a. a.written ∙ does a.writes.0.root a.outs a.writes.2.held }

turns : (old : OpenRoot) (frame : RootFrame) (bytes : List ℕ) (after : OpenRoot) → old.basis ≡ after.basis →
    root_bounds_after old.bounds frame ≡ after.bounds →
    ((new : RootValue) (outs : Outs) → WritesRoot old.basis old.bounds old.root frame new outs →
    (root_bytes old.basis outs ≡ bytes) × (new ≡ after.root)) →
    RootTurns old frame bytes after
turns old frame bytes after basis bounds does = record {
  any = λ new reply a.
      let w = a.writes in
      let found = does w.0.root a.outs w.2.held in
      (a.written ∙ found.0, w.1 ∙ ap (λ (r : OpenRoot). Some r) (same_root w.0 after (w.2.basis ∙ basis) (w.2.bounds ∙ bounds) found.1));
}

-- the bytes of what was worked out
bytes_of : (basis : BasisValue) (outs given : Outs) (bytes : List ℕ) → outs ≡ given → root_bytes basis given ≡ bytes →
    root_bytes basis outs ≡ bytes
bytes_of basis outs given bytes same is = ap (λ (l : Outs). root_bytes basis l) same ∙ is

-- ---- Clear

module _ (old new : RootValue) (outs : Outs) where
  abbrev Refused : RootFault → Type 0
  Refused fault = (outs ≡ Says (not_cleared_reply fault) ∷ []) × (new ≡ old)

  -- a cause excludes the others, and a clearing
  lacks_by : (IsCaughtUp old.recorded old.auction.cache.heads → ⊥) → (fault : RootFault) → NotCleared old fault → new ≡ old →
      outs ≡ Says (not_cleared_reply fault) ∷ [] → Refused NotCaughtUp
  lacks_by lacks NotCaughtUp why same said = (said, same)
  lacks_by lacks NotChanged why same said = absurd (lacks why.0)
  lacks_by lacks OutOfNumbers why same said = absurd (lacks why.0)

  is_not_caught_up : (IsCaughtUp old.recorded old.auction.cache.heads → ⊥) → WritesClear nine_basis old new outs → Refused NotCaughtUp
  is_not_caught_up lacks (inl did) = absurd (lacks did.2.caught_up)
  is_not_caught_up lacks (inr did) = lacks_by lacks did.0 did.1 did.2 did.3

  same_by : IsCaughtUp old.recorded old.auction.cache.heads → old.auction.changed ≡ false → (fault : RootFault) → NotCleared old fault →
      new ≡ old →
      outs ≡ Says (not_cleared_reply fault) ∷ [] → Refused NotChanged
  same_by caught still NotCaughtUp why same said = absurd (why caught)
  same_by caught still NotChanged why same said = (said, same)
  same_by caught still OutOfNumbers why same said = absurd (true≢false (sym why.1 ∙ still))

  is_not_changed : IsCaughtUp old.recorded old.auction.cache.heads → old.auction.changed ≡ false → WritesClear nine_basis old new outs →
      Refused NotChanged
  is_not_changed caught still (inl did) = absurd (true≢false (sym did.2.cleared.changed ∙ still))
  is_not_changed caught still (inr did) = same_by caught still did.0 did.1 did.2 did.3

  out_by : IsCaughtUp old.recorded old.auction.cache.heads → old.auction.changed ≡ true → (fault : RootFault) → NotCleared old fault → new ≡ old →
      outs ≡ Says (not_cleared_reply fault) ∷ [] → (newest_index old + 1 ≡ 2 ^ 32) × Refused OutOfNumbers
  out_by caught moved NotCaughtUp why same said = absurd (why caught)
  out_by caught moved NotChanged why same said = absurd (true≢false (sym moved ∙ why.1))
  out_by caught moved OutOfNumbers why same said = (why.2, (said, same))

-- what is written of a clearing
abbrev outs_by : ℕ → ℕ → Cache → List ℕ → Outs
outs_by index step cache recorded = Keeps (record { last = index; basis = nine_basis; numbers = recorded }) ∷ downs index step 0 cache.heads

outs_are : (new : RootValue) (index step : ℕ) (cache : Cache) (recorded' : List ℕ) → newest_index new ≡ index → new.auction.step ≡ step →
    new.auction.cache ≡ cache → new.recorded ≡ recorded' →
    Keeps (stored_root nine_basis new) ∷ clearing_outs new ≡ outs_by index step cache recorded'
outs_are new index step cache recorded' one two three four =
    ap (λ (n : ℕ). outs_by n new.auction.step new.auction.cache new.recorded) one
    ∙ (ap (λ (n : ℕ). outs_by index n new.auction.cache new.recorded) two
    ∙ (ap (λ (k : Cache). outs_by index step k new.recorded) three ∙ ap (λ (l : List ℕ). outs_by index step cache l) four))

-- the index of a clearing is the next one
index_is : (old new : RootValue) (index step : ℕ) → RootCleared old new index step → newest_index new ≡ newest_index old + 1
index_is old new index step did = omega (arith, did.base, did.cleared.index, did.cleared.new_index)

-- ---- a child's Bid

-- the Bid of child 1 is within the bounds of any bid, and beyond 4 watts
keeps : KeepsBound no_bounds 1 first_demand
keeps = two_keep widest (pos 5) (negsuc 2) (omega (arith, ints), omega (arith, ints)) (omega (arith, ints), omega (arith, ints))

breaks : KeepsBound bounded_root.bounds 1 first_demand → ⊥
breaks holds = absurd (omega (arith, ints, (holds 0 (omega arith)).1))

counts : (old : RootValue) (number : ℕ) (new : RootValue) (outs : Outs) → WritesRootBounded no_bounds old 1 number first_demand new outs →
    WritesRootBid old 1 number (Some first_demand) new outs
counts old number new outs (inl did) = did.1
counts old number new outs (inr did) = absurd (did.0 keeps)

-- what it heard is new, and it does not have its clearing again
stays : (heard new : RootValue) → (HearsItsClearing heard → ⊥) → LooksForClearing heard new → new ≡ heard
stays heard new lacks (inl found) = absurd (lacks found.0)
stays heard new lacks (inr other) = other.1

-- With the Bid of number 2 child 1 is heard again. Or that was heard, and child 2 is let go again under number 5.
abbrev heard_again : RootValue
heard_again = with_root_bid root_hears_gone.root 0 2 (Some first_demand)

hears_it : HearsItsClearing heard_again
unfolding reaches suffices
hears_it = record {
  came_back = omega arith;
  lost = refl;
  caught_up = reached heard_again.recorded heard_again.auction.cache.heads refl;
  nothing_newer = enough heard_again.recorded heard_again.auction.cache.heads refl;
  changed = refl;
}

again_of : (old new : RootValue) (outs : Outs) → old.auction.index ≡ 0 → LooksForClearing heard_again new → outs ≡ clearing_again_outs old new →
    root_bytes nine_basis outs ≡ price_written 1 2 4
again_of old new outs lost (inl found) replied =
    let cleared = found.1.cleared in
    let index : newest_index new ≡ 4 = omega (arith, found.1.base, cleared.new_index) in
    bytes_of nine_basis outs (downs 4 1 0 heard_again.auction.cache.heads) (price_written 1 2 4)
    (replied ∙ (ap (λ (n : ℕ). cond (eqb n 0 && not (eqb new.auction.index 0)) (clearing_outs new) []) lost
    ∙ (ap (λ (n : ℕ). cond (not (eqb n 0)) (clearing_outs new) []) cleared.new_index
    ∙ (ap (λ (n : ℕ). downs n new.auction.step 0 new.auction.cache.heads) index
    ∙ (ap (λ (n : ℕ). downs 4 n 0 new.auction.cache.heads) cleared.new_step ∙ ap (λ (k : Cache). downs 4 1 0 k.heads) cleared.cache))))) refl
again_of old new outs lost (inr other) replied = absurd (other.0 hears_it)

is_again : (new : RootValue) (outs : Outs) → WritesRootBounded no_bounds root_hears_gone.root 1 2 first_demand new outs →
    root_bytes nine_basis outs ≡ price_written 1 2 4
is_again new outs did =
    let w = counts root_hears_gone.root 2 new outs did in again_of root_hears_gone.root new outs refl w.looks w.replied

-- it hears a newer one
is_never_again : (new : RootValue) (outs : Outs) → WritesRootBounded no_bounds root_hears_gone.root 1 4 first_demand new outs →
    (root_bytes nine_basis outs ≡ []) × (new ≡ (root_hears_newer 4).root)
is_never_again new outs did =
    let w = counts root_hears_gone.root 4 new outs did in
    let heard : RootValue = with_root_bid root_hears_gone.root 0 4 (Some first_demand) in
    let same : new ≡ heard = stays heard new (λ h. absurd (omega (arith, h.nothing_newer 0 (omega arith)))) w.looks in
    (bytes_of nine_basis outs [] [] (w.replied ∙ ap (λ (r : RootValue). clearing_again_outs root_hears_gone.root r) same) refl, same)

-- an old one
is_old : (new : RootValue) (outs : Outs) → WritesRootBounded no_bounds root_cleared.root 1 1 first_demand new outs →
    (root_bytes nine_basis outs ≡ old_written 1 2) × (new ≡ root_cleared.root)
is_old new outs did =
    let w = counts root_cleared.root 1 new outs did in
    (ap (λ (l : Outs). root_bytes nine_basis l) w.replied, stays root_cleared.root new (λ h. absurd (omega (arith, h.lost))) w.looks)

is_too_much : (new : RootValue) (outs : Outs) → WritesRootBounded bounded_root.bounds root_cleared.root 1 4 first_demand new outs →
    (root_bytes nine_basis outs ≡ too_much_written 1 4) × (new ≡ root_cleared.root)
is_too_much new outs (inl did) = absurd (breaks did.0)
is_too_much new outs (inr did) = (ap (λ (l : Outs). root_bytes nine_basis l) did.2, did.1)

-- before Hello it stays as it is
stays_closed : (frame : RootFrame) (new : Option OpenRoot) → (IsRootHello frame → ⊥) → RootComesUpBy frame new → new ≡ None
stays_closed (Market (Hello basis)) new others up = absurd (others tt)
stays_closed (Market (Bid sender number demand)) new others up = up
stays_closed (Market (Gone sender number)) new others up = up
stays_closed (Market Clear) new others up = up
stays_closed (Expire sender) new others up = up
stays_closed (Bound sender bound) new others up = up
stays_closed (Resume stored) new others up = up

-- ---- the answers to Clear

caught : IsCaughtUp (root_hears_newer 4).root.recorded (root_hears_newer 4).root.auction.cache.heads
unfolding reaches
caught = reached (root_hears_newer 4).root.recorded (root_hears_newer 4).root.auction.cache.heads refl

caught_all : IsCaughtUp root_cleared.root.recorded root_cleared.root.auction.cache.heads
unfolding reaches
caught_all = reached root_cleared.root.recorded root_cleared.root.auction.cache.heads refl

refused : (fault : RootFault) (bytes : List ℕ) (old new : RootValue) (outs : Outs) →
    root_bytes nine_basis (Says (not_cleared_reply fault) ∷ []) ≡ bytes →
    Refused old new outs fault → (root_bytes nine_basis outs ≡ bytes) × (new ≡ old)
refused fault bytes old new outs is did = (ap (λ (l : Outs). root_bytes nine_basis l) did.0 ∙ is, did.1)

clears_not : (fault : RootFault) → NotCleared (root_hears_newer 4).root fault → ⊥
clears_not NotCaughtUp why = why caught
clears_not NotChanged why = absurd (true≢false why.1)
clears_not OutOfNumbers why = absurd (omega (arith, why.2))

clears_by : (new : RootValue) (outs : Outs) → WritesClear nine_basis (root_hears_newer 4).root new outs →
    root_bytes nine_basis outs ≡ 25 ∷ 0 ∷ 0 ∷ 0 ∷ 5 ∷ (nine_field ++ (numbers_field 4 5 ++ price_written 1 4 5))
clears_by new outs (inl did) =
    let old : RootValue = (root_hears_newer 4).root in
    bytes_of nine_basis outs (outs_by 5 1 old.auction.cache (child_numbers 4 5)) _
    (did.3 ∙ outs_are new 5 1 old.auction.cache (child_numbers 4 5) (index_is old new did.0 did.1 did.2) (did.2.cleared.new_step ∙ did.2.cleared.step)
    did.2.cleared.cache (recorded_are new.recorded old.auction.cache.heads did.2.children refl did.2.numbers)) refl
clears_by new outs (inr did) = absurd (clears_not did.0 did.1)

out_of_by : (service : Option OpenRoot) (after : OpenRoot) (outs : Outs) → service ≡ Some after →
    WritesClear nine_basis (root_hears_newer 4294967295).root after.root outs →
    (root_bytes nine_basis outs ≡ 18 ∷ []) ⊎ HasIndexBeyond service
out_of_by service after outs is (inl did) =
    inr (after, is, omega (arith, index_is (root_hears_newer 4294967295).root after.root did.0 did.1 did.2))
out_of_by service after outs is (inr did) =
    let found = out_by (root_hears_newer 4294967295).root after.root outs caught refl did.0 did.1 did.2 did.3 in
    inl (ap (λ (l : Outs). root_bytes nine_basis l) found.1.0)

-- ---- the rows

-- the rows of an auctioneer
pub root_rows : RootRows
root_rows = record {
  before_hello = λ frame new reply a. (a.written, λ others. stays_closed frame new others a.writes.0);
  begins = record { auction = refl; base = refl; recorded = refl };
  not_caught_up = turns root_hears_gone (Market Clear) (17 ∷ []) root_hears_gone refl refl (λ new outs did.
      refused NotCaughtUp (17 ∷ []) root_hears_gone.root new outs refl
      (is_not_caught_up root_hears_gone.root new outs (λ c. absurd (omega (arith, c 0 (omega arith)))) did));
  not_changed = turns root_cleared (Market Clear) (6 ∷ []) root_cleared refl refl (λ new outs did.
      refused NotChanged (6 ∷ []) root_cleared.root new outs refl (is_not_changed root_cleared.root new outs caught_all refl did));
  out_of_numbers = λ new reply a. elim (out_of_by new a.writes.0 a.outs a.writes.1 a.writes.2.held) [
    | inl said ↦ inl (a.written ∙ said)
    | inr beyond ↦ inr beyond
  ];
  clears = says (root_hears_newer 4) (Market Clear) _ clears_by;
  again = says root_hears_gone (first_bids 2) (price_written 1 2 4) is_again;
  let_go_again = says root_hears_bid (Expire 2) (price_written 1 2 4) (λ new outs did.
      again_of root_hears_bid.root new outs refl did.looks did.replied);
  never_again = turns root_hears_gone (first_bids 4) [] (root_hears_newer 4) refl refl is_never_again;
  old = turns root_cleared (first_bids 1) _ root_cleared refl refl is_old;
  bound = turns root_cleared (Bound 1 small_bound) [] bounded_root refl refl (λ new outs did.
      (ap (λ (l : Outs). root_bytes nine_basis l) did.1, did.0));
  too_much = turns bounded_root (first_bids 4) _ bounded_root refl refl is_too_much;
  counts_gone = turns root_cleared (Market (Gone 1 6)) [] (root_without 6) refl refl (λ new outs did.
      (ap (λ (l : Outs). root_bytes nine_basis l) did.replied, stays _ new (λ h. absurd (omega (arith, h.lost))) did.looks));
  let_go = turns root_cleared (Expire 1) [] (root_without 3) refl refl (λ new outs did.
      (ap (λ (l : Outs). root_bytes nine_basis l) did.replied, stays _ new (λ h. absurd (omega (arith, h.lost))) did.looks));
}
