-- How many bytes the answers of an auctioneer have, and which prices it sends again.
use Rattle.std.proofs.Common.{◌≡◌, ◌∙◌, sym, ap, refl, ℕ, ◌+◌, ◌<◌, ◌≤◌, ℤ, Bool, true, false, List, [], ◌∷◌, ◌++◌}
use Rattle.std.proofs.Common.{length, Option, arith}
use Rattle.std.proofs.Common.{inl, inr}
use Rattle.std.specs.Prelude.{◌==◌, ◌&&◌, ◌||◌, not, nat_le, if◌then◌else◌}
use Rattle.std.proofs.lemmas.Bool.Decides.{nat_tests}
use Rattle.pm_base.specs.Limits.{most_nodes}
use Rattle.pm_bid.specs.declared.head.BidHead.{BidHead}
use Rattle.pm_basis.specs.Prices.{BasisValue}
use Rattle.pm_cache.specs.Cache.{kept_number}
use Rattle.pm_relay.specs.Roots.{RootValue, newest_index, with_root_bid, LooksForClearing, RootCleared, NotCleared}
use Rattle.pm_relay.specs.declared.fault.RootFault.{RootFault}
use Rattle.pm_frames.specs.Stored.{StoredRoot, root_resume_bytes, root_resume_size}
use Rattle.pm_frames.specs.ParentFrames.{prices_bytes}
use Rattle.pm_frames.proofs.OneNumber.{length-number_bytes}
use Rattle.pm_services.specs.Limits.{root_reply_limit, prices_limit}
use Rattle.pm_services.specs.Outputs.{Output, Keeps}
use Rattle.pm_services.specs.Receipts.{sender_place, receipt_bytes, receipt_outs, Appended}
use Rattle.pm_services.specs.RootWrites.{stored_root, has_prices, kept_prices_outs, clearing_outs, clearing_again_outs, root_bytes}
use Rattle.pm_services.specs.RootWrites.{WritesRootBid, WritesClear, not_cleared_reply}
use Rattle.pm_services.proofs.Written.{few_of, appended_then, says, receipt_written, downs_written}

abbrev Outs : Type 0
Outs = List (Output StoredRoot)

-- what it keeps over a restart
pub length-root_resume : (stored : StoredRoot) → length stored.numbers ≡ most_nodes → length (root_resume_bytes stored) ≡ root_resume_size
length-root_resume stored all = omega (arith, all, length-number_bytes stored.numbers)

-- the bytes of the prices of its newest clearing
pub clearing_written : (basis : BasisValue) (r : RootValue) →
    prices_bytes basis (newest_index r) r.auction.step 1 r.auction.cache.heads ≡ root_bytes basis (clearing_outs r)
clearing_written basis r = downs_written root_resume_bytes basis 0 (newest_index r) r.auction.step 0 r.auction.cache.heads

-- ---- prices that are sent again

-- `lost` and `lost_still` say that it had no clearing since it came up, `learnt` and `learns` that it learnt something since
again_rebuilt : (lost learnt lost_still learns : Bool) (outs : Outs) → lost ≡ true → lost_still ≡ false → learns ≡ false →
    (if not lost && not learnt then [] else (if not lost_still && not learns then outs else [])) ≡ (if lost && not lost_still then outs else [])
again_rebuilt lost learnt lost_still learns outs before after nothing = rw (before, after, nothing) refl

again_same : (lost learnt lost_still learns : Bool) (outs : Outs) → lost_still ≡ lost → (learnt ≡ true → learns ≡ true) →
    (if not lost && not learnt then [] else (if not lost_still && not learns then outs else [])) ≡ (if lost && not lost_still then outs else [])
again_same true learnt lost_still learns outs same keeps = rw same refl
again_same false false lost_still learns outs same keeps = refl
again_same false true lost_still learns outs same keeps = rw (same, keeps refl) refl

-- the prices that are had after a bid and were not before are those of a clearing that is had again
pub sent_again : (old new : RootValue) (child number : ℕ) (demand : Option (List ℤ)) →
    LooksForClearing (with_root_bid old child number demand) new →
    (if has_prices old then [] else kept_prices_outs new) ≡ clearing_again_outs old new
sent_again old new child number demand (inl found) =
    again_rebuilt (old.auction.index == 0) old.auction.changed (new.auction.index == 0) new.auction.changed (clearing_outs new)
    (ap (λ (n : ℕ). n == 0) found.0.lost) (ap (λ (n : ℕ). n == 0) found.1.cleared.new_index) found.1.cleared.not_changed
sent_again old new child number demand (inr stays) =
    let counts = not (nat_le number (kept_number old.auction.cache child)) in
    again_same (old.auction.index == 0) old.auction.changed (new.auction.index == 0) new.auction.changed (clearing_outs new)
    (ap (λ (r : RootValue). r.auction.index == 0) stays.1)
    (λ learnt. ap (λ (r : RootValue). r.auction.changed) stays.1 ∙ ap (λ (b : Bool). b || counts) learnt)

-- ---- prices of a clearing

above_none : (n m : ℕ) → n ≡ m + 1 → (n == 0) ≡ false
above_none n m is = grind (arith, nat_tests)

has_both : (none learnt : Bool) (outs : Outs) → none ≡ false → learnt ≡ false → (if not none && not learnt then outs else []) ≡ outs
has_both none learnt outs clears nothing = rw (clears, nothing) refl

-- an auctioneer that cleared has its prices
pub cleared_kept : (old new : RootValue) (index step : ℕ) → RootCleared old new index step → kept_prices_outs new ≡ clearing_outs new
cleared_kept old new index step made =
    has_both (new.auction.index == 0) new.auction.changed (clearing_outs new) (above_none new.auction.index old.auction.index made.cleared.new_index)
    made.cleared.not_changed

-- the bytes of the prices that an auctioneer has
pub kept_written : (basis : BasisValue) (r : RootValue) (index step : ℕ) (heads : List BidHead) → 0 < r.auction.index → r.auction.changed ≡ false →
    heads ≡ r.auction.cache.heads → step ≡ r.auction.step → index ≡ newest_index r →
    prices_bytes basis index step 1 heads ≡ root_bytes basis (kept_prices_outs r)
kept_written basis r index step heads some nothing heads_are step_is index_is =
    let none : (r.auction.index == 0) ≡ false = grind (arith, nat_tests, some) in
    ap (λ (l : List BidHead). prices_bytes basis index step 1 l) heads_are ∙ ap (λ (n : ℕ). prices_bytes basis index n 1 r.auction.cache.heads) step_is
    ∙ ap (λ (n : ℕ). prices_bytes basis n r.auction.step 1 r.auction.cache.heads) index_is ∙ clearing_written basis r
    ∙ ap (λ (o : Outs). root_bytes basis o) (sym (has_both (r.auction.index == 0) r.auction.changed (clearing_outs r) none nothing))

-- ---- what is appended

-- the prices that are sent again where a bid, or a child that is let go, is behind these bytes
pub again_appended : (basis : BasisValue) (old new : RootValue) (child number : ℕ) (demand : Option (List ℤ)) (had : Bool) (mid longer : List ℕ) →
    LooksForClearing (with_root_bid old child number demand) new → had ≡ has_prices old →
    longer ≡ mid ++ root_bytes basis (if had then [] else kept_prices_outs new) → longer ≡ mid ++ root_bytes basis (clearing_again_outs old new)
again_appended basis old new child number demand had mid longer looks before prices =
    prices ∙ ap (λ (b : Bool). mid ++ root_bytes basis (if b then [] else kept_prices_outs new)) before
    ∙ ap (λ (o : Outs). mid ++ root_bytes basis o) (sent_again old new child number demand looks)

-- the answer to a child's bid
pub bid_answered : (basis : BasisValue) (old new : RootValue) (sender number : ℕ) (demand : Option (List ℤ)) (had : Bool) (out mid longer : List ℕ) →
    LooksForClearing (with_root_bid old (sender_place sender) number demand) new → had ≡ has_prices old →
    mid ≡ out ++ receipt_bytes (kept_number old.auction.cache (sender_place sender)) sender number →
    longer ≡ mid ++ root_bytes basis (if had then [] else kept_prices_outs new) →
    length longer ≤ length out + (7 + prices_limit) →
    Appended (root_bytes basis) (WritesRootBid old sender number demand new) (7 + prices_limit) out longer
bid_answered basis old new sender number demand had out mid longer looks before receipt prices few =
    let kept : ℕ = kept_number old.auction.cache (sender_place sender) in
    let first : Outs = receipt_outs kept sender number in
    let second : Outs = clearing_again_outs old new in
    let appended : longer ≡ out ++ root_bytes basis (first ++ second) =
    appended_then root_resume_bytes basis 0 first second out mid longer
    (receipt ∙ ap (λ (l : List ℕ). out ++ l) (receipt_written root_resume_bytes basis 0 kept sender number))
    (again_appended basis old new (sender_place sender) number demand had mid longer looks before prices) in
    record {
      outs = first ++ second;
      writes = record { looks = looks; replied = refl };
      appended = appended;
      few = few_of out longer (root_bytes basis (first ++ second)) (7 + prices_limit) appended few;
    }

-- the answer to a Clear, by whether the market was cleared
pub clear_answered : (basis : BasisValue) (old new : RootValue) (index step : ℕ) (out longer : List ℕ) → RootCleared old new index step →
    longer ≡ out ++ root_bytes basis (Keeps (stored_root basis new) ∷ kept_prices_outs new) →
    length longer ≤ length out + (root_resume_size + prices_limit) →
    Appended (root_bytes basis) (WritesClear basis old new) root_reply_limit out longer
clear_answered basis old new index step out longer made written few =
    let outs : Outs = Keeps (stored_root basis new) ∷ clearing_outs new in
    let appended : longer ≡ out ++ root_bytes basis outs =
    written ∙ ap (λ (o : Outs). out ++ root_bytes basis (Keeps (stored_root basis new) ∷ o)) (cleared_kept old new index step made) in
    record {
      outs = outs;
      writes = inl (index, step, made, refl);
      appended = appended;
      few = few_of out longer (root_bytes basis outs) root_reply_limit appended (omega (arith, few));
    }

-- the answer where the market is not cleared
pub refused_answered : (basis : BasisValue) (old new : RootValue) (fault : RootFault) (out longer : List ℕ) → NotCleared old fault → new ≡ old →
    longer ≡ out ++ not_cleared_reply fault → length longer ≤ length out + 1 →
    Appended (root_bytes basis) (WritesClear basis old new) root_reply_limit out longer
refused_answered basis old new fault out longer why stays written few =
    says root_resume_bytes basis 0 (WritesClear basis old new) root_reply_limit out longer (not_cleared_reply fault) written
    (few_of out longer (not_cleared_reply fault) root_reply_limit written (omega (arith, few))) (inr (fault, why, stays, refl))
