-- The bounds of a process are the newest that its frames gave, and each Bid keeps that of its child or does not count.
use Rattle.std.proofs.Common.{◌≡◌, ◌∙◌, sym, subst, ℕ, ◌<◌, ℤ, List, [], ◌∷◌, length, inl, inr, eqb}
use Rattle.std.proofs.Common.{eq-eqb, ne_eqb}
use Rattle.std.proofs.lemmas.Bool.{cases_eq, cond-true, cond-false}
use Rattle.std.proofs.lemmas.Grind.{get_or-set_at}
use Rattle.std.proofs.lemmas.List.{get_or-set_other, length-set, get_or-replicate, length-replicate}
use Rattle.pm_base.specs.Limits.{most_nodes}
use Rattle.pm_base.specs.declared.limits.Limits.{Limits}
use Rattle.pm_wire.specs.declared.frame.Frame.TheVariants.{Hello, Bid, Gone, Clear}
use Rattle.pm_relay.specs.Roots.{RootValue}
use Rattle.pm_frames.specs.declared.relay.RelayFrame.{RelayFrame}
use Rattle.pm_frames.specs.declared.relay.RelayFrame.TheVariants as relay_frame
use Rattle.pm_frames.specs.declared.root.RootFrame.{RootFrame}
use Rattle.pm_frames.specs.declared.root.RootFrame.TheVariants as root_frame
use Rattle.pm_basis.specs.Prices.{BasisValue}
use Rattle.pm_services.specs.Bounds.{widest, no_bounds, with_bound, bound_of}
use Rattle.pm_services.specs.Receipts.{sender_place}
use Rattle.pm_services.specs.RelaySetups.{RelaySetup}
use Rattle.pm_services.specs.RelayWrites.{WaitingRelay, WritesBounded, WritesRelay, bounds_after}
use Rattle.pm_services.specs.RootWrites.{WritesRootBounded, WritesRoot, root_bounds_after}
use Rattle.pm_bid.specs.Limited.{NeverBind}
use Rattle.pm_processes.specs.RelayProcess.{RelayExchange, RelayExchanges, AreRelayBounds}
use Rattle.pm_processes.specs.RootProcess.{RootExchange, RootExchanges, AreRootBounds}
use Rattle.pm_processes.specs.Bounded.{given_bound, bounds_behind, root_bounds_behind, IsBoundedBid, IsBoundedRootBid, IsBounded, IsRootBounded}
use Rattle.pm_processes.specs.Bounded.{AreBounded, AreRootBounded}

-- the list of the bounds has one for each place, and it is this
pub record Lists (bounds : List Limits) (bound_at : ℕ → Limits) : Type 0 where
  -- one for each place
  pub many : length bounds ≡ most_nodes
  -- and that of each child
  pub is : (sender : ℕ) → sender_place sender < most_nodes → bound_of bounds sender ≡ bound_at (sender_place sender)

-- before any frame it is the widest of each
pub lists_none : Lists no_bounds (λ place. widest)
lists_none = record {
  many = length-replicate most_nodes widest;
  is = λ sender inside. get_or-replicate most_nodes (sender_place sender) widest widest inside;
}

-- once another one is given
lists_given : (bounds : List Limits) (bound_at : ℕ → Limits) (sender : ℕ) (bound : Limits) → Lists bounds bound_at →
    Lists (with_bound bounds sender bound) (given_bound bound_at sender bound)
lists_given bounds bound_at sender bound l =
    let given : ℕ = sender_place sender in
    record {
      many = length-set bounds given bound ∙ l.many;
      is = λ other inside. elim (cases_eq (sender_place other) given) [
        | inl e ↦ get_or-set_at bounds given (sender_place other) bound widest e
            (subst (λ (k : ℕ). k < length bounds) e (subst (λ (n : ℕ). sender_place other < n) (sym l.many) inside))
            ∙ sym (cond-true (eqb (sender_place other) given) bound (bound_at (sender_place other)) (eq-eqb (sender_place other) given e))
        | inr ne ↦ get_or-set_other bounds given (sender_place other) bound widest ne ∙ l.is other inside
            ∙ sym (cond-false (eqb (sender_place other) given) bound (bound_at (sender_place other)) (ne_eqb (sender_place other) given ne))
      ];
    }

-- ---- of a relay

module _ (own : RelaySetup) where
  lists_behind : (bounds : List Limits) (bound_at : ℕ → Limits) (frame : RelayFrame) → Lists bounds bound_at →
      Lists (bounds_after bounds frame) (bounds_behind bound_at frame)
  lists_behind bounds bound_at (relay_frame.Child frame) l = l
  lists_behind bounds bound_at (relay_frame.Parent frame) l = l
  lists_behind bounds bound_at relay_frame.Send l = l
  lists_behind bounds bound_at (relay_frame.Expire sender) l = l
  lists_behind bounds bound_at (relay_frame.Limits number limits) l = l
  lists_behind bounds bound_at (relay_frame.Bound sender bound) l = lists_given bounds bound_at sender bound l
  lists_behind bounds bound_at (relay_frame.Resume stored) l = l

  bid_bounded : (old : WaitingRelay) (e : RelayExchange) (bound : Limits) (sender number : ℕ) (demand : List ℤ) → bound_of e.bounds sender ≡ bound →
      WritesBounded own e.bounds old sender number demand e.after e.outs → IsBoundedBid own bound old sender number demand e
  bid_bounded old e bound sender number demand is (inl did) = record {
    within = λ keeps. did.1;
    beyond = λ breaks. absurd (breaks (subst (λ (b : Limits). NeverBind b demand) is did.0));
  }
  bid_bounded old e bound sender number demand is (inr did) = record {
    within = λ keeps. absurd (did.0 (subst (λ (b : Limits). NeverBind b demand) (sym is) keeps));
    beyond = λ breaks. did.1;
  }

  one_bounded : (bound_at : ℕ → Limits) (old : WaitingRelay) (e : RelayExchange) (frame : RelayFrame) → Lists e.bounds bound_at →
      WritesRelay own e.bounds old frame e.after e.outs → IsBounded own bound_at old e frame
  one_bounded bound_at old e (relay_frame.Child (Hello basis)) l did = tt
  one_bounded bound_at old e (relay_frame.Child (Bid sender number demand)) l did =
      λ inside. bid_bounded old e (bound_at (sender_place sender)) sender number demand (l.is sender inside) did
  one_bounded bound_at old e (relay_frame.Child (Gone sender number)) l did = tt
  one_bounded bound_at old e (relay_frame.Child Clear) l did = tt
  one_bounded bound_at old e (relay_frame.Parent frame) l did = tt
  one_bounded bound_at old e relay_frame.Send l did = tt
  one_bounded bound_at old e (relay_frame.Expire sender) l did = tt
  one_bounded bound_at old e (relay_frame.Limits number limits) l did = tt
  one_bounded bound_at old e (relay_frame.Bound sender bound) l did = tt
  one_bounded bound_at old e (relay_frame.Resume stored) l did = tt

  -- so each Bid among its frames is bounded
  pub all_bounded : (bounds : List Limits) (bound_at : ℕ → Limits) → Lists bounds bound_at → (old : WaitingRelay) (es : List RelayExchange) →
      RelayExchanges own old es → AreRelayBounds bounds es → AreBounded own bound_at old es
  all_bounded bounds bound_at l old [] did are = tt
  all_bounded bounds bound_at l old (e ∷ es) did are = (
    one_bounded bound_at old e e.frame (subst (λ (b : List Limits). Lists b bound_at) (sym are.0) l) did.0,
    all_bounded (bounds_after bounds e.frame) (bounds_behind bound_at e.frame) (lists_behind bounds bound_at e.frame l) e.after es did.1 are.1,
  )

-- ---- of an auctioneer

root_lists_behind : (bounds : List Limits) (bound_at : ℕ → Limits) (frame : RootFrame) → Lists bounds bound_at →
    Lists (root_bounds_after bounds frame) (root_bounds_behind bound_at frame)
root_lists_behind bounds bound_at (root_frame.Market frame) l = l
root_lists_behind bounds bound_at (root_frame.Expire sender) l = l
root_lists_behind bounds bound_at (root_frame.Bound sender bound) l = lists_given bounds bound_at sender bound l
root_lists_behind bounds bound_at (root_frame.Resume stored) l = l

root_bid_bounded : (old : RootValue) (e : RootExchange) (bound : Limits) (sender number : ℕ) (demand : List ℤ) → bound_of e.bounds sender ≡ bound →
    WritesRootBounded e.bounds old sender number demand e.after e.outs → IsBoundedRootBid bound old sender number demand e
root_bid_bounded old e bound sender number demand is (inl did) = record {
  within = λ keeps. did.1;
  beyond = λ breaks. absurd (breaks (subst (λ (b : Limits). NeverBind b demand) is did.0));
}
root_bid_bounded old e bound sender number demand is (inr did) = record {
  within = λ keeps. absurd (did.0 (subst (λ (b : Limits). NeverBind b demand) (sym is) keeps));
  beyond = λ breaks. (did.1, did.2);
}

module _ (basis : BasisValue) where
  root_one_bounded : (bound_at : ℕ → Limits) (old : RootValue) (e : RootExchange) (frame : RootFrame) → Lists e.bounds bound_at →
      WritesRoot basis e.bounds old frame e.after e.outs → IsRootBounded bound_at old e frame
  root_one_bounded bound_at old e (root_frame.Market (Hello other)) l did = tt
  root_one_bounded bound_at old e (root_frame.Market (Bid sender number demand)) l did =
      λ inside. root_bid_bounded old e (bound_at (sender_place sender)) sender number demand (l.is sender inside) did
  root_one_bounded bound_at old e (root_frame.Market (Gone sender number)) l did = tt
  root_one_bounded bound_at old e (root_frame.Market Clear) l did = tt
  root_one_bounded bound_at old e (root_frame.Expire sender) l did = tt
  root_one_bounded bound_at old e (root_frame.Bound sender bound) l did = tt
  root_one_bounded bound_at old e (root_frame.Resume stored) l did = tt

  -- so each Bid among its frames is bounded too
  pub root_all_bounded : (bounds : List Limits) (bound_at : ℕ → Limits) → Lists bounds bound_at → (old : RootValue) (es : List RootExchange) →
      RootExchanges basis old es → AreRootBounds bounds es → AreRootBounded bound_at old es
  root_all_bounded bounds bound_at l old [] did are = tt
  root_all_bounded bounds bound_at l old (e ∷ es) did are = (
    root_one_bounded bound_at old e e.frame (subst (λ (b : List Limits). Lists b bound_at) (sym are.0) l) did.0,
    root_all_bounded (root_bounds_after bounds e.frame) (root_bounds_behind bound_at e.frame) (root_lists_behind bounds bound_at e.frame l) e.after es
        did.1 are.1,
  )
