-- What the service of an auctioneer answers to a frame is some calls of the root.
use Rattle.std.proofs.Common.{◌≡◌, ◌∙◌, sym, ap, subst, ℕ, zero, suc, ◌<◌, ◌≤◌, Bool, true, false, cond, not, ◌&&◌, eqb}
use Rattle.std.proofs.Common.{leb, ℤ, List, [], ◌∷◌, ◌++◌, length, get_or, Option, Some, None, refl, inl, inr, arith}
use Rattle.std.proofs.lemmas.Bool.{cases_eq, cond-true, eq-eqb, both_ways, and_parts}
use Rattle.std.proofs.lemmas.List.{get_or_push, length_push}
use Rattle.pm_bid.specs.Bids.{zeros}
use Rattle.pm_bid.specs.Heads.{nothing_sent}
use Rattle.pm_market.specs.Lists.{Lists, nodes, parent, IsNode}
use Rattle.pm_market.proofs.Cuts.{updated_same}
use Rattle.pm_cache.specs.Cache.{kept_number}
use Rattle.pm_net.specs.Pricing.{Pricing}
use Rattle.pm_net.specs.Messages.{BidMessage, PriceMessage, bid_message, no_price}
use Rattle.pm_net.proofs.Messages.{either}
use Rattle.pm_net_plan.specs.Places.{Numbering}
use Rattle.pm_wire.specs.Answers.{answer_bytes}
use Rattle.pm_base.specs.declared.limits.Limits.{Limits}
use Rattle.pm_wire.specs.declared.answer.Reply as reply_kind
use Rattle.pm_wire.specs.declared.frame.Frame.TheVariants.{Hello, Bid, Gone, Clear}
use Rattle.pm_relay.specs.Numbers.{known_number, parents_number}
use Rattle.pm_relay.specs.Roots.{RootValue, newest_index, with_root_bid, LooksForClearing}
use Rattle.pm_relay_net.specs.RootIs.{root_prices}
use Rattle.pm_frames.specs.Stored.{StoredRoot}
use Rattle.pm_frames.specs.declared.root.RootFrame.{RootFrame}
use Rattle.pm_frames.specs.declared.root.RootFrame.TheVariants.{Market, Expire, Bound, Resume}
use Rattle.pm_services.specs.Receipts.{sender_place}
use Rattle.pm_basis.specs.Prices.{BasisValue}
use Rattle.pm_frames.specs.Answers.{too_much_bytes}
use Rattle.pm_services.specs.RootWrites.{stored_root, not_cleared_reply}
use Rattle.pm_system.specs.System.{System, bid_in_channel, with_root, with_bid_sent, with_prices_sent, with_prices_told}
use Rattle.pm_system.specs.Calls as call
use Rattle.pm_system.specs.Calls.{NodeCall, SystemRuns}
use Rattle.pm_system.specs.Expiry.{RootExpires, AreTwoCalls}
use Rattle.pm_system.specs.Given.{IsTreeMarket}
use Rattle.pm_system.specs.Market.{RunsTheMarket}
use Rattle.pm_lives.specs.Outputs.{PriceWasSent}
use Rattle.pm_services.specs.Outputs.{Output, Keeps, Says}
use Rattle.pm_services.specs.Receipts.{receipt_outs}
use Rattle.pm_services.specs.RootWrites.{clearing_outs, clearing_again_outs, WritesRootBid, WritesRootExpire, WritesRootBounded, WritesClear, WritesRoot}
use Rattle.pm_lives.specs.Moves.{OnlyMoves, FollowsByCalls, AreCalm}
use Rattle.pm_lives.specs.RelayLife.{CarriesBid, CarriesExpire}
use Rattle.pm_lives.specs.RootLife.{IsRootKept, RootLets, RootMayRead, RootFollows}
use Rattle.pm_lives.proofs.Staying.{still, then_moves, root_moved, bid_pushed, prices_pushed, prices_told, price_still_sent}
use Rattle.pm_lives.proofs.Downs.{downs_sent, downs_keep_none}
use Rattle.pm_lives.proofs.After.{runs_on, calm_on, nothing_follows, says, says_if, follows_then, follows_as}

-- the law of systems of the call `expire`
abbrev pub RootExpiringIsTwoCalls : Type 0
RootExpiringIsTwoCalls = (lists : Lists) (p : Pricing) (numbering : Numbering) (calls : List NodeCall) (sys new : System) (d : ℕ) →
    IsTreeMarket lists p numbering → RunsTheMarket lists p numbering calls sys → (did : RootExpires lists p numbering sys d new) →
    AreTwoCalls lists p numbering sys d did.number new

-- the same newest clearing, and the numbers in it
record SameClearing (old new : RootValue) : Type 0 where
  last : newest_index new ≡ newest_index old
  recorded : new.recorded ≡ old.recorded

looks_same : (old learnt : RootValue) (place number : ℕ) (demand : Option (List ℤ)) → LooksForClearing (with_root_bid old place number demand) learnt →
    SameClearing old learnt
looks_same old learnt place number demand (inl found) = record {
  last = omega (arith, found.1.base, found.1.cleared.new_index, found.0.lost);
  recorded = found.1.recorded;
}
looks_same old learnt place number demand (inr stays) = record {
  last = ap newest_index stays.1;
  recorded = ap (λ (r : RootValue). r.recorded) stays.1;
}

-- a root that has its clearing again may tell its prices
looks_again : (old learnt : RootValue) (place number : ℕ) (demand : Option (List ℤ)) → LooksForClearing (with_root_bid old place number demand) learnt →
    eqb old.auction.index 0 && not (eqb learnt.auction.index 0) ≡ true → (0 < learnt.auction.index) × (learnt.auction.changed ≡ false)
looks_again old learnt place number demand (inl found) e = (omega (arith, found.1.cleared.new_index), found.1.cleared.not_changed)
looks_again old learnt place number demand (inr stays) e =
    let parts = and_parts (eqb old.auction.index 0) (not (eqb learnt.auction.index 0)) e in
    let same : learnt.auction.index ≡ old.auction.index = ap (λ (r : RootValue). r.auction.index) stays.1 in
    absurd (both_ways (not (eqb learnt.auction.index 0)) (ap (λ (n : ℕ). not (eqb n 0)) same ∙ ap not parts.0) parts.1)

root_kept : (sys new : System) → SameClearing sys.root new.root → (stored : StoredRoot) → IsRootKept sys stored → IsRootKept new stored
root_kept sys new same stored kept = record { last = kept.last ∙ sym same.last; numbers = kept.numbers ∙ sym same.recorded }

abbrev Outs : Type 0
Outs = List (Output StoredRoot)

module _ (Lets : ℕ → ℕ → Type 0) (lists : Lists) (p : Pricing) (numbering : Numbering) (basis : BasisValue) where
  abbrev Does : RootValue → System → Outs → Type 0
  Does r sys reply = FollowsByCalls lists p numbering Lets IsRootKept (λ t. t.root ≡ r) sys 0 reply

  -- it learns a bid
  learns : (sys : System) (sender number : ℕ) (demand : Option (List ℤ)) → CarriesBid lists p numbering sys 0 sender number demand →
      (learnt : RootValue) → LooksForClearing (with_root_bid sys.root (sender_place sender) number demand) learnt → Does learnt sys []
  learns sys sender number demand carries learnt looks =
      let bid : BidMessage = bid_in_channel p sys carries.x carries.place in
      let new : System = with_root sys learnt in
      let place_is : sender_place sender ≡ numbering.place carries.x = omega (arith, carries.sender_is) in
      let at_place : LooksForClearing (with_root_bid sys.root (numbering.place carries.x) number demand) learnt =
      subst (λ (k : ℕ). LooksForClearing (with_root_bid sys.root k number demand) learnt) place_is looks in
      let at_number : LooksForClearing (with_root_bid sys.root (numbering.place carries.x) bid.number demand) learnt =
      subst (λ (k : ℕ). LooksForClearing (with_root_bid sys.root (numbering.place carries.x) k demand) learnt) carries.number_is at_place in
      record {
        calls = call.TakesBid carries.x carries.place ∷ [];
        new = new;
        runs = (
          new,
          inr (record {
            node = carries.node;
            below = carries.up;
            inside = carries.inside;
            root = learnt;
            learnt = subst (λ (d : Option (List ℤ)). LooksForClearing (with_root_bid sys.root (numbering.place carries.x) bid.number d) learnt)
                carries.demand_is at_number;
            new_is = refl;
          }),
          refl,
        );
        only = root_moved sys learnt;
        up = λ x. (tt, tt);
        stands = refl;
        sent = tt;
        kept = tt;
        first = inl (root_kept sys new (looks_same sys.root learnt (sender_place sender) number demand looks));
      }

  -- ---- it tells its children

  -- so many nodes were told
  record Told (sys : System) (n : ℕ) : Type 0 where
    calls : List NodeCall
    new : System
    runs : SystemRuns lists p numbering sys calls new
    up : (x : ℕ) → AreCalm Lets x calls
    only : OnlyMoves 0 sys new
    same : new.root ≡ sys.root
    sent : (x : ℕ) → IsNode lists x → x ≤ n → parent lists x ≡ 0 → (price : PriceMessage) →
        root_prices sys.root (numbering.place x) ≡ price ∷ [] →
        PriceWasSent new x price

  module _ (sys : System) (has : 0 < sys.root.auction.index) (unchanged : sys.root.auction.changed ≡ false) where
    tells_one : (n : ℕ) → suc n ≤ nodes lists → Told sys n → parent lists (suc n) ≡ 0 → Told sys (suc n)
    tells_one n few first top =
        let z : ℕ = suc n in
        let node : IsNode lists z = (omega arith, few) in
        let prices : List PriceMessage = root_prices first.new.root (numbering.place z) in
        let new : System = with_prices_told first.new z prices in
        let only : OnlyMoves 0 first.new new = prices_told first.new 0 z prices in
        record {
          calls = first.calls ++ call.TellsOne z ∷ [];
          new = new;
          runs = runs_on lists p numbering first.calls (call.TellsOne z ∷ []) sys first.new new first.runs (
            new,
            record {
              node = node;
              below = top;
              has = subst (λ (r : RootValue). 0 < r.auction.index) (sym first.same) has;
              same = ap (λ (r : RootValue). r.auction.changed) first.same ∙ unchanged;
              new_is = refl;
            },
            refl,
          );
          up = λ x. calm_on Lets x first.calls (call.TellsOne z ∷ []) (first.up x) (tt, tt);
          only = then_moves 0 sys first.new new first.only only;
          same = first.same;
          sent = λ x x_node within up price is. elim (cases_eq x z) [
            | inl e ↦ subst (λ (y : ℕ). PriceWasSent new y price) (sym e)
                (told_now first.new z price (ap (λ (r : RootValue). root_prices r (numbering.place z)) first.same
                ∙ ap (λ (y : ℕ). root_prices sys.root (numbering.place y)) (sym e) ∙ is))
            | inr ne ↦ price_still_sent 0 first.new new only x price (first.sent x x_node (omega (arith, within, ne)) up price is)
          ];
        }
      where
        told_now : (mid : System) (z : ℕ) (price : PriceMessage) → root_prices mid.root (numbering.place z) ≡ price ∷ [] →
            PriceWasSent (with_prices_told mid z (root_prices mid.root (numbering.place z))) z price
        told_now mid z price is =
            let new : System = with_prices_told mid z (root_prices mid.root (numbering.place z)) in
            let grown : new.prices_sent z ≡ mid.prices_sent z ++ price ∷ [] =
            updated_same mid.prices_sent z (mid.prices_sent z ++ root_prices mid.root (numbering.place z))
            ∙ ap (λ (l : List PriceMessage). mid.prices_sent z ++ l) is in (
              length (mid.prices_sent z),
              omega (arith, ap (λ (l : List PriceMessage). length l) grown, length_push (mid.prices_sent z) price),
              ap (λ (l : List PriceMessage). get_or l (length (mid.prices_sent z)) no_price) grown
                  ∙ get_or_push (mid.prices_sent z) price no_price (length (mid.prices_sent z)) refl,
            )

    tells_to : (n : ℕ) → n ≤ nodes lists → Told sys n
    tells_to zero few = record {
      calls = [];
      new = sys;
      runs = refl;
      up = λ x. tt;
      only = still 0 sys;
      same = refl;
      sent = λ x node within up price is. absurd (omega (arith, node.0, within));
    }
    tells_to (suc n) few =
        let first : Told sys n = tells_to n (omega (arith, few)) in
        elim (cases_eq (parent lists (suc n)) 0) [
          | inl top ↦ tells_one n few first top
          | inr ne ↦ record {
            calls = first.calls;
            new = first.new;
            runs = first.runs;
            up = first.up;
            only = first.only;
            same = first.same;
            sent = λ x node within up price is. first.sent x node
                (omega (arith, within, λ (e : x ≡ suc n). ne (ap (parent lists) (sym e) ∙ up))) up price is;
          }
        ]

    -- it tells each of its children the price of its newest clearing
    tells_all : Does sys.root sys (clearing_outs sys.root)
    tells_all =
        let told : Told sys (nodes lists) = tells_to (nodes lists) (omega arith) in
        let r : RootValue = sys.root in
        record {
          calls = told.calls;
          new = told.new;
          runs = told.runs;
          only = told.only;
          up = told.up;
          stands = told.same;
          sent = downs_sent StoredRoot lists p numbering told.new 0 (newest_index r) r.auction.step r.auction.cache.heads
              (λ x node up price is. told.sent x node node.1 up price is) 0 r.auction.cache.heads
              (λ k inside. ap (λ (j : ℕ). get_or r.auction.cache.heads j nothing_sent) (omega arith));
          kept = downs_keep_none (IsRootKept told.new) (newest_index r) r.auction.step 0 r.auction.cache.heads;
          first = inl (root_kept sys told.new (subst (λ (q : RootValue). SameClearing sys.root q) (sym told.same) (record { last = refl; recorded = refl })));
        }

  again_if : (sys : System) (test : Bool) → (test ≡ true → (0 < sys.root.auction.index) × (sys.root.auction.changed ≡ false)) →
      Does sys.root sys (cond test (clearing_outs sys.root) [])
  again_if sys test may =
      either (λ (l : Outs). Does sys.root sys l) test (clearing_outs sys.root) [] (λ e. tells_all sys (may e).0 (may e).1)
      (λ e. nothing_follows lists p numbering Lets IsRootKept 0 (λ t. t.root ≡ sys.root) sys refl)

  -- after what was done so far the root is this one, and goes on
  goes_on : (sys : System) (r : RootValue) (reply : Outs) (first : Does r sys reply) (more : Outs) → Does r first.new more → Does r sys (reply ++ more)
  goes_on sys r reply first more then =
      follows_then lists p numbering Lets IsRootKept 0 (λ t. t.root ≡ r) (λ t. t.root ≡ r) sys reply more first then
      (root_kept first.new then.new (subst (λ (q : RootValue). SameClearing q then.new.root) (sym first.stands)
      (subst (λ (q : RootValue). SameClearing r q) (sym then.stands) (record { last = refl; recorded = refl }))))

  module _ (sys : System) (after : RootValue) (reply : Outs) where
    -- what is told again of the clearing that the root has again
    told_again : (r : RootValue) (said : Outs) (first : Does r sys said) → (test : Bool) →
        (test ≡ true → (0 < r.auction.index) × (r.auction.changed ≡ false)) →
        Does r sys (said ++ cond test (clearing_outs r) [])
    told_again r said first test may =
        goes_on sys r said first (cond test (clearing_outs r) [])
        (subst (λ (q : RootValue). Does q first.new (cond test (clearing_outs q) [])) first.stands
        (again_if first.new test (subst (λ (q : RootValue). test ≡ true → (0 < q.auction.index) × (q.auction.changed ≡ false)) (sym first.stands) may)))

    bid_follows : (sender number : ℕ) (demand : Option (List ℤ)) → CarriesBid lists p numbering sys 0 sender number demand →
        WritesRootBid sys.root sender number demand after reply → RootFollows lists p numbering Lets sys after reply
    bid_follows sender number demand carries did =
        let kept : ℕ = kept_number sys.root.auction.cache (sender_place sender) in
        let learnt : Does after sys [] = learns sys sender number demand carries after did.looks in
        let said : Does after sys (receipt_outs kept sender number) =
        goes_on sys after [] learnt (receipt_outs kept sender number)
        (says_if lists p numbering Lets IsRootKept 0 (λ t. t.root ≡ after) learnt.new (leb number kept)
        (answer_bytes (reply_kind.TheVariants.Old sender kept)) learnt.stands) in
        follows_as lists p numbering Lets IsRootKept 0 (λ t. t.root ≡ after) sys
        (receipt_outs kept sender number ++ clearing_again_outs sys.root after) reply did.replied
        (told_again after (receipt_outs kept sender number) said (eqb sys.root.auction.index 0 && not (eqb after.auction.index 0))
        (looks_again sys.root after (sender_place sender) number demand did.looks))

    -- what goes down with a clearing
    cleared_told : (x : ℕ) → IsNode lists x → parent lists x ≡ 0 → (price : PriceMessage) →
        root_prices after (numbering.place x) ≡ price ∷ [] →
        PriceWasSent (with_prices_sent lists numbering (with_root sys after) 0 (root_prices after)) x price
    cleared_told x node up price is =
        let new : System = with_prices_sent lists numbering (with_root sys after) 0 (root_prices after) in
        let grown : new.prices_sent x ≡ sys.prices_sent x ++ price ∷ [] =
        cond-true (eqb (parent lists x) 0) (sys.prices_sent x ++ root_prices after (numbering.place x)) (sys.prices_sent x) (eq-eqb (parent lists x) 0 up)
        ∙ ap (λ (l : List PriceMessage). sys.prices_sent x ++ l) is in (
          length (sys.prices_sent x),
          omega (arith, ap (λ (l : List PriceMessage). length l) grown, length_push (sys.prices_sent x) price),
          ap (λ (l : List PriceMessage). get_or l (length (sys.prices_sent x)) no_price) grown
              ∙ get_or_push (sys.prices_sent x) price no_price (length (sys.prices_sent x)) refl,
        )

    clear_follows : WritesClear basis sys.root after reply → RootFollows lists p numbering Lets sys after reply
    clear_follows (inl cleared) =
        let new : System = with_prices_sent lists numbering (with_root sys after) 0 (root_prices after) in
        follows_as lists p numbering Lets IsRootKept 0 (λ t. t.root ≡ after) sys
        (Keeps (stored_root basis after) ∷ clearing_outs after) reply cleared.3 (record {
          calls = call.Clears ∷ [];
          new = new;
          runs = (new, record { root = after; index = cleared.0; step = cleared.1; cleared = cleared.2; new_is = refl }, refl);
          only = then_moves 0 sys (with_root sys after) new (root_moved sys after) (prices_pushed lists numbering (with_root sys after) 0 (root_prices after));
          up = λ x. (tt, tt);
          stands = refl;
          sent = (
            tt,
            downs_sent StoredRoot lists p numbering new 0 (newest_index after) after.auction.step after.auction.cache.heads cleared_told 0
                after.auction.cache.heads (λ k inside. ap (λ (j : ℕ). get_or after.auction.cache.heads j nothing_sent) (omega arith)),
          );
          kept = (
            record { last = refl; numbers = refl },
            downs_keep_none (IsRootKept new) (newest_index after) after.auction.step 0 after.auction.cache.heads,
          );
          first = inr (stored_root basis after, clearing_outs after, refl);
        })
    clear_follows (inr refused) =
        follows_as lists p numbering Lets IsRootKept 0 (λ t. t.root ≡ after) sys (Says (not_cleared_reply refused.0) ∷ []) reply refused.3
        (says lists p numbering Lets IsRootKept 0 (λ t. t.root ≡ after) sys (not_cleared_reply refused.0) (sym refused.2))

    says_follows : (said : List ℕ) → after ≡ sys.root → reply ≡ Says said ∷ [] → RootFollows lists p numbering Lets sys after reply
    says_follows said same is =
        follows_as lists p numbering Lets IsRootKept 0 (λ t. t.root ≡ after) sys (Says said ∷ []) reply is
        (says lists p numbering Lets IsRootKept 0 (λ t. t.root ≡ after) sys said (sym same))

    bounded_follows : (sender number : ℕ) (demand : List ℤ) → CarriesBid lists p numbering sys 0 sender number (Some demand) →
        (bounds : List Limits) → WritesRootBounded bounds sys.root sender number demand after reply → RootFollows lists p numbering Lets sys after reply
    bounded_follows sender number demand carries bounds (inl did) = bid_follows sender number (Some demand) carries did.1
    bounded_follows sender number demand carries bounds (inr did) = says_follows (too_much_bytes sender number) did.1 did.2

    silent_follows : after ≡ sys.root → reply ≡ [] → RootFollows lists p numbering Lets sys after reply
    silent_follows same none =
        follows_as lists p numbering Lets IsRootKept 0 (λ t. t.root ≡ after) sys [] reply none
        (nothing_follows lists p numbering Lets IsRootKept 0 (λ t. t.root ≡ after) sys (sym same))

    module _ (two_calls : RootExpiringIsTwoCalls) (market : IsTreeMarket lists p numbering) (before : List NodeCall)
        (has : RunsTheMarket lists p numbering before sys) where
      abbrev number_at : ℕ → ℕ
      number_at k = parents_number (known_number sys.root.recorded sys.root.auction.cache.heads k)

      lets_go : (sender : ℕ) → (carries : CarriesExpire lists p numbering 0 sender (number_at (sender_place sender))) →
          Lets carries.x (number_at (sender_place sender)) →
          LooksForClearing (with_root_bid sys.root (sender_place sender) (number_at (sender_place sender)) None) after → Does after sys []
      lets_go sender carries lets looks =
          let d : ℕ = carries.x in
          let number : ℕ = number_at (sender_place sender) in
          let bid : BidMessage = bid_message number true (zeros p.steps) in
          let mid : System = with_bid_sent sys d bid in
          let new : System = with_root mid after in
          let place_is : sender_place sender ≡ numbering.place d = omega (arith, carries.sender_is) in
          let two = two_calls lists p numbering before sys new d market has (record {
            below = carries.up;
            number = number;
            number_is = ap number_at place_is;
            may = carries.may;
            root = after;
            gone = subst (λ (k : ℕ). LooksForClearing (with_root_bid sys.root k number None) after) place_is looks;
            new_is = refl;
          }) in
          record {
            calls = call.Expires d number ∷ call.TakesBid d two.place ∷ [];
            new = new;
            runs = two.runs;
            only = then_moves 0 sys mid new (bid_pushed sys 0 d bid) (root_moved mid after);
            up = λ x. (lets, (tt, tt));
            stands = refl;
            sent = tt;
            kept = tt;
            first = inl (root_kept sys new (looks_same sys.root after (sender_place sender) number None looks));
          }

      expire_follows : (sender : ℕ) → (carries : CarriesExpire lists p numbering 0 sender (number_at (sender_place sender))) →
          Lets carries.x (number_at (sender_place sender)) → WritesRootExpire sys.root sender after
          reply → RootFollows lists p numbering Lets sys after reply
      expire_follows sender carries lets did =
          follows_as lists p numbering Lets IsRootKept 0 (λ t. t.root ≡ after) sys (clearing_again_outs sys.root after) reply did.replied
          (told_again after [] (lets_go sender carries lets did.looks) (eqb sys.root.auction.index 0 && not (eqb after.auction.index 0))
          (looks_again sys.root after (sender_place sender) (number_at (sender_place sender)) None did.looks))

      frame_follows : (frame : RootFrame) → ((d n : ℕ) → RootLets lists numbering sys frame d n → Lets d n) →
          RootMayRead lists p numbering sys frame → (bounds : List Limits) → WritesRoot basis bounds sys.root frame after reply →
          RootFollows lists p numbering Lets sys after reply
      frame_follows (Market (Hello basis)) allows may bounds did = silent_follows did.0 did.1
      frame_follows (Market (Bid sender number demand)) allows may bounds did = bounded_follows sender number demand may bounds did
      frame_follows (Market (Gone sender number)) allows may bounds did = bid_follows sender number None may did
      frame_follows (Market Clear) allows may bounds did = clear_follows did
      frame_follows (Expire sender) allows may bounds did =
          expire_follows sender may (allows may.x (number_at (sender_place sender)) (may.up, may.sender_is, refl)) did
      frame_follows (Bound sender bound) allows may bounds did = silent_follows did.0 did.1
      frame_follows (Resume stored) allows may bounds did = absurd may

-- What an auctioneer's service answers to a frame is some calls of the root.
pub root_answers : RootExpiringIsTwoCalls → (lists : Lists) (p : Pricing) (numbering : Numbering) (before : List NodeCall) (sys : System) →
    IsTreeMarket lists p numbering → RunsTheMarket lists p numbering before sys → (basis : BasisValue) (bounds : List Limits)
    (old after : RootValue) (frame : RootFrame) (outs : List (Output StoredRoot)) → sys.root ≡ old → RootMayRead lists p numbering sys frame →
    WritesRoot basis bounds old frame after outs → RootFollows lists p numbering (RootLets lists numbering sys frame) sys after outs
root_answers two lists p numbering before sys market has basis bounds old after frame outs is may did =
    frame_follows (RootLets lists numbering sys frame) lists p numbering basis sys after outs two market before has frame (λ d n lets. lets) may bounds
    (subst (λ (r : RootValue). WritesRoot basis bounds r frame after outs) (sym is) did)
