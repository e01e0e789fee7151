-- The calls of a node with children on its ends of links keep what such a node keeps.
use Rattle.std.proofs.Common.{◌≡◌, ◌∙◌, sym, ap, subst, ℕ, ◌+◌, ◌<◌, ◌⊎◌, Bool, true, false, cond, ltb, List, []}
use Rattle.std.proofs.Common.{◌∷◌, ◌++◌, length, get_or, set, Option, Some, None, refl, arith, inl, inr, Contains}
use Rattle.std.proofs.Common.{get_or-set_same, get_or-set_other}
use Rattle.std.proofs.Math.ListN.{length-set}
use Rattle.std.specs.Prelude.{All, IfSome}
use Rattle.std.proofs.lemmas.Bool.{cases_lt, cases_eq}
use Rattle.std.proofs.lemmas.List.{get_or_past}
use Rattle.std.proofs.lemmas.List.Elements.{All-weaker, All-push, Contains-push, Contains-append_left}
use Rattle.pm_cache.specs.Cache.{Cache}
use Rattle.pm_cache.specs.Learning.{after_learning}
use Rattle.pm_cells.specs.Ends.{LinkEnd}
use Rattle.pm_cells.specs.declared.message.UpMessage.{UpMessage}
use Rattle.pm_cells.specs.declared.message.Message.{Message}
use Rattle.pm_cells.specs.declared.message.Message.TheVariants.{Bid}
use Rattle.pm_plan.specs.Plans.{PlanData}
use Rattle.pm_session.specs.declared.price.PriceUpdate.{PriceUpdate}
use Rattle.pm_phase.specs.Hearing.{HearsPriceToPass, with_pending_price}
use Rattle.pm_phase.specs.Matchers.{cache_of_matcher, waiting_at}
use Rattle.pm_phase.specs.Messages.{prices_among}
use Rattle.pm_phase.specs.TellingParents.{EntryCame, TakesIn, bids_among}
use Rattle.pm_phase.specs.Waiting.{TakesBidFromLink, TakesPriceFromLink, PutsPrice, PutsBid}
use Rattle.pm_phase.specs.KeepingParents.{IsShapedMatcher, TellsOwn, TellsBid, TellsBidMessage, TellsPrice, MovesOn, learnt_at, IsDownHere}
use Rattle.pm_phase.specs.KeepingParents.{came_over}
use Rattle.pm_phase.specs.KeepingParents.{KeepsPart, KeepsChild, ChildMovesOn, ChildrenMoveOn, UpMovesOn}
use Rattle.pm_phase.specs.declared.ends.DownEnd.{DownEnd}
use Rattle.pm_phase.specs.declared.ends.UpEnd.{UpEnd}
use Rattle.pm_phase.specs.declared.matcher.Matcher.{Matcher}
use Rattle.pm_phase.specs.declared.matcher.Matcher.TheVariants.{Concentrator, Auctioneer}
use Rattle.pm_phase.specs.declared.parent.ParentPart.{ParentPart}
use Rattle.pm_phase.proofs.DeviceKeeps.{prices_push}
use Rattle.pm_phase.proofs.Heard.{bids_push, cache_learnt}
use Rattle.pm_phase.proofs.ParentKeeps.{entry_here, entry_other, entry_more}
use Rattle.pm_phase.proofs.MatchersMove.{learn_moves}
use Rattle.pm_phase.proofs.PartsMove.{bid_moves, messages_move}

-- ---- a turn with a child

pub child_trans : (place : ℕ) (down mid down' : DownEnd) (a b c : ParentPart) → ChildMovesOn place down mid a b → ChildMovesOn place mid down' b c →
    ChildMovesOn place down down' a c
child_trans place down mid down' a b c first then = record {
  own = λ own. then.own (first.own own);
  kept = λ plan y came kept. then.kept plan y came (first.kept plan y came kept);
  sent = λ messages own all. then.sent messages (first.own own) (first.sent messages own all);
  here = λ plan y was had came kept child. then.here plan y was had came (first.kept plan y came kept) (first.here plan y was had came kept child);
  others = λ plan y was had came other end ne own child.
      then.others plan y was had came other end ne (first.own own) (first.others plan y was had came other end ne own child);
}

-- the part is the same, and the end has at least the bids, and the same prices
same_part : (place : ℕ) (down down' : DownEnd) (part : ParentPart) → down'.at ≡ down.at →
    ((bid : UpMessage) → Contains (bids_among down.end.known.up.received) bid → Contains (bids_among down'.end.known.up.received) bid) →
    ((was now : Cache) → EntryCame was now place (bids_among down.end.known.up.received) →
    EntryCame was now place (bids_among down'.end.known.up.received)) →
    down'.end.known.down.sent ≡ down.end.known.down.sent → ChildMovesOn place down down' part part
same_part place down down' part at more entry sent = record {
  own = λ own. own;
  kept = λ plan y came kept. kept;
  sent = λ messages own all. all;
  here = λ plan y was had came kept child. record {
    link = subst (IsDownHere plan y place) (sym at) child.link;
    entry = entry was (cache_of_matcher part.matcher) child.entry;
    learnt = λ bid is. learnt_more bid (learnt_at had place ≡ Some bid) (child.learnt bid is);
    put = subst (λ ms. All (TellsPrice part.matcher came place) (prices_among ms)) (sym sent) child.put;
  };
  others = λ plan y was had came other end ne own child. child;
}
  where
    learnt_more : (bid : UpMessage) (A : Type 0) → A ⊎ Contains (bids_among down.end.known.up.received) bid →
        A ⊎ Contains (bids_among down'.end.known.up.received) bid
    learnt_more bid A (inl was) = inl was
    learnt_more bid A (inr has) = inr (more bid has)

-- no bid came
pub no_moves : (place : ℕ) (down down' : DownEnd) (part part' : ParentPart) → down'.at ≡ down.at →
    TakesBidFromLink down.end down'.end None → part' ≡ part → ChildMovesOn place down down' part part'
no_moves place down down' part part' at taken same =
    subst (ChildMovesOn place down down' part) (sym same)
    (same_part place down down' part at (λ bid. subst (λ ms. Contains (bids_among ms) bid) (sym (received taken)))
    (λ was now. subst (λ ms. EntryCame was now place (bids_among ms)) (sym (received taken))) (sent taken))
  where
    received : TakesBidFromLink down.end down'.end None → down'.end.known.up.received ≡ down.end.known.up.received
    received (inl t) = ap (λ (e : LinkEnd). e.known.up.received) t.1
    received (inr (inl t)) = ap (λ (e : LinkEnd). e.known.up.received) t
    received (inr (inr t)) = ap (λ (e : LinkEnd). e.known.up.received) t

    sent : TakesBidFromLink down.end down'.end None → down'.end.known.down.sent ≡ down.end.known.down.sent
    sent (inl t) = ap (λ (e : LinkEnd). e.known.down.sent) t.1
    sent (inr (inl t)) = ap (λ (e : LinkEnd). e.known.down.sent) t
    sent (inr (inr t)) = ap (λ (e : LinkEnd). e.known.down.sent) t

-- a bid came, and was learnt, or changed nothing
pub heard_moves : (place : ℕ) (bid : UpMessage) (down down' : DownEnd) (part part' : ParentPart) → down'.at ≡ down.at →
    TakesBidFromLink down.end down'.end (Some bid) → TakesIn place bid part part' → ChildMovesOn place down down' part part'
heard_moves place bid down down' part part' at taken takes = by takes
  where
    received : bids_among down'.end.known.up.received ≡ bids_among down.end.known.up.received ++ bid ∷ []
    received = ap (λ (e : LinkEnd). bids_among e.known.up.received) taken ∙ bids_push down.end.known.up.received bid

    sent : down'.end.known.down.sent ≡ down.end.known.down.sent
    sent = ap (λ (e : LinkEnd). e.known.down.sent) taken

    by : TakesIn place bid part part' → ChildMovesOn place down down' part part'
    by (inr same) =
        subst (ChildMovesOn place down down' part) (sym same)
        (same_part place down down' part at
        (λ b has. subst (λ bs. Contains bs b) (sym received) (Contains-append_left (bids_among down.end.known.up.received) (bid ∷ []) b has))
        (λ was now entry. subst (EntryCame was now place) (sym received) (entry_more was now place (bids_among down.end.known.up.received) bid entry)) sent)
    by (inl (may, learns)) = record {
      own = moves.own;
      kept = λ plan y came kept. record {
        shaped = moves.shaped plan y kept.shaped;
        own = moves.own kept.own;
        waits = subst (λ w. IfSome w (TellsBid part'.matcher)) (sym learns.waiting)
            (bid_moves part.matcher part'.matcher moves kept.own part.waiting kept.waits);
        pending = subst (λ w. IfSome w (Contains came)) (sym learns.pending) kept.pending;
        prices = λ k price is. moves.prices came k price kept.own (kept.prices k price (sym (ap (λ ps. waiting_at ps.items k) learns.prices) ∙ is));
      };
      sent = messages_move part.matcher part'.matcher moves;
      here = λ plan y was had came kept child. record {
        link = subst (IsDownHere plan y place) (sym at) child.link;
        entry = subst (λ (x : Cache × List UpMessage). EntryCame was x.0 place x.1) (λ i. (cache i, sym received i))
            (entry_here (cache_of_matcher part.matcher) place bid may was (bids_among down.end.known.up.received) kept.shaped.even);
        learnt = λ b is. learnt_here (learnt_at had place ≡ Some b) b (child.learnt b) is;
        put = subst (λ ms. All (TellsPrice part'.matcher came place) (prices_among ms)) (sym sent)
            (All-weaker (TellsPrice part.matcher came place) (TellsPrice part'.matcher came place)
            (λ price. moves.prices came place price kept.own) _ child.put);
      };
      others = λ plan y was had came other end ne own child. record {
        link = child.link;
        entry = subst (λ (x : Cache). EntryCame was x other (bids_among end.end.known.up.received)) cache
            (entry_other (cache_of_matcher part.matcher) place bid may was other (bids_among end.end.known.up.received) ne child.entry);
        learnt =
            λ b is. child.learnt b
            (sym (ap (λ ls. learnt_at ls other) learns.learnt ∙ get_or-set_other part.learnt.items place other (Some bid) None ne) ∙ is);
        put = All-weaker (TellsPrice part.matcher came other) (TellsPrice part'.matcher came other) (λ price. moves.prices came other price own) _ child.put;
      };
    }
      where
        moves : MovesOn part.matcher part'.matcher
        moves = subst (MovesOn part.matcher) (sym learns.matcher) (learn_moves part.matcher place bid may)

        cache : after_learning (cache_of_matcher part.matcher) place bid.number bid.demand ≡ cache_of_matcher part'.matcher
        cache = sym (ap cache_of_matcher learns.matcher ∙ cache_learnt part.matcher place bid)

        learnt_here : (A : Type 0) (b : UpMessage) →
            (learnt_at part.learnt.items place ≡ Some b → A ⊎ Contains (bids_among down.end.known.up.received) b) →
            learnt_at part'.learnt.items place ≡ Some b → A ⊎ Contains (bids_among down'.end.known.up.received) b
        learnt_here A b before is = elim (cases_lt place (length part.learnt.items)) [
          | inl inside ↦
              let same : bid ≡ b =
              cc (sym (ap (λ ls. learnt_at ls place) learns.learnt ∙ get_or-set_same part.learnt.items place (Some bid) None inside) ∙ is) in
              inr (subst (λ (x : UpMessage). Contains (bids_among down'.end.known.up.received) x) same
              (subst (λ bs. Contains bs bid) (sym received) (Contains-push (bids_among down.end.known.up.received) bid)))
          | inr past ↦
              let none : learnt_at part'.learnt.items place ≡ None = get_or_past part'.learnt.items place None
              (omega (arith, past, ap (λ (ls : List (Option UpMessage)). length ls) learns.learnt, length-set part.learnt.items place (Some bid))) in
              absurd (cc (sym none ∙ is))
        ]

-- ---- a price for a child

-- the price that waited was put, or waits on, or is dropped
pub put_moves : (place : ℕ) (down down' : DownEnd) (part part' : ParentPart) (before after : Option PriceUpdate) (is_put : Bool) →
    down'.at ≡ down.at → PutsPrice down.end down'.end before after is_put → waiting_at part.prices.items place ≡ before →
    waiting_at part'.prices.items place ≡ after →
    ((other : ℕ) → (other ≡ place → ⊥) → waiting_at part'.prices.items other ≡ waiting_at part.prices.items other) →
    part'.matcher ≡ part.matcher → part'.waiting ≡ part.waiting → part'.pending ≡ part.pending → part'.learnt ≡ part.learnt →
    ChildMovesOn place down down' part part'
put_moves place down down' part part' before after is_put at puts was_waiting is_waiting others matcher waiting pending learnt = record {
  own = subst TellsOwn (sym matcher);
  kept = λ plan y came kept. record {
    shaped = subst (λ m. IsShapedMatcher plan y m) (sym matcher) kept.shaped;
    own = subst TellsOwn (sym matcher) kept.own;
    waits = subst (λ (x : Option UpMessage × Matcher). IfSome x.0 (TellsBid x.1)) (λ i. (sym waiting i, sym matcher i)) kept.waits;
    pending = subst (λ w. IfSome w (Contains came)) (sym pending) kept.pending;
    prices = λ k price is. subst (λ m. TellsPrice m came k price) (sym matcher) (kept.prices k price (waited before is_put puts was_waiting k price is));
  };
  sent = λ messages own all. subst (λ m. All (TellsBidMessage m) messages) (sym matcher) all;
  here = λ plan y was had came kept child. record {
    link = subst (IsDownHere plan y place) (sym at) child.link;
    entry = subst (λ (x : Cache × List Message). EntryCame was x.0 place (bids_among x.1))
        (λ i. (sym (ap cache_of_matcher matcher) i, sym (received before is_put puts) i)) child.entry;
    learnt = λ b is.
        subst (λ ms. (learnt_at had place ≡ Some b) ⊎ Contains (bids_among ms) b) (sym (received before is_put puts))
        (child.learnt b (sym (ap (λ ls. learnt_at ls.items place) learnt) ∙ is));
    put = subst (λ m. All (TellsPrice m came place) (prices_among down'.end.known.down.sent)) (sym matcher)
        (sent (TellsPrice part.matcher came place) before is_put puts (λ price is. kept.prices place price (was_waiting ∙ is)) child.put);
  };
  others = λ plan y was had came other end ne own child. record {
    link = child.link;
    entry = subst (λ (c : Cache). EntryCame was c other (bids_among end.end.known.up.received)) (sym (ap cache_of_matcher matcher)) child.entry;
    learnt = λ b is. child.learnt b (sym (ap (λ ls. learnt_at ls.items other) learnt) ∙ is);
    put = subst (λ m. All (TellsPrice m came other) (prices_among end.end.known.down.sent)) (sym matcher) child.put;
  };
}
  where
    -- what waits now waited before
    stays : (old : Option PriceUpdate) (b : Bool) → PutsPrice down.end down'.end old after b → (price : PriceUpdate) → after ≡ Some price →
        old ≡ Some price
    stays None b p price is = absurd (cc (sym p.1 ∙ is))
    stays (Some old) true p price is = absurd (cc (sym p.none ∙ is))
    stays (Some old) false (inl k) price is = sym k.waits ∙ is
    stays (Some old) false (inr k) price is = absurd (cc (sym k.none ∙ is))

    waited : (old : Option PriceUpdate) (b : Bool) → PutsPrice down.end down'.end old after b → waiting_at part.prices.items place ≡ old →
        (k : ℕ) (price : PriceUpdate) → waiting_at part'.prices.items k ≡ Some price → waiting_at part.prices.items k ≡ Some price
    waited old b p e k price is = elim (cases_eq k place) [
      | inl same ↦
          ap (waiting_at part.prices.items) same ∙ e ∙ stays old b p price (sym is_waiting ∙ ap (waiting_at part'.prices.items) (sym same) ∙ is)
      | inr ne ↦ sym (others k ne) ∙ is
    ]

    received : (old : Option PriceUpdate) (b : Bool) → PutsPrice down.end down'.end old after b → down'.end.known.up.received ≡ down.end.known.up.received
    received None b p = ap (λ (e : LinkEnd). e.known.up.received) p.0
    received (Some old) true p = ap (λ (e : LinkEnd). e.known.up.received) p.put
    received (Some old) false (inl k) = ap (λ (e : LinkEnd). e.known.up.received) k.lost
    received (Some old) false (inr k) = ap (λ (e : LinkEnd). e.known.up.received) k.same

    sent : (P : PriceUpdate → Type 0) (old : Option PriceUpdate) (b : Bool) → PutsPrice down.end down'.end old after b →
        ((price : PriceUpdate) → old ≡ Some price → P price) → All P (prices_among down.end.known.down.sent) →
        All P (prices_among down'.end.known.down.sent)
    sent P None b p tells all = subst (λ (e : LinkEnd). All P (prices_among e.known.down.sent)) (sym p.0) all
    sent P (Some old) true p tells all =
        subst (All P) (sym (ap (λ (e : LinkEnd). prices_among e.known.down.sent) p.put ∙ prices_push down.end.known.down.sent old))
        (All-push P (prices_among down.end.known.down.sent) old all (tells old refl))
    sent P (Some old) false (inl k) tells all = subst (λ (e : LinkEnd). All P (prices_among e.known.down.sent)) (sym k.lost) all
    sent P (Some old) false (inr k) tells all = subst (λ (e : LinkEnd). All P (prices_among e.known.down.sent)) (sym k.same) all

-- ---- a turn with all children

pub children_refl : (downs : List DownEnd) (part : ParentPart) → ChildrenMoveOn downs downs part part
children_refl downs part = record {
  many = refl;
  own = λ own. own;
  kept = λ plan y came kept. kept;
  sent = λ messages own all. all;
  each = λ plan y was had came kept each. each;
}

-- one more of them
pub children_more : (downs now : List DownEnd) (part mid part' : ParentPart) (place : ℕ) (down : DownEnd) → ChildrenMoveOn downs now part mid →
    place < length now → ((d : DownEnd) → ChildMovesOn place (get_or now place d) down mid part') → ChildrenMoveOn downs (set now place down) part part'
children_more downs now part mid part' place down first inside turn =
    let then = turn down in record {
      many = length-set now place down ∙ first.many;
      own = λ own. then.own (first.own own);
      kept = λ plan y came kept. then.kept plan y came (first.kept plan y came kept);
      sent = λ messages own all. then.sent messages (first.own own) (first.sent messages own all);
      each = λ plan y was had came kept each k d lt.
          let mids = first.kept plan y came kept in
          let before = first.each plan y was had came kept each in
          elim (cases_eq k place) [
            | inl e ↦ subst (λ (j : ℕ). KeepsChild plan y was had came part' j (get_or (set now place down) j d)) (sym e)
                (subst (KeepsChild plan y was had came part' place) (sym (get_or-set_same now place down d inside))
                ((turn d).here plan y was had came mids (before place d inside)))
            | inr ne ↦ subst (KeepsChild plan y was had came part' k) (sym (get_or-set_other now place k down d ne))
                (then.others plan y was had came k (get_or now k d) ne mids.own (before k d (omega (arith, lt, length-set now place down))))
          ];
    }

-- ---- a turn with the parent

pub up_none : (part : ParentPart) → UpMovesOn None None part part
up_none part = record {
  here = λ y is. is;
  kept = λ plan y kept. kept;
  sent = λ waits all. all;
  told = λ messages all. all;
  child = λ plan y was had place down kept. kept;
}

-- more prices came from above
tells_more : (m : Matcher) (came : List PriceUpdate) (above : PriceUpdate) (place : ℕ) (price : PriceUpdate) → TellsPrice m came place price →
    TellsPrice m (came ++ above ∷ []) place price
tells_more (Concentrator g) came above place price follows = record {
  above = follows.above;
  came = Contains-append_left came (above ∷ []) follows.above follows.came;
  within = follows.within;
  passed = follows.passed;
}
tells_more (Auctioneer a) came above place price follows = follows

-- the bid that waits is put, or waits on, or is dropped, and a price comes, or none
module _ (plan' : PlanData) (up put up' : UpEnd) (part part' : ParentPart) (waiting : Option UpMessage) (is_put heard : Bool)
    (at : put.at ≡ up.at) (at' : up'.at ≡ put.at) (puts : PutsBid up.end put.end part.waiting waiting is_put)
    (hears : HearsPriceToPass plan' put.end up'.end (record part { waiting = waiting }) part' heard) where
  abbrev mid : ParentPart
  mid = record part { waiting = waiting }

  -- the prices that came: those before, and one more, if one came
  abbrev CameNow : Type 0
  CameNow = (part' ≡ mid) × (came_over (Some up') ≡ came_over (Some up))
      ⊎ ((price : PriceUpdate) × (part' ≡ with_pending_price plan' mid price) × (came_over (Some up') ≡ came_over (Some up) ++ price ∷ []))

  same_received : (old : Option UpMessage) (b : Bool) → PutsBid up.end put.end old waiting b → put.end.known.down.received ≡ up.end.known.down.received
  same_received None b p = ap (λ (e : LinkEnd). e.known.down.received) p.0
  same_received (Some bid) true p = ap (λ (e : LinkEnd). e.known.down.received) p.put
  same_received (Some bid) false (inl k) = ap (λ (e : LinkEnd). e.known.down.received) k.lost
  same_received (Some bid) false (inr k) = ap (λ (e : LinkEnd). e.known.down.received) k.same

  none_taken : TakesPriceFromLink put.end up'.end None →
      (up'.end.known.down.received ≡ put.end.known.down.received) × (up'.end.known.up.sent ≡ put.end.known.up.sent)
  none_taken (inl t) = (ap (λ (e : LinkEnd). e.known.down.received) t.1, ap (λ (e : LinkEnd). e.known.up.sent) t.1)
  none_taken (inr (inl t)) = (ap (λ (e : LinkEnd). e.known.down.received) t, ap (λ (e : LinkEnd). e.known.up.sent) t)
  none_taken (inr (inr t)) = (ap (λ (e : LinkEnd). e.known.down.received) t, ap (λ (e : LinkEnd). e.known.up.sent) t)

  came_now : (b : Bool) → HearsPriceToPass plan' put.end up'.end mid part' b → CameNow
  came_now true (price, taken, is) = inr (
    price,
    is,
    ap (λ (e : LinkEnd). prices_among e.known.down.received) taken ∙ prices_push put.end.known.down.received price
        ∙ ap (λ ms. prices_among ms ++ price ∷ []) (same_received part.waiting is_put puts),
  )
  came_now false (taken, same) = inl (same, ap prices_among ((none_taken taken).0 ∙ same_received part.waiting is_put puts))

  sent_now : (b : Bool) → HearsPriceToPass plan' put.end up'.end mid part' b →
      (up'.end.known.up.sent ≡ put.end.known.up.sent) × (part'.matcher ≡ part.matcher)
  sent_now true (price, taken, is) = (ap (λ (e : LinkEnd). e.known.up.sent) taken, ap (λ (p : ParentPart). p.matcher) is)
  sent_now false (taken, same) = ((none_taken taken).1, ap (λ (p : ParentPart). p.matcher) same)

  -- the bids that were put, and the one that waits
  bids_put : (old : Option UpMessage) (b : Bool) → PutsBid up.end put.end old waiting b → IfSome old (TellsBid part.matcher) →
      All (TellsBidMessage part.matcher) up.end.known.up.sent → All (TellsBidMessage part.matcher) put.end.known.up.sent
  bids_put None b p w all = subst (λ (e : LinkEnd). All (TellsBidMessage part.matcher) e.known.up.sent) (sym p.0) all
  bids_put (Some bid) true p w all =
      subst (λ (e : LinkEnd). All (TellsBidMessage part.matcher) e.known.up.sent) (sym p.put)
      (All-push (TellsBidMessage part.matcher) up.end.known.up.sent (Bid bid) all w)
  bids_put (Some bid) false (inl k) w all = subst (λ (e : LinkEnd). All (TellsBidMessage part.matcher) e.known.up.sent) (sym k.lost) all
  bids_put (Some bid) false (inr k) w all = subst (λ (e : LinkEnd). All (TellsBidMessage part.matcher) e.known.up.sent) (sym k.same) all

  waits_on : (old : Option UpMessage) (b : Bool) → PutsBid up.end put.end old waiting b → IfSome old (TellsBid part.matcher) →
      IfSome waiting (TellsBid part.matcher)
  waits_on None b p w = subst (λ o. IfSome o (TellsBid part.matcher)) (sym p.1) tt
  waits_on (Some bid) true p w = subst (λ o. IfSome o (TellsBid part.matcher)) (sym p.none) tt
  waits_on (Some bid) false (inl k) w = subst (λ o. IfSome o (TellsBid part.matcher)) (sym k.waits) w
  waits_on (Some bid) false (inr k) w = subst (λ o. IfSome o (TellsBid part.matcher)) (sym k.none) tt

  kept_now : (plan : PlanData) (y : ℕ) → KeepsPart plan y (came_over (Some up)) part → CameNow → KeepsPart plan y (came_over (Some up')) part'
  kept_now plan y kept (inl (same, came)) =
      subst (λ (x : List PriceUpdate × ParentPart). KeepsPart plan y x.0 x.1) (λ i. (sym came i, sym same i)) (record {
        shaped = kept.shaped;
        own = kept.own;
        waits = waits_on part.waiting is_put puts kept.waits;
        pending = kept.pending;
        prices = kept.prices;
      })
  kept_now plan y kept (inr (price, is, came)) =
      subst (λ (x : List PriceUpdate × ParentPart). KeepsPart plan y x.0 x.1) (λ i. (sym came i, sym is i)) (record {
        shaped = kept.shaped;
        own = kept.own;
        waits = waits_on part.waiting is_put puts kept.waits;
        pending = pending_now (ltb price.step plan'.basis.steps) part.pending kept.pending;
        prices = λ k p e. tells_more part.matcher (came_over (Some up)) price k p (kept.prices k p e);
      })
    where
      pending_now : (b : Bool) (old : Option PriceUpdate) → IfSome old (Contains (came_over (Some up))) →
          IfSome (cond b (Some price) old) (Contains (came_over (Some up) ++ price ∷ []))
      pending_now true old was = Contains-push (came_over (Some up)) price
      pending_now false None was = tt
      pending_now false (Some q) was = Contains-append_left (came_over (Some up)) (price ∷ []) q was

  child_now : (plan : PlanData) (y : ℕ) (was : Cache) (had : List (Option UpMessage)) (place : ℕ) (down : DownEnd) →
      KeepsChild plan y was had (came_over (Some up)) part place down → CameNow → KeepsChild plan y was had (came_over (Some up')) part' place down
  child_now plan y was had place down child (inl (same, came)) =
      subst (λ (x : List PriceUpdate × ParentPart). KeepsChild plan y was had x.0 x.1 place down) (λ i. (sym came i, sym same i)) (record {
        link = child.link;
        entry = child.entry;
        learnt = child.learnt;
        put = child.put;
      })
  child_now plan y was had place down child (inr (price, is, came)) =
      subst (λ (x : List PriceUpdate × ParentPart). KeepsChild plan y was had x.0 x.1 place down) (λ i. (sym came i, sym is i)) (record {
        link = child.link;
        entry = child.entry;
        learnt = child.learnt;
        put = All-weaker (TellsPrice part.matcher (came_over (Some up)) place) (TellsPrice part.matcher (came_over (Some up) ++ price ∷ []) place)
            (tells_more part.matcher (came_over (Some up)) price place) _ child.put;
      })

  -- a part moved on that put its bid and took a price, or did one of them
  pub up_moves : UpMovesOn (Some up) (Some up') part part'
  up_moves = record {
    here = λ y is. ap (λ n. n + 1) (at' ∙ at) ∙ is;
    kept = λ plan y kept. kept_now plan y kept (came_now heard hears);
    sent = λ waits all.
        let now = sent_now heard hears in
        subst (λ (x : Matcher × List Message). All (TellsBidMessage x.0) x.1) (λ i. (sym now.1 i, sym now.0 i))
        (bids_put part.waiting is_put puts waits all);
    told = λ messages all. subst (λ (m : Matcher). All (TellsBidMessage m) messages) (sym (sent_now heard hears).1) all;
    child = λ plan y was had place down child. child_now plan y was had place down child (came_now heard hears);
  }
