-- What a carried event does: it sends messages again, or something rises that has a bound.
use Rattle.std.proofs.Common.{◌≡◌, ◌∙◌, sym, ap, subst, ℕ, ◌+◌, ◌*◌, ◌<◌, ◌≤◌, Bool, true, cond, not, eqb, ltb, leb}
use Rattle.std.proofs.Common.{◌&&◌, ◌⊎◌, inl}
use Rattle.std.proofs.Common.{inr, List, [], ◌∷◌, ◌++◌, length, get_or, refl, arith}
use Rattle.std.proofs.lemmas.Bool.{cases_eq, cases_Bool, and_parts, cond-true, cond-false, ltb-true, le-leb, leb-true, not-true}
use Rattle.std.proofs.lemmas.List.{get_or_append_left, length_push}
use Rattle.pm_bid.specs.Clearing.{clearing_step}
use Rattle.pm_market.specs.Lists.{Lists, nodes, parent, is_leaf, IsNode, IsInner, Lawful}
use Rattle.pm_market.specs.State.{State, update, sum_to, newest_number_of}
use Rattle.pm_market.specs.Legality.{is_node}
use Rattle.pm_market.specs.Bound.{change_total}
use Rattle.pm_market.proofs.Tree.{leaf_zero}
use Rattle.pm_market.proofs.Legality.{is_node_from}
use Rattle.pm_laws.proofs.Bound.{newest_small, list_weight, weight_small}
use Rattle.pm_laws.proofs.Facts.{updated_at, last_within}
use Rattle.pm_laws.proofs.Sums.{sum_le, sum_lt, sum_same}
use Rattle.pm_net.specs.Pricing.{Pricing}
use Rattle.pm_net.specs.Messages.{BidMessage, PriceMessage, price_message, nothing_heard, no_price}
use Rattle.pm_net.specs.Network.{Network, sent_bid, sent_price}
use Rattle.pm_net.specs.Running.{is_new_bid, is_caught_up, has_news, can_send, can_clear, is_new_price, names_a_bid, waits, after_taking_bid}
use Rattle.pm_net.specs.Running.{relay_bid, relay_step, heard_sum, sent_down, after_sending, after_clearing, after_taking_price, after_answer}
use Rattle.pm_net.specs.Running.{after_passing, after_relay_price}
use Rattle.pm_net.specs.Restarts.{can_rebuild, after_rebuilding, can_resend, after_resending, can_tell_one, after_telling_one}
use Rattle.pm_net.specs.Events.{Event, network_step, Bids, TakesBid, Sends, Clears, TakesPrice, Restarts, Rebuilds, StopsBidding, Resends}
use Rattle.pm_net.specs.Events.{PassesToOne, StopsClearing, TellsOne}
use Rattle.pm_net.specs.Agrees.{NetworkAgrees}
use Rattle.pm_net.specs.Settled.{made_number}
use Rattle.pm_rounds.specs.Rounds.{IsCarried}
use Rattle.pm_rounds.specs.Bounds.{round_bound}
use Rattle.pm_net.proofs.Messages.{either}
use Rattle.pm_net.proofs.Resting.{own_is}

-- ---- what is counted

-- whether a node has its newest record
abbrev pub has_record : Network → ℕ → ℕ
has_record net y = cond (leb (net.whole_from y) (net.last_number y)) 1 0

abbrev pub count_at : Lists → Network → ℕ → ℕ
count_at lists net x = (net.heard x).number + (net.taken x).index + made_number lists net x + has_record net x

abbrev pub count_root : Network → ℕ
count_root net = net.last_number 0 + has_record net 0

abbrev pub count_of : Lists → Network → ℕ
count_of lists net = sum_to (nodes lists) (count_at lists net) + count_root net

-- it has a bound
pub record_small : (net : Network) (y : ℕ) → has_record net y ≤ 1
record_small net y = either (λ (k : ℕ). k ≤ 1) (leb (net.whole_from y) (net.last_number y)) 1 0 (λ e. omega arith) (λ e. omega arith)

-- what is counted has a bound
pub count_small : (lists : Lists) → Lawful lists → (p : Pricing) (net : Network) (s : State) → NetworkAgrees lists p net s →
    count_of lists net ≤ round_bound lists
count_small lists law p net s agrees =
    let c : ℕ = change_total lists in
    let cleared : Rattle.pm_market.specs.State.clearings s ≤ c =
    omega (arith, list_weight lists law s agrees.sound 0 (leaf_zero lists), weight_small lists 0) in
    let each : sum_to (nodes lists) (count_at lists net) ≤ sum_to (nodes lists) (λ x. 3 * c + 1) =
    sum_le (nodes lists) (count_at lists net) (λ x. 3 * c + 1) (λ x one le. omega (
      arith,
      (agrees.heard x (one, le)).0,
      newest_small lists law s agrees.sound x (one, le),
      own_is lists p net s agrees x,
      agrees.index x (one, le),
      last_within lists s agrees.sound x,
      cleared,
      record_small net x,
    )) in
    omega (arith, each, sum_same (nodes lists) (3 * c + 1), agrees.last_number 0 (leaf_zero lists), cleared, record_small net 0)

-- ---- nothing falls

pub record Rises (net after : Network) : Type 0 where
  -- what no carried event lowers
  pub counts : (x : ℕ) → net.counts x ≤ after.counts x
  pub heard : (x : ℕ) → (net.heard x).number ≤ (after.heard x).number
  -- indices of prices that are held
  pub taken : (x : ℕ) → (net.taken x).index ≤ (after.taken x).index
  pub last : (x : ℕ) → net.last_number x ≤ after.last_number x
  -- a record that is had is had still
  pub whole : (x : ℕ) → has_record net x ≤ has_record after x

made_rises : (lists : Lists) (net after : Network) → Rises net after → (x : ℕ) → made_number lists net x ≤ made_number lists after x
made_rises lists net after rises x = elim (cases_Bool (is_leaf lists x)) [
  | inl e ↦ omega (
    arith,
    cond-true (is_leaf lists x) (net.counts x) (net.last_number x) e,
    cond-true (is_leaf lists x) (after.counts x) (after.last_number x) e,
    rises.counts x,
  )
  | inr e ↦ omega (
    arith,
    cond-false (is_leaf lists x) (net.counts x) (net.last_number x) e,
    cond-false (is_leaf lists x) (after.counts x) (after.last_number x) e,
    rises.last x,
  )
]

at_rises : (lists : Lists) (net after : Network) → Rises net after → (x : ℕ) → count_at lists net x ≤ count_at lists after x
at_rises lists net after rises x = omega (arith, made_rises lists net after rises x, rises.heard x, rises.taken x, rises.whole x)

-- if no part of it falls, what is counted does not
pub count_rises : (lists : Lists) (net after : Network) → Rises net after → count_of lists net ≤ count_of lists after
count_rises lists net after rises = omega (
  arith,
  sum_le (nodes lists) (count_at lists net) (count_at lists after) (λ x one le. at_rises lists net after rises x),
  rises.last 0,
  rises.whole 0,
)

-- and something rises at a node, or at the auctioneer
more_at : (lists : Lists) (net after : Network) → Rises net after → (x : ℕ) → IsNode lists x →
    count_at lists net x < count_at lists after x → count_of lists net < count_of lists after
more_at lists net after rises x node lt = omega (
  arith,
  sum_lt (nodes lists) (count_at lists net) (count_at lists after) (λ y one le. at_rises lists net after rises y) x node.0 node.1 lt,
  rises.last 0,
  rises.whole 0,
)

more_root : (lists : Lists) (net after : Network) → Rises net after → count_root net < count_root after →
    count_of lists net < count_of lists after
more_root lists net after rises lt =
    omega (arith, sum_le (nodes lists) (count_at lists net) (count_at lists after) (λ x one le. at_rises lists net after rises x), lt)

-- ---- messages that are sent again

-- what was sent is there still
abbrev pub KeepsSent : {A : Type 0} → A → (ℕ → List A) → (ℕ → List A) → Type 0
KeepsSent d old new = (x k : ℕ) → k < length (old x) → (k < length (new x)) × (get_or (new x) k d ≡ get_or (old x) k d)

-- nothing but the channels has changed
pub record OnlySends (p : Pricing) (net after : Network) : Type 0 where
  -- the channels after it
  pub bids : ℕ → List BidMessage
  pub prices : ℕ → List PriceMessage
  -- it is the same but for the channels
  pub is : after ≡ record net { bids_sent = bids; prices_sent = prices }
  pub bids_kept : KeepsSent (nothing_heard p) net.bids_sent bids
  -- prices sent before are there
  pub prices_kept : KeepsSent no_price net.prices_sent prices

-- the same channels keep what was sent
pub keeps_all : {A : Type 0} → (d : A) (channels : ℕ → List A) → KeepsSent d channels channels
keeps_all d channels x k lt = (lt, refl)

-- so it is if a message is sent
pub keeps_pushed : {A : Type 0} → (d : A) (channels : ℕ → List A) (x : ℕ) (v : A) → KeepsSent d channels (update channels x (channels x ++ v ∷ []))
keeps_pushed {A} d channels x v y k lt = elim (updated_at channels x (channels x ++ v ∷ []) y) [
  | inl w ↦
      let below : k < length (channels x) = omega (arith, lt, ap (λ (z : ℕ). length (channels z)) w.0) in (
        omega (arith, ap (λ (l : List A). length l) w.1, length_push (channels x) v, below),
        ap (λ (l : List A). get_or l k d) w.1 ∙ get_or_append_left (channels x) (v ∷ []) d k below
            ∙ sym (ap (λ (z : ℕ). get_or (channels z) k d) w.0),
      )
  | inr w ↦ (omega (arith, ap (λ (l : List A). length l) w.1, lt), ap (λ (l : List A). get_or l k d) w.1)
]

-- so it is if prices are sent down
pub keeps_down : (lists : Lists) (prices : ℕ → List PriceMessage) (y : ℕ) (basis : ℕ → BidMessage) (index step : ℕ) →
    KeepsSent no_price prices (sent_down lists prices y basis index step)
unfolding sent_down
keeps_down lists prices y basis index step x k lt =
    let price : PriceMessage = price_message (basis x).number index step in
    either (λ (l : List PriceMessage). (k < length l) × (get_or l k no_price ≡ get_or (prices x) k no_price))
    (eqb (parent lists x) y && not (basis x).gone) (prices x ++ price ∷ []) (prices x)
    (λ e. (omega (arith, length_push (prices x) price, lt), get_or_append_left (prices x) (price ∷ []) no_price k lt))
    (λ e. (lt, refl))

-- one after the other
pub keeps_on : {A : Type 0} → (d : A) (a b c : ℕ → List A) → KeepsSent d a b → KeepsSent d b c → KeepsSent d a c
keeps_on d a b c first then x k lt =
    let one = first x k lt in
    let two = then x k one.0 in
    (two.0, two.1 ∙ one.1)

-- nothing may be sent
pub sends_nothing : (p : Pricing) (net : Network) → OnlySends p net net
sends_nothing p net = record {
  bids = net.bids_sent;
  prices = net.prices_sent;
  is = refl;
  bids_kept = keeps_all (nothing_heard p) net.bids_sent;
  prices_kept = keeps_all no_price net.prices_sent;
}

-- one after the other
pub sends_on : (p : Pricing) (a b c : Network) → OnlySends p a b → OnlySends p b c → OnlySends p a c
sends_on p a b c first then = record {
  bids = then.bids;
  prices = then.prices;
  is = then.is ∙ ap (λ (n : Network). record n { bids_sent = then.bids; prices_sent = then.prices }) first.is;
  bids_kept = keeps_on (nothing_heard p) a.bids_sent first.bids then.bids first.bids_kept
      (subst (λ (n : Network). KeepsSent (nothing_heard p) n.bids_sent then.bids) first.is then.bids_kept);
  prices_kept = keeps_on no_price a.prices_sent first.prices then.prices first.prices_kept
      (subst (λ (n : Network). KeepsSent no_price n.prices_sent then.prices) first.is then.prices_kept);
}

-- ---- each event

abbrev pub Moves : Lists → Pricing → Network → Network → Type 0
Moves lists p net after = OnlySends p net after ⊎ ((count_of lists net < count_of lists after) × Rises net after × (after.counts ≡ net.counts)
    × KeepsSent (nothing_heard p) net.bids_sent after.bids_sent × KeepsSent no_price net.prices_sent after.prices_sent)

nothing : (lists : Lists) (p : Pricing) (net : Network) → Moves lists p net net
nothing lists p net = inl (sends_nothing p net)

-- a function with one value replaced by a greater one
pub number_up : (f : ℕ → ℕ) (x v : ℕ) → f x ≤ v → (y : ℕ) → f y ≤ update f x v y
number_up f x v le y = elim (updated_at f x v y) [
  | inl w ↦ omega (arith, le, w.1, ap f w.0)
  | inr w ↦ omega (arith, w.1)
]

-- so of bids
pub bid_up : (f : ℕ → BidMessage) (x : ℕ) (v : BidMessage) → (f x).number ≤ v.number → (y : ℕ) → (f y).number ≤ (update f x v y).number
bid_up f x v le y = elim (updated_at f x v y) [
  | inl w ↦ omega (arith, le, ap (λ (b : BidMessage). b.number) w.1, ap (λ (z : ℕ). (f z).number) w.0)
  | inr w ↦ omega (arith, ap (λ (b : BidMessage). b.number) w.1)
]

price_up : (f : ℕ → PriceMessage) (x : ℕ) (v : PriceMessage) → (f x).index ≤ v.index → (y : ℕ) → (f y).index ≤ (update f x v y).index
price_up f x v le y = elim (updated_at f x v y) [
  | inl w ↦ omega (arith, le, ap (λ (b : PriceMessage). b.index) w.1, ap (λ (z : ℕ). (f z).index) w.0)
  | inr w ↦ omega (arith, ap (λ (b : PriceMessage). b.index) w.1)
]

-- a record that is had is had while the number rises
record_up : (w l m : ℕ) → l ≤ m → cond {A = ℕ} (leb w l) 1 0 ≤ cond (leb w m) 1 0
record_up w l m le = elim (cases_Bool (leb w l)) [
  | inl e ↦ omega (arith, cond-true {A = ℕ} (leb w l) 1 0 e, cond-true {A = ℕ} (leb w m) 1 0 (le-leb w m (omega (arith, leb-true w l e, le))))
  | inr e ↦ omega (arith, cond-false {A = ℕ} (leb w l) 1 0 e)
]

-- a parent takes a newer bid
takes_bid : (lists : Lists) (p : Pricing) (net : Network) (x k : ℕ) → Moves lists p net (network_step lists p net (TakesBid x k))
unfolding is_new_bid
takes_bid lists p net x k =
    let bid : BidMessage = sent_bid p net x k in
    either (Moves lists p net) (is_node lists x && ltb (net.heard x).number bid.number) (after_taking_bid net x bid) net
    (λ e.
    let parts = and_parts (is_node lists x) (ltb (net.heard x).number bid.number) e in
    let node : IsNode lists x = is_node_from lists x parts.0 in
    let lt : (net.heard x).number < bid.number = ltb-true (net.heard x).number bid.number parts.1 in
    let rises : Rises net (after_taking_bid net x bid) = record {
      counts = λ y. omega arith;
      heard = bid_up net.heard x bid (omega (arith, lt));
      taken = λ y. omega arith;
      last = λ y. omega arith;
      whole = λ y. omega arith;
    } in
    inr (
      more_at lists net (after_taking_bid net x bid) rises x node
          (omega (arith, lt, ap (λ (b : BidMessage). b.number) (Rattle.pm_market.proofs.Cuts.updated_same net.heard x bid))),
      rises,
      refl,
      keeps_all (nothing_heard p) net.bids_sent,
      keeps_all no_price net.prices_sent,
    ))
    (λ e. nothing lists p net)

-- a node makes its next bid or clearing
makes : (net after : Network) (c : ℕ) → after.counts ≡ net.counts → after.heard ≡ net.heard → after.taken ≡ net.taken →
    after.whole_from ≡ net.whole_from → after.last_number ≡ update net.last_number c (net.last_number c + 1) → Rises net after
makes net after c counts heard taken whole last =
    let up : (y : ℕ) → net.last_number y ≤ after.last_number y =
    λ y. omega (arith, number_up net.last_number c (net.last_number c + 1) (omega arith) y, ap (λ (f : ℕ → ℕ). f y) last) in
    record {
      counts = λ y. omega (arith, ap (λ (f : ℕ → ℕ). f y) counts);
      heard = λ y. omega (arith, ap (λ (f : ℕ → BidMessage). (f y).number) heard);
      taken = λ y. omega (arith, ap (λ (f : ℕ → PriceMessage). (f y).index) taken);
      last = up;
      whole = λ y. omega (
        arith,
        record_up (net.whole_from y) (net.last_number y) (after.last_number y) (up y),
        ap (λ (f : ℕ → ℕ). cond {A = ℕ} (leb (f y) (after.last_number y)) 1 0) whole,
      );
    }

sends : (lists : Lists) (p : Pricing) (net : Network) (c : ℕ) → Moves lists p net (network_step lists p net (Sends c))
unfolding can_send
sends lists p net c =
    let after : Network = after_sending p net c in
    let test : Bool = is_node lists c && not (is_leaf lists c) && is_caught_up lists net c && has_news lists net c in
    either (Moves lists p net) (can_send lists net c) after net
    (λ e.
    let a = and_parts test _ e in
    let b = and_parts (is_node lists c && not (is_leaf lists c) && is_caught_up lists net c) (has_news lists net c) a.0 in
    let d = and_parts (is_node lists c && not (is_leaf lists c)) (is_caught_up lists net c) b.0 in
    let f = and_parts (is_node lists c) (not (is_leaf lists c)) d.0 in
    let node : IsNode lists c = is_node_from lists c f.0 in
    let inner : IsInner lists c = not-true (is_leaf lists c) f.1 in
    let rises : Rises net after = makes net after c refl refl refl refl refl in
    inr (
      more_at lists net after rises c node (omega (
        arith,
        cond-false (is_leaf lists c) (net.counts c) (net.last_number c) inner,
        cond-false (is_leaf lists c) (after.counts c) (after.last_number c) inner,
        Rattle.pm_market.proofs.Cuts.updated_same net.last_number c (net.last_number c + 1),
        rises.heard c,
        rises.taken c,
        rises.whole c,
      )),
      rises,
      refl,
      keeps_pushed (nothing_heard p) net.bids_sent c (relay_bid p net c),
      keeps_all no_price net.prices_sent,
    ))
    (λ e. nothing lists p net)

clears : (lists : Lists) (p : Pricing) (net : Network) → Moves lists p net (network_step lists p net Clears)
clears lists p net =
    let after : Network = after_clearing lists p net in
    let rises : Rises net after = makes net after 0 refl refl refl refl refl in
    either (Moves lists p net) (can_clear lists net) after net
    (λ e. inr (
      more_root lists net after rises
          (omega (arith, Rattle.pm_market.proofs.Cuts.updated_same net.last_number 0 (net.last_number 0 + 1), rises.whole 0)),
      rises,
      refl,
      keeps_all (nothing_heard p) net.bids_sent,
      keeps_down lists net.prices_sent 0 net.heard (net.last_number 0 + 1) (clearing_step (heard_sum p net 0)),
    ))
    (λ e. nothing lists p net)

-- a node takes a newer price
holds : (lists : Lists) (p : Pricing) (net after : Network) (x k : ℕ) → is_new_price lists net x (sent_price net x k) ≡ true →
    after.counts ≡ net.counts → after.heard ≡ net.heard → after.last_number ≡ net.last_number → after.whole_from ≡ net.whole_from →
    after.taken ≡ update net.taken x (sent_price net x k) → after.bids_sent ≡ net.bids_sent → KeepsSent no_price net.prices_sent after.prices_sent →
    Moves lists p net after
unfolding is_new_price
holds lists p net after x k newer counts heard last whole taken bids prices =
    let price : PriceMessage = sent_price net x k in
    let parts = and_parts (is_node lists x) (ltb (net.taken x).index price.index) newer in
    let node : IsNode lists x = is_node_from lists x parts.0 in
    let lt : (net.taken x).index < price.index = ltb-true (net.taken x).index price.index parts.1 in
    let rises : Rises net after = record {
      counts = λ y. omega (arith, ap (λ (f : ℕ → ℕ). f y) counts);
      heard = λ y. omega (arith, ap (λ (f : ℕ → BidMessage). (f y).number) heard);
      taken = λ y. omega (arith, price_up net.taken x price (omega (arith, lt)) y, ap (λ (f : ℕ → PriceMessage). (f y).index) taken);
      last = λ y. omega (arith, ap (λ (f : ℕ → ℕ). f y) last);
      whole = λ y. omega (
        arith,
        ap (λ (f : ℕ → ℕ). cond {A = ℕ} (leb (net.whole_from y) (f y)) 1 0) last,
        ap (λ (f : ℕ → ℕ). cond {A = ℕ} (leb (f y) (after.last_number y)) 1 0) whole,
      );
    } in
    inr (
      more_at lists net after rises x node (omega (
        arith,
        lt,
        ap (λ (f : ℕ → PriceMessage). (f x).index) taken,
        ap (λ (q : PriceMessage). q.index) (Rattle.pm_market.proofs.Cuts.updated_same net.taken x price),
        made_rises lists net after rises x,
        rises.heard x,
        rises.whole x,
      )),
      rises,
      counts,
      subst (KeepsSent (nothing_heard p) net.bids_sent) (sym bids) (keeps_all (nothing_heard p) net.bids_sent),
      prices,
    )

takes_price : (lists : Lists) (p : Pricing) (net : Network) (x k : ℕ) → Moves lists p net (network_step lists p net (TakesPrice x k))
takes_price lists p net x k =
    let On : Network → Type 0 = Moves lists p net in
    let price : PriceMessage = sent_price net x k in
    either On (is_new_price lists net x price) (cond (is_leaf lists x) (after_taking_price net x price) (after_relay_price lists p net x price)) net
    (λ newer. either On (is_leaf lists x) (after_taking_price net x price) (after_relay_price lists p net x price)
    (λ leaf. holds lists p net (after_taking_price net x price) x k newer refl refl refl refl refl refl
    (keeps_all no_price net.prices_sent))
    (λ inner. either On (names_a_bid net x price.number)
    (cond (leb (net.whole_from x) price.number) (after_passing lists p net x price) (cond (waits lists net x price.number) net (after_answer net x price))) net
    (λ names. either On (leb (net.whole_from x) price.number) (after_passing lists p net x price) (cond (waits lists net x price.number) net
    (after_answer net x price))
    (λ e. holds lists p net (after_passing lists p net x price) x k newer refl refl refl refl refl refl
    (keeps_down lists net.prices_sent x (net.records x price.number) price.index (relay_step p net x price)))
    (λ e. either On (waits lists net x price.number) net (after_answer net x price)
    (λ e. nothing lists p net)
    (λ e. holds lists p net (after_answer net x price) x k newer refl refl refl refl refl refl
    (keeps_all no_price net.prices_sent))))
    (λ e. nothing lists p net)))
    (λ e. nothing lists p net)

-- a node finds its record
rebuilds : (lists : Lists) (p : Pricing) (net : Network) (y : ℕ) → IsInner lists y → y ≤ nodes lists →
    Moves lists p net (network_step lists p net (Rebuilds y))
unfolding can_rebuild
rebuilds lists p net y inner le =
    let after : Network = after_rebuilding net y in
    either (Moves lists p net) (can_rebuild lists net y) after net
    (λ e.
    let parts = and_parts (ltb (net.last_number y) (net.whole_from y)) (not (has_news lists net y)) e in
    let lost : net.last_number y < net.whole_from y = ltb-true (net.last_number y) (net.whole_from y) parts.0 in
    let had : has_record net y ≡ 0 = elim (cases_Bool (leb (net.whole_from y) (net.last_number y))) [
      | inl w ↦ absurd (omega (arith, leb-true (net.whole_from y) (net.last_number y) w, lost))
      | inr w ↦ cond-false {A = ℕ} (leb (net.whole_from y) (net.last_number y)) 1 0 w
    ] in
    let has : has_record after y ≡ 1 = cond-true {A = ℕ} (leb (after.whole_from y) (net.last_number y)) 1 0
    (le-leb (after.whole_from y) (net.last_number y)
    (omega (arith, Rattle.pm_market.proofs.Cuts.updated_same net.whole_from y (net.last_number y)))) in
    let rises : Rises net after = record {
      counts = λ x. omega arith;
      heard = λ x. omega arith;
      taken = λ x. omega arith;
      last = λ x. omega arith;
      whole = λ x. elim (updated_at net.whole_from y (net.last_number y) x) [
        | inl w ↦ omega (arith, had, ap (has_record net) w.0, ap (has_record after) w.0, has)
        | inr w ↦ omega (arith, ap (λ (n : ℕ). cond {A = ℕ} (leb n (net.last_number x)) 1 0) w.1)
      ];
    } in
    inr (
      elim (cases_eq y 0) [
        | inl z ↦ more_root lists net after rises (omega (arith, had, has, ap (has_record net) z, ap (has_record after) z))
        | inr ne ↦ more_at lists net after rises y (omega (arith, ne), le) (omega (arith, had, has, made_rises lists net after rises y))
      ],
      rises,
      refl,
      keeps_all (nothing_heard p) net.bids_sent,
      keeps_all no_price net.prices_sent,
    ))
    (λ e. nothing lists p net)

-- each carried event sends messages again, or raises what is counted
pub moves : (lists : Lists) (p : Pricing) (net : Network) (e : Event) → IsCarried lists e → Moves lists p net (network_step lists p net e)
moves lists p net (Bids d) carried = absurd carried
moves lists p net (TakesBid x k) carried = takes_bid lists p net x k
moves lists p net (Sends c) carried = sends lists p net c
moves lists p net Clears carried = clears lists p net
moves lists p net (TakesPrice x k) carried = takes_price lists p net x k
moves lists p net (Restarts y k) carried = absurd carried
moves lists p net (Rebuilds y) carried = rebuilds lists p net y carried.0 carried.1
moves lists p net (StopsBidding x) carried = absurd carried
moves lists p net (Resends x) carried =
    either (Moves lists p net) (can_resend lists net x) (after_resending lists p net x) net
    (λ e. inl (record {
      bids = (after_resending lists p net x).bids_sent;
      prices = net.prices_sent;
      is = refl;
      bids_kept = keeps_pushed (nothing_heard p) net.bids_sent x (Rattle.pm_net.specs.Restarts.newest_bid lists p net x);
      prices_kept = keeps_all no_price net.prices_sent;
    }))
    (λ e. nothing lists p net)
moves lists p net (PassesToOne z k) carried = absurd carried
moves lists p net StopsClearing carried = absurd carried
moves lists p net (TellsOne z) carried =
    either (Moves lists p net) (can_tell_one lists net z) (after_telling_one p net z) net
    (λ e. inl (record {
      bids = net.bids_sent;
      prices = (after_telling_one p net z).prices_sent;
      is = refl;
      bids_kept = keeps_all (nothing_heard p) net.bids_sent;
      prices_kept = keeps_pushed no_price net.prices_sent z _;
    }))
    (λ e. nothing lists p net)

-- so nothing falls
pub step_rises : (lists : Lists) (p : Pricing) (net : Network) (e : Event) → IsCarried lists e →
    count_of lists net ≤ count_of lists (network_step lists p net e)
step_rises lists p net e carried = elim (moves lists p net e carried) [
  | inl w ↦ omega (arith, ap (count_of lists) w.is)
  | inr w ↦ omega (arith, w.0)
]

-- no part of what is counted falls, and what was sent is there still
pub step_up : (lists : Lists) (p : Pricing) (net : Network) (e : Event) → IsCarried lists e → Rises net (network_step lists p net e)
step_up lists p net e carried = elim (moves lists p net e carried) [
  | inl w ↦ record {
    counts = λ x. omega (arith, ap (λ (n : Network). n.counts x) w.is);
    heard = λ x. omega (arith, ap (λ (n : Network). (n.heard x).number) w.is);
    taken = λ x. omega (arith, ap (λ (n : Network). (n.taken x).index) w.is);
    last = λ x. omega (arith, ap (λ (n : Network). n.last_number x) w.is);
    whole = λ x. omega (arith, ap (λ (n : Network). has_record n x) w.is);
  }
  | inr w ↦ w.1
]

-- each bid has its place after a carried event
pub step_keeps_bids : (lists : Lists) (p : Pricing) (net : Network) (e : Event) → IsCarried lists e →
    KeepsSent (nothing_heard p) net.bids_sent (network_step lists p net e).bids_sent
step_keeps_bids lists p net e carried = elim (moves lists p net e carried) [
  | inl w ↦ subst (λ (n : Network). KeepsSent (nothing_heard p) net.bids_sent n.bids_sent) (sym w.is) w.bids_kept
  | inr w ↦ w.3
]

-- each price has its place after a carried event
pub step_keeps_prices : (lists : Lists) (p : Pricing) (net : Network) (e : Event) → IsCarried lists e →
    KeepsSent no_price net.prices_sent (network_step lists p net e).prices_sent
step_keeps_prices lists p net e carried = elim (moves lists p net e carried) [
  | inl w ↦ subst (λ (n : Network). KeepsSent no_price net.prices_sent n.prices_sent) (sym w.is) w.prices_kept
  | inr w ↦ w.4
]
