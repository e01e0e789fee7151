-- Each event is some legal moves, and so is each run.
use Rattle.std.proofs.Common.{◌≡◌, ◌∙◌, sym, ap, subst, ℕ, ◌<◌, ◌≤◌, true, cond, not, ltb, leb, ◌&&◌, List, [], ◌∷◌}
use Rattle.std.proofs.Common.{◌++◌, inl, inr, refl, arith, length}
use Rattle.std.proofs.lemmas.Bool.{and_parts, ltb-true, leb-true, not-true}
use Rattle.pm_market.specs.Legality.{is_node}
use Rattle.pm_market.specs.State.{update}
use Rattle.pm_market.proofs.Legality.{is_node_from}
use Rattle.pm_market.specs.Lists.{parent}
use Rattle.pm_market.specs.Lists.{Lists, phases, is_leaf, changes, IsNode, IsLeaf, Lawful}
use Rattle.pm_market.specs.State.{State, start, last_index, cleared_cut}
use Rattle.pm_market.specs.Moves.{after_from}
use Rattle.pm_laws.proofs.Order.{after_append, legal_append, last_rises}
use Rattle.pm_laws.proofs.Facts.{cleared_within, updated_at}
use Rattle.pm_laws.proofs.Published.{due_within}
use Rattle.pm_net.specs.Pricing.{Pricing, GoesByNodes}
use Rattle.pm_net.specs.Messages.{PriceMessage}
use Rattle.pm_net.specs.Network.{Network, start_network, sent_bid, sent_price}
use Rattle.pm_net.specs.Running.{is_new_bid, can_send, can_clear, is_new_price, names_a_bid, after_bidding, after_taking_bid}
use Rattle.pm_net.specs.Running.{after_sending, after_clearing, after_taking_price, after_answer, after_passing, after_relay_price}
use Rattle.pm_net.specs.Events.{Event, network_step, network_after}
use Rattle.pm_net.specs.Running.{waits}
use Rattle.pm_net.specs.Restarts.{auctioneer_stopped, can_tell_one, after_telling_one, can_pass_to_one, after_passing_to_one, device_stopped}
use Rattle.pm_net.specs.Restarts.{relay_stopped, can_resend, after_resending, stored_price, can_rebuild, after_rebuilding}
use Rattle.pm_net.specs.Events.{Bids, TakesBid, Sends, Clears, TakesPrice, Restarts, Rebuilds, StopsBidding, Resends, PassesToOne, StopsClearing}
use Rattle.pm_net.specs.Events.{TellsOne, KeepsRunning, RunsOn, IsSameOrNewer}
use Rattle.pm_market.proofs.Cuts.{updated_same, updated_other}
use Rattle.pm_net.specs.Agrees.{NetworkAgrees, GoesOn, GoesForward}
use Rattle.pm_net.proofs.Messages.{either}
use Rattle.pm_net.proofs.Agreeing.{still}
use Rattle.pm_net.proofs.Bidding.{bidding}
use Rattle.pm_net.proofs.TakingBids.{taking}
use Rattle.pm_net.proofs.Sending.{sending}
use Rattle.pm_net.proofs.Clearing.{clearing_goes_on, stopped_goes_on}
use Rattle.pm_net.proofs.TellingOne.{telling_one}
use Rattle.pm_net.proofs.TakingPrices.{holding, answering, passing, passing_to_one}
use Rattle.pm_net.proofs.Restarting.{restarting, rebuilding}
use Rattle.pm_net.proofs.Resending.{device_stops, relay_stops, resending}
use Rattle.pm_net.proofs.Starting.{starting}

-- nothing happens
same : (lists : Lists) (p : Pricing) (net : Network) (s : State) → NetworkAgrees lists p net s → (x j : ℕ) → GoesForward lists p s x j net
same lists p net s agrees x j = record { goes = still lists p net s agrees; move = inl refl }

-- a node that is given a price makes no move, or one that is later than its last
pub goes_forward : (lists : Lists) → Lawful lists → (p : Pricing) → GoesByNodes lists p → (net : Network) (s : State) →
    NetworkAgrees lists p net s → (x k : ℕ) →
    GoesForward lists p s x (sent_price net x k).index (network_step lists p net (TakesPrice x k))
goes_forward lists law p by net s agrees x k =
    let On : Network → Type 0 = GoesForward lists p s x (sent_price net x k).index in
    let nothing : On net = same lists p net s agrees x (sent_price net x k).index in
    either On (is_new_price lists net x (sent_price net x k))
    (cond (is_leaf lists x) (after_taking_price net x (sent_price net x k)) (after_relay_price lists p net x (sent_price net x k))) net
    (λ newer. either On (is_leaf lists x) (after_taking_price net x (sent_price net x k)) (after_relay_price lists p net x (sent_price net x k))
    (λ leaf. holding lists law p by net s agrees x k newer leaf)
    (λ inner. either On (names_a_bid net x (sent_price net x k).number)
    (cond (leb (net.whole_from x) (sent_price net x k).number) (after_passing lists p net x (sent_price net x k))
    (cond (waits lists net x (sent_price net x k).number) net (after_answer net x (sent_price net x k)))) net
    (λ names. either On (leb (net.whole_from x) (sent_price net x k).number) (after_passing lists p net x (sent_price net x k))
    (cond (waits lists net x (sent_price net x k).number) net (after_answer net x (sent_price net x k)))
    (λ whole. passing lists law p by net s agrees x k newer inner names whole)
    (λ lost. either On (waits lists net x (sent_price net x k).number) net (after_answer net x (sent_price net x k))
    (λ e. nothing)
    (λ goes. answering lists law p by net s agrees x k newer inner names lost goes)))
    (λ e. nothing)))
    (λ e. nothing)

passes_to_one : (lists : Lists) → Lawful lists → (p : Pricing) → GoesByNodes lists p → (net : Network) (s : State) →
    NetworkAgrees lists p net s → (z k : ℕ) →
    can_pass_to_one lists net z (sent_price net (parent lists z) k) ≡ true →
    GoesOn lists p s (after_passing_to_one lists p net z (sent_price net (parent lists z) k))
unfolding can_pass_to_one
passes_to_one lists law p by net s agrees z k e =
    let c : ℕ = parent lists z in
    let price : PriceMessage = sent_price net c k in
    let a = and_parts (is_node lists z && is_new_price lists net c price && names_a_bid net c price.number && leb (net.whole_from c) price.number)
    (not (net.records c price.number z).gone) e in
    let b = and_parts (is_node lists z && is_new_price lists net c price && names_a_bid net c price.number) (leb (net.whole_from c) price.number) a.0 in
    let d = and_parts (is_node lists z && is_new_price lists net c price) (names_a_bid net c price.number) b.0 in
    let f = and_parts (is_node lists z) (is_new_price lists net c price) d.0 in
    let node = is_node_from lists z f.0 in
    passing_to_one lists law p by net s agrees c k f.1 (law.inner z node) d.1 b.1 z node refl (not-true (net.records c price.number z).gone a.1)

-- an event is some legal moves
pub event_goes_on : (lists : Lists) → Lawful lists → phases lists ≡ 1 → (p : Pricing) → GoesByNodes lists p → (net : Network) (s : State) →
    NetworkAgrees lists p net s → (e : Event) → GoesOn lists p s (network_step lists p net e)
event_goes_on lists law one p by net s agrees (Bids d) =
    either (GoesOn lists p s) (is_leaf lists d && ltb (net.counts d) (changes lists d)) (after_bidding lists p net d) net
    (λ e. bidding lists law one p by net s agrees d e) (λ e. still lists p net s agrees)
event_goes_on lists law one p by net s agrees (TakesBid x k) =
    either (GoesOn lists p s) (is_new_bid lists net x (sent_bid p net x k)) (after_taking_bid net x (sent_bid p net x k)) net
    (λ e. taking lists p net s agrees x k e) (λ e. still lists p net s agrees)
event_goes_on lists law one p by net s agrees (Sends c) =
    either (GoesOn lists p s) (can_send lists net c) (after_sending p net c) net
    (λ e. sending lists law p by net s agrees c e) (λ e. still lists p net s agrees)
event_goes_on lists law one p by net s agrees Clears =
    either (GoesOn lists p s) (can_clear lists net) (after_clearing lists p net) net
    (λ e. clearing_goes_on lists law p by net s agrees e) (λ e. still lists p net s agrees)
event_goes_on lists law one p by net s agrees (TakesPrice x k) = (goes_forward lists law p by net s agrees x k).goes
event_goes_on lists law one p by net s agrees (Restarts y k) = restarting lists law p by net s agrees y k
event_goes_on lists law one p by net s agrees (Rebuilds c) =
    either (GoesOn lists p s) (can_rebuild lists net c) (after_rebuilding net c) net
    (λ e. rebuilding lists law p by net s agrees c e) (λ e. still lists p net s agrees)
event_goes_on lists law one p by net s agrees (StopsBidding x) =
    either (GoesOn lists p s) (is_leaf lists x && ltb (net.counts x) (changes lists x)) (device_stopped net x) (cond (can_send lists net x)
    (relay_stopped net x) net)
    (λ e. device_stops lists law p by net s agrees one x e)
    (λ e. either (GoesOn lists p s) (can_send lists net x) (relay_stopped net x) net
    (λ may. relay_stops lists law p by net s agrees x may) (λ none. still lists p net s agrees))
event_goes_on lists law one p by net s agrees (Resends x) =
    either (GoesOn lists p s) (can_resend lists net x) (after_resending lists p net x) net
    (λ e. resending lists law p by net s agrees x e) (λ e. still lists p net s agrees)
event_goes_on lists law one p by net s agrees (PassesToOne z k) =
    either (GoesOn lists p s) (can_pass_to_one lists net z (sent_price net (parent lists z) k)) (after_passing_to_one lists p net z (sent_price net
    (parent lists z) k)) net
    (λ e. passes_to_one lists law p by net s agrees z k e) (λ e. still lists p net s agrees)
event_goes_on lists law one p by net s agrees StopsClearing =
    either (GoesOn lists p s) (can_clear lists net) (auctioneer_stopped net) net
    (λ e. stopped_goes_on lists law p by net s agrees e) (λ e. still lists p net s agrees)
event_goes_on lists law one p by net s agrees (TellsOne z) =
    either (GoesOn lists p s) (can_tell_one lists net z) (after_telling_one p net z) net
    (λ e. telling_one lists law p by net s agrees z e) (λ e. still lists p net s agrees)

-- one goes on, and from there another
goes_then : (lists : Lists) (p : Pricing) (s : State) (net after : Network) (first : GoesOn lists p s net) →
    GoesOn lists p (after_from lists s first.moves) after → GoesOn lists p s after
goes_then lists p s net after first rest = record {
  moves = first.moves ++ rest.moves;
  legal = legal_append lists first.moves rest.moves s first.legal rest.legal;
  agrees = subst (NetworkAgrees lists p after) (sym (after_append lists first.moves rest.moves s)) rest.agrees;
}

-- so is a run
pub run_goes_on : (lists : Lists) → Lawful lists → phases lists ≡ 1 → (p : Pricing) → GoesByNodes lists p →
    (events : List Event) (net : Network) (s : State) →
    NetworkAgrees lists p net s → GoesOn lists p s (network_after lists p net events)
run_goes_on lists law one p by [] net s agrees = still lists p net s agrees
run_goes_on lists law one p by (e ∷ es) net s agrees =
    let first = event_goes_on lists law one p by net s agrees e in
    goes_then lists p s (network_step lists p net e) (network_after lists p (network_step lists p net e) es) first
    (run_goes_on lists law one p by es (network_step lists p net e) (after_from lists s first.moves) first.agrees)

-- a run from the start is a legal journal
pub run_from_start : (lists : Lists) → Lawful lists → phases lists ≡ 1 → (p : Pricing) → GoesByNodes lists p → (events : List Event) →
    GoesOn lists p start (network_after lists p (start_network p) events)
run_from_start lists law one p by events = run_goes_on lists law one p by events (start_network p) start (starting lists law p by)

-- of two prices ever sent to a node the later is over bids that are nobody's older ones
pub never_back : (lists : Lists) → Lawful lists → (p : Pricing) (net : Network) (s : State) → NetworkAgrees lists p net s → (x i j : ℕ) →
    IsNode lists x →
    i < length (net.prices_sent x) → j < length (net.prices_sent x) → (sent_price net x i).index ≤ (sent_price net x j).index → (d : ℕ) →
    IsLeaf lists d →
    cleared_cut s (sent_price net x i).index d ≤ cleared_cut s (sent_price net x j).index d
never_back lists law p net s agrees x i j node i_lt j_lt le d leaf =
    cleared_within lists law s agrees.sound (sent_price net x i).index (sent_price net x j).index le
    (due_within lists s agrees.sound x (sent_price net x j).index (agrees.prices_sent x j node j_lt).0).1 d leaf

-- what is taken is newer
moved : (lists : Lists) (net : Network) (y k x : ℕ) → is_new_price lists net y (sent_price net y k) ≡ true → (after : Network) →
    after.taken ≡ update net.taken y (sent_price net y k) → IsSameOrNewer net x after
unfolding is_new_price
moved lists net y k x newer after is =
    let lt = ltb-true (net.taken y).index (sent_price net y k).index (and_parts (is_node lists y) (ltb (net.taken y).index
    (sent_price net y k).index) newer).1 in
    let at : after.taken x ≡ update net.taken y (sent_price net y k) x = ap (λ (f : ℕ → PriceMessage). f x) is in
    elim (updated_at net.taken y (sent_price net y k) x) [
      | inl w ↦ inr (omega (
        arith,
        lt,
        ap (λ (q : PriceMessage). q.index) at,
        ap (λ (q : PriceMessage). q.index) w.1,
        ap (λ (z : ℕ). (net.taken z).index) w.0,
      ))
      | inr w ↦ inl (at ∙ w.1)
    ]

-- while it does not restart, what a node holds is replaced by prices of greater indices alone
pub taken_rises : (lists : Lists) (p : Pricing) (net : Network) (e : Event) (x : ℕ) → KeepsRunning x e → IsSameOrNewer net x (network_step lists p net e)
taken_rises lists p net (Bids d) x runs =
    either (IsSameOrNewer net x) (is_leaf lists d && ltb (net.counts d) (changes lists d)) (after_bidding lists p net d) net (λ e. inl refl) (λ e. inl refl)
taken_rises lists p net (TakesBid y k) x runs =
    either (IsSameOrNewer net x) (is_new_bid lists net y (sent_bid p net y k)) (after_taking_bid net y (sent_bid p net y k)) net (λ e. inl refl)
    (λ e. inl refl)
taken_rises lists p net (Sends c) x runs =
    either (IsSameOrNewer net x) (can_send lists net c) (after_sending p net c) net (λ e. inl refl) (λ e. inl refl)
taken_rises lists p net Clears x runs =
    either (IsSameOrNewer net x) (can_clear lists net) (after_clearing lists p net) net (λ e. inl refl) (λ e. inl refl)
taken_rises lists p net (TakesPrice y k) x runs =
    let Rises : Network → Type 0 = IsSameOrNewer net x in
    let price : PriceMessage = sent_price net y k in
    either Rises (is_new_price lists net y price) (cond (is_leaf lists y) (after_taking_price net y price) (after_relay_price lists p net y price)) net
    (λ newer. either Rises (is_leaf lists y) (after_taking_price net y price) (after_relay_price lists p net y price)
    (λ leaf. moved lists net y k x newer (after_taking_price net y price) refl)
    (λ inner. either Rises (names_a_bid net y price.number)
    (cond (leb (net.whole_from y) price.number) (after_passing lists p net y price) (cond (waits lists net y price.number) net (after_answer net y price))) net
    (λ names. either Rises (leb (net.whole_from y) price.number) (after_passing lists p net y price) (cond (waits lists net y price.number) net
    (after_answer net y price))
    (λ e. moved lists net y k x newer (after_passing lists p net y price) refl)
    (λ e. either Rises (waits lists net y price.number) net (after_answer net y price)
    (λ e. inl refl)
    (λ e. moved lists net y k x newer (after_answer net y price) refl)))
    (λ e. inl refl)))
    (λ e. inl refl)
taken_rises lists p net (Restarts y k) x runs = inl (updated_other net.taken y (stored_price net y k) x (λ e. runs (sym e)))
taken_rises lists p net (Rebuilds c) x runs =
    either (IsSameOrNewer net x) (can_rebuild lists net c) (after_rebuilding net c) net (λ e. inl refl) (λ e. inl refl)
taken_rises lists p net (StopsBidding y) x runs =
    either (IsSameOrNewer net x) (is_leaf lists y && ltb (net.counts y) (changes lists y)) (device_stopped net y) (cond (can_send lists net y)
    (relay_stopped net y) net)
    (λ e. inl refl) (λ e. either (IsSameOrNewer net x) (can_send lists net y) (relay_stopped net y) net (λ may. inl refl) (λ none. inl refl))
taken_rises lists p net (Resends y) x runs =
    either (IsSameOrNewer net x) (can_resend lists net y) (after_resending lists p net y) net (λ e. inl refl) (λ e. inl refl)
taken_rises lists p net (PassesToOne z k) x runs =
    either (IsSameOrNewer net x) (can_pass_to_one lists net z (sent_price net (parent lists z) k)) (after_passing_to_one lists p net z (sent_price net
    (parent lists z) k)) net
    (λ e. inl refl) (λ e. inl refl)
taken_rises lists p net StopsClearing x runs =
    either (IsSameOrNewer net x) (can_clear lists net) (auctioneer_stopped net) net (λ e. inl refl) (λ e. inl refl)
taken_rises lists p net (TellsOne z) x runs =
    either (IsSameOrNewer net x) (can_tell_one lists net z) (after_telling_one p net z) net (λ e. inl refl) (λ e. inl refl)

-- so over a run in which it does not restart
pub taken_since : (lists : Lists) (p : Pricing) (events : List Event) (net : Network) (x : ℕ) → RunsOn x events →
    (net.taken x).index ≤ ((network_after lists p net events).taken x).index
taken_since lists p [] net x runs = omega arith
taken_since lists p (e ∷ es) net x runs =
    let rest = taken_since lists p es (network_step lists p net e) x runs.1 in
    elim (taken_rises lists p net e x runs.0) [
      | inl w ↦ omega (arith, rest, ap (λ (q : PriceMessage). q.index) w)
      | inr w ↦ omega (arith, rest, w)
    ]

-- a restart comes back with nothing newer
pub restart_within : (lists : Lists) (p : Pricing) (net : Network) (x k : ℕ) →
    ((network_step lists p net (Restarts x k)).taken x).index ≤ (net.taken x).index
restart_within lists p net x k =
    let within : (stored_price net x k).index ≤ (net.taken x).index =
    either (λ (q : PriceMessage). q.index ≤ (net.taken x).index) (leb (sent_price net x k).index (net.taken x).index) (sent_price net x k) (net.taken x)
    (λ e. leb-true (sent_price net x k).index (net.taken x).index e) (λ e. omega arith) in
    omega (arith, within, ap (λ (q : PriceMessage). q.index) (updated_same net.taken x (stored_price net x k)))

-- nobody's place in the journal falls
pub place_rises : (lists : Lists) → Lawful lists → (p : Pricing) (net : Network) (s : State) (goes : GoesOn lists p s net) (old : Network) →
    NetworkAgrees lists p old s → (x : ℕ) → last_index s x ≤ last_index (after_from lists s goes.moves) x
place_rises lists law p net s goes old agrees x = last_rises lists law goes.moves s agrees.sound goes.legal x
