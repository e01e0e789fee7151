-- In each network there is a round, and so there are as many as one likes.
use Rattle.std.proofs.Common.{◌≡◌, ◌∙◌, sym, ap, ℕ, zero, suc, ◌+◌, ◌<◌, ◌≤◌, Bool, true, false, cond, inl, inr, List, []}
use Rattle.std.proofs.Common.{◌∷◌, ◌++◌, length, refl, arith}
use Rattle.std.proofs.lemmas.Bool.{cases_eq, cond-false}
use Rattle.std.proofs.lemmas.List.Elements.{All-append, All-cons, Contains-append_left, Contains-append_right}
use Rattle.std.specs.List.{All, Contains}
use Rattle.pm_market.specs.Lists.{Lists, nodes, is_leaf, IsInner}
use Rattle.pm_market.proofs.Tree.{leaf_zero}
use Rattle.pm_net.specs.Pricing.{Pricing}
use Rattle.pm_net.specs.Network.{Network}
use Rattle.pm_net.specs.Events.{Event, network_after, TakesBid, Sends, Clears, TakesPrice, Rebuilds, Resends, TellsOne}
use Rattle.pm_rounds.specs.Rounds.{IsCarried, IsRound, AreRounds, IsFullRound, AreFullRounds}
use Rattle.pm_net.proofs.Messages.{either}

abbrev bids_to : ℕ → ℕ → List Event
bids_to x zero = []
bids_to x (suc k) = TakesBid x k ∷ bids_to x k

abbrev prices_to : ℕ → ℕ → List Event
prices_to x zero = []
prices_to x (suc k) = TakesPrice x k ∷ prices_to x k

abbrev asks : Lists → ℕ → List Event
asks lists x = cond (is_leaf lists x) [] (Sends x ∷ Rebuilds x ∷ [])

-- all that a node has to be asked for
abbrev owed : Lists → ℕ → List Event
owed lists x = Resends x ∷ TellsOne x ∷ asks lists x

abbrev of_node : Lists → Network → ℕ → List Event
of_node lists net x = bids_to x (length (net.bids_sent x)) ++ (prices_to x (length (net.prices_sent x)) ++ owed lists x)

abbrev of_nodes : Lists → Network → ℕ → List Event
of_nodes lists net zero = Clears ∷ Rebuilds 0 ∷ []
of_nodes lists net (suc n) = of_node lists net (suc n) ++ of_nodes lists net n

first : (x : Event) (xs : List Event) → Contains (x ∷ xs) x
first x xs = (0, omega arith, refl)

later : (y : Event) (xs : List Event) (x : Event) → Contains xs x → Contains (y ∷ xs) x
later y xs x c = (suc c.0, omega (arith, c.1), c.2)

bid_there : (x n k : ℕ) → k < n → Contains (bids_to x n) (TakesBid x k)
bid_there x zero k lt = absurd (omega (arith, lt))
bid_there x (suc n) k lt = elim (cases_eq k n) [
  | inl e ↦ Rattle.std.proofs.Common.subst (λ (i : ℕ). Contains (TakesBid x n ∷ bids_to x n) (TakesBid x i)) (sym e) (first (TakesBid x n) (bids_to x n))
  | inr ne ↦ later (TakesBid x n) (bids_to x n) (TakesBid x k) (bid_there x n k (omega (arith, lt, ne)))
]

price_there : (x n k : ℕ) → k < n → Contains (prices_to x n) (TakesPrice x k)
price_there x zero k lt = absurd (omega (arith, lt))
price_there x (suc n) k lt = elim (cases_eq k n) [
  | inl e ↦ Rattle.std.proofs.Common.subst (λ (i : ℕ). Contains (TakesPrice x n ∷ prices_to x n) (TakesPrice x i)) (sym e)
      (first (TakesPrice x n) (prices_to x n))
  | inr ne ↦ later (TakesPrice x n) (prices_to x n) (TakesPrice x k) (price_there x n k (omega (arith, lt, ne)))
]

bids_carried : (lists : Lists) (x n : ℕ) → All (IsCarried lists) (bids_to x n)
bids_carried lists x zero = λ k o lt. absurd (omega (arith, lt))
bids_carried lists x (suc n) = All-cons (IsCarried lists) (TakesBid x n) (bids_to x n) tt (bids_carried lists x n)

prices_carried : (lists : Lists) (x n : ℕ) → All (IsCarried lists) (prices_to x n)
prices_carried lists x zero = λ k o lt. absurd (omega (arith, lt))
prices_carried lists x (suc n) = All-cons (IsCarried lists) (TakesPrice x n) (prices_to x n) tt (prices_carried lists x n)

none_carried : (lists : Lists) → All (IsCarried lists) []
none_carried lists k o lt = absurd (omega (arith, lt))

asks_carried : (lists : Lists) (x : ℕ) → x ≤ nodes lists → All (IsCarried lists) (asks lists x)
asks_carried lists x le =
    either (All (IsCarried lists)) (is_leaf lists x) [] (Sends x ∷ Rebuilds x ∷ []) (λ e. none_carried lists)
    (λ e. All-cons (IsCarried lists) (Sends x) (Rebuilds x ∷ []) tt (All-cons (IsCarried lists) (Rebuilds x) [] (e, le) (none_carried lists)))

nodes_carried : (lists : Lists) (net : Network) (n : ℕ) → n ≤ nodes lists → All (IsCarried lists) (of_nodes lists net n)
nodes_carried lists net zero le =
    All-cons (IsCarried lists) Clears (Rebuilds 0 ∷ []) tt (All-cons (IsCarried lists) (Rebuilds 0) [] (leaf_zero lists, omega arith) (none_carried lists))
nodes_carried lists net (suc n) le =
    All-append (IsCarried lists) (of_node lists net (suc n)) (of_nodes lists net n)
    (All-append (IsCarried lists) (bids_to (suc n) (length (net.bids_sent (suc n)))) _ (bids_carried lists (suc n) (length (net.bids_sent (suc n))))
    (All-append (IsCarried lists) (prices_to (suc n) (length (net.prices_sent (suc n)))) (owed lists (suc n))
    (prices_carried lists (suc n) (length (net.prices_sent (suc n)))) (All-cons (IsCarried lists) (Resends (suc n)) (TellsOne (suc n) ∷ asks lists (suc n)) tt
    (All-cons (IsCarried lists) (TellsOne (suc n)) (asks lists (suc n)) tt (asks_carried lists (suc n) le)))))
    (nodes_carried lists net n (omega (arith, le)))

-- what a node asks for is there
at_node : (lists : Lists) (net : Network) (e : Event) (n x : ℕ) → 1 ≤ x → x ≤ n → Contains (of_node lists net x) e →
    Contains (of_nodes lists net n) e
at_node lists net e zero x one le c = absurd (omega (arith, one, le))
at_node lists net e (suc n) x one le c = elim (cases_eq x (suc n)) [
  | inl is ↦ Contains-append_left (of_node lists net (suc n)) (of_nodes lists net n) e
      (Rattle.std.proofs.Common.subst (λ (i : ℕ). Contains (of_node lists net i) e) is c)
  | inr ne ↦ Contains-append_right (of_node lists net (suc n)) (of_nodes lists net n) e (at_node lists net e n x one (omega (arith, le, ne)) c)
]

at_end : (lists : Lists) (net : Network) (e : Event) (n : ℕ) → Contains (Clears ∷ Rebuilds 0 ∷ []) e → Contains (of_nodes lists net n) e
at_end lists net e zero c = c
at_end lists net e (suc n) c = Contains-append_right (of_node lists net (suc n)) (of_nodes lists net n) e (at_end lists net e n c)

owed_there : (lists : Lists) (net : Network) (x : ℕ) (e : Event) → Contains (owed lists x) e → Contains (of_node lists net x) e
owed_there lists net x e c =
    Contains-append_right (bids_to x (length (net.bids_sent x))) (prices_to x (length (net.prices_sent x)) ++ owed lists x) e
    (Contains-append_right (prices_to x (length (net.prices_sent x))) (owed lists x) e c)

asked_there : (lists : Lists) (net : Network) (x : ℕ) (e : Event) → IsInner lists x → Contains (Sends x ∷ Rebuilds x ∷ []) e →
    Contains (of_node lists net x) e
asked_there lists net x e inner c =
    owed_there lists net x e (later (Resends x) (TellsOne x ∷ asks lists x) e (later (TellsOne x) (asks lists x) e
    (Rattle.std.proofs.Common.subst (λ (l : List Event). Contains l e) (sym (cond-false (is_leaf lists x) [] (Sends x ∷ Rebuilds x ∷ []) inner)) c)))

-- from each network there is a round
pub a_round : (lists : Lists) (p : Pricing) (net : Network) → (events : List Event) × IsRound lists p net events
a_round lists p net = (
  of_nodes lists net (nodes lists),
  record {
    carried = nodes_carried lists net (nodes lists) (omega arith);
    bids = λ x k node lt. record {
      place = k;
      inside = lt;
      newer = omega arith;
      given = at_node lists net (TakesBid x k) (nodes lists) x node.0 node.1 (Contains-append_left (bids_to x (length (net.bids_sent x)))
          (prices_to x (length (net.prices_sent x)) ++ owed lists x) (TakesBid x k) (bid_there x (length (net.bids_sent x)) k lt));
    };
    prices = λ x k node lt. record {
      place = k;
      inside = lt;
      newer = omega arith;
      given = at_node lists net (TakesPrice x k) (nodes lists) x node.0 node.1 (Contains-append_right (bids_to x (length (net.bids_sent x)))
          (prices_to x (length (net.prices_sent x)) ++ owed lists x) (TakesPrice x k) (Contains-append_left (prices_to x (length (net.prices_sent x)))
          (owed lists x) (TakesPrice x k) (price_there x (length (net.prices_sent x)) k lt)));
    };
    sends = λ c conc. at_node lists net (Sends c) (nodes lists) c conc.0 conc.1
        (asked_there lists net c (Sends c) conc.2 (first (Sends c) (Rebuilds c ∷ [])));
    clears = at_end lists net Clears (nodes lists) (first Clears (Rebuilds 0 ∷ []));
    looks = λ y inner le. elim (cases_eq y 0) [
      | inl zero_is ↦ Rattle.std.proofs.Common.subst (λ (i : ℕ). Contains (of_nodes lists net (nodes lists)) (Rebuilds i)) (sym zero_is)
          (at_end lists net (Rebuilds 0) (nodes lists) (later Clears (Rebuilds 0 ∷ []) (Rebuilds 0) (first (Rebuilds 0) [])))
      | inr ne ↦ at_node lists net (Rebuilds y) (nodes lists) y (omega (arith, ne)) le
          (asked_there lists net y (Rebuilds y) inner (later (Sends y) (Rebuilds y ∷ []) (Rebuilds y) (first (Rebuilds y) [])))
    ];
  },
)

a_full_round : (lists : Lists) (p : Pricing) (net : Network) → (events : List Event) × IsFullRound lists p net events
unfolding a_round
a_full_round lists p net =
    let round = a_round lists p net in (
      of_nodes lists net (nodes lists),
      record {
        round = round.1;
        resends = λ x node. at_node lists net (Resends x) (nodes lists) x node.0 node.1 (owed_there lists net x (Resends x)
            (first (Resends x) (TellsOne x ∷ asks lists x)));
        tells = λ z node up. at_node lists net (TellsOne z) (nodes lists) z node.0 node.1 (owed_there lists net z (TellsOne z)
            (later (Resends z) (TellsOne z ∷ asks lists z) (TellsOne z) (first (TellsOne z) (asks lists z))));
      },
    )

-- from each network there are full rounds, as many as one likes
pub so_many : (lists : Lists) (p : Pricing) (n : ℕ) (net : Network) → (rounds : List (List Event)) × AreFullRounds lists p net rounds ×
    (length rounds ≡ n)
so_many lists p zero net = ([], tt, refl)
so_many lists p (suc n) net =
    let round = a_full_round lists p net in
    let rest = so_many lists p n (network_after lists p net round.0) in
    (round.0 ∷ rest.0, (round.1, rest.1), ap suc rest.2)

-- full rounds are rounds
pub are_rounds : (lists : Lists) (p : Pricing) (rounds : List (List Event)) (net : Network) → AreFullRounds lists p net rounds →
    AreRounds lists p net rounds
are_rounds lists p [] net are = tt
are_rounds lists p (round ∷ rounds) net are = (are.0.round, are_rounds lists p rounds (network_after lists p net round) are.1)
