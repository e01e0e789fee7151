-- What the offers that an agent keeps are, and what a price finds among them.
use Rattle.std.proofs.Common.{◌≡◌, ◌∙◌, sym, ap, subst, ℕ, zero, suc, ◌+◌, ◌-◌, ◌<◌, ◌≤◌, true, false, eqb, leb, ltb, ◌⊎◌}
use Rattle.std.proofs.Common.{inl, inr, List, [], ◌∷◌, ◌++◌}
use Rattle.std.proofs.Common.{length, Option, Some, None, refl, arith, ℤ, pos, get_or}
use Rattle.std.proofs.lemmas.Bool.{cases_Bool, cond-true, cond-false, eqb-true, leb-true, leb-false, ltb-true, lt-ltb, both_ways, eq-eqb, false_from_ne_true}
use Rattle.std.proofs.lemmas.List.{length_push, append-nil}
use Rattle.std.proofs.lemmas.List.Elements.{All-push, All-filter}
use Rattle.std.specs.List.{All, AllPairs, find}
use Rattle.std.proofs.lemmas.List.Quantifiers.{all_pairs_push}
use Rattle.pm_base.specs.Limits.{window_size}
use Rattle.pm_market.specs.Lists.{Lists, is_member}
use Rattle.pm_market.specs.State.{State, clearings, cleared_cut}
use Rattle.pm_laws.proofs.Quiet.{in_zero}
use Rattle.pm_net.specs.Pricing.{Pricing}
use Rattle.pm_net.specs.Messages.{PriceMessage}
use Rattle.pm_net.proofs.Messages.{either}
use Rattle.pm_net.specs.Agents.{Offer, Setpoint, DeviceAgent, new_agent, may_offer, after_offer, after_leaving, kept_offer, offers_from}
use Rattle.pm_net.specs.Agents.{setpoint_of, setpoints_of, setpoints_for, answered_by, after_price, after_coming_back}
use Rattle.pm_net.specs.Devices.{agent_after_own, agent_after_change, IsKeptOffer, AreFrom, IsOfferWindow, IsGivenNumber, AgentIs, IsRight}

-- an offer under the second number after the last
pub from_push : (xs : List Offer) (a : ℕ) (o : Offer) → AreFrom a xs → o.number ≡ a + (length xs + length xs) → AreFrom a (xs ++ o ∷ [])
from_push [] a o are is = (omega (arith, is), tt)
from_push (x ∷ xs) a o are is = (are.0, from_push xs (a + 2) o are.1 (omega (arith, is)))

-- offers without those below m
pub record Shorter (a m : ℕ) (xs ys : List Offer) : Type 0 where
  -- the number of the first, or of the next offer
  pub first : ℕ
  -- they are under the numbers from it on
  pub are : AreFrom first ys
  -- to the same last number
  pub to_last : first + (length ys + length ys) ≡ a + (length xs + length xs)
  -- it is one of the numbers from a on
  pub dropped : ℕ
  pub from_a : first ≡ a + (dropped + dropped)
  -- no lower than m
  pub from_m : m ≤ first
  -- and no higher than a, or than the first of them that is not below m
  pub to : (first ≤ a) ⊎ (first ≤ m + 1)

-- the offers from m on are such
pub shorter : (m : ℕ) (xs : List Offer) (a : ℕ) → AreFrom a xs → m ≤ a + (length xs + length xs) → Shorter a m xs (offers_from m xs)
shorter m [] a are le = record { first = a; are = tt; to_last = refl; dropped = 0; from_a = omega arith; from_m = omega (arith, le); to = inl (omega arith) }
shorter m (x ∷ xs) a are le =
    let rest = shorter m xs (a + 2) are.1 (omega (arith, le)) in
    elim (cases_Bool (leb m x.number)) [
      | inl e ↦
          let here : m ≤ a = omega (arith, leb-true m x.number e, are.0) in
          let at : rest.first ≡ a + 2 = elim rest.to [
            | inl w ↦ omega (arith, w, rest.from_a)
            | inr w ↦ omega (arith, w, rest.from_a, here)
          ] in
          let Shorts : List Offer → Type 0 = λ ys. Shorter a m (x ∷ xs) ys in
          subst Shorts (sym (cond-true (leb m x.number) (x ∷ offers_from m xs) (offers_from m xs) e)) (record {
            first = a;
            are = (are.0, subst (λ (n : ℕ). AreFrom n (offers_from m xs)) at rest.are);
            to_last = omega (arith, rest.to_last, at);
            dropped = 0;
            from_a = omega arith;
            from_m = here;
            to = inl (omega arith);
          })
      | inr e ↦
          let there : a < m = omega (arith, leb-false m x.number e, are.0) in
          let Shorts : List Offer → Type 0 = λ ys. Shorter a m (x ∷ xs) ys in
          subst Shorts (sym (cond-false (leb m x.number) (x ∷ offers_from m xs) (offers_from m xs) e)) (record {
            first = rest.first;
            are = rest.are;
            to_last = omega (arith, rest.to_last);
            dropped = suc rest.dropped;
            from_a = omega (arith, rest.from_a);
            from_m = rest.from_m;
            to = inr (elim rest.to [
              | inl w ↦ omega (arith, w, there)
              | inr w ↦ w
            ]);
          })
    ]

-- a number of the offers from low to high, each second one
pub record IsAmong (low high n : ℕ) : Type 0 where
  -- it is so many places of two numbers behind the lowest
  pub place : ℕ
  pub is : n ≡ low + (place + place)
  -- and is below the end
  pub below : n < high

-- what is found under a number
abbrev pub Fits : Lists → Pricing → ℕ → ℕ → ℕ → ℕ → Option Offer → Type 0
Fits lists p d low high n None = Unit {0}
Fits lists p d low high n (Some offer) = IsKeptOffer lists p d offer × (offer.number ≡ n) × IsAmong low high n

wider : (lists : Lists) (p : Pricing) (d low high b n : ℕ) → high ≤ b → (o : Option Offer) → Fits lists p d (low + 2) high n o →
    Fits lists p d low b n o
wider lists p d low high b n to None fits = tt
wider lists p d low high b n to (Some offer) fits = (
  fits.0,
  fits.1,
  record { place = suc fits.2.place; is = omega (arith, fits.2.is); below = omega (arith, to, fits.2.below) },
)

found : (lists : Lists) (p : Pricing) (d n : ℕ) (xs : List Offer) (a : ℕ) → All (IsKeptOffer lists p d) xs → AreFrom a xs →
    Fits lists p d a (a + (length xs + length xs)) n (find (λ (offer : Offer). eqb offer.number n) xs)
found lists p d n [] a all are = tt
found lists p d n (x ∷ xs) a all are =
    either (Fits lists p d a (a + (length (x ∷ xs) + length (x ∷ xs))) n) (eqb x.number n) (Some x) (find (λ (offer : Offer). eqb offer.number n) xs)
    (λ e. (
      all 0 x (omega arith),
      eqb-true x.number n e,
      record { place = 0; is = omega (arith, eqb-true x.number n e, are.0); below = omega (arith, eqb-true x.number n e, are.0) },
    ))
    (λ e. wider lists p d a (a + 2 + (length xs + length xs)) (a + (length (x ∷ xs) + length (x ∷ xs))) n (omega arith) (find (λ
    (offer : Offer). eqb offer.number n) xs)
    (found lists p d n xs (a + 2) (λ k o lt. all (suc k) o (omega (arith, lt))) are.1))

-- each number between the first and the last is found
abbrev pub IsThere : Option Offer → Type 0
IsThere None = ⊥
IsThere (Some offer) = Unit {0}

-- an offer of each number from the first to the last is found
pub there : (n : ℕ) (xs : List Offer) (a place : ℕ) → AreFrom a xs → n ≡ a + (place + place) → n < a + (length xs + length xs) →
    IsThere (find (λ (offer : Offer). eqb offer.number n) xs)
there n [] a place are is to = absurd (omega (arith, is, to))
there n (x ∷ xs) a zero are is to =
    subst IsThere
    (sym (cond-true (eqb x.number n) (Some x) (find (λ (offer : Offer). eqb offer.number n) xs) (eq-eqb x.number n (omega (arith, are.0, is))))) tt
there n (x ∷ xs) a (suc place) are is to =
    either IsThere (eqb x.number n) (Some x) (find (λ (offer : Offer). eqb offer.number n) xs) (λ e. tt)
    (λ e. there n xs (a + 2) place are.1 (omega (arith, is)) (omega (arith, to)))

one_of : (price : PriceMessage) (o : Option Offer) → IsThere o → length (setpoints_of price o) ≡ 1
one_of price None is = absurd is
one_of price (Some offer) is = refl

-- an unanswered offer that a newer price names gives a setpoint
pub gives : (agent : DeviceAgent) (price : PriceMessage) → IsOfferWindow agent → agent.index < price.index → agent.answered < price.number →
    IsGivenNumber agent.number price.number → length (setpoints_for agent price) ≡ 1
gives agent price window newer above given =
    let count : ℕ = length agent.offers in
    let order : given.since < count = omega (arith, given.is, window.to_last, window.high, above) in
    ap (λ (l : List Setpoint). length l) (cond-true (ltb agent.index price.index) (setpoints_of price (kept_offer agent price.number)) []
    (lt-ltb agent.index price.index newer))
    ∙ one_of price (kept_offer agent price.number) (there price.number agent.offers window.first (count - suc given.since)
    window.are_from (omega (arith, window.to_last, given.is, order)) (omega (arith, window.to_last, given.is)))

-- a window has at most one offer more than may be unanswered
pub few_kept : (agent : DeviceAgent) → IsOfferWindow agent → length agent.offers ≤ window_size + 1
few_kept agent window = omega (arith, window.to_last, window.few, window.low)

-- ---- what an agent is after each thing that it does

module _ (lists : Lists) (p : Pricing) (d : ℕ) where
  -- a new agent is that of a device that made no change
  pub starts : AgentIs lists p d 0 0 new_agent
  starts = record {
    half = 0;
    even = refl;
    number = inl refl;
    its_index = refl;
    offers = λ k o lt. absurd (omega arith);
    window = record { first = 2; are_from = tt; to_last = refl; low = omega arith; high = omega arith; few = omega arith };
    newest = λ member. absurd (both_ways (is_member lists d 0) (in_zero lists d) member);
  }

  -- after a change of its own the agent is that of a device that made one change more
  owns : (count index : ℕ) (agent : DeviceAgent) → AgentIs lists p d count index agent → count ≡ agent.number + 1 →
      (is_member lists d (count + 1) ≡ true → may_offer agent ≡ true) →
      AgentIs lists p d (count + 1) index (agent_after_own lists p d (count + 1) agent)
  owns count index agent is own may =
      either (AgentIs lists p d (count + 1) index) (is_member lists d (count + 1)) (after_offer agent (p.demand d (count + 1))) (after_leaving agent)
      (λ member.
      let new : Offer = record { number = agent.number + 2; demand = p.demand d (count + 1) } in
      let same : count + 1 ≡ agent.number + 2 = omega (arith, own) in
      let room : agent.number - agent.answered < window_size + window_size = ltb-true _ (window_size + window_size) (may member) in
      record {
        half = suc is.half;
        even = omega (arith, is.even);
        number = inl same;
        its_index = is.its_index;
        offers = All-push (IsKeptOffer lists p d) agent.offers new is.offers
            (record { demand = ap (p.demand d) same; member = ap (is_member lists d) (sym same) ∙ member });
        window = record {
          first = is.window.first;
          are_from = from_push agent.offers is.window.first new is.window.are_from (sym is.window.to_last);
          to_last = omega (arith, is.window.to_last, length_push agent.offers new);
          low = is.window.low;
          high = is.window.high;
          few = omega (arith, room);
        };
        newest = λ e. omega (arith, is.window.to_last);
      })
      (λ leaves. record {
        half = suc is.half;
        even = omega (arith, is.even);
        number = inl (omega (arith, own));
        its_index = is.its_index;
        offers = λ k o lt. absurd (omega arith);
        window = record { first = agent.number + 4; are_from = tt; to_last = omega arith; low = omega arith; high = omega arith; few = omega arith };
        newest = λ e. absurd (both_ways (is_member lists d (count + 1)) leaves
            (ap (is_member lists d) (let s : count + 1 ≡ agent.number + 2 = omega (arith, own) in s) ∙ e));
      })

  -- after the next change, its parent's or its own, the agent is that of a device that made one change more
  pub changes : (count index : ℕ) (agent : DeviceAgent) → AgentIs lists p d count index agent →
      (eqb count agent.number ≡ false → is_member lists d (count + 1) ≡ true → may_offer agent ≡ true) →
      AgentIs lists p d (count + 1) index (agent_after_change lists p d (count + 1) agent)
  changes count index agent is may =
      either (AgentIs lists p d (count + 1) index) (eqb (count + 1) (agent.number + 1)) agent (agent_after_own lists p d (count + 1) agent)
      (λ e. record {
        half = is.half;
        even = is.even;
        number = inr (eqb-true (count + 1) (agent.number + 1) e);
        its_index = is.its_index;
        offers = is.offers;
        window = is.window;
        newest = is.newest;
      })
      (λ e.
      let differs : count ≡ agent.number → ⊥ = λ same. both_ways (eqb (count + 1) (agent.number + 1)) e (eq-eqb (count + 1) (agent.number + 1)
      (omega (arith, same))) in
      let own : count ≡ agent.number + 1 = elim is.number [
        | inl w ↦ absurd (differs w)
        | inr w ↦ w
      ] in
      owns count index agent is own (may (false_from_ne_true (eqb count agent.number) (λ h. differs (eqb-true count agent.number h)))))

  finds : (count index : ℕ) (agent : DeviceAgent) → (is : AgentIs lists p d count index agent) → (n : ℕ) →
      Fits lists p d is.window.first (is.window.first + (length agent.offers + length agent.offers)) n (kept_offer agent n)
  finds count index agent is n = found lists p d n agent.offers is.window.first is.offers is.window.are_from

  answers : (count index : ℕ) (agent : DeviceAgent) → (is : AgentIs lists p d count index agent) → (price : PriceMessage) (o : Option Offer) →
      Fits lists p d is.window.first (is.window.first + (length agent.offers + length agent.offers)) price.number o →
      AgentIs lists p d count price.index (answered_by agent price o)
  answers count index agent is price None fits = record {
    half = is.half;
    even = is.even;
    number = is.number;
    its_index = refl;
    offers = is.offers;
    window = to_window is.window;
    newest =
        is.newest;
  }
    where
      to_window : IsOfferWindow agent → IsOfferWindow (record agent { index = price.index })
      to_window w = record { first = w.first; are_from = w.are_from; to_last = w.to_last; low = w.low; high = w.high; few = w.few }
  answers count index agent is price (Some offer) fits =
      let left = shorter price.number agent.offers is.window.first is.window.are_from (omega (arith, fits.2.below)) in
      let at : left.first ≡ price.number = elim left.to [
        | inl w ↦ omega (arith, w, left.from_m, fits.2.is)
        | inr w ↦ omega (arith, w, left.from_m, left.from_a, fits.2.is)
      ] in
      record {
        half = is.half;
        even = is.even;
        number = is.number;
        its_index = refl;
        offers = All-filter (λ (o : Offer). leb price.number o.number) (IsKeptOffer lists p d) agent.offers is.offers;
        window = record {
          first = left.first;
          are_from = left.are;
          to_last = left.to_last ∙ is.window.to_last;
          low = omega (arith, at);
          high = omega (arith, at);
          few = omega (arith, is.window.few, is.window.low, fits.2.is);
        };
        newest = λ e. omega (arith, at, fits.2.is, fits.2.below, is.window.to_last);
      }

  -- after a price the agent has its index, where that is newer
  pub takes : (count index : ℕ) (agent : DeviceAgent) → AgentIs lists p d count index agent → (price : PriceMessage) → (held : ℕ) →
      (ltb agent.index price.index ≡ true → held ≡ price.index) → (ltb agent.index price.index ≡ false → held ≡ index) →
      AgentIs lists p d count held (after_price agent price)
  takes count index agent is price held newer older =
      either (AgentIs lists p d count held) (ltb agent.index price.index) (answered_by agent price (kept_offer agent price.number)) agent
      (λ e. subst (λ (i : ℕ). AgentIs lists p d count i (answered_by agent price (kept_offer agent price.number))) (sym (newer e))
      (answers count index agent is price (kept_offer agent price.number) (finds count index agent is price.number)))
      (λ e. subst (λ (i : ℕ). AgentIs lists p d count i agent) (sym (older e)) is)

  -- after a restart the agent has the index that it stored
  pub restarts : (count index : ℕ) (agent : DeviceAgent) → AgentIs lists p d count index agent → (stored : ℕ) →
      AgentIs lists p d count stored (after_coming_back agent stored)
  restarts count index agent is stored =
      let left = shorter agent.number agent.offers is.window.first is.window.are_from (omega (arith, is.window.to_last)) in
      record {
        half = is.half;
        even = is.even;
        number = is.number;
        its_index = refl;
        offers = All-filter (λ (o : Offer). leb agent.number o.number) (IsKeptOffer lists p d) agent.offers is.offers;
        window = record {
          first = left.first;
          are_from = left.are;
          to_last = left.to_last ∙ is.window.to_last;
          low = left.from_m;
          high = elim left.to [
            | inl w ↦ omega (arith, w, is.window.to_last)
            | inr w ↦ omega (arith, w)
          ];
          few = omega arith;
        };
        newest = λ e. elim left.to [
          | inl w ↦ omega (arith, w, is.newest e)
          | inr w ↦ omega (arith, w, left.from_a, is.window.to_last)
        ];
      }

  -- ---- the setpoints that a price gives

  module _ (s : State) (price : PriceMessage) (cleared_one : 1 ≤ price.index) (cleared_by_now : price.index ≤ clearings s)
      (number_is : price.number ≡ cleared_cut s price.index d) (step_is : price.step ≡ p.local (cleared_cut s price.index) d) where
    right : (low high : ℕ) (o : Option Offer) → Fits lists p d low high price.number o → (xs : List Setpoint) → All (IsRight lists p s d) xs →
        All (IsRight lists p s d) (xs ++ setpoints_of price o)
    right low high None fits xs all = subst (All (IsRight lists p s d)) (sym (append-nil xs)) all
    right low high (Some offer) fits xs all = All-push (IsRight lists p s d) xs (setpoint_of price offer) all (record {
      cleared_one = cleared_one;
      cleared_by_now = cleared_by_now;
      number = number_is;
      member = ap (is_member lists d) (sym fits.1) ∙ fits.0.member;
      step = step_is;
      power = ap (λ (l : List ℤ). get_or l price.step (pos 0)) (fits.0.demand ∙ ap (p.demand d) fits.1);
    })

    -- the setpoints of a price that is due are right
    pub gives_right : (count index : ℕ) (agent : DeviceAgent) → AgentIs lists p d count index agent → (xs : List Setpoint) →
        All (IsRight lists p s d) xs →
        All (IsRight lists p s d) (xs ++ setpoints_of price (kept_offer agent price.number))
    gives_right count index agent is xs all =
        right is.window.first (is.window.first + (length agent.offers + length agent.offers)) (kept_offer agent price.number)
        (finds count index agent is price.number) xs all

-- setpoints of a greater index than those before them
module _ (price : PriceMessage) where
  -- a setpoint of a newer price has the greatest index
  pub rising_more : (o : Option Offer) (xs : List Setpoint) (last : ℕ) → last < price.index →
      AllPairs (λ (a b : Setpoint). a.index < b.index) xs → All (λ (a : Setpoint). a.index ≤ last) xs →
      AllPairs (λ (a b : Setpoint). a.index < b.index) (xs ++ setpoints_of price o) × All (λ (a : Setpoint). a.index ≤ price.index)
      (xs ++ setpoints_of price o)
  rising_more None xs last newer rising within = (
    subst (AllPairs (λ (a b : Setpoint). a.index < b.index)) (sym (append-nil xs)) rising,
    subst (All (λ (a : Setpoint). a.index ≤ price.index)) (sym (append-nil xs)) (λ k o lt. omega (arith, within k o lt, newer)),
  )
  rising_more (Some offer) xs last newer rising within = (
    all_pairs_push (λ (a b : Setpoint). a.index < b.index) xs (setpoint_of price offer) rising (λ k o lt. omega (arith, within k o lt, newer)),
    All-push (λ (a : Setpoint). a.index ≤ price.index) xs (setpoint_of price offer) (λ k o lt. omega (arith, within k o lt, newer)) (omega arith),
  )
