-- A child's bid enters the cache of its parent as the network's parent takes it.
use Rattle.std.proofs.Common.{◌≡◌, ◌∙◌, sym, ap, ℕ, ◌<◌, ◌≤◌, ℤ, Bool, true, false, leb, ltb, List, get_or, arith}
use Rattle.std.proofs.Common.{refl, Some, None}
use Rattle.std.specs.Prelude.{if◌then◌else◌}
use Rattle.std.proofs.lemmas.Bool.{cond-true, cond-false, lt-ltb, le-leb, ltb-true, leb-true, and_from, and_parts, false_from_ne_true}
use Rattle.std.proofs.Math.ListN.{set}
use Rattle.pm_bid.specs.Bids.{zeros, sum_of}
use Rattle.pm_bid.specs.Heads.{nothing_sent}
use Rattle.pm_bid.specs.declared.head.BidHead.{BidHead}
use Rattle.pm_cache.specs.Cache.{Cache, kept_number, with_entry, aggregate_of}
use Rattle.pm_cache.specs.Learning.{after_learning, with_newer_bid}
use Rattle.pm_market.specs.Lists.{Lists, parent, IsNode}
use Rattle.pm_market.specs.Legality.{is_node}
use Rattle.pm_market.proofs.Legality.{is_node_at}
use Rattle.pm_net.specs.Pricing.{Pricing}
use Rattle.pm_net.specs.Messages.{BidMessage}
use Rattle.pm_net.specs.Network.{Network, sent_bid}
use Rattle.pm_net.specs.Running.{is_new_bid, after_taking_bid, heard_sum}
use Rattle.pm_net.specs.Events.{network_step, TakesBid}
use Rattle.pm_net_plan.specs.Places.{Numbering, IsNumbering, demands_of}
use Rattle.pm_relay_net.specs.Heads.{bid_head, heads_of, AddsByPlaces}
use Rattle.pm_relay_net.specs.RelayIs.{told_demand}
use Rattle.pm_relay_net.proofs.Places.{head_there, heads_set, demands_set}

-- the cache has what the network heard of y's children
pub record HearsChildren (p : Pricing) (numbering : Numbering) (net : Network) (y : ℕ) (cache : Cache) : Type 0 where
  -- the steps
  pub steps : cache.steps ≡ p.steps
  pub heads : cache.heads ≡ heads_of numbering y net.heard
  -- the demands
  pub demands : cache.demands ≡ demands_of p.steps numbering y (λ z. (net.heard z).demand)

-- its sum is the node's
pub sum_heard : (p : Pricing) (numbering : Numbering) → AddsByPlaces p numbering → (net : Network) (y : ℕ) (cache : Cache) →
    HearsChildren p numbering net y cache → aggregate_of cache ≡ heard_sum p net y
sum_heard p numbering adds net y cache has =
    ap (λ (n : ℕ). sum_of n cache.demands) has.steps ∙ ap (sum_of p.steps) has.demands ∙ sym (adds y (λ z. (net.heard z).demand))

entry_is : (cache : Cache) (k n : ℕ) (g : Bool) (d : List ℤ) → (g ≡ true → d ≡ zeros cache.steps) →
    with_newer_bid cache k n (if g then None else Some d) ≡ with_entry cache k (record { number = n; gone = g }) d
entry_is cache k n true d h = ap (with_entry cache k (record { number = n; gone = true })) (sym (h refl))
entry_is cache k n false d h = refl

module _ (lists : Lists) (p : Pricing) (numbering : Numbering) (is : IsNumbering lists numbering) (net : Network) (x k : ℕ) (node : IsNode lists x)
    (cache : Cache) (has : HearsChildren p numbering net (parent lists x) cache)
    (none : (sent_bid p net x k).gone ≡ true → (sent_bid p net x k).demand ≡ zeros p.steps) where
  abbrev bid : BidMessage
  bid = sent_bid p net x k

  abbrev pub entered : Cache
  entered = after_learning cache (numbering.place x) bid.number (told_demand bid)

  -- the number that is kept of the child is the one that was heard of it
  pub kept_is : kept_number cache (numbering.place x) ≡ (net.heard x).number
  kept_is = ap (λ (l : List BidHead). (get_or l (numbering.place x) nothing_sent).number) has.heads
      ∙ ap (λ (h : BidHead). h.number) (head_there lists numbering is net.heard x node)

  abbrev newer_entry : Cache
  newer_entry = with_newer_bid cache (numbering.place x) bid.number (told_demand bid)

  -- a newer bid is taken
  module _ (lt : (net.heard x).number < bid.number) where
    made : entered ≡ with_entry cache (numbering.place x) (bid_head bid) bid.demand
    made = cond-false (leb bid.number (kept_number cache (numbering.place x))) cache newer_entry
        (false_from_ne_true (leb bid.number (kept_number cache (numbering.place x))) (λ e.
        omega (arith, leb-true bid.number (kept_number cache (numbering.place x)) e, kept_is, lt)))
        ∙ entry_is cache (numbering.place x) bid.number bid.gone bid.demand (λ e. none e ∙ ap zeros (sym has.steps))

    -- the network takes a newer bid
    pub newer_taken : network_step lists p net (TakesBid x k) ≡ after_taking_bid net x bid
    unfolding is_new_bid
    newer_taken = cond-true (is_new_bid lists net x bid) (after_taking_bid net x bid) net
        (and_from (is_node lists x) (ltb (net.heard x).number bid.number) (is_node_at lists x node) (lt-ltb (net.heard x).number bid.number lt))

    -- the cache has it then
    pub newer_heard : HearsChildren p numbering (after_taking_bid net x bid) (parent lists x) entered
    newer_heard = record {
      steps = ap (λ (w : Cache). w.steps) made ∙ has.steps;
      heads = ap (λ (w : Cache). w.heads) made ∙ ap (λ (l : List BidHead). set l (numbering.place x) (bid_head bid)) has.heads
          ∙ heads_set lists numbering is net.heard x bid node;
      demands = ap (λ (w : Cache). w.demands) made ∙ ap (λ (l : List (List ℤ)). set l (numbering.place x) bid.demand) has.demands
          ∙ demands_set lists numbering is p.steps net.heard x bid node;
    }

  -- any other one is left
  module _ (le : bid.number ≤ (net.heard x).number) where
    -- the network leaves an older bid
    pub older_left : network_step lists p net (TakesBid x k) ≡ net
    unfolding is_new_bid
    older_left = cond-false (is_new_bid lists net x bid) (after_taking_bid net x bid) net (false_from_ne_true (is_new_bid lists net x bid) (λ e.
        let parts = and_parts (is_node lists x) (ltb (net.heard x).number bid.number) e in
        omega (arith, ltb-true (net.heard x).number bid.number parts.1, le)))

    -- the cache stays
    pub same_cache : entered ≡ cache
    same_cache = cond-true (leb bid.number (kept_number cache (numbering.place x))) cache newer_entry
        (le-leb bid.number (kept_number cache (numbering.place x)) (omega (arith, kept_is, le)))
