-- Where the numbers of the nodes are those of a settled phase, what the nodes hold is settled.
use Rattle.std.proofs.Common.{◌≡◌, ◌∙◌, sym, ap, ℕ, ◌+◌, ◌≤◌, Bool, true, false, List, [], ◌∷◌, length, map, Option, Some, None}
use Rattle.std.proofs.Common.{refl, arith, inl, inr}
use Rattle.std.specs.Prelude.{slice_get, slice_index_or, Vec}
use Rattle.std.specs.declared.alloc.Global.{Global}
use Rattle.std.proofs.lemmas.Bool.{cases_eq}
use Rattle.pm_auctioneer.specs.Auctions.{Auction, new_auction}
use Rattle.pm_cache.specs.Cache.{Cache, child_head}
use Rattle.pm_cells.specs.Numbers.{newest_number}
use Rattle.pm_cells.specs.declared.link.LinkLog.{LinkLog}
use Rattle.pm_concentrator.specs.Concentrators.{Gathered, published_heads}
use Rattle.pm_device.specs.declared.state.Next.{Next}
use Rattle.pm_market.specs.Lists.{Lists, parent, IsNode, IsLeaf}
use Rattle.pm_market.proofs.Tree.{leaf_node}
use Rattle.pm_plan.specs.Kept.{IsPlan}
use Rattle.pm_plan.specs.Plans.{PlanData, is_member}
use Rattle.pm_plan.specs.Market.{plan_lists}
use Rattle.pm_plan.proofs.MarketLists.{lawful, is_leaf-is, parent-is, nodes_are}
use Rattle.pm_session.specs.declared.price.PriceUpdate.{PriceUpdate}
use Rattle.pm_tree.specs.Entries.{place_of}
use Rattle.pm_carried.specs.Carried.{Carried, cache_at, entry_head, last_price}
use Rattle.pm_carried.specs.Settled.{IsSettledOver}
use Rattle.pm_carried.proofs.Bids.{cache_root, cache_inner}
use Rattle.pm_phase.specs.declared.node.Duty.{Duty}
use Rattle.pm_phase.specs.declared.node.Duty.TheVariants.{Device, Parent}
use Rattle.pm_phase.specs.declared.node.NodePart.{NodePart}
use Rattle.pm_phase.specs.declared.matcher.Matcher.{Matcher}
use Rattle.pm_phase.specs.declared.matcher.Matcher.TheVariants.{Concentrator, Auctioneer}
use Rattle.pm_phase.specs.SettledParts.{cache_of_part, cache_of_duty, PartCleared, DutyCleared, MatcherCleared, PartSent, DutySent, MatcherSent, PartMade}
use Rattle.pm_phase.specs.SettledParts.{DutyMade}
use Rattle.pm_phase.specs.SettledParts.{AreSettled, AreRead, kept_in, taken_in, changes_count, carried_of, cut_after, of_part, no_gathered}
use Rattle.pm_phase.specs.SettledParts.{auction_of_duty, auction_of_matcher, gathered_of_duty, gathered_of_matcher, made_of_duty, member_of_duty}
use Rattle.pm_phase.specs.Matchers.{cache_of_matcher}

record IsRoot (a : Auction) (q : Cache) (i : ℕ) : Type 0 where
  cache : a.cache ≡ q
  still : a.changed ≡ false
  index : a.index ≡ i

root_of : (p : Option NodePart) (i : ℕ) → PartCleared p i → IsRoot (of_part auction_of_duty (new_auction 0 0) p) (cache_of_part p) i
root_of None i h = absurd h
root_of (Some part) i h = by_duty part.duty h
  where
    by_matcher : (m : Matcher) → MatcherCleared m i → IsRoot (auction_of_matcher m) (cache_of_matcher m) i
    by_matcher (Concentrator g) h = absurd h
    by_matcher (Auctioneer a) h = record { cache = refl; still = h.0; index = h.1 }

    by_duty : (d : Duty) → DutyCleared d i → IsRoot (auction_of_duty d) (cache_of_duty d) i
    by_duty (Device device) h = absurd h
    by_duty (Parent parent) h = by_matcher parent.matcher h

record IsSent (g : Gathered) (q : Cache) (kept : ℕ) : Type 0 where
  cache : g.cache ≡ q
  sent : g.cache.heads ≡ published_heads g
  newest : kept ≡ g.window.last

sent_of : (p : Option NodePart) (kept : ℕ) → PartSent p kept → IsSent (of_part gathered_of_duty no_gathered p) (cache_of_part p) kept
sent_of None kept h = absurd h
sent_of (Some part) kept h = by_duty part.duty h
  where
    by_matcher : (m : Matcher) → MatcherSent m kept → IsSent (gathered_of_matcher m) (cache_of_matcher m) kept
    by_matcher (Concentrator g) h = record { cache = refl; sent = h.0; newest = h.1 }
    by_matcher (Auctioneer a) h = absurd h

    by_duty : (d : Duty) → DutySent d kept → IsSent (gathered_of_duty d) (cache_of_duty d) kept
    by_duty (Device device) h = absurd h
    by_duty (Parent parent) h = by_matcher parent.matcher h

record IsMade (made count before kept taken index : ℕ) (member : Bool) : Type 0 where
  all : made ≡ count
  learnt : kept ≡ before + count
  price : member ≡ true → taken ≡ index

made_of : (p : Option NodePart) (before count kept taken index : ℕ) → PartMade p before count kept taken index →
    IsMade (of_part made_of_duty 0 p) count before kept taken index (of_part member_of_duty false p)
made_of None before count kept taken index h = absurd h
made_of (Some part) before count kept taken index h = by_duty part.duty h
  where
    by_duty : (d : Duty) → DutyMade d before count kept taken index → IsMade (made_of_duty d) count before kept taken index (member_of_duty d)
    by_duty (Device device) h = record { all = h.0; learnt = h.1; price = h.2 }
    by_duty (Parent parent) h = absurd h

-- the price that came last
newest_found : (came : List PriceUpdate) (n : ℕ) → n ≡ newest_number (map (λ price. price.index) came) → 1 ≤ n →
    (price : PriceUpdate) × (last_price came ≡ Some price) × (price.index ≡ n)
newest_found [] n is some = absurd (omega (arith, is, some))
newest_found (p ∷ []) n is some = (p, refl, sym is)
newest_found (p ∷ q ∷ rest) n is some = newest_found (q ∷ rest) n is some

module _ (plan : PlanData) (is_plan : IsPlan plan) (parts : List NodePart) (before : List ℕ) (changes : List (Vec Next Global))
    (links : List (Option LinkLog)) (came : ℕ → List PriceUpdate) (settled : AreSettled plan parts before changes links)
    (reads : AreRead plan parts before links came) where
  abbrev lists : Lists
  lists = plan_lists plan

  abbrev c : Carried
  c = carried_of parts before came

  cache_is : (x : ℕ) → IsNode lists x → cache_at c (parent lists x) ≡ cache_of_part (slice_get parts (parent lists x))
  cache_is x node = elim (cases_eq (parent lists x) 0) [
    | inl up ↦
        ap (cache_at c) up ∙ cache_root c ∙ (root_of (slice_get parts 0) settled.index settled.cleared).cache
        ∙ ap (λ (y : ℕ). cache_of_part (slice_get parts y)) (sym up)
    | inr ne ↦
        let law = lawful plan is_plan in
        let y : ℕ = parent lists x in
        let low : 1 ≤ y = omega arith in
        let high : y ≤ length plan.entries = omega (arith, law.earlier x node, node.1, nodes_are plan) in
        cache_inner c y low
        ∙ (sent_of (slice_get parts y) (kept_in plan parts y) ((settled.nodes y low high).sent (sym (is_leaf-is plan y) ∙ law.inner x node))).cache
  ]

  kept_is : (x : ℕ) → IsNode lists x → (entry_head plan c x).number ≡ kept_in plan parts x
  unfolding entry_head
  kept_is x node =
      ap (λ (q : Cache). (child_head q (place_of plan.entries x)).number) (cache_is x node)
      ∙ ap (λ (y : ℕ). (child_head (cache_of_part (slice_get parts y)) (place_of plan.entries x)).number) (parent-is plan x)

  device_is : (d : ℕ) → IsLeaf lists d → IsMade (of_part made_of_duty 0 (slice_get parts d)) (changes_count (slice_get changes d))
      (slice_index_or before d 0) (kept_in plan parts d) (taken_in links d) settled.index (of_part member_of_duty false (slice_get parts d))
  device_is d leaf =
      let node = leaf_node lists (lawful plan is_plan) d leaf in
      made_of (slice_get parts d) (slice_index_or before d 0) (changes_count (slice_get changes d)) (kept_in plan parts d) (taken_in links d) settled.index
      ((settled.nodes d node.0 (omega (arith, node.1, nodes_are plan))).made (sym (is_leaf-is plan d) ∙ leaf))

  -- nodes whose numbers are those of a settled phase are settled
  pub parts_settled : IsSettledOver plan (cut_after before changes) c
  parts_settled =
      let root = root_of (slice_get parts 0) settled.index settled.cleared in
      record {
        made = λ d leaf. ap (λ (n : ℕ). slice_index_or before d 0 + n) (device_is d leaf).all;
        learnt = λ d leaf. kept_is d (leaf_node lists (lawful plan is_plan) d leaf) ∙ (device_is d leaf).learnt;
        sent = λ y conc.
            (sent_of (slice_get parts y) (kept_in plan parts y)
            ((settled.nodes y conc.0 (omega (arith, conc.1, nodes_are plan))).sent (sym (is_leaf-is plan y) ∙ conc.2))).sent;
        taken = λ y conc.
            kept_is y (conc.0, conc.1)
            ∙ (sent_of (slice_get parts y) (kept_in plan parts y)
            ((settled.nodes y conc.0 (omega (arith, conc.1, nodes_are plan))).sent (sym (is_leaf-is plan y) ∙ conc.2))).newest;
        cleared = root.still;
        prices = λ d leaf member.
            let is = device_is d leaf in
            let joined = reads.members d leaf ∙ ap (λ (n : ℕ). is_member plan d (slice_index_or before d 0 + n)) is.all ∙ member in
            let taken = is.price joined in
            let last = newest_found (came d) settled.index (sym taken ∙ reads.taken d leaf) settled.some in
            record { price = last.0; last = last.1; index = last.2 ∙ sym root.index };
      }
