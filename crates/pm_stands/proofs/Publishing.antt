-- A concentrator publishes: the core stands for the state after it.
use Rattle.std.proofs.Common.{◌≡◌, ◌∙◌, sym, ap, subst, ℕ, ◌+◌, ◌<◌, ◌≤◌, true, false, not, cond, eqb, List, [], length, get_or}
use Rattle.std.proofs.Common.{Option, Some, arith, inl, inr}
use Rattle.std.proofs.lemmas.Bool.{cases_eq, cases_Bool, ne_eqb}
use Rattle.std.proofs.lemmas.List.{ext_get_or}
use Rattle.pm_base.specs.Cuts.{Cut}
use Rattle.pm_bid.specs.declared.head.BidHead.{BidHead}
use Rattle.pm_bid.specs.Heads.{nothing_sent}
use Rattle.pm_bid.specs.Bids.{sum_of}
use Rattle.pm_bid.specs.Clearing.{clearing_step}
use Rattle.pm_bid.specs.Limited.{within_limits}
use Rattle.pm_tree.specs.Entries.{children_of, place_of}
use Rattle.pm_market.specs.Lists.{Lists, parent, IsNode, IsConcentrator, Lawful}
use Rattle.pm_market.specs.State.{State, is_same_on, cut_at, newest_number_of, knowledge, number, last_index, clearings, cleared_cut}
use Rattle.pm_market.specs.Moves.{Legal, step}
use Rattle.pm_market.specs.Sound.{Sound}
use Rattle.pm_market.specs.declared.moves.Move.TheVariants.{Publish}
use Rattle.pm_market.proofs.Tree.{leaf_zero}
use Rattle.pm_market.proofs.Cuts.{part_inner, newest_inner}
use Rattle.pm_laws.proofs.Facts.{last_within}
use Rattle.pm_laws.proofs.Kept.{sound_step}
use Rattle.pm_laws.proofs.Numbers.{known_heads}
use Rattle.pm_laws.proofs.Learnt.{is_same_alike}
use Rattle.pm_laws.proofs.Published.{due_within, due_kept, more, list_kept, list_longer, clearings_kept, cut_at_old, cut_at_last, newest_other}
use Rattle.pm_laws.proofs.Published.{newest_more, newest_le, part_old, part_last, known_same, number_published, number_last, number_cleared, cleared_old}
use Rattle.pm_cache.specs.Cache.{Cache, aggregate_of}
use Rattle.pm_session.specs.Links.{Session, UpBid}
use Rattle.pm_session.specs.Ways.{Waits}
use Rattle.pm_session.specs.Prices.{head_at}
use Rattle.pm_session.specs.Windows.{WindowValue, Sent, Keeps, record_of}
use Rattle.pm_concentrator.specs.Limited.{sum_kept}
use Rattle.pm_concentrator.specs.Concentrators.{Gathered, BidMade, Published, published_heads}
use Rattle.pm_plan.specs.Kept.{IsPlan}
use Rattle.pm_plan.specs.Plans.{PlanData}
use Rattle.pm_plan.specs.Market.{plan_lists}
use Rattle.pm_offer.specs.Offers.{offer, children_sum, local_step_at}
use Rattle.pm_stands.specs.Core.{Core, child_at, limits_at, link_at, uplink_of, gathered_at, concentrator_of, node_cache}
use Rattle.pm_stands.specs.Rows.{OneLink, OneConcentrator}
use Rattle.pm_laws.specs.Due.{IsNewestDue}
use Rattle.pm_stands.specs.Stands.{head_for, BidAgrees, StandsFor, MakesMove}
use Rattle.pm_plan.proofs.MarketLists.{lawful}
use Rattle.pm_plan.proofs.MarketLists.{child_node}
use Rattle.pm_stands.proofs.Places.{one_place}
use Rattle.pm_laws.proofs.Gone.{gone_inner}
use Rattle.pm_stands.proofs.Caches.{cache_root, cache_inner}
use Rattle.pm_stands.proofs.Offered.{offer_inner}
use Rattle.pm_stands.proofs.Demands.{demands_are}

-- What a concentrator knows is what it published last exactly where its heads are those of its newest record.
module _ (plan : PlanData) (is_plan : IsPlan plan) (c : Core) (s : State) (stands : StandsFor plan c s) (x : ℕ)
    (conc : IsConcentrator (plan_lists plan) x) where
  head_known : (k : ℕ) → k < length (children_of plan.entries x) → let z = child_at plan x k in
      (IsNode (plan_lists plan) z × (parent (plan_lists plan) z ≡ x)) × (head_at (node_cache c x).heads k ≡ head_for (plan_lists plan) z (s.learnt z))
      × (head_at (published_heads (concentrator_of c x)) k
      ≡ head_for (plan_lists plan) z (number (plan_lists plan) s z (cut_at (s.published x) (length (s.published x)))))
  head_known k lt =
      let at = child_node plan x k lt in
      let z : ℕ = child_at plan x k in
      let conc' : IsConcentrator (plan_lists plan) (parent (plan_lists plan) z) = subst (λ (i : ℕ). IsConcentrator (plan_lists plan) i) (sym at.1) conc in (
        (at.0, at.1),
        ap (λ (i : ℕ). head_at (node_cache c x).heads i) (sym at.2)
            ∙ ap (λ (i : ℕ). head_at (node_cache c i).heads (place_of plan.entries z)) (sym at.1)
            ∙ stands.heads z at.0,
        ap (λ (i : ℕ). head_at (published_heads (concentrator_of c x)) i) (sym at.2)
            ∙ ap (λ (i : ℕ). head_at (published_heads (concentrator_of c i)) (place_of plan.entries z)) (sym at.1) ∙ stands.newest_heads z at.0 conc'
            ∙ ap (λ (i : ℕ). head_for (plan_lists plan) z (number (plan_lists plan) s z (cut_at (s.published i) (length (s.published i))))) at.1,
      )

  -- Where it knows what it published last, its heads are those of its newest record.
  pub same_from_known : is_same_on (plan_lists plan) x (knowledge (plan_lists plan) s x) (cut_at (s.published x) (length (s.published x))) ≡ true →
      (node_cache c x).heads ≡ (published_heads (concentrator_of c x))
  same_from_known e =
      let count = stands.shaped.cache_heads x conc.1 conc.2 in
      ext_get_or nothing_sent (node_cache c x).heads (published_heads (concentrator_of c x)) (count ∙ sym (stands.shaped.published_count x conc)) (λ k lt.
      let w = head_known k (omega arith) in
      let top = (known_heads (plan_lists plan) (lawful plan is_plan) s stands.sound x conc.2).0 e (child_at plan x k) w.0.0 w.0.1 in
      w.1 ∙ ap (head_for (plan_lists plan) (child_at plan x k)) (sym top) ∙ sym w.2)

  -- Where its heads are those of its newest record, it knows what it published last.
  pub known_from_same : (node_cache c x).heads ≡ (published_heads (concentrator_of c x)) →
      is_same_on (plan_lists plan) x (knowledge (plan_lists plan) s x) (cut_at (s.published x) (length (s.published x))) ≡ true
  known_from_same e = (known_heads (plan_lists plan) (lawful plan is_plan) s stands.sound x conc.2).1 (λ z node up.
      let conc' : IsConcentrator (plan_lists plan) (parent (plan_lists plan) z) = subst (λ (i : ℕ). IsConcentrator (plan_lists plan) i) (sym up) conc in
      let learnt = ap (λ (i : ℕ). head_at (node_cache c i).heads (place_of plan.entries z)) (sym up) ∙ stands.heads z node in
      let newest_heads = ap (λ (i : ℕ). head_at (published_heads (concentrator_of c i)) (place_of plan.entries z)) (sym up)
      ∙ stands.newest_heads z node conc'
      ∙ ap (λ (i : ℕ). head_for (plan_lists plan) z (number (plan_lists plan) s z (cut_at (s.published i) (length (s.published i))))) up in
      ap (λ (h : BidHead). h.number) (sym newest_heads ∙ ap (λ hs. head_at hs (place_of plan.entries z)) (sym e) ∙ learnt))

module _ (plan : PlanData) (is_plan : IsPlan plan) (c : Core) (s : State) (stands : StandsFor plan c s) (x : ℕ) (conc : IsConcentrator (plan_lists plan) x)
    (links : List (List Session)) (concentrators : List (Option Gathered)) (n : ℕ)
    (published : Published (concentrator_of c x) (gathered_at concentrators x) (uplink_of plan c x)
    (link_at links (parent (plan_lists plan) x) (place_of plan.entries x)) n)
    (one : OneLink c.links links (parent (plan_lists plan) x) (place_of plan.entries x))
    (alone : OneConcentrator c.concentrators concentrators x) where
  abbrev lists : Lists
  lists = plan_lists plan

  law : Lawful lists
  law = lawful plan is_plan

  abbrev place : ℕ → ℕ
  place y = place_of plan.entries y

  node : IsNode lists x
  node = (conc.0, conc.1)

  made : BidMade (concentrator_of c x) (gathered_at concentrators x) n
  made = published.made

  abbrev after_core : Core
  after_core = record c { links = links; concentrators = concentrators }

  abbrev after_state : State
  after_state = step lists s (Publish x n)

  not_root : x ≡ 0 → ⊥
  not_root e = omega (arith, conc.0)

  the_cache : node_cache c x ≡ (concentrator_of c x).cache
  the_cache = cache_inner c.auctioneer c.concentrators x not_root

  newest_is : newest_number_of lists s x ≡ length (s.published x)
  newest_is = newest_inner lists s.counts s.published x conc.2

  number_is : n ≡ length (s.published x) + 1
  number_is = omega (arith, made.number, stands.window_last x conc, newest_is)

  legal : Legal lists s (Publish x n)
  legal = (
    conc,
    elim (cases_Bool (is_same_on lists x (knowledge lists s x) (cut_at (s.published x) (length (s.published x))))) [
      | inl e ↦ absurd (made.changed (ap (λ (z : Cache). z.heads) (sym the_cache) ∙ same_from_known plan is_plan c s stands x conc e))
      | inr e ↦ ap (λ (a : Cut). is_same_on lists x (knowledge lists s x) a) (part_inner lists s.published x (newest_number_of lists s x) conc.2
          ∙ ap (cut_at (s.published x)) newest_is) ∙ e
    ],
    omega (arith, made.room, stands.window_last x conc, stands.window_answered x conc),
    omega (arith, number_is, newest_is),
  )

  sound' : Sound lists (more lists s x)
  sound' = sound_step lists law s stands.sound (Publish x n) legal

  -- the two sides of the links
  session_kept : (y : ℕ) → IsNode lists y → (y ≡ x → ⊥) → uplink_of plan after_core y ≡ uplink_of plan c y
  session_kept y y_node ne = one.others (parent lists y) (place y) (λ e f. ne (one_place plan is_plan y x y_node node e f))

  session_new : (y : ℕ) → y ≡ x → uplink_of plan after_core y ≡ link_at links (parent lists x) (place x)
  session_new y e = ap (λ (z : ℕ). uplink_of plan after_core z) e

  down_kept : (y : ℕ) → IsNode lists y → (uplink_of plan after_core y).down ≡ (uplink_of plan c y).down
  down_kept y y_node = elim (cases_eq y x) [
    | inl e ↦ ap (λ (z : Session). z.down) (session_new y e) ∙ published.bid.down ∙ ap (λ (z : ℕ). (uplink_of plan c z).down) (sym e)
    | inr ne ↦ ap (λ (z : Session). z.down) (session_kept y y_node ne)
  ]

  -- the caches stay
  cache_kept : (y : ℕ) → node_cache after_core y ≡ node_cache c y
  cache_kept y = elim (cases_eq y 0) [
    | inl z ↦ cache_root c.auctioneer concentrators y z ∙ sym (cache_root c.auctioneer c.concentrators y z)
    | inr nz ↦
        cache_inner c.auctioneer concentrators y nz
        ∙ elim (cases_eq y x) [
          | inl e ↦ ap (λ (i : ℕ). (gathered_at concentrators i).cache) e ∙ made.cache ∙ ap (λ (i : ℕ). (concentrator_of c i).cache) (sym e)
          | inr ne ↦ ap (λ (g : Gathered). g.cache) (alone.others y ne)
        ]
        ∙ sym (cache_inner c.auctioneer c.concentrators y nz)
  ]

  gathered_new : (y : ℕ) → y ≡ x → concentrator_of after_core y ≡ gathered_at concentrators x
  gathered_new y e = ap (gathered_at concentrators) e

  -- the newest record is the new one
  new_heads : published_heads (gathered_at concentrators x) ≡ (concentrator_of c x).cache.heads
  new_heads = ap (λ (i : ℕ). (record_of (gathered_at concentrators x).window i).heads) made.sent.last ∙ ap (λ (r : Sent). r.heads) made.sent.at

  the_sum : aggregate_of (concentrator_of c x).cache ≡ children_sum plan x (knowledge lists s x)
  the_sum =
      ap aggregate_of (sym the_cache) ∙ ap (λ (k : ℕ). sum_of k (node_cache c x).demands) (stands.shaped.cache_steps x conc.1 conc.2)
      ∙ ap (sum_of plan.basis.steps) (demands_are plan is_plan c s stands x conc.1 conc.2)

  new_agrees : (b : UpBid) → b ≡ record {
    number = n;
    gone = false;
    demand = within_limits (concentrator_of c x).limits (aggregate_of (concentrator_of c x).cache);
  } →
      BidAgrees plan after_state x b
  new_agrees b is = let number_b : b.number ≡ n = ap (λ (u : UpBid). u.number) is in record {
    above = omega (arith, number_b, number_is, stands.sound.learnt_within x node, newest_is);
    within = omega (arith, number_b, number_is, newest_is, newest_more lists law s stands.sound x conc.2 sound');
    demand = ap (λ (u : UpBid). u.demand) is ∙ ap (λ l. within_limits l (aggregate_of (concentrator_of c x).cache)) (stands.shaped.same_limits x conc)
        ∙ ap (within_limits (limits_at plan x)) the_sum
        ∙ sym (offer_inner plan is_plan x (knowledge lists s x) conc)
        ∙ ap (offer plan x) (sym (part_last lists law s stands.sound x conc.2 sound' b.number (omega (arith, number_b, number_is, newest_is))));
    gone = ap (λ (u : UpBid). u.gone) is ∙ sym (gone_inner lists x b.number conc.2 ∙ ne_eqb b.number 0 (λ e. omega (arith, number_b, number_is)));
  }

  kept_agrees : (y : ℕ) → (b : UpBid) → BidAgrees plan s y b → BidAgrees plan after_state y b
  kept_agrees y b at = record {
    above = at.above;
    within = omega (arith, at.within, newest_le lists law s stands.sound x conc.2 sound' y);
    demand = at.demand ∙ ap (offer plan y) (sym (part_old lists law s stands.sound x conc.2 sound' y b.number at.within));
    gone = at.gone;
  }

  window_kept : (y : ℕ) → (y ≡ x → ⊥) → (concentrator_of after_core y).window ≡ (concentrator_of c y).window
  window_kept y ne = ap (λ (g : Gathered). g.window) (alone.others y ne)

  cleared_number : (y j : ℕ) → IsNode lists y → j ≤ clearings s → number lists after_state y (cleared_cut after_state j)
      ≡ number lists s y (cleared_cut s j)
  cleared_number y j y_node le = number_cleared lists law s stands.sound x conc.2 sound' y j y_node le

  cleared_is : (j : ℕ) → j ≤ clearings s → cleared_cut after_state j ≡ cleared_cut s j
  cleared_is j le = cleared_old lists law s stands.sound x conc.2 sound' j le

  -- a record of the window of x: one kept before, or the new one
  old_keeps : (k : ℕ) → Keeps (gathered_at concentrators x).window k → (k ≡ n → ⊥) → Keeps (concentrator_of c x).window k
  old_keeps k keeps ne =
      record { one = keeps.one; from = omega (arith, keeps.from, made.sent.answered); to = omega (arith, keeps.to, made.sent.last, made.number) }

  record_kept : (z k : ℕ) → IsNode lists z → IsConcentrator lists (parent lists z) → (k ≤ length (s.published (parent lists z)))
      → head_for lists z (number lists s z (cut_at (s.published (parent lists z)) k))
      ≡ head_for lists z (number lists after_state z (cut_at (after_state.published (parent lists z)) k))
  record_kept z k z_node conc_z le = ap (head_for lists z) (sym (number_published lists law s stands.sound x conc.2 sound' z k z_node le))

  keeps_within : (y k : ℕ) → IsConcentrator lists y → Keeps (concentrator_of c y).window k → k ≤ length (s.published y)
  keeps_within y k conc_y keeps = omega (arith, keeps.to, stands.window_last y conc_y, newest_inner lists s.counts s.published y conc_y.2)

  -- of a child of x
  module _ (z : ℕ) (z_node : IsNode lists z) (up : parent lists z ≡ x) where
    conc_z : IsConcentrator lists (parent lists z)
    conc_z = subst (λ (i : ℕ). IsConcentrator lists i) (sym up) conc

    new_head : head_at (concentrator_of c x).cache.heads (place z) ≡ head_for lists z (s.learnt z)
    new_head = ap (λ (q : Cache). head_at q.heads (place z)) (sym the_cache) ∙ ap (λ (i : ℕ). head_at (node_cache c i).heads (place z)) (sym up)
        ∙ stands.heads z z_node

    new_number : (k : ℕ) → k ≡ n → s.learnt z ≡ number lists after_state z (cut_at (after_state.published (parent lists z)) k)
    new_number k e = sym (ap (λ (i : ℕ). number lists after_state z (cut_at (after_state.published i) k)) up
        ∙ number_last lists law s stands.sound x conc.2 sound' z k z_node up (omega (arith, e, number_is)))

    child_record : (k : ℕ) → Keeps (concentrator_of after_core (parent lists z)).window k
        → head_at (record_of (concentrator_of after_core (parent lists z)).window k).heads (place z)
        ≡ head_for lists z (number lists after_state z (cut_at (after_state.published (parent lists z)) k))
    child_record k keeps =
        let w = gathered_new (parent lists z) up in
        let keeps' : Keeps (gathered_at concentrators x).window k = subst (λ (g : Gathered). Keeps g.window k) w keeps in
        ap (λ (g : Gathered). head_at (record_of g.window k).heads (place z)) w
        ∙ elim (cases_eq k n) [
          | inl e ↦
              ap (λ (i : ℕ). head_at (record_of (gathered_at concentrators x).window i).heads (place z)) e
              ∙ ap (λ r. head_at r.heads (place z)) made.sent.at ∙ new_head ∙ ap (head_for lists z) (new_number k e)
          | inr ne ↦
              let was = old_keeps k keeps' ne in
              let was' : Keeps (concentrator_of c (parent lists z)).window k = subst (λ (i : ℕ). Keeps (concentrator_of c i).window k) (sym up) was in
              ap (λ r. head_at r.heads (place z)) (made.sent.others k was)
              ∙ ap (λ (i : ℕ). head_at (record_of (concentrator_of c i).window k).heads (place z)) (sym up)
              ∙ stands.records z k z_node conc_z was' ∙ record_kept z k z_node conc_z (keeps_within (parent lists z) k conc_z was')
        ]

  sum_entry : (y k : ℕ) → k ≤ length (s.published y) →
      sum_kept (limits_at plan y) (children_sum plan y (cut_at (s.published y) k))
      ≡ sum_kept (limits_at plan y) (children_sum plan y (cut_at (after_state.published y) k))
  sum_entry y k le = ap (λ (a : Cut). sum_kept (limits_at plan y) (children_sum plan y a)) (sym (cut_at_old lists law s stands.sound x conc.2 sound' y k le))

  stands_after : StandsFor plan after_core after_state
  stands_after = record {
    sound = sound';
    shaped = record {
      all_links = one.all ∙ stands.shaped.all_links;
      all_concentrators = alone.all ∙ stands.shaped.all_concentrators;
      all_ports = stands.shaped.all_ports;
      all_counts = stands.shaped.all_counts;
      all_states = stands.shaped.all_states;
      all_powers = stands.shaped.all_powers;
      rows = λ y le. one.rows y ∙ stands.shaped.rows y le;
      link_steps = λ y y_node. elim (cases_eq y x) [
        | inl e ↦ ap (λ (z : Session). z.steps) (session_new y e) ∙ published.bid.steps ∙ stands.shaped.link_steps x node
        | inr ne ↦ ap (λ (z : Session). z.steps) (session_kept y y_node ne) ∙ stands.shaped.link_steps y y_node
      ];
      there = λ y conc_y. alone.there y (stands.shaped.there y conc_y);
      cache_steps = λ y le inner. ap (λ (q : Cache). q.steps) (cache_kept y) ∙ stands.shaped.cache_steps y le inner;
      cache_heads = λ y le inner. ap (λ (q : Cache). length q.heads) (cache_kept y) ∙ stands.shaped.cache_heads y le inner;
      cache_demands = λ y le inner. ap (λ (q : Cache). length q.demands) (cache_kept y) ∙ stands.shaped.cache_demands y le inner;
      published_count = λ y conc_y. elim (cases_eq y x) [
        | inl e ↦
            ap (λ (g : Gathered). length (published_heads g)) (gathered_new y e) ∙ ap length new_heads
            ∙ ap (λ (q : Cache). length q.heads) (sym the_cache)
            ∙ stands.shaped.cache_heads x conc.1 conc.2 ∙ ap (λ (i : ℕ). length (children_of plan.entries i)) (sym e)
        | inr ne ↦ ap (λ (g : Gathered). length (published_heads g)) (alone.others y ne) ∙ stands.shaped.published_count y conc_y
      ];
      same_limits = λ y conc_y. elim (cases_eq y x) [
        | inl e ↦ ap (λ (g : Gathered). g.limits) (gathered_new y e) ∙ made.limits ∙ stands.shaped.same_limits x conc ∙ ap (limits_at plan) (sym e)
        | inr ne ↦ ap (λ (g : Gathered). g.limits) (alone.others y ne) ∙ stands.shaped.same_limits y conc_y
      ];
    };
    counts = stands.counts;
    closed = stands.closed;
    states = stands.states;
    powers = stands.powers;
    heads = λ y y_node. ap (λ (q : Cache). head_at q.heads (place y)) (cache_kept (parent lists y)) ∙ stands.heads y y_node;
    demands = λ y y_node.
        ap (λ (q : Cache). get_or q.demands (place y) []) (cache_kept (parent lists y)) ∙ stands.demands y y_node
        ∙ ap (offer plan y) (sym (part_old lists law s stands.sound x conc.2 sound' y (s.learnt y) (stands.sound.learnt_within y y_node)));
    bid_offered = λ y y_node. elim (cases_eq y x) [
      | inl e ↦
          ap (λ (z : Session). z.up.offered) (session_new y e) ∙ published.bid.up.offered
          ∙ omega (arith, number_is, newest_is, ap (newest_number_of lists after_state) e, newest_more lists law s stands.sound x conc.2 sound')
      | inr ne ↦ ap (λ (z : Session). z.up.offered) (session_kept y y_node ne) ∙ stands.bid_offered y y_node
          ∙ sym (newest_other lists law s stands.sound x conc.2 sound' y ne)
    ];
    bid_taken = λ y y_node. elim (cases_eq y x) [
      | inl e ↦ ap (λ (z : Session). z.up.taken) (session_new y e) ∙ published.bid.up.taken ∙ stands.bid_taken x node ∙ ap s.learnt (sym e)
      | inr ne ↦ ap (λ (z : Session). z.up.taken) (session_kept y y_node ne) ∙ stands.bid_taken y y_node
    ];
    bids = λ y y_node b waits. elim (cases_eq y x) [
      | inl e ↦
          let waits' : Waits (link_at links (parent lists x) (place x)).up b = sym (ap (λ (z : Session). z.up.waiting) (session_new y e)) ∙ waits in
          let at : BidAgrees plan after_state x b = elim (published.bid.up.others b waits') [
            | inl is ↦ new_agrees b is
            | inr old ↦ kept_agrees x b (stands.bids x node b old)
          ] in
          subst (λ (i : ℕ). BidAgrees plan after_state i b) (sym e) at
      | inr ne ↦ kept_agrees y b (stands.bids y y_node b (sym (ap (λ (z : Session). z.up.waiting) (session_kept y y_node ne)) ∙ waits))
    ];
    price_offered = λ y y_node.
        let at = subst (λ (k : ℕ). IsNewestDue lists s y k) (sym (ap (λ d. d.offered) (down_kept y y_node))) (stands.price_offered y y_node) in
        record { due = λ positive. due_kept lists s x conc.0 y _ ∙ at.due positive; most = λ i h. at.most i (sym (due_kept lists s x conc.0 y i) ∙ h) };
    price_taken = λ y y_node. ap (λ d. d.taken) (down_kept y y_node) ∙ stands.price_taken y y_node;
    prices = λ y y_node price waits.
        let at = stands.prices y y_node price (sym (ap (λ d. d.waiting) (down_kept y y_node)) ∙ waits) in
        let le = (due_within lists s stands.sound y price.index at.due).1 in
        record {
          above = at.above;
          due = due_kept lists s x conc.0 y price.index ∙ at.due;
          step = at.step ∙ ap (λ (a : Cut). local_step_at plan a y) (sym (cleared_is price.index le));
          number = at.number ∙ sym (cleared_number y price.index y_node le);
        };
    window_last = λ y conc_y. elim (cases_eq y x) [
      | inl e ↦
          ap (λ (g : Gathered). g.window.last) (gathered_new y e) ∙ made.sent.last
          ∙ omega (arith, number_is, newest_is, ap (newest_number_of lists after_state) e, newest_more lists law s stands.sound x conc.2 sound')
      | inr ne ↦ ap (λ (w : WindowValue). w.last) (window_kept y ne) ∙ stands.window_last y conc_y
          ∙ sym (newest_other lists law s stands.sound x conc.2 sound' y ne)
    ];
    window_answered = λ y conc_y.
        let same = sym (cleared_number y (last_index s y) (conc_y.0, conc_y.1) (last_within lists s stands.sound y)) in
        elim (cases_eq y x) [
          | inl e ↦ ap (λ (g : Gathered). g.window.answered) (gathered_new y e) ∙ made.sent.answered
              ∙ ap (λ (i : ℕ). (concentrator_of c i).window.answered) (sym e) ∙ stands.window_answered y conc_y ∙ same
          | inr ne ↦ ap (λ (w : WindowValue). w.answered) (window_kept y ne) ∙ stands.window_answered y conc_y ∙ same
        ];
    records = λ z k z_node conc_z keeps. elim (cases_eq (parent lists z) x) [
      | inl up ↦ child_record z z_node up k keeps
      | inr ne ↦
          let w = window_kept (parent lists z) ne in
          let was = subst (λ (q : WindowValue). Keeps q k) w keeps in
          ap (λ (q : WindowValue). head_at (record_of q k).heads (place z)) w ∙ stands.records z k z_node conc_z was
          ∙ record_kept z k z_node conc_z (keeps_within (parent lists z) k conc_z was)
    ];
    sums = λ y k conc_y keeps. elim (cases_eq y x) [
      | inl e ↦
          let w = gathered_new y e in
          let keeps' : Keeps (gathered_at concentrators x).window k = subst (λ (g : Gathered). Keeps g.window k) w keeps in
          ap (λ (g : Gathered). (record_of g.window k).sum) w
          ∙ elim (cases_eq k n) [
            | inl is ↦
                ap (λ (i : ℕ). (record_of (gathered_at concentrators x).window i).sum) is ∙ ap (λ r. r.sum) made.sent.at
                ∙ ap (λ l. sum_kept l (aggregate_of (concentrator_of c x).cache)) (stands.shaped.same_limits x conc)
                ∙ ap (sum_kept (limits_at plan x)) the_sum
                ∙ ap (λ (a : Cut). sum_kept (limits_at plan x) (children_sum plan x a))
                (sym (cut_at_last lists law s stands.sound x conc.2 sound' k (omega (arith, is, number_is))))
            | inr ne ↦
                let was = old_keeps k keeps' ne in
                ap (λ r. r.sum) (made.sent.others k was) ∙ stands.sums x k conc was ∙ sum_entry x k (keeps_within x k conc was)
          ]
          ∙ ap (λ (i : ℕ). sum_kept (limits_at plan i) (children_sum plan i (cut_at (after_state.published i) k))) (sym e)
      | inr ne ↦
          let was = subst (λ (q : WindowValue). Keeps q k) (window_kept y ne) keeps in
          ap (λ (q : WindowValue). (record_of q k).sum) (window_kept y ne) ∙ stands.sums y k conc_y was ∙ sum_entry y k (keeps_within y k conc_y was)
    ];
    newest_heads = λ z z_node conc_z. elim (cases_eq (parent lists z) x) [
      | inl up ↦
          ap (λ (g : Gathered). head_at (published_heads g) (place z)) (gathered_new (parent lists z) up) ∙ ap (λ hs. head_at hs (place z)) new_heads
          ∙ new_head z z_node up
          ∙ ap (head_for lists z) (new_number z z_node up (length (after_state.published (parent lists z)))
          (omega (arith, number_is, ap (λ (i : ℕ). length (after_state.published i)) up, list_longer lists law s stands.sound x conc.2 sound')))
      | inr ne ↦
          let same : after_state.published (parent lists z) ≡ s.published (parent lists z) =
          list_kept lists law s stands.sound x conc.2 sound' (parent lists z) ne in
          ap (λ (g : Gathered). head_at (published_heads g) (place z)) (alone.others (parent lists z) ne) ∙ stands.newest_heads z z_node conc_z
          ∙ record_kept z (length (s.published (parent lists z))) z_node conc_z (omega arith)
          ∙ ap (λ (l : List Cut). head_for lists z (number lists after_state z (cut_at (after_state.published (parent lists z)) (length l)))) (sym same)
    ];
    index = stands.index ∙ ap length (clearings_kept lists s x conc.0);
    auction_step = stands.auction_step
        ∙ ap (λ (l : List Cut). cond (eqb (length l) 0) 0 (clearing_step (children_sum plan 0 (cut_at l (length l))))) (clearings_kept lists s x conc.0);
    changed = stands.changed ∙ ap (λ (l : List Cut). not (is_same_on lists 0 (knowledge lists s 0) (cut_at l (length l)))) (clearings_kept lists s x conc.0)
        ∙ ap not (is_same_alike lists law 0 (knowledge lists s 0) (knowledge lists after_state 0) (cleared_cut after_state (clearings after_state))
        (known_same lists law s stands.sound x conc.2 sound' 0 (leaf_zero lists)));
    joined = stands.joined;
    given_none = stands.given_none;
    given = λ d leaf positive. stands.given d leaf positive
        ∙ ap (λ (a : Cut). Some (record {
          step = local_step_at plan a d;
          number = a d;
          index =
              last_index s d;
        })) (sym (cleared_is (last_index s d) (last_within lists s stands.sound d)));
  }

  -- The Publish under the next number was legal, and the core stands for the state after it.
  pub publish_makes : MakesMove plan after_core s (Publish x n)
  publish_makes = record { legal = legal; stands = stands_after }
