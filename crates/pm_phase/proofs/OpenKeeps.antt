-- What a node is while it is handed its ends of the new links.
use Rattle.std.proofs.Common.{◌≡◌, ◌∙◌, sym, ap, subst, ℕ, ◌+◌, ◌⊎◌, List, [], ◌∷◌, ◌++◌, length}
use Rattle.std.proofs.Common.{get_or, Option, Some, None, refl, arith, inl, inr, Contains}
use Rattle.std.specs.Prelude.{IfSome, IfOk, Result, Ok, Err}
use Rattle.std.proofs.lemmas.Bool.{cases_lt}
use Rattle.std.proofs.lemmas.List.{length-append, get_or_push, get_or_append_left}
use Rattle.std.proofs.lemmas.List.Elements.{Contains-push, Contains-push_cases}
use Rattle.pm_cells.specs.Ends.{LinkEnd}
use Rattle.pm_cells.specs.declared.message.UpMessage.{UpMessage}
use Rattle.pm_cells.specs.declared.message.Message.{Message}
use Rattle.pm_cells.specs.declared.message.Message.TheVariants.{Bid}
use Rattle.pm_plan.specs.Plans.{PlanData}
use Rattle.pm_plan.specs.Plans as plans
use Rattle.pm_tree.specs.Entries.{place_of}
use Rattle.pm_phase.specs.Matchers.{waiting_at}
use Rattle.pm_phase.specs.Opening.{PutsAgain}
use Rattle.pm_phase.specs.TellingParents.{bids_among}
use Rattle.pm_phase.specs.Waiting.{TakesBidFromLink, KeepsBid, DropsBid}
use Rattle.pm_phase.specs.KeepingParents.{IsDownHere, learnt_at}
use Rattle.pm_phase.specs.Standing.{learnt_of}
use Rattle.pm_phase.specs.Beginning.{StartsFrom, BegunDuty, OpenedDuty, OpenUp, OpenDown, IsOpenedNode, IsFreshUp, IsFreshDown, LearntAgain}
use Rattle.pm_phase.specs.declared.ends.UpEnd.{UpEnd}
use Rattle.pm_phase.specs.declared.ends.DownEnd.{DownEnd}
use Rattle.pm_phase.specs.declared.node.Duty.{Duty}
use Rattle.pm_phase.specs.declared.node.Duty.TheVariants.{Device, Parent}
use Rattle.pm_phase.specs.declared.node.FreeNode.{FreeNode}
use Rattle.pm_phase.specs.declared.node.NodePart.{NodePart}
use Rattle.pm_phase.specs.declared.parent.ParentPart.{ParentPart}
use Rattle.pm_phase.proofs.Heard.{bids_push}

-- ---- the bid that is put again

taken_sent : (down down' : LinkEnd) (has : Option UpMessage) → TakesBidFromLink down down' has → down'.known.down.sent ≡ down.known.down.sent
taken_sent down down' (Some bid) t = ap (λ (e : LinkEnd). e.known.down.sent) t
taken_sent down down' None (inl t) = ap (λ (e : LinkEnd). e.known.down.sent) t.1
taken_sent down down' None (inr (inl t)) = ap (λ (e : LinkEnd). e.known.down.sent) t
taken_sent down down' None (inr (inr t)) = ap (λ (e : LinkEnd). e.known.down.sent) t

again_sent : (up up' down down' : LinkEnd) (old has : Option UpMessage) → PutsAgain up up' down down' old has →
    down'.known.down.sent ≡ down.known.down.sent
again_sent up up' down down' None has p = ap (λ (e : LinkEnd). e.known.down.sent) p.1
again_sent up up' down down' (Some bid) has (inl p) = taken_sent down down' has p.taken
again_sent up up' down down' (Some bid) has (inr p) = ap (λ (e : LinkEnd). e.known.down.sent) p.same

-- the other end's prices are as they were
again_down : (up up' down down' : LinkEnd) (old has : Option UpMessage) → PutsAgain up up' down down' old has → up'.known.down ≡ up.known.down
again_down up up' down down' None has p = ap (λ (e : LinkEnd). e.known.down) p.0
again_down up up' down down' (Some bid) has (inl p) = ap (λ (e : LinkEnd). e.known.down) p.put.put
again_down up up' down down' (Some bid) has (inr p) = by p.why
  where
    by : KeepsBid up up' bid has ⊎ DropsBid up up' bid has → up'.known.down ≡ up.known.down
    by (inl k) = ap (λ (e : LinkEnd). e.known.down) k.lost
    by (inr k) = ap (λ (e : LinkEnd). e.known.down) k.same

again_learnt : (up up' down down' : LinkEnd) (old has : Option UpMessage) → PutsAgain up up' down down' old has → (bid : UpMessage) → has ≡ Some bid →
    (old ≡ Some bid) ⊎ Contains (bids_among down'.known.up.received) bid
again_learnt up up' down down' None has p bid is = absurd (cc (sym p.2 ∙ is))
again_learnt up up' down down' (Some b) has (inl p) bid is =
    let taken = subst (TakesBidFromLink down down') is p.taken in
    inr (subst (λ bs. Contains bs bid)
    (sym (ap (λ (e : LinkEnd). bids_among e.known.up.received) taken ∙ bids_push down.known.up.received bid))
    (Contains-push (bids_among down.known.up.received) bid))
again_learnt up up' down down' (Some b) has (inr p) bid is = by p.why
  where
    by : KeepsBid up up' b has ⊎ DropsBid up up' b has → (Some b ≡ Some bid) ⊎ Contains (bids_among down'.known.up.received) bid
    by (inl k) = inl (sym k.waits ∙ is)
    by (inr k) = absurd (cc (sym k.none ∙ is))

-- what was put: nothing but the bid
again_put : (up up' down down' : LinkEnd) (old has : Option UpMessage) → PutsAgain up up' down down' old has → up.known.up.sent ≡ [] →
    (message : Message) → Contains up'.known.up.sent message → (bid : UpMessage) × (message ≡ Bid bid) × (old ≡ Some bid)
again_put up up' down down' old has p none message at = by old p
  where
    nothing : up'.known.up.sent ≡ [] → (A : Type 0) → A
    nothing e A = absurd (let lt = (subst (λ ms. Contains ms message) e at).1 in omega (arith, lt))

    by : (o : Option UpMessage) → PutsAgain up up' down down' o has → (bid : UpMessage) × (message ≡ Bid bid) × (o ≡ Some bid)
    by None q = nothing (ap (λ (e : LinkEnd). e.known.up.sent) q.0 ∙ none) _
    by (Some bid) (inl q) =
        let sent = ap (λ (e : LinkEnd). e.known.up.sent) q.put.put ∙ ap (λ (ms : List Message). ms ++ Bid bid ∷ []) none in
        let only = Contains-push_cases [] (Bid bid) message (subst (λ ms. Contains ms message) sent at) in
        elim only [
          | inl past ↦ absurd (let lt = past.1 in omega (arith, lt))
          | inr is ↦ (bid, sym is, refl)
        ]
    by (Some bid) (inr q) = lost q.why
      where
        lost : KeepsBid up up' bid has ⊎ DropsBid up up' bid has → (b : UpMessage) × (message ≡ Bid b) × (Some bid ≡ Some b)
        lost (inl k) = nothing (ap (λ (e : LinkEnd). e.known.up.sent) k.lost ∙ none) _
        lost (inr k) = nothing (ap (λ (e : LinkEnd). e.known.up.sent) k.same ∙ none) _

-- ---- ends are handed out

begun_opened : (old new : Duty) → BegunDuty old new → OpenedDuty old new
begun_opened (Device old) (Device new) b = b
begun_opened (Device old) (Parent new) b = b
begun_opened (Parent old) (Device new) b = b
begun_opened (Parent old) (Parent new) b = record { matcher = b.matcher; waiting = b.waiting; pending = b.pending; prices = b.prices }

begun_learnt : (old new : Duty) → BegunDuty old new → learnt_of new ≡ learnt_of old
begun_learnt (Device old) (Device new) b = refl
begun_learnt (Device old) (Parent new) b = absurd b
begun_learnt (Parent old) (Device new) b = absurd b
begun_learnt (Parent old) (Parent new) b = ap (λ ls. ls.items) b.learnt

-- a node without ends
pub starts_opened : (plan : PlanData) (parts : List NodePart) (node : FreeNode) → StartsFrom parts node → IsOpenedNode plan parts node
starts_opened plan parts node starts = record {
  part = starts.part;
  has = starts.has;
  number = starts.number;
  begun = begun_opened starts.part.duty node.part.duty starts.begun;
  up = subst (λ u. IfSome u (OpenUp plan parts node.part.number)) (sym starts.no_up) tt;
  rest = λ k past. ap (λ ls. learnt_at ls k) (begun_learnt starts.part.duty node.part.duty starts.begun);
  downs = λ k d inside. absurd (omega (arith, inside, ap (λ (ds : List DownEnd). length ds) starts.no_downs));
}

-- a new upper end
pub fresh_opened : (plan : PlanData) (parts : List NodePart) (x : ℕ) (up : UpEnd) → up.at + 1 ≡ x → IsFreshUp up → OpenUp plan parts x up
fresh_opened plan parts x up at fresh = record {
  stands = at;
  received = fresh.received;
  takes = fresh.takes;
  sent = λ message has. absurd (let lt = (subst (λ ms. Contains ms message) fresh.sent has).1 in omega (arith, lt));
}

-- a node is handed the end of the link to its next child
module _ (plan : PlanData) (parts : List NodePart) (x place : ℕ) (node node' : FreeNode) (parent parent' : ParentPart) (up up' : UpEnd) (down down' : DownEnd)
    (was : node.part.duty ≡ Parent parent) (now : node'.part.duty ≡ Parent parent') (number : node'.part.number ≡ node.part.number)
    (same_up : node'.up ≡ node.up) (more : node'.downs.items ≡ node.downs.items ++ down' ∷ []) (here : place ≡ length node.downs.items)
    (above : node.part.number ≡ plans.parent plan x) (stands : place ≡ place_of plan.entries x)
    (up_at : up'.at ≡ up.at) (down_at : down'.at ≡ down.at) (at : up.at + 1 ≡ x) (at' : down.at + 1 ≡ x) (fresh : IsFreshUp up)
    (fresh' : IsFreshDown down)
    (learns : LearntAgain place up.end up'.end down.end down'.end parent parent') (is : IsOpenedNode plan parts node) where
  begun_more : (duty : Duty) → OpenedDuty duty (Parent parent) → OpenedDuty duty (Parent parent')
  begun_more (Device old) b = b
  begun_more (Parent old) b = record {
    matcher = learns.matcher ∙ b.matcher;
    waiting = learns.waiting ∙ b.waiting;
    pending = learns.pending ∙ b.pending;
    prices = λ k. ap (λ ps. waiting_at ps.items k) learns.prices ∙ b.prices k;
  }

  had : learnt_at parent.learnt.items place ≡ learnt_at (learnt_of is.part.duty) place
  had = sym (ap (λ duty. learnt_at (learnt_of duty) place) was) ∙ is.rest place (omega (arith, here))

  long : length node'.downs.items ≡ length node.downs.items + 1
  long = ap (λ (ds : List DownEnd). length ds) more ∙ length-append node.downs.items (down' ∷ [])

  learnt_other : (k : ℕ) → (k ≡ place → ⊥) → learnt_at (learnt_of node'.part.duty) k ≡ learnt_at (learnt_of node.part.duty) k
  learnt_other k ne =
      ap (λ duty. learnt_at (learnt_of duty) k) now ∙ learns.others k ne ∙ sym (ap (λ duty. learnt_at (learnt_of duty) k) was)

  here_down : OpenDown plan node'.part.number (learnt_of is.part.duty) (learnt_of node'.part.duty) place down'
  here_down = record {
    link = subst (λ (n : ℕ). IsDownHere plan node'.part.number place n) (sym down_at)
        (ap (plans.parent plan) at' ∙ sym above ∙ sym number, ap (place_of plan.entries) at' ∙ sym stands);
    sent = again_sent up.end up'.end down.end down'.end _ _ learns.again ∙ fresh'.sent;
    learnt =
        λ bid e. by bid (again_learnt up.end up'.end down.end down'.end _ _ learns.again bid (sym (ap (λ duty. learnt_at (learnt_of duty) place) now) ∙ e));
  }
    where
      by : (bid : UpMessage) → (learnt_at parent.learnt.items place ≡ Some bid) ⊎ Contains (bids_among down'.end.known.up.received) bid →
          (learnt_at (learnt_of is.part.duty) place ≡ Some bid) ⊎ Contains (bids_among down'.end.known.up.received) bid
      by bid (inl e) = inl (sym had ∙ e)
      by bid (inr h) = inr h

  -- a node was handed its end of the link to a child
  pub down_opened : IsOpenedNode plan parts node'
  down_opened = record {
    part = is.part;
    has = is.has;
    number = number ∙ is.number;
    begun = subst (OpenedDuty is.part.duty) (sym now) (begun_more is.part.duty (subst (OpenedDuty is.part.duty) was is.begun));
    up = subst (λ (t : Option UpEnd × ℕ). IfSome t.0 (OpenUp plan parts t.1)) (λ i. (sym same_up i, sym number i)) is.up;
    rest = λ k past. learnt_other k (λ e. omega (arith, e, past, long, here)) ∙ is.rest k (omega (arith, past, long));
    downs = λ k d inside. elim (cases_lt k (length node.downs.items)) [
      | inl before ↦
          let old = is.downs k d before in
          subst (OpenDown plan node'.part.number (learnt_of is.part.duty) (learnt_of node'.part.duty) k)
          (sym (ap (λ ds. get_or ds k d) more ∙ get_or_append_left node.downs.items (down' ∷ []) d k before)) (record {
            link = subst (λ (y : ℕ). IsDownHere plan y k (get_or node.downs.items k d).at) (sym number) old.link;
            sent = old.sent;
            learnt = λ bid e. old.learnt bid (sym (learnt_other k (λ same. omega (arith, same, before, here))) ∙ e);
          })
      | inr past ↦
          let last : length node.downs.items ≡ k = omega (arith, inside, past, long) in
          subst (OpenDown plan node'.part.number (learnt_of is.part.duty) (learnt_of node'.part.duty) k)
          (sym (ap (λ ds. get_or ds k d) more ∙ get_or_push node.downs.items down' d k last))
          (subst (λ (j : ℕ). OpenDown plan node'.part.number (learnt_of is.part.duty) (learnt_of node'.part.duty) j down') (here ∙ last) here_down)
    ];
  }

  -- a node was handed its end of the link to its parent
  pub up_opened : OpenUp plan parts x up'
  up_opened = record {
    stands = ap (λ n. n + 1) up_at ∙ at;
    received = ap (λ v. v.received) (again_down up.end up'.end down.end down'.end _ _ learns.again) ∙ fresh.received;
    takes = ap (λ v. v.takes) (again_down up.end up'.end down.end down'.end _ _ learns.again) ∙ fresh.takes;
    sent = λ message has.
        let put = again_put up.end up'.end down.end down'.end _ _ learns.again fresh.sent message has in (
          put.0,
          put.1,
          record {
            above = is.part;
            has = is.has;
            number = sym is.number ∙ above;
            learnt = ap (learnt_at (learnt_of is.part.duty)) (sym stands) ∙ sym had ∙ put.2;
          },
        );
  }

  -- both ends of a link were made ready, and one of them handed out
  pub both_opened : IsOpenedNode plan parts node' × OpenUp plan parts x up'
  both_opened = (down_opened, up_opened)

-- what follows from the first of two facts of a success
pub ok_then : {X E : Type 0} (A B C : Type 0) (result : Result X E) → IfOk result (λ x. A × B) → (A → C) → IfOk result (λ x. C × B)
ok_then A B C (Ok x) h f = (f h.0, h.1)
ok_then A B C (Err e) h f = tt

-- a node is handed the end of the link to its parent
pub with_up : (plan : PlanData) (parts : List NodePart) (node : FreeNode) (up : UpEnd) → IsOpenedNode plan parts node →
    OpenUp plan parts node.part.number up →
    IsOpenedNode plan parts (record node { up = Some up })
with_up plan parts node up is opens = record {
  part = is.part;
  has = is.has;
  number = is.number;
  begun = is.begun;
  up = opens;
  rest = is.rest;
  downs = is.downs;
}
