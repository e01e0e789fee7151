-- A node that was handed its ends keeps what a node keeps, where its part stands as between two phases.
use Rattle.std.proofs.Common.{◌≡◌, ◌∙◌, sym, ap, subst, ℕ, ◌+◌, ◌<◌, List, [], length, get_or}
use Rattle.std.proofs.Common.{Option, Some, None, arith, inl, Contains}
use Rattle.std.specs.Prelude.{All, IfSome, Vec, slice_get}
use Rattle.std.specs.declared.alloc.Global.{Global}
use Rattle.std.proofs.lemmas.List.Elements.{Contains-get_or}
use Rattle.std.specs.Prelude.{map}
use Rattle.pm_carried.specs.Carried.{last_price}
use Rattle.pm_cache.specs.Cache.{child_head, child_demand}
use Rattle.pm_cells.specs.Ends.{LinkEnd}
use Rattle.pm_cells.specs.declared.message.UpMessage.{UpMessage}
use Rattle.pm_cells.specs.declared.message.Message.{Message}
use Rattle.pm_cells.specs.declared.message.Message.TheVariants.{Bid}
use Rattle.pm_device.specs.declared.state.Next.{Next}
use Rattle.pm_plan.specs.Plans.{PlanData, is_member}
use Rattle.pm_session.specs.declared.price.PriceUpdate.{PriceUpdate}
use Rattle.pm_phase.specs.Messages.{prices_among}
use Rattle.pm_phase.specs.Matchers.{cache_of_matcher}
use Rattle.pm_phase.specs.SettledParts.{cache_of_duty}
use Rattle.pm_phase.specs.Telling.{AreNext, TellsChange, TellsMessage, KeepsDevice, DutyKeeps, NodeKeeps}
use Rattle.pm_phase.specs.KeepingParents.{IsUpHere, OverEnd, came_over, sent_over, TellsBid, TellsBidMessage, TellsPrice, IsShapedMatcher, TellsOwn}
use Rattle.pm_phase.specs.KeepingParents.{KeepsParent}
use Rattle.pm_phase.specs.Beginning.{OpenedDuty, OpenedParent, OpenUp, OpenDown, IsOpenedNode}
use Rattle.pm_phase.specs.Standing.{DeviceStands, ParentStands, learnt_of, HadBid, StandsBefore}
use Rattle.pm_phase.specs.Running.{HasRun}
use Rattle.pm_phase.specs.declared.device.DevicePart.{DevicePart}
use Rattle.pm_phase.specs.declared.ends.UpEnd.{UpEnd}
use Rattle.pm_phase.specs.declared.ends.DownEnd.{DownEnd}
use Rattle.pm_phase.specs.declared.matcher.Matcher.{Matcher}
use Rattle.pm_phase.specs.declared.node.Duty.{Duty}
use Rattle.pm_phase.specs.declared.node.Duty.TheVariants.{Device, Parent}
use Rattle.pm_phase.specs.declared.node.FreeNode.{FreeNode}
use Rattle.pm_phase.specs.declared.node.NodePart.{NodePart}
use Rattle.pm_phase.specs.declared.parent.ParentPart.{ParentPart}
use Rattle.pm_phase.specs.declared.phase.PhaseRun.{PhaseRun}

module _ (plan : PlanData) (parts : List NodePart) (x before : ℕ) where
  none_made : before + 0 ≡ before
  none_made = omega arith

  device_keeps : (device : DevicePart) → DeviceStands plan x before device → (end : LinkEnd) → All (TellsMessage plan x) end.known.up.sent →
      end.known.down.received ≡ [] → end.known.down.takes ≡ [] → KeepsDevice plan x before (record device { made = 0 }) end
  device_keeps device stands end sent received takes = record {
    agent = stands.agent;
    member = stands.member ∙ ap (is_member plan x) (sym none_made);
    joined = λ is. let j = stands.joined is in (j.0, j.1, omega (arith, j.2));
    left = stands.left;
    waits = stands.waits;
    sent = sent;
    given = λ price last inside. absurd (let none = sym (ap (λ ms. newest_in ms) received) ∙ last in cc none);
    takes = takes ∙ sym (ap (λ ms. indices_in ms) received);
  }
    where
      newest_in : List Message → Option PriceUpdate
      newest_in ms = last_price (prices_among ms)

      indices_in : List Message → List ℕ
      indices_in ms = map (λ (p : PriceUpdate). p.index) (prices_among ms)

  sent_told : (told : UpMessage → Type 0) (T : Message → Type 0) → ((bid : UpMessage) → told bid → T (Bid bid)) →
      ((bid : UpMessage) → HadBid plan parts x bid → told bid) →
      (up : UpEnd) → OpenUp plan parts x up → All T up.end.known.up.sent
  sent_told told T tells had up opens k d lt =
      let at = opens.sent (get_or up.end.known.up.sent k d) (Contains-get_or up.end.known.up.sent k d lt) in
      subst T (sym at.1) (tells at.0 (had at.0 at.2))

  device_over : (device : DevicePart) → DeviceStands plan x before device → ((bid : UpMessage) → HadBid plan parts x bid → TellsChange plan x bid) →
      (up : Option UpEnd) → IfSome up (OpenUp plan parts x) → OverEnd (KeepsDevice plan x before (record device { made = 0 })) up
  device_over device stands told None opens = λ end sent received takes.
      device_keeps device stands end (subst (All (TellsMessage plan x)) (sym sent) (λ k d lt. absurd (omega (arith, lt)))) received takes
  device_over device stands told (Some up) opens =
      device_keeps device stands up.end (sent_told (TellsChange plan x) (TellsMessage plan x) (λ bid t. t) told up opens) opens.received opens.takes

  parent_keeps : (own : List Message) (old new : ParentPart) → OpenedParent old new → ParentStands plan x old → All (TellsBidMessage old.matcher) own →
      ((bid : UpMessage) → HadBid plan parts x bid → TellsBid old.matcher bid) → (up : Option UpEnd) → IfSome up (OpenUp plan parts x) →
      (downs : List DownEnd) →
      ((k : ℕ) (d : DownEnd) → k < length downs → OpenDown plan x old.learnt.items new.learnt.items k (get_or downs k d)) →
      KeepsParent plan x (cache_of_matcher old.matcher) old.learnt.items own new up downs
  parent_keeps own old new begun stands owned told up opens downs open_downs = record {
    part = record {
      shaped = subst (λ (m : Matcher). IsShapedMatcher plan x m) (sym begun.matcher) stands.shaped;
      own = subst TellsOwn (sym begun.matcher) stands.tells;
      waits = subst (λ (t : Option UpMessage × Matcher). IfSome t.0 (TellsBid t.1)) (λ i. (sym begun.waiting i, sym begun.matcher i)) stands.waits;
      pending = subst (λ w. IfSome w (Contains (came_over up))) (sym begun.pending) tt;
      prices = λ place price is. absurd (let none = sym (begun.prices place) ∙ is in cc none);
    };
    sent = subst (λ (m : Matcher). All (TellsBidMessage m) (sent_over up)) (sym begun.matcher) (put up opens);
    told = subst (λ (m : Matcher). All (TellsBidMessage m) own) (sym begun.matcher) owned;
    each = λ place d inside.
        let down = open_downs place d inside in record {
          link = down.link;
          entry = inl (record {
            head = ap (λ (m : Matcher). child_head (cache_of_matcher m) place) begun.matcher;
            demand = ap (λ (m : Matcher). child_demand (cache_of_matcher m) place) begun.matcher;
          });
          learnt = down.learnt;
          put = subst (λ ms. All (TellsPrice new.matcher (came_over up) place) (prices_among ms)) (sym down.sent) (λ k e lt. absurd (omega (arith, lt)));
        };
  }
    where
      put : (u : Option UpEnd) → IfSome u (OpenUp plan parts x) → All (TellsBidMessage old.matcher) (sent_over u)
      put None o = λ k d lt. absurd (omega (arith, lt))
      put (Some u) o = sent_told (TellsBid old.matcher) (TellsBidMessage old.matcher) (λ bid t. t) told u o

  duty_keeps : (own : List Message) (old new : Duty) → OpenedDuty old new → StandsBefore plan parts x before own old → (up : Option UpEnd) →
      IfSome up (OpenUp plan parts x) → (downs : List DownEnd) →
      ((k : ℕ) (d : DownEnd) → k < length downs → OpenDown plan x (learnt_of old) (learnt_of new) k (get_or downs k d)) →
      DutyKeeps plan x before (cache_of_duty old) (learnt_of old) own new up downs
  duty_keeps own (Device old) (Device new) begun before_it up opens downs open_downs = (
    subst (λ (d : DevicePart). OverEnd (KeepsDevice plan x before d) up) (sym begun) (device_over old before_it.stands before_it.told up opens),
    λ place d inside. (open_downs place d inside).link,
  )
  duty_keeps own (Device old) (Parent new) begun before_it up opens downs open_downs = absurd begun
  duty_keeps own (Parent old) (Device new) begun before_it up opens downs open_downs = absurd begun
  duty_keeps own (Parent old) (Parent new) begun before_it up opens downs open_downs =
      parent_keeps own old new begun before_it.stands before_it.tells before_it.told up opens downs open_downs

up_here : (plan : PlanData) (parts : List NodePart) (x : ℕ) (up : Option UpEnd) → IfSome up (OpenUp plan parts x) → IsUpHere x up
up_here plan parts x None opens = tt
up_here plan parts x (Some up) opens = opens.stands

-- a node that was handed its ends keeps what a node keeps
pub opened_keeps : (plan : PlanData) (parts : List NodePart) (before : ℕ) (own : List Message) (node : FreeNode) (is : IsOpenedNode plan parts node) →
    StandsBefore plan parts node.part.number before own is.part.duty →
    NodeKeeps plan before (cache_of_duty is.part.duty) (learnt_of is.part.duty) own node
opened_keeps plan parts before own node is stands = record {
  up = up_here plan parts node.part.number node.up is.up;
  duty = duty_keeps plan parts node.part.number before own is.part.duty node.part.duty is.begun stands node.up is.up node.downs.items is.downs;
}

-- and so it does at the end of the phase
pub ended_keeps : (plan : PlanData) (changes : List (Vec Next Global)) (parts : List NodePart) (run : PhaseRun) (ran : HasRun plan changes parts run) →
    (k : ℕ) (d : FreeNode) (inside : k < length ran.opened) (before : ℕ) (own : List Message) (list : List Next) →
    IfSome (slice_get changes (get_or ran.opened k d).part.number) (λ l. l.items ≡ list) →
    AreNext plan (get_or ran.opened k d).part.number before list →
    StandsBefore plan parts (get_or ran.opened k d).part.number before own (ran.handed k d inside).part.duty →
    NodeKeeps plan before (cache_of_duty (ran.handed k d inside).part.duty) (learnt_of (ran.handed k d inside).part.duty) own (get_or ran.ended k d)
ended_keeps plan changes parts run ran k d inside before own list of_list are stands =
    (ran.steps.each k d inside).keeps before (cache_of_duty (ran.handed k d inside).part.duty)
    (learnt_of (ran.handed k d inside).part.duty) own list of_list are
    (opened_keeps plan parts before own (get_or ran.opened k d) (ran.handed k d inside) stands)
