-- A core that was just opened stands for the start.
use Rattle.std.proofs.Common.{◌≡◌, ◌∙◌, sym, ap, ℕ, zero, suc, Bool, true, not, []}
use Rattle.std.proofs.Common.{Some}
use Rattle.std.proofs.Common.{None, refl, arith}
use Rattle.std.proofs.lemmas.Bool.{cond-false}
use Rattle.pm_base.specs.Cuts.{Cut}
use Rattle.pm_bid.specs.Heads.{nothing_sent}
use Rattle.pm_market.specs.Lists.{Lists, nodes, parent, is_member, child_at_or_above, IsNode, Lawful}
use Rattle.pm_market.specs.State.{start, cut_at, knowledge_of, last_of, part, knowledge, number, last_index, cleared_cut}
use Rattle.pm_market.specs.Held.{last_join}
use Rattle.pm_market.proofs.Cuts.{part_zero, is_same_from, entry_zero}
use Rattle.pm_laws.specs.Due.{is_due}
use Rattle.pm_laws.proofs.Kept.{sound_start, newest_zero}
use Rattle.pm_laws.proofs.Quiet.{in_zero}
use Rattle.pm_laws.proofs.Numbers.{number_of_part}
use Rattle.pm_laws.proofs.Published.{due_within}
use Rattle.pm_session.specs.Links.{Session}
use Rattle.pm_session.specs.Ports.{Seat}
use Rattle.pm_plan.specs.Kept.{IsPlan}
use Rattle.pm_plan.specs.Plans.{PlanData}
use Rattle.pm_plan.specs.Market.{plan_lists}
use Rattle.pm_stands.specs.Core.{Core}
use Rattle.pm_stands.specs.Stands.{head_for, StandsFor}
use Rattle.pm_stands.specs.Opened.{IsOpened}
use Rattle.pm_plan.proofs.MarketLists.{lawful}
use Rattle.pm_offer.proofs.Nothing.{zero_offer}
use Rattle.pm_laws.proofs.Gone.{gone_zero}

nothing_is : (lists : Lists) (x n : ℕ) → n ≡ 0 → nothing_sent ≡ head_for lists x n
nothing_is lists x n e = ap (λ (b : Bool). record { number = 0; gone = b }) (sym (gone_zero lists x)) ∙ ap (head_for lists x) (sym e)

number_zero : (lists : Lists) → Lawful lists → (x : ℕ) (cut : Cut) → IsNode lists x → ((d : ℕ) → cut d ≡ 0) → number lists start x cut ≡ 0
number_zero lists law x cut node none =
    number_of_part lists law start (sound_start lists law) x 0 cut node (omega arith) (λ d leaf. none d ∙ sym (part_zero lists start.published x d))

none_due : (lists : Lists) → Lawful lists → (x j : ℕ) → is_due lists start x j ≡ true → ⊥
none_due lists law x j h = omega (arith, due_within lists start (sound_start lists law) x j h)

last_empty : last_of [] ≡ 0
unfolding last_of
last_empty = refl

cleared_zero : (j : ℕ) (d : ℕ) → cleared_cut start j d ≡ 0
unfolding cut_at
cleared_zero zero d = refl
cleared_zero (suc j) d = refl

known_zero : (lists : Lists) (d : ℕ) → knowledge lists start 0 d ≡ 0
unfolding knowledge_of
known_zero lists d = part_zero lists start.published (child_at_or_above lists 0 d) d

-- a cluster that was just opened stands for the start
pub opened_stands : (plan : PlanData) (c : Core) → IsPlan plan → IsOpened plan c → StandsFor plan c start
opened_stands plan c is_plan opened = record {
  sound = sound_start (plan_lists plan) (lawful plan is_plan);
  shaped = opened.shaped;
  counts = opened.counts;
  closed = opened.closed;
  states = opened.states;
  powers = λ d leaf positive. absurd (omega (arith, positive));
  heads = λ x node. opened.heads x node ∙ nothing_is (plan_lists plan) x 0 refl;
  demands = λ x node.
      let none : (d : ℕ) → part (plan_lists plan) start x 0 d ≡ 0 = λ d. part_zero (plan_lists plan) start.published x d in
      opened.demands x node ∙ sym (zero_offer plan is_plan (part (plan_lists plan) start x 0) none (nodes (plan_lists plan)) x (omega arith) node);
  bid_offered = λ x node. ap (λ (z : Session). z.up.offered) (opened.sessions x node) ∙ sym (newest_zero (plan_lists plan) x);
  bid_taken = λ x node. ap (λ (z : Session). z.up.taken) (opened.sessions x node);
  bids = λ x node b waits. let e = sym (ap (λ (z : Session). z.up.waiting) (opened.sessions x node)) ∙ waits in cc;
  price_offered = λ x node.
      let is = ap (λ (z : Session). z.down.offered) (opened.sessions x node) in
      record { due = λ positive. absurd (omega (arith, is, positive)); most = λ i h. absurd (none_due (plan_lists plan) (lawful plan is_plan) x i h) };
  price_taken = λ x node. ap (λ (z : Session). z.down.taken) (opened.sessions x node) ∙ sym (last_empty);
  prices = λ x node q waits. let e = sym (ap (λ (z : Session). z.down.waiting) (opened.sessions x node)) ∙ waits in cc;
  window_last = λ y conc. opened.sent y conc ∙ sym (newest_zero (plan_lists plan) y);
  window_answered = λ y conc.
      opened.answered y conc
      ∙ sym (number_zero (plan_lists plan) (lawful plan is_plan) y (cleared_cut start (last_index start y)) (conc.0, conc.1)
      (cleared_zero (last_index start y)));
  records = λ x n node conc keeps. absurd (omega (arith, keeps.one, keeps.to, opened.sent (parent (plan_lists plan) x) conc));
  sums = λ y n conc keeps. absurd (omega (arith, keeps.one, keeps.to, opened.sent y conc));
  newest_heads = λ x node conc.
      opened.newest_heads x node conc
      ∙ nothing_is (plan_lists plan) x _ (
      number_zero (plan_lists plan) (lawful plan is_plan) x (cut_at [] 0) node (λ d. ap (λ (a : Cut). a d) (entry_zero [])));
  index = opened.index;
  auction_step = opened.auction_step;
  changed =
      let same = is_same_from (plan_lists plan) 0 (knowledge (plan_lists plan) start 0) (cleared_cut start 0) (λ d leaf.
      known_zero (plan_lists plan) d ∙ sym (cleared_zero 0 d)) in
      opened.changed ∙ sym (ap not same);
  joined = λ d leaf.
      ap (λ (q : Seat). q.joined) (opened.seats d leaf)
      ∙ sym (cond-false (is_member (plan_lists plan) d 0) (Some (last_join (plan_lists plan) d 0)) None (in_zero (plan_lists plan) d));
  given_none = λ d leaf none. ap (λ (q : Seat). q.given) (opened.seats d leaf);
  given = λ d leaf positive. absurd (omega (arith, positive, last_empty));
}
