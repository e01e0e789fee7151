-- A core in which nothing waits stands for idle states alone, and the other way round.
use Rattle.std.proofs.Common.{◌≡◌, ◌∙◌, sym, ap, ℕ, ◌+◌, ◌-◌, ◌≤◌, false, not, ◌↔◌, length, refl, arith, inl, inr}
use Rattle.std.proofs.lemmas.Bool.{cases_eq, cases_lt, cases_Bool}
use Rattle.pm_base.specs.Cuts.{Cut}
use Rattle.pm_base.specs.Limits.{window_size}
use Rattle.pm_market.specs.Lists.{Lists, IsNode, IsConcentrator}
use Rattle.pm_market.specs.State.{State, is_same_on, cut_at, newest_number_of, part, knowledge, number, last_index, clearings, cleared_cut}
use Rattle.pm_market.specs.Moves.{Legal, Idle}
use Rattle.pm_market.specs.declared.moves.Move.TheVariants.{Change, Learn, Publish, Clear, Pass, Close}
use Rattle.pm_market.proofs.Cuts.{part_inner, newest_inner}
use Rattle.pm_laws.proofs.Facts.{last_cases}
use Rattle.pm_plan.specs.Kept.{IsPlan}
use Rattle.pm_plan.specs.Plans.{PlanData}
use Rattle.pm_plan.specs.Market.{plan_lists}
use Rattle.pm_stands.specs.Core.{Core, uplink_of, concentrator_of}
use Rattle.pm_stands.specs.Rows.{CannotPublish}
use Rattle.pm_stands.specs.Stands.{StandsFor}
use Rattle.pm_stands.specs.Quiet.{IsQuiet}
use Rattle.pm_stands.proofs.Caches.{cache_inner}
use Rattle.pm_stands.proofs.Publishing.{same_from_known}
use Rattle.pm_laws.proofs.MoveLaws.{due_parts, due_from}
use Rattle.pm_stands.proofs.Made.{nothing_to_learn, cannot_publish}
use Rattle.pm_stands.proofs.MayClear.{cannot_clear}

module _ (plan : PlanData) (is_plan : IsPlan plan) (c : Core) (s : State) (stands : StandsFor plan c s) where
  abbrev lists : Lists
  lists = plan_lists plan

  -- Where no Learn of the node is legal, the bid that was offered last was taken.
  pub no_bid : (x : ℕ) → IsNode lists x → ((n : ℕ) → Legal lists s (Learn x n) → ⊥) →
      (uplink_of plan c x).up.offered ≡ (uplink_of plan c x).up.taken
  no_bid x node none = elim (cases_eq (newest_number_of lists s x) (s.learnt x)) [
    | inl e ↦ stands.bid_offered x node ∙ e ∙ sym (stands.bid_taken x node)
    | inr ne ↦ absurd (none (newest_number_of lists s x) (node, omega (arith, stands.sound.learnt_within x node), omega arith))
  ]

  -- Where the price that was offered last was taken, no Pass to the node is legal.
  pub no_pass : (x : ℕ) → IsNode lists x → (uplink_of plan c x).down.offered ≡ (uplink_of plan c x).down.taken → (j : ℕ) →
      Legal lists s (Pass x j) → ⊥
  no_pass x node taken j legal =
      let within = (stands.price_offered x node).most j (due_from lists s x j legal.1 legal.3) in
      omega (arith, legal.2, within, stands.price_taken x node, taken)

  -- Where no Pass to the node is legal, the price that was offered last was taken.
  pub no_price : (x : ℕ) → IsNode lists x → ((j : ℕ) → Legal lists s (Pass x j) → ⊥) →
      (uplink_of plan c x).down.offered ≡ (uplink_of plan c x).down.taken
  no_price x node none =
      let at = stands.price_offered x node in
      let j : ℕ = (uplink_of plan c x).down.offered in
      let least : last_index s x ≤ j = elim (last_cases (s.passed x)) [
        | inl w ↦ omega (arith, w.1)
        | inr k ↦ at.most (last_index s x) (due_from lists s x (last_index s x) (stands.sound.passed_reached x (last_index s x) k)
            (stands.sound.passed_addressed x (last_index s x) k))
      ] in
      elim (cases_eq j (last_index s x)) [
        | inl e ↦ e ∙ sym (stands.price_taken x node)
        | inr ne ↦ let w = due_parts lists s x j (at.due (omega arith)) in absurd (none j (node, w.0, omega arith, w.1))
      ]

  -- Where no Publish of a concentrator is legal, it has nothing to publish, or its window is full.
  pub no_publish : (y : ℕ) → IsConcentrator lists y → ((n : ℕ) → Legal lists s (Publish y n) → ⊥) → CannotPublish (concentrator_of c y)
  no_publish y conc none =
      let top : Cut = cut_at (s.published y) (length (s.published y)) in
      let top_is : part lists s y (newest_number_of lists s y) ≡ top =
      part_inner lists s.published y (newest_number_of lists s y) conc.2 ∙ ap (cut_at (s.published y)) (newest_inner lists s.counts s.published y conc.2) in
      elim (cases_Bool (is_same_on lists y (knowledge lists s y) top)) [
        | inl e ↦ inl (ap (λ z. z.heads) (sym (cache_inner c.auctioneer c.concentrators y (λ z. omega (arith, conc.0))))
            ∙ same_from_known plan is_plan c s stands y conc e)
        | inr e ↦
            let open_ = newest_number_of lists s y - number lists s y (cleared_cut s (last_index s y)) in
            elim (cases_lt open_ window_size) [
              | inl lt ↦ absurd
                  (none (newest_number_of lists s y + 1) (conc, ap (λ (a : Cut). is_same_on lists y (knowledge lists s y) a) top_is ∙ e, lt, refl))
              | inr ge ↦ inr (omega (arith, ge, stands.sound.window y conc, stands.window_last y conc, stands.window_answered y conc))
            ]
      ]

  -- Where no Clear is legal, the auctioneer learnt nothing since its last clearing.
  pub no_news : ((j : ℕ) → Legal lists s (Clear j) → ⊥) → c.auctioneer.changed ≡ false
  no_news none = elim (cases_Bool (is_same_on lists 0 (knowledge lists s 0) (cleared_cut s (clearings s)))) [
    | inl e ↦ stands.changed ∙ ap not e
    | inr e ↦ absurd (none (clearings s + 1) (e, refl))
  ]

  idle_from : IsQuiet plan c → Idle lists s
  idle_from quiet (Learn x n) legal = nothing_to_learn plan c s stands x n (quiet.bids x legal.0) legal
  idle_from quiet (Publish y n) legal = cannot_publish plan is_plan c s stands y legal.0 (quiet.concentrators y legal.0) n legal
  idle_from quiet (Clear j) legal = cannot_clear plan c s stands quiet.changed j legal
  idle_from quiet (Pass x j) legal = no_pass x legal.0 (quiet.prices x legal.0) j legal
  idle_from quiet (Change d n) legal = legal
  idle_from quiet (Close k) legal = legal

  -- Nothing is pending exactly where no node move is legal.
  pub idle_is : IsQuiet plan c ↔ Idle lists s
  idle_is = (
    idle_from,
    λ idle. record {
      bids = λ x node. no_bid x node (λ n. idle (Learn x n));
      prices = λ x node. no_price x node (λ j. idle (Pass x j));
      concentrators = λ y conc. no_publish y conc (λ n. idle (Publish y n));
      changed = no_news (λ j. idle (Clear j));
    },
  )
