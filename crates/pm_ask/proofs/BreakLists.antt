-- The breaks of the first steps of a total.
use Rattle.std.proofs.Common.{◌≡◌, ◌∙◌, sym, ap, subst, refl, ℕ, zero, suc, ◌+◌, ◌-◌, ◌<◌, ◌≤◌, ℤ, pos, ◌-ℤ◌, List, []}
use Rattle.std.proofs.Common.{◌∷◌, ◌++◌, length, Option, Some, None, Bool, true, false, arith, inl, inr}
use Rattle.std.specs.Prelude.{◌<ℤ◌, All, ◌↔◌, int_lt, nat_lt, if◌then◌else◌}
use Rattle.std.specs.List.{AllPairs, Any, filter_map, cons_option, range_with_len}
use Rattle.std.proofs.lemmas.Bool.{cases_lt}
use Rattle.std.proofs.lemmas.Bool.Decides.{nat_tests}
use Rattle.std.proofs.lemmas.Int.{ints}
use Rattle.std.proofs.lemmas.List.{append-nil, get_or_append_left, length-append}
use Rattle.std.proofs.lemmas.List.Elements.{All-append, All-nil, All-cons, filter_map-append}
use Rattle.std.proofs.lemmas.List.Quantifiers.{Any-push, all_pairs_push}
use Rattle.pm_base.proofs.Ints.{is_below, is_not_below}
use Rattle.pm_base.proofs.Lists.{range_with_len-more}
use Rattle.pm_bid.specs.Bids.{demand_at, NeverRises}
use Rattle.pm_ask.specs.Asked.{asked_step}
use Rattle.pm_ask.specs.Breaks.{IsTargetOf, HasTargets, HasEnds, LiesIn, IsBreakOf, AreBreaks}
use Rattle.pm_ask.specs.Curves.{least_of, greatest_of, break_at, breaks_of, IsCurve}
use Rattle.pm_ask.specs.declared.breaks.Break.{Break}
use Rattle.pm_ask.proofs.Targets.{is_target, target_is_in, least_is_total, last_has_no_least, greatest_is_below, first_has_no_greatest, level_has_none}
use Rattle.pm_ask.proofs.Targets.{asked_step_meets}

-- what holds of an element of a list holds of one of the longer list
any_in_longer : {X : Type 0} (P : X → Type 0) (xs ys : List X) → Any P xs → Any P (xs ++ ys)
any_in_longer P xs ys any =
    (any.0, any.1, omega (arith, length-append xs ys, any.2), get_or_append_left xs ys any.1 any.0 any.2 ∙ any.3, any.4)

-- a break has all targets of its step, which are some, and no other
record IsWhole (total : List ℤ) (break : Break) : Type 0 where
  -- the step of the break has targets
  pub some : HasTargets total break.step
  -- the break has the least and the greatest target of its step
  pub ends : HasEnds total break
  -- each target that lies in the break is one of the break's step
  pub only : (target : ℤ) → LiesIn target break → IsTargetOf total break.step target
  -- each target of the break's step lies in the break
  pub all : (target : ℤ) → IsTargetOf total break.step target → LiesIn target break

-- breaks of steps before this one: the targets of these steps lie in them
record AreBreaksBefore (total : List ℤ) (step : ℕ) (breaks : List Break) : Type 0 where
  -- the breaks stand in the order of rising steps
  pub rise : AllPairs (λ earlier later. earlier.step < later.step) breaks
  -- each break is of a step before this one
  pub before : All (λ break. break.step < step) breaks
  -- each break has all targets of its step, and no other
  pub whole : All (IsWhole total) breaks
  -- a target whose step is before this one has its break among them
  pub each : (target : ℤ) → asked_step target total < step → Any (IsBreakOf total target) breaks

no_breaks : (total : List ℤ) → AreBreaksBefore total 0 []
no_breaks total = record {
  rise = λ i j d order inside. absurd (omega arith);
  before = All-nil _;
  whole = All-nil _;
  each = λ target none. absurd (omega arith);
}

-- one more break, of this step
break_pushed : (total : List ℤ) (step : ℕ) (breaks more : List Break) (break : Break) → more ≡ breaks ++ break ∷ [] → break.step ≡ step
    → IsWhole total break → AreBreaksBefore total step breaks → AreBreaksBefore total (step + 1) more
break_pushed total step breaks more break pushed is whole are = rw pushed (record {
  rise = all_pairs_push (λ earlier later. earlier.step < later.step) breaks break are.rise
      (λ k d inside. let earlier = are.before k d inside in omega (arith, is, earlier));
  before = All-append (λ b. b.step < step + 1) breaks (break ∷ []) (λ k d inside. let earlier = are.before k d inside in omega (arith, earlier))
      (All-cons (λ b. b.step < step + 1) break [] (omega (arith, is)) (All-nil _));
  whole = All-append (IsWhole total) breaks (break ∷ []) are.whole (All-cons (IsWhole total) break [] whole (All-nil _));
  each = λ target before.
      elim (cases_lt (asked_step target total) step) [
        | inl earlier ↦ any_in_longer (IsBreakOf total target) breaks (break ∷ []) (are.each target earlier)
        | inr here ↦
            let own : IsTargetOf total break.step target = omega (arith, is) in
            Any-push (IsBreakOf total target) breaks break (record { step = own; inside = whole.all target own })
      ];
})

-- a step without targets has no break
break_left_out : (total : List ℤ) (step : ℕ) (breaks : List Break) → ((target : ℤ) → ¬ (IsTargetOf total step target)) →
    AreBreaksBefore total step breaks
    → AreBreaksBefore total (step + 1) breaks
break_left_out total step breaks none are = record {
  rise = are.rise;
  before = λ k d inside. let earlier = are.before k d inside in omega (arith, earlier);
  whole = are.whole;
  each = λ target before.
      elim (cases_lt (asked_step target total) step) [
        | inl earlier ↦ are.each target earlier
        | inr here ↦ absurd (none target (omega arith))
      ];
}

-- the breaks of all steps
all_breaks : (total : List ℤ) (breaks : List Break) → 1 ≤ length total → AreBreaksBefore total (length total) breaks → AreBreaks total breaks
all_breaks total breaks some are = record {
  rise = are.rise;
  some = λ k d inside. (are.whole k d inside).some;
  ends = λ k d inside. (are.whole k d inside).ends;
  each = λ target. are.each target (asked_step_meets target total some).inside;
  only = λ k d inside. (are.whole k d inside).only;
}

-- the break of the first step, of the last one, and of any other whose total is below the one before
first_break : (total : List ℤ) → NeverRises total → 1 < length total → IsWhole total (record { step = 0; from = Some (demand_at total 0); to = None })
first_break total falls more =
    let least = least_is_total total 0 falls (omega arith) (λ h. absurd (omega arith)) in
    record {
      some = (demand_at total 0, least.0);
      ends = record { least = least; greatest = first_has_no_greatest total falls (omega arith) };
      only = λ target lies. is_target total target 0 falls (omega arith) (record { below = λ h. absurd (omega arith); met = λ h. lies.from });
      all = λ target its_own. record { from = (target_is_in total target 0 (omega arith) its_own).met (omega arith); to = tt };
    }

last_break : (total : List ℤ) (step : ℕ) → NeverRises total → 0 < step → step + 1 ≡ length total
    → IsWhole total (record { step = step; from = None; to = Some (demand_at total (step - 1) -ℤ pos 1) })
last_break total step falls after last =
    let greatest = greatest_is_below total step falls after (omega arith) (λ h. absurd (omega arith)) in
    record {
      some = (demand_at total (step - 1) -ℤ pos 1, greatest.0);
      ends = record { least = last_has_no_least total step falls last; greatest = greatest };
      only = λ target lies. is_target total target step falls (omega arith) (record {
        below = λ h. let to = lies.to in omega (arith, ints, to);
        met = λ h. absurd (omega arith);
      });
      all = λ target its_own. record { from = tt; to = greatest.1 target its_own };
    }

middle_break : (total : List ℤ) (step : ℕ) → NeverRises total → 0 < step → step + 1 < length total →
    demand_at total step <ℤ demand_at total (step - 1)
    → IsWhole total (record { step = step; from = Some (demand_at total step); to = Some (demand_at total (step - 1) -ℤ pos 1) })
middle_break total step falls after inside lower =
    let greatest = greatest_is_below total step falls after (omega arith) (λ h. omega (arith, ints, lower)) in
    let least = least_is_total total step falls inside (λ h. lower) in
    record {
      some = (demand_at total step, least.0);
      ends = record { least = least; greatest = greatest };
      only = λ target lies. is_target total target step falls (omega arith) (record {
        below = λ h. let to = lies.to in omega (arith, ints, to);
        met = λ h. lies.from;
      });
      all = λ target its_own. record { from = least.1 target its_own; to = greatest.1 target its_own };
    }

-- a break that is found is that of the step, and whole; where none is found the step has no targets
abbrev IsFoundAt : List ℤ → ℕ → Option Break → Type 0
IsFoundAt total step (Some break) = (break.step ≡ step) × IsWhole total break
IsFoundAt total step None = (target : ℤ) → ¬ (IsTargetOf total step target)

has_least : (total : List ℤ) (step : ℕ) → step + 1 < length total → least_of total step ≡ Some (demand_at total step)
has_least total step inside = rw (let is : nat_lt (step + 1) (length total) ≡ true = grind (arith, nat_tests) in is) refl

has_no_least : (total : List ℤ) (step : ℕ) → step + 1 ≡ length total → least_of total step ≡ None
has_no_least total step last = rw (let is : nat_lt (step + 1) (length total) ≡ false = grind (arith, nat_tests) in is) refl

has_greatest : (total : List ℤ) (step : ℕ) → 0 < step → greatest_of total step ≡ Some (demand_at total (step - 1) -ℤ pos 1)
has_greatest total step after = rw (let is : nat_lt 0 step ≡ true = grind (arith, nat_tests) in is) refl

-- the targets from the total at the step to below that at the step before
abbrev between : List ℤ → ℕ → Break
between total step = record { step = step; from = Some (demand_at total step); to = Some (demand_at total (step - 1) -ℤ pos 1) }

in_the_middle : (total : List ℤ) (step : ℕ) (crossed : Bool) → NeverRises total → 0 < step → step + 1 < length total
    → int_lt (demand_at total (step - 1) -ℤ pos 1) (demand_at total step) ≡ crossed
    → IsFoundAt total step (if crossed then None else Some (between total step))
in_the_middle total step true falls after inside crossed =
    let level = is_below (demand_at total (step - 1) -ℤ pos 1) (demand_at total step) crossed in
    λ target. level_has_none total target step after inside (omega (arith, ints, level))
in_the_middle total step false falls after inside apart =
    let order = is_not_below (demand_at total (step - 1) -ℤ pos 1) (demand_at total step) apart in
    (refl, middle_break total step falls after inside (omega (arith, ints, order)))

found_at : (total : List ℤ) (step : ℕ) → NeverRises total → 1 < length total → step < length total → IsFoundAt total step (break_at total step)
found_at total zero falls more inside = rw (has_least total 0 (omega arith)) (refl, first_break total falls more)
found_at total (suc step) falls more inside =
    elim (cases_lt (suc step + 1) (length total)) [
      | inl earlier ↦
          rw (has_least total (suc step) earlier, has_greatest total (suc step) (omega arith))
          (in_the_middle total (suc step) _ falls (omega arith) earlier refl)
      | inr last ↦
          let is : suc step + 1 ≡ length total = omega arith in
          rw (has_no_least total (suc step) is, has_greatest total (suc step) (omega arith))
          (refl, last_break total (suc step) falls (omega arith) is)
    ]

-- the breaks of the steps before this one
abbrev pub breaks_before : List ℤ → ℕ → List Break
breaks_before total step = filter_map (break_at total) (range_with_len 0 step)

one_step_more : (total : List ℤ) (step : ℕ) → breaks_before total (step + 1) ≡ breaks_before total step ++ cons_option (break_at total step) []
one_step_more total step =
    ap (filter_map (break_at total)) (range_with_len-more 0 step) ∙ filter_map-append (break_at total) (range_with_len 0 step) ((0 + step) ∷ [])
    ∙ (let same : 0 + step ≡ step = omega arith in ap (λ n. breaks_before total step ++ cons_option (break_at total n) []) same)

-- the break that is found at a step joins those before it
pub breaks_after : (total : List ℤ) (step : ℕ) (breaks more : List Break) (found : Option Break) → found ≡ break_at total step
    → breaks ≡ breaks_before total step → more ≡ breaks ++ cons_option found [] → more ≡ breaks_before total (step + 1)
breaks_after total step breaks more found is before joined =
    joined ∙ (λ i. before i ++ cons_option (is i) []) ∙ sym (one_step_more total step)

found_joins : (total : List ℤ) (step : ℕ) (breaks more : List Break) (found : Option Break) → IsFoundAt total step found
    → more ≡ breaks ++ cons_option found [] → AreBreaksBefore total step breaks → AreBreaksBefore total (step + 1) more
found_joins total step breaks more (Some break) found joined are = break_pushed total step breaks more break joined found.0 found.1 are
found_joins total step breaks more None none joined are = rw (joined, append-nil breaks) (break_left_out total step breaks none are)

are_before : (total : List ℤ) (step : ℕ) → NeverRises total → 1 < length total → step ≤ length total →
    AreBreaksBefore total step (breaks_before total step)
are_before total zero falls more inside = no_breaks total
are_before total (suc step) falls more inside =
    let found = found_at total step falls more (omega arith) in
    let earlier = are_before total step falls more (omega arith) in
    let next : step + 1 ≡ suc step = omega arith in
    subst (λ (n : ℕ). AreBreaksBefore total n (breaks_before total n)) next
    (found_joins total step (breaks_before total step) (breaks_before total (step + 1)) (break_at total step) found (one_step_more total step) earlier)

-- the breaks that are read off a total are its breaks
pub breaks_of_are : (total : List ℤ) → NeverRises total → 1 < length total → AreBreaks total (breaks_of total)
breaks_of_are total falls more = all_breaks total (breaks_of total) (omega arith) (are_before total (length total) falls more (omega arith))

-- so are those that a curve keeps
pub kept_breaks_are : (total : List ℤ) (breaks : List Break) → IsCurve total breaks → AreBreaks total breaks
kept_breaks_are total breaks is = rw is.its_own (breaks_of_are total is.falls (omega (arith, is.steps.least)))

-- the steps of the breaks are exactly those that have targets
pub steps_of_breaks : (total : List ℤ) (breaks : List Break) → AreBreaks total breaks → (step : ℕ)
    → HasTargets total step ↔ Any (λ break. break.step ≡ step) breaks
steps_of_breaks total breaks are step = (
  (λ has. let any = are.each has.0 in (any.0, any.1, any.2, any.3, sym any.4.step ∙ has.1)),
  (λ any. let some = are.some any.0 any.1 any.2 in (some.0, some.1 ∙ ap (λ break. break.step) any.3 ∙ any.4)),
)

-- each of them is one of the steps of the total
pub breaks_are_inside : (total : List ℤ) (breaks : List Break) → 1 ≤ length total → AreBreaks total breaks →
    All (λ break. break.step < length total) breaks
breaks_are_inside total breaks some are = λ k d inside.
    let has = are.some k d inside in omega (arith, has.1, (asked_step_meets has.0 total some).inside)
