-- Laws of the bids of the kinds: they have the basis's steps, never rise, and lie within the limit.
use Rattle.std.proofs.Common.{◌≡◌, ◌≢◌, ℕ, ◌+◌, ◌-◌, zero, suc, ℤ, pos, negsuc, ◌+ℤ◌, neg_ℤ, ◌≤ℤ◌, Bool, true, false}
use Rattle.std.proofs.Common.{if◌then◌else◌, int_lt, int_le, nat_abs, IsTrue, List, [], ◌∷◌, length, get_or, arith, refl, subst, sym, ◌∙◌}
use Rattle.std.proofs.Common.{inl, inr, ◌⊎◌}
use Rattle.std.specs.Prelude.{All}
use Rattle.std.proofs.lemmas.Int.{ints}
use Rattle.std.proofs.lemmas.List.Elements.{All-head, All-tail}
use Rattle.pm_base.proofs.Ints.{none-within}
use Rattle.pm_bid.proofs.Sums.{length-zeros, zeros-at, zeros-within}
use Rattle.pm_bid.specs.Bids.{AllWithinLimit, NeverRises, HaveSteps, zeros}
use Rattle.pm_base.specs.Limits.{demand_limit, IsWithin}
use Rattle.pm_device.specs.declared.kind.Kind.{Kind}
use Rattle.pm_device.specs.declared.kind.Kind.TheVariants.{Freezer, HeatPump, Cogeneration, Battery, Solar, Load, Objective, Manual}
use Rattle.pm_device.specs.Kinds.{is_valid, state_fits, power_limit, is_thermal}
use Rattle.pm_device.proofs.Between.{Between, is_power-tells, is_between-tells, is_thermal-tells, is_battery-tells}
use Rattle.pm_strategy.specs.declared.levels.Levels.{Levels}
use Rattle.pm_strategy.specs.Levels.{level_at, AreLevelsOf}
use Rattle.pm_strategy.specs.Steps.{by_step, up_to, from_on}
use Rattle.pm_strategy.specs.Strategies.{around, bid_of, numbered_array, strategy_demand}
use Rattle.pm_strategy.proofs.StepLists.{length-by_step, by_step-same, by_step-within, by_step-falls}

-- a choice of two demands within the limit
within_either : (b : Bool) (x y : ℤ) → IsWithin demand_limit x → IsWithin demand_limit y → IsWithin demand_limit (if b then x else y)
within_either true x y hx hy = hx
within_either false x y hx hy = hy

within_power : (power : ℤ) → Between (pos 0) (pos power_limit) power → IsWithin demand_limit power
within_power power rated = record { low = omega (arith, ints); high = omega (arith, ints) }

within_delivery : (power : ℤ) → Between (pos 0) (pos power_limit) power → IsWithin demand_limit (neg_ℤ power)
within_delivery power rated = record { low = omega (arith, ints); high = omega (arith, ints) }

within_target : (target : ℤ) → Between (neg_ℤ (pos power_limit)) (pos power_limit) target → IsWithin demand_limit (neg_ℤ target)
within_target target rated = record { low = omega (arith, ints); high = omega (arith, ints) }

-- a demand that is one of three
within_three : (a b c : Bool) (x y z : ℤ) → IsWithin demand_limit x → IsWithin demand_limit y → IsWithin demand_limit z →
    IsWithin demand_limit (if a then x else (if b then y else (if c then z else pos 0)))
within_three a b c x y z hx hy hz = within_either a x _ hx (within_either b y _ hy (within_either c z (pos 0) hz (none-within demand_limit)))

-- the power of a device that keeps a temperature
rated_of : (low high power drift effect : ℤ) → IsTrue (is_thermal low high power drift effect) → Between (pos 0) (pos power_limit) power
rated_of low high power drift effect valid = is_power-tells power (is_thermal-tells low high power drift effect valid).rated

-- each demand of a kind lies within the limit
pub demand_of-within : (kind : Kind) (state : ℤ) (last step : ℕ) → IsTrue (is_valid kind) → IsTrue (state_fits kind state) →
    IsWithin demand_limit (strategy_demand kind state last step)
unfolding strategy_demand
demand_of-within (Freezer low high power warm cool) state last step valid fits =
    let rated = within_power power (rated_of low high power warm cool valid) in
    within_three _ _ _ _ _ _ rated (none-within demand_limit) rated
demand_of-within (HeatPump low high power loss gain) state last step valid fits =
    let rated = within_power power (rated_of low high power loss gain valid) in
    within_three _ _ _ _ _ _ rated (none-within demand_limit) rated
demand_of-within (Cogeneration low high power loss gain) state last step valid fits =
    let rated = within_delivery power (rated_of low high power loss gain valid) in
    within_three _ _ _ _ _ _ rated (none-within demand_limit) rated
demand_of-within (Battery capacity charge discharge spread) state last step valid fits =
    let parameters = is_battery-tells capacity charge discharge spread valid in
    within_either _ _ _ (within_power charge parameters.charge_within)
    (within_either _ _ _ (within_delivery discharge parameters.discharge_within) (none-within demand_limit))
demand_of-within Solar output last step valid fits = within_delivery output (is_power-tells output fits)
demand_of-within Load power last step valid fits = within_power power (is_power-tells power fits)
demand_of-within Objective target last step valid fits = within_target target (is_between-tells (neg_ℤ (pos power_limit)) (pos power_limit) target fits)
demand_of-within Manual number last step valid fits = none-within demand_limit

-- a choice whose parts do not rise
falls_either : (b : Bool) (x y x' y' : ℤ) → x' ≤ℤ x → y' ≤ℤ y → (if b then x' else y') ≤ℤ (if b then x else y)
falls_either true x y x' y' hx hy = hx
falls_either false x y x' y' hx hy = hy

same_falls : (x : ℤ) → x ≤ℤ x
same_falls x = omega (arith, ints)

falls_off : (b b' : Bool) (x y : ℤ) → y ≤ℤ x → (b' ≡ true → b ≡ true) → (if b' then x else y) ≤ℤ (if b then x else y)
falls_off true true x y h stays = same_falls x
falls_off true false x y h stays = h
falls_off false true x y h stays = absurd (let e = stays refl in cc)
falls_off false false x y h stays = same_falls y

earlier_too : (end : ℤ) (step : ℕ) → int_le (pos (step + 1)) end ≡ true → int_le (pos step) end ≡ true
earlier_too end step h = grind (arith, ints)

up_to-falls : (power end : ℤ) (step : ℕ) → Between (pos 0) (pos power_limit) power → up_to power end (step + 1) ≤ℤ up_to power end step
up_to-falls power end step rated = falls_off (int_le (pos step) end) (int_le (pos (step + 1)) end) power (pos 0) rated.from (earlier_too end step)

falls_on : (b b' : Bool) (x y : ℤ) → x ≤ℤ y → (b ≡ true → b' ≡ true) → (if b' then x else y) ≤ℤ (if b then x else y)
falls_on true true x y h stays = same_falls x
falls_on true false x y h stays = absurd (let e = stays refl in cc)
falls_on false true x y h stays = h
falls_on false false x y h stays = same_falls y

later_too : (start : ℤ) (step : ℕ) → int_le start (pos step) ≡ true → int_le start (pos (step + 1)) ≡ true
later_too start step h = grind (arith, ints)

from_on-falls : (power start : ℤ) (step : ℕ) → power ≤ℤ pos 0 → from_on power start (step + 1) ≤ℤ from_on power start step
from_on-falls power start step rated = falls_on (int_le start (pos step)) (int_le start (pos (step + 1))) power (pos 0) rated (later_too start step)

falls_round : (a a' b b' : Bool) (x y z : ℤ) → z ≤ℤ x → y ≤ℤ z → (a' ≡ true → a ≡ true) → (b ≡ true → b' ≡ true) →
    (if a' then x else (if b' then y else z)) ≤ℤ (if a then x else (if b then y else z))
falls_round true true b b' x y z hx hy first third = same_falls x
falls_round true false b true x y z hx hy first third = omega (arith, ints)
falls_round true false b false x y z hx hy first third = hx
falls_round false true b b' x y z hx hy first third = absurd (let e = first refl in cc)
falls_round false false b b' x y z hx hy first third = falls_on b b' y z hy third

still_below : (step : ℕ) (middle spread : ℤ) → int_lt (pos (step + 1) +ℤ spread) middle ≡ true → int_lt (pos step +ℤ spread) middle ≡ true
still_below step middle spread h = grind (arith, ints)

still_above : (step : ℕ) (end : ℤ) → int_lt end (pos step) ≡ true → int_lt end (pos (step + 1)) ≡ true
still_above step end h = grind (arith, ints)

around-falls : (middle charge discharge spread : ℤ) (step : ℕ) → Between (pos 0) (pos power_limit) charge →
    Between (pos 0) (pos power_limit) discharge → around middle charge discharge spread (step + 1) ≤ℤ around middle charge discharge spread step
around-falls middle charge discharge spread step charged discharged =
    falls_round (int_lt (pos step +ℤ spread) middle) (int_lt (pos (step + 1) +ℤ spread) middle) (int_lt (middle +ℤ spread) (pos step))
    (int_lt (middle +ℤ spread) (pos (step + 1))) charge (neg_ℤ discharge) (pos 0)
    charged.from (omega (arith, ints)) (still_below step middle spread) (still_above step (middle +ℤ spread))

not_positive : (power : ℤ) → Between (pos 0) (pos power_limit) power → neg_ℤ power ≤ℤ pos 0
not_positive power rated = omega (arith, ints)

-- the demand of a kind never rises
pub demand_of-falls : (kind : Kind) (state : ℤ) (last step : ℕ) → IsTrue (is_valid kind) → strategy_demand kind state last (step + 1)
    ≤ℤ strategy_demand kind state last step
unfolding strategy_demand
demand_of-falls (Freezer low high power warm cool) state last step valid =
    let rated = rated_of low high power warm cool valid in
    falls_either _ _ _ _ _ (same_falls power) (falls_either _ _ _ _ _ (same_falls (pos 0)) (up_to-falls power _ step rated))
demand_of-falls (HeatPump low high power loss gain) state last step valid =
    let rated = rated_of low high power loss gain valid in
    falls_either _ _ _ _ _ (same_falls power) (falls_either _ _ _ _ _ (same_falls (pos 0)) (up_to-falls power _ step rated))
demand_of-falls (Cogeneration low high power loss gain) state last step valid =
    let rated = rated_of low high power loss gain valid in
    falls_either _ _ _ _ _ (same_falls (neg_ℤ power))
    (falls_either _ _ _ _ _ (same_falls (pos 0)) (from_on-falls (neg_ℤ power) _ step (not_positive power rated)))
demand_of-falls (Battery capacity charge discharge spread) state last step valid =
    let parameters = is_battery-tells capacity charge discharge spread valid in
    around-falls _ charge discharge spread step parameters.charge_within parameters.discharge_within
demand_of-falls _ state last step valid = same_falls _

-- the bid of a kind that has a strategy, and of a manual device
pub bid_of-strategy : (kind : Kind) (state : ℤ) (arrays : List (List ℤ)) (steps : ℕ) → kind ≢ Manual →
    bid_of kind state arrays steps ≡ by_step steps (strategy_demand kind state (steps - 1))
unfolding bid_of
bid_of-strategy Manual state arrays steps other = absurd (other refl)
bid_of-strategy _ state arrays steps other = refl

-- the bid of a manual device is the array with its state as number
pub bid_of-manual : (kind : Kind) (state : ℤ) (arrays : List (List ℤ)) (steps : ℕ) → kind ≡ Manual →
    bid_of kind state arrays steps ≡ numbered_array arrays state steps
unfolding bid_of
bid_of-manual kind state arrays steps is = rw is refl

-- a number that is not negative is the place of its array
pub array_of_number : (arrays : List (List ℤ)) (number : ℤ) (steps : ℕ) → pos 0 ≤ℤ number →
    numbered_array arrays number steps ≡ get_or arrays (nat_abs number) (zeros steps)
array_of_number arrays (pos number) steps from = refl
array_of_number arrays (negsuc number) steps from = absurd (omega (arith, ints))

-- a fact of each array and of zeros holds of the array of any number
get_or-holds : {X : Type 0} (P : X → Type 0) (xs : List X) (i : ℕ) (d : X) → All P xs → P d → P (get_or xs i d)
get_or-holds P [] i d all none = none
get_or-holds P (x ∷ xs) zero d all none = All-head P x xs all
get_or-holds P (x ∷ xs) (suc i) d all none = get_or-holds P xs i d (All-tail P x xs all) none

-- a fact of the lists by step of the kinds that have a strategy, and of the arrays, holds of each bid
bid_of-holds : (P : List ℤ → Type 0) (kind : Kind) (state : ℤ) (arrays : List (List ℤ)) (steps : ℕ) → (kind ≡ Manual → All P arrays) →
    P (zeros steps) → P (by_step steps (strategy_demand kind state (steps - 1))) → P (bid_of kind state arrays steps)
unfolding bid_of
bid_of-holds P Manual (pos number) arrays steps all none here = get_or-holds P arrays number (zeros steps) (all refl) none
bid_of-holds P Manual (negsuc number) arrays steps all none here = none
bid_of-holds P _ state arrays steps all none here = here

-- the bid of a kind has the steps of the basis
pub length-bid_of : (kind : Kind) (state : ℤ) (arrays : List (List ℤ)) (steps : ℕ) → HaveSteps steps arrays →
    length (bid_of kind state arrays steps) ≡ steps
length-bid_of kind state arrays steps all =
    bid_of-holds (λ bid. length bid ≡ steps) kind state arrays steps (λ _. all) (length-zeros steps) (length-by_step steps _)

zeros-falls : (steps : ℕ) → NeverRises (zeros steps)
zeros-falls steps = λ step inside. rw (zeros-at steps (step + 1), zeros-at steps step) (same_falls (pos 0))

-- the bid of a kind lies within the limit, for a manual device where its array does
pub bid_of-within : (kind : Kind) (state : ℤ) (arrays : List (List ℤ)) (steps : ℕ) → IsTrue (is_valid kind) →
    IsTrue (state_fits kind state) → (kind ≡ Manual → All (AllWithinLimit demand_limit) arrays) →
    AllWithinLimit demand_limit (bid_of kind state arrays steps)
bid_of-within kind state arrays steps valid fits all =
    bid_of-holds (AllWithinLimit demand_limit) kind state arrays steps all (zeros-within demand_limit steps)
    (by_step-within steps (strategy_demand kind state (steps - 1)) (λ step. demand_of-within kind state (steps - 1) step valid fits))

-- the bid of a kind never rises, for a manual device where its array never does
pub bid_of-falls : (kind : Kind) (state : ℤ) (arrays : List (List ℤ)) (steps : ℕ) → IsTrue (is_valid kind) →
    (kind ≡ Manual → All NeverRises arrays) → NeverRises (bid_of kind state arrays steps)
bid_of-falls kind state arrays steps valid all =
    bid_of-holds NeverRises kind state arrays steps all (zeros-falls steps)
    (by_step-falls steps (strategy_demand kind state (steps - 1)) (λ step. demand_of-falls kind state (steps - 1) step valid))

-- a solar panel and an objective ask for their state, turned round
pub record TurnedRound (kind : Kind) (state : ℤ) : Type 0 where
  -- the state is between the most power of a device, negative, and that power
  pub within : Between (neg_ℤ (pos power_limit)) (pos power_limit) state
  -- the kind has a strategy: it is not the manual one
  pub strategic : kind ≢ Manual
  -- at each step the demand of the kind is the state with its sign turned round
  pub each : (last step : ℕ) → strategy_demand kind state last step ≡ neg_ℤ state

wider : (power : ℤ) → Between (pos 0) (pos power_limit) power → Between (neg_ℤ (pos power_limit)) (pos power_limit) power
wider power rated = record { from = omega (arith, ints); to = rated.to }

turned_round-Solar : (state : ℤ) → IsTrue (state_fits Solar state) → TurnedRound Solar state
unfolding strategy_demand
turned_round-Solar state fits = record { within = wider state (is_power-tells state fits); strategic = λ e. cc; each = λ last step. refl }

turned_round-Objective : (state : ℤ) → IsTrue (state_fits Objective state) → TurnedRound Objective state
unfolding strategy_demand
turned_round-Objective state fits =
    record { within = is_between-tells (neg_ℤ (pos power_limit)) (pos power_limit) state fits; strategic = λ e. cc; each = λ last step. refl }

-- a solar panel or an objective in a state that fits it has its state turned round as its demand
pub turned_round : (kind : Kind) (state : ℤ) → IsTrue (state_fits kind state) → (kind ≡ Solar) ⊎ (kind ≡ Objective) → TurnedRound kind state
turned_round kind state fits is =
    let P : Kind → Type 0 = λ k. TurnedRound k state in
    let F : Kind → Type 0 = λ k. IsTrue (state_fits k state) in
    elim is [
      | inl e ↦ subst P (sym e) (turned_round-Solar state (subst F e fits))
      | inr e ↦ subst P (sym e) (turned_round-Objective state (subst F e fits))
    ]

-- a list filled by the levels of a kind is its bid
pub filled : (kind : Kind) (state : ℤ) (arrays : List (List ℤ)) (levels : Levels) (out : List ℤ) (counted steps : ℕ) →
    AreLevelsOf kind state (counted - 1) levels → counted ≡ steps → out ≡ by_step steps (level_at levels) → out ≡ bid_of kind state arrays steps
filled kind state arrays levels out counted steps stand count is =
    let each : (step : ℕ) → level_at levels step ≡ strategy_demand kind state (steps - 1) step = rw (← count) stand.each in
    is ∙ (by_step-same steps (level_at levels) (strategy_demand kind state (steps - 1)) each
    ∙ sym (bid_of-strategy kind state arrays steps stand.strategic))
