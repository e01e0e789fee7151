-- Of `number_after`: what it ensures; what the calls of `freezer_after`, `heated_after` and `charge_after` require.
use Rattle.std.proofs.Common.{rules, ◌≡◌, ◌&&◌, subst, ℤ, pos, IsTrue, w64, FitsSigned, to_z, of_z, arith}
use Rattle.std.proofs.lemmas.Int.{ints, to_z-of_z}
use Rattle.pm_device.specs.Kinds.{is_valid, state_fits, is_between, is_change, is_band, is_power, are_changes, is_thermal}
use Rattle.pm_device.specs.Kinds.{capacity_limit}
use Rattle.pm_device.specs.Ticks.{tick}
use Rattle.pm_device.specs.declared.kind.Kind.{Kind}
use Rattle.pm_device.specs.declared.kind.Kind.TheVariants.{Battery}
use Rattle.pm_device.proofs.Between.{Between, is_between-tells, is_between-holds, is_battery-tells, temperature_kept, is_change-tells, both_true}
use Rattle.pm_device.proofs.tick.number_after.Goals as goal

-- a change stays one as 64 bits
change_kept : (n : ℤ) → IsTrue (is_change n) → IsTrue (is_change (to_z w64 (of_z w64 n)))
change_kept n h =
    let within = is_change-tells n h in
    let same : to_z w64 (of_z w64 n) ≡ n = omega (arith, ints) in
    rw same h

-- the changes of a device that keeps a temperature are changes as 64 bits
changes_kept : (low high power drift effect : ℤ) → IsTrue (is_thermal low high power drift effect) →
    IsTrue (is_change (to_z w64 (of_z w64 drift))) × IsTrue (is_change (to_z w64 (of_z w64 effect)))
changes_kept low high power drift effect h =
    let both = both_true (is_change drift) (is_change effect) (both_true (is_band low high && is_power power) (are_changes drift effect) h).1 in
    (change_kept drift both.0, change_kept effect both.1)

freezer_changes : (c : goal.In-Freezer) →
    IsTrue (is_change (to_z w64 (of_z w64 c.in-Freezer.warm))) × IsTrue (is_change (to_z w64 (of_z w64 c.in-Freezer.cool)))
freezer_changes c =
    let d = c.in-Freezer in
    changes_kept d.low d.high d.power d.warm d.cool (subst (λ k. IsTrue (is_valid k)) d.is c.requires.valid)

pub freezer_after-requires-clause-temperature : goal.freezer_after-requires-clause-temperature
freezer_after-requires-clause-temperature c =
    temperature_kept c.args.now (subst (λ k. IsTrue (state_fits k c.args.now)) c.in-Freezer.is c.requires.fits)

pub freezer_after-requires-clause-warm : goal.freezer_after-requires-clause-warm
freezer_after-requires-clause-warm c = (freezer_changes c).0

pub freezer_after-requires-clause-cool : goal.freezer_after-requires-clause-cool
freezer_after-requires-clause-cool c = (freezer_changes c).1

heat_pump_changes : (c : goal.In-HeatPump) →
    IsTrue (is_change (to_z w64 (of_z w64 c.in-HeatPump.loss))) × IsTrue (is_change (to_z w64 (of_z w64 c.in-HeatPump.gain)))
heat_pump_changes c =
    let d = c.in-HeatPump in
    changes_kept d.low d.high d.power d.loss d.gain (subst (λ k. IsTrue (is_valid k)) d.is c.requires.valid)

pub heated_after-requires-clause-temperature : goal.heated_after-requires-clause-temperature
heated_after-requires-clause-temperature c =
    temperature_kept c.args.now (subst (λ k. IsTrue (state_fits k c.args.now)) c.in-HeatPump.is c.requires.fits)

pub heated_after-requires-clause-loss : goal.heated_after-requires-clause-loss
heated_after-requires-clause-loss c = (heat_pump_changes c).0

pub heated_after-requires-clause-gain : goal.heated_after-requires-clause-gain
heated_after-requires-clause-gain c = (heat_pump_changes c).1

cogeneration_changes : (c : goal.In-Cogeneration) →
    IsTrue (is_change (to_z w64 (of_z w64 c.in-Cogeneration.loss))) × IsTrue (is_change (to_z w64 (of_z w64 c.in-Cogeneration.gain)))
cogeneration_changes c =
    let d = c.in-Cogeneration in
    changes_kept d.low d.high d.power d.loss d.gain (subst (λ k. IsTrue (is_valid k)) d.is c.requires.valid)

pub heated_after-requires-in-Cogeneration-clause-temperature : goal.heated_after-requires-in-Cogeneration-clause-temperature
heated_after-requires-in-Cogeneration-clause-temperature c =
    temperature_kept c.args.now (subst (λ k. IsTrue (state_fits k c.args.now)) c.in-Cogeneration.is c.requires.fits)

pub heated_after-requires-in-Cogeneration-clause-loss : goal.heated_after-requires-in-Cogeneration-clause-loss
heated_after-requires-in-Cogeneration-clause-loss c = (cogeneration_changes c).0

pub heated_after-requires-in-Cogeneration-clause-gain : goal.heated_after-requires-in-Cogeneration-clause-gain
heated_after-requires-in-Cogeneration-clause-gain c = (cogeneration_changes c).1

-- a battery's capacity within its limits
battery_capacity : (kind : Kind) (capacity charge discharge spread : ℤ) → kind ≡ Battery capacity charge discharge spread →
    IsTrue (is_valid kind) → Between (pos 1) (pos capacity_limit) capacity
battery_capacity kind capacity charge discharge spread is valid =
    (is_battery-tells capacity charge discharge spread (subst (λ k. IsTrue (is_valid k)) is valid)).capacity_within

capacity_kept : (capacity : ℤ) → Between (pos 1) (pos capacity_limit) capacity → to_z w64 (of_z w64 capacity) ≡ capacity
capacity_kept capacity within = omega (arith, ints)

-- a charge within the capacity stays so as 64 bits
charge_kept : (capacity stored : ℤ) → Between (pos 1) (pos capacity_limit) capacity → IsTrue (is_between (pos 0) capacity stored) →
    IsTrue (is_between (pos 0) capacity (to_z w64 (of_z w64 stored)))
charge_kept capacity stored limits h =
    let within = is_between-tells (pos 0) capacity stored h in
    let same : to_z w64 (of_z w64 stored) ≡ stored = omega (arith, ints) in
    rw same h

pub charge_after-requires-clause-capacity : goal.charge_after-requires-clause-capacity
charge_after-requires-clause-capacity c =
    let d = c.in-Battery in
    let within = battery_capacity c.args.kind.now d.capacity d.charge d.discharge d.spread d.is c.requires.valid in
    rw (capacity_kept d.capacity within) (is_between-holds (pos 1) (pos capacity_limit) d.capacity within)

pub charge_after-requires-clause-stored : goal.charge_after-requires-clause-stored
charge_after-requires-clause-stored c =
    let d = c.in-Battery in
    let within = battery_capacity c.args.kind.now d.capacity d.charge d.discharge d.spread d.is c.requires.valid in
    rw (capacity_kept d.capacity within)
    (charge_kept d.capacity c.args.now within (subst (λ k. IsTrue (state_fits k c.args.now)) c.in-Battery.is c.requires.fits))

pub charge_after-requires-clause-power_low : goal.charge_after-requires-clause-power_low
charge_after-requires-clause-power_low c = rw (to_z-of_z w64 c.args.power c.ranges.power) c.requires.power_low

pub charge_after-requires-clause-power_high : goal.charge_after-requires-clause-power_high
charge_after-requires-clause-power_high c = rw (to_z-of_z w64 c.args.power c.ranges.power) c.requires.power_high

pub charge_after-requires-clause-at_least_one_minute : goal.charge_after-requires-clause-at_least_one_minute
charge_after-requires-clause-at_least_one_minute c =
    rw (to_z-of_z w64 c.args.minutes c.ranges.minutes) c.requires.at_least_one_minute

pub charge_after-requires-clause-at_most_a_day : goal.charge_after-requires-clause-at_most_a_day
charge_after-requires-clause-at_most_a_day c = rw (to_z-of_z w64 c.args.minutes c.ranges.minutes) c.requires.at_most_a_day

pub returns-in-Freezer : goal.returns-in-Freezer
unfolding tick
returns-in-Freezer c = search rules

pub returns-in-HeatPump : goal.returns-in-HeatPump
unfolding tick
returns-in-HeatPump c =
    let power = c.ranges.power in
    let now : FitsSigned w64 c.args.now = search rules in
    let loss : FitsSigned w64 c.in-HeatPump.loss = search rules in
    let gain : FitsSigned w64 c.in-HeatPump.gain = search rules in
    let result : FitsSigned w64 c.heated_after.result = search rules in
    let after = simp to_z-of_z at c.heated_after.ensures.after in
    rw c.in-HeatPump.is (simp to_z-of_z after)

pub returns-in-Cogeneration : goal.returns-in-Cogeneration
unfolding tick
returns-in-Cogeneration c =
    let power = c.ranges.power in
    let now : FitsSigned w64 c.args.now = search rules in
    let loss : FitsSigned w64 c.in-Cogeneration.loss = search rules in
    let gain : FitsSigned w64 c.in-Cogeneration.gain = search rules in
    let result : FitsSigned w64 c.heated_after-in-Cogeneration.result = search rules in
    let after = simp to_z-of_z at c.heated_after-in-Cogeneration.ensures.after in
    rw c.in-Cogeneration.is (simp to_z-of_z after)

pub returns-in-Battery : goal.returns-in-Battery
unfolding tick
returns-in-Battery c = search rules

pub returns-in-Solar : goal.returns-in-Solar
unfolding tick
returns-in-Solar c = search rules
