-- Of `levels_of`: what it ensures; what the calls of `freezer`, `heat_pump`, `cogeneration` and `battery` require; that its numbers fit.
use Rattle.std.proofs.Common.{arith, rules, ◌≡◌, ◌∙◌, sym, subst, IsTrue, pos, neg_ℤ, ◌-ℤ◌, w64, to_z, of_z}
use Rattle.std.proofs.lemmas.Int.{ints}
use Rattle.pm_device.specs.Kinds.{is_valid, is_battery, state_fits}
use Rattle.pm_device.proofs.Between.{Thermal, is_thermal-tells, is_battery-tells, temperature_kept}
use Rattle.pm_strategy.specs.Strategies.{strategy_demand}
use Rattle.pm_strategy.proofs.BidLaws.{turned_round}
use Rattle.pm_strategy.proofs.Kept.{power_kept, band_kept, battery_kept, charge_kept}
use Rattle.pm_strategy.proofs.kinds.levels_of.Goals as goal

pub returns-in-Freezer : goal.returns-in-Freezer
unfolding strategy_demand
returns-in-Freezer c = search rules

pub returns-in-HeatPump : goal.returns-in-HeatPump
unfolding strategy_demand
returns-in-HeatPump c = search rules

pub returns-in-Cogeneration : goal.returns-in-Cogeneration
unfolding strategy_demand
returns-in-Cogeneration c = search rules

pub returns-in-Battery : goal.returns-in-Battery
unfolding strategy_demand
returns-in-Battery c = search rules

pub returns-in-Load : goal.returns-in-Load
unfolding strategy_demand
returns-in-Load c = search rules

pub returns-in-Solar : goal.returns-in-Solar
returns-in-Solar c =
    let turned = turned_round c.args.kind.now c.args.state.0 c.requires.fits c.in-Solar.is in
    let within = turned.within in
    let demand : to_z w64 (of_z w64 (pos 0 -ℤ to_z w64 (of_z w64 c.args.state.0))) ≡ neg_ℤ c.args.state.0 = omega (arith, ints) in
    record {
      levels = record {
        strategic = turned.strategic;
        each = λ step. c.flat.ensures step ∙ (demand ∙ sym (turned.each c.args.last step));
      };
    }

-- what such a device's parameters say
freezer_tells : (c : goal.In-Freezer) → Thermal c.in-Freezer.low c.in-Freezer.high c.in-Freezer.power
freezer_tells c =
    let d = c.in-Freezer in
    is_thermal-tells d.low d.high d.power d.warm d.cool (subst (λ k. IsTrue (is_valid k)) d.is c.requires.valid)

pub freezer-requires-clause-band : goal.freezer-requires-clause-band
freezer-requires-clause-band c = band_kept c.in-Freezer.low c.in-Freezer.high (freezer_tells c).ends

pub freezer-requires-clause-temperature : goal.freezer-requires-clause-temperature
freezer-requires-clause-temperature c =
    temperature_kept c.args.state.0 (subst (λ k. IsTrue (state_fits k c.args.state.0)) c.in-Freezer.is c.requires.fits)

-- what such a device's parameters say
heat_pump_tells : (c : goal.In-HeatPump) → Thermal c.in-HeatPump.low c.in-HeatPump.high c.in-HeatPump.power
heat_pump_tells c =
    let d = c.in-HeatPump in
    is_thermal-tells d.low d.high d.power d.loss d.gain (subst (λ k. IsTrue (is_valid k)) d.is c.requires.valid)

pub heat_pump-requires-clause-band : goal.heat_pump-requires-clause-band
heat_pump-requires-clause-band c = band_kept c.in-HeatPump.low c.in-HeatPump.high (heat_pump_tells c).ends

pub heat_pump-requires-clause-room : goal.heat_pump-requires-clause-room
heat_pump-requires-clause-room c =
    temperature_kept c.args.state.0 (subst (λ k. IsTrue (state_fits k c.args.state.0)) c.in-HeatPump.is c.requires.fits)

-- what such a device's parameters say
cogeneration_tells : (c : goal.In-Cogeneration) → Thermal c.in-Cogeneration.low c.in-Cogeneration.high c.in-Cogeneration.power
cogeneration_tells c =
    let d = c.in-Cogeneration in
    is_thermal-tells d.low d.high d.power d.loss d.gain (subst (λ k. IsTrue (is_valid k)) d.is c.requires.valid)

pub cogeneration-requires-clause-band : goal.cogeneration-requires-clause-band
cogeneration-requires-clause-band c = band_kept c.in-Cogeneration.low c.in-Cogeneration.high (cogeneration_tells c).ends

pub cogeneration-requires-clause-power : goal.cogeneration-requires-clause-power
cogeneration-requires-clause-power c = power_kept c.in-Cogeneration.power (cogeneration_tells c).rated

pub cogeneration-requires-clause-buffer : goal.cogeneration-requires-clause-buffer
cogeneration-requires-clause-buffer c =
    temperature_kept c.args.state.0 (subst (λ k. IsTrue (state_fits k c.args.state.0)) c.in-Cogeneration.is c.requires.fits)

battery_valid : (c : goal.In-Battery) →
    IsTrue (is_battery c.in-Battery.capacity c.in-Battery.charge c.in-Battery.discharge c.in-Battery.spread)
battery_valid c = subst (λ k. IsTrue (is_valid k)) c.in-Battery.is c.requires.valid

pub battery-requires-clause-parameters : goal.battery-requires-clause-parameters
battery-requires-clause-parameters c =
    let d = c.in-Battery in
    battery_kept d.capacity d.charge d.discharge d.spread (battery_valid c)

pub battery-requires-clause-stored : goal.battery-requires-clause-stored
battery-requires-clause-stored c =
    let d = c.in-Battery in
    let within = is_battery-tells d.capacity d.charge d.discharge d.spread (battery_valid c) in
    charge_kept d.capacity c.args.state.0 within.capacity_within (subst (λ k. IsTrue (state_fits k c.args.state.0)) d.is c.requires.fits)

pub overflow_sub-now : goal.overflow_sub-now
overflow_sub-now c =
    let within = (turned_round c.args.kind.now c.args.state.0 c.requires.fits c.in-Solar.is).within in
    omega (arith, ints)
