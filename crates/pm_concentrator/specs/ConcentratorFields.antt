-- What the fields of a concentrator stand for.
use Rattle.std.specs.Prelude.{option_map}
use Rattle.pm_concentrator.specs.Concentrators.{Gathered, IsGathered}
use Rattle.pm_concentrator.specs.declared.concentrator.Concentrator.TheInside.{Inside}

abbrev pub gathered_of : Inside → Gathered
gathered_of inside = record {
  cache = inside.cache;
  window = inside.window;
  limits = option_map (λ l. l.limits) inside.limited;
  announced = option_map (λ l. l.announced) inside.limited;
}

-- what the fields keep: what they stand for is sound
abbrev pub AreConcentratorFields : Inside → Type 0
AreConcentratorFields inside = IsGathered (gathered_of inside)
