-- What the fields of the limits stand for.
use Rattle.pm_concentrator.specs.Limited.{LimitedValue}
use Rattle.pm_concentrator.specs.declared.limited.Limited.TheInside.{Inside}

abbrev pub limited_of : Inside → LimitedValue
limited_of inside = record { limits = inside.limits; announced = inside.announced }
