-- Why a total has no curve.
use Rattle.std.specs.Prelude.{◌≡◌, ◌<◌, ℤ, List, length, ⊤}
use Rattle.pm_bid.specs.Checks.{first_rising}
use Rattle.pm_ask.specs.declared.fault.CurveFault.{CurveFault}
use Rattle.pm_ask.specs.declared.fault.CurveFault.TheVariants.{Rising, NoMemory}

-- a total is refused if it rises, at the first step whose total is above the one before
abbrev pub IsFaultOf : List ℤ → CurveFault → Type 0
IsFaultOf total (Rising at) = (at ≡ first_rising total) × (at < length total)
IsFaultOf total NoMemory = ⊤
