-- Why a file, or an input that begins with one, is refused, and the number of each cause.
use Rattle.std.specs.Prelude.{ℕ}
use Rattle.pm_plan.specs.declared.refusal.Cause.{Cause}
use Rattle.pm_plan.specs.declared.refusal.Cause.TheVariants.{Unreadable, WrongType, MissingMember, UnknownMember, UnknownVersion, BadBasis, BadName, NameTwice}
use Rattle.pm_plan.specs.declared.refusal.Cause.TheVariants.{UnknownParent, TooDeep, TooManyNodes, UnknownKind, OutsideLimits, UnknownDevice, JoinedAlready}
use Rattle.pm_plan.specs.declared.refusal.Cause.TheVariants.{NotJoined, BadArray, BadPoints, UnfitState, RunTooLarge, LimitedTwice, BadEnvelope, BadTarget}

-- the number by which the line of a refusal names its cause
abbrev pub cause_code : Cause → ℕ
cause_code Unreadable = 1
cause_code WrongType = 2
cause_code MissingMember = 3
cause_code UnknownMember = 4
cause_code UnknownVersion = 5
cause_code BadBasis = 6
cause_code BadName = 7
cause_code NameTwice = 8
cause_code UnknownParent = 9
cause_code TooDeep = 10
cause_code TooManyNodes = 11
cause_code UnknownKind = 12
cause_code OutsideLimits = 13
cause_code UnknownDevice = 14
cause_code JoinedAlready = 15
cause_code NotJoined = 16
cause_code BadArray = 17
cause_code BadPoints = 18
cause_code UnfitState = 19
cause_code RunTooLarge = 20
cause_code LimitedTwice = 22
cause_code BadEnvelope = 23
cause_code BadTarget = 25
