-- Step by step: a value, or the first refusal.
use Rattle.std.specs.Prelude.{◌≡◌, ℕ, Bool, true, false, Option, Some, None, Result, Ok, Err, ⊤}
use Rattle.pm_base.specs.Outcomes.{Refuses}
use Rattle.pm_plan.specs.Causes.{cause_code}
use Rattle.pm_plan.specs.declared.refusal.Cause.{Cause}
use Rattle.pm_plan.specs.declared.refusal.Place.{Place}
use Rattle.pm_plan.specs.declared.refusal.Refusal.{Refusal}
use Rattle.pm_plan.specs.declared.refusal.PlanFault.{PlanFault}
use Rattle.pm_plan.specs.declared.refusal.PlanFault.TheVariants as faults

-- a refusal without an item, and one with it
abbrev pub refuse : {A : Type 0} → Cause → Place → Result A Refusal
refuse cause place = Err (record { code = cause_code cause; place = place; item = None })

abbrev pub refuse_item : {A : Type 0} → Cause → Place → ℕ → Result A Refusal
refuse_item cause place item = Err (record { code = cause_code cause; place = place; item = Some item })

-- the value, if there is one
abbrev pub need : {A : Type 0} → Cause → Place → Option A → Result A Refusal
need cause place None = refuse cause place
need cause place (Some x) = Ok x

-- nothing, if the test holds
abbrev pub check : Cause → Place → Bool → Result ⊤ Refusal
check cause place true = Ok tt
check cause place false = refuse cause place

-- the refusal of a fault; none if an allocation failed
abbrev pub refusal_in : PlanFault → Option Refusal
refusal_in faults.NoMemory = None
refusal_in (faults.Refused refusal) = Some refusal

-- what a function made of a state is what the reading gives, unless an allocation failed
abbrev pub Makes : {Y : Type 0} → Result ⊤ PlanFault → Y → Result Y Refusal → Type 0
Makes (Ok x) new read = read ≡ Ok new
Makes (Err e) new read = Refuses (refusal_in e) read

-- the same, with the value that it answers
abbrev pub MakesValue : {X Y : Type 0} → Result X PlanFault → Y → Result (X × Y) Refusal → Type 0
MakesValue (Ok x) new read = read ≡ Ok (x, new)
MakesValue (Err e) new read = Refuses (refusal_in e) read
