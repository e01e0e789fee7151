-- A kind of device in a frame: its number among the kinds, and its parameters in their order with zeros behind them.
use Rattle.std.specs.Prelude.{ℕ, ◌<◌, ◌^◌, ◌==◌, ◌&&◌, pos, Bool, if◌then◌else◌, List, ◌∷◌, ◌++◌, Option, Some}
use Rattle.std.specs.Prelude.{None, IsTrue, FitsSigned}
use Rattle.std.specs.Int.{w32}
use Rattle.std.specs.Ordering.{int_eq}
use Rattle.pm_device.specs.Kinds.{is_valid}
use Rattle.pm_device.specs.declared.kind.Kind.{Kind}
use Rattle.pm_device.specs.declared.kind.Kind.TheVariants.{Freezer, HeatPump, Cogeneration, Battery, Solar, Load}
use Rattle.pm_wire.specs.Frames.{signed_bytes}
use Rattle.pm_frames.specs.Kinds.{kind_kind}
use Rattle.pm_frames.specs.declared.named_kind.NamedKind.{NamedKind}

abbrev pub kind_bytes : NamedKind → List ℕ
kind_bytes named =
    kind_kind ∷ (named.number ∷ (signed_bytes named.first
    ++ (signed_bytes named.second ++ (signed_bytes named.third ++ (signed_bytes named.fourth ++ signed_bytes named.fifth)))))

abbrev pub IsKindFormed : NamedKind → Type 0
IsKindFormed named = (named.number < 2 ^ 8) × FitsSigned w32 named.first × FitsSigned w32 named.second × FitsSigned w32 named.third
    × FitsSigned w32 named.fourth × FitsSigned w32 named.fifth

-- whether no parameter is named
abbrev pub is_bare : NamedKind → Bool
is_bare named =
    int_eq named.first (pos 0) && int_eq named.second (pos 0) && int_eq named.third (pos 0) && int_eq named.fourth (pos 0)
    && int_eq named.fifth (pos 0)

-- the kind that is named: a parameter that a kind does not have is 0
abbrev pub kind_of_named : NamedKind → Option Kind
kind_of_named named =
    if named.number == 0
    then Some (Freezer named.first named.second named.third named.fourth named.fifth)
    else (if named.number == 1
    then Some (HeatPump named.first named.second named.third named.fourth named.fifth)
    else (if named.number == 2
    then Some (Cogeneration named.first named.second named.third named.fourth named.fifth)
    else (if named.number == 3
    then (if int_eq named.fifth (pos 0) then Some (Battery named.first named.second named.third named.fourth) else None)
    else (if named.number == 4
    then (if is_bare named then Some Solar else None)
    else (if named.number == 5 then (if is_bare named then Some Load else None) else None)))))

-- there is a kind, and its parameters are within their limits
abbrev pub IsValidKind : Option Kind → Type 0
IsValidKind None = ⊥
IsValidKind (Some kind) = IsTrue (is_valid kind)
