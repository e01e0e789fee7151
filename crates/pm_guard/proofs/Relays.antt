-- A relay with a guard of its own is a device to the guard above it.
use Rattle.std.proofs.Common.{◌≡◌, ap, refl, Bool, true, false, cond, ℕ, ◌≤◌, ℤ, ◌≤ℤ◌, arith, List, [], ◌∷◌, ◌++◌}
use Rattle.std.specs.Prelude.{Contains}
use Rattle.std.specs.Int.{int_max, int_min}
use Rattle.std.proofs.lemmas.Int.{ints, clamps}
use Rattle.pm_base.specs.declared.limits.Limits.{Limits}
use Rattle.pm_guard.specs.Bands.{may_span}
use Rattle.pm_guard.specs.Guards.{GuardData, worst, best, is_inside, may_tell, with_bands, bands_of, told_in, promised_in}
use Rattle.pm_guard.specs.Feeders.{RelayOf, Node, flow_in, low_end, high_end}
use Rattle.pm_guard.specs.Histories.{KnowsAll}
use Rattle.pm_guard.specs.declared.band.Band.{Band}
use Rattle.pm_guard.proofs.Nodes.{narrower, span_of}
use Rattle.pm_guard.proofs.Kept.{flow_between}
use Rattle.pm_guard.proofs.Further.{NoFurther, no_further_tell, no_further_heard, inside_is}

higher : (a b c : ℤ) → c ≤ℤ b → c ≤ℤ int_max a b
higher a b c h = omega (arith, ints, clamps)

lower : (a b c : ℤ) → b ≤ℤ c → int_min a b ≤ℤ c
lower a b c h = omega (arith, ints, clamps)

-- what flows through a relay is something that it may take
pub relay_takes : (depth : ℕ) (relay : RelayOf (Node depth)) → KnowsAll depth relay.feeder →
    may_span relay.told relay.promised (low_end relay.feeder.guard) (high_end relay.feeder.guard) ≡ true →
    may_span relay.told relay.promised (flow_in depth relay.feeder) (flow_in depth relay.feeder) ≡ true
relay_takes depth relay knows may =
    let guard = relay.feeder.guard in
    let between = flow_between depth relay.feeder knows in
    narrower relay.told relay.promised (low_end guard) (high_end guard) (flow_in depth relay.feeder) (flow_in depth relay.feeder)
    (lower guard.limits.floor (best guard) _ between.0) (higher guard.limits.ceiling (worst guard) _ between.1) may

top_stays : (c w n : ℤ) → n ≤ℤ int_max c w → int_max c n ≤ℤ int_max c w
top_stays c w n h = omega (arith, ints, clamps)

bottom_stays : (f b n : ℤ) → int_min f b ≤ℤ n → int_min f b ≤ℤ int_min f n
bottom_stays f b n h = omega (arith, ints, clamps)

-- a guard that goes no further lets no more flow
goes_no_further : (told : List Band) (promised : ℕ) (old new : GuardData) → new.limits ≡ old.limits → NoFurther old new →
    may_span told promised (low_end old) (high_end old) ≡ true → may_span told promised (low_end new) (high_end new) ≡ true
goes_no_further told promised old new same far may =
    let ceiling : new.limits.ceiling ≡ old.limits.ceiling = ap (λ (l : Limits). l.ceiling) same in
    let floor : new.limits.floor ≡ old.limits.floor = ap (λ (l : Limits). l.floor) same in
    let top = top_stays old.limits.ceiling (worst old) (worst new) far.worst in
    let bottom = bottom_stays old.limits.floor (best old) (best new) far.best in
    narrower told promised (low_end old) (high_end old) (low_end new) (high_end new)
    (omega (arith, ints, clamps, bottom, floor)) (omega (arith, ints, clamps, top, ceiling)) may

tell_same_limits : (guard : GuardData) (child : ℕ) (band : Band) → (told_in guard child band).limits ≡ guard.limits
tell_same_limits guard child band = cases (may_tell guard child band.low band.high)
  where
    cases : (b : Bool) → (cond b (with_bands guard child (bands_of guard child ++ band ∷ [])) guard).limits ≡ guard.limits
    cases true = refl
    cases false = refl

-- a relay's guard that tells a child lets no more flow
pub relay_tells : (told : List Band) (promised : ℕ) (guard : GuardData) (child : ℕ) (band : Band) →
    may_span told promised (low_end guard) (high_end guard) ≡ true →
    may_span told promised (low_end (told_in guard child band)) (high_end (told_in guard child band)) ≡ true
relay_tells told promised guard child band may =
    goes_no_further told promised guard (told_in guard child band) (tell_same_limits guard child band) (no_further_tell guard child band) may

-- nor does one that hears a promise
pub relay_hears : (told : List Band) (promised : ℕ) (guard : GuardData) (child index : ℕ) →
    may_span told promised (low_end guard) (high_end guard) ≡ true →
    may_span told promised (low_end (promised_in guard child index)) (high_end (promised_in guard child index)) ≡ true
relay_hears told promised guard child index may =
    goes_no_further told promised guard (promised_in guard child index) refl (no_further_heard guard child index) may

-- a relay whose guard is inside limits that it was told may promise to keep to them
pub relay_may_promise : (told : List Band) (guard : GuardData) (band : Band) → Contains told band →
    guard.limits ≡ record { floor = band.low; ceiling = band.high } → is_inside guard ≡ true →
    may_span told band.index (low_end guard) (high_end guard) ≡ true
relay_may_promise told guard band is limits inside =
    let sides = inside_is guard inside in
    let ceiling : guard.limits.ceiling ≡ band.high = ap (λ (l : Limits). l.ceiling) limits in
    let floor : guard.limits.floor ≡ band.low = ap (λ (l : Limits). l.floor) limits in
    span_of told band.index band (low_end guard) (high_end guard) is (omega arith)
    (omega (arith, ints, clamps, sides.1, floor)) (omega (arith, ints, clamps, sides.0, ceiling))

-- a fallback that is counted may be taken
pub may_fall_back : (told : List Band) (promised : ℕ) (fallback : Band) → Contains told fallback → fallback.low ≡ fallback.high →
    promised ≤ fallback.index →
    may_span told promised fallback.high fallback.high ≡ true
may_fall_back told promised fallback is same counts =
    span_of told promised fallback fallback.high fallback.high is counts (omega (arith, ints, same)) (omega (arith, ints))
