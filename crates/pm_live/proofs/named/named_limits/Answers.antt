-- Of `named_limits`: its clause `none`.
use Rattle.std.proofs.Common.{◌≡◌, arith, List, ℕ, ℤ, pos, subst}
use Rattle.std.specs.Prelude.{◌≤ℤ◌}
use Rattle.std.specs.Fmt.{signed_decimal}
use Rattle.std.proofs.lemmas.Int.{ints}
use Rattle.pm_base.specs.Limits.{IsWithin, demand_limit}
use Rattle.pm_base.specs.declared.limits.Limits.{Limits}
use Rattle.pm_relay.specs.Relays.{AreRelayLimits}
use Rattle.pm_live.proofs.Texts.{one_number}
use Rattle.pm_live.proofs.named.named_limits.Goals as goal
use Rattle.pm_live.proofs.named.named_limits.Goals.{then-floor-gt0-via-then-floor-gt0, then-floor-gt0-via-else-floor-gt0+then-ceiling-lt0}

-- what two texts write has the signs of the limits that they write
signs_of : (low high : List ℕ) (floor ceiling : ℤ) (limits : Limits) → IsWithin demand_limit floor → IsWithin demand_limit ceiling →
    low ≡ signed_decimal floor → high ≡ signed_decimal ceiling → AreRelayLimits limits → low ≡ signed_decimal limits.floor →
    high ≡ signed_decimal limits.ceiling →
    (floor ≤ℤ pos 0) × (pos 0 ≤ℤ ceiling)
signs_of low high floor ceiling limits within inside is_floor is_ceiling may first second =
    let P : ℤ → Type 0 = λ z. z ≤ℤ pos 0 in
    let Q : ℤ → Type 0 = λ z. pos 0 ≤ℤ z in
    let same_floor = one_number demand_limit demand_limit limits.floor floor low (omega arith) (omega arith) may.floor within first is_floor in
    let same_ceiling = one_number demand_limit demand_limit limits.ceiling ceiling high (omega arith) (omega arith) may.ceiling inside second is_ceiling in
    (subst P same_floor may.around.floor_not_positive, subst Q same_ceiling may.around.ceiling_not_negative)

pub returns-then-floor-gt0-clause-none : goal.returns-then-floor-gt0-clause-none
returns-then-floor-gt0-clause-none c = λ limits may first second.
    let due = signs_of c.args.floor.now c.args.ceiling.now c.in_ok-floor.floor c.in_ok-ceiling.ceiling limits c.in_ok-floor.ensures.within
    c.in_ok-ceiling.ensures.within c.in_ok-floor.ensures.text c.in_ok-ceiling.ensures.text may first second in
    elim c.then-floor-gt0.branch [
      | then-floor-gt0-via-then-floor-gt0 w ↦ omega (arith, ints, due.0, w.if-floor-gt0.true)
      | then-floor-gt0-via-else-floor-gt0+then-ceiling-lt0 w ↦ omega (arith, ints, due.1, w.if-ceiling-lt0.true)
    ]
