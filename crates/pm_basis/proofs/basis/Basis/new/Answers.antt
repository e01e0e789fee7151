-- Of `Basis::new`: what it ensures; what the type keeps.
use Rattle.std.proofs.Common.{◌≡◌, ◌∙◌, sym, pos, to_z, of_z, w64, arith}
use Rattle.std.specs.Prelude.{◌-ℤ◌, unsigned_abs}
use Rattle.std.proofs.lemmas.Int.{ints}
use Rattle.pm_basis.proofs.Rises.{no_rest}
use Rattle.pm_basis.proofs.basis.Basis.new.Goals as goal

pub invariant_of-result : goal.invariant_of-result
invariant_of-result c =
    let min = to_z w64 (of_z w64 c.args.min) in
    let max = to_z w64 (of_z w64 c.args.max) in
    let steps = to_z w64 (of_z w64 c.args.steps) in
    let parts : pos (unsigned_abs steps) ≡ steps = omega (arith, ints) in
    record {
      steps = record { least = omega (arith, ints); most = omega (arith, ints) };
      order = grind (arith, ints);
      low = grind (arith, ints);
      high = grind (arith, ints);
      even = no_rest (to_z w64 (of_z w64 (max -ℤ min))) (to_z w64 (of_z w64 (steps -ℤ pos 1))) (max -ℤ min)
          (pos (unsigned_abs steps) -ℤ pos 1) (sym c.leaves_rest.ensures ∙ c.if-leaves_rest.false) (omega (arith, ints)) (omega (arith, ints));
    }

pub returns-then-max-min : goal.returns-then-max-min
returns-then-max-min c = grind (arith, ints)

pub returns-then-leaves_rest : goal.returns-then-leaves_rest
returns-then-leaves_rest c = grind (arith, ints)

pub returns : goal.returns
returns c = grind (arith, ints)
