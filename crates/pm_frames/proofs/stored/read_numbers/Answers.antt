-- Of `read_numbers`: its clause `bytes`; the turns of its loop over `child`.
use Rattle.std.proofs.Common.{◌≡◌, ◌∙◌, ap, sym, subst, ℕ, ◌<◌, ◌^◌, length, ◌∷◌, ◌++◌, [], List, arith}
use Rattle.std.proofs.Common.{length-append}
use Rattle.std.specs.Int.{w32, to_be_bytes}
use Rattle.std.specs.List.{AllByRecursion}
use Rattle.std.proofs.lemmas.Grind.{common_steps}
use Rattle.pm_frames.specs.Stored.{number_bytes}
use Rattle.pm_frames.proofs.OneNumber.{numbers_more, fit_more}
use Rattle.pm_frames.proofs.stored.read_numbers.Goals as goal

pub loop-child-preserved : goal.loop-child-preserved
loop-child-preserved g c =
    let number = c.read_u32-number.result.0 in
    let after = c.read_u32-number.result.1.now in
    let pushed : c.push.new.self.items ≡ c.loop-child.numbers.items ++ number ∷ [] = c.in-Ok.ensures.items in
    let P : List ℕ → Type 0 = λ l. AllByRecursion (λ n. n < 2 ^ 32) l in
    let small : number < 2 ^ 32 = omega arith in
    record {
      bytes = numbers_more _ _ after _ number c.loop-child.invariant.bytes c.read_u32-number.ensures ∙ ap (λ l. number_bytes l ++ after) (sym pushed);
      left = omega (arith, c.loop-child.invariant.left, ap length c.read_u32-number.ensures, length-append (to_be_bytes w32 number) after);
      fit = subst P (sym pushed) (fit_more _ number c.loop-child.invariant.fit small);
      count = ap length pushed ∙ omega (arith, length-append c.loop-child.numbers.items (number ∷ []), c.loop-child.invariant.count);
      filled = omega (arith, c.in-Ok.ensures.len, c.loop-child.invariant.filled);
      room = omega (arith, c.in-Ok.ensures.capacity, c.loop-child.invariant.room);
    }

pub returns-clause-bytes : goal.returns-clause-bytes
returns-clause-bytes g c = grind (arith, common_steps)
