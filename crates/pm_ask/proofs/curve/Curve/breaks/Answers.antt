-- Of `Curve::breaks`: what it ensures.
use Rattle.std.proofs.Common.{arith}
use Rattle.pm_ask.proofs.BreakLists.{kept_breaks_are, breaks_are_inside, steps_of_breaks}
use Rattle.pm_ask.proofs.curve.Curve.breaks.Goals as goal

pub returns : goal.returns
returns c =
    let is = c.self.invariant in
    let are = kept_breaks_are _ _ is in
    rw (c.deref.ensures.value, ← c.self.view_is) (record {
      list = is.its_own;
      inside = breaks_are_inside _ _ (omega (arith, is.steps.least)) are;
      steps = steps_of_breaks _ _ are;
      rise = are.rise;
      ends = are.ends;
      each = are.each;
      only = are.only;
    })
