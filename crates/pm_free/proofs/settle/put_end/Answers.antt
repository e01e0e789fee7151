-- Of `put_end`: what it ensures.
use Rattle.std.proofs.Common.{◌≡◌, Some}
use Rattle.std.specs.Prelude.{slice_get}
use Rattle.pm_board.specs.Boards.{kept_ends}
use Rattle.pm_plan.specs.Ends.{EndValue}
use Rattle.pm_phase.proofs.DeviceKeeps.{told_of}
use Rattle.pm_free.proofs.SameEnds.{set_same}
use Rattle.pm_free.proofs.settle.put_end.Goals as goal

pub returns-then-place-len : goal.returns-then-place-len
returns-then-place-len c =
    let ends = c.args.ends.now.items in
    record {
      same = set_same ends c.args.place c.in-Some.end
          (told_of c.args.end c.in-Some.end (λ (e : EndValue). slice_get (kept_ends ends) c.args.place ≡ Some e.end) c.in-Some.is c.requires.same);
    }
