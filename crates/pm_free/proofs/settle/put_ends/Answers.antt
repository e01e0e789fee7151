-- Of `put_ends`: what the call of `put_end` requires; the turns of its loop over `phase`.
use Rattle.std.proofs.Common.{◌∙◌, sym, ap, subst, List, length, arith}
use Rattle.pm_board.specs.Boards.{kept_ends}
use Rattle.pm_plan.specs.Auction.{EndData}
use Rattle.pm_free.specs.SameEnds.{IsSameEnd, AreSameEnds}
use Rattle.pm_free.specs.declared.phase.FreePhase.{FreePhase}
use Rattle.pm_free.proofs.SameEnds.{first_same, rest_same}
use Rattle.pm_free.proofs.settle.put_ends.Goals as goal

pub put_end-requires : goal.put_end-requires
put_end-requires c =
    let ends = kept_ends c.args.ends.now.items in
    let place = c.loop-phase.place in
    let phase = c.in-Some.phase in
    let same = subst (λ (ps : List FreePhase). AreSameEnds place ps ends) c.in-Some.ensures.steps.0 c.loop-phase.invariant.1 in
    record {
      same = subst (λ (es : List EndData). IsSameEnd place phase.end es) (sym c.loop-phase.invariant.0)
          (first_same place phase c.next.new.self.rest.items ends same);
    }

pub loop-phase-preserved : goal.loop-phase-preserved
loop-phase-preserved c =
    let ends = kept_ends c.args.ends.now.items in
    let place = c.loop-phase.place in
    let same = subst (λ (ps : List FreePhase). AreSameEnds place ps ends) c.in-Some.ensures.steps.0 c.loop-phase.invariant.1 in
    let long = ap (λ (ps : List FreePhase). length ps) c.in-Some.ensures.steps.0 in (
      c.put_end.ensures.same ∙ c.loop-phase.invariant.0,
      rest_same place c.in-Some.phase c.next.new.self.rest.items ends same,
      omega (arith, c.loop-phase.invariant.2, long),
    )
