-- Of `Judge::make`: what it ensures; what the calls of `clear` and `close` require.
use Rattle.std.proofs.Common.{sym, ap, subst, map, Vec, Global, ℕ}
use Rattle.pm_plan.specs.Plans.{PlanData}
use Rattle.pm_walk.specs.Auctions.{IsAuction}
use Rattle.pm_check.specs.Judges.{HasRow, HasMade, IsJudge}
use Rattle.pm_check.specs.declared.judge.Judge.{Judge}
use Rattle.pm_check.proofs.Making.{on_ok, closed_within, clear_rises, clear_planned, clear_made, close_ended, close_made, other_made}
use Rattle.pm_check.proofs.judge.Judge.make.Goals as goal

-- the auction stands at the phases that its owner counts as closed
auction_is : (plan : PlanData) (judge : Judge) → IsJudge plan judge → IsAuction plan judge.steps.closed judge.steps.auction
auction_is plan judge is = subst (λ closed. IsAuction plan closed judge.steps.auction) (sym is.cleared.closed) is.cleared.auction

pub clear-requires-clause-auction : goal.clear-requires-clause-auction
clear-requires-clause-auction c = auction_is c.args.plan.now c.args.self.now c.requires.judge

pub close-requires-clause-auction : goal.close-requires-clause-auction
close-requires-clause-auction c = auction_is c.args.plan.now c.args.self.now c.requires.judge

pub clear-requires-clause-open : goal.clear-requires-clause-open
clear-requires-clause-open c = closed_within c.args.plan.now c.args.self.now c.requires.judge c.args.what c.requires.legal

pub clear-requires-clause-rises : goal.clear-requires-clause-rises
clear-requires-clause-rises c =
    let applied = c.in_ok-apply.ensures in
    clear_rises c.args.plan.now c.args.self.now c.requires.judge c.args.what c.requires.legal c.apply.new.self applied.lists applied.ok
    c.in-Clear.index c.in-Clear.is c.cleared.result.now c.cleared.ensures

pub clear-requires-clause-planned : goal.clear-requires-clause-planned
clear-requires-clause-planned c =
    let applied = c.in_ok-apply.ensures in
    clear_planned c.args.plan.now c.args.self.now c.requires.judge c.args.what c.requires.legal c.apply.new.self applied.lists applied.ok
    c.in-Clear.index c.in-Clear.is c.cleared.result.now c.cleared.ensures

pub close-requires-clause-open : goal.close-requires-clause-open
close-requires-clause-open c = closed_within c.args.plan.now c.args.self.now c.requires.judge c.args.what c.requires.legal

pub close-requires-clause-ended : goal.close-requires-clause-ended
close-requires-clause-ended c =
    let applied = c.in_ok-apply.ensures in
    close_ended c.args.plan.now c.args.self.now c.requires.judge c.args.what c.requires.legal c.apply.new.self applied.lists applied.ok
    c.in-Close.phase c.in-Close.is

pub returns-in-Clear : goal.returns-in-Clear
returns-in-Clear c =
    let applied = c.in_ok-apply.ensures in
    let cleared = c.clear.ensures in
    on_ok (HasRow c.args.plan.now c.args.self.now.steps c.clear.new.self)
    (HasMade c.args.plan.now c.args.self.now (record { market = c.apply.new.self; steps = c.clear.new.self }) c.args.what)
    (clear_made c.args.plan.now c.args.self.now c.requires.judge c.args.what c.requires.legal c.apply.new.self applied.lists applied.ok
    c.in-Clear.index c.in-Clear.is c.cleared.result.now c.cleared.ensures c.clear.new.self cleared.closed cleared.auction cleared.cut)
    c.clear.result cleared.row

pub returns-in-Close : goal.returns-in-Close
returns-in-Close c =
    let applied = c.in_ok-apply.ensures in
    let closed = c.close.ensures in
    close_made c.args.plan.now c.args.self.now c.requires.judge c.args.what c.requires.legal c.apply.new.self applied.lists applied.ok
    c.in-Close.phase c.in-Close.is
    c.close.new.self closed.closed closed.auction closed.cut
    (ap (λ (rows : Vec (Vec ℕ Global) Global). map (λ (row : Vec ℕ Global). row.items) rows.items) closed.rows)

pub returns-in_default : goal.returns-in_default
returns-in_default c =
    let applied = c.in_ok-apply.ensures in
    other_made c.args.plan.now c.args.self.now c.requires.judge c.args.what c.requires.legal c.apply.new.self applied.lists applied.ok
    c.in_default.not-Clear c.in_default.not-Close
