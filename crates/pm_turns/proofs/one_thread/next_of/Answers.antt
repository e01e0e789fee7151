-- Of `next_of`: its clauses `next`, `its` and `none`; what the call of `next` requires.
use Rattle.std.proofs.Common.{◌≡◌, ◌∙◌, sym, subst, true, rules}
use Rattle.std.proofs.lemmas.Option.{MatchOption-at_none}
use Rattle.pm_board.specs.Boards.{board_state}
use Rattle.pm_market.specs.Lists.{IsLeaf}
use Rattle.pm_plan.specs.Market.{plan_lists}
use Rattle.pm_plan.specs.Plans.{PlanData}
use Rattle.pm_turns.proofs.Devices.{next_told, next_its}
use Rattle.pm_turns.proofs.one_thread.next_of.Goals as goal
use Rattle.pm_turns.proofs.one_thread.next_of.Goals.{After-is_device}

leaf : (c : After-is_device) → c.is_device.result ≡ true → IsLeaf (plan_lists c.args.board.now.plan) c.args.number
leaf c on = subst (λ (p : PlanData). IsLeaf (plan_lists p) c.args.number) c.plan.ensures.plan (sym c.is_device.ensures ∙ on)

pub next-requires : goal.next-requires
next-requires c = record {
  leaf = leaf (goal.at.next-requires c).After-is_device (let on : c.is_device.result ≡ true = search rules in on);
}

pub returns-clause-next : goal.returns-clause-next
returns-clause-next c =
    let s = board_state c.args.board.now in
    next_told c.args.board.now.plan s.closed s.counts c.args.number c.next.result
    (leaf (goal.at.returns-clause-next c).After-is_device (let on : c.is_device.result ≡ true = search rules in on)) c.next.ensures.next

pub returns-clause-its : goal.returns-clause-its
returns-clause-its c =
    let s = board_state c.args.board.now in
    next_its c.args.board.now.plan s.closed s.counts c.args.number c.next.result c.next.ensures.next

pub returns-clause-none : goal.returns-clause-none
returns-clause-none c none leaf = MatchOption-at_none _ _ none c.next.ensures.next
