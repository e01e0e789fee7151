-- Of `offer_demand`: what it ensures; what the calls of `parent_of`, `place_in_row`, `exchange_bid` and `offer_bid` require.
use Rattle.std.proofs.Common.{◌∙◌, sym, rules}
use Rattle.std.proofs.lemmas.List.{length-replicate}
use Rattle.pm_base.specs.Rows.{rows_of}
use Rattle.pm_market.proofs.Tree.{leaf_node}
use Rattle.pm_plan.specs.Market.{plan_lists}
use Rattle.pm_plan.proofs.MarketLists.{lawful}
use Rattle.pm_cluster.proofs.Making.{read_link, read_steps, offered_demand}
use Rattle.pm_cluster.proofs.changes.offer_demand.Goals as goal

pub parent_of-parent-requires : goal.parent_of-parent-requires
parent_of-parent-requires c = record {
  node = leaf_node (plan_lists c.args.plan.now) (lawful c.args.plan.now c.requires.change.is_plan) c.args.next.device c.requires.change.leaf;
}

pub place_in_row-place-requires : goal.place_in_row-place-requires
place_in_row-place-requires c = record {
  node = leaf_node (plan_lists c.args.plan.now) (lawful c.args.plan.now c.requires.change.is_plan) c.args.next.device c.requires.change.leaf;
}

pub exchange_bid-requires-clause-link : goal.exchange_bid-requires-clause-link
exchange_bid-requires-clause-link c =
    read_link c.args.plan.now c.args.links.now.items c.args.next.device c.parent_of-parent.result c.place_in_row-place.result
    c.parent_of-parent.ensures.parent c.place_in_row-place.ensures.place c.requires.link.row c.requires.link.place

pub exchange_bid-requires-clause-steps : goal.exchange_bid-requires-clause-steps
exchange_bid-requires-clause-steps c =
    c.requires.link.room
    ∙ sym (read_steps c.args.plan.now (rows_of c.args.links.now.items) c.args.next.device c.parent_of-parent.result c.place_in_row-place.result
    c.parent_of-parent.ensures.parent c.place_in_row-place.ensures.place c.requires.link.steps)

pub offer_bid-requires-clause-link : goal.offer_bid-requires-clause-link
offer_bid-requires-clause-link c =
    read_link c.args.plan.now c.args.links.now.items c.args.next.device c.parent_of-parent.result c.place_in_row-place.result
    c.parent_of-parent.ensures.parent c.place_in_row-place.ensures.place c.requires.link.row c.requires.link.place

pub offer_bid-requires-clause-steps : goal.offer_bid-requires-clause-steps
offer_bid-requires-clause-steps c = length-replicate _ _

pub returns-then-next : goal.returns-then-next
returns-then-next c =
    let plan = c.args.plan.now in
    let next = c.args.next in
    record {
      offered = record {
        one = search rules;
        offered = offered_demand plan (rows_of c.args.links.now.items) (rows_of c.exchange_bid.new.links.items) next.device next.number
            c.parent_of-parent.result c.place_in_row-place.result next.member c.args.demand.now c.parent_of-parent.ensures.parent
            c.place_in_row-place.ensures.place c.if-next.true (c.requires.change.demand c.if-next.true) c.exchange_bid.ensures.offered;
        room = c.exchange_bid.ensures.same_length ∙ c.requires.link.room;
      };
    }
