-- Of `Market::apply`: what the calls of `count`, `learn`, `publish` and `pass` require.
use Rattle.std.proofs.Common.{arith}
use Rattle.pm_market.specs.Lists.{parent}
use Rattle.pm_market.specs.Market.{market_lists, market_state, market_due}
use Rattle.pm_market.proofs.Due.{reached_made}
use Rattle.pm_market.proofs.Legality.{reached_at, change_from, learn_from, publish_from, pass_from, legal_change, legal_learn, legal_publish, legal_pass}
use Rattle.pm_market.proofs.Legality.{leaf_within}
use Rattle.pm_market.proofs.market.Market.apply.Goals as goal

pub count-requires : goal.count-requires
count-requires c =
    let lists = market_lists c.args.self.now in
    let s = market_state c.args.self.now in
    leaf_within lists c.in-Change.device (omega arith)
    (change_from lists s c.in-Change.device c.in-Change.number
    (legal_change lists s c.args.what c.in-Change.device c.in-Change.number c.in-Change.is c.requires)).0

pub learn-requires : goal.learn-requires
learn-requires c =
    let lists = market_lists c.args.self.now in
    let s = market_state c.args.self.now in
    (learn_from lists s c.in-Learn.child c.in-Learn.number (legal_learn lists s c.args.what c.in-Learn.child c.in-Learn.number c.in-Learn.is c.requires)).0

pub publish-requires : goal.publish-requires
publish-requires c =
    let lists = market_lists c.args.self.now in
    let s = market_state c.args.self.now in
    let node = (publish_from lists s c.in-Publish.node c.in-Publish.number
    (legal_publish lists s c.args.what c.in-Publish.node c.in-Publish.number c.in-Publish.is c.requires)).0 in
    (node.0, node.1)

pub pass-requires-clause-made : goal.pass-requires-clause-made
pass-requires-clause-made c =
    let m = c.args.self.now in
    let lists = market_lists m in
    let s = market_state m in
    let legal = pass_from lists s c.in-Pass.node c.in-Pass.index (legal_pass lists s c.args.what c.in-Pass.node c.in-Pass.index c.in-Pass.is c.requires) in
    reached_made lists s (market_due m) m.greatest_due (parent lists c.in-Pass.node) c.in-Pass.index
    (reached_at s (parent lists c.in-Pass.node) c.in-Pass.index legal.1)

pub pass-requires-clause-node : goal.pass-requires-clause-node
pass-requires-clause-node c =
    let lists = market_lists c.args.self.now in
    let s = market_state c.args.self.now in
    (pass_from lists s c.in-Pass.node c.in-Pass.index (legal_pass lists s c.args.what c.in-Pass.node c.in-Pass.index c.in-Pass.is c.requires)).0.1
