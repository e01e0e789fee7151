-- Of `push_to`: what it ensures.
use Rattle.pm_tree.proofs.TableLists.{lists_of-set}
use Rattle.pm_tree.proofs.lists.push_to.Goals as goal

pub returns : goal.returns
returns c = lists_of-set c.args.lists.now c.args.at.0 c.args.node c.index-lists-at.result c.push.new.self c.requires
    c.index-lists-at.is c.in_ok-push.ensures.items
