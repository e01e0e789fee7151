-- Of `read_child`: what it ensures.
use Rattle.pm_frames.proofs.ReadNodes.{child_refused, nothing_read, giver_refused, child_read, fails, passes}
use Rattle.pm_frames.proofs.relay.read_child.Goals as goal

pub returns-in_default-clause-one : goal.returns-in_default-clause-one
returns-in_default-clause-one g c =
    child_refused _ _ _ c.requires.kind (nothing_read _ _ _ _ _ c.bid_place.ensures c.in_default.is c.in_ok-frame.ensures.one)

pub returns-then-not-is_for_child-clause-one : goal.returns-then-not-is_for_child-clause-one
returns-then-not-is_for_child-clause-one g c =
    giver_refused _ _ _ _ _ _ c.requires.kind c.bid_place.ensures c.in-Some.is c.in_ok-frame.ensures.one
    (fails c.is_for_child.result c.if-not-is_for_child.true c.is_for_child.ensures.1)

pub returns-clause-one : goal.returns-clause-one
returns-clause-one g c =
    child_read _ _ _ _ _ _ c.requires.kind c.bid_place.ensures c.in-Some.is c.in_ok-frame.ensures.one
    (passes c.is_for_child.result c.if-not-is_for_child.false c.is_for_child.ensures.0)
