-- Of `ports`: the turns of its loop over `node`.
use Rattle.std.proofs.Common.{◌≡◌, ◌∙◌, ap, List, ◌∷◌, [], ◌++◌, replicate, None}
use Rattle.std.proofs.lemmas.List.{replicate_more}
use Rattle.pm_session.specs.declared.port.Port.{Port}
use Rattle.pm_cluster.proofs.opening.ports.Goals as goal

pub loop-node-preserved : goal.loop-node-preserved
loop-node-preserved c =
    let vacant : Port = record { joined = None; given = None } in
    let pushed : c.push.new.self.items ≡ c.loop-node.ports.items ++ c.new.result ∷ [] = c.in_ok-push.ensures.items in
    let before : c.loop-node.ports.items ≡ replicate c.loop-node._node vacant = c.loop-node.invariant in
    pushed ∙ ap (λ (ports : List Port). ports ++ c.new.result ∷ []) before
    ∙ ap (λ (port : Port). replicate c.loop-node._node vacant ++ port ∷ []) c.new.ensures.new ∙ replicate_more c.loop-node._node vacant
