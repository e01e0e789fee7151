-- Of `live_peer`: its clauses `serves`, `process`, `due` and `no_memory`.
use Rattle.std.proofs.Common.{◌≡◌, ◌⊎◌, refl, subst}
use Rattle.pm_io.specs.Causes.{Rose}
use Rattle.pm_live.specs.Serving.{ServesNode, EndsNodeAsDue, EndsNodeSettingUp}
use Rattle.pm_live.specs.declared.named.LiveNode.{LiveNode}
use Rattle.pm_live.proofs.OneNode.{one_node}
use Rattle.pm_live.proofs.Processes.{served_process}
use Rattle.pm_live.proofs.top.live_peer.Goals as goal

pub returns-in-Some-clause-serves : goal.returns-in-Some-clause-serves
returns-in-Some-clause-serves g c = λ node named.
    let same : c.in-Some.node ≡ node = one_node _ c.in-Some.node node c.in-Some.ensures.named named in
    let P : LiveNode → Type 0 = λ it. ServesNode it (g.W.Peer.left c.args.wire.now) (g.W.Peer.left c.serve_named.new.wire)
    (g.W.Peer.held c.args.wire.now) (g.W.Peer.held c.serve_named.new.wire)
    (Rose (g.W.Peer.read_faults c.args.wire.now) (g.W.Peer.read_faults c.serve_named.new.wire))
    (Rose (g.W.Peer.write_faults c.args.wire.now) (g.W.Peer.write_faults c.serve_named.new.wire)) c.serve_named.result in
    (c.serve_named.result, refl, subst P same c.serve_named.ensures.serves)

pub returns-in-Some-clause-process : goal.returns-in-Some-clause-process
returns-in-Some-clause-process g c = λ node named.
    let serves = returns-in-Some-clause-serves g c node named in
    served_process node _ _ _ _ _ _ serves.0 serves.2

pub returns-in-Some-clause-due : goal.returns-in-Some-clause-due
returns-in-Some-clause-due g c = λ node all named told.
    let same : c.in-Some.node ≡ node = one_node _ c.in-Some.node node c.in-Some.ensures.named named in
    let P : LiveNode → Type 0 = λ it. EndsNodeAsDue it all (g.W.Peer.left c.args.wire.now) (g.W.Peer.left c.serve_named.new.wire)
    (g.W.Peer.held c.args.wire.now) (g.W.Peer.held c.serve_named.new.wire)
    (Rose (g.W.Peer.read_faults c.args.wire.now) (g.W.Peer.read_faults c.serve_named.new.wire))
    (Rose (g.W.Peer.write_faults c.args.wire.now) (g.W.Peer.write_faults c.serve_named.new.wire)) c.serve_named.result in
    (c.serve_named.result, refl, subst P same (c.serve_named.ensures.due all told))

pub returns-in-Some-clause-no_memory : goal.returns-in-Some-clause-no_memory
returns-in-Some-clause-no_memory g c = λ node named ended.
    let same : c.in-Some.node ≡ node = one_node _ c.in-Some.node node c.in-Some.ensures.named named in
    let P : LiveNode → Type 0 = λ it. Rose (g.M.Memory.refusals c.args.memory.now) (g.M.Memory.refusals c.serve_named.new.memory)
    ⊎ EndsNodeSettingUp it (g.W.Peer.left c.args.wire.now) (g.W.Peer.left c.serve_named.new.wire) in
    subst P same (c.serve_named.ensures.no_memory (cc ended))
