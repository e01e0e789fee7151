-- Of `OpenDevice::take_price_of`: its clause `answered`.
use Rattle.std.proofs.Common.{◌≡◌, ◌∙◌, sym, ap, subst, ◌∷◌, [], ◌++◌, List, ℕ, true, false}
use Rattle.std.proofs.lemmas.Bool.{cond-true, cond-false}
use Rattle.pm_basis.specs.Prices.{BasisValue}
use Rattle.pm_net.specs.Agents.{after_price, setpoints_for}
use Rattle.pm_control.specs.Control.{message_of}
use Rattle.pm_frames.specs.Answers.{other_basis_bytes}
use Rattle.pm_frames.specs.Stored.{agent_resume_bytes}
use Rattle.pm_frames.specs.declared.stored.StoredAgent.{StoredAgent}
use Rattle.pm_frames.proofs.ReadNodes.{fails, passes}
use Rattle.pm_services.specs.Outputs.{Output, Says}
use Rattle.pm_services.specs.DeviceAnswers.{OpenDevice}
use Rattle.pm_services.specs.DeviceWrites.{device_bytes, told_outs, same_basis}
use Rattle.pm_services.proofs.Written.{said_alone}
use Rattle.pm_services.proofs.DeviceReplies.{itself, of_another}
use Rattle.pm_services.proofs.open_device.OpenDevice.take_price_of.Goals as goal

pub returns-then-is-clause-answered : goal.returns-then-is-clause-answered
returns-then-is-clause-answered c child =
    let price = message_of c.args.price in
    let own = c.args.self.now.basis in
    let agent = c.args.self.now.agent in
    let same : same_basis c.args.basis.now own ≡ true =
    subst (λ (b : BasisValue). same_basis b own ≡ true)
    (sym (passes c.is.result c.if-is.true c.is.ensures.0 ∙ ap (λ (d : OpenDevice). d.basis) c.self.view_is)) (itself own) in
    c.take_price.ensures.answered child
    ∙ ap (λ (o : List (Output StoredAgent)). c.args.out.now.items ++ device_bytes child own o)
    (sym (cond-true (same_basis c.args.basis.now own) (told_outs own (after_price agent price) price (setpoints_for agent price))
    (Says (other_basis_bytes price.number price.index) ∷ []) same))

pub returns-else-is-clause-answered : goal.returns-else-is-clause-answered
returns-else-is-clause-answered c child =
    let price = message_of c.args.price in
    let own = c.args.self.now.basis in
    let agent = c.args.self.now.agent in
    let said : List ℕ = other_basis_bytes price.number price.index in
    let other : same_basis c.args.basis.now own ≡ false =
    subst (λ (d : OpenDevice). same_basis c.args.basis.now d.basis ≡ false) c.self.view_is
    (of_another c.args.basis.now c.self.inside.basis (fails c.is.result c.if-is.false c.is.ensures.1)) in
    c.write_other_basis.ensures.written
    ∙ ap (λ (l : List ℕ). c.args.out.now.items ++ l) (said_alone agent_resume_bytes own child said)
    ∙ ap (λ (o : List (Output StoredAgent)). c.args.out.now.items ++ device_bytes child own o)
    (sym (cond-false (same_basis c.args.basis.now own) (told_outs own (after_price agent price) price (setpoints_for agent price)) (Says said ∷ []) other))
