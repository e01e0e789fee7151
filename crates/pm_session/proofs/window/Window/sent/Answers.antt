-- Of `Window::sent`: its clause `sent`; what the type keeps.
use Rattle.std.proofs.Common.{rules, ◌≡◌, ◌∙◌, ap, ◌+◌, ◌-◌, ◌<◌, Option, None, List, ℤ}
use Rattle.pm_base.specs.Limits.{window_size}
use Rattle.pm_session.specs.Windows.{Sent, Fits}
use Rattle.pm_session.specs.WindowFields.{window_of}
use Rattle.pm_session.proofs.Ring.{no_sum_read, ring_of, record_sent, ring_sent}
use Rattle.pm_session.proofs.window.Window.sent.Goals as goal

pub invariant_of-self : goal.invariant_of-self
invariant_of-self c =
    let sent : Sent = record { number = c.args.number; heads = c.args.children.now; sum = None } in
    let no_sum : c.index_mut-record.result.now.sum
    ≡ None = no_sum_read c.self.inside c.args.self.now c.args.number c.index_mut-record.result.now c.self.invariant c.self.view_is
    c.requires.no_sums c.index_mut-record.ensures.value in
    let written : c.write.new.self ≡ sent =
    c.write.ensures ∙ ap (λ (sum : Option (List ℤ)). record { number = c.args.number; heads = c.args.children.now; sum = sum }) no_sum in
    let room : c.self.inside.last - c.self.inside.answered < window_size = search rules in
    let next : c.args.number ≡ c.self.inside.last + 1 = search rules in
    let fits : Fits (window_of c.self.inside) sent = record { children = search rules; steps = search rules } in
    let ring = ring_sent c.self.inside.children c.self.inside.steps c.self.inside.places.items c.self.inside.answered
    c.self.inside.last sent (ring_of c.self.inside c.self.invariant) room next fits in
    rw written (record { size = ring.size; each = ring.each; sound = ring.sound })

pub returns-clause-sent : goal.returns-clause-sent
returns-clause-sent c =
    let sent : Sent = record { number = c.args.number; heads = c.args.children.now; sum = None } in
    let no_sum : c.index_mut-record.result.now.sum
    ≡ None = no_sum_read c.self.inside c.args.self.now c.args.number c.index_mut-record.result.now c.self.invariant c.self.view_is
    c.requires.no_sums c.index_mut-record.ensures.value in
    let written : c.write.new.self ≡ sent =
    c.write.ensures ∙ ap (λ (sum : Option (List ℤ)). record { number = c.args.number; heads = c.args.children.now; sum = sum }) no_sum in
    let room : c.self.inside.last - c.self.inside.answered < window_size = search rules in
    let next : c.args.number ≡ c.self.inside.last + 1 = search rules in
    rw (written, ← c.self.view_is) (record_sent c.self.inside.children c.self.inside.steps c.self.inside.places.items
    c.self.inside.answered c.self.inside.last sent (ring_of c.self.inside c.self.invariant) room next)
