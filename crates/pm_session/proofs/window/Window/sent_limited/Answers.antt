-- Of `Window::sent_limited`: what it ensures; what the type keeps.
use Rattle.std.proofs.Common.{rules, ◌≡◌, ◌+◌, ◌-◌, ◌<◌, Some}
use Rattle.pm_base.specs.Limits.{window_size}
use Rattle.pm_session.specs.Windows.{Sent, Fits}
use Rattle.pm_session.specs.WindowFields.{window_of}
use Rattle.pm_session.proofs.Ring.{ring_of, record_sent, ring_sent}
use Rattle.pm_session.proofs.window.Window.sent_limited.Goals as goal

pub invariant_of-self : goal.invariant_of-self
invariant_of-self c =
    let sent : Sent = record { number = c.args.number; heads = c.args.children.now; sum = Some c.args.sum.now } in
    let room : c.self.inside.last - c.self.inside.answered < window_size = search rules in
    let next : c.args.number ≡ c.self.inside.last + 1 = search rules in
    let fits : Fits (window_of c.self.inside) sent = record { children = search rules; steps = search rules } in
    let ring = ring_sent c.self.inside.children c.self.inside.steps c.self.inside.places.items c.self.inside.answered
    c.self.inside.last sent (ring_of c.self.inside c.self.invariant) room next fits in
    rw c.write_limited.ensures (record { size = ring.size; each = ring.each; sound = ring.sound })

pub returns : goal.returns
returns c =
    let sent : Sent = record { number = c.args.number; heads = c.args.children.now; sum = Some c.args.sum.now } in
    let room : c.self.inside.last - c.self.inside.answered < window_size = search rules in
    let next : c.args.number ≡ c.self.inside.last + 1 = search rules in
    record {
      sent = rw (c.write_limited.ensures, ← c.self.view_is)
          (record_sent c.self.inside.children c.self.inside.steps c.self.inside.places.items c.self.inside.answered c.self.inside.last
          sent (ring_of c.self.inside c.self.invariant) room next);
    }
