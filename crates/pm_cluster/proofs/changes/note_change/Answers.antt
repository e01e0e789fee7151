-- Of `note_change`: its clause `noted`.
use Rattle.std.proofs.Common.{rules, ◌≡◌, ◌∙◌, ap, ℕ, ◌<◌, Bool, false, List, length, get_or}
use Rattle.std.specs.Prelude.{slice_set}
use Rattle.std.proofs.lemmas.List.{get_or_read}
use Rattle.pm_session.specs.Ports.{Seat}
use Rattle.pm_stands.specs.Core.{seat_at}
use Rattle.pm_stands.specs.Made.{seat_after}
use Rattle.pm_cluster.proofs.changes.note_change.Goals as goal

seat_read : (ports : List Seat) (x : ℕ) (seat : Seat) → x < length ports → seat ≡ get_or ports x seat → seat ≡ seat_at ports x
unfolding seat_at
seat_read ports x seat lt read = get_or_read ports x seat lt read _

pub returns-clause-noted : goal.returns-clause-noted
returns-clause-noted c =
    let ports = c.args.ports.now.items in
    let next = c.args.next in
    let seat = seat_read ports next.device c.index_mut.result.now c.requires.places.port c.index_mut.ensures.value in
    let before = get_or_read c.args.members.now.items next.device c.index.result.now c.requires.places.member c.index.ensures false in
    record {
      counts = search rules;
      states = search rules;
      members = search rules;
      ports = ap (slice_set ports next.device) (
          c.take_seat.ensures
          ∙ ap (λ (s : Seat). seat_after s c.index.result.now next.member next.number) seat
          ∙ ap (λ (b : Bool). seat_after (seat_at ports next.device) b next.member next.number) before);
    }
