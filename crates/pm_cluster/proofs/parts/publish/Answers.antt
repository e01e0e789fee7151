-- Of `publish`: its clauses `published` and `only`; what the call of `publish` requires; that its numbers fit.
use Rattle.std.proofs.Common.{arith, sym, ap, ◌∙◌, ◌≡◌, get_or, refl, None, Some, length}
use Rattle.std.proofs.Math.ListN.{set}
use Rattle.std.proofs.lemmas.List.{set-get_or}
use Rattle.std.specs.Vec.{with_item}
use Rattle.pm_session.specs.Links.{Session}
use Rattle.pm_concentrator.specs.Concentrators.{Gathered}
use Rattle.pm_stands.specs.Core.{gathered_at}
use Rattle.pm_stands.proofs.Made.{refused_cannot}
use Rattle.pm_stands.proofs.Caches.{gathered_known, gathered_same, one_concentrator}
use Rattle.pm_cluster.proofs.Rows.{IsRead, is_read, there_read, row_read}
use Rattle.pm_cluster.proofs.parts.publish.Goals as goal
use Rattle.pm_cluster.proofs.parts.publish.Goals.{In-Some}

read : (c : In-Some) →
    IsRead (λ row. row.items) c.args.links.now.items c.args.parent c.args.place c.index_mut-row.result.now c.index_mut-up.result.now
read c =
    is_read (λ row. row.items) c.args.links.now.items c.args.parent c.args.place c.index_mut-row.result.now c.index_mut-up.result.now
    c.requires.link.parent c.requires.link.place c.index_mut-row.ensures.value c.index_mut-up.ensures.value

found : (c : In-Some) → get_or c.args.concentrators.now.items c.args.node None ≡ Some c.in-Some.concentrator
found c =
    there_read c.args.concentrators.now.items c.args.node c.index_mut.result.now c.in-Some.concentrator
    c.requires.concentrator.node c.index_mut.ensures.value c.in-Some.is

known : (c : In-Some) → gathered_at c.args.concentrators.now.items c.args.node ≡ c.in-Some.concentrator
known c = gathered_known c.args.concentrators.now.items c.args.node c.in-Some.concentrator (found c)

pub publish-requires-clause-steps : goal.publish-requires-clause-steps
publish-requires-clause-steps c =
    let at = (goal.at.publish-requires-clause-steps c).In-Some in
    sym (ap (λ (z : Session). z.steps) (read at).link) ∙ c.requires.fits.steps ∙ ap (λ (g : Gathered). g.cache.steps) (known at)

pub publish-requires-clause-last : goal.publish-requires-clause-last
publish-requires-clause-last c =
    omega (arith, c.requires.fits.last, ap (λ (g : Gathered). g.window.last) (known (goal.at.publish-requires-clause-last c).In-Some))

pub publish-requires-clause-number : goal.publish-requires-clause-number
publish-requires-clause-number c =
    let at = (goal.at.publish-requires-clause-number c).In-Some in
    omega (arith, c.requires.fits.number, ap (λ (g : Gathered). g.window.last) (known at), ap (λ (z : Session). z.up.offered) (read at).link)

pub returns-in-Ok-clause-published : goal.returns-in-Ok-clause-published
returns-in-Ok-clause-published c =
    let at = (goal.at.returns-in-Ok-clause-published c).In-Some in
    let is = (read at).wrote (with_item c.index_mut-row.result.now c.args.place c.publish.new.up) c.publish.new.up refl in
    rw (known at, gathered_same c.args.concentrators.now.items c.args.node c.publish.new.self c.requires.concentrator.node, (read at).link, is.at)
    c.in-Ok.ensures.published

pub returns-in-Ok-clause-only : goal.returns-in-Ok-clause-only
returns-in-Ok-clause-only c = record {
  one = ((read (goal.at.returns-in-Ok-clause-only c).In-Some).wrote _ c.publish.new.up refl).one;
  alone = one_concentrator c.args.concentrators.now.items c.args.node c.publish.new.self c.requires.concentrator.node;
  none = λ e. absurd (cc e);
}

pub returns-in-Err-clause-published : goal.returns-in-Err-clause-published
returns-in-Err-clause-published c =
    rw (known (goal.at.returns-in-Err-clause-published c).In-Some)
    (refused_cannot c.in-Some.concentrator c.in-Err.field-0 c.in-Err.ensures.refused)

pub returns-in-Err-clause-only : goal.returns-in-Err-clause-only
returns-in-Err-clause-only c =
    let at = (goal.at.returns-in-Err-clause-only c).In-Some in
    record {
      one = ((read at).wrote _ c.publish.new.up refl).one;
      alone = one_concentrator c.args.concentrators.now.items c.args.node c.publish.new.self c.requires.concentrator.node;
      none = λ e. (
        (read at).same _ c.publish.new.up refl c.in-Err.ensures.unchanged.1,
        ap (λ (g : Gathered). set c.args.concentrators.now.items c.args.node (Some g)) c.in-Err.ensures.unchanged.0
            ∙ ap (set c.args.concentrators.now.items c.args.node) (sym (found at)) ∙ set-get_or c.args.concentrators.now.items c.args.node None,
      );
    }

pub index_mut-up-requires : goal.index_mut-up-requires
index_mut-up-requires c =
    let read = c.index_mut-row.ensures.value in
    let row = row_read (λ row. row.items) c.args.links.now.items c.args.parent c.index_mut-row.result.now c.requires.link.parent read in
    omega (arith, c.requires.link.place, ap length row, c.index_mut-row.result.now.ok.0)
