-- Of `turn_round`: what the call of `loop` requires.
use Rattle.std.proofs.Common.{◌≡◌, ◌<◌, [], ◌∷◌, length, map, get_or, false, not, refl, sym, ap, ◌∙◌, arith}
use Rattle.std.proofs.lemmas.List.{length-set, map-append}
use Rattle.pm_plan.specs.Parts.{event_part}
use Rattle.pm_gen.specs.Draws.{next, draw_below}
use Rattle.pm_gen.specs.Rounds.{seed_after}
use Rattle.pm_gen.proofs.Flags.{turned-none, turned-more, after-none, after-more}
use Rattle.pm_gen.proofs.rounds.turn_round.Goals as goal

pub loop-init : goal.loop-init
loop-init c = record {
  seed = sym (after-none c.args.draws.now.seed);
  size = refl;
  turned = λ earlier flags. turned-none (length c.args.members.now) earlier c.args.draws.now.seed c.args.members.now
      (map event_part c.new-events.result.items) flags (ap (map event_part) c.new-events.ensures.items);
}

pub loop-preserved : goal.loop-preserved
loop-preserved c =
    let size_is = c.loop.invariant.size in
    let seed_is = c.loop.invariant.seed in
    let low : c.draw-place.result < length c.args.members.now = omega (arith, c.draw-place.ensures.below) in
    let pick : c.draw-place.result ≡ draw_below (length c.args.members.now) (seed_after c.loop.counter c.args.draws.now.seed) =
    c.draw-place.ensures.drawn ∙ (λ i. draw_below (size_is i) (seed_is i)) in
    record {
      seed = c.draw-place.ensures.seed ∙ ap next seed_is ∙ sym (after-more c.loop.counter c.args.draws.now.seed);
      size = ap length c.in_ok-turn_event.ensures.members
          ∙ length-set c.loop.members c.draw-place.result (not (get_or c.loop.members c.draw-place.result false)) ∙ size_is;
      turned = λ earlier flags. turned-more (length c.args.members.now) earlier c.args.draws.now.seed c.loop.counter
          c.draw-place.result c.loop.members c.turn_event.new.members
          (map event_part c.loop.events.items) (map event_part c.push.new.self.items) (event_part c.in_ok-turn_event.field-0) low pick
          (c.loop.invariant.turned earlier flags)
          c.in_ok-turn_event.ensures.members c.in_ok-turn_event.ensures.event
          (ap (map event_part) c.in_ok-push.ensures.items ∙ map-append event_part c.loop.events.items (c.in_ok-turn_event.field-0 ∷ []));
    }
