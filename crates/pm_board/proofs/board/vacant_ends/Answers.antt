-- Of `vacant_ends`: what the call of `loop` requires.
use Rattle.std.proofs.Common.{◌≡◌, ◌∙◌, sym, ap, subst, ◌+◌, ◌∷◌, [], ◌++◌, length, length-append}
use Rattle.std.specs.Prelude.{All}
use Rattle.std.proofs.lemmas.List.Elements.{All-push}
use Rattle.pm_board.specs.Kept.{HasRoomForAll}
use Rattle.pm_board.proofs.Opened.{vacant_has_room}
use Rattle.pm_board.proofs.board.vacant_ends.Goals as goal

pub loop-preserved : goal.loop-preserved
loop-preserved c =
    let made = c.in_ok-vacant.field-0 in
    let pushed : c.push.new.self.items ≡ c.loop.ends.items ++ made ∷ [] = c.in_ok-push.ensures.items in
    record {
      many = ap length pushed ∙ length-append c.loop.ends.items (made ∷ []) ∙ ap (λ n. n + 1) c.loop.invariant.many;
      room = subst (All (HasRoomForAll c.args.plan.now)) (sym pushed)
          (All-push (HasRoomForAll c.args.plan.now) c.loop.ends.items made c.loop.invariant.room
          (vacant_has_room c.args.plan.now made c.in_ok-vacant.ensures.members c.in_ok-vacant.ensures.limited));
    }
