-- Of `close_all`: what the call of `close_one` requires; the turns of its loop over `link`; what it ensures.
use Rattle.std.proofs.Common.{◌≡◌, ℕ, ◌+◌, ◌∷◌, [], List, Option, None, All, arith, ap, sym, subst, length}
use Rattle.std.proofs.lemmas.List.{length-append}
use Rattle.std.proofs.lemmas.List.Elements.{All-push}
use Rattle.std.specs.Prelude.{IfSome}
use Rattle.pm_phase.specs.Logs.{IsLogOfLink}
use Rattle.pm_cells.specs.Ends.{TableId}
use Rattle.pm_cells.specs.declared.link.LinkLog.{LinkLog}
use Rattle.pm_phase.specs.Closing.{IsReturned, ClosedLink}
use Rattle.pm_phase.proofs.EndsCome.{LogsFrom, from_popped, logs_none, logs_more, logs_at}
use Rattle.pm_phase.proofs.Placing.{popped, same_length}
use Rattle.pm_phase.proofs.closing.close_all.Goals as goal

pub close_one-requires : goal.close_one-requires
close_one-requires c = (popped _ _ _ _ _ _ c.in-Some.ensures.items c.in-Some-pop.ensures.items c.loop-link.invariant.0).1

pub loop-link-init : goal.loop-link-init
loop-link-init c =
    let links = c.args.links.items in
    let none = c.in_ok-logs.ensures.items in (
      c.requires,
      omega (arith, ap (λ (ls : List (Option LinkLog)). length ls) none),
      subst (All (λ log. IfSome log IsLogOfLink)) (sym none) (λ k d inside. absurd (omega (arith, inside))),
      λ nodes from. (from, subst (LogsFrom nodes (length links)) (sym none) (logs_none nodes (length links))),
    )

pub loop-link-preserved : goal.loop-link-preserved
loop-link-preserved c =
    let All-logs = All (λ log. IfSome log IsLogOfLink) in (
      (popped _ _ _ _ _ _ c.in-Some.ensures.items c.in-Some-pop.ensures.items c.loop-link.invariant.0).0,
      omega (
        arith,
        c.loop-link.invariant.1,
        ap length c.in-Some.ensures.items,
        length-append c.pop.new.self.items (c.in-Some.link ∷ []),
        ap length c.in_ok-push.ensures.items,
        length-append c.loop-link.logs.items (c.close_one.result ∷ []),
      ),
      subst All-logs (sym c.in_ok-push.ensures.items) (All-push (λ log. IfSome log IsLogOfLink) _ _ c.loop-link.invariant.2 c.close_one.ensures.log),
      λ nodes from.
          let (now, logs) = c.loop-link.invariant.3 nodes from in
          let (before, here) = from_popped nodes c.loop-link.places.items c.pop-in-Some.new.self.items c.in-Some-pop.ends c.in-Some-pop.ensures.items now in
          let links : List TableId = c.pop.new.self.items in
          let placed = (popped _ _ _ _ _ _ c.in-Some.ensures.items c.in-Some-pop.ensures.items c.loop-link.invariant.0).0 in
          let long : length c.loop-link.links.items ≡ length links + 1 =
          omega (arith, ap length c.in-Some.ensures.items, length-append links (c.in-Some.link ∷ [])) in (
            before,
            subst (LogsFrom nodes (length links)) (sym c.in_ok-push.ensures.items)
                (logs_more nodes (length links) c.loop-link.logs.items c.close_one.result
                (subst (λ (n : ℕ). LogsFrom nodes n c.loop-link.logs.items) long logs)
                (c.close_one.ensures.closed nodes (length links) (subst (λ (n : ℕ). IsReturned nodes n c.in-Some-pop.ends) (same_length _ _ placed) here))),
          ),
    )

pub returns-clause-each : goal.returns-clause-each
returns-clause-each c =
    omega (
      arith,
      c.reverse.ensures.len,
      c.in_default.ensures.cases.0,
      c.loop-link.invariant.1,
      c.loop-link.links.ok.0,
      c.loop-link.logs.ok.0,
      c.reverse.new.self.ok.0,
    )

pub returns-clause-logs : goal.returns-clause-logs
returns-clause-logs c = λ k d inside.
    let logs = c.loop-link.logs in
    subst (λ log. IfSome log IsLogOfLink)
    (sym (c.reverse.ensures.by_index k d (omega (arith, inside, c.reverse.ensures.len, logs.ok.0, c.reverse.new.self.ok.0))))
    (c.loop-link.invariant.2 _ d (omega (arith, inside, c.reverse.ensures.len, logs.ok.0, c.reverse.new.self.ok.0)))

pub returns-clause-closed : goal.returns-clause-closed
returns-clause-closed c = λ nodes from k inside.
    let logs = c.loop-link.logs in
    subst (λ log. IfSome log (ClosedLink nodes k))
    (sym (c.reverse.ensures.by_index k None (omega (arith, inside, c.reverse.ensures.len, logs.ok.0, c.reverse.new.self.ok.0))))
    (logs_at nodes (length c.loop-link.links.items) logs.items (c.loop-link.invariant.3 nodes from).1 _ k
    (omega (arith, inside, c.reverse.ensures.len, logs.ok.0, c.reverse.new.self.ok.0))
    (omega (arith, inside, c.reverse.ensures.len, logs.ok.0, c.reverse.new.self.ok.0, c.in_default.ensures.cases.0, c.loop-link.links.ok.0)))
