-- Of `starts`: its clauses `reached` and `none`; the turns of its loop over `number`.
use Rattle.std.proofs.Common.{◌≡◌, ◌∙◌, sym, ap, ℕ, zero, suc, ◌+◌, ◌<◌, ◌++◌}
use Rattle.std.proofs.Common.{List, [], ◌∷◌, length, below_more, refl, arith, subst}
use borrow.Author.Count.{below_none}
use Rattle.std.proofs.Math.ListN.{get_or-append}
use Rattle.std.proofs.Math.Seq.{get_or-append_seam}
use Rattle.std.proofs.lemmas.List.{length-append}
use Rattle.pm_walk.specs.declared.changes.Progress.{Progress}
use Rattle.pm_walk.specs.Standing.{HasCome, no_progress, progress_at, cut_made}
use Rattle.pm_walk.proofs.standing.starts.Goals as goal

-- with one more node that has made no change, none has made any
none_more : (progress : List Progress) (new : Progress) → new.count ≡ 0 → ((x : ℕ) → cut_made progress x ≡ 0) →
    (x : ℕ) → cut_made (progress ++ new ∷ []) x ≡ 0
none_more [] new here before zero = here
none_more [] new here before (suc x) = refl
none_more (p ∷ ps) new here before zero = before 0
none_more (p ∷ ps) new here before (suc x) = none_more ps new here (λ k. before (suc k)) x

pub loop-number-init : goal.loop-number-init
loop-number-init c = record {
  many = ap (λ l. length l) c.new-progress.ensures.items;
  reached = below_none _;
  none = λ x. ap (λ (l : List Progress). cut_made l x) c.new-progress.ensures.items;
}

pub loop-number-preserved : goal.loop-number-preserved
loop-number-preserved c =
    let plan = c.args.plan.now in
    let old = c.loop-number.progress.items in
    let new = c.start_of.result in
    let items = c.in_ok-push.ensures.items in
    let many = c.loop-number.invariant.many in
    let here : progress_at (old ++ new ∷ []) c.loop-number.number ≡ new =
    subst (λ n. progress_at (old ++ new ∷ []) n ≡ new) many (get_or-append_seam old new [] no_progress) in
    record {
      many = ap (λ l. length l) items ∙ length-append old (new ∷ []) ∙ ap (λ n. n + 1) many;
      reached = subst (λ (l : List Progress). (x : ℕ) → x < c.loop-number.number + 1 → HasCome plan x (progress_at l x)) (sym items)
          (below_more _ _
          (λ x below. subst (HasCome plan x) (sym (get_or-append old (new ∷ []) no_progress x (subst (λ n. x < n) (sym many) below)))
          (c.loop-number.invariant.reached x below))
          (subst (HasCome plan c.loop-number.number) (sym here) c.start_of.ensures.reached));
      none = λ x. ap (λ (l : List Progress). cut_made l x) items ∙ none_more old new c.start_of.ensures.none c.loop-number.invariant.none x;
    }

pub returns-clause-reached : goal.returns-clause-reached
returns-clause-reached c =
    let all : c.loop-number.number ≡ length c.args.plan.now.nodes + 1 =
    omega (arith, c.tree.ensures.sound.nodes.one_each, c.len-number-end.ensures.len, ap (λ e. length e) c.tree.ensures.tree) in
    record {
      one_each = c.loop-number.invariant.many ∙ all;
      reached = λ x inside. c.loop-number.invariant.reached x (omega arith);
    }

pub returns-clause-none : goal.returns-clause-none
returns-clause-none c = c.loop-number.invariant.none
