-- One phase more, which begins with the parts that those before it left.
use Rattle.std.proofs.Common.{◌≡◌, ◌∙◌, sym, ap, subst, ℕ, zero, suc, ◌+◌, ◌<◌, ◌≤◌, cond, List, [], ◌∷◌, ◌++◌, length}
use Rattle.std.proofs.Common.{inl, inr, refl, arith}
use Rattle.std.specs.Prelude.{IfSome, nat_le}
use Rattle.std.proofs.lemmas.Bool.{cond-true, cond-false, le-leb, lt-leb}
use Rattle.std.proofs.lemmas.List.{length-append}
use Rattle.std.proofs.lemmas.List.Elements.{All-append}
use Rattle.std.proofs.lemmas.Option.{slice_get_within}
use Rattle.pm_plan.specs.Plans.{PlanData}
use Rattle.pm_phase.specs.Nodes.{AreNewParts}
use Rattle.pm_phase.specs.declared.node.NodePart.{NodePart}
use Rattle.pm_free.specs.Links.{HasLogs, AreKept}
use Rattle.pm_free.specs.OverLinks.{CameOverLinks, AreOverLinks}
use Rattle.pm_free.specs.declared.phase.FreePhase.{FreePhase}
use Rattle.pm_free.proofs.Lists.{in_more}

-- the phases so far left these parts
pub record HaveLeft (plan : PlanData) (phases : List FreePhase) (parts : List NodePart) : Type 0 where
  -- each phase began with what the one before left
  pub chain : AreOverLinks plan phases
  pub last : chain.parts (length phases) ≡ parts

-- before the first phase
pub none_left : (plan : PlanData) (parts : List NodePart) → AreNewParts plan parts → HaveLeft plan [] parts
none_left plan parts new = record {
  chain = record { parts = λ p. parts; new = new; over = λ p phase at. absurd (cc at) };
  last = refl;
}

-- with the logs of their links
pub none_kept : AreKept []
none_kept k d lt = absurd (omega (arith, lt))

one_kept : (phase : FreePhase) → HasLogs phase → AreKept (phase ∷ [])
one_kept phase logs zero d lt = logs
one_kept phase logs (suc k) d lt = absurd (omega (arith, lt))

-- one phase more, with its logs
pub kept_more : (phases : List FreePhase) (phase : FreePhase) → AreKept phases → HasLogs phase → AreKept (phases ++ phase ∷ [])
kept_more phases phase before logs = All-append HasLogs phases (phase ∷ []) before (one_kept phase logs)

module _ (plan : PlanData) (phases : List FreePhase) (now : List NodePart) (had : HaveLeft plan phases now) (phase : FreePhase) (left : List NodePart) where
  abbrev old : ℕ → List NodePart
  old = had.chain.parts

  abbrev n : ℕ
  n = length phases

  abbrev then_parts : ℕ → List NodePart
  then_parts q = cond (nat_le q n) (old q) left

  as_before : (q : ℕ) → q ≤ n → then_parts q ≡ old q
  as_before q le = cond-true (nat_le q n) (old q) left (le-leb q n le)

  the_last : then_parts (n + 1) ≡ left
  the_last = cond-false (nat_le (n + 1) n) (old (n + 1)) left (lt-leb (n + 1) n (omega arith))

  -- one phase more, which began with the parts that were left
  pub one_left : IfSome phase.end (λ end. CameOverLinks plan (n + 1) now left phase end.end) → HaveLeft plan (phases ++ phase ∷ []) left
  one_left over = record {
    chain = record {
      parts = then_parts;
      new = subst (AreNewParts plan) (sym (as_before 0 (omega arith))) had.chain.new;
      over = λ p other at. elim (in_more phases phase p other at) [
        | inl here ↦
            let under : p < n = slice_get_within phases p other here in
            subst (λ (a : List NodePart). IfSome other.end (λ end. CameOverLinks plan (p + 1) a (then_parts (p + 1)) other end.end))
            (sym (as_before p (omega (arith, under))))
            (subst (λ (b : List NodePart). IfSome other.end (λ end. CameOverLinks plan (p + 1) (old p) b other end.end))
            (sym (as_before (p + 1) (omega (arith, under)))) (had.chain.over p other here))
        | inr end ↦
            subst (λ (f : FreePhase). IfSome f.end (λ e. CameOverLinks plan (p + 1) (then_parts p) (then_parts (p + 1)) f e.end)) end.1
            (subst (λ (q : ℕ). IfSome phase.end (λ e. CameOverLinks plan (q + 1) (then_parts q) (then_parts (q + 1)) phase e.end)) (sym end.0)
            (subst (λ (a : List NodePart). IfSome phase.end (λ e. CameOverLinks plan (n + 1) a (then_parts (n + 1)) phase e.end))
            (sym (as_before n (omega arith) ∙ had.last))
            (subst (λ (b : List NodePart). IfSome phase.end (λ e. CameOverLinks plan (n + 1) now b phase e.end)) (sym the_last) over)))
      ];
    };
    last = ap then_parts (length-append phases (phase ∷ [])) ∙ the_last;
  }
