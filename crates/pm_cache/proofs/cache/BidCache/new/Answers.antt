-- Of `BidCache::new`: its clauses `empty`, `cost` and `rises`; the turns of its loop over `child`; what the type keeps.
use Rattle.std.proofs.Common.{rules, arith, ◌≡◌, ◌∙◌, ap, sym, subst, replicate, ℕ, ◌*◌, ℤ, List, [], ◌∷◌, ◌++◌}
use Rattle.pm_bid.specs.Bids.{zeros}
use Rattle.pm_cache.specs.Cache.{Cache, IsCache}
use Rattle.pm_bid.specs.Heads.{nothing_sent}
use Rattle.pm_cache.proofs.Entries.{empty_sound, empty_sum, empty_parts}
use Rattle.std.proofs.lemmas.List.{replicate_more}
use Rattle.pm_cache.proofs.cache.BidCache.new.Goals as goal

pub invariant_of-result : goal.invariant_of-result
invariant_of-result g c =
    let heads : c.in_ok-heads.heads.items ≡ replicate c.args.children nothing_sent = search rules in
    let demands : c.loop-child.demands.items ≡ replicate c.args.children (zeros c.args.steps) = c.loop-child.invariant.demands
    ∙ ap (λ n. replicate n (zeros c.args.steps)) (omega arith) in
    let P : Cache → Type 0 = λ cache. IsCache cache in
    record {
      aggregate = empty_sum _ _ _ _ demands c.in_ok-aggregate.ensures.bid;
      sound = subst P (sym (empty_parts _ _ _ _ _ heads demands c.in_ok-aggregate.ensures.bid))
          (empty_sound c.args.children c.args.steps c.requires.few_children c.requires.steps);
    }

pub loop-child-preserved : goal.loop-child-preserved
loop-child-preserved g c =
    let none = zeros c.args.steps in
    let pushed : c.push.new.self.items ≡ c.loop-child.demands.items ++ c.in_ok-zero.field-0 ∷ [] = c.in_ok-push.ensures.items in
    record {
      demands = pushed ∙ ap (λ (ds : List (List ℤ)). ds ++ c.in_ok-zero.field-0 ∷ []) c.loop-child.invariant.demands
          ∙ ap (λ (d : List ℤ). replicate c.loop-child._child none ++ d ∷ []) c.in_ok-zero.ensures.bid ∙ replicate_more c.loop-child._child none;
      cost = omega (arith, c.in_ok-zero.ensures.cost, c.loop-child.invariant.cost);
    }

pub returns-clause-empty : goal.returns-clause-empty
returns-clause-empty g c =
    let heads : c.in_ok-heads.heads.items ≡ replicate c.args.children nothing_sent = c.in_ok-heads.ensures.items_if_clones_equal (λ y e. e) in
    let demands : c.loop-child.demands.items ≡ replicate c.args.children (zeros c.args.steps) = c.loop-child.invariant.demands
    ∙ ap (λ n. replicate n (zeros c.args.steps)) (omega arith) in
    empty_parts _ _ _ _ _ heads demands c.in_ok-aggregate.ensures.bid

pub returns-clause-cost : goal.returns-clause-cost
returns-clause-cost g c =
    let all : c.loop-child._child ≡ c.args.children = omega arith in
    omega (arith, c.in_ok-aggregate.ensures.cost, c.loop-child.invariant.cost, ap (λ (n : ℕ). n * c.args.steps) all)

pub returns-clause-rises : goal.returns-clause-rises
returns-clause-rises g c = omega (arith, c.in_ok-aggregate.ensures.cost, c.loop-child.invariant.cost)
