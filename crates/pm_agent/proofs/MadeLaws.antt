-- When a demand is that of a change.
use Rattle.std.proofs.Common.{◌≡◌, ◌≢◌, ℕ, ℤ, true, false, List, length, ◌∙◌, sym, ap, subst, inl, inr}
use Rattle.std.proofs.lemmas.Bool.{cases_Bool, cond-true, cond-false}
use Rattle.pm_bid.specs.Bids.{zeros}
use Rattle.pm_device.specs.declared.kind.Kind.{Kind}
use Rattle.pm_device.specs.declared.kind.Kind.TheVariants.{Manual}
use Rattle.pm_device.specs.declared.state.Next.{Next}
use Rattle.pm_strategy.specs.Strategies.{bid_of}
use Rattle.pm_strategy.proofs.BidLaws.{bid_of-strategy}
use Rattle.pm_agent.specs.MadeBids.{IsMade, demand_after_change}

-- the arrays tell for a manual device alone
bid_of-arrays : (kind : Kind) (state : ℤ) (arrays others : List (List ℤ)) (steps : ℕ) → kind ≢ Manual →
    bid_of kind state arrays steps ≡ bid_of kind state others steps
bid_of-arrays kind state arrays others steps other =
    bid_of-strategy kind state arrays steps other ∙ sym (bid_of-strategy kind state others steps other)

-- the bid of a kind is the demand of a change to a member
made_member : (next : Next) (kind : Kind) (demand : List ℤ) (arrays : List (List ℤ)) (steps : ℕ) → next.member ≡ true →
    length demand ≡ steps → demand ≡ bid_of kind next.state.0 arrays steps → IsMade (record { next = next; kind = kind; demand = demand })
made_member next kind demand arrays steps member same bid = record {
  gone = λ gone. (cc);
  strategic = λ stays other others.
      let P : ℕ → Type 0 = λ n. demand ≡ bid_of kind next.state.0 others n in
      subst P (sym same) (bid ∙ bid_of-arrays kind next.state.0 arrays others steps other);
}

-- no demand at any step is that of a change to no member
made_gone : (next : Next) (kind : Kind) (demand : List ℤ) (steps : ℕ) → next.member ≡ false → length demand ≡ steps →
    demand ≡ zeros steps → IsMade (record { next = next; kind = kind; demand = demand })
made_gone next kind demand steps gone same none = record {
  gone = λ _. none ∙ ap zeros (sym same);
  strategic = λ stays. absurd (cc);
}

-- what is made of a change is that of the change, whoever keeps the demand
pub is_made : (next : Next) (kind : Kind) (demand : List ℤ) (arrays : List (List ℤ)) (steps : ℕ) → length demand ≡ steps →
    demand ≡ demand_after_change kind next arrays steps → IsMade (record { next = next; kind = kind; demand = demand })
is_made next kind demand arrays steps same is = elim (cases_Bool next.member) [
  | inl member ↦ made_member next kind demand arrays steps member same (is ∙ cond-true next.member _ _ member)
  | inr gone ↦ made_gone next kind demand steps gone same (is ∙ cond-false next.member _ _ gone)
]
