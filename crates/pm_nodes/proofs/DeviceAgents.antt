-- The devices of a plan, and their agents.
use Rattle.std.proofs.Common.{◌≡◌, ◌∙◌, sym, ap, subst, ℕ, ℤ, ◌+◌, ◌<◌, List, [], ◌∷◌, ◌++◌}
use Rattle.std.proofs.Common.{length, get_or, arith, refl, inl, inr, length-append}
use Rattle.std.specs.Prelude.{Option, Some, None, IfSome, slice_get}
use Rattle.std.proofs.lemmas.Bool.{cases_lt}
use Rattle.std.proofs.lemmas.Option.{slice_get-get_or, slice_get_within}
use Rattle.std.proofs.Math.ListN.{get_or-append}
use Rattle.std.proofs.Math.Seq.{get_or-append_seam}
use Rattle.pm_agent.specs.Agents.{Agent}
use Rattle.pm_basis.specs.Prices.{BasisValue}
use Rattle.pm_bid.specs.Bids.{HaveSteps}
use Rattle.pm_device.specs.declared.kind.Kind.{Kind}
use Rattle.pm_market.specs.Lists.{IsLeaf}
use Rattle.pm_market.proofs.Tree.{leaf_node}
use Rattle.pm_plan.specs.Kept.{IsPlan}
use Rattle.pm_plan.specs.Plans.{PlanData, node, kind_of}
use Rattle.pm_plan.specs.Market.{plan_lists}
use Rattle.pm_plan.proofs.MarketLists.{lawful, nodes_are}
use Rattle.pm_nodes.specs.DeviceAgents.{IsAgentOf, HasAgent, AreAgents, AreOnlyAgents}

-- the arrays of a plan have its steps
pub arrays_fit : (plan : PlanData) → IsPlan plan → (p : PlanData) (arrays : List (List ℤ)) (steps : ℕ) → arrays ≡ p.arrays →
    p ≡ plan → steps ≡ plan.basis.steps →
    HaveSteps steps arrays
arrays_fit plan is_plan p arrays steps e f g =
    subst (λ (n : ℕ). HaveSteps n arrays) (sym g) (subst (HaveSteps plan.basis.steps) (sym (e ∙ ap (λ (q : PlanData). q.arrays) f)) is_plan.arrays.steps)

-- the arrays of a plan have as many steps as a basis that is the plan's
pub plan_arrays : (plan : PlanData) (basis : BasisValue) (steps : ℕ) → IsPlan plan → basis ≡ plan.basis → steps ≡ basis.steps →
    HaveSteps steps plan.arrays
plan_arrays plan basis steps is_plan b s = arrays_fit plan is_plan plan plan.arrays steps refl refl (s ∙ ap (λ (it : BasisValue). it.steps) b)

-- what an agent is made of
pub agent_is : (plan : PlanData) (d steps : ℕ) (kind : Kind) (basis : BasisValue) (agent : Agent) →
    kind_of (node plan d) ≡ Some kind → steps ≡ basis.steps →
    basis ≡ plan.basis → agent ≡ record { kind = kind; device = d; steps = steps } → IsAgentOf plan d agent
agent_is plan d steps kind basis agent k s b e = record {
  kind = k ∙ ap (λ (a : Agent). Some a.kind) (sym e);
  device = ap (λ (a : Agent). a.device) e;
  steps = ap (λ (a : Agent). a.steps) e ∙ s ∙ ap (λ (it : BasisValue). it.steps) b;
}

-- the agents of the devices before a number are in their places
pub record AreAgentsTo (plan : PlanData) (agents : List (Option Agent)) (n : ℕ) : Type 0 where
  -- there are as many places as the number says
  pub many : length agents ≡ n
  -- each device before the number has its agent in its place
  pub each : (d : ℕ) → d < n → IsLeaf (plan_lists plan) d → HasAgent plan agents d
  -- and nothing else stands there
  pub only : AreOnlyAgents plan agents

-- the empty list has the agents of the devices before node 0
pub no_agents : (plan : PlanData) → AreAgentsTo plan [] 0
no_agents plan = record {
  many = refl;
  each = λ d low leaf. absurd (omega arith);
  only = λ d agent e. absurd (omega (arith, slice_get_within [] d (Some agent) e));
}

at_end : {A : Type 0} (xs : List A) (x : A) → slice_get (xs ++ x ∷ []) (length xs) ≡ Some x
at_end xs x = slice_get-get_or (xs ++ x ∷ []) (length xs) x (omega (arith, length-append xs (x ∷ []))) ∙ ap Some (get_or-append_seam xs x [] x)

before_end : {A : Type 0} (xs : List A) (x : A) (d : ℕ) → d < length xs → slice_get (xs ++ x ∷ []) d ≡ slice_get xs d
before_end xs x d inside =
    slice_get-get_or (xs ++ x ∷ []) d x (omega (arith, inside, length-append xs (x ∷ []))) ∙ ap Some (get_or-append xs (x ∷ []) x d inside)
    ∙ sym (slice_get-get_or xs d x inside)

one_more_at : (plan : PlanData) (agents : List (Option Agent)) (found : Option Agent) → IfSome found (IsAgentOf plan (length agents)) →
    (found ≡ None → IsLeaf (plan_lists plan) (length agents) → ⊥) → IsLeaf (plan_lists plan) (length agents) →
    HasAgent plan (agents ++ found ∷ []) (length agents)
one_more_at plan agents (Some agent) its none leaf = record { agent = agent; here = at_end agents (Some agent); its = its }
one_more_at plan agents None its none leaf = absurd (none refl leaf)

only_more : (plan : PlanData) (agents : List (Option Agent)) (found : Option Agent) (d : ℕ) (agent : Agent) → AreOnlyAgents plan agents →
    IfSome found (IsAgentOf plan (length agents)) → slice_get (agents ++ found ∷ []) d ≡ Some (Some agent) → IsAgentOf plan d agent
only_more plan agents found d agent only its e = elim (cases_lt d (length agents)) [
  | inl old ↦ only d agent (sym (before_end agents found d old) ∙ e)
  | inr at ↦
      let within = slice_get_within (agents ++ found ∷ []) d (Some agent) e in
      let here : d ≡ length agents = omega (arith, at, within, length-append agents (found ∷ [])) in
      let both : Some found ≡ Some (Some agent) = sym (at_end agents found) ∙ ap (slice_get (agents ++ found ∷ [])) (sym here) ∙ e in
      let same : found ≡ Some agent = cc both in
      subst (λ (k : ℕ). IsAgentOf plan k agent) (sym here) (subst (λ (o : Option Agent). IfSome o (IsAgentOf plan (length agents))) same its)
]

-- what is found for node n, its agent unless it is no device, joins the agents of the devices before n
pub one_more : (plan : PlanData) (agents new : List (Option Agent)) (found : Option Agent) (n : ℕ) → AreAgentsTo plan agents n →
    new ≡ agents ++ found ∷ [] →
    IfSome found (IsAgentOf plan n) → (found ≡ None → IsLeaf (plan_lists plan) n → ⊥) → AreAgentsTo plan new (n + 1)
one_more plan agents new found n are pushed its none = record {
  many = ap length pushed ∙ length-append agents (found ∷ []) ∙ ap (λ (k : ℕ). k + 1) are.many;
  each = λ d low leaf. subst (λ (l : List (Option Agent)). HasAgent plan l d) (sym pushed) (elim (cases_lt d n) [
    | inl old ↦
        let has = are.each d old leaf in
        let before = before_end agents found d (omega (arith, are.many, old)) in
        record { agent = has.agent; here = before ∙ has.here; its = has.its }
    | inr at ↦
        let same : length agents ≡ d = omega (arith, are.many, at, low) in
        let number : n ≡ length agents = sym are.many in
        subst (λ (k : ℕ). HasAgent plan (agents ++ found ∷ []) k) same
        (one_more_at plan agents found (subst (λ (k : ℕ). IfSome found (IsAgentOf plan k)) number its)
        (subst (λ (k : ℕ). found ≡ None → IsLeaf (plan_lists plan) k → ⊥) number none)
        (subst (λ (k : ℕ). IsLeaf (plan_lists plan) k) (sym same) leaf))
  ]);
  only = λ d agent e.
      let number : n ≡ length agents = sym are.many in
      only_more plan agents found d agent are.only (subst (λ (k : ℕ). IfSome found (IsAgentOf plan k)) number its)
      (subst (λ (l : List (Option Agent)). slice_get l d ≡ Some (Some agent)) pushed e);
}

-- what stands at the place of a device is its agent
pub agent_here : (plan : PlanData) (agents : List (Option Agent)) (d : ℕ) (now : Agent) (none : Option Agent) →
    HasAgent plan agents d → Some now ≡ get_or agents d none →
    IsAgentOf plan d now
agent_here plan agents d now none has e =
    let inside = slice_get_within agents d (Some has.agent) has.here in
    let both : Some (Some has.agent) ≡ Some (Some now) = sym has.here ∙ slice_get-get_or agents d none inside ∙ ap Some (sym e) in
    let same : has.agent ≡ now = cc both in
    subst (IsAgentOf plan d) same has.its

-- the agents of the devices up to the last entry are those of all devices of the plan
pub all_agents : (plan : PlanData) → IsPlan plan → (agents : List (Option Agent)) (n : ℕ) → AreAgentsTo plan agents n →
    n ≡ length plan.entries + 1 → AreAgents plan agents
all_agents plan is_plan agents n are e d leaf = are.each d (omega (arith, e, leaf_node (plan_lists plan) (lawful plan is_plan) d leaf, nodes_are plan)) leaf
