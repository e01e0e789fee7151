-- What is kept before the first change, and after a device has come further.
use Rattle.std.proofs.Common.{◌≡◌, ◌≢◌, ◌∙◌, sym, ap, ℕ, zero, suc, ◌+◌, ◌<◌, ◌≤◌, ℤ, Bool, true, false, cond, List, []}
use Rattle.std.proofs.Common.{◌∷◌, Some, length, map, get_or, replicate, refl, arith, subst, inl, inr}
use Rattle.std.proofs.Math.Path.{fun_ext}
use Rattle.std.proofs.Math.ListN.{set, length-set, get_or-eq_default}
use Rattle.std.specs.Prelude.{◌==◌}
use Rattle.std.specs.List.{range_with_len}
use Rattle.std.proofs.lemmas.Bool.{cases_eq, cases_lt}
use Rattle.std.proofs.lemmas.List.{get_or-set_same, get_or-set_other, get_or_default, get_or-replicate, length-replicate}
use Rattle.pm_bid.specs.Bids.{pairwise_sum, pairwise_difference, zeros, sum_of, AllWithinLimit}
use Rattle.pm_base.specs.Limits.{sum_limit}
use Rattle.pm_bid.proofs.Sums.{sum_of-replicate_zeros, length-zeros}
use Rattle.pm_plan.specs.Plans.{PlanData, node, start_of, is_leaf, is_member, group, change_count, end_cut}
use Rattle.pm_plan.specs.Kept.{IsPlan}
use Rattle.pm_plan.specs.Auction.{States, node_bid, part_in, sum_in, demand_in_cut}
use Rattle.pm_base.specs.Cuts.{Cut}
use Rattle.pm_plan.specs.States.{state}
use Rattle.pm_plan.proofs.Leaves.{first_of, last_of}
use Rattle.pm_plan.proofs.DeviceNodes.{start_of-tells}
use Rattle.pm_plan.proofs.StateLaws.{state-start}
use Rattle.pm_walk.specs.declared.changes.Progress.{Progress}
use Rattle.pm_walk.specs.Standing.{StandingValue, no_progress, progress_at, HasCome, HaveCome, IsStanding, cut_made, demand_come}
use Rattle.pm_walk.proofs.Nodes.{no_changes, end-beyond, group_inside}
use Rattle.pm_walk.proofs.Sums.{Fit, fits, demand_cut, sum_fits, sum_within, sum_exchanged, sum_kept}

-- ---- cuts of changes made

-- no node has made more changes than are planned for it
pub made-within : (plan : PlanData) (progress : List Progress) → HaveCome plan progress → (x : ℕ) → x ≤ length plan.nodes →
    cut_made progress x ≤ change_count plan x
made-within plan progress all x inside = (all.reached x inside).within

-- no change is made by the auctioneer, nor by what is beyond the nodes
pub made-zero : (plan : PlanData) (progress : List Progress) → HaveCome plan progress → cut_made progress 0 ≡ 0
made-zero plan progress all = omega (arith, (all.reached 0 (omega arith)).within)

-- no change is made by a number beyond the last node
pub made-beyond : (plan : PlanData) (progress : List Progress) (x : ℕ) → HaveCome plan progress → length plan.nodes < x → cut_made progress x ≡ 0
made-beyond plan progress x all far = ap (λ (p : Progress). p.count) (get_or-eq_default progress no_progress (omega (arith, all.one_each)))

-- nor by a node that is no device
pub made-other : (plan : PlanData) (progress : List Progress) (x : ℕ) → IsPlan plan → HaveCome plan progress → x ≤ length plan.nodes →
    is_leaf plan x ≡ false → cut_made progress x ≡ 0
made-other plan progress x is all inside other = omega (arith, (all.reached x inside).within, no_changes plan x is other)

-- in the cut of the changes made, the demands have the basis's steps and keep the limit of one demand
pub standing_fits : (plan : PlanData) (standing : StandingValue) → IsStanding plan standing → Fit plan (state plan) (cut_made standing.progress)
standing_fits plan standing stands = fits plan (cut_made standing.progress) stands.sound (made-within plan standing.progress stands.progress)

group_sum_steps : (plan : PlanData) (standing : StandingValue) (g : ℕ) (sum : List ℤ) → IsStanding plan standing →
    sum ≡ sum_in plan (state plan) (cut_made standing.progress) g → length sum ≡ plan.basis.steps
group_sum_steps plan standing g sum stands sum_is =
    ap (λ l. length l) sum_is ∙ sum_fits plan (state plan) (cut_made standing.progress) g (standing_fits plan standing stands)

is_member-none : (plan : PlanData) (d : ℕ) → is_member plan d 0 ≡ false
unfolding is_member
is_member-none plan d = refl

demand-none : (plan : PlanData) (s : States) (cut : Cut) (d : ℕ) → cut d ≡ 0 → demand_in_cut plan s cut d ≡ zeros plan.basis.steps
unfolding demand_in_cut
demand-none plan s cut d h =
    ap (λ b. cond b (node_bid plan (node plan d) (s d (cut d))) (zeros plan.basis.steps)) (ap (is_member plan d) h ∙ is_member-none plan d)

-- the auctioneer is no member
demand-zero : (plan : PlanData) (standing : StandingValue) → IsStanding plan standing →
    length (demand_in_cut plan (state plan) (cut_made standing.progress) 0) ≡ plan.basis.steps
demand-zero plan standing stands = ap (λ l. length l)
    (demand-none plan (state plan) (cut_made standing.progress) 0 (made-zero plan standing.progress stands.progress)) ∙ length-zeros plan.basis.steps

demand_steps-at : (plan : PlanData) (standing : StandingValue) (x : ℕ) → IsStanding plan standing → x ≤ length plan.nodes →
    length (demand_in_cut plan (state plan) (cut_made standing.progress) x) ≡ plan.basis.steps
demand_steps-at plan standing zero stands inside = demand-zero plan standing stands
demand_steps-at plan standing (suc x) stands inside = (standing_fits plan standing stands).steps (suc x) (omega arith) inside

node_demand_steps : (plan : PlanData) (standing : StandingValue) (x : ℕ) (demand : List ℤ) → IsStanding plan standing →
    x ≤ length plan.nodes → demand ≡ demand_in_cut plan (state plan) (cut_made standing.progress) x → length demand ≡ plan.basis.steps
node_demand_steps plan standing x demand stands inside demand_is = ap (λ l. length l) demand_is ∙ demand_steps-at plan standing x stands inside

-- what is kept of the plan has a place for the auctioneer and one for each node
pub kept_places : (plan : PlanData) (old kept : StandingValue) → old ≡ kept → IsStanding plan kept →
    (length old.progress ≡ length plan.nodes + 1) × (length old.demands ≡ length plan.nodes + 1) × (length old.sums ≡ length plan.nodes + 1)
kept_places plan old kept e stands =
    let there = subst (IsStanding plan) (sym e) stands in
    (there.progress.one_each, there.demand_each, there.sum_each)

-- what is read of a group and of a node has the steps of the basis
pub kept_sum : (plan : PlanData) (old kept : StandingValue) (g : ℕ) (x : List ℤ) → old ≡ kept → IsStanding plan kept →
    g ≤ length plan.nodes → x ≡ get_or old.sums g x → length x ≡ plan.basis.steps
kept_sum plan old kept g x e stands inside read =
    let there = subst (IsStanding plan) (sym e) stands in
    group_sum_steps plan old g x there (read ∙ get_or_default old.sums g x [] (omega (arith, there.sum_each)) ∙ there.sums g inside)

-- what is read of a node's demand, from what is kept of the plan, has as many steps as the basis
pub kept_demand : (plan : PlanData) (old kept : StandingValue) (d : ℕ) (x : List ℤ) → old ≡ kept → IsStanding plan kept →
    d ≤ length plan.nodes → x ≡ get_or old.demands d x → length x ≡ plan.basis.steps
kept_demand plan old kept d x e stands inside read =
    let there = subst (IsStanding plan) (sym e) stands in
    node_demand_steps plan old d x there inside (read ∙ get_or_default old.demands d x [] (omega (arith, there.demand_each)) ∙ there.demands d inside)

-- ---- the changes of a phase, device after device

-- two cuts that are the same for the auctioneer are the same for each number below 1
pub first_node : (a b : Cut) (x : ℕ) → x < 1 → a 0 ≡ b 0 → a x ≡ b x
first_node a b zero below same = same
first_node a b (suc x) below same = absurd (omega arith)

-- the nodes below n have made as many changes as a cut says, those from n on as many as another one says
pub record AreBetween (n : ℕ) (progress : List Progress) (after before : Cut) : Type 0 where
  -- the nodes below n have made as many changes as the one cut says
  pub done : (x : ℕ) → x < n → cut_made progress x ≡ after x
  -- the nodes from n on have made as many changes as the other cut says
  pub left : (x : ℕ) → n ≤ x → cut_made progress x ≡ before x

-- node n has made as many as it has to, and the other nodes stay
pub between-more : (n : ℕ) (old new : List Progress) (after before : Cut) → AreBetween n old after before → cut_made new n ≡ after n →
    ((x : ℕ) → x ≢ n → cut_made new x ≡ cut_made old x) → AreBetween (n + 1) new after before
between-more n old new after before between here others = record {
  done = λ x below. elim (cases_eq x n) [
    | inl same ↦ subst (λ (k : ℕ). cut_made new k ≡ after k) (sym same) here
    | inr other ↦ others x other ∙ between.done x (omega arith)
  ];
  left = λ x from. others x (λ same. omega (arith, same)) ∙ between.left x (omega arith);
}

-- node n has none to make
pub between-passed : (n : ℕ) (progress : List Progress) (after before : Cut) → AreBetween n progress after before →
    before n ≡ after n → AreBetween (n + 1) progress after before
between-passed n progress after before between none = record {
  done = λ x below. elim (cases_eq x n) [
    | inl same ↦ subst (λ (k : ℕ). cut_made progress k ≡ after k) (sym same) (between.left n (omega arith) ∙ none)
    | inr other ↦ between.done x (omega arith)
  ];
  left = λ x from. between.left x (omega arith);
}

between_at : (n : ℕ) (progress : List Progress) (after before : Cut) → AreBetween n progress after before →
    ((x : ℕ) → n ≤ x → before x ≡ after x) → (x : ℕ) → cut_made progress x ≡ after x
between_at n progress after before between none x = elim (cases_lt x n) [
  | inl below ↦ between.done x below
  | inr beyond ↦ between.left x beyond ∙ none x beyond
]

-- the nodes from n on have none to make
pub all_between : (n : ℕ) (progress : List Progress) (after before : Cut) → AreBetween n progress after before →
    ((x : ℕ) → n ≤ x → before x ≡ after x) → cut_made progress ≡ after
all_between n progress after before between none = fun_ext (between_at n progress after before between none)

-- once n is beyond the last node, the changes made are those up to the end of phase p
pub all_done : (plan : PlanData) (progress : List Progress) (n p q : ℕ) → AreBetween n progress (end_cut plan p) (end_cut plan q) →
    length plan.nodes < n → cut_made progress ≡ end_cut plan p
all_done plan progress n p q between all =
    all_between n progress (end_cut plan p) (end_cut plan q) between (λ x from. end-beyond plan q x (omega arith) ∙ sym (end-beyond plan p x (omega arith)))

-- the number of a node whose progress is set, and of the others
pub made-here : (old new : List Progress) (n : ℕ) (here : Progress) → n < length old → new ≡ set old n here → cut_made new n ≡ here.count
made-here old new n here inside new_is = ap (λ (l : List Progress). cut_made l n) new_is
    ∙ ap (λ (p : Progress). p.count) (get_or-set_same old n here no_progress inside)

-- setting the progress of one node leaves the number of changes made by any other
pub made-others : (old new : List Progress) (n x : ℕ) (here : Progress) → new ≡ set old n here → x ≢ n → cut_made new x ≡ cut_made old x
made-others old new n x here new_is other = ap (λ (l : List Progress). cut_made l x) new_is
    ∙ ap (λ (p : Progress). p.count) (get_or-set_other old n x here no_progress other)

-- one device has made so many changes more, and no other has made any
pub record IsFurther (old new : List Progress) (d many : ℕ) : Type 0 where
  -- the device has made so many more
  pub here : cut_made new d ≡ cut_made old d + many
  -- every other node has made as many as before
  pub others : (x : ℕ) → x ≢ d → cut_made new x ≡ cut_made old x

-- a device whose progress is set to one with so many changes more has made so many more
pub further-set : (plan : PlanData) (old new : List Progress) (d many : ℕ) (before here : Progress) → HaveCome plan old →
    d ≤ length plan.nodes → before ≡ progress_at old d → here.count ≡ before.count + many → new ≡ set old d here →
    IsFurther old new d many
further-set plan old new d many before here all inside before_is count new_is = record {
  here = made-here old new d here (omega (arith, all.one_each)) new_is ∙ count ∙ ap (λ (p : Progress). p.count + many) before_is;
  others = λ x other. made-others old new d x here new_is other;
}

-- how far a node has come, as the list has it, is how far it has come
pub reached-read : (plan : PlanData) (old : List Progress) (d : ℕ) (before : Progress) → HaveCome plan old → d ≤ length plan.nodes →
    before ≡ progress_at old d → HasCome plan d before
reached-read plan old d before all inside before_is = subst (HasCome plan d) (sym before_is) (all.reached d inside)

-- a walk over the devices, which is done with those below n, with a bid to write in
pub record IsAlong (plan : PlanData) (n : ℕ) (kept : StandingValue) (bid : List ℤ) (after before : Cut) : Type 0 where
  -- what is kept is that of the plan
  pub stands : IsStanding plan kept
  -- the nodes below n have come to the one cut, the others stand at the other
  pub between : AreBetween n kept.progress after before
  -- the bid has the steps of the basis
  pub spare : length bid ≡ plan.basis.steps

-- device n has come to the one cut, and what is kept stands again
pub along-more : (plan : PlanData) (n : ℕ) (old here new : StandingValue) (bid left bid' : List ℤ) (after before : Cut) →
    IsAlong plan n old bid after before → IsStanding plan here → cut_made here.progress n ≡ after n →
    ((x : ℕ) → x ≢ n → cut_made here.progress x ≡ cut_made old.progress x) → length left ≡ plan.basis.steps →
    new ≡ here → bid' ≡ left → IsAlong plan (n + 1) new bid' after before
along-more plan n old here new bid left bid' after before along stands done others steps new_is bid_is = record {
  stands = subst (IsStanding plan) (sym new_is) stands;
  between = subst (λ (kept : StandingValue). AreBetween (n + 1) kept.progress after before) (sym new_is)
      (between-more n old.progress here.progress after before along.between done others);
  spare = ap (λ l. length l) bid_is ∙ steps;
}

-- node n, which makes no change, is passed
pub along-passed : (plan : PlanData) (n : ℕ) (old new : StandingValue) (bid bid' : List ℤ) (after before : Cut) →
    IsAlong plan n old bid after before → before n ≡ after n → new ≡ old → bid' ≡ bid → IsAlong plan (n + 1) new bid' after before
along-passed plan n old new bid bid' after before along none new_is bid_is = record {
  stands = subst (IsStanding plan) (sym new_is) along.stands;
  between = subst (λ (kept : StandingValue). AreBetween (n + 1) kept.progress after before) (sym new_is)
      (between-passed n old.progress after before along.between none);
  spare = ap (λ l. length l) bid_is ∙ along.spare;
}

-- ---- a device comes further

-- what is kept once device d has come so far, with this demand
abbrev pub put : PlanData → StandingValue → ℕ → Progress → List ℤ → StandingValue
put plan old d here bid = record {
  progress = set old.progress d here;
  demands = set old.demands d bid;
  sums = set old.sums (group plan d) (pairwise_sum (pairwise_difference (get_or old.sums (group plan d) []) (get_or old.demands d [])) bid);
}

-- with a node's progress set to one that it has come to, all nodes have come as far as the list says
pub reached-set : (plan : PlanData) (progress : List Progress) (d : ℕ) (here : Progress) → d ≤ length plan.nodes →
    HaveCome plan progress → HasCome plan d here → HaveCome plan (set progress d here)
reached-set plan progress d here inside all reached = record {
  one_each = length-set progress d here ∙ all.one_each;
  reached = λ x within. elim (cases_eq x d) [
    | inl same ↦ subst (λ (k : ℕ). HasCome plan k (get_or (set progress d here) k no_progress)) (sym same)
        (subst (HasCome plan d) (sym (get_or-set_same progress d here no_progress (omega (arith, all.one_each)))) reached)
    | inr other ↦ subst (HasCome plan x) (sym (get_or-set_other progress d x here no_progress other)) (all.reached x within)
  ];
}

-- the demand of a device that has come so far is that of its count
demand_after-is : (plan : PlanData) (d : ℕ) (here : Progress) → is_leaf plan d ≡ true → HasCome plan d here →
    demand_come plan d here ≡ cond (is_member plan d here.count) (node_bid plan (node plan d) (state plan d here.count)) (zeros plan.basis.steps)
demand_after-is plan d here leaf reached =
    ap (λ m. cond m (node_bid plan (node plan d) here.state.0) (zeros plan.basis.steps)) reached.member
    ∙ ap (λ z. cond (is_member plan d here.count) (node_bid plan (node plan d) z) (zeros plan.basis.steps)) (reached.state leaf)

-- what is kept is that of the plan again once a device has come so far, with its demand then
pub stands-put : (plan : PlanData) (old : StandingValue) (d : ℕ) (here : Progress) (bid : List ℤ) → IsPlan plan →
    is_leaf plan d ≡ true → IsStanding plan old → HasCome plan d here →
    bid ≡ demand_come plan d here → length bid ≡ plan.basis.steps → IsStanding plan (put plan old d here bid)
unfolding demand_in_cut
stands-put plan old d here bid is leaf stands reached bid_is steps =
    let low = first_of plan d is leaf in
    let high = last_of plan d is leaf in
    let a = cut_made old.progress in
    let b = cut_made (set old.progress d here) in
    let here_is : b d ≡ here.count =
    ap (λ (p : Progress). p.count) (get_or-set_same old.progress d here no_progress (omega (arith, stands.progress.one_each))) in
    let other = λ (e : ℕ) (h : e ≢ d). ap (λ (p : Progress). p.count) (get_or-set_other old.progress d e here no_progress h) in
    let demand_is : demand_in_cut plan (state plan) b d ≡ bid =
    ap (λ k. cond (is_member plan d k) (node_bid plan (node plan d) (state plan d k)) (zeros plan.basis.steps)) here_is
    ∙ sym (bid_is ∙ demand_after-is plan d here leaf reached) in
    let own = get_or-set_same old.demands d bid [] (omega (arith, stands.demand_each)) in
    let inside = group_inside plan d is high in
    let sum = pairwise_sum (pairwise_difference (get_or old.sums (group plan d) []) (get_or old.demands d [])) bid in
    record {
      sound = is;
      progress = reached-set plan old.progress d here high stands.progress reached;
      demand_each = length-set old.demands d bid ∙ stands.demand_each;
      sum_each = length-set old.sums _ _ ∙ stands.sum_each;
      demands = λ e within. elim (cases_eq e d) [
        | inl same ↦ subst (λ (k : ℕ). get_or (set old.demands d bid) k [] ≡ demand_in_cut plan (state plan) b k) (sym same) (own ∙ sym demand_is)
        | inr h ↦ get_or-set_other old.demands d e bid [] h ∙ stands.demands e within ∙ demand_cut plan (state plan) a b e (sym (other e h))
      ];
      sums = λ g within. elim (cases_eq g (group plan d)) [
        | inl same ↦ subst (λ (k : ℕ). get_or (set old.sums (group plan d) sum) k [] ≡ sum_in plan (state plan) b k) (sym same)
            (get_or-set_same old.sums (group plan d) sum [] (omega (arith, stands.sum_each, inside))
            ∙ ap (λ l. pairwise_sum (pairwise_difference l (get_or old.demands d [])) bid) (stands.sums (group plan d) inside)
            ∙ ap (λ l. pairwise_sum (pairwise_difference (sum_in plan (state plan) a (group plan d)) l) bid) (stands.demands d high)
            ∙ ap (λ l. pairwise_sum (pairwise_difference (sum_in plan (state plan) a (group plan d)) (demand_in_cut plan (state plan) a d)) l)
            (sym demand_is)
            ∙ sum_exchanged plan (state plan) a b d low high (standing_fits plan old stands) (ap (λ l. length l) demand_is ∙ steps) other)
        | inr h ↦ get_or-set_other old.sums (group plan d) g sum [] h ∙ stands.sums g within
            ∙ sym (sum_kept plan (state plan) a b g d (λ e. h (sym e)) other)
      ];
    }

-- ---- what is read before a device comes further

-- device d comes so far, with the demand bid; of what is kept the sum of its group g and its demand before are read
pub record IsExchange (plan : PlanData) (old : StandingValue) (d g : ℕ) (here : Progress) (sum demand bid : List ℤ) : Type 0 where
  -- what is kept is that of the plan
  pub stands : IsStanding plan old
  -- d is a device
  pub leaf : is_leaf plan d ≡ true
  -- the device has come so far
  pub reached : HasCome plan d here
  -- the demand is what the device then has
  pub bid_is : bid ≡ demand_come plan d here
  -- the demand has the steps of the basis
  pub steps : length bid ≡ plan.basis.steps
  -- g is the group of device d
  pub group_is : g ≡ group plan d
  -- the sum is the kept one of g, where one is kept
  pub sum_is : sum ≡ get_or old.sums g sum
  -- the demand before is the kept one of d, where one is kept
  pub demand_is : demand ≡ get_or old.demands d demand

module _ {plan : PlanData} {old : StandingValue} {d g : ℕ} {here : Progress} {sum demand bid : List ℤ}
    (exchange : IsExchange plan old d g here sum demand bid) where
  inside : group plan d ≤ length plan.nodes
  inside = group_inside plan d exchange.stands.sound (last_of plan d exchange.stands.sound exchange.leaf)

  -- the sum of the device's group after the exchange
  abbrev exchanged : List ℤ
  exchanged = pairwise_sum (pairwise_difference (get_or old.sums (group plan d) []) (get_or old.demands d [])) bid

  -- it is made of the sum and the demand that are read
  exchanged-is : pairwise_sum (pairwise_difference sum demand) bid ≡ exchanged
  exchanged-is =
      let sum_is : sum ≡ get_or old.sums (group plan d) [] =
      exchange.sum_is ∙ get_or_default old.sums g sum [] (omega (arith, exchange.stands.sum_each, exchange.group_is, inside))
      ∙ ap (λ h. get_or old.sums h []) exchange.group_is in
      let demand_is : demand ≡ get_or old.demands d [] = exchange.demand_is ∙ get_or_default old.demands d demand []
      (omega (arith, exchange.stands.demand_each, last_of plan d exchange.stands.sound exchange.leaf)) in
      λ i. pairwise_sum (pairwise_difference (sum_is i) (demand_is i)) bid

  put_stands : IsStanding plan (put plan old d here bid)
  put_stands = stands-put plan old d here bid exchange.stands.sound exchange.leaf exchange.stands exchange.reached exchange.bid_is exchange.steps

  -- the sum that is read, with the old demand taken off and the new one added, is within the limit of a sum
  pub read_within : AllWithinLimit sum_limit (pairwise_sum (pairwise_difference sum demand) bid)
  read_within =
      let next = put plan old d here bid in
      let new_is : exchanged ≡ sum_in plan (state plan) (cut_made next.progress) (group plan d) =
      sym (get_or-set_same old.sums (group plan d) exchanged [] (omega (arith, exchange.stands.sum_each, inside))) ∙ put_stands.sums (group plan d) inside in
      subst (AllWithinLimit sum_limit) (sym (exchanged-is ∙ new_is))
      (sum_within plan (state plan) (cut_made next.progress) (group plan d) exchange.stands.sound.nodes.few (standing_fits plan next put_stands))

  -- what is kept is that of the plan again with the progress, the demand and the sum made from what was read
  pub read_stands : (new : List ℤ) → new ≡ pairwise_sum (pairwise_difference sum demand) bid → (copy : List ℤ) → copy ≡ bid →
      IsStanding plan (record { progress = set old.progress d here; demands = set old.demands d copy; sums = set old.sums g new })
  read_stands new new_is copy copy_is =
      let group_is = exchange.group_is in
      let sum_is = new_is ∙ exchanged-is in
      subst (λ (kept : StandingValue). IsStanding plan kept)
      (sym (λ i. record { progress = set old.progress d here; demands = set old.demands d (copy_is i); sums = set old.sums (group_is i) (sum_is i) }))
      put_stands

-- ---- before the first change

map_range_const : {X : Type 0} (f : ℕ → X) (a n : ℕ) (x : X) → ((k : ℕ) → f k ≡ x) → map f (range_with_len a n) ≡ replicate n x
map_range_const f a zero x h = refl
map_range_const f a (suc n) x h = ap (λ y. y ∷ map f (range_with_len (a + 1) n)) (h a) ∙ ap (λ ys. x ∷ ys) (map_range_const f (a + 1) n x h)

same_both : {A : Type 0} (b : Bool) (x y : A) → x ≡ y → cond b x y ≡ y
same_both true x y h = h
same_both false x y h = refl

sum-none : (plan : PlanData) (s : States) (cut : Cut) (g : ℕ) → ((d : ℕ) → cut d ≡ 0) → sum_in plan s cut g ≡ zeros plan.basis.steps
unfolding sum_in part_in
sum-none plan s cut g h =
    ap (sum_of plan.basis.steps) (map_range_const (part_in plan s cut g) 1 (length plan.nodes) (zeros plan.basis.steps)
    (λ d. same_both (group plan d == g) (demand_in_cut plan s cut d) (zeros plan.basis.steps) (demand-none plan s cut d (h d))))
    ∙ sum_of-replicate_zeros plan.basis.steps (length plan.nodes)

-- a node in its start has come nowhere
pub reached-start : (plan : PlanData) (x : ℕ) (progress : Progress) → progress.count ≡ 0 → progress.member ≡ false →
    (is_leaf plan x ≡ true → start_of (node plan x) ≡ Some progress.state.0) → HasCome plan x progress
reached-start plan x progress none stranger start = record {
  within = omega arith;
  state = λ leaf.
      (let has = start_of-tells (node plan x) progress.state.0 (start leaf) in sym has.start_is ∙ sym (state-start plan x has.planned has.is))
      ∙ ap (state plan x) (sym none);
  member = stranger ∙ sym (is_member-none plan x) ∙ ap (is_member plan x) (sym none);
}

-- before the first change zeros for all demands and all sums are what is kept of the plan
pub start_stands : (plan : PlanData) (progress : List Progress) (demands sums : List (List ℤ)) (n : ℕ) → IsPlan plan →
    n ≡ length plan.nodes + 1 → HaveCome plan progress → ((x : ℕ) → cut_made progress x ≡ 0) →
    demands ≡ replicate n (zeros plan.basis.steps) → sums ≡ replicate n (zeros plan.basis.steps) →
    IsStanding plan (record { progress = progress; demands = demands; sums = sums })
start_stands plan progress demands sums n is n_is all none demands_is sums_is = record {
  sound = is;
  progress = all;
  demand_each = ap (λ l. length l) demands_is ∙ length-replicate n (zeros plan.basis.steps) ∙ n_is;
  sum_each = ap (λ l. length l) sums_is ∙ length-replicate n (zeros plan.basis.steps) ∙ n_is;
  demands = λ x h. ap (λ l. get_or l x []) demands_is ∙ get_or-replicate n x (zeros plan.basis.steps) [] (omega arith)
      ∙ sym (demand-none plan (state plan) (cut_made progress) x (none x));
  sums = λ g h. ap (λ l. get_or l g []) sums_is ∙ get_or-replicate n g (zeros plan.basis.steps) [] (omega arith)
      ∙ sym (sum-none plan (state plan) (cut_made progress) g none);
}
