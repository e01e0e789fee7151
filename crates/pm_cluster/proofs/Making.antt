-- A device makes its next change.
use Rattle.std.proofs.Common.{◌≡◌, ◌∙◌, sym, ap, subst, ℕ, ◌+◌, ◌<◌, ◌≤◌, ℤ, pos, Bool, true}
use Rattle.std.proofs.Common.{false, not, List, length, get_or, arith, refl, inl, inr, get_or-set_same, get_or-set_other}
use Rattle.std.specs.Prelude.{Option, Some, Vec}
use Rattle.std.specs.declared.alloc.Global.{Global}
use Rattle.std.proofs.Math.ListN.{set, length-set}
use Rattle.std.proofs.Math.Logic.{∥∥₁_elim, ∥∥₁_map}
use Rattle.std.proofs.Props.{props}
use Rattle.std.proofs.lemmas.Bool.{cases_eq}
use Rattle.std.proofs.lemmas.List.{length-map}
use Rattle.pm_base.specs.Rows.{rows_of}
use Rattle.pm_bid.specs.Bids.{zeros}
use Rattle.pm_device.specs.declared.kind.Kind.{Kind}
use Rattle.pm_device.specs.declared.state.Next.{Next}
use Rattle.pm_strategy.specs.Strategies.{bid_of}
use Rattle.pm_tree.specs.Entries.{place_of}
use Rattle.pm_market.specs.Lists.{nodes, parent, IsNode, IsLeaf}
use Rattle.pm_market.specs.Lists as market
use Rattle.pm_market.specs.Moves.{Legal, step}
use Rattle.pm_market.specs.declared.moves.Move.TheVariants.{Change}
use Rattle.pm_market.specs.State.{State, update}
use Rattle.pm_market.proofs.Tree.{leaf_node}
use Rattle.pm_market.proofs.Cuts.{updated_same, updated_other, newest_leaf}
use Rattle.pm_session.specs.Links.{Session, BidOffered, bid_offered}
use Rattle.pm_session.specs.Ports.{Seat}
use Rattle.pm_plan.specs.Plans.{PlanData, node, kind_of, is_member, change_count, end_cut}
use Rattle.pm_plan.specs.States.{state}
use Rattle.pm_plan.specs.Kept.{IsPlan}
use Rattle.pm_plan.specs.Market.{plan_lists}
use Rattle.pm_plan.proofs.Ends.{end-within}
use Rattle.pm_plan.proofs.MarketLists.{phases-is}
use Rattle.pm_offer.specs.Offers.{device_demand}
use Rattle.pm_stands.specs.Core.{Core, row_at, link_at, seat_at}
use Rattle.pm_stands.specs.Rows.{OneLink}
use Rattle.pm_laws.specs.Gone.{is_gone}
use Rattle.pm_stands.specs.Stands.{StandsFor, Stands, MakesMove}
use Rattle.pm_stands.specs.Made.{seat_after, DidChange, changed_core}
use Rattle.pm_cache.specs.Learning.{bid_demand}
use Rattle.pm_plan.proofs.MarketLists.{lawful}
use Rattle.pm_stands.proofs.Places.{at_node, from_node}
use Rattle.pm_laws.proofs.Gone.{gone_leaf}
use Rattle.pm_stands.proofs.Changing.{change_did}
use Rattle.pm_cluster.specs.Next.{count_of, IsNext}
use Rattle.pm_cluster.specs.Offering.{IsFollowed}
use Rattle.pm_cluster.specs.Parts.{HasLinkAt}
use Rattle.pm_cluster.proofs.NextChanges.{end_of_market, member_of_market, demand_of_member, demand_of_none}

-- the number of a change that follows is at most how many changes its device makes
pub within_changes : (plan : PlanData) (c : Core) (next : Next) (kind : Kind) → IsFollowed plan c next kind → next.number ≤ change_count plan next.device
within_changes plan c next kind follows = omega (arith, follows.its_next.of_phase, end-within plan (c.closed + 1) next.device)

-- it is legal
pub legal_next : (plan : PlanData) → IsPlan plan → (c : Core) (s : State) → StandsFor plan c s → (next : Next) (kind : Kind) →
    IsFollowed plan c next kind →
    Legal (plan_lists plan) s (Change next.device next.number)
legal_next plan is_plan c s stands next kind follows =
    let open_phase : s.closed < market.phases (plan_lists plan) = omega (arith, follows.its_next.open_phase, stands.closed, phases-is plan) in (
      follows.leaf,
      open_phase,
      omega (arith, follows.its_next.number, stands.counts next.device follows.leaf),
      omega (
        arith,
        follows.its_next.of_phase,
        end_of_market plan is_plan (s.closed + 1) next.device follows.leaf (omega (arith, open_phase, phases-is plan)),
        ap (λ (p : ℕ). end_cut plan (p + 1) next.device) stands.closed,
      ),
    )

-- the bid of a member by the arrays of the plan is the demand of the plan
pub filled_demand : (plan : PlanData) (c : Core) (next : Next) (kind : Kind) (demand : List ℤ) (arrays : List (List ℤ)) (steps : ℕ) →
    next.member ≡ true → kind_of (node plan next.device) ≡ Some kind → IsNext plan c.closed (count_of c) next.device next →
    steps ≡ plan.basis.steps → arrays ≡ plan.arrays → demand ≡ bid_of kind next.state.0 arrays steps →
    demand ≡ device_demand plan next.device next.number
filled_demand plan c next kind demand arrays steps on kind_is is same arrays_are bid =
    bid ∙ ap (λ (a : List (List ℤ)). bid_of kind next.state.0 a steps) arrays_are
    ∙ ap (λ (z : ℤ). bid_of kind z plan.arrays steps) is.state
    ∙ ap (bid_of kind (state plan next.device next.number) plan.arrays) same
    ∙ sym (demand_of_member plan next.device next.number kind kind_is (sym is.member ∙ on))

-- what a device agent made of it is the demand of the plan
pub made_demand : (plan : PlanData) (c : Core) (next : Next) (kind : Kind) (demand : List ℤ) (steps : ℕ) → next.member ≡ true →
    kind_of (node plan next.device) ≡ Some kind → IsNext plan c.closed (count_of c) next.device next → steps ≡ plan.basis.steps →
    ((arrays : List (List ℤ)) → demand ≡ bid_of kind next.state.0 arrays steps) → demand ≡ device_demand plan next.device next.number
made_demand plan c next kind demand steps on kind_is is same made =
    filled_demand plan c next kind demand plan.arrays steps on kind_is is same refl (made plan.arrays)

-- its number is new on the device's link
pub new_number : (plan : PlanData) → IsPlan plan → (c : Core) → ∥ Stands plan c ∥₁ → (next : Next) (kind : Kind) →
    IsFollowed plan c next kind → (y k : ℕ) →
    y ≡ parent (plan_lists plan) next.device → k ≡ place_of plan.entries next.device → (link_at c.links y k).up.offered < next.number
new_number plan is_plan c stands next kind follows y k e f =
    ∥∥₁_elim stands (Prim.hlevel props) (λ st.
    let x_node = leaf_node (plan_lists plan) (lawful plan is_plan) next.device follows.leaf in
    from_node plan next.device y k (λ (i j : ℕ). (link_at c.links i j).up.offered < next.number) e f
    (omega (
      arith,
      st.is.bid_offered next.device x_node,
      newest_leaf (plan_lists plan) st.state.counts st.state.published next.device follows.leaf,
      st.is.counts next.device follows.leaf,
      follows.its_next.number,
    )))

-- a link that was read for a device has the steps of the basis
pub read_steps : (plan : PlanData) (links : List (List Session)) (x y k : ℕ) → y ≡ parent (plan_lists plan) x → k ≡ place_of plan.entries x →
    (link_at links (parent (plan_lists plan) x) (place_of plan.entries x)).steps ≡ plan.basis.steps → (link_at links y k).steps ≡ plan.basis.steps
read_steps plan links x y k e f same = from_node plan x y k (λ (i j : ℕ). (link_at links i j).steps ≡ plan.basis.steps) e f same

-- a link that was read for a device has its place
pub read_link : (plan : PlanData) (rows : List (Vec Session Global)) (x y k : ℕ) → y ≡ parent (plan_lists plan) x → k ≡ place_of plan.entries x →
    parent (plan_lists plan) x < length (rows_of rows) → place_of plan.entries x < length (row_at (rows_of rows) (parent (plan_lists plan) x)) →
    HasLinkAt rows y k
read_link plan rows x y k e f row place =
    from_node plan x y k (HasLinkAt rows) e f (record { parent = omega (arith, row, length-map rows (λ row. row.items)); place = place })

-- what was offered on the link that was read is the demand of a member
pub offered_demand : (plan : PlanData) (old new : List (List Session)) (x n y k : ℕ) (member : Bool) (demand : List ℤ) →
    y ≡ parent (plan_lists plan) x →
    k ≡ place_of plan.entries x → member ≡ true → demand ≡ device_demand plan x n →
    BidOffered (link_at old y k) (link_at new y k) (bid_offered (link_at old y k).steps n (Some demand)) →
    BidOffered (link_at old (parent (plan_lists plan) x) (place_of plan.entries x)) (link_at new (parent (plan_lists plan) x) (place_of plan.entries x))
    (bid_offered (link_at old (parent (plan_lists plan) x) (place_of plan.entries x)).steps n (bid_demand (not member) (device_demand plan x n)))
offered_demand plan old new x n y k member demand e f on is offered =
    let bid : List ℤ = device_demand plan x n in
    at_node plan x y k (λ (i j : ℕ). BidOffered (link_at old i j) (link_at new i j)
    (bid_offered (link_at old i j).steps n (bid_demand (not member) bid))) e f
    (subst (λ (d : Option (List ℤ)). BidOffered (link_at old y k) (link_at new y k) (bid_offered (link_at old y k).steps n d))
    (ap Some is ∙ ap (λ (m : Bool). bid_demand (not m) bid) (sym on)) offered)

-- the bid that was offered is the device's
bid_is : (plan : PlanData) → IsPlan plan → (x n steps : ℕ) (kind : Kind) (member : Bool) → IsLeaf (plan_lists plan) x →
    kind_of (node plan x) ≡ Some kind →
    n ≤ change_count plan x → member ≡ is_member plan x n → steps ≡ plan.basis.steps →
    bid_offered steps n (bid_demand (not member) (device_demand plan x n))
    ≡ record { number = n; gone = is_gone (plan_lists plan) x n; demand = device_demand plan x n }
bid_is plan is_plan x n steps kind member leaf kind_is le member_is steps_are =
    let gone : is_gone (plan_lists plan) x n ≡ not member =
    gone_leaf (plan_lists plan) x n leaf ∙ ap not (member_of_market plan is_plan x n leaf le ∙ sym member_is) in
    go member (λ none. demand_of_none plan x n kind kind_is (sym member_is ∙ none))
    ∙ ap (λ (g : Bool). record { number = n; gone = g; demand = device_demand plan x n }) (sym gone)
  where
    go : (m : Bool) → (m ≡ false → device_demand plan x n ≡ zeros plan.basis.steps) →
        bid_offered steps n (bid_demand (not m) (device_demand plan x n)) ≡ record { number = n; gone = not m; demand = device_demand plan x n }
    go true none = refl
    go false none = ap (λ (d : List ℤ). record { number = n; gone = true; demand = d }) (ap zeros steps_are ∙ sym (none refl))

set_updated : {A : Type 0} (xs : List A) (x : ℕ) (v d : A) → x < length xs → (e : ℕ) →
    get_or (set xs x v) e d ≡ update (λ (i : ℕ). get_or xs i d) x v e
set_updated xs x v d lt e = elim (cases_eq e x) [
  | inl is ↦
      ap (λ (i : ℕ). get_or (set xs x v) i d) is ∙ get_or-set_same xs x v d lt
      ∙ sym (ap (update (λ (i : ℕ). get_or xs i d) x v) is ∙ updated_same (λ (i : ℕ). get_or xs i d) x v)
  | inr ne ↦ get_or-set_other xs x e v d ne ∙ sym (updated_other (λ (i : ℕ). get_or xs i d) x v e ne)
]

-- what the code wrote
pub record Written (plan : PlanData) (c : Core) (next : Next) (before : Bool) (y k : ℕ) (links : List (List Session)) (seat : Seat) : Type 0 where
  -- the device has its place among the counts
  pub place_counts : next.device < length c.counts
  -- the device has its place among the states
  pub place_states : next.device < length c.states
  -- the device has its place among the ports
  pub place_ports : next.device < length c.ports
  -- before the change the link of y to the child in place k had the steps of the basis
  pub steps : (link_at c.links y k).steps ≡ plan.basis.steps
  -- of all links only that of y to the child in place k may be another
  pub one : OneLink c.links links y k
  -- on that link the device's demand after the change was offered, and none where it is no member then
  pub offered : BidOffered (link_at c.links y k) (link_at links y k)
      (bid_offered (link_at c.links y k).steps next.number (bid_demand (not next.member) (device_demand plan next.device next.number)))
  -- before tells whether the device was a member before the change
  pub before_is : before ≡ is_member plan next.device (count_of c next.device)
  -- the seat is what the change makes of the device's seat
  pub seat_is : seat ≡ seat_after (seat_at c.ports next.device) before next.member next.number

seat_set : (ports : List Seat) (x : ℕ) (seat : Seat) → x < length ports → seat_at (set ports x seat) x ≡ seat
unfolding seat_at
seat_set ports x seat lt = get_or-set_same ports x seat _ lt

seat_other : (ports : List Seat) (x d : ℕ) (seat : Seat) → (d ≡ x → ⊥) → seat_at (set ports x seat) d ≡ seat_at ports d
unfolding seat_at
seat_other ports x d seat ne = get_or-set_other ports x d seat _ ne

-- where what a change that follows asks for was written, the device made it and offered its bid
pub did_change : (plan : PlanData) → IsPlan plan → (c : Core) (next : Next) (kind : Kind) → IsFollowed plan c next kind → (before : Bool) (y k : ℕ)
    (links : List (List Session)) (seat : Seat) → Written plan c next before y k links seat →
    DidChange plan c next.device next.number links (set c.counts next.device next.number) (set c.states next.device next.state.0)
    (set c.ports next.device seat) y k
did_change plan is_plan c next kind follows before y k links seat written =
    let x = next.device in
    let n = next.number in
    let le = within_changes plan c next kind follows in
    let le_before : count_of c x ≤ change_count plan x = omega (arith, le, follows.its_next.number) in
    record {
      made = subst (BidOffered (link_at c.links y k) (link_at links y k))
          (bid_is plan is_plan x n (link_at c.links y k).steps kind next.member follows.leaf follows.its_kind le follows.its_next.member written.steps)
          written.offered;
      one = written.one;
      same_counts = length-set c.counts x n;
      counted = λ d leaf. set_updated c.counts x n 0 written.place_counts d;
      same_states = length-set c.states x next.state.0;
      moved = λ d leaf.
          set_updated c.states x next.state.0 (pos 0) written.place_states d
          ∙ ap (λ (z : ℤ). update (λ (e : ℕ). get_or c.states e (pos 0)) x z d) follows.its_next.state;
      same_ports = length-set c.ports x seat;
      seated =
          seat_set c.ports x seat written.place_ports ∙ written.seat_is
          ∙ ap (λ (b : Bool). seat_after (seat_at c.ports x) b next.member n)
          (written.before_is ∙ sym (member_of_market plan is_plan x (count_of c x) follows.leaf le_before))
          ∙ ap (λ (b : Bool). seat_after (seat_at c.ports x) (market.is_member (plan_lists plan) x (count_of c x)) b n)
          (follows.its_next.member ∙ sym (member_of_market plan is_plan x n follows.leaf le));
      others = λ d ne. seat_other c.ports x d seat ne;
    }

-- so the move was made
pub change_makes : (plan : PlanData) → IsPlan plan → (c : Core) (s : State) → StandsFor plan c s → (next : Next) (kind : Kind) →
    IsFollowed plan c next kind →
    (before : Bool) (y k : ℕ) → y ≡ parent (plan_lists plan) next.device → k ≡ place_of plan.entries next.device →
    (links : List (List Session)) (seat : Seat) → Written plan c next before y k links seat →
    MakesMove plan (changed_core c links (set c.counts next.device next.number) (set c.states next.device next.state.0) (set c.ports next.device seat)) s
    (Change next.device next.number)
change_makes plan is_plan c s stands next kind follows before y k e f links seat written =
    change_did plan is_plan c s stands next.device next.number y k (legal_next plan is_plan c s stands next kind follows) e f links
    (set c.counts next.device next.number) (set c.states next.device next.state.0) (set c.ports next.device seat)
    (did_change plan is_plan c next kind follows before y k links seat written)

-- a cluster that stands for some state still does so after a change that follows was written
pub change_stands : (plan : PlanData) → IsPlan plan → (c : Core) → ∥ Stands plan c ∥₁ → (next : Next) (kind : Kind) →
    IsFollowed plan c next kind →
    (before : Bool) (y k : ℕ) → y ≡ parent (plan_lists plan) next.device → k ≡ place_of plan.entries next.device →
    (links : List (List Session)) (seat : Seat) → Written plan c next before y k links seat →
    ∥ Stands plan (changed_core c links (set c.counts next.device next.number) (set c.states next.device next.state.0) (set c.ports next.device seat)) ∥₁
change_stands plan is_plan c stands next kind follows before y k e f links seat written =
    ∥∥₁_map stands (λ st. record {
      state = step (plan_lists plan) st.state (Change next.device next.number);
      is = (change_makes plan is_plan c st.state st.is next kind follows before y k e f links seat written).stands;
    })

-- who is a member afterwards
pub members_after : (plan : PlanData) (members : List Bool) (counts : List ℕ) (x n : ℕ) (member : Bool) → x < length members → x < length counts →
    member ≡ is_member plan x n →
    ((d : ℕ) → IsLeaf (plan_lists plan) d → get_or members d false ≡ is_member plan d (get_or counts d 0)) →
    (d : ℕ) → IsLeaf (plan_lists plan) d → get_or (set members x member) d false ≡ is_member plan d (get_or (set counts x n) d 0)
members_after plan members counts x n member lt lt' is before d leaf = elim (cases_eq d x) [
  | inl e ↦
      ap (λ (i : ℕ). get_or (set members x member) i false) e ∙ get_or-set_same members x member false lt ∙ is
      ∙ ap (is_member plan x) (sym (get_or-set_same counts x n 0 lt'))
      ∙ ap (λ (i : ℕ). is_member plan i (get_or (set counts x n) i 0)) (sym e)
  | inr ne ↦
      get_or-set_other members x d member false ne ∙ before d leaf ∙ ap (is_member plan d) (sym (get_or-set_other counts x d n 0 ne))
]
