-- What a history says of the tree that was given.
use Rattle.std.proofs.Common.{◌≡◌, ◌∙◌, sym, ap, subst, ℕ, ◌≤◌, Bool, true, false, List, [], ◌∷◌, length, inl, inr}
use Rattle.std.specs.Prelude.{slice_index_or}
use Rattle.pm_bid.specs.Bids.{zeros}
use Rattle.pm_market.specs.Lists.{Lists, parent, is_leaf, IsNode}
use Rattle.pm_net.specs.Pricing.{Pricing}
use Rattle.pm_net.specs.Messages.{BidMessage, bid_message}
use Rattle.pm_net_plan.specs.Places.{Numbering}
use Rattle.pm_system.specs.System.{System, bid_in_channel}
use Rattle.pm_lives.specs.Lives.{BeginsProcess, BeginsNever, BeginsOnce}
use Rattle.pm_processes.specs.History.{Scene, HistoryEvent, RelayBegins, RelayGoesOn, RootBegins, RootGoesOn, DeviceBegins, DeviceGoesOn}
use Rattle.pm_processes.specs.History.{Happens1, Happen, life_step, life_steps}
use Rattle.pm_processes.specs.Said.{BeginsDevice, HasNoProcess, HasOneProcess, HistoriesSay}

-- ---- a device whose process begins once

module _ (tree : Lists) (p : Pricing) (numbering : Numbering) (d : ℕ) where
  begins_by : (old : Scene) (event : HistoryEvent) (new : Scene) (did : Happens1 tree p numbering old event new) →
      BeginsProcess d (life_step tree p numbering old event new did) → BeginsDevice d event
  begins_by old (RelayBegins c took wrote) new did is = is
  begins_by old (RelayGoesOn c) new did is = is
  begins_by old (RootBegins took wrote) new did is = is
  begins_by old RootGoesOn new did is = is
  begins_by old (DeviceBegins e took wrote) new did is = is
  begins_by old (DeviceGoesOn e) new did is = is

  never : (events : List HistoryEvent) (first last : Scene) (happen : Happen tree p numbering first events last) → HasNoProcess d events →
      BeginsNever d (life_steps tree p numbering first events last happen)
  never [] first last happen none = tt
  never (event ∷ events) first last happen none =
      ((λ is. none.0 (begins_by first event happen.0 happen.1 is)), never events happen.0 last happen.2 none.1)

  once : (events : List HistoryEvent) (first last : Scene) (happen : Happen tree p numbering first events last) → HasOneProcess d events →
      BeginsOnce d (life_steps tree p numbering first events last happen)
  once [] first last happen one = tt
  once (event ∷ events) first last happen (inl none) = inl (never events happen.0 last happen.2 none)
  once (event ∷ events) first last happen (inr later) =
      inr ((λ is. later.0 (begins_by first event happen.0 happen.1 is)), once events happen.0 last happen.2 later.1)

-- ---- lists over the same tree

-- they have the same parents
pub same_parent : (lists tree : Lists) → lists.parents ≡ tree.parents → (x : ℕ) → parent lists x ≡ parent tree x
unfolding parent
same_parent lists tree is x = ap (λ (l : List ℕ). slice_index_or (0 ∷ l) x 0) is

-- they have the same devices
pub same_leaf : (lists tree : Lists) → lists.leaves ≡ tree.leaves → (x : ℕ) → is_leaf lists x ≡ is_leaf tree x
unfolding is_leaf
same_leaf lists tree is x = ap (λ (l : List Bool). slice_index_or (false ∷ l) x false) is

-- and the same nodes
pub same_node : (lists tree : Lists) → lists.parents ≡ tree.parents → (x : ℕ) → IsNode lists x → IsNode tree x
same_node lists tree is x node =
    let within : List ℕ → Type 0 = λ l. x ≤ length l in
    (node.0, subst within is node.1)

-- a message that was handed out is the same in both markets
same_bid : (p q : Pricing) → p.steps ≡ q.steps → (seen : System) (x k : ℕ) → bid_in_channel p seen x k ≡ bid_in_channel q seen x k
same_bid p q is seen x k = ap (λ (steps : ℕ). slice_index_or (seen.bids_sent x) k (bid_message 0 true (zeros steps))) is

-- ---- what a history says

pub says : HistoriesSay
says tree p numbering first last events happen law =
    let has = law.has in
    record {
      rising = λ d leaf one. law.rising d (same_leaf has.lists tree has.leaves d ∙ leaf) (once tree p numbering d events first last happen one);
      learnt = λ c conc giver is some.
          let there = same_node tree has.lists (sym has.parents) c (conc.0, conc.1) in
          let kept = law.learnt c (there.0, there.1, same_leaf has.lists tree has.leaves c ∙ conc.2) giver is some in
          let same = same_bid has.pricing p has.same_steps last.world.seen kept.x kept.place in
          record {
            x = kept.x;
            node = same_node has.lists tree has.parents kept.x kept.node;
            up = sym (same_parent has.lists tree has.parents kept.x) ∙ kept.up;
            sender_is = kept.sender_is;
            place = kept.place;
            inside = kept.inside;
            number_is = kept.number_is ∙ ap (λ (b : BidMessage). b.number) same;
            gone = sym (ap (λ (b : BidMessage). b.gone) same) ∙ kept.gone;
            gives = λ a e. sym (has.same_limits c a) ∙ kept.gives a e;
          };
    }
