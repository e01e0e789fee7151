-- An agent that offers anew does what two calls of a system do.
use Rattle.std.proofs.Common.{◌≡◌, ◌∙◌, sym, ap, subst, ℕ, ◌+◌, ◌-◌, ◌≤◌, ◌^◌, ltb, cond, true, false, refl, inl, inr, arith}
use Rattle.std.proofs.Math.Path.{fun_ext}
use Rattle.std.proofs.lemmas.Bool.{cases_eq, cond-true, lt-ltb}
use Rattle.pm_bid.specs.Bids.{zeros}
use Rattle.pm_market.specs.Lists.{Lists, changes}
use Rattle.pm_market.specs.State.{update}
use Rattle.pm_market.proofs.Cuts.{updated_same, updated_other}
use Rattle.pm_net.specs.Pricing.{Pricing}
use Rattle.pm_net.specs.Messages.{BidMessage, bid_message}
use Rattle.pm_net.specs.Agents.{DeviceAgent, after_offer, after_leaving}
use Rattle.pm_net_plan.specs.Places.{Numbering}
use Rattle.pm_control.specs.Control.{newest_demand, offered_anew, after_old}
use Rattle.pm_system.specs.System.{System, with_agent, with_bid_sent}
use Rattle.pm_system.specs.Calls.{Offers, SystemRuns}
use Rattle.pm_system.specs.Expiry.{DeviceOffersAnew, offers_anew}

-- of two values that a place is given the last one stays
updated_twice : {A : Type 0} (f : ℕ → A) (d : ℕ) (a b : A) → update (update f d a) d b ≡ update f d b
updated_twice {A = A} f d a b = fun_ext (λ x. elim (cases_eq x d) [
  | inl e ↦ subst (λ (z : ℕ). update (update f d a) d b z ≡ update f d b z) (sym e)
      (updated_same (update f d a) d b ∙ sym (updated_same f d b))
  | inr ne ↦ updated_other (update f d a) d b x ne ∙ updated_other f d a x ne ∙ sym (updated_other f d b x ne)
])

module _ (lists : Lists) (p : Pricing) (numbering : Numbering) (sys : System) (d kept : ℕ) (new : System)
    (did : DeviceOffersAnew lists p sys d kept new) where
  abbrev agent : DeviceAgent
  agent = sys.agents d

  abbrev left : DeviceAgent
  left = after_leaving agent

  abbrev after : DeviceAgent
  after = after_offer left did.demand

  abbrev stopped : System
  stopped = with_agent sys d left

  abbrev bid : BidMessage
  bid = bid_message (agent.number + 2 + 2) false did.demand

  after_is : after_old agent kept ≡ after
  after_is =
      cond-true (ltb agent.number kept) (cond (ltb (agent.number + 7) (2 ^ 32)) (offered_anew agent (newest_demand agent)) agent) agent did.newer
      ∙ cond-true (ltb (agent.number + 7) (2 ^ 32)) (offered_anew agent (newest_demand agent)) agent did.room
      ∙ ap (offered_anew agent) did.newest

  abbrev Changes : DeviceAgent → Type 0
  Changes a = (a.number + 2 ≤ changes lists d) × Offers lists p d a after bid

  there : Changes (stopped.agents d)
  there = subst Changes (sym (updated_same sys.agents d left)) (
    did.has_next,
    record {
      member = did.member;
      may = lt-ltb (left.number - left.answered) 16 (omega arith);
      offered = ap (after_offer left) did.demand_is;
      bid_is = ap (bid_message (agent.number + 2 + 2) false) did.demand_is;
    },
  )

  new_is : new ≡ with_bid_sent (with_agent stopped d after) d bid
  new_is =
      did.new_is ∙ ap (λ (a : DeviceAgent). with_bid_sent (with_agent sys d a) d bid) after_is
      ∙ ap (λ (f : ℕ → DeviceAgent). with_bid_sent (record sys { agents = f }) d bid) (sym (updated_twice sys.agents d left after))

  -- an agent that offers anew leaves, of which nothing is sent, and then bids
  pub two_calls : SystemRuns lists p numbering sys (offers_anew d) new
  two_calls = (
    stopped,
    inr (record {
      agent = left;
      bid = bid_message (agent.number + 2) true (zeros p.steps);
      made = record {
        leaf = did.leaf;
        has_next = omega (arith, did.has_next);
        change = inr (record { absent = did.absent; left = refl; bid_is = refl });
      };
      new_is = refl;
    }),
    (
      new,
      record {
        agent = after;
        bid = bid;
        made = record { leaf = did.leaf; has_next = there.0; change = inl there.1 };
        new_is = new_is;
      },
      refl,
    ),
  )
