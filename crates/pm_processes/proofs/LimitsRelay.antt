-- The worked history of a relay under limits: the two processes of the relay, frame by frame.
use Rattle.std.proofs.Common.{◌≡◌, ap, pos, negsuc, ℕ, zero, suc, ◌<◌, ◌≤◌, ◌^◌}
use Rattle.std.proofs.Common.{List, [], ◌∷◌, replicate}
use Rattle.std.proofs.Common.{Option, Some, None, refl, inl, inr, arith}
use Rattle.std.proofs.lemmas.Int.{ints}
use Rattle.std.specs.Prelude.{unwrap_or}
use Rattle.std.specs.List.{AllByRecursion}
use Rattle.pm_base.specs.Limits.{most_nodes}
use Rattle.pm_bid.specs.Taken.{said_between}
use Rattle.pm_session.specs.declared.price.PriceUpdate.{PriceUpdate}
use Rattle.pm_relay.specs.Relays.{RelayValue, AreRelayLimits}
use Rattle.pm_relay.specs.Relays.{BidSent, limits_places, limits_of_number, with_child_bid, with_new_limits}
use Rattle.pm_relay.specs.declared.outcome.PriceOutcome.TheVariants.{PassedOn}
use Rattle.pm_wire.specs.declared.frame.Frame.TheVariants.{Bid}
use Rattle.pm_frames.specs.Stored.{StoredRelay}
use Rattle.pm_frames.specs.declared.parent.ParentFrame.TheVariants.{Price}
use Rattle.pm_frames.specs.declared.relay.RelayFrame.TheVariants as relay_frame
use Rattle.pm_services.specs.Bounds.{no_bounds}
use Rattle.pm_services.specs.RelaySetups.{RelaySetup}
use Rattle.pm_system.specs.Worked.{small_limits}
use Rattle.pm_system.proofs.Worked.{relay_back}
use Rattle.pm_system.proofs.WorkedGiven.{are_small}
use Rattle.pm_system.proofs.WorkedValues.{reaches, suffices, relay_up, comes_back, looks_on, has_changed, sent_under, may_send, sends_under, rebuilt_relay}
use Rattle.pm_system.proofs.WorkedValues.{hears_again, has_again, passed_relay, may_pass, passes_on}
use Rattle.pm_services.specs.Outputs.{Keeps}
use Rattle.pm_services.specs.RelayWrites.{WritesRelay, WritesKept, stored_relay, bid_outs, price_outs}
use Rattle.pm_lives.specs.WorkedLives.{small_basis}
use Rattle.pm_lives.proofs.WorkedBounds.{then_keeps}
use Rattle.pm_lives.proofs.WorkedSteps.{alone, hears_bid, sends_own, passes_price_down}
use Rattle.pm_processes.specs.RelayProcess.{RelayProcess, RelayExchange}
use Rattle.pm_processes.specs.WorkedLimits.{narrow_limits, giver_terms, asked_demand, relay_bid_begun, relay_bid_rest}
use Rattle.pm_processes.specs.WorkedLimits.{relay_took, relay_wrote, next_took, next_wrote}
use Rattle.pm_processes.proofs.LimitsProcesses.{asked_fits}
use Rattle.pm_processes.proofs.WorkedEvents.{wrote_all}

-- ---- the first one

abbrev setup : RelaySetup
setup = record { child = 1; terms = giver_terms 1; basis = small_basis }

abbrev pub relay_new : RelayValue
relay_new = relay_back 0 0 0 (replicate most_nodes 0)

abbrev heard : RelayValue
heard = with_child_bid relay_new 0 2 (Some asked_demand)

abbrev given : RelayValue
given = with_new_limits heard 1 2 narrow_limits

abbrev sent : RelayValue
sent = sent_under (small_limits ∷ narrow_limits ∷ []) given

abbrev pub hears : RelayExchange
hears = record { frame = relay_frame.Child (Bid 1 2 asked_demand); bounds = no_bounds; after = alone heard; outs = [] }

abbrev pub is_given : RelayExchange
is_given = record { frame = relay_frame.Limits 2 narrow_limits; bounds = no_bounds; after = alone given; outs = [] }

abbrev pub sends : RelayExchange
sends = record { frame = relay_frame.Send; bounds = no_bounds; after = alone sent; outs = Keeps (stored_relay setup sent) ∷ bid_outs sent }

-- the relay learns the bid
pub does_hear : WritesRelay setup no_bounds (alone relay_new) hears.frame hears.after hears.outs
does_hear = inl (then_keeps, hears_bid (looks_on heard refl) refl)

-- it learns the limits
pub does_take_limits : WritesRelay setup no_bounds hears.after is_given.frame is_given.after is_given.outs
does_take_limits =
    record { learnt = given; looks = looks_on given refl; waiting_reply = []; tries = (refl, refl); replied = refl }

-- of numbers up to 0 there is one
kept_limits : (n : ℕ) → 0 ≤ n → n ≤ 0 → limits_of_number sent n ≡ limits_of_number given n
kept_limits zero from to = refl
kept_limits (suc n) from to = absurd (omega (arith, to))

is_sent : BidSent given sent 1
unfolding reaches has_changed may_send said_between
is_sent = sends_under given (small_limits ∷ narrow_limits ∷ []) narrow_limits refl refl refl kept_limits

-- it sends its bid
pub does_send : WritesRelay setup no_bounds is_given.after sends.frame sends.after sends.outs
does_send = sends_own setup given sent 1 is_sent

-- no child that bids is the giver
pub no_giver : (giver_terms 1).giver ≡ Some 1 → ⊥
no_giver e =
    let same : 2 ≡ 1 = ap (λ (o : Option ℕ). unwrap_or o 0) e in
    omega (arith, same)

-- a relay may have the limits given
pub are_narrow : AreRelayLimits narrow_limits
are_narrow = are_small (negsuc 2) (pos 5) (omega (arith, ints)) (omega (arith, ints)) (omega (arith, ints)) (omega (arith, ints))

unfoldable pub relay_process : RelayProcess 1 (giver_terms 1) relay_took relay_wrote
unfolding said_between
relay_process = record {
  basis = small_basis;
  resume = None;
  exchanges = hears ∷ is_given ∷ sends ∷ [];
  rest = [];
  begins = record {
    stand = (
      record { formed = ((omega (arith, ints), omega (arith, ints), omega arith), tt); accepted = (refl, tt) },
      (
        record {
          formed = ((omega arith, omega arith, refl, asked_fits), tt);
          accepted = (((omega arith, omega arith, omega arith), refl), no_giver);
        },
        (
          record {
            formed = (tt, (omega arith, (omega (arith, ints), omega (arith, ints))));
            accepted = ((λ e. absurd cc), (omega arith, refl, are_narrow));
          },
          (record { formed = tt; accepted = tt }, tt),
        ),
      ),
    );
    spelled = refl;
  };
  relay = relay_new;
  back = comes_back small_limits (replicate limits_places small_limits) 0 0 0 (replicate most_nodes 0) small_limits refl;
  held = alone relay_new;
  outs = [];
  learns = inl (refl, (refl, refl));
  answers = (does_hear, (does_take_limits, (does_send, tt)));
  bounded = (refl, (refl, (refl, tt)));
  written = wrote_all 1070 (record { n = 1; rest = relay_bid_begun; held = refl; part = inr (omega arith, (relay_bid_rest, refl)) }) refl;
}

-- ---- its next process

-- the numbers of its children in its bid
abbrev numbers_noted : List ℕ
numbers_noted = 2 ∷ 2 ∷ replicate 254 0

abbrev pub stored : StoredRelay
stored = record {
  last = 1;
  answered = 0;
  index = 0;
  basis = small_basis;
  first = small_limits;
  giver = 2;
  limits = narrow_limits;
  numbers = numbers_noted;
}

abbrev relay_again : RelayValue
relay_again = relay_up small_limits (replicate limits_places narrow_limits) 1 0 0 numbers_noted

abbrev pub given_again : RelayValue
given_again = with_new_limits relay_again 1 2 narrow_limits

abbrev heard_again : RelayValue
heard_again = with_child_bid given_again 0 2 (Some asked_demand)

abbrev rebuilt : RelayValue
rebuilt = rebuilt_relay heard_again

abbrev price : PriceUpdate
price = record { step = 0; number = 1; index = 1 }

abbrev passed : RelayValue
passed = passed_relay rebuilt price

abbrev pub sends_again : RelayExchange
sends_again = record { frame = relay_frame.Child (Bid 1 2 asked_demand); bounds = no_bounds; after = alone rebuilt; outs = bid_outs rebuilt }

abbrev pub passes_down : RelayExchange
passes_down = record {
  frame = relay_frame.Parent (Price 1 1 1 0 small_basis);
  bounds = no_bounds;
  after = alone passed;
  outs = price_outs setup None passed price PassedOn;
}

-- the next process learns the limits that were stored
pub does_learn : WritesKept (Some 2) setup (alone relay_again) stored (alone given_again) []
does_learn = inr (
  omega arith,
  record {
    learnt = given_again;
    looks = inr ((λ h. omega (arith, h.caught_up 0 (omega arith))), refl);
    waiting_reply = [];
    tries = (refl, refl);
    replied = refl;
  },
)

-- it hears the bid again, and sends its own
pub does_send_again : WritesRelay setup no_bounds (alone given_again) sends_again.frame sends_again.after sends_again.outs
unfolding said_between reaches suffices has_changed hears_again
does_send_again = inl (
  then_keeps,
  hears_bid (has_again heard_again refl refl refl) refl,
)

-- it settles for step 1, and passes that down
pub does_pass_down : WritesRelay setup no_bounds sends_again.after passes_down.frame passes_down.after passes_down.outs
unfolding said_between may_pass
does_pass_down = inl (refl, passes_price_down setup rebuilt passed price (passes_on rebuilt price refl refl))

-- zeros are numbers of children
pub are_zero : (count : ℕ) → AllByRecursion (λ (number : ℕ). number < 2 ^ 32) (replicate count 0)
are_zero zero = tt
are_zero (suc count) = (omega arith, are_zero count)

unfoldable pub next_process : RelayProcess 1 (giver_terms 1) next_took next_wrote
unfolding said_between
next_process = record {
  basis = small_basis;
  resume = Some stored;
  exchanges = sends_again ∷ passes_down ∷ [];
  rest = [];
  begins = record {
    stand = (
      record { formed = ((omega (arith, ints), omega (arith, ints), omega arith), tt); accepted = (refl, tt) },
      (
        record {
          formed = (
            tt,
            (
              omega arith,
              omega arith,
              omega arith,
              (omega (arith, ints), omega (arith, ints), omega arith),
              (omega (arith, ints), omega (arith, ints)),
              omega arith,
              (omega (arith, ints), omega (arith, ints)),
              (refl, (omega arith, (omega arith, are_zero 254))),
            ),
          );
          accepted = (refl, (refl, refl), omega arith, are_narrow);
        },
        (
          record {
            formed = ((omega arith, omega arith, refl, asked_fits), tt);
            accepted = (((omega arith, omega arith, omega arith), refl), no_giver);
          },
          (
            record {
              formed = (tt, (omega arith, omega arith, omega arith, omega arith, (omega (arith, ints), omega (arith, ints), omega arith)));
              accepted = (refl, omega arith, omega arith, refl);
            },
            tt,
          ),
        ),
      ),
    );
    spelled = refl;
  };
  relay = relay_again;
  back = comes_back small_limits (replicate limits_places narrow_limits) 1 0 0 numbers_noted narrow_limits refl;
  held = alone given_again;
  outs = [];
  learns = does_learn;
  answers = (does_send_again, (does_pass_down, tt));
  bounded = (refl, (refl, tt));
  written = wrote_all 1107 (record { n = 3; rest = []; held = refl; part = inl refl }) refl;
}
