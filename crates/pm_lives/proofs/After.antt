-- Calls after calls.
use Rattle.std.proofs.Common.{◌≡◌, sym, ap, subst, ℕ, Bool, cond, List, [], ◌∷◌, ◌++◌, refl, inl, inr}
use Rattle.pm_net.proofs.Messages.{either}
use Rattle.pm_services.specs.Outputs.{Output, Says}
use Rattle.pm_lives.specs.Moves.{FollowsByCalls, AreCalm, IsCalm}
use Rattle.pm_lives.specs.Outputs.{WereSent, EachKept}
use Rattle.pm_lives.proofs.Staying.{still, then_moves, were_sent, both_sent, kept_to, both_kept}
use Rattle.pm_market.specs.Lists.{Lists}
use Rattle.pm_net.specs.Pricing.{Pricing}
use Rattle.pm_net_plan.specs.Places.{Numbering}
use Rattle.pm_system.specs.System.{System}
use Rattle.pm_system.specs.Calls.{NodeCall, SystemRuns, StaysUp, IsNoRestart}
use Rattle.pm_system.specs.Calls as call

-- a run after a run is a run
pub runs_on : (lists : Lists) (p : Pricing) (numbering : Numbering) (first then : List NodeCall) (sys mid new : System) →
    SystemRuns lists p numbering sys first mid → SystemRuns lists p numbering mid then new → SystemRuns lists p numbering sys (first ++ then) new
runs_on lists p numbering [] then sys mid new one two = subst (λ (t : System). SystemRuns lists p numbering t then new) (sym one) two
runs_on lists p numbering (x ∷ first) then sys mid new one two = (one.0, one.1, runs_on lists p numbering first then one.0 mid new one.2 two)

-- calm calls after calm calls are calm
pub calm_on : (Lets : ℕ → ℕ → Type 0) (c : ℕ) (first then : List NodeCall) → AreCalm Lets c first → AreCalm Lets c then →
    AreCalm Lets c (first ++ then)
calm_on Lets c [] then one two = two
calm_on Lets c (x ∷ first) then one two = (one.0, calm_on Lets c first then one.1 two)

calm_call_up : (Lets : ℕ → ℕ → Type 0) (x : ℕ) (one : NodeCall) → IsCalm Lets x one → IsNoRestart x one
calm_call_up Lets x (call.Bids d) is = tt
calm_call_up Lets x (call.Expires d n) is = tt
calm_call_up Lets x (call.TakesBid y k) is = tt
calm_call_up Lets x (call.Sends c) is = tt
calm_call_up Lets x call.Clears is = tt
calm_call_up Lets x (call.TakesPrice y k) is = tt
calm_call_up Lets x (call.Restarts y k) is = is
calm_call_up Lets x (call.StopsBidding y) is = tt
calm_call_up Lets x (call.Resends y) is = tt
calm_call_up Lets x call.StopsClearing is = tt
calm_call_up Lets x (call.TellsOne z) is = tt

-- calm calls restart nobody
pub calm_up : (Lets : ℕ → ℕ → Type 0) (x : ℕ) (calls : List NodeCall) → AreCalm Lets x calls → StaysUp x calls
calm_up Lets x [] are = tt
calm_up Lets x (one ∷ calls) are = (calm_call_up Lets x one are.0, calm_up Lets x calls are.1)

-- calls over which a node stays up, after such calls, are such calls
pub up_on : (c : ℕ) (first then : List NodeCall) → StaysUp c first → StaysUp c then → StaysUp c (first ++ then)
up_on c [] then one two = two
up_on c (x ∷ first) then one two = (one.0, up_on c first then one.1 two)

-- ---- what follows, one after the other

module _ {K : Type 0} (lists : Lists) (p : Pricing) (numbering : Numbering) (Lets : ℕ → ℕ → Type 0) (MayBeKept : System → K → Type 0)
    (y : ℕ) where
  abbrev FollowsSo : (System → Type 0) → System → List (Output K) → Type 0
  FollowsSo Stands sys outs = FollowsByCalls lists p numbering Lets MayBeKept Stands sys y outs

  -- no call is made
  none_called : (Stands : System → Type 0) (sys : System) (outs : List (Output K)) → Stands sys → WereSent lists p numbering sys y outs →
      EachKept (MayBeKept sys) outs → FollowsSo Stands sys outs
  none_called Stands sys outs stands sent kept = record {
    calls = [];
    new = sys;
    runs = refl;
    only = still y sys;
    up = λ x. tt;
    stands = stands;
    sent = sent;
    kept = kept;
    first = inl (λ stored kept. kept);
  }

  -- nothing is done or said
  pub nothing_follows : (Stands : System → Type 0) (sys : System) → Stands sys → FollowsSo Stands sys []
  nothing_follows Stands sys stands = none_called Stands sys [] stands tt tt

  -- something is said of which no law speaks
  pub says : (Stands : System → Type 0) (sys : System) (said : List ℕ) → Stands sys → FollowsSo Stands sys (Says said ∷ [])
  says Stands sys said stands = none_called Stands sys (Says said ∷ []) stands (tt, tt) (tt, tt)

  -- a node that says something, or nothing, makes no call
  pub says_if : (Stands : System → Type 0) (sys : System) (test : Bool) (said : List ℕ) → Stands sys →
      FollowsSo Stands sys (cond test (Says said ∷ []) [])
  says_if Stands sys test said stands =
      either (λ (l : List (Output K)). FollowsSo Stands sys l) test (Says said ∷ []) [] (λ e. says Stands sys said stands)
      (λ e. nothing_follows Stands sys stands)

  -- the calls of a first part of an answer, and then those of the rest, are calls of the whole answer
  pub follows_then : (First Then : System → Type 0) (sys : System) (reply more : List (Output K)) (first : FollowsSo First sys reply)
      (then : FollowsSo Then first.new more) → ((stored : K) → MayBeKept first.new stored → MayBeKept then.new stored) →
      FollowsSo Then sys (reply ++ more)
  follows_then First Then sys reply more first then stays = record {
    calls = first.calls ++ then.calls;
    new = then.new;
    runs = runs_on lists p numbering first.calls then.calls sys first.new then.new first.runs then.runs;
    only = then_moves y sys first.new then.new first.only then.only;
    up = λ x. calm_on Lets x first.calls then.calls (first.up x) (then.up x);
    stands = then.stands;
    sent = both_sent lists p numbering then.new y reply more
        (were_sent lists p numbering y first.new then.new then.only y reply first.sent) then.sent;
    kept = both_kept (MayBeKept then.new) reply more (kept_to (MayBeKept first.new) (MayBeKept then.new) stays reply first.kept) then.kept;
    first = elim first.first [
      | inl same ↦ inl (λ stored kept. stays stored (same stored kept))
      | inr begins ↦ inr (begins.0, begins.1 ++ more, ap (λ (l : List (Output K)). l ++ more) begins.2)
    ];
  }

  -- the same frames
  pub follows_as : (Stands : System → Type 0) (sys : System) (reply other : List (Output K)) → other ≡ reply → FollowsSo Stands sys reply →
      FollowsSo Stands sys other
  follows_as Stands sys reply other same is = subst (λ (l : List (Output K)). FollowsSo Stands sys l) (sym same) is
