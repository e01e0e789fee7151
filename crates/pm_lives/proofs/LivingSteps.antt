-- Each step of a life is some calls of a system.
use Rattle.std.proofs.Common.{◌≡◌, ◌∙◌, sym, ap, subst, ℕ, true, false}
use Rattle.std.proofs.Common.{List, [], ◌++◌, take, refl, inl, inr, arith, append-nil}
use Rattle.std.proofs.lemmas.Bool.{cases_Bool, cases_eq, both_ways}
use Rattle.pm_market.specs.Lists.{Lists, IsLeaf, IsConcentrator}
use Rattle.pm_market.specs.State.{update}
use Rattle.pm_market.proofs.Cuts.{updated_same, updated_other}
use Rattle.pm_market.proofs.Tree.{leaf_node}
use Rattle.pm_net.specs.Pricing.{Pricing}
use Rattle.pm_net.specs.Agents.{Setpoint, DeviceAgent}
use Rattle.pm_net_plan.specs.Places.{Numbering}
use Rattle.pm_control.specs.Control.{agent_stored}
use Rattle.pm_relay.specs.Numbers.{child_number}
use Rattle.pm_relay.specs.Relays.{RelayValue}
use Rattle.pm_relay.specs.Roots.{RootValue}
use Rattle.pm_frames.specs.Stored.{StoredRelay, StoredRoot}
use Rattle.pm_frames.specs.declared.stored.StoredAgent.{StoredAgent}
use Rattle.pm_frames.specs.declared.relay.RelayFrame.{RelayFrame}
use Rattle.pm_frames.specs.declared.root.RootFrame.{RootFrame}
use Rattle.pm_frames.specs.declared.device.DeviceFrame.{DeviceFrame}
use Rattle.pm_services.specs.DeviceWrites.{agent_after}
use Rattle.pm_lives.specs.Lives.{setup_of}
use Rattle.pm_system.specs.System.{System, with_relay, with_root, with_agent}
use Rattle.pm_system.specs.Calls.{NodeCall, SystemRuns, StaysUp}
use Rattle.pm_system.specs.Given.{IsTreeMarket}
use Rattle.pm_system.specs.Market.{RunsTheMarket}
use Rattle.pm_system.proofs.Moving.{relay_no_leaf, relay_no_root}
use Rattle.pm_lives.specs.Outputs.{WereSent}
use Rattle.pm_services.specs.Outputs.{Output}
use Rattle.pm_lives.specs.Moves.{OnlyMoves}
use Rattle.pm_lives.specs.RelayLife.{IsRelayKept}
use Rattle.pm_lives.specs.RootLife.{IsRootKept}
use Rattle.pm_lives.specs.DeviceLife.{IsAgentKept}
use Rattle.pm_services.specs.DeviceWrites.{device_outs}
use Rattle.pm_lives.specs.Lives as lives
use Rattle.pm_lives.specs.Lives.{no_agent_stored}
use Rattle.pm_lives.specs.Moves.{lets_none}
use Rattle.pm_lives.specs.RelayLife.{RelayLets}
use Rattle.pm_lives.specs.RootLife.{RootLets}
use Rattle.pm_lives.specs.DeviceLife.{told_of}
use Rattle.pm_lives.specs.Lives.{let_go_at_relay, let_go_at_root}
use Rattle.pm_lives.proofs.Giving.{calm_gives, known_run}
use Rattle.pm_lives.proofs.Telling.{known_next, restart_silent, answer_told, relay_rises, relay_lets, root_rises, root_lets}
use Rattle.pm_lives.proofs.Handing.{handed_told, handed_untold}
use Rattle.pm_lives.proofs.Staying.{still, then_moves}
use Rattle.pm_lives.specs.Lives.{World, AllIn, LivesAreCalls, handed_out, stored_last, RelayBegins, RelayReads, RootBegins, RootReads, DeviceBegins}
use Rattle.pm_lives.specs.Lives.{DeviceReads, LifeStep, Lives1, Live, IsNewWorld, LivesKeepTheLaw, restart_outs}
use Rattle.pm_lives.specs.Lives.{RelayUp, Relay, RootUp, Root, DeviceUp, Device}
use Rattle.pm_lives.proofs.After.{runs_on, up_on, calm_up}
use Rattle.pm_services.specs.Receipts.{sender_place}
use Rattle.pm_lives.proofs.RelayMoves.{RunsGoOn, ExpiringIsTwoCalls, relay_answers, relay_learns_kept}
use Rattle.pm_lives.proofs.RootMoves.{RootExpiringIsTwoCalls, root_answers}
use Rattle.pm_lives.proofs.DeviceMoves.{device_answers}
use Rattle.pm_lives.proofs.Handing.{all_in_then, handed_in, handed_values, stored_may}
use Rattle.pm_lives.proofs.Beginning.{relay_begins, root_begins, device_begins, within_stored}
use Rattle.pm_lives.proofs.LearntWorlds.{AllGiven, may_be_learnt}
use Rattle.pm_lives.proofs.WorldStands.{WorldStands, relay_ok_as, agent_ok_as, AgreesBut, stands_but, limits_carried, relay_may, root_may, device_may}

-- ---- one step

repack_relay : (lists : Lists) (p : Pricing) (seen sys : System) (c : ℕ) (relay : RelayValue) → AllIn lists p seen sys →
    AllIn lists p (with_relay seen c relay) sys
repack_relay lists p seen sys c relay all = record { bids = all.bids; prices = all.prices; setpoints = all.setpoints }

repack_root : (lists : Lists) (p : Pricing) (seen sys : System) (root : RootValue) → AllIn lists p seen sys → AllIn lists p (with_root seen root) sys
repack_root lists p seen sys root all = record { bids = all.bids; prices = all.prices; setpoints = all.setpoints }

repack_agent : (lists : Lists) (p : Pricing) (seen sys : System) (d : ℕ) (agent : DeviceAgent) → AllIn lists p seen sys →
    AllIn lists p (with_agent seen d agent) sys
repack_agent lists p seen sys d agent all = record { bids = all.bids; prices = all.prices; setpoints = all.setpoints }

-- the calls of a step, after which the world stands for the system again
pub record Done (lists : Lists) (p : Pricing) (numbering : Numbering) (sys : System) (Ups : ℕ → Type 0) (world : World) : Type 0 where
  -- the calls lead to this system
  pub calls : List NodeCall
  pub new : System
  -- and the world stands for it
  pub runs : SystemRuns lists p numbering sys calls new
  pub stands : WorldStands lists p numbering world new
  -- a device that did not run before, or does not begin now, is not restarted
  pub ups : (x : ℕ) → IsLeaf lists x → Ups x → StaysUp x calls

module _ (lists : Lists) (p : Pricing) (numbering : Numbering) (market : IsTreeMarket lists p numbering) (goes : RunsGoOn) (two : ExpiringIsTwoCalls)
    (root_two : RootExpiringIsTwoCalls) (world : World) (sys : System) (stands : WorldStands lists p numbering world sys)
    (given : AllGiven lists p numbering world) where
  -- if x begins, no process of it ran before
  abbrev pub UpsOf : LifeStep → ℕ → Type 0
  UpsOf step x = lives.BeginsProcess x step → world.up x ≡ false

  abbrev pub Does : LifeStep → World → Type 0
  Does step new = Done lists p numbering sys (UpsOf step) new

  -- a relay begins
  relay_up : (before : List NodeCall) → RunsTheMarket lists p numbering before sys → (c n : ℕ) (new : World) →
      RelayBegins lists p numbering world c n new → Does (RelayUp c n) new
  relay_up before has c n new did =
      let ok = stands.relays c did.conc in
      let stored : StoredRelay = world.relay_kept c in
      let began = relay_begins lists p numbering market before sys has c did.conc (world.terms c).limits did.limited stored ok.kept did.relay did.back in
      let began_sent : AllIn lists p world.seen began.new = all_in_then lists p c world.seen sys began.new began.only stands.sent in
      let began_has : RunsTheMarket lists p numbering (before ++ began.calls) began.new =
      goes lists p numbering before began.calls sys began.new market has began.runs in
      let l = relay_learns_kept goes lists p numbering (before ++ began.calls) began.new c market began_has did.conc (setup_of numbering world c) did.relay
      began.stands (world.terms c).giver stored did.after did.outs
      (λ giver is some. limits_carried lists p numbering world.seen began.new began_sent c giver
      (child_number stored.numbers (sender_place giver)) stored.limits
      (may_be_learnt lists p numbering world given c did.conc giver is some)) did.learns in
      let f = l.follows in
      let first : List (Output StoredRelay) = take n did.outs in
      let base : System = with_relay world.seen c did.after.relay in
      let only : OnlyMoves c sys f.new = then_moves c sys began.new f.new began.only f.only in
      let after : World = record world {
        seen = handed_out lists numbering base c first;
        up = update world.up c true;
        waiting = update world.waiting c did.after.waiting;
      } in
      let values = handed_values lists numbering c first base in
      let agrees : AgreesBut c world after = record {
        up = λ z ne. updated_other world.up c true z ne;
        relays = λ z ne. ap (λ f. f z) values.0 ∙ updated_other world.seen.relays c did.after.relay z ne;
        agents = λ z ne. ap (λ f. f z) values.2;
        root = λ ne. values.1;
        waiting = λ z ne. updated_other world.waiting c did.after.waiting z ne;
        relay_kept = λ z ne. refl;
        agent_kept = λ z ne. refl;
        root_kept = λ ne. refl;
      } in
      subst (Does (RelayUp c n)) (sym did.new_is) (record {
        ups = λ x leaf first. up_on x began.calls f.calls (began.up x (relay_no_leaf lists c x did.conc leaf)) (calm_up lets_none x f.calls (f.up x));
        calls = began.calls ++ f.calls;
        new = f.new;
        runs = runs_on lists p numbering began.calls f.calls sys began.new f.new began.runs f.runs;
        stands = stands_but lists p numbering c world after sys f.new agrees only stands
            (handed_in lists p numbering f.new c n did.outs base f.sent
            (repack_relay lists p world.seen f.new c did.after.relay (all_in_then lists p c world.seen began.new f.new f.only began_sent)))
            (λ conc. relay_ok_as p numbering f.new c true (update world.up c true c) did.after.relay (after.seen.relays c) did.after.waiting
            (update world.waiting c did.after.waiting c) stored stored (updated_same world.up c true)
            (ap (λ f. f c) values.0 ∙ updated_same world.seen.relays c did.after.relay) (updated_same world.waiting c did.after.waiting) refl
            (record { kept = l.keeps stored began.kept; stands = λ e. f.stands }))
            (λ e. absurd (relay_no_root lists c did.conc (sym e)))
            (λ leaf. absurd (relay_no_leaf lists c c did.conc leaf refl))
            (λ d leaf. handed_untold lists numbering c first base d (relay_no_leaf lists c d did.conc leaf) ∙ stands.told d leaf
            ∙ sym (began.silent d) ∙ sym (f.only.untold d (relay_no_leaf lists c d did.conc leaf)))
            (λ d leaf. known_next lets_none began.new f.new world.let_go world.let_go d
            (known_next lets_none sys began.new world.let_go world.let_go d (stands.known d leaf) (omega arith)
            (known_run lets_none lists p numbering d leaf began.calls sys began.new began.runs began.gives) (λ n lets. absurd lets)) (omega arith)
            (known_run lets_none lists p numbering d leaf f.calls began.new f.new f.runs (calm_gives lets_none d f.calls (f.up d)))
            (λ n lets. absurd lets));
      })

  -- a relay reads a frame
  relay_reads : (before : List NodeCall) → RunsTheMarket lists p numbering before sys → (c : ℕ) (frame : RelayFrame) (n : ℕ) (new : World) →
      RelayReads lists p numbering world c frame n new → Does (Relay c frame n) new
  relay_reads before has c frame n new did =
      let ok = stands.relays c did.conc in
      let here = ok.stands did.runs in
      let f = relay_answers goes two lists p numbering before sys c market has did.conc (setup_of numbering world c) did.bounds
      (record { relay = world.seen.relays c; waiting = world.waiting c })
      did.after frame did.outs here
      (relay_may lists p numbering world.seen sys stands.sent (setup_of numbering world c) c did.conc here.relay_is frame did.may) did.writes in
      let first : List (Output StoredRelay) = take n did.outs in
      let base : System = with_relay world.seen c did.after.relay in
      let kept : StoredRelay = stored_last (world.relay_kept c) first in
      let after : World = record world {
        seen = handed_out lists numbering base c first;
        waiting = update world.waiting c did.after.waiting;
        relay_kept = update world.relay_kept c kept;
        let_go = let_go_at_relay lists numbering world.seen c frame world.let_go;
      } in
      let values = handed_values lists numbering c first base in
      let agrees : AgreesBut c world after = record {
        up = λ z ne. refl;
        relays = λ z ne. ap (λ f. f z) values.0 ∙ updated_other world.seen.relays c did.after.relay z ne;
        agents = λ z ne. ap (λ f. f z) values.2;
        root = λ ne. values.1;
        waiting = λ z ne. updated_other world.waiting c did.after.waiting z ne;
        relay_kept = λ z ne. updated_other world.relay_kept c kept z ne;
        agent_kept = λ z ne. refl;
        root_kept = λ ne. refl;
      } in
      subst (Does (Relay c frame n)) (sym did.new_is) (record {
        ups = λ x leaf first. calm_up (RelayLets lists numbering sys c frame) x f.calls (f.up x);
        calls = f.calls;
        new = f.new;
        runs = f.runs;
        stands = stands_but lists p numbering c world after sys f.new agrees f.only stands
            (handed_in lists p numbering f.new c n did.outs base f.sent
            (repack_relay lists p world.seen f.new c did.after.relay (all_in_then lists p c world.seen sys f.new f.only stands.sent)))
            (λ conc. relay_ok_as p numbering f.new c (world.up c) (world.up c) did.after.relay (after.seen.relays c) did.after.waiting
            (update world.waiting c did.after.waiting c) kept (update world.relay_kept c kept c) refl
            (ap (λ f. f c) values.0 ∙ updated_same world.seen.relays c did.after.relay) (updated_same world.waiting c did.after.waiting)
            (updated_same world.relay_kept c kept)
            (record {
              kept = stored_may (λ k. IsRelayKept p numbering sys c k) (λ k. IsRelayKept p numbering f.new c k)
                  (world.relay_kept c) n did.outs ok.kept f.kept f.first did.handled;
              stands = λ e. f.stands;
            }))
            (λ e. absurd (relay_no_root lists c did.conc (sym e)))
            (λ leaf. absurd (relay_no_leaf lists c c did.conc leaf refl))
            (λ d leaf. handed_untold lists numbering c first base d (relay_no_leaf lists c d did.conc leaf) ∙ stands.told d leaf
            ∙ sym (f.only.untold d (relay_no_leaf lists c d did.conc leaf)))
            (λ d leaf. known_next (RelayLets lists numbering sys c frame) sys f.new world.let_go after.let_go d (stands.known d leaf)
            (relay_rises lists numbering world.seen c frame world.let_go d)
            (known_run (RelayLets lists numbering sys c frame) lists p numbering d leaf f.calls sys f.new f.runs
            (calm_gives (RelayLets lists numbering sys c frame) d f.calls (f.up d)))
            (λ n lets. relay_lets lists numbering world.seen sys c here.relay_is frame world.let_go d n lets));
      })

  no_conc : IsConcentrator lists 0 → ⊥
  no_conc conc = omega (arith, conc.0)

  no_leaf : IsLeaf lists 0 → ⊥
  no_leaf leaf = omega (arith, (leaf_node lists market.law 0 leaf).0)

  not_root : (d : ℕ) → IsLeaf lists d → 0 ≡ d → ⊥
  not_root d leaf e = omega (arith, e, (leaf_node lists market.law d leaf).0)

  -- the root begins
  root_up : (new : World) → RootBegins p world new → Does RootUp new
  root_up new did =
      let began = root_begins lists p numbering sys world.root_kept stands.root.kept did.root did.back in
      let after : World = record world { seen = with_root world.seen did.root; up = update world.up 0 true } in
      let agrees : AgreesBut 0 world after = record {
        up = λ z ne. updated_other world.up 0 true z ne;
        relays = λ z ne. refl;
        agents = λ z ne. refl;
        root = λ ne. absurd (ne refl);
        waiting = λ z ne. refl;
        relay_kept = λ z ne. refl;
        agent_kept = λ z ne. refl;
        root_kept = λ ne. refl;
      } in
      subst (Does (RootUp)) (sym did.new_is) (record {
        ups = λ x leaf first. began.up x (λ e. not_root x leaf (sym e));
        calls = began.calls;
        new = began.new;
        runs = began.runs;
        stands = stands_but lists p numbering 0 world after sys began.new agrees began.only stands
            (repack_root lists p world.seen began.new did.root (all_in_then lists p 0 world.seen sys began.new began.only stands.sent))
            (λ conc. absurd (no_conc conc))
            (λ e. record { kept = began.kept; stands = λ up. began.stands })
            (λ leaf. absurd (no_leaf leaf))
            (λ d leaf. stands.told d leaf ∙ sym (began.silent d))
            (λ d leaf. known_next lets_none sys began.new world.let_go world.let_go d (stands.known d leaf) (omega arith)
            (known_run lets_none lists p numbering d leaf began.calls sys began.new began.runs began.gives) (λ n lets. absurd lets));
      })

  -- the root reads a frame
  root_reads : (before : List NodeCall) → RunsTheMarket lists p numbering before sys → (frame : RootFrame) (n : ℕ) (new : World) →
      RootReads lists p numbering world frame n new → Does (Root frame n) new
  root_reads before has frame n new did =
      let here = stands.root.stands did.runs in
      let f = root_answers root_two lists p numbering before sys market has world.basis did.bounds world.seen.root did.after frame did.outs here
      (root_may lists p numbering world.seen sys stands.sent (sym here) frame did.may) did.writes in
      let first : List (Output StoredRoot) = take n did.outs in
      let base : System = with_root world.seen did.after in
      let kept : StoredRoot = stored_last world.root_kept first in
      let after : World = record world {
        seen = handed_out lists numbering base 0 first;
        root_kept = kept;
        let_go = let_go_at_root lists numbering world.seen frame world.let_go;
      } in
      let values = handed_values lists numbering 0 first base in
      let agrees : AgreesBut 0 world after = record {
        up = λ z ne. refl;
        relays = λ z ne. ap (λ f. f z) values.0;
        agents = λ z ne. ap (λ f. f z) values.2;
        root = λ ne. absurd (ne refl);
        waiting = λ z ne. refl;
        relay_kept = λ z ne. refl;
        agent_kept = λ z ne. refl;
        root_kept = λ ne. absurd (ne refl);
      } in
      subst (Does (Root frame n)) (sym did.new_is) (record {
        ups = λ x leaf first. calm_up (RootLets lists numbering sys frame) x f.calls (f.up x);
        calls = f.calls;
        new = f.new;
        runs = f.runs;
        stands = stands_but lists p numbering 0 world after sys f.new agrees f.only stands
            (handed_in lists p numbering f.new 0 n did.outs base f.sent
            (repack_root lists p world.seen f.new did.after (all_in_then lists p 0 world.seen sys f.new f.only stands.sent)))
            (λ conc. absurd (no_conc conc))
            (λ e. record {
              kept = stored_may (IsRootKept sys) (IsRootKept f.new) world.root_kept n did.outs stands.root.kept f.kept f.first did.handled;
              stands = λ up. f.stands ∙ sym values.1;
            })
            (λ leaf. absurd (no_leaf leaf))
            (λ d leaf. handed_untold lists numbering 0 first base d (λ e. not_root d leaf (sym e)) ∙ stands.told d leaf
            ∙ sym (f.only.untold d (λ e. not_root d leaf (sym e))))
            (λ d leaf. known_next (RootLets lists numbering sys frame) sys f.new world.let_go after.let_go d (stands.known d leaf)
            (root_rises lists numbering world.seen frame world.let_go d)
            (known_run (RootLets lists numbering sys frame) lists p numbering d leaf f.calls sys f.new f.runs
            (calm_gives (RootLets lists numbering sys frame) d f.calls (f.up d)))
            (λ n lets. root_lets lists numbering world.seen sys (sym here) frame world.let_go d n lets));
      })

  not_conc : (d : ℕ) → IsLeaf lists d → IsConcentrator lists d → ⊥
  not_conc d leaf conc = relay_no_leaf lists d d conc leaf refl

  -- a device begins
  device_again : (d n : ℕ) (new : World) → DeviceBegins lists p numbering world d n new → world.up d ≡ true → Does (DeviceUp d n) new
  device_again d n new did ran =
      let stored : StoredAgent = world.agent_kept d in
      let outs : List (Output StoredAgent) = restart_outs p stored in
      let began = device_begins lists p numbering sys d did.leaf stored (stands.agents d did.leaf).kept in
      let agent : DeviceAgent = agent_stored stored.number stored.newest stored.index in
      let base : System = with_agent world.seen d agent in
      let after : World = record world { seen = handed_out lists numbering base d (take n outs); up = update world.up d true } in
      let values = handed_values lists numbering d (take n outs) base in
      let agrees : AgreesBut d world after = record {
        up = λ z ne. updated_other world.up d true z ne;
        relays = λ z ne. ap (λ f. f z) values.0;
        agents = λ z ne. ap (λ f. f z) values.2 ∙ updated_other world.seen.agents d agent z ne;
        root = λ ne. values.1;
        waiting = λ z ne. refl;
        relay_kept = λ z ne. refl;
        agent_kept = λ z ne. refl;
        root_kept = λ ne. refl;
      } in
      subst (Does (DeviceUp d n)) (sym did.new_is) (record {
        ups = λ x leaf first. began.up x (λ e. both_ways (world.up d) (ap world.up (sym e) ∙ first (sym e)) ran);
        calls = began.calls;
        new = began.new;
        runs = began.runs;
        stands = stands_but lists p numbering d world after sys began.new agrees began.only stands
            (handed_in lists p numbering began.new d n outs base began.sent
            (repack_agent lists p world.seen began.new d agent (all_in_then lists p d world.seen sys began.new began.only stands.sent)))
            (λ conc. absurd (not_conc d did.leaf conc))
            (λ e. absurd (not_root d did.leaf e))
            (λ leaf. agent_ok_as began.new d true (update world.up d true d) agent (after.seen.agents d) stored stored (updated_same world.up d true)
            (ap (λ f. f d) values.2 ∙ updated_same world.seen.agents d agent) refl
            (record { kept = began.kept; stands = λ e. began.stands; fresh = λ e. absurd (both_ways true e refl) }))
            (λ e leaf. elim (cases_eq e d) [
              | inl same ↦ subst (λ (z : ℕ). after.seen.setpoints z ≡ began.new.setpoints z) (sym same) (handed_told lists numbering d (take n outs) base
                  ∙ ap (λ (l : List Setpoint). world.seen.setpoints d ++ l) (restart_silent p world.basis stored n) ∙ append-nil (world.seen.setpoints d)
                  ∙ stands.told d did.leaf ∙ sym (began.silent d))
              | inr ne ↦ handed_untold lists numbering d (take n outs) base e ne ∙ stands.told e leaf ∙ sym (began.silent e)
            ])
            (λ e leaf. known_next lets_none sys began.new world.let_go world.let_go e (stands.known e leaf) (omega arith)
            (known_run lets_none lists p numbering e leaf began.calls sys began.new began.runs began.gives) (λ k lets. absurd lets));
      })

  -- the first process of a device changes nothing
  device_first : (d n : ℕ) (new : World) → DeviceBegins lists p numbering world d n new → world.up d ≡ false → Does (DeviceUp d n) new
  device_first d n new did none =
      let stored : StoredAgent = world.agent_kept d in
      let ok = stands.agents d did.leaf in
      let fresh = ok.fresh none in
      let outs : List (Output StoredAgent) = restart_outs p stored in
      let outs_are : outs ≡ [] = ap (restart_outs p) fresh.2 in
      let agent : DeviceAgent = agent_stored stored.number stored.newest stored.index in
      let agent_is : agent ≡ sys.agents d = ap (λ (k : StoredAgent). agent_stored k.number k.newest k.index) fresh.2 ∙ sym fresh.0 in
      let base : System = with_agent world.seen d agent in
      let after : World = record world { seen = handed_out lists numbering base d (take n outs); up = update world.up d true } in
      let values = handed_values lists numbering d (take n outs) base in
      let agrees : AgreesBut d world after = record {
        up = λ z ne. updated_other world.up d true z ne;
        relays = λ z ne. ap (λ f. f z) values.0;
        agents = λ z ne. ap (λ f. f z) values.2 ∙ updated_other world.seen.agents d agent z ne;
        root = λ ne. values.1;
        waiting = λ z ne. refl;
        relay_kept = λ z ne. refl;
        agent_kept = λ z ne. refl;
        root_kept = λ ne. refl;
      } in
      subst (Does (DeviceUp d n)) (sym did.new_is) (record {
        calls = [];
        new = sys;
        runs = refl;
        ups = λ x leaf first. tt;
        stands = stands_but lists p numbering d world after sys sys agrees (still d sys) stands
            (handed_in lists p numbering sys d n outs base
            (subst (λ (l : List (Output StoredAgent)). WereSent lists p numbering sys d l) (sym outs_are) tt)
            (repack_agent lists p world.seen sys d agent stands.sent))
            (λ conc. absurd (not_conc d did.leaf conc))
            (λ e. absurd (not_root d did.leaf e))
            (λ leaf. agent_ok_as sys d true (update world.up d true d) agent (after.seen.agents d) stored stored (updated_same world.up d true)
            (ap (λ f. f d) values.2 ∙ updated_same world.seen.agents d agent) refl
            (record {
              kept = ok.kept;
              stands = λ e. record {
                agent_is = agent_is;
                held = ok.kept.price;
                within = within_stored lists p numbering stored.number stored.newest stored.index;
              };
              fresh = λ e. absurd (both_ways true e refl);
            }))
            (λ e leaf. elim (cases_eq e d) [
              | inl same ↦ subst (λ (z : ℕ). after.seen.setpoints z ≡ sys.setpoints z) (sym same) (handed_told lists numbering d (take n outs) base
                  ∙ ap (λ (l : List Setpoint). world.seen.setpoints d ++ l) (restart_silent p world.basis stored n) ∙ append-nil (world.seen.setpoints d)
                  ∙ stands.told d did.leaf)
              | inr ne ↦ handed_untold lists numbering d (take n outs) base e ne ∙ stands.told e leaf
            ])
            stands.known;
      })

  device_up : (d n : ℕ) (new : World) → DeviceBegins lists p numbering world d n new → Does (DeviceUp d n) new
  device_up d n new did = elim (cases_Bool (world.up d)) [
    | inl ran ↦ device_again d n new did ran
    | inr none ↦ device_first d n new did none
  ]

  -- a device reads a frame
  device_reads : (d : ℕ) (frame : DeviceFrame) (n : ℕ) (new : World) → DeviceReads lists p numbering world d frame n new → Does (Device d frame n) new
  device_reads d frame n new did =
      let ok = stands.agents d did.leaf in
      let here = ok.stands did.runs in
      let old : DeviceAgent = world.seen.agents d in
      let outs : List (Output StoredAgent) = device_outs p.steps world.basis old frame in
      let agent : DeviceAgent = agent_after old frame in
      let f = device_answers lists p numbering sys d did.leaf world.basis old frame here
      (device_may lists p numbering world.seen sys stands.sent world.basis d (leaf_node lists market.law d did.leaf) here.agent_is frame did.may) in
      let base : System = with_agent world.seen d agent in
      let kept : StoredAgent = stored_last (world.agent_kept d) (take n outs) in
      let after : World = record world {
        seen = handed_out lists numbering base d (take n outs);
        agent_kept = update world.agent_kept d kept;
      } in
      let values = handed_values lists numbering d (take n outs) base in
      let agrees : AgreesBut d world after = record {
        up = λ z ne. refl;
        relays = λ z ne. ap (λ f. f z) values.0;
        agents = λ z ne. ap (λ f. f z) values.2 ∙ updated_other world.seen.agents d agent z ne;
        root = λ ne. values.1;
        waiting = λ z ne. refl;
        relay_kept = λ z ne. refl;
        agent_kept = λ z ne. updated_other world.agent_kept d kept z ne;
        root_kept = λ ne. refl;
      } in
      subst (Does (Device d frame n)) (sym did.new_is) (record {
        ups = λ x leaf first. calm_up lets_none x f.calls (f.up x);
        calls = f.calls;
        new = f.new;
        runs = f.runs;
        stands = stands_but lists p numbering d world after sys f.new agrees f.only stands
            (handed_in lists p numbering f.new d n outs base f.sent
            (repack_agent lists p world.seen f.new d agent (all_in_then lists p d world.seen sys f.new f.only stands.sent)))
            (λ conc. absurd (not_conc d did.leaf conc))
            (λ e. absurd (not_root d did.leaf e))
            (λ leaf. agent_ok_as f.new d (world.up d) (world.up d) agent (after.seen.agents d) kept (update world.agent_kept d kept d)
            refl (ap (λ f. f d) values.2 ∙ updated_same world.seen.agents d agent) (updated_same world.agent_kept d kept)
            (record {
              kept = stored_may (λ k. IsAgentKept sys d k) (λ k. IsAgentKept f.new d k) (world.agent_kept d) n outs ok.kept f.kept f.first did.handled;
              stands = λ e. f.stands.stands;
              fresh = λ e. absurd (both_ways (world.up d) e did.runs);
            }))
            (λ e leaf. elim (cases_eq e d) [
              | inl same ↦ subst (λ (z : ℕ). after.seen.setpoints z ≡ f.new.setpoints z) (sym same) (handed_told lists numbering d (take n outs) base
                  ∙ ap (λ (l : List Setpoint). world.seen.setpoints d ++ l) (answer_told p world.basis old frame n did.handled)
                  ∙ ap (λ (l : List Setpoint). l ++ told_of old frame) (stands.told d did.leaf) ∙ sym f.stands.told)
              | inr ne ↦ handed_untold lists numbering d (take n outs) base e ne ∙ stands.told e leaf ∙ sym (f.only.untold e ne)
            ])
            (λ e leaf. known_next lets_none sys f.new world.let_go world.let_go e (stands.known e leaf) (omega arith)
            (known_run lets_none lists p numbering e leaf f.calls sys f.new f.runs (calm_gives lets_none e f.calls (f.up e)))
            (λ k lets. absurd lets));
      })

  -- each step is done by calls
  pub step_done : (before : List NodeCall) → RunsTheMarket lists p numbering before sys → (step : LifeStep) (new : World) →
      Lives1 lists p numbering world step new → Does step new
  step_done before has (RelayUp c n) new did = relay_up before has c n new did
  step_done before has (Relay c frame n) new did = relay_reads before has c frame n new did
  step_done before has RootUp new did = root_up new did
  step_done before has (Root frame n) new did = root_reads before has frame n new did
  step_done before has (DeviceUp d n) new did = device_up d n new did
  step_done before has (Device d frame n) new did = device_reads d frame n new did
