-- Of `WaitingRelay::take_price`: what it ensures.
use Rattle.std.proofs.Common.{◌∙◌, ap, subst, refl, [], ◌++◌, List, ℕ, length, arith, append-nil, length-append, sym}
use Rattle.pm_relay.specs.Relays.{RelayValue, TakesPrice}
use Rattle.pm_relay.specs.declared.outcome.PriceOutcome.TheVariants.{PassedOn, Alone, Waits, Dropped}
use Rattle.pm_frames.specs.Answers.{dropped_bytes}
use Rattle.pm_frames.specs.Stored.{relay_resume_bytes}
use Rattle.pm_services.specs.Limits.{price_reply_limit}
use Rattle.pm_services.specs.Receipts.{Appended}
use Rattle.pm_services.specs.RelayWrites.{WaitingRelay, WritesPrice, relay_bytes, stored_relay, down_outs, dropped_with}
use Rattle.pm_services.proofs.Written.{said_alone}
use Rattle.pm_services.proofs.Learning.{priced, kept_behind, drop_written, dropped_few}
use Rattle.pm_services.proofs.waiting_relay.WaitingRelay.take_price.Goals as goal

pub returns-in-PassedOn : goal.returns-in-PassedOn
returns-in-PassedOn c =
    let own = c.args.own.now in
    let old : WaitingRelay = record { relay = c.self.inside.relay; waiting = c.self.inside.waiting } in
    let new : WaitingRelay = record { relay = c.take_price.new.self; waiting = c.self.inside.waiting } in
    let out : List ℕ = c.args.out.now.items in
    record {
      answered =
          subst (λ (it : WaitingRelay). Appended (relay_bytes own) (WritesPrice own it c.args.price new)
          price_reply_limit out c.write_resume.new.out.items) c.self.view_is
          (priced own old c.args.price new PassedOn out c.write_resume.new.out.items c.in-PassedOn.ensures.taken refl
          (kept_behind own (stored_relay own new.relay) (down_outs new.relay c.args.price) out _ _ c.write_down.ensures.written
          c.write_resume.ensures.written)
          (omega (arith, c.write_down.ensures.few, c.write_resume.ensures.size)));
    }

pub returns-in-Alone : goal.returns-in-Alone
returns-in-Alone c =
    let own = c.args.own.now in
    let old : WaitingRelay = record { relay = c.self.inside.relay; waiting = c.self.inside.waiting } in
    let new : WaitingRelay = record { relay = c.take_price.new.self; waiting = c.self.inside.waiting } in
    let out : List ℕ = c.args.out.now.items in
    record {
      answered =
          subst (λ (it : WaitingRelay). Appended (relay_bytes own) (WritesPrice own it c.args.price new)
          price_reply_limit out c.write_resume-in-Alone.new.out.items) c.self.view_is
          (priced own old c.args.price new Alone out c.write_resume-in-Alone.new.out.items c.in-Alone.ensures.taken refl
          (kept_behind own (stored_relay own new.relay) [] out out _ (sym (append-nil out)) c.write_resume-in-Alone.ensures.written)
          (omega (arith, c.write_resume-in-Alone.ensures.size)));
    }

pub returns-in-Waits : goal.returns-in-Waits
returns-in-Waits c =
    let own = c.args.own.now in
    let old : WaitingRelay = record { relay = c.self.inside.relay; waiting = c.self.inside.waiting } in
    let new : WaitingRelay = c.wait_with.new.self in
    let out : List ℕ = c.args.out.now.items in
    record {
      answered =
          subst (λ (it : WaitingRelay). Appended (relay_bytes own) (WritesPrice own it c.args.price new) price_reply_limit out c.wait_with.new.out.items)
          c.self.view_is
          (priced own old c.args.price new Waits out c.wait_with.new.out.items
          (subst (λ (r : RelayValue). TakesPrice old.relay r c.args.price Waits) (sym c.wait_with.ensures.relay) c.in-Waits.ensures.taken)
          c.wait_with.ensures.waits
          (c.wait_with.ensures.written ∙ ap (λ (l : List ℕ). out ++ l) (drop_written own old.waiting c.args.price))
          (omega (
            arith,
            ap length c.wait_with.ensures.written,
            length-append out (dropped_with old.waiting c.args.price),
            dropped_few old.waiting c.args.price,
          )));
    }

pub returns-in-Dropped : goal.returns-in-Dropped
returns-in-Dropped c =
    let own = c.args.own.now in
    let old : WaitingRelay = record { relay = c.self.inside.relay; waiting = c.self.inside.waiting } in
    let new : WaitingRelay = record { relay = c.take_price.new.self; waiting = c.self.inside.waiting } in
    let out : List ℕ = c.args.out.now.items in
    record {
      answered =
          subst (λ (it : WaitingRelay). Appended (relay_bytes own) (WritesPrice own it c.args.price new)
          price_reply_limit out c.write_dropped.new.out.items) c.self.view_is
          (priced own old c.args.price new Dropped out c.write_dropped.new.out.items c.in-Dropped.ensures.taken refl
          (c.write_dropped.ensures.written
          ∙ ap (λ (l : List ℕ). out ++ l)
          (said_alone relay_resume_bytes own.basis own.child (dropped_bytes c.args.price.number c.args.price.index)))
          (omega (arith, ap length c.write_dropped.ensures.written, length-append out (dropped_bytes c.args.price.number c.args.price.index))));
    }
