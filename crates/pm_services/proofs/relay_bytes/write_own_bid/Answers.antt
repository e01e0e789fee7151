-- Of `write_own_bid`: its clause `written`.
use Rattle.std.proofs.Common.{◌∙◌, ap, ◌++◌, append_assoc, Bool, ℕ, List, [], cond}
use Rattle.pm_concentrator.specs.Concentrators.{own_demand}
use Rattle.pm_wire.specs.Frames.{frame_bytes}
use Rattle.pm_wire.specs.declared.frame.Frame.TheVariants.{Bid}
use Rattle.pm_relay.specs.Relays.{newest_bid_number}
use Rattle.pm_frames.specs.Answers.{out_of_limits_bytes}
use Rattle.pm_frames.specs.Stored.{relay_resume_bytes}
use Rattle.pm_services.specs.RelayWrites.{has_step_within}
use Rattle.pm_services.proofs.Written.{said_unless}
use Rattle.pm_services.proofs.relay_bytes.write_own_bid.Goals as goal

pub returns-clause-written : goal.returns-clause-written
returns-clause-written c =
    let relay = c.args.relay.now in
    let own = c.args.own.now in
    let bid : List ℕ = frame_bytes (Bid own.child (newest_bid_number relay) (own_demand relay.gathered)) in
    let warning : Bool → ℕ → List ℕ = λ b n. cond b [] (out_of_limits_bytes n) in
    let within : Bool = has_step_within relay in
    c.write_warning.ensures.written
    ∙ ap (λ (b : Bool). c.write_plain_bid.new.out.items ++ warning b c.last.result) c.keeps_limits.ensures
    ∙ ap (λ (n : ℕ). c.write_plain_bid.new.out.items ++ warning within n) c.last.ensures
    ∙ ap (λ (l : List ℕ). l ++ warning within (newest_bid_number relay)) c.write_plain_bid.ensures.written
    ∙ append_assoc c.args.out.now.items bid (warning within (newest_bid_number relay))
    ∙ ap (λ (l : List ℕ). c.args.out.now.items ++ (bid ++ l))
    (said_unless relay_resume_bytes own.basis own.child within (out_of_limits_bytes (newest_bid_number relay)))
