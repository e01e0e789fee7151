-- Of `WaitingRelay::resumed`: what it ensures.
use Rattle.std.proofs.Common.{◌∙◌, sym, refl, subst, ap, None, Some}
use Rattle.pm_base.specs.declared.limits.Limits.{Limits}
use Rattle.pm_relay.specs.Relays.{limits_of_number}
use Rattle.pm_base.specs.Limits.{most_nodes}
use Rattle.pm_concentrator.specs.Concentrators.{IsNewConcentrator}
use Rattle.pm_services.specs.RelaySetups.{RelaySetup}
use Rattle.pm_services.specs.RelayWrites.{Opens}
use Rattle.pm_services.proofs.waiting_relay.WaitingRelay.resumed.Goals as goal

pub returns : goal.returns
returns c =
    let back = c.in_ok-relay.ensures.back in
    let kept = c.resume.ensures in
    let stored = c.args.stored.now in
    record {
      opens = subst (λ (own : RelaySetup). Opens own.terms.limits own.basis.steps stored.last stored.answered stored.index stored.numbers stored.limits
          (record { relay = c.in_ok-relay.relay; waiting = None })) c.own.view_is (record {
            back = record {
              gathered = subst (λ n. IsNewConcentrator most_nodes n (Some c.own.inside.terms.limits) c.in_ok-relay.relay.gathered) c.steps.ensures.steps
                  back.gathered;
              base = back.base ∙ kept.last;
              answered = back.answered ∙ kept.answered;
              index = back.index ∙ kept.index;
              recorded = back.recorded ∙ kept.numbers;
              made_under = ap (limits_of_number c.in_ok-relay.relay) (sym kept.last) ∙ back.made_under ∙ ap (λ (l : Limits). Some l) kept.limits;
            };
            waiting = refl;
          });
    }
