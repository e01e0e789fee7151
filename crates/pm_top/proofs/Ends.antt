-- How the work of each command ends.
use Rattle.std.proofs.Common.{◌≡◌, ◌∙◌, refl, subst, sym, inl, inr, ℕ, ◌<◌, ◌≤◌, List, length, Option, Some, None, IfSome}
use Rattle.pm_io.specs.Taken.{taken_bytes}
use Rattle.pm_answer.specs.declared.arguments.Command.TheVariants.{File, Demo, Serve}
use Rattle.pm_answer.specs.declared.arguments.FileCommand.{FileCommand}
use Rattle.pm_answer.specs.declared.arguments.FileCommand.TheVariants.{Check}
use Rattle.pm_answer.specs.declared.status.Status.{Status}
use Rattle.pm_answer.specs.declared.status.Status.TheVariants.{Done, Usage, ReadFault, TooLong, WriteFault, NoMemory}
use Rattle.pm_answer.specs.Inputs.{input_limit, IsRefusalOf}
use Rattle.pm_answer.proofs.Answering.{same_command}
use Rattle.pm_top.specs.Endings.{EndsUnlessUnwritten, EndsUnlessCutShort, EndsUnlessNoMemory, WrotePartOfDue}
use Rattle.pm_top.specs.Ends.{FailsCleanly, EndsByCause, EndsWithoutFault}
use Rattle.pm_top.proofs.Due.{Answers, completes}
use Rattle.pm_top.proofs.Exact.{exact_refused_at, exact_invalid_at}
use Rattle.pm_top.proofs.Headline.{cut_short_of}

-- the two commands are one
same : (asked other : FileCommand) → Some (File asked) ≡ Some (File other) → asked ≡ other
same asked other is = same_command asked other (Some (File asked)) refl is

-- with no fault of the sink counted, what is due was written
written : (due status : Status) (rose : Type 0) → EndsUnlessUnwritten due status → (status ≡ WriteFault → rose) → ¬ rose → status ≡ due
written due status rose (inl told) at_write quiet = told
written due status rose (inr fault) at_write quiet = absurd (quiet (at_write fault))

-- and nothing was cut short
uncut : (due status : Status) (rose : Type 0) → EndsUnlessCutShort due status → (status ≡ WriteFault → rose) → ¬ rose →
    EndsUnlessNoMemory due status
uncut due status rose (inl told) at_write quiet = inr told
uncut due status rose (inr (inl fault)) at_write quiet = absurd (quiet (at_write fault))
uncut due status rose (inr (inr failure)) at_write quiet = inl failure

-- a status that is this one or WriteFault is no other
no_other : (due status other : Status) (A : Type 0) → EndsUnlessUnwritten due status → (due ≡ other → ⊥) → (WriteFault ≡ other → ⊥) →
    status ≡ other → A
no_other due status other A (inl told) not_due not_fault is = absurd (not_due (subst (λ (s : Status). s ≡ other) told is))
no_other due status other A (inr fault) not_due not_fault is = absurd (not_fault (subst (λ (s : Status). s ≡ other) fault is))

-- a demo reads nothing, so that no reading fails
no_read : (status : Status) (A : Type 0) → EndsUnlessCutShort Done status → status ≡ ReadFault → A
no_read status A (inl told) is = absurd (cc (sym told ∙ is))
no_read status A (inr (inl fault)) is = absurd (cc (sym fault ∙ is))
no_read status A (inr (inr failure)) is = absurd (cc (sym failure ∙ is))

module _ {K : Type 0} (held : K → Option (List ℕ)) (old new : Option (List ℕ)) (before after : K) (r k : Type 0) (status : Status) where
  -- ---- a command that reads a file

  module _ (asked : FileCommand) (at_read : status ≡ ReadFault → after ≡ before) (at_memory : status ≡ NoMemory → after ≡ before)
      (at_write : status ≡ WriteFault → WrotePartOfDue (Some (File asked)) old new (held before) (held after))
      (answer : IfSome old (Answers asked status)) where
    -- a command that reads a file fails cleanly, as it is said of its faults
    pub file_fails : FailsCleanly held (Some (File asked)) old new before after status
    file_fails = record { unread = λ _ is. at_read is; no_memory = λ _ is. at_memory is; cut_short = λ _ is. at_write is }

    -- it ends by the cause that stands, as it is said of its input
    pub file_by_cause : (input_limit asked < length (taken_bytes old new) → EndsUnlessCutShort TooLong status) →
        EndsByCause (Some (File asked)) old new (held before) (held after) status
    file_by_cause long = record {
      only_usage = λ none. absurd (cc none);
      took_more = λ other asks more.
          long (subst (λ (a : FileCommand). input_limit a < length (taken_bytes old new)) (sym (same asked other asks)) more);
      answer = λ other asks. subst (λ (a : FileCommand). IfSome old (Answers a status)) (same asked other asks) answer;
      exact_refused = λ other input held_before refusal asks short is_refusal was at_end had has.
          let is = sym (same asked other asks) in
          exact_refused_at asked held before after old new status input held_before refusal
          (subst (λ (a : FileCommand). length input ≤ input_limit a) is short) (subst (λ (a : FileCommand). IsRefusalOf a input refusal) is is_refusal)
          was at_end had has answer at_read at_memory at_write;
      exact_invalid = λ plan input trace held_before line asks short has_plan bad was at_end had has.
          let is = same asked Check asks in
          exact_invalid_at held before after old new status plan input trace held_before line short has_plan bad was at_end had has
          (subst (λ (a : FileCommand). IfSome old (Answers a status)) is answer) at_read at_memory
          (λ e. cut_short_of asked Check old new (held before) (held after) is (at_write e));
    }

    -- without a fault it ends as its input says
    pub file_completes : (status ≡ ReadFault → r) → (status ≡ WriteFault → k) → EndsWithoutFault (Some (File asked)) old r k status
    file_completes read_rose write_rose = record {
      complete_usage = λ none. absurd (cc none);
      complete = λ other asks. completes other old status r k
          (subst (λ (a : FileCommand). IfSome old (Answers a status)) (same asked other asks) answer) read_rose write_rose;
      complete_demo = λ size number asks. absurd (cc asks);
    }

  -- ---- a demo

  module _ (size number : ℕ) (ends : EndsUnlessCutShort Done status) where
    -- a demo fails cleanly
    pub demo_fails : (status ≡ NoMemory → after ≡ before) →
        (status ≡ WriteFault → WrotePartOfDue (Some (Demo size number)) old new (held before) (held after)) →
        FailsCleanly held (Some (Demo size number)) old new before after status
    demo_fails at_memory at_write = record {
      unread = λ _ is. no_read status (after ≡ before) ends is;
      no_memory = λ _ is. at_memory is;
      cut_short = λ _ is. at_write is;
    }

    -- no cause of another status stands
    pub demo_by_cause : EndsByCause (Some (Demo size number)) old new (held before) (held after) status
    demo_by_cause = record {
      only_usage = λ none. absurd (cc none);
      took_more = λ asked asks. absurd (cc asks);
      answer = λ asked asks. absurd (cc asks);
      exact_refused = λ asked input held_before refusal asks. absurd (cc asks);
      exact_invalid = λ plan input trace held_before line asks. absurd (cc asks);
    }

    -- without a fault it is done
    pub demo_completes : (status ≡ WriteFault → k) → EndsWithoutFault (Some (Demo size number)) old r k status
    demo_completes write_rose = record {
      complete_usage = λ none. absurd (cc none);
      complete = λ asked asks. absurd (cc asks);
      complete_demo = λ _ _ _ quiet. uncut Done status k ends write_rose quiet;
    }

  -- ---- a service

  -- of a failed service nothing is said here
  pub service_fails : FailsCleanly held (Some Serve) old new before after status
  service_fails = record {
    unread = λ not_serve. absurd (not_serve refl);
    no_memory = λ not_serve. absurd (not_serve refl);
    cut_short = λ not_serve. absurd (not_serve refl);
  }

  -- nor of its causes
  pub service_by_cause : EndsByCause (Some Serve) old new (held before) (held after) status
  service_by_cause = record {
    only_usage = λ none. absurd (cc none);
    took_more = λ asked asks. absurd (cc asks);
    answer = λ asked asks. absurd (cc asks);
    exact_refused = λ asked input held_before refusal asks. absurd (cc asks);
    exact_invalid = λ plan input trace held_before line asks. absurd (cc asks);
  }

  -- nor of how it ends without a fault
  pub service_completes : EndsWithoutFault (Some Serve) old r k status
  service_completes = record {
    complete_usage = λ none. absurd (cc none);
    complete = λ asked asks. absurd (cc asks);
    complete_demo = λ size number asks. absurd (cc asks);
  }

  -- ---- arguments that are no command

  module _ (ends : EndsUnlessUnwritten Usage status) where
    -- the usage line is written, or fails cleanly
    pub usage_fails : (status ≡ WriteFault → WrotePartOfDue None old new (held before) (held after)) →
        FailsCleanly held None old new before after status
    usage_fails at_write = record {
      unread = λ _ is. no_other Usage status ReadFault (after ≡ before) ends (λ e. cc e) (λ e. cc e) is;
      no_memory = λ _ is. no_other Usage status NoMemory (after ≡ before) ends (λ e. cc e) (λ e. cc e) is;
      cut_short = λ _ is. at_write is;
    }

    -- the cause of Usage stands
    pub usage_by_cause : EndsByCause None old new (held before) (held after) status
    usage_by_cause = record {
      only_usage = λ _. ends;
      took_more = λ asked asks. absurd (cc asks);
      answer = λ asked asks. absurd (cc asks);
      exact_refused = λ asked input held_before refusal asks. absurd (cc asks);
      exact_invalid = λ plan input trace held_before line asks. absurd (cc asks);
    }

    -- without a fault it is written
    pub usage_completes : (status ≡ WriteFault → k) → EndsWithoutFault None old r k status
    usage_completes write_rose = record {
      complete_usage = λ _ quiet. written Usage status k ends write_rose quiet;
      complete = λ asked asks. absurd (cc asks);
      complete_demo = λ size number asks. absurd (cc asks);
    }
