-- What a node took and wrote is a process of it.
use Rattle.std.proofs.Common.{◌≡◌, ◌∙◌, sym, ap, subst, ℕ, List, [], ◌++◌, take, drop, Option, None, append-nil, append_assoc}
use Rattle.std.proofs.lemmas.List.{take-append-drop}
use Rattle.std.specs.Io.KnownBytes.{Appends, Consumes}
use Rattle.pm_net.specs.Pricing.{Pricing}
use Rattle.pm_wire.specs.Framing.{Framing, stream_bytes}
use Rattle.pm_wire.specs.Taking.{AnswersFrom}
use Rattle.pm_wire.specs.Moments.{IsRestDue}
use Rattle.pm_wire.specs.Services.{IsDone, IsRefused, IsAnswered, IsCutShort, IsBegun, EndsSo}
use Rattle.pm_wire.specs.Services as services
use Rattle.pm_wire.specs.declared.stream.Served.{Served}
use Rattle.pm_wire.specs.declared.stream.Served.TheVariants.{Done, Refused, TooLong, ReadFault, WriteFault, NoMemory}
use Rattle.pm_frames.specs.RelayFrames.{relay_framing}
use Rattle.pm_frames.specs.RootFrames.{root_framing}
use Rattle.pm_frames.specs.DeviceFrames.{device_framing}
use Rattle.pm_frames.specs.declared.place.Stage.TheVariants.{Start}
use Rattle.pm_frames.specs.declared.terms.RelayTerms.{RelayTerms}
use Rattle.pm_services.specs.RelayAnswers.{AnswersRelay}
use Rattle.pm_services.specs.RootAnswers.{AnswersRoot}
use Rattle.pm_services.specs.DeviceAnswers.{AnswersDevice}
use Rattle.pm_processes.specs.Processes.{IsProcess, relay_start, stream_start, new_relay_service, new_device_service}
use Rattle.pm_processes.proofs.RelayRuns.{relay_process}
use Rattle.pm_processes.proofs.RootRuns.{root_process}
use Rattle.pm_processes.proofs.DeviceRuns.{device_process}
use Rattle.pm_live.specs.Asks.{AsksNode}
use Rattle.pm_live.specs.Serving.{ServesNode}
use Rattle.pm_live.specs.Processes.{IsProcessOf, IsLifeOf, IsProcessBetween, AsksForProcess}
use Rattle.pm_live.specs.declared.named.LiveNode.{LiveNode}
use Rattle.pm_live.specs.declared.named.LiveNode.TheVariants.{Relay, Auctioneer, Device}

module _ {P F : Type 0} (framing : Framing P F) (start : P) (Answer : List F → List ℕ → Type 0) (old new held holds : Option (List ℕ)) where
  -- a process of any sort
  record Between (piece : List ℕ) : Type 0 where
    took : List ℕ
    unread : List ℕ
    wrote : List ℕ
    consumes : Consumes old new (took ++ unread)
    appends : Appends held holds wrote
    process : IsProcess framing start Answer took (wrote ++ piece)

  all_read : (input : List ℕ) → Consumes old new input → Consumes old new (input ++ [])
  all_read input consumes = subst (λ (l : List ℕ). Consumes old new l) (sym (append-nil input)) consumes

  no_more : (l : List ℕ) → l ≡ (l ++ []) ++ []
  no_more l = sym (append-nil (l ++ []) ∙ append-nil l)

  answered : (input : List ℕ) → IsAnswered framing start Answer old new held holds input → Between []
  answered input is = record {
    took = input;
    unread = [];
    wrote = is.reply;
    consumes = all_read input is.consumes;
    appends = is.appends;
    process = record {
      left = new;
      due = is.reply;
      more = [];
      is_due = services.answered is.frames is.reply is.has is.answers;
      spelled = no_more is.reply;
    };
  }

  rest_due : (piece part more : List ℕ) → piece ≡ part ++ more → IsRestDue framing start Answer old new held holds piece → Between part
  rest_due piece part more cut is = record {
    took = is.input;
    unread = [];
    wrote = is.sent;
    consumes = all_read is.input is.consumes;
    appends = is.appends;
    process = record {
      left = new;
      due = is.due;
      more = more;
      is_due = is.is_due;
      spelled = is.spelled ∙ ap (λ (l : List ℕ). is.sent ++ l) cut ∙ sym (append_assoc is.sent part more);
    };
  }

  done : IsDone framing start Answer old new held holds → Between []
  done is = record {
    took = is.input;
    unread = [];
    wrote = is.reply;
    consumes = all_read is.input is.consumes;
    appends = is.appends;
    process = record {
      left = new;
      due = is.reply;
      more = [];
      is_due = services.answered is.frames is.reply (record { rest = []; begins = is.are_frames; unfinished = tt }) is.answers;
      spelled = no_more is.reply;
    };
  }

  refused : IsRefused framing start Answer old new held holds → Between []
  refused is = record {
    took = is.input;
    unread = [];
    wrote = is.due;
    consumes = all_read is.input is.consumes;
    appends = is.appends;
    process = record {
      left = new;
      due = is.due;
      more = [];
      is_due = services.refused is.frames is.due is.fault is.answers;
      spelled = no_more is.due;
    };
  }

  cut_short : IsCutShort framing start Answer old new held holds → Between []
  cut_short is = record {
    took = is.input;
    unread = [];
    wrote = take is.written is.due;
    consumes = all_read is.input is.consumes;
    appends = is.appends;
    process = record {
      left = new;
      due = is.due;
      more = drop is.written is.due;
      is_due = is.is_due;
      spelled = sym (ap (λ (l : List ℕ). l ++ drop is.written is.due) (append-nil (take is.written is.due)) ∙ take-append-drop is.written is.due);
    };
  }

  -- of the bytes the first frames alone were answered
  begun : IsBegun framing start Answer old new held holds → Between []
  begun is =
      let first : List ℕ = stream_bytes framing is.frames in
      record {
        took = first;
        unread = is.rest;
        wrote = is.reply;
        consumes = subst (λ (l : List ℕ). Consumes old new l) is.begins.spelled is.consumes;
        appends = is.appends;
        process = record {
          left = new;
          due = is.reply;
          more = [];
          is_due = services.answered is.frames is.reply
              (record { rest = []; begins = record { stand = is.begins.stand; spelled = sym (append-nil first) }; unfinished = tt }) is.answers;
          spelled = no_more is.reply;
        };
      }

  ended : (a b : Type 0) (served : Served) → EndsSo framing start Answer old new held holds a b served → Between []
  ended a b Done is = done is
  ended a b Refused is = refused is
  ended a b TooLong is = answered is.input is.answered
  ended a b ReadFault is = answered is.1.0 is.1.1
  ended a b WriteFault is = cut_short is.1
  ended a b NoMemory is = begun is

-- frame by frame
life_of : (p : Pricing) (node : LiveNode) (took wrote : List ℕ) → IsProcessOf node took wrote → IsLifeOf p node took wrote
life_of p (Relay child terms) took wrote is = relay_process child terms took wrote is
life_of p Auctioneer took wrote is = root_process took wrote is
life_of p (Device child) took wrote is = device_process p child took wrote is

module _ (old new held holds : Option (List ℕ)) (piece : List ℕ) where
  relay_between : (child : ℕ) (terms : RelayTerms) →
      Between relay_framing (relay_start child terms) (AnswersFrom AnswersRelay (new_relay_service child terms)) old new held holds piece →
      IsProcessBetween (Relay child terms) old new held holds piece
  relay_between child terms is = record {
    took = is.took;
    unread = is.unread;
    wrote = is.wrote;
    consumes = is.consumes;
    appends = is.appends;
    process = is.process;
    life = λ p. life_of p (Relay child terms) is.took (is.wrote ++ piece) is.process;
  }

  root_between : Between root_framing Start (AnswersFrom AnswersRoot None) old new held holds piece →
      IsProcessBetween Auctioneer old new held holds piece
  root_between is = record {
    took = is.took;
    unread = is.unread;
    wrote = is.wrote;
    consumes = is.consumes;
    appends = is.appends;
    process = is.process;
    life = λ p. life_of p Auctioneer is.took (is.wrote ++ piece) is.process;
  }

  device_between : (child : ℕ) →
      Between device_framing (stream_start child) (AnswersFrom AnswersDevice (new_device_service child)) old new held holds piece →
      IsProcessBetween (Device child) old new held holds piece
  device_between child is = record {
    took = is.took;
    unread = is.unread;
    wrote = is.wrote;
    consumes = is.consumes;
    appends = is.appends;
    process = is.process;
    life = λ p. life_of p (Device child) is.took (is.wrote ++ piece) is.process;
  }

-- however a node ended, it was a process
pub served_process : (node : LiveNode) (old new held holds : Option (List ℕ)) (a b : Type 0) (served : Served) →
    ServesNode node old new held holds a b served → IsProcessBetween node old new held holds []
served_process (Relay child terms) old new held holds a b served is =
    relay_between old new held holds [] child terms
    (ended relay_framing (relay_start child terms) (AnswersFrom AnswersRelay (new_relay_service child terms)) old new held holds a b served is)
served_process Auctioneer old new held holds a b served is =
    root_between old new held holds [] (ended root_framing Start (AnswersFrom AnswersRoot None) old new held holds a b served is)
served_process (Device child) old new held holds a b served is =
    device_between old new held holds [] child
    (ended device_framing (stream_start child) (AnswersFrom AnswersDevice (new_device_service child)) old new held holds a b served is)

-- a peer that asks for a process asks no more than what is due
pub asks_node : {W : Type 0} (left held : W → Option (List ℕ)) (becomes : W → W → Type 0) (may_read : W → Type 0)
    (may_write : W → List ℕ → Type 0) (node : LiveNode) (old : W) → AsksForProcess left held becomes may_read may_write node old →
    AsksNode left held becomes may_read may_write node old
asks_node left held becomes may_read may_write (Relay child terms) old asks = record {
  read = λ now b has. asks.read now b (relay_between (left old) (left now) (held old) (held now) [] child terms
      (answered relay_framing (relay_start child terms) (AnswersFrom AnswersRelay (new_relay_service child terms))
      (left old) (left now) (held old) (held now) has.0 has.1));
  write = λ now piece b rest. asks.write now piece b (λ part more cut. relay_between (left old) (left now) (held old) (held now) part child terms
      (rest_due relay_framing (relay_start child terms) (AnswersFrom AnswersRelay (new_relay_service child terms))
      (left old) (left now) (held old) (held now) piece part more cut rest));
}
asks_node left held becomes may_read may_write Auctioneer old asks = record {
  read = λ now b has. asks.read now b (root_between (left old) (left now) (held old) (held now) []
      (answered root_framing Start (AnswersFrom AnswersRoot None) (left old) (left now) (held old) (held now) has.0 has.1));
  write = λ now piece b rest. asks.write now piece b (λ part more cut. root_between (left old) (left now) (held old) (held now) part
      (rest_due root_framing Start (AnswersFrom AnswersRoot None) (left old) (left now) (held old) (held now) piece part more cut rest));
}
asks_node left held becomes may_read may_write (Device child) old asks = record {
  read = λ now b has. asks.read now b (device_between (left old) (left now) (held old) (held now) [] child
      (answered device_framing (stream_start child) (AnswersFrom AnswersDevice (new_device_service child))
      (left old) (left now) (held old) (held now) has.0 has.1));
  write = λ now piece b rest. asks.write now piece b (λ part more cut. device_between (left old) (left now) (held old) (held now) part child
      (rest_due device_framing (stream_start child) (AnswersFrom AnswersDevice (new_device_service child))
      (left old) (left now) (held old) (held now) piece part more cut rest));
}
