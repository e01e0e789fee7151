-- What a service did is said by a weaker word for its answers as well.
use Rattle.std.proofs.Common.{ℕ, List, Option}
use Rattle.pm_wire.specs.Framing.{Framing}
use Rattle.pm_wire.specs.Services.{AnswersAndFault, IsReplyDue, answered, refused, IsDone, IsRefused, IsAnswered, FailsReading, IsLongStream}
use Rattle.pm_wire.specs.Services.{IsCutShort, IsBegun, TellsFault, EndsSo}
use Rattle.pm_wire.specs.Due.{EndsAsDue}
use Rattle.pm_wire.specs.Moments.{IsRestDue}
use Rattle.pm_wire.specs.declared.stream.Served.{Served}
use Rattle.pm_wire.specs.declared.stream.Served.TheVariants.{Done, Refused, TooLong, ReadFault, WriteFault, NoMemory}

module _ {P F : Type 0} (framing : Framing P F) (start : P) (Answer Other : List F → List ℕ → Type 0)
    (by : (frames : List F) (reply : List ℕ) → Answer frames reply → Other frames reply) where
  fault_by : (frames : List F) (due : List ℕ) → AnswersAndFault framing Answer frames due → AnswersAndFault framing Other frames due
  fault_by frames due d = record { reply = d.reply; answers = by frames d.reply d.answers; spelled = d.spelled }

  due_by : (new : Option (List ℕ)) (bytes due : List ℕ) → IsReplyDue framing start Answer new bytes due → IsReplyDue framing start Other new bytes due
  due_by new bytes due (answered frames reply has answers) = answered frames reply has (by frames reply answers)
  due_by new bytes due (refused frames text fault answers) = refused frames text fault (fault_by frames text answers)

  -- of a service that is done
  pub done_by : (old new held holds : Option (List ℕ)) → IsDone framing start Answer old new held holds → IsDone framing start Other old new held holds
  done_by old new held holds d = record {
    input = d.input;
    frames = d.frames;
    reply = d.reply;
    consumes = d.consumes;
    at_end = d.at_end;
    short = d.short;
    are_frames = d.are_frames;
    answers = by d.frames d.reply d.answers;
    appends = d.appends;
  }

  -- of a service that is refused
  pub refused_by : (old new held holds : Option (List ℕ)) → IsRefused framing start Answer old new held holds →
      IsRefused framing start Other old new held holds
  refused_by old new held holds d = record {
    input = d.input;
    frames = d.frames;
    due = d.due;
    consumes = d.consumes;
    fault = d.fault;
    answers = fault_by d.frames d.due d.answers;
    appends = d.appends;
  }

  answered_by : (old new held holds : Option (List ℕ)) (input : List ℕ) → IsAnswered framing start Answer old new held holds input →
      IsAnswered framing start Other old new held holds input
  answered_by old new held holds input d = record {
    frames = d.frames;
    reply = d.reply;
    consumes = d.consumes;
    has = d.has;
    answers = by d.frames d.reply d.answers;
    appends = d.appends;
  }

  -- of one whose source failed
  pub reading_by : (old new held holds : Option (List ℕ)) → FailsReading framing start Answer old new held holds →
      FailsReading framing start Other old new held holds
  reading_by old new held holds d = (d.0, answered_by old new held holds d.0 d.1, d.2)

  -- of one whose input was too long
  pub long_by : (old new held holds : Option (List ℕ)) → IsLongStream framing start Answer old new held holds →
      IsLongStream framing start Other old new held holds
  long_by old new held holds d = record { input = d.input; answered = answered_by old new held holds d.input d.answered; long = d.long }

  -- of one whose sink failed
  pub cut_by : (old new held holds : Option (List ℕ)) → IsCutShort framing start Answer old new held holds →
      IsCutShort framing start Other old new held holds
  cut_by old new held holds d = record {
    input = d.input;
    due = d.due;
    written = d.written;
    consumes = d.consumes;
    is_due = due_by new d.input d.due d.is_due;
    proper = d.proper;
    appends = d.appends;
  }

  -- of one that lacked memory
  pub begun_by : (old new held holds : Option (List ℕ)) → IsBegun framing start Answer old new held holds → IsBegun framing start Other old new held holds
  begun_by old new held holds d = record {
    input = d.input;
    frames = d.frames;
    rest = d.rest;
    reply = d.reply;
    consumes = d.consumes;
    begins = d.begins;
    answers = by d.frames d.reply d.answers;
    appends = d.appends;
  }

  -- of the fault that was told
  pub told_by : (all : List ℕ) (held holds : Option (List ℕ)) (offset : ℕ) → TellsFault framing start Answer all held holds offset →
      TellsFault framing start Other all held holds offset
  told_by all held holds offset d = record {
    frames = d.frames;
    rest = d.rest;
    reply = d.reply;
    begins = d.begins;
    before = d.before;
    answers = by d.frames d.reply d.answers;
    appends = d.appends;
  }

  -- of how it ended
  pub ends_by : (old new held holds : Option (List ℕ)) (rose_source rose_sink : Type 0) (served : Served) →
      EndsSo framing start Answer old new held holds rose_source rose_sink served →
      EndsSo framing start Other old new held holds rose_source rose_sink served
  ends_by old new held holds rose_source rose_sink Done d = done_by old new held holds d
  ends_by old new held holds rose_source rose_sink Refused d = refused_by old new held holds d
  ends_by old new held holds rose_source rose_sink TooLong d = long_by old new held holds d
  ends_by old new held holds rose_source rose_sink ReadFault d = (d.0, reading_by old new held holds d.1)
  ends_by old new held holds rose_source rose_sink WriteFault d = (d.0, cut_by old new held holds d.1)
  ends_by old new held holds rose_source rose_sink NoMemory d = begun_by old new held holds d

  -- of an end that is as due
  pub as_due_by : (all : List ℕ) (old new held holds : Option (List ℕ)) (rose_source rose_sink : Type 0) (served : Served) →
      EndsAsDue framing start Answer all old new held holds rose_source rose_sink served →
      EndsAsDue framing start Other all old new held holds rose_source rose_sink served
  as_due_by all old new held holds rose_source rose_sink served d = record {
    bad_frame = d.bad_frame;
    took_more = d.took_more;
    frames = d.frames;
    refusal = d.refusal;
    complete = d.complete;
    fault = λ offset refused bad. told_by all held holds offset (d.fault offset refused bad);
  }

  -- of what is due at a write
  pub rest_by : (old new held holds : Option (List ℕ)) (piece : List ℕ) → IsRestDue framing start Answer old new held holds piece →
      IsRestDue framing start Other old new held holds piece
  rest_by old new held holds piece d = record {
    input = d.input;
    due = d.due;
    sent = d.sent;
    consumes = d.consumes;
    is_due = due_by new d.input d.due d.is_due;
    appends = d.appends;
    spelled = d.spelled;
  }
