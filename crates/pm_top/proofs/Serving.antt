-- What follows from how a service of a stream of bids ended.
use Rattle.std.proofs.Common.{◌≡◌, sym, subst, refl, ℕ, List, Option, Some, None}
use Rattle.std.specs.Io.KnownBytes.{Appends}
use Rattle.pm_wire.specs.Answers.{replies, replies_and_fault, AreReplies}
use Rattle.pm_wire.specs.Frames.{bid_framing}
use Rattle.pm_wire.specs.Services.{EndsSo}
use Rattle.pm_wire.specs.declared.stream.Served.{Served}
use Rattle.pm_wire.specs.declared.stream.Served.TheVariants.{Done, Refused, TooLong, ReadFault, WriteFault, NoMemory}
use Rattle.pm_wire.proofs.Known.{replies_and_fault_are}
use Rattle.pm_answer.specs.declared.arguments.Command.{Command}
use Rattle.pm_answer.specs.declared.arguments.Command.TheVariants.{Serve}
use Rattle.pm_answer.specs.declared.status.Status.{Status}
use Rattle.pm_answer.specs.declared.status.Status.TheVariants as status
use Rattle.pm_top.specs.Top.{served, served_fault, served_long}
use Rattle.pm_top.specs.Endings.{WroteItsText}
use Rattle.pm_top.specs.Serving.{service_status, ServesBids}

-- what a service appended is due, unless it failed
end_is_due : (command : Option Command) (old new held holds : Option (List ℕ)) (r k : Type 0) (ended : Served) → command ≡ Some Serve →
    EndsSo bid_framing None AreReplies old new held holds r k ended → WroteItsText command old new held holds (service_status ended)
end_is_due command old new held holds r k Done asks end no_read no_write no_failure =
    let is : end.reply ≡ replies end.frames = end.answers in
    (replies end.frames, served end.frames end.input asks end.consumes end.at_end end.are_frames, subst (Appends held holds) is end.appends)
end_is_due command old new held holds r k Refused asks end no_read no_write no_failure =
    let is = replies_and_fault_are end.frames end.due end.answers in
    (replies_and_fault end.frames, served_fault end.frames end.input asks end.consumes end.fault, subst (Appends held holds) is end.appends)
end_is_due command old new held holds r k TooLong asks end no_read no_write no_failure =
    let answered = end.answered in
    let is : answered.reply ≡ replies answered.frames = answered.answers in (
      replies answered.frames,
      served_long answered.frames end.input asks answered.consumes answered.has end.long,
      subst (Appends held holds) is answered.appends,
    )
end_is_due command old new held holds r k ReadFault asks end no_read no_write no_failure = absurd (no_read refl)
end_is_due command old new held holds r k WriteFault asks end no_read no_write no_failure = absurd (no_write refl)
end_is_due command old new held holds r k NoMemory asks end no_read no_write no_failure = absurd (no_failure refl)

-- a fault of reading is one that was counted
read_rose : (old new held holds : Option (List ℕ)) (r k : Type 0) (ended : Served) → EndsSo bid_framing None AreReplies old new held holds r k ended →
    service_status ended ≡ status.ReadFault → r
read_rose old new held holds r k Done end is = absurd (cc is)
read_rose old new held holds r k Refused end is = absurd (cc is)
read_rose old new held holds r k TooLong end is = absurd (cc is)
read_rose old new held holds r k ReadFault end is = end.0
read_rose old new held holds r k WriteFault end is = absurd (cc is)
read_rose old new held holds r k NoMemory end is = absurd (cc is)

-- and so is one of writing
write_rose : (old new held holds : Option (List ℕ)) (r k : Type 0) (ended : Served) → EndsSo bid_framing None AreReplies old new held holds r k ended →
    service_status ended ≡ status.WriteFault → k
write_rose old new held holds r k Done end is = absurd (cc is)
write_rose old new held holds r k Refused end is = absurd (cc is)
write_rose old new held holds r k TooLong end is = absurd (cc is)
write_rose old new held holds r k ReadFault end is = absurd (cc is)
write_rose old new held holds r k WriteFault end is = end.0
write_rose old new held holds r k NoMemory end is = absurd (cc is)

module _ (old new held holds : Option (List ℕ)) (r k : Type 0) (told : Status) (serves : ServesBids old new held holds r k told) where
  -- what was appended for a stream of bids is due
  pub service_is_due : (command : Option Command) → command ≡ Some Serve → WroteItsText command old new held holds told
  service_is_due command asks =
      subst (λ (s : Status). WroteItsText command old new held holds s) (sym serves.told)
      (end_is_due command old new held holds r k serves.served asks serves.ends)

  -- its fault of reading was counted
  pub service_read_fault : told ≡ status.ReadFault → r
  service_read_fault is = read_rose old new held holds r k serves.served serves.ends (subst (λ (s : Status). s ≡ status.ReadFault) serves.told is)

  -- and its fault of writing
  pub service_write_fault : told ≡ status.WriteFault → k
  service_write_fault is = write_rose old new held holds r k serves.served serves.ends (subst (λ (s : Status). s ≡ status.WriteFault) serves.told is)
