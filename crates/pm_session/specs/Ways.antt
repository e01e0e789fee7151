-- One way of a link: the message that waits, and the numbers offered and taken last.
use Rattle.std.specs.Prelude.{◌≡◌, ℕ, ◌<◌, ◌≤◌, ◌⊎◌, ◌↔◌, Option, Some, None}

-- messages go by rising numbers; number 0 says that none was offered, or taken
pub record Way (Message : Type 0) : Type 0 where
  pub waiting : Option Message
  pub offered : ℕ
  pub taken : ℕ

-- the message was offered and waits to be taken
abbrev pub Waits : {Message : Type 0} → Way Message → Message → Type 0
Waits way message = way.waiting ≡ Some message

-- the message that is offered waits, and every other one that waits afterwards waited before
pub record Offered {Message : Type 0} (number : Message → ℕ) (old new : Way Message) (message : Message) : Type 0 where
  pub waits : Waits new message
  pub others : (other : Message) → Waits new other → (other ≡ message) ⊎ Waits old other
  pub offered : new.offered ≡ number message
  pub taken : new.taken ≡ old.taken

-- the message that is taken waited, and its number is above all taken before: it is the newest one;
-- what waits afterwards waited before, and has a greater number
pub record Taken {Message : Type 0} (number : Message → ℕ) (old new : Way Message) (message : Message) : Type 0 where
  pub waited : Waits old message
  pub above : old.taken < number message
  pub within : number message ≤ old.offered
  pub rest : (other : Message) → Waits new other → Waits old other × (number message < number other)
  pub offered : new.offered ≡ old.offered
  pub taken : new.taken ≡ number message
  pub newest : number message ≡ old.offered

-- what holds of each way: nothing waits exactly if the message offered last was taken or none
-- was offered; else the one that waits is the one offered last
pub record IsWay {Message : Type 0} (number : Message → ℕ) (way : Way Message) : Type 0 where
  pub order : way.taken ≤ way.offered
  pub none : (way.waiting ≡ None) ↔ (way.offered ≡ way.taken)
  pub last : (message : Message) → Waits way message → number message ≡ way.offered
  pub above : (message : Message) → Waits way message → way.taken < number message

-- a way on which nothing was offered
abbrev pub new_way : {Message : Type 0} → Way Message
new_way = record { waiting = None; offered = 0; taken = 0 }
