-- What a relay after Hello answers, by what the relay that it holds answers.
use Rattle.std.proofs.Common.{◌≡◌, sym, subst, refl, ℕ, ◌<◌, ℤ, List, ◌++◌, Option, None}
use Rattle.std.proofs.Common.{Some, inl, inr, arith}
use Rattle.pm_base.specs.declared.limits.Limits.{Limits}
use Rattle.pm_basis.specs.Prices.{BasisValue}
use Rattle.pm_session.specs.declared.price.PriceUpdate.{PriceUpdate}
use Rattle.pm_relay.specs.Numbers.{child_number}
use Rattle.pm_wire.specs.declared.frame.Frame.TheVariants.{Bid}
use Rattle.pm_frames.specs.Answers.{too_much_bytes, other_basis_bytes}
use Rattle.pm_frames.specs.Stored.{StoredRelay, relay_resume_bytes}
use Rattle.pm_frames.specs.declared.relay.RelayFrame.{RelayFrame}
use Rattle.pm_frames.specs.declared.relay.RelayFrame.TheVariants.{Child, Resume}
use Rattle.pm_services.specs.Bounds.{KeepsBound}
use Rattle.pm_services.specs.Limits.{relay_reply_limit, price_reply_limit}
use Rattle.pm_services.specs.Outputs.{Output}
use Rattle.pm_services.specs.Receipts.{Appended, sender_place}
use Rattle.pm_services.specs.RelaySetups.{RelaySetup}
use Rattle.pm_services.specs.RelayWrites.{WaitingRelay, relay_bytes, Opens, WritesBid, WritesPrice, WritesLimits, WritesTold, WritesGiven, WritesKept}
use Rattle.pm_services.specs.RelayWrites.{WritesRelay, bounds_after}
use Rattle.pm_services.specs.RelayAnswers.{OpenRelay, with_held, WritesOpenRelay}
use Rattle.pm_services.proofs.Written.{mapped, says, says_nothing}

abbrev Outs : Type 0
Outs = List (Output StoredRelay)

-- what the relay that it holds answers to a frame that gives no bound is its own answer
pub opened : (old : OpenRelay) (frame : RelayFrame) (after : WaitingRelay) (out longer : List ℕ) → bounds_after old.bounds frame ≡ old.bounds →
    Appended (relay_bytes old.setup) (WritesRelay old.setup old.bounds old.held frame after) relay_reply_limit out longer →
    Appended (relay_bytes old.setup) (WritesOpenRelay old frame (with_held old after)) relay_reply_limit out longer
opened old frame after out longer stays a = record {
  outs = a.outs;
  writes = record { setup = refl; bounds = sym stays; held = a.writes };
  appended = a.appended;
  few = a.few;
}

-- ---- a child's Bid

pub counts : (old : OpenRelay) (sender number : ℕ) (demand : List ℤ) (after : WaitingRelay) (out longer : List ℕ) →
    KeepsBound old.bounds sender demand →
    Appended (relay_bytes old.setup) (WritesBid old.setup old.held sender number (Some demand) after) relay_reply_limit out longer →
    Appended (relay_bytes old.setup) (WritesOpenRelay old (Child (Bid sender number demand)) (with_held old after)) relay_reply_limit out longer
counts old sender number demand after out longer keeps a =
    opened old (Child (Bid sender number demand)) after out longer refl
    (mapped (relay_bytes old.setup) (WritesBid old.setup old.held sender number (Some demand) after)
    (WritesRelay old.setup old.bounds old.held (Child (Bid sender number demand)) after) relay_reply_limit relay_reply_limit out longer (omega arith)
    (λ outs writes. inl (keeps, writes)) a)

-- a bid beyond the bound of its child is answered TooMuch, and changes nothing
pub is_beyond : (old : OpenRelay) (sender number : ℕ) (demand : List ℤ) (out longer : List ℕ) → ¬ KeepsBound old.bounds sender demand →
    longer ≡ out ++ too_much_bytes sender number →
    Appended (relay_bytes old.setup) (WritesOpenRelay old (Child (Bid sender number demand)) old) relay_reply_limit out longer
is_beyond old sender number demand out longer beyond written =
    opened old (Child (Bid sender number demand)) old.held out longer refl
    (says relay_resume_bytes old.setup.basis old.setup.child (WritesRelay old.setup old.bounds old.held (Child (Bid sender number demand)) old.held)
    relay_reply_limit out longer (too_much_bytes sender number) written (omega arith) (inr (beyond, (refl, refl))))

-- ---- of the relay that it holds

module _ (own : RelaySetup) (old : WaitingRelay) where
  -- a price of its basis
  pub is_told : (price : PriceUpdate) (basis : BasisValue) (after : WaitingRelay) (out longer : List ℕ) → basis ≡ own.basis →
      Appended (relay_bytes own) (WritesPrice own old price after) price_reply_limit out longer →
      Appended (relay_bytes own) (WritesTold own old price basis after) relay_reply_limit out longer
  is_told price basis after out longer same a =
      mapped (relay_bytes own) (WritesPrice own old price after) (WritesTold own old price basis after) price_reply_limit relay_reply_limit out longer
      (omega arith) (λ outs writes. inl (same, writes)) a

  -- a price of another basis is answered OtherBasis, and changes nothing
  pub is_other : (price : PriceUpdate) (basis : BasisValue) (out longer : List ℕ) → ¬ (basis ≡ own.basis) →
      longer ≡ out ++ other_basis_bytes price.number price.index →
      Appended (relay_bytes own) (WritesTold own old price basis old) relay_reply_limit out longer
  is_other price basis out longer other written =
      says relay_resume_bytes own.basis own.child (WritesTold own old price basis old) relay_reply_limit out longer
      (other_basis_bytes price.number price.index) written (omega arith) (inr (other, (refl, refl)))

  -- limits
  pub is_given : (giver number : ℕ) (limits : Limits) (after : WaitingRelay) (out longer : List ℕ) → own.terms.giver ≡ Some giver →
      Appended (relay_bytes own) (WritesLimits own old giver number limits after) relay_reply_limit out longer →
      Appended (relay_bytes own) (WritesGiven own.terms.giver own old number limits after) relay_reply_limit out longer
  is_given giver number limits after out longer is a =
      subst (λ (g : Option ℕ). Appended (relay_bytes own) (WritesGiven g own old number limits after) relay_reply_limit out longer) (sym is) a

  -- a relay that no device gives limits takes none, and answers nothing
  pub is_fixed : (number : ℕ) (limits : Limits) (out : List ℕ) → own.terms.giver ≡ None →
      Appended (relay_bytes own) (WritesGiven own.terms.giver own old number limits old) relay_reply_limit out out
  is_fixed number limits out is =
      subst (λ (g : Option ℕ). Appended (relay_bytes own) (WritesGiven g own old number limits old) relay_reply_limit out out) (sym is)
      (says_nothing relay_resume_bytes own.basis own.child (WritesGiven None own old number limits old) relay_reply_limit out (refl, refl))

  -- ---- a restart

  pub keeps_none : (stored : StoredRelay) (out : List ℕ) → own.terms.giver ≡ None →
      Appended (relay_bytes own) (WritesKept own.terms.giver own old stored old) relay_reply_limit out out
  keeps_none stored out is =
      subst (λ (g : Option ℕ). Appended (relay_bytes own) (WritesKept g own old stored old) relay_reply_limit out out) (sym is)
      (says_nothing relay_resume_bytes own.basis own.child (WritesKept None own old stored old) relay_reply_limit out (refl, refl))

  -- a relay that kept no number of its giver was given no limits, and takes none when it comes back
  pub was_given_none : (giver : ℕ) (stored : StoredRelay) (out : List ℕ) → own.terms.giver ≡ Some giver →
      child_number stored.numbers (sender_place giver) ≡ 0 →
      Appended (relay_bytes own) (WritesKept own.terms.giver own old stored old) relay_reply_limit out out
  was_given_none giver stored out is none =
      subst (λ (g : Option ℕ). Appended (relay_bytes own) (WritesKept g own old stored old) relay_reply_limit out out) (sym is)
      (says_nothing relay_resume_bytes own.basis own.child (WritesKept (Some giver) own old stored old) relay_reply_limit out (inl (none, (refl, refl))))

  -- a relay that kept a number of its giver takes the limits that it kept under this number
  pub was_given : (giver number : ℕ) (stored : StoredRelay) (limits : Limits) (after : WaitingRelay) (out longer : List ℕ) →
      own.terms.giver ≡ Some giver →
      number ≡ child_number stored.numbers (sender_place giver) → limits ≡ stored.limits → 0 < number →
      Appended (relay_bytes own) (WritesGiven own.terms.giver own old number limits after) relay_reply_limit out longer →
      Appended (relay_bytes own) (WritesKept own.terms.giver own old stored after) relay_reply_limit out longer
  was_given giver number stored limits after out longer is same kept some a =
      let at = child_number stored.numbers (sender_place giver) in
      subst (λ (g : Option ℕ). Appended (relay_bytes own) (WritesKept g own old stored after) relay_reply_limit out longer) (sym is)
      (mapped (relay_bytes own) (WritesGiven own.terms.giver own old number limits after) (WritesKept (Some giver) own old stored after)
      relay_reply_limit relay_reply_limit out longer (omega arith)
      (λ outs writes. inr (
        subst (λ (n : ℕ). 0 < n) same some,
        subst (λ (l : Limits). WritesLimits own old giver at l after outs) kept
            (subst (λ (n : ℕ). WritesLimits own old giver n limits after outs) same
            (subst (λ (g : Option ℕ). WritesGiven g own old number limits after outs) is writes)),
      )) a)

-- a relay that comes back with what it kept, and then takes the limits that it kept, answers Resume
pub comes_back : (old : OpenRelay) (back : WaitingRelay) (stored : StoredRelay) (after : WaitingRelay) (out longer : List ℕ) →
    Opens old.setup.terms.limits old.setup.basis.steps stored.last stored.answered stored.index stored.numbers stored.limits back →
    Appended (relay_bytes old.setup) (WritesKept old.setup.terms.giver old.setup back stored after) relay_reply_limit out longer →
    Appended (relay_bytes old.setup) (WritesOpenRelay old (Resume stored) (with_held old after)) relay_reply_limit out longer
comes_back old back stored after out longer opens a =
    opened old (Resume stored) after out longer refl
    (mapped (relay_bytes old.setup) (WritesKept old.setup.terms.giver old.setup back stored after)
    (WritesRelay old.setup old.bounds old.held (Resume stored) after) relay_reply_limit relay_reply_limit out longer (omega arith)
    (λ outs writes. record { back = back; opens = opens; learns = writes }) a)
