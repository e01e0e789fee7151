-- A ring of records: what its places are for the numbers that are kept.
use Rattle.std.proofs.Common.{◌≡◌, ◌∙◌, sym, ap, subst, ℕ, ◌+◌, ◌-◌, ◌%◌, ◌<◌, ◌≤◌, zero, suc, ℤ, List, length, get_or}
use Rattle.std.proofs.Common.{Option, Some, None, refl, arith, get_or-set_same, get_or-set_other, inl, inr}
use Rattle.std.proofs.Math.ListN.{set, length-set}
use Rattle.std.proofs.lemmas.Bool.{cases_eq}
use Rattle.std.proofs.lemmas.List.{get_or_read}
use Rattle.pm_base.specs.Limits.{window_size}
use Rattle.pm_session.specs.Windows.{Sent, Keeps, Fits, steps_of, record_of, newest_record, no_record, RecordSent, RecordAnswered, IsWindow, WindowValue}
use Rattle.pm_session.specs.WindowFields.{ring_size, record_in, records_from, IsRing, window_of}
use Rattle.pm_session.specs.declared.window.Window.TheInside.{Inside}

-- a window by its parts
abbrev pub window_from : ℕ → Option ℕ → List Sent → ℕ → ℕ → WindowValue
window_from children steps places answered last = record {
  children = children;
  steps = steps;
  records = records_from places answered (last - answered + 1);
  answered = answered;
  last = last;
}

records_from-at : (places : List Sent) (number count i : ℕ) → i < count → get_or (records_from places number count) i no_record
    ≡ record_in places (number + i)
records_from-at places number zero i inside = absurd (let none : ⊥ = omega (arith, inside) in none)
records_from-at places number (suc count) zero inside = ap (λ (n : ℕ). record_in places n) (omega arith)
records_from-at places number (suc count) (suc i) inside =
    records_from-at places (number + 1) count i (omega (arith, inside)) ∙ ap (λ (n : ℕ). record_in places n) (omega arith)

-- the record of a number that is kept stands in its place
pub record_kept : (children : ℕ) (steps : Option ℕ) (places : List Sent) (answered last number : ℕ) → answered ≤ number →
    number ≤ last → record_of (window_from children steps places answered last) number ≡ record_in places number
record_kept children steps places answered last number from to =
    records_from-at places answered (last - answered + 1) (number - answered) (omega (arith, from, to))
    ∙ ap (λ (n : ℕ). record_in places n) (omega (arith, from))

-- the places with a record more
abbrev pub with_record : List Sent → Sent → List Sent
with_record places sent = set places (sent.number % ring_size) sent

other_place : (n m : ℕ) → n < m → m ≤ n + window_size → n % ring_size ≡ m % ring_size → ⊥
other_place n m lt le e = omega arith

record_at : (places : List Sent) (sent : Sent) (n : ℕ) → length places ≡ ring_size → n % ring_size ≡ sent.number % ring_size →
    record_in (with_record places sent) n ≡ sent
record_at places sent n size same =
    ap (λ (place : ℕ). get_or (with_record places sent) place no_record) same ∙
    get_or-set_same places (sent.number % ring_size) sent no_record (omega (arith, size))

record_other : (places : List Sent) (sent : Sent) (n : ℕ) → (n % ring_size ≡ sent.number % ring_size → ⊥) →
    record_in (with_record places sent) n ≡ record_in places n
record_other places sent n differs = get_or-set_other places (sent.number % ring_size) (n % ring_size) sent no_record differs

-- what the ring keeps beside the window
pub record Ring (children : ℕ) (steps : Option ℕ) (places : List Sent) (answered last : ℕ) : Type 0 where
  -- there is a place for the number answered last and one for each that may be unanswered
  pub size : length places ≡ ring_size
  -- the record in the place of any number has the window's children, and a sum where the window keeps sums
  pub each : (number : ℕ) → Fits (window_from children steps places answered last) (record_in places number)
  -- the window that the places give is sound
  pub sound : IsWindow (window_from children steps places answered last)

-- what is read from a place
pub read_in : (places : List Sent) (number : ℕ) (read : Sent) → length places ≡ ring_size → read ≡ get_or places (number % ring_size) read →
    read ≡ record_in places number
read_in places number read size is = get_or_read places (number % ring_size) read (omega (arith, size)) is no_record

no_steps : (sum : Option (List ℤ)) → steps_of sum ≡ None → sum ≡ None
no_steps None e = refl
no_steps (Some sum) e = cc

-- what the fields of a window keep is a ring of their places
pub ring_of : (inside : Inside) → IsRing inside → Ring inside.children inside.steps inside.places.items inside.answered inside.last
ring_of inside is = record { size = is.size; each = is.each; sound = is.sound }

-- a window without sums has no sum in any place
pub no_sum_read : (inside : Inside) (value : WindowValue) (number : ℕ) (read : Sent) → IsRing inside → window_of inside ≡ value →
    value.steps ≡ None →
    read ≡ get_or inside.places.items (number % ring_size) read → read.sum ≡ None
no_sum_read inside value number read ring is none at =
    no_steps read.sum (ap (λ r. steps_of r.sum) (read_in inside.places.items number read ring.size at) ∙ (ring.each number).steps
    ∙ ap (λ w. w.steps) is ∙ none)

-- the newest record
pub newest_kept : (children : ℕ) (steps : Option ℕ) (places : List Sent) (answered last : ℕ) →
    Ring children steps places answered last → record_in places last ≡ newest_record (window_from children steps places answered last)
newest_kept children steps places answered last ring = sym (record_kept children steps places answered last last ring.sound.order (omega arith))

-- a record is sent under the next number
module _ (children : ℕ) (steps : Option ℕ) (places : List Sent) (answered last : ℕ) (sent : Sent) (ring : Ring children steps places answered last)
    (room : last - answered < window_size) (next : sent.number ≡ last + 1) where
  is : IsWindow (window_from children steps places answered last)
  is = ring.sound

  abbrev after : WindowValue
  after = window_from children steps (with_record places sent) answered sent.number

  newest_at : record_of after sent.number ≡ sent
  newest_at = record_kept children steps (with_record places sent) answered sent.number sent.number (omega (arith, is.order, next)) (omega arith) ∙
      record_at places sent sent.number ring.size refl

  older_at : (n : ℕ) → answered ≤ n → n ≤ last → record_of after n ≡ record_of (window_from children steps places answered last) n
  older_at n from to =
      record_kept children steps (with_record places sent) answered sent.number n from (omega (arith, next, to))
      ∙ record_other places sent n (λ e. other_place n sent.number (omega (arith, next, to)) (omega (arith, next, from, to, is.few)) e)
      ∙ sym (record_kept children steps places answered last n from to)

  -- where the window has room, a record sent under the next number is added, and those that are kept stay
  pub record_sent : RecordSent (window_from children steps places answered last) after sent
  record_sent = record {
    at = newest_at;
    others = λ n keeps. older_at n keeps.from keeps.to;
    last = refl;
    answered = refl;
    children = refl;
    steps = refl;
  }

  -- where the window has room, the ring stays one with a fitting record sent under the next number
  pub ring_sent : Fits (window_from children steps places answered last) sent → Ring children steps (with_record places sent) answered sent.number
  ring_sent fits =
      let fits' : Fits after sent = record { children = fits.children; steps = fits.steps } in
      let P : Sent → Type 0 = λ r. Fits after r in
      record {
        size = length-set places (sent.number % ring_size) sent ∙ ring.size;
        each = λ n.
            elim (cases_eq (n % ring_size) (sent.number % ring_size)) [
              | inl e ↦ subst P (sym (record_at places sent n ring.size e)) fits'
              | inr ne ↦ subst P (sym (record_other places sent n ne)) (record { children = (ring.each n).children; steps = (ring.each n).steps })
            ];
        sound = record {
          order = omega (arith, is.order, next);
          few = omega (arith, is.few, is.order, room, next);
          fits = λ n from to.
              elim (cases_eq n sent.number) [
                | inl e ↦ subst P (sym (ap (λ (i : ℕ). record_of after i) e ∙ newest_at)) fits'
                | inr ne ↦
                    let to' : n ≤ last = omega (arith, to, next, ne) in
                    subst P (sym (older_at n from to')) (record { children = (is.fits n from to').children; steps = (is.fits n from to').steps })
              ];
          numbers = λ n keeps.
              elim (cases_eq n sent.number) [
                | inl e ↦ ap (λ (i : ℕ). (record_of after i).number) e ∙ ap (λ r. r.number) newest_at ∙ sym e
                | inr ne ↦
                    let old : Keeps (window_from children steps places answered last) n =
                    record { one = keeps.one; from = keeps.from; to = omega (arith, keeps.to, next, ne) } in
                    ap (λ r. r.number) (older_at n old.from old.to) ∙ is.numbers n old
              ];
          opening = λ e. absurd (let none : ⊥ = omega (arith, next, e) in none);
        };
      }

-- a number that is kept is answered
module _ (children : ℕ) (steps : Option ℕ) (places : List Sent) (answered last number : ℕ)
    (ring : Ring children steps places answered last) (keeps : Keeps (window_from children steps places answered last) number) where
  abbrev rest : WindowValue
  rest = window_from children steps places number last

  same_at : (n : ℕ) → number ≤ n → n ≤ last → record_of rest n ≡ record_of (window_from children steps places answered last) n
  same_at n from to =
      record_kept children steps places number last n from to
      ∙ sym (record_kept children steps places answered last n (omega (arith, from, keeps.from)) to)

  -- once a number that is kept is answered, the records from it on are still as they were
  pub record_answered : RecordAnswered (window_from children steps places answered last) rest number
  record_answered = record {
    answered = refl;
    records = λ n kept. same_at n kept.from kept.to;
    last = refl;
    children = refl;
    steps = refl;
  }

  -- once a number that is kept is answered, the ring stays one with the same places
  pub ring_answered : Ring children steps places number last
  ring_answered =
      let P : Sent → Type 0 = λ r. Fits rest r in
      record {
        size = ring.size;
        each = λ n. record { children = (ring.each n).children; steps = (ring.each n).steps };
        sound = record {
          order = keeps.to;
          few = omega (arith, ring.sound.few, keeps.from);
          fits = λ n from to.
              let old = ring.sound.fits n (omega (arith, from, keeps.from)) to in
              subst P (sym (same_at n from to)) (record { children = old.children; steps = old.steps });
          numbers = λ n kept.
              let old : Keeps (window_from children steps places answered last) n =
              record { one = kept.one; from = omega (arith, kept.from, keeps.from); to = kept.to } in
              ap (λ r. r.number) (same_at n kept.from kept.to) ∙ ring.sound.numbers n old;
          opening = λ e. absurd (let none : ⊥ = omega (arith, keeps.one, keeps.to, e) in none);
        };
      }

  -- the record in the place of a number that is kept is the window's record of that number
  pub record_given : record_in places number ≡ record_of (window_from children steps places answered last) number
  record_given = sym (record_kept children steps places answered last number keeps.from keeps.to)

-- what is read from the place of a number that is kept
pub record IsKept (window : WindowValue) (number' : ℕ) (read : Sent) : Type 0 where
  -- it is the window's record of that number
  pub sent : read ≡ record_of window number'
  -- it has the window's children, and a sum where the window keeps sums
  pub fits : Fits window read
  -- it has that number
  pub number : read.number ≡ number'

kept_inside : (inside : Inside) (number : ℕ) (read : Sent) → IsRing inside → Keeps (window_of inside) number →
    read ≡ get_or inside.places.items (number % ring_size) read → IsKept (window_of inside) number read
kept_inside inside number read is keeps at =
    let ring = ring_of inside is in
    let place = read_in inside.places.items number read is.size at in
    let sent = place ∙ record_given inside.children inside.steps inside.places.items inside.answered inside.last number ring keeps in
    record {
      sent = sent;
      fits = subst (λ (r : Sent). Fits (window_of inside) r) (sym place) (is.each number);
      number = ap (λ r. r.number) sent ∙ is.sound.numbers number keeps;
    }

-- where the number is kept, what is read from its place is its record
pub is_kept : (inside : Inside) (window : WindowValue) (number : ℕ) (read : Sent) → IsRing inside → window_of inside ≡ window →
    Keeps window number → read ≡ get_or inside.places.items (number % ring_size) read → IsKept window number read
is_kept inside window number read is view keeps at =
    subst (λ (w : WindowValue). IsKept w number read) view
    (kept_inside inside number read is (subst (λ (w : WindowValue). Keeps w number) (sym view) keeps) at)
