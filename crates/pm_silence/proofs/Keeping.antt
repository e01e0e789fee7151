-- Each event keeps a lease sound.
use Rattle.std.proofs.Common.{◌≡◌, ◌∙◌, sym, ap, subst, refl, ℕ, ◌+◌, ◌<◌, ◌≤◌, Bool, true, Option, Some, None, List}
use Rattle.std.proofs.Common.{arith, ltb, leb, eqb, ◌&&◌, ◌-◌, ◌⊎◌, inl, inr, le_trans}
use Rattle.std.proofs.lemmas.Bool.{ltb-true, leb-true, eqb-true, and_parts, or_cases, true≢false, cases_lt, cond-true, cond-false, cond_both, lt-ltb, le-ltb}
use Rattle.std.proofs.lemmas.Bool.Decides.{nat_tests}
use Rattle.pm_silence.specs.declared.words.Word.{Word}
use Rattle.pm_silence.specs.declared.placing.ChildPlace.{ChildPlace}
use Rattle.pm_silence.specs.Clocks.{Clocks, AreClocks}
use Rattle.pm_silence.specs.Holding.{with_next_bid, word_of, later, fallen}
use Rattle.pm_silence.specs.Placing.{is_news, latest, place_emptied, heard_leave, is_overdue, place_looked_at}
use Rattle.pm_silence.specs.Leases.{LeaseState, LeaseEvent, Frame, WordFrame, LeaveFrame, Tick, Stamped, one_of, with_hold, with_place, with_frame}
use Rattle.pm_silence.specs.Leases.{time_passed, said_word, having_left, control_started, answer_came, word_arrived, leave_arrived, word_answered}
use Rattle.pm_silence.specs.Leases.{frame_handled, handled_one, begun_anew, state_after_event}
use Rattle.pm_silence.specs.Leases.{Passes, Says, Bids, Falls, Leaves, Starts, Comes, Arrives, LeaveArrives, Ticks, Handles, Restarts}
use Rattle.pm_silence.proofs.Counting.{over_by_then}
use Rattle.pm_silence.proofs.Sound.{Every, If, weaker, weaker_if, at_picked, of_option, IsGood, IsWord, IsFrame, IsStamped, IsAnswer, IsHeld, good_in, IsSound}

-- a good moment stays good as time passes, and as more is heard and answered
good_later : (e grace validity : ℕ) (clock : ℕ → ℕ) (time time' heard heard' answered answered' : ℕ) (counts : Bool) →
    clock time ≤ clock time' → heard ≤ heard' → answered ≤ answered' → (x : ℕ) →
    IsGood e grace validity clock time heard answered counts x → IsGood e grace validity clock time' heard' answered' counts x
good_later e grace validity clock time time' heard heard' answered answered' counts t h a x g = record {
  at = g.at;
  shows = g.shows;
  answered = le_trans g.answered a;
  heard = le_trans g.heard h;
  over = λ enough c. le_trans (g.over enough c) t;
}

-- of answers and holds that are good
answers_as : (P Q : ℕ → Type 0) (floor number number' : ℕ) → ((x : ℕ) → P x → Q x) → number ≤ number' → (xs : List Word) →
    Every (IsAnswer P floor number) xs → Every (IsAnswer Q floor number') xs
answers_as P Q floor number number' f n xs all =
    weaker (IsAnswer P floor number) (IsAnswer Q floor number') (λ a is. (le_trans is.0 n, λ above. f a.said (is.1 above))) xs all

held_as : (P Q : ℕ → Type 0) (floor number number' : ℕ) → ((x : ℕ) → P x → Q x) → number ≤ number' → (o : Option ℕ) →
    If (IsHeld P floor number) o → If (IsHeld Q floor number') o
held_as P Q floor number number' f n o it =
    weaker_if (IsHeld P floor number) (IsHeld Q floor number')
    (λ s is. record { under = is.under; above = is.above; within = le_trans is.within n; sound = f s is.sound }) o it

-- no answer is of a stay that begins above all numbers that were heard
answers_over : (P Q : ℕ → Type 0) (floor floor' number : ℕ) → number ≤ floor' → (xs : List Word) →
    Every (IsAnswer P floor number) xs → Every (IsAnswer Q floor' number) xs
answers_over P Q floor floor' number over xs all =
    weaker (IsAnswer P floor number) (IsAnswer Q floor' number) (λ a is. (is.0, λ above. absurd (omega (arith, is.0, above, over)))) xs all

words_over : (clock clock' : ℕ → ℕ) (time floor floor' number number' : ℕ) → number ≤ floor' → number ≤ number' → (ws : List Word) →
    Every (IsWord clock time floor number) ws → Every (IsWord clock' time floor' number') ws
words_over clock clock' time floor floor' number number' over n ws all =
    weaker (IsWord clock time floor number) (IsWord clock' time floor' number')
    (λ w is. (le_trans is.0 n, λ above. absurd (omega (arith, is.0, above, over)))) ws all

-- a frame that says less, or nothing of this stay
frame_as : (clock clock' : ℕ → ℕ) (moment floor floor' number number' : ℕ) →
    ((w : Word) → IsWord clock moment floor number w → IsWord clock' moment floor' number' w) →
    floor ≤ floor' → (f : Frame) → IsFrame clock moment floor number f → IsFrame clock' moment floor' number' f
frame_as clock clock' moment floor floor' number number' of_words more (WordFrame w) is = of_words w is
frame_as clock clock' moment floor floor' number number' of_words more (LeaveFrame g) is = le_trans is more
frame_as clock clock' moment floor floor' number number' of_words more Tick is = tt

frames_as : (clock clock' : ℕ → ℕ) (time time' floor floor' number number' : ℕ) → time ≤ time' →
    ((moment : ℕ) (w : Word) → IsWord clock moment floor number w → IsWord clock' moment floor' number' w) →
    floor ≤ floor' → (fs : List Stamped) → Every (IsStamped clock time floor number) fs → Every (IsStamped clock' time' floor' number') fs
frames_as clock clock' time time' floor floor' number number' later of_words more fs all =
    weaker (IsStamped clock time floor number) (IsStamped clock' time' floor' number')
    (λ s is. record {
      read = le_trans is.read later;
      says = frame_as clock clock' s.moment floor floor' number number'
          (of_words s.moment) more s.frame is.says;
    }) fs all

-- while real time passes a lease stays sound
pub passing : (e grace validity : ℕ) (clocks : Clocks) → AreClocks e clocks → (w : LeaseState) → IsSound e grace validity clocks w → (d : ℕ) →
    IsSound e grace validity clocks (time_passed w d)
passing e grace validity clocks are w s d =
    let clock : ℕ → ℕ = clocks.control w.life in
    let more : w.time ≤ w.time + d = omega arith in
    let later_on : (x : ℕ) → good_in e grace validity clocks w x → good_in e grace validity clocks (time_passed w d) x =
    λ x g. good_later e grace validity clock w.time (w.time + d) w.heard_at w.heard_at w.answered_at w.answered_at w.place.counts
    ((are.control w.life).rises w.time d) (omega arith) (omega arith) x g in
    record {
      times = le_trans s.times more;
      answered = le_trans s.answered more;
      counting = s.counting;
      floor = s.floor;
      number = s.number;
      words =
          weaker (IsWord clock w.time w.hold.floor w.hold.number) (IsWord clock (w.time + d) w.hold.floor w.hold.number)
          (λ word is. (is.0, λ above. let was = is.1 above in record { at = was.at; shows = was.shows; before = le_trans was.before more })) w.words s.words;
      answers = answers_as (good_in e grace validity clocks w)
          (good_in e grace validity clocks (time_passed w d)) w.hold.floor w.place.number w.place.number later_on (omega arith) w.answers s.answers;
      leaves = s.leaves;
      frames = frames_as clock clock w.time (w.time + d) w.hold.floor w.hold.floor w.hold.number w.hold.number more (λ moment word is. is)
          (omega arith) w.frames s.frames;
      since = held_as (good_in e grace validity clocks w)
          (good_in e grace validity clocks (time_passed w d)) w.hold.floor w.place.number w.place.number later_on (omega arith) w.hold.since s.since;
    }

saying : (e grace validity : ℕ) (clocks : Clocks) (w : LeaseState) → IsSound e grace validity clocks w → (ago : ℕ) →
    IsSound e grace validity clocks (said_word w (word_of w.hold (clocks.control w.life (w.time - ago))))
saying e grace validity clocks w s ago =
    cond_both (ltb w.hold.floor w.hold.number)
    (Some (record { number = w.hold.number; said = clocks.control w.life (w.time - ago) })) None (λ o. IsSound e grace validity clocks (said_word w o))
    (λ takes_part. record {
      times = s.times;
      answered = s.answered;
      counting = s.counting;
      floor = s.floor;
      number = s.number;
      words = ((omega arith, λ above. record { at = w.time - ago; shows = refl; before = omega arith }), s.words);
      answers = s.answers;
      leaves = s.leaves;
      frames = s.frames;
      since = s.since;
    })
    (λ _. s)

bidding : (e grace validity : ℕ) (clocks : Clocks) (w : LeaseState) → IsSound e grace validity clocks w →
    IsSound e grace validity clocks (with_hold w (with_next_bid w.hold))
bidding e grace validity clocks w s =
    let more : w.hold.number ≤ w.hold.number + 1 = omega arith in
    let clock : ℕ → ℕ = clocks.control w.life in
    record {
      times = s.times;
      answered = s.answered;
      counting = s.counting;
      floor = le_trans s.floor more;
      number = le_trans s.number more;
      words =
          weaker (IsWord clock w.time w.hold.floor w.hold.number) (IsWord clock w.time w.hold.floor (w.hold.number + 1))
          (λ word is. (le_trans is.0 more, is.1)) w.words s.words;
      answers = s.answers;
      leaves = s.leaves;
      frames = frames_as clock clock w.time w.time w.hold.floor w.hold.floor w.hold.number (w.hold.number + 1) (omega arith)
          (λ moment word is. (le_trans is.0 more, is.1)) (omega arith) w.frames s.frames;
      since = s.since;
    }

falling : (e grace validity : ℕ) (clocks : Clocks) (w : LeaseState) → IsSound e grace validity clocks w →
    IsSound e grace validity clocks (with_hold w (fallen w.hold))
falling e grace validity clocks w s = record {
  times = s.times;
  answered = s.answered;
  counting = s.counting;
  floor = s.floor;
  number = s.number;
  words = s.words;
  answers = s.answers;
  leaves = s.leaves;
  frames = s.frames;
  since = tt;
}

leaving : (e grace validity : ℕ) (clocks : Clocks) (w : LeaseState) → IsSound e grace validity clocks w → IsSound e grace validity clocks (having_left w)
leaving e grace validity clocks w s =
    let more : w.hold.number ≤ w.hold.number + 1 = omega arith in
    let clock : ℕ → ℕ = clocks.control w.life in
    let good : ℕ → Type 0 = good_in e grace validity clocks w in
    record {
      times = s.times;
      answered = s.answered;
      counting = s.counting;
      floor = omega arith;
      number = le_trans s.number more;
      words = words_over clock clock w.time w.hold.floor (w.hold.number + 1) w.hold.number (w.hold.number + 1) more more w.words s.words;
      answers = answers_over good good w.hold.floor (w.hold.number + 1) w.place.number (le_trans s.number more) w.answers s.answers;
      leaves = (
        omega arith,
        weaker (λ g. g ≤ w.hold.floor) (λ g. g ≤ w.hold.number + 1) (λ g is. omega (arith, is, s.floor)) w.leaves s.leaves,
      );
      frames = frames_as clock clock w.time w.time w.hold.floor (w.hold.number + 1) w.hold.number (w.hold.number + 1) (omega arith)
          (λ moment word is. (le_trans is.0 more, λ above. absurd (omega (arith, is.0, above)))) (le_trans s.floor more) w.frames s.frames;
      since = tt;
    }

starting : (e grace validity : ℕ) (clocks : Clocks) (w : LeaseState) → IsSound e grace validity clocks w → IsSound e grace validity clocks
    (control_started w)
starting e grace validity clocks w s =
    record {
      times = s.times;
      answered = s.answered;
      counting = s.counting;
      floor = omega arith;
      number = s.number;
      words = words_over (clocks.control w.life) (clocks.control (w.life + 1)) w.time w.hold.floor w.hold.number w.hold.number w.hold.number
          (omega arith) (omega arith) w.words s.words;
      answers = answers_over (good_in e grace validity clocks w)
          (good_in e grace validity clocks (control_started w)) w.hold.floor w.hold.number w.place.number s.number w.answers s.answers;
      leaves = weaker (λ g. g ≤ w.hold.floor) (λ g. g ≤ w.hold.number) (λ g is. le_trans is s.floor) w.leaves s.leaves;
      frames = frames_as (clocks.control w.life) (clocks.control (w.life + 1)) w.time w.time w.hold.floor w.hold.number w.hold.number w.hold.number
          (omega arith)
          (λ moment word is. (is.0, λ above. absurd (omega (arith, is.0, above)))) s.floor w.frames s.frames;
      since = tt;
    }

-- the later of what was held by and an answer of this stay
later_held : (good : ℕ → Type 0) (floor number : ℕ) (o : Option ℕ) (a : Word) → If (IsHeld good floor number) o → floor < a.number →
    IsAnswer good floor number a → IsHeld good floor number (later o a.said)
later_held good floor number None a it above is = record { under = a.number; above = above; within = is.0; sound = is.1 above }
later_held good floor number (Some s) a it above is =
    cond_both (ltb s a.said) a.said s (IsHeld good floor number)
    (λ _. record { under = a.number; above = above; within = is.0; sound = is.1 above })
    (λ _. it)

coming : (e grace validity : ℕ) (clocks : Clocks) (w : LeaseState) → IsSound e grace validity clocks w → (k : ℕ) →
    IsSound e grace validity clocks (answer_came w (one_of w.answers k))
coming e grace validity clocks w s k =
    let good : ℕ → Type 0 = good_in e grace validity clocks w in
    of_option (λ o. IsSound e grace validity clocks (answer_came w o)) (IsAnswer good w.hold.floor w.place.number) (one_of w.answers k)
    (at_picked (IsAnswer good w.hold.floor w.place.number) w.answers k s.answers)
    s
    (λ a is. cond_both (ltb w.hold.floor a.number)
    (record { number = w.hold.number; floor = w.hold.floor; since = Some (later w.hold.since a.said) }) w.hold
    (λ h. IsSound e grace validity clocks (with_hold w h))
    (λ above. record {
      times = s.times;
      answered = s.answered;
      counting = s.counting;
      floor = s.floor;
      number = s.number;
      words = s.words;
      answers = s.answers;
      leaves = s.leaves;
      frames = s.frames;
      since = later_held good w.hold.floor w.place.number w.hold.since a s.since (ltb-true _ _ above) is;
    })
    (λ _. s))

-- a frame is written to the parent
stamping : (e grace validity : ℕ) (clocks : Clocks) (w : LeaseState) → IsSound e grace validity clocks w → (f : Frame) →
    IsFrame (clocks.control w.life) w.time w.hold.floor w.hold.number f → IsSound e grace validity clocks (with_frame w f)
stamping e grace validity clocks w s f is = record {
  times = s.times;
  answered = s.answered;
  counting = s.counting;
  floor = s.floor;
  number = s.number;
  words = s.words;
  answers = s.answers;
  leaves = s.leaves;
  frames = (record { read = omega arith; says = is }, s.frames);
  since = s.since;
}

arriving : (e grace validity : ℕ) (clocks : Clocks) (w : LeaseState) → IsSound e grace validity clocks w → (k : ℕ) →
    IsSound e grace validity clocks (word_arrived w (one_of w.words k))
arriving e grace validity clocks w s k =
    let Is : Word → Type 0 = IsWord (clocks.control w.life) w.time w.hold.floor w.hold.number in
    of_option (λ o. IsSound e grace validity clocks (word_arrived w o)) Is (one_of w.words k) (at_picked Is w.words k s.words) s
    (λ word is. stamping e grace validity clocks w s (WordFrame word) is)

leave_arriving : (e grace validity : ℕ) (clocks : Clocks) (w : LeaseState) → IsSound e grace validity clocks w → (k : ℕ) →
    IsSound e grace validity clocks (leave_arrived w (one_of w.leaves k))
leave_arriving e grace validity clocks w s k =
    of_option (λ o. IsSound e grace validity clocks (leave_arrived w o)) (λ g. g ≤ w.hold.floor) (one_of w.leaves k)
    (at_picked (λ g. g ≤ w.hold.floor) w.leaves k s.leaves) s
    (λ g is. stamping e grace validity clocks w s (LeaveFrame g) is)

-- news has no smaller number
news_rises : (p : ChildPlace) (word : Word) → is_news p word ≡ true → p.number ≤ word.number
news_rises p word news =
    elim (or_cases (ltb p.number word.number) (p.counts && eqb p.number word.number && ltb p.said word.said) news) as (λ _. p.number ≤ word.number) [
      | inl above ↦ let h = ltb-true p.number word.number above in omega (arith, h)
      | inr same ↦
          let two = and_parts (p.counts && eqb p.number word.number) (ltb p.said word.said) same in
          let one = and_parts p.counts (eqb p.number word.number) two.0 in
          let h = eqb-true p.number word.number one.1 in
          omega (arith, h)
    ]

-- a clock that only rises shows the later of two readings at the later of two moments
pub rises_to : (clock : ℕ → ℕ) → ((s d : ℕ) → clock s ≤ clock (s + d)) → (a b : ℕ) → a ≤ b → clock a ≤ clock b
rises_to clock rises a b less = subst (λ (x : ℕ). clock a ≤ clock x) (omega (arith, less)) (rises a (b - a))

latest_first : (a b : ℕ) → a ≤ latest a b
latest_first a b = grind (arith, nat_tests)

latest_second : (a b : ℕ) → b ≤ latest a b
latest_second a b = grind (arith, nat_tests)

latest_within : (a b c : ℕ) → a ≤ c → b ≤ c → latest a b ≤ c
latest_within a b c p q = grind (arith, nat_tests)

latest_is : (a b : ℕ) → ((a < b) × (latest a b ≡ b)) ⊎ ((b ≤ a) × (latest a b ≡ a))
latest_is a b = elim (cases_lt a b) as (λ _. ((a < b) × (latest a b ≡ b)) ⊎ ((b ≤ a) × (latest a b ≡ a))) [
  | inl less ↦ inl (less, cond-true (ltb a b) b a (lt-ltb a b less))
  | inr more ↦ inr (more, cond-false (ltb a b) b a (le-ltb a b more))
]

latest_shows : (clock : ℕ → ℕ) → ((s d : ℕ) → clock s ≤ clock (s + d)) → (a b x : ℕ) → x ≡ clock a → latest x (clock b)
    ≡ clock (latest a b)
latest_shows clock rises a b x at =
    elim (latest_is a b) as (λ _. latest x (clock b) ≡ clock (latest a b)) [
      | inl is ↦
          let up = rises_to clock rises a b (omega (arith, is.0)) in
          elim (latest_is x (clock b)) as (λ _. latest x (clock b) ≡ clock (latest a b)) [
            | inl it ↦ it.1 ∙ ap clock (sym is.1)
            | inr it ↦ it.1 ∙ (omega (arith, it.0, up, at) ∙ ap clock (sym is.1))
          ]
      | inr is ↦
          let up = rises_to clock rises b a is.0 in
          elim (latest_is x (clock b)) as (λ _. latest x (clock b) ≡ clock (latest a b)) [
            | inl it ↦ absurd (omega (arith, it.0, up, at))
            | inr it ↦ it.1 ∙ (at ∙ ap clock (sym is.1))
          ]
    ]

hearing : (e grace validity : ℕ) (clocks : Clocks) → AreClocks e clocks → (w : LeaseState) → IsSound e grace validity clocks w →
    (used : ℕ) (word : Word) (moment : ℕ) →
    moment ≤ w.time → IsWord (clocks.control w.life) moment w.hold.floor w.hold.number word →
    IsSound e grace validity clocks (frame_handled clocks grace w used (WordFrame word) moment)
hearing e grace validity clocks are w s used word moment read is =
    let good : ℕ → Type 0 = good_in e grace validity clocks w in
    cond_both (is_news w.place word) (word_answered clocks w used word moment) w (λ v. IsSound e grace validity clocks v)
    (λ news.
    let good' : ℕ → Type 0 = good_in e grace validity clocks (word_answered clocks w used word moment) in
    let still : (x : ℕ) → good x → good' x = λ x g. record {
      at = g.at;
      shows = g.shows;
      answered = le_trans g.answered s.answered;
      heard = le_trans g.heard (latest_first w.heard_at moment);
      over = λ enough never. absurd (true≢false never);
    } in
    record {
      times = latest_within w.heard_at moment w.time s.times read;
      answered = omega arith;
      counting = latest_shows (clocks.parent w.home) (are.parent w.home).rises w.heard_at moment w.place.heard s.counting;
      floor = s.floor;
      number = is.0;
      words = s.words;
      answers = (
        (
          omega arith,
          λ above. let was = is.1 above in record {
            at = was.at;
            shows = let shows = was.shows in omega (arith, shows);
            answered = le_trans was.before read;
            heard = le_trans was.before (latest_second w.heard_at moment);
            over = λ enough never. absurd (true≢false never);
          },
        ),
        answers_as good good' w.hold.floor w.place.number word.number still (news_rises w.place word news) w.answers s.answers,
      );
      leaves = s.leaves;
      frames = s.frames;
      since = held_as good good' w.hold.floor w.place.number word.number still (news_rises w.place word news) w.hold.since s.since;
    })
    (λ _. s)

-- nothing is held by under a number that is below the floor
none_held : (P Q : ℕ → Type 0) (floor number number' : ℕ) → number ≤ floor → (o : Option ℕ) → If (IsHeld P floor number) o → If
    (IsHeld Q floor number') o
none_held P Q floor number number' over o it =
    weaker_if (IsHeld P floor number) (IsHeld Q floor number') (λ s is. absurd (omega (arith, is.above, is.within, over))) o it

hearing_leave : (e grace validity : ℕ) (clocks : Clocks) (w : LeaseState) → IsSound e grace validity clocks w → (g : ℕ) → g ≤ w.hold.floor →
    IsSound e grace validity clocks (with_place w (heard_leave w.place g))
hearing_leave e grace validity clocks w s g is =
    let good : ℕ → Type 0 = good_in e grace validity clocks w in
    cond_both (ltb w.place.number g) (place_emptied w.place g) w.place (λ p. IsSound e grace validity clocks (with_place w p))
    (λ newer.
    let above : w.place.number < g = ltb-true w.place.number g newer in
    let good' : ℕ → Type 0 = good_in e grace validity clocks (with_place w (place_emptied w.place g)) in
    let over : w.place.number ≤ w.hold.floor = omega (arith, above, is) in
    record {
      times = s.times;
      answered = s.answered;
      counting = s.counting;
      floor = s.floor;
      number = le_trans is s.floor;
      words = s.words;
      answers =
          weaker (IsAnswer good w.hold.floor w.place.number) (IsAnswer good' w.hold.floor g)
          (λ a it. (omega (arith, it.0, above), λ now. absurd (omega (arith, it.0, over, now)))) w.answers s.answers;
      leaves = s.leaves;
      frames = s.frames;
      since = none_held good good' w.hold.floor w.place.number g over w.hold.since s.since;
    })
    (λ _. s)

looking : (e grace validity : ℕ) (clocks : Clocks) → AreClocks e clocks → (w : LeaseState) → IsSound e grace validity clocks w →
    (moment : ℕ) → moment ≤ w.time →
    IsSound e grace validity clocks (with_place w (place_looked_at w.place grace (clocks.parent w.home moment)))
looking e grace validity clocks are w s moment read =
    let good : ℕ → Type 0 = good_in e grace validity clocks w in
    cond_both (is_overdue w.place grace (clocks.parent w.home moment)) (place_emptied w.place w.place.number) w.place
    (λ p. IsSound e grace validity clocks (with_place w p))
    (λ due.
    let both = and_parts w.place.counts (leb (w.place.heard + grace) (clocks.parent w.home moment)) due in
    let late = leb-true (w.place.heard + grace) (clocks.parent w.home moment) both.1 in
    let by = rises_to (clocks.parent w.home) (are.parent w.home).rises moment w.time read in
    let at = s.counting in
    let since : clocks.parent w.home w.heard_at + grace ≤ clocks.parent w.home w.time = omega (arith, at, late, by) in
    let good' : ℕ → Type 0 = good_in e grace validity clocks (with_place w (place_emptied w.place w.place.number)) in
    let still : (x : ℕ) → good x → good' x = λ x g. record {
      at = g.at;
      shows = g.shows;
      answered = g.answered;
      heard = g.heard;
      over = λ enough _.
          let done = over_by_then e validity grace (clocks.control w.life) (clocks.parent w.home) (are.control w.life) (are.parent w.home) enough
          g.at w.heard_at w.time g.heard s.times since in
          let shows = g.shows in
          omega (arith, done, shows);
    } in
    record {
      times = s.times;
      answered = s.answered;
      counting = s.counting;
      floor = s.floor;
      number = s.number;
      words = s.words;
      answers = answers_as good good' w.hold.floor w.place.number w.place.number still (omega arith) w.answers s.answers;
      leaves = s.leaves;
      frames = s.frames;
      since = held_as good good' w.hold.floor w.place.number w.place.number still (omega arith) w.hold.since s.since;
    })
    (λ _. s)

handling_frame : (e grace validity : ℕ) (clocks : Clocks) → AreClocks e clocks → (w : LeaseState) → IsSound e grace validity clocks w →
    (used : ℕ) (f : Frame) (moment : ℕ) →
    moment ≤ w.time → IsFrame (clocks.control w.life) moment w.hold.floor w.hold.number f → IsSound e grace validity clocks
    (frame_handled clocks grace w used f moment)
handling_frame e grace validity clocks are w s used (WordFrame word) moment read is = hearing e grace validity clocks are w s used word moment read is
handling_frame e grace validity clocks are w s used (LeaveFrame g) moment read is = hearing_leave e grace validity clocks w s g is
handling_frame e grace validity clocks are w s used Tick moment read is = looking e grace validity clocks are w s moment read

handling : (e grace validity : ℕ) (clocks : Clocks) → AreClocks e clocks → (w : LeaseState) → IsSound e grace validity clocks w → (k used : ℕ) →
    IsSound e grace validity clocks (handled_one clocks grace w used (one_of w.frames k))
handling e grace validity clocks are w s k used =
    let Is : Stamped → Type 0 = IsStamped (clocks.control w.life) w.time w.hold.floor w.hold.number in
    of_option (λ o. IsSound e grace validity clocks (handled_one clocks grace w used o)) Is (one_of w.frames k) (at_picked Is w.frames k s.frames) s
    (λ x is. handling_frame e grace validity clocks are w s used x.frame x.moment is.read is.says)

restarting : (e grace validity : ℕ) (clocks : Clocks) (w : LeaseState) → IsSound e grace validity clocks w →
    IsSound e grace validity clocks (begun_anew clocks w)
restarting e grace validity clocks w s =
    let good : ℕ → Type 0 = good_in e grace validity clocks w in
    let good' : ℕ → Type 0 = good_in e grace validity clocks (begun_anew clocks w) in
    let still : (x : ℕ) → good x → good' x =
    λ x g. good_later e grace validity (clocks.control w.life) w.time w.time w.heard_at w.time w.answered_at w.answered_at w.place.counts
    (omega arith) s.times (omega arith) x g in
    record {
      times = omega arith;
      answered = s.answered;
      counting = refl;
      floor = s.floor;
      number = s.number;
      words = s.words;
      answers = answers_as good good' w.hold.floor w.place.number w.place.number still (omega arith) w.answers s.answers;
      leaves = s.leaves;
      frames = tt;
      since = held_as good good' w.hold.floor w.place.number w.place.number still (omega arith) w.hold.since s.since;
    }

-- after each event a lease is sound
pub event_keeps : (e grace validity : ℕ) (clocks : Clocks) → AreClocks e clocks → (w : LeaseState) → IsSound e grace validity clocks w →
    (it : LeaseEvent) →
    IsSound e grace validity clocks (state_after_event clocks grace w it)
event_keeps e grace validity clocks are w s (Passes d) = passing e grace validity clocks are w s d
event_keeps e grace validity clocks are w s (Says ago) = saying e grace validity clocks w s ago
event_keeps e grace validity clocks are w s Bids = bidding e grace validity clocks w s
event_keeps e grace validity clocks are w s Falls = falling e grace validity clocks w s
event_keeps e grace validity clocks are w s Leaves = leaving e grace validity clocks w s
event_keeps e grace validity clocks are w s Starts = starting e grace validity clocks w s
event_keeps e grace validity clocks are w s (Comes k) = coming e grace validity clocks w s k
event_keeps e grace validity clocks are w s (Arrives k) = arriving e grace validity clocks w s k
event_keeps e grace validity clocks are w s (LeaveArrives k) = leave_arriving e grace validity clocks w s k
event_keeps e grace validity clocks are w s Ticks = stamping e grace validity clocks w s Tick tt
event_keeps e grace validity clocks are w s (Handles k used) = handling e grace validity clocks are w s k used
event_keeps e grace validity clocks are w s Restarts = restarting e grace validity clocks w s
