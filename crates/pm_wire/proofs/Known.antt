-- What the auctioneer knows behind frames, and the bytes that answer them.
use Rattle.std.proofs.Common.{◌≡◌, ◌∙◌, sym, ap, refl, subst, ℕ, ◌+◌, ◌<◌, ◌≤◌, ℤ, Bool, true, false, List, [], ◌∷◌}
use Rattle.std.proofs.Common.{◌++◌, length, Option, None, Some, IfSome, arith, append_assoc}
use Rattle.std.specs.Prelude.{if◌then◌else◌}
use Rattle.std.proofs.lemmas.Grind.{flat_map-append}
use Rattle.pm_cache.specs.Cache.{Cache}
use Rattle.pm_cache.specs.Learning.{with_newer_bid}
use Rattle.pm_wire.specs.declared.frame.Frame.{Frame}
use Rattle.pm_wire.specs.declared.frame.Frame.TheVariants.{Hello, Bid, Gone, Clear}
use Rattle.pm_wire.specs.Framing.{AllStand, stream_bytes}
use Rattle.pm_wire.specs.Frames.{bid_framing, place_after, place_behind, MayStand}
use Rattle.pm_wire.specs.Answers.{OpenMarket, open_market, market_after, market_behind, answers_to, answers_behind, answer_bytes, reply_bytes}
use Rattle.pm_wire.specs.Answers.{place_known, AnswersFrame, IsAtStart}
use Rattle.pm_wire.specs.Taking.{Runs, AnswersFrom, CanTake, count_limit}
use Rattle.pm_wire.specs.Services.{HaveOneAnswer, AnswersAndFault, fault_bytes}
use Rattle.pm_wire.specs.Answers.{AreReplies, replies, replies_and_fault}

-- ---- lists of frames

-- the market behind two lists of frames is that behind the second from the market behind the first
market_behind-append : (market : Option OpenMarket) (fs gs : List Frame) → market_behind market (fs ++ gs) ≡ market_behind (market_behind market fs) gs
market_behind-append market [] gs = refl
market_behind-append market (h ∷ fs) gs = market_behind-append (market_after market h) fs gs

-- the answers to two lists of frames are those to the first, then those to the second from its market
answers_behind-append : (market : Option OpenMarket) (fs gs : List Frame) →
    answers_behind market (fs ++ gs) ≡ answers_behind market fs ++ answers_behind (market_behind market fs) gs
answers_behind-append market [] gs = refl
answers_behind-append market (h ∷ fs) gs =
    ap (λ l. answers_to market h ++ l) (answers_behind-append (market_after market h) fs gs)
    ∙ sym (append_assoc (answers_to market h) (answers_behind (market_after market h) fs) (answers_behind (market_behind (market_after market h) fs) gs))

-- the bytes of the answers to two lists of frames are those of the first, then those of the second
reply_bytes-append : (market : Option OpenMarket) (fs gs : List Frame) →
    reply_bytes (answers_behind market (fs ++ gs)) ≡ reply_bytes (answers_behind market fs) ++ reply_bytes (answers_behind (market_behind market fs) gs)
reply_bytes-append market fs gs =
    ap (λ l. reply_bytes l) (answers_behind-append market fs gs)
    ∙ flat_map-append answer_bytes (answers_behind market fs) (answers_behind (market_behind market fs) gs)

-- frames have one list of answers, and that to more frames goes on from it
pub replies_one : HaveOneAnswer AreReplies
replies_one = record {
  one = λ frames reply other first second. first ∙ sym second;
  goes_on = λ frames more reply other first second.
      let behind = reply_bytes (answers_behind (market_behind None frames) more) in
      (behind, second ∙ reply_bytes-append None frames more ∙ ap (λ l. l ++ behind) (sym first));
}

-- ---- the auctioneer as a service

-- what the auctioneer appends to frames are the bytes of the answers to them
pub runs_reply : (market after : Option OpenMarket) (frames : List Frame) (reply : List ℕ) → Runs AnswersFrame market frames after reply →
    reply ≡ reply_bytes (answers_behind market frames)
runs_reply market after [] reply runs = runs.1
runs_reply market after (f ∷ frames) reply runs =
    let Q : Option OpenMarket → Type 0 = λ k. runs.2 ≡ reply_bytes (answers_behind k frames) in
    let others : runs.2 ≡ reply_bytes (answers_behind (market_after market f) frames) = subst Q runs.3.knows (runs_reply runs.0 after frames runs.2 runs.4) in
    runs.5 ∙ ap (λ l. l ++ runs.2) runs.3.replied ∙ ap (λ l. reply_bytes (answers_to market f) ++ l) others
    ∙ sym (flat_map-append answer_bytes (answers_to market f) (answers_behind (market_after market f) frames))

-- from the start on they are the replies
pub from_start : (frames : List Frame) (reply : List ℕ) → AnswersFrom AnswersFrame None frames reply → AreReplies frames reply
from_start frames reply answers = runs_reply None answers.0 frames reply answers.1

-- what answers frames and tells the fault behind them are the replies and the fault
pub replies_and_fault_are : (frames : List Frame) (due : List ℕ) → AnswersAndFault bid_framing AreReplies frames due → due ≡ replies_and_fault frames
replies_and_fault_are frames due d =
    let is : d.reply ≡ replies frames = d.answers in
    d.spelled ∙ ap (λ l. l ++ fault_bytes (length (stream_bytes bid_framing frames))) is

-- ---- the place and the clearings

-- learning a bid keeps the steps
pub learnt_steps : (cache : Cache) (child number : ℕ) (demand : Option (List ℤ)) (test : Bool) →
    (if test then cache else with_newer_bid cache child number demand).steps ≡ cache.steps
learnt_steps cache child number demand true = refl
learnt_steps cache child number None false = refl
learnt_steps cache child number (Some bid) false = refl

cleared_steps : (market : OpenMarket) (test : Bool) →
    (if test then record { cache = market.cache; index = market.index + 1; changed = false } else market).cache.steps ≡ market.cache.steps
cleared_steps market true = refl
cleared_steps market false = refl

cleared_index : (market : OpenMarket) (test : Bool) →
    (if test then record { cache = market.cache; index = market.index + 1; changed = false } else market).index ≤ market.index + 1
cleared_index market true = omega arith
cleared_index market false = omega arith

-- the basis is that of Hello
place_known-after : (market : Option OpenMarket) (frame : Frame) → MayStand (place_known market) frame →
    place_known (market_after market frame) ≡ place_after (place_known market) frame
unfolding open_market
place_known-after None (Hello basis) stands = refl
place_known-after None (Bid child number demand) stands = absurd stands.formed
place_known-after None (Gone child number) stands = absurd stands.formed
place_known-after None Clear stands = absurd stands.formed
place_known-after (Some market) (Hello basis) stands = absurd stands.formed
place_known-after (Some market) (Bid child number demand) stands = ap (λ n. Some n) (learnt_steps market.cache _ number (Some demand) _)
place_known-after (Some market) (Gone child number) stands = ap (λ n. Some n) (learnt_steps market.cache _ number None _)
place_known-after (Some market) Clear stands = ap (λ n. Some n) (cleared_steps market market.changed)

-- a frame makes at most one clearing
clearings_after : (market : Option OpenMarket) (frame : Frame) (count : ℕ) → MayStand (place_known market) frame →
    IfSome market (λ known. known.index ≤ count) → IfSome (market_after market frame) (λ known. known.index ≤ count + 1)
unfolding open_market
clearings_after None (Hello basis) count stands few = omega arith
clearings_after None (Bid child number demand) count stands few = absurd stands.formed
clearings_after None (Gone child number) count stands few = absurd stands.formed
clearings_after None Clear count stands few = absurd stands.formed
clearings_after (Some market) (Hello basis) count stands few = absurd stands.formed
clearings_after (Some market) (Bid child number demand) count stands few = omega (arith, few)
clearings_after (Some market) (Gone child number) count stands few = omega (arith, few)
clearings_after (Some market) Clear count stands few = omega (arith, few, cleared_index market market.changed)

-- the basis that is known behind frames is that of their Hello
place_known-behind : (fs : List Frame) (market : Option OpenMarket) → AllStand bid_framing (place_known market) fs →
    place_known (market_behind market fs) ≡ place_behind (place_known market) fs
place_known-behind [] market all = refl
place_known-behind (f ∷ fs) market all =
    let same = place_known-after market f all.0 in
    let Q : Option ℕ → Type 0 = λ place. AllStand bid_framing place fs in
    place_known-behind fs (market_after market f) (subst Q (sym same) all.1) ∙ ap (λ p. place_behind p fs) same

fewer : (market : Option OpenMarket) (m n : ℕ) → m ≤ n → IfSome market (λ known. known.index ≤ m) → IfSome market (λ known. known.index ≤ n)
fewer None m n le few = tt
fewer (Some market) m n le few = omega (arith, few)

-- behind frames a market has at most as many more clearings as there are frames
clearings_behind : (fs : List Frame) (market : Option OpenMarket) (count : ℕ) → AllStand bid_framing (place_known market) fs →
    IfSome market (λ known. known.index ≤ count) → IfSome (market_behind market fs) (λ known. known.index ≤ count + length fs)
clearings_behind [] market count all few = fewer market count (count + 0) (omega arith) few
clearings_behind (f ∷ fs) market count all few =
    let Q : Option ℕ → Type 0 = λ place. AllStand bid_framing place fs in
    fewer (market_behind (market_after market f) fs) (count + 1 + length fs) (count + length (f ∷ fs)) (omega arith)
    (clearings_behind fs (market_after market f) (count + 1) (subst Q (sym (place_known-after market f all.0)) all.1)
    (clearings_after market f count all.0 few))

-- what the auctioneer knows behind frames
pub runs_knows : (market after : Option OpenMarket) (frames : List Frame) (reply : List ℕ) → Runs AnswersFrame market frames after reply →
    after ≡ market_behind market frames
runs_knows market after [] reply runs = runs.0
runs_knows market after (f ∷ frames) reply runs =
    let Q : Option OpenMarket → Type 0 = λ k. after ≡ market_behind k frames in
    subst Q runs.3.knows (runs_knows runs.0 after frames runs.2 runs.4)

-- what is known of a market that came from the start of a stream to where it may take a frame
known_of : (market : Option OpenMarket) (frame : Frame) → CanTake bid_framing IsAtStart AnswersFrame market frame →
    (frames : List Frame) × AllStand bid_framing None frames × (market ≡ market_behind None frames) × MayStand (place_behind None frames) frame
    × (length frames < count_limit)
known_of market frame can =
    let A : Option ℕ → Type 0 = λ p. AllStand bid_framing p can.frames in
    let B : Option OpenMarket → Type 0 = λ k. market ≡ market_behind k can.frames in
    let C : Option ℕ → Type 0 = λ p. MayStand (place_behind p can.frames) frame in (
      can.frames,
      subst A can.begins.before_hello can.stand,
      subst B can.begins.nothing_known (runs_knows can.first market can.frames can.reply can.runs),
      subst C can.begins.before_hello can.stands,
      can.few,
    )

-- a frame that may be taken stands where what is known leaves the stream
pub known_stands : (market : Option OpenMarket) (frame : Frame) → CanTake bid_framing IsAtStart AnswersFrame market frame →
    MayStand (place_known market) frame
known_stands market frame can =
    let known = known_of market frame can in
    let A : Option ℕ → Type 0 = λ p. MayStand p frame in
    subst A (sym (ap (λ k. place_known k) known.2 ∙ place_known-behind known.0 None known.1)) known.3

few_known : (market : Option OpenMarket) (count : ℕ) → count < count_limit → IfSome market (λ known. known.index ≤ count) →
    IfSome market (λ known. known.index < count_limit)
few_known None count small few = tt
few_known (Some market) count small few = omega (arith, few)

-- and there are fewer clearings than a market may have
pub known_few : (market : Option OpenMarket) (frame : Frame) → CanTake bid_framing IsAtStart AnswersFrame market frame →
    IfSome market (λ known. known.index < count_limit)
known_few market frame can =
    let known = known_of market frame can in
    let A : Option OpenMarket → Type 0 = λ k. IfSome k (λ m. m.index < count_limit) in
    subst A (sym known.2) (few_known (market_behind None known.0) (0 + length known.0) (omega (arith, known.4))
    (clearings_behind known.0 None 0 known.1 tt))
