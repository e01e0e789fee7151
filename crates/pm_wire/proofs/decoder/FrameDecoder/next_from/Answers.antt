-- Of `FrameDecoder::next_from`: what it answers.
use Rattle.std.proofs.Common.{◌≡◌, ◌∙◌, ◌-◌, ◌+◌, ◌*◌, ◌≤◌, ap, sym, subst, List, ◌++◌, ℕ, Bool}
use Rattle.std.proofs.Common.{length, take, drop, refl, arith}
use Rattle.std.proofs.lemmas.List.{take_rest, drop-drop}
use Rattle.pm_wire.specs.Framing.{Framing, BeginsBadly}
use Rattle.pm_wire.specs.Decoding.{Decoding, HoldsLittle, with_refusal}
use Rattle.pm_wire.specs.Readings.{IsReading}
use Rattle.pm_wire.specs.declared.front_frame.Reading.{Reading}
use Rattle.pm_wire.proofs.Places.{unfinished_short}
use Rattle.pm_wire.proofs.Nexts.{holds_little, gives_whole, gives_none, gives_bad}
use Rattle.pm_wire.proofs.decoder.FrameDecoder.next_from.Goals as goal

-- what was read stands at the front of the bytes left
read_at : {P F : Type 0} (framing : Framing P F) (old new : Decoding P) (buffer bytes : List ℕ) (start : ℕ) (was is : Reading F) → old ≡ new →
    old.rest ≡ drop start buffer → bytes ≡ buffer → was ≡ is →
    IsReading framing old.place (take (length bytes - start) (drop start bytes)) was → IsReading framing new.place new.rest is
read_at {P = P} {F = F} framing old new buffer bytes start was is view rest same e reading =
    let A : Decoding P → Type 0 = λ d. IsReading framing d.place d.rest is in
    let B : Reading F → Type 0 = λ r. IsReading framing old.place old.rest r in
    let C : List ℕ → Type 0 = λ l. IsReading framing old.place l was in
    subst A view (subst B e (subst C (take_rest bytes start ∙ ap (drop start) same ∙ sym rest) reading))

-- a bad frame was told before
pub returns-then-self-clause-next : goal.returns-then-self-clause-next
returns-then-self-clause-next g c =
    let D = Decoding g.row.F-Place.Denot in
    let A : D → Type 0 = λ d. BeginsBadly g.F.StreamFrame.framing d.place d.rest in
    let L : D → Type 0 = λ d. HoldsLittle d in
    let is = c.self.view_is in
    gives_bad g.F.StreamFrame.framing c.is_framing.ensures _ _ (subst L is (holds_little _ _ c.self.invariant.half)) _ (ap (λ (d : D). d.offset) is)
    (subst A is (c.self.invariant.bad c.if-self.true))
    (sym is ∙ ap (λ (r : Bool). record {
      offset = c.self.inside.offset;
      place = c.self.inside.place;
      rest = drop c.self.inside.start c.self.inside.buffer.items;
      refused = r;
      held = length c.self.inside.buffer.items;
    }) c.if-self.true ∙ ap (λ (d : D). with_refusal d) is)

-- a whole frame stands there, and its bytes are taken off
pub returns-in-Whole-clause-next : goal.returns-in-Whole-clause-next
returns-in-Whole-clause-next g c =
    let D = Decoding g.row.F-Place.Denot in
    let is = c.self.view_is in
    let whole = read_at g.F.StreamFrame.framing _ _ _ _ _ _ _ is refl c.deref.ensures.value c.in-Whole.is c.in_ok-frame.ensures.reading in
    let rest = c.drop_given-self-inside.ensures.rest in
    let half : 2 * c.drop_given-self-inside.result ≤ length c.drop_given-self-inside.new.buffer.items =
    omega (arith, c.drop_given-self-inside.ensures.half, c.drop_given-self-inside.auto.buffer) in
    gives_whole g.F.StreamFrame.framing c.is_framing.ensures _ _ (holds_little _ _ half) _ (record {
      stands = whole.stands;
      bytes = whole.spelled ∙ ap (λ (l : List ℕ). g.F.StreamFrame.framing.frame_bytes c.in-Whole.frame ++ l)
          (ap (λ (d : D). drop c.in-Whole.size d.rest) (sym is) ∙ drop-drop c.in-Whole.size c.self.inside.start c.self.inside.buffer.items ∙ sym rest);
      offset = ap (λ (n : ℕ). c.self.inside.offset + n) whole.same_size
          ∙ ap (λ (d : D). d.offset + length (g.F.StreamFrame.framing.frame_bytes c.in-Whole.frame)) is;
      place = c.place_after-self-inside.ensures ∙ ap (λ (d : D). g.F.StreamFrame.framing.place_after d.place c.in-Whole.frame) is;
      refused = c.if-self.false;
      none_refused = ap (λ (d : D). d.refused) (sym is) ∙ c.if-self.false;
    })

-- less than a frame is left
pub returns-in-Unfinished-clause-next : goal.returns-in-Unfinished-clause-next
returns-in-Unfinished-clause-next g c =
    let D = Decoding g.row.F-Place.Denot in
    let L : D → Type 0 = λ d. HoldsLittle d in
    let Is : D → Type 0 = λ d. g.F.StreamFrame.framing.IsPlace d.place in
    let is = c.self.view_is in
    let less = read_at g.F.StreamFrame.framing _ _ _ _ _ _ _ is refl c.deref.ensures.value c.in-Unfinished.is c.in_ok-frame.ensures.reading in
    gives_none g.F.StreamFrame.framing c.is_framing.ensures _ _ (subst L is (holds_little _ _ c.self.invariant.half)) less refl
    (ap (λ (d : D). d.refused) (sym is) ∙ c.if-self.false)
    (unfinished_short g.F.StreamFrame.framing c.is_framing.ensures _ _ (subst Is is c.self.invariant.is_place) less)

-- a bad frame stands there, and is noted
pub returns-in-Bad-clause-next : goal.returns-in-Bad-clause-next
returns-in-Bad-clause-next g c =
    let D = Decoding g.row.F-Place.Denot in
    let is = c.self.view_is in
    let bad = read_at g.F.StreamFrame.framing _ _ _ _ _ _ _ is refl c.deref.ensures.value c.in-Bad.is c.in_ok-frame.ensures.reading in
    gives_bad g.F.StreamFrame.framing c.is_framing.ensures _ _ (holds_little _ _ c.self.invariant.half) _ (ap (λ (d : D). d.offset) is) bad
    (ap (λ (d : D). with_refusal d) is)
