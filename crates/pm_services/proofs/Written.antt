-- The bytes of an answer, frame by frame, and what appends them.
use Rattle.std.proofs.Common.{◌≡◌, ◌∙◌, sym, ap, ℕ, ◌+◌, ◌≤◌, Bool, true, false, cond, leb, List, [], ◌∷◌, ◌++◌, length}
use Rattle.std.proofs.Common.{refl, arith, append-nil, append_assoc, length-append}
use Rattle.std.proofs.lemmas.Grind.{flat_map-append}
use Rattle.pm_bid.specs.declared.head.BidHead.{BidHead}
use Rattle.pm_basis.specs.Prices.{BasisValue}
use Rattle.pm_net.specs.Messages.{price_message}
use Rattle.pm_wire.specs.Answers.{answer_bytes}
use Rattle.pm_wire.specs.declared.answer.Reply.TheVariants.{Old}
use Rattle.pm_frames.specs.ParentFrames.{price_bytes, price_bytes_for, prices_bytes}
use Rattle.pm_services.specs.Outputs.{Output, Down, Says, output_bytes, outputs_bytes}
use Rattle.pm_services.specs.Receipts.{Appended, receipt_bytes, receipt_outs, down_of, downs}

-- an answer of one sort is one of another
pub mapped : {K : Type 0} (bytes : List (Output K) → List ℕ) (Writes Others : List (Output K) → Type 0) (most more : ℕ) (out longer : List ℕ) →
    most ≤ more → ((outs : List (Output K)) → Writes outs → Others outs) → Appended bytes Writes most out longer →
    Appended bytes Others more out longer
mapped bytes Writes Others most more out longer within to a =
    record { outs = a.outs; writes = to a.outs a.writes; appended = a.appended; few = omega (arith, a.few, within) }

-- what was appended was not too much
pub few_of : (out longer bytes : List ℕ) (most : ℕ) → longer ≡ out ++ bytes → length longer ≤ length out + most → length bytes ≤ most
few_of out longer bytes most appended few = omega (arith, few, ap length appended, length-append out bytes)

module _ {K : Type 0} (kept : K → List ℕ) (basis : BasisValue) (child : ℕ) where
  abbrev bytes_of : List (Output K) → List ℕ
  bytes_of outs = outputs_bytes kept basis child outs

  -- the bytes of frames after frames are their bytes, one after the other
  pub written_then : (first then : List (Output K)) (one two : List ℕ) → one ≡ bytes_of first → two ≡ bytes_of then →
      one ++ two ≡ bytes_of (first ++ then)
  written_then first then one two a b =
      ap (λ (l : List ℕ). l ++ two) a ∙ ap (λ (l : List ℕ). bytes_of first ++ l) b ∙ sym (flat_map-append (output_bytes kept basis child) first then)

  -- so they are appended
  pub appended_then : (first then : List (Output K)) (out mid longer : List ℕ) → mid ≡ out ++ bytes_of first → longer ≡ mid ++ bytes_of then →
      longer ≡ out ++ bytes_of (first ++ then)
  appended_then first then out mid longer a b =
      b ∙ ap (λ (l : List ℕ). l ++ bytes_of then) a ∙ append_assoc out (bytes_of first) (bytes_of then)
      ∙ ap (λ (l : List ℕ). out ++ l) (written_then first then (bytes_of first) (bytes_of then) refl refl)

  -- an answer behind frames that were appended
  pub answered_then : (Writes Whole : List (Output K) → Type 0) (first : List (Output K)) (most more : ℕ) (out mid longer : List ℕ) →
      mid ≡ out ++ bytes_of first → length (bytes_of first) ≤ more → ((outs : List (Output K)) → Writes outs → Whole (first ++ outs)) →
      Appended bytes_of Writes most mid longer → Appended bytes_of Whole (more + most) out longer
  answered_then Writes Whole first most more out mid longer before few whole a = record {
    outs = first ++ a.outs;
    writes = whole a.outs a.writes;
    appended = appended_then first a.outs out mid longer before a.appended;
    few = omega (
      arith,
      few,
      a.few,
      ap length (written_then first a.outs (bytes_of first) (bytes_of a.outs) refl refl),
      length-append (bytes_of first) (bytes_of a.outs),
    );
  }

  -- one frame of which no law speaks
  pub said_alone : (bytes : List ℕ) → bytes ≡ bytes_of (Says bytes ∷ [])
  said_alone bytes = sym (append-nil bytes)

  -- such a frame alone is appended
  pub says : (Writes : List (Output K) → Type 0) (most : ℕ) (out longer said : List ℕ) → longer ≡ out ++ said → length said ≤ most →
      Writes (Says said ∷ []) → Appended bytes_of Writes most out longer
  says Writes most out longer said written few is = record {
    outs = Says said ∷ [];
    writes = is;
    appended = written ∙ ap (λ (l : List ℕ). out ++ l) (said_alone said);
    few = omega (arith, few, ap length (said_alone said));
  }

  -- no frame
  pub says_nothing : (Writes : List (Output K) → Type 0) (most : ℕ) (out : List ℕ) → Writes [] → Appended bytes_of Writes most out out
  says_nothing Writes most out is = record { outs = []; writes = is; appended = sym (append-nil out); few = omega arith }

  said_if : (test : Bool) (bytes : List ℕ) → cond test bytes [] ≡ bytes_of (cond test (Says bytes ∷ []) [])
  said_if true bytes = said_alone bytes
  said_if false bytes = refl

  -- a frame that is written unless a test passes
  pub said_unless : (test : Bool) (bytes : List ℕ) → cond test [] bytes ≡ bytes_of (cond test [] (Says bytes ∷ []))
  said_unless true bytes = refl
  said_unless false bytes = said_alone bytes

  -- a receipt
  pub receipt_written : (kept_number sender number : ℕ) → receipt_bytes kept_number sender number ≡ bytes_of (receipt_outs kept_number sender number)
  receipt_written kept_number sender number = said_if (leb number kept_number) (answer_bytes (Old sender kept_number))

  down_if : (test : Bool) (index step place : ℕ) (head : BidHead) →
      cond test [] (price_bytes (place + 1) head.number index step basis)
      ≡ bytes_of (cond test [] (Down place (price_message head.number index step) ∷ []))
  down_if true index step place head = refl
  down_if false index step place head = sym (append-nil (price_bytes (place + 1) head.number index step basis))

  -- the bytes of the prices for all children are those of their frames
  pub downs_written : (index step place : ℕ) (heads : List BidHead) →
      prices_bytes basis index step (place + 1) heads ≡ bytes_of (downs index step place heads)
  downs_written index step place [] = refl
  downs_written index step place (head ∷ heads) =
      written_then (down_of index step place head) (downs index step (place + 1) heads) (price_bytes_for basis index step (place + 1) head)
      (prices_bytes basis index step (place + 1 + 1) heads) (down_if head.gone index step place head) (downs_written index step (place + 1) heads)
