-- The parts of an envelope.
use Rattle.std.proofs.Common.{◌≡◌, ◌∙◌, sym, ℕ, List, ◌++◌, take, drop, length, arith}
use Rattle.std.specs.Prelude.{decimal}
use Rattle.std.proofs.Math.Seq.{take-append_seam, drop-append_seam}
use Rattle.std.proofs.lemmas.Fmt.{decimal_injective}
use Rattle.pm_envelope.specs.Lines.{IsFirstLine}
use Rattle.pm_envelope.specs.Envelopes.{IsEnvelope}
use Rattle.pm_envelope.proofs.Numerals.{decimal_on_a_line}
use Rattle.pm_envelope.proofs.FirstLines.{same_first_line}

-- the header is the first line
pub header_is_first : (input file rest : List ℕ) → IsEnvelope input file rest → IsFirstLine input (decimal (length file)) (file ++ rest)
header_is_first input file rest is = record { parts = is.parts; no_line_feed = decimal_on_a_line (length file) (omega (arith, is.short)) }

-- what the first line and the bytes after it are in an envelope
pub record HasHeader (header body file rest : List ℕ) : Type 0 where
  -- the header is the decimal text of how many bytes the file has
  pub number : header ≡ decimal (length file)
  -- the bytes after the header's line are the file and the rest
  pub parts : body ≡ file ++ rest

-- the first line of an envelope tells its file's length, and the file and the rest stand after it
pub has_header : (input header body file rest : List ℕ) → IsFirstLine input header body → IsEnvelope input file rest → HasHeader header body file rest
has_header input header body file rest first is =
    let same = same_first_line input header body (decimal (length file)) (file ++ rest) first (header_is_first input file rest is) in
    record { number = same.0; parts = same.1 }

same_files : (file rest other_file other_rest : List ℕ) → length file ≡ length other_file → file ++ rest ≡ other_file ++ other_rest
    → (file ≡ other_file) × (rest ≡ other_rest)
same_files file rest other_file other_rest long same = (
  sym (take-append_seam file rest) ∙ (λ i. take (long i) (same i)) ∙ take-append_seam other_file other_rest,
  sym (drop-append_seam file rest) ∙ (λ i. drop (long i) (same i)) ∙ drop-append_seam other_file other_rest,
)

-- an input is the envelope of one file and one rest at most
pub same_envelope : (input file rest other_file other_rest : List ℕ) → IsEnvelope input file rest → IsEnvelope input other_file other_rest
    → (file ≡ other_file) × (rest ≡ other_rest)
same_envelope input file rest other_file other_rest is also =
    let header = has_header input (decimal (length file)) (file ++ rest) other_file other_rest (header_is_first input file rest is) also in
    let long = decimal_injective (length file) (length other_file) (omega (arith, is.short)) (omega (arith, also.short)) header.number in
    same_files file rest other_file other_rest long header.parts
