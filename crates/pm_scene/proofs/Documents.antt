-- What the bytes of a file read as.
use Rattle.std.proofs.Common.{◌≡◌, ℕ, List, Bool, true, false, Option, Some, None, Ok, refl, ap}
use Rattle.std.specs.Prelude.{if◌then◌else◌}
use Rattle.std.specs.Str.{IsUtf8, is_utf8}
use Rattle.std.proofs.lemmas.Str.{IsUtf8-from_is_utf8, is_utf8-from_IsUtf8}
use Rattle.serde_json.specs.Data.{Data}
use Rattle.serde_json.specs.Read.{read}
use Rattle.pm_plan.specs.Refusals.{need, refuse}
use Rattle.pm_plan.specs.declared.refusal.Cause.TheVariants as cause
use Rattle.pm_plan.specs.declared.refusal.Place.TheVariants.{Document}
use Rattle.pm_scene.specs.Values.{json_value}

-- bytes that are UTF-8 and read as a JSON value give that value and no refusal
pub document-read : (bytes : List ℕ) (d : Data) → IsUtf8 bytes → read bytes ≡ Some d → need cause.Unreadable Document (json_value bytes) ≡ Ok d
document-read bytes d is e = rw (is_utf8-from_IsUtf8 bytes is) (ap (need cause.Unreadable Document) e)

at_test : (b : Bool) (r : Option Data) → (b ≡ true → r ≡ None) → need cause.Unreadable Document (if b then r else None)
    ≡ refuse cause.Unreadable Document
at_test true r h = ap (need cause.Unreadable Document) (h refl)
at_test false r h = refl

-- bytes that are not UTF-8, or read as no JSON value, are refused as unreadable
pub document-unread : (bytes : List ℕ) → (IsUtf8 bytes → read bytes ≡ None) → need cause.Unreadable Document (json_value bytes)
    ≡ refuse cause.Unreadable Document
document-unread bytes h = at_test (is_utf8 bytes) (read bytes) (λ e. h (IsUtf8-from_is_utf8 bytes e))
