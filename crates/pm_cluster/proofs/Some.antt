-- Options that hold something, or nothing.
use Rattle.std.proofs.Common.{◌≡◌, true, Option, Some, None, is_some, MatchOption}
use Rattle.std.proofs.lemmas.Bool.{false≢true}

-- of an option that holds something, what is said of none may be replaced by anything
pub some_only : {A : Type 0} (r : Option A) (P P' : Type 0) (Q : A → Type 0) → is_some r ≡ true → MatchOption r P Q → MatchOption r P' Q
some_only None P P' Q e h = absurd (false≢true e)
some_only (Some x) P P' Q e h = h

-- what is said of an option that holds nothing may be replaced by what follows from it
pub none_more : {A : Type 0} (r : Option A) (P P' : Type 0) (Q : A → Type 0) → (P → P') → MatchOption r P Q → MatchOption r P' Q
none_more None P P' Q f h = f h
none_more (Some x) P P' Q f h = h
