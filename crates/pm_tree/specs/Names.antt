-- Lawful names.
use Rattle.std.specs.Prelude.{ℕ, Bool, false, ◌&&◌, ◌||◌, not, ◌==◌, nat_lt, List, [], ◌∷◌, length, codes}
use Rattle.std.specs.List.{list_all}
use Rattle.std.specs.Str.{bytes_eq}
use Rattle.std.specs.Char.{is_ascii_alphabetic, is_ascii_alphanumeric}

-- the name of node 0
abbrev pub auctioneer : List ℕ
auctioneer = codes "auctioneer"

-- an ASCII letter, an ASCII digit, `_` or `-`
abbrev pub is_name_byte : ℕ → Bool
is_name_byte byte = is_ascii_alphanumeric byte || byte == 95 || byte == 45

-- what may follow the first letter of a name: fewer than 32 bytes of a name
abbrev pub is_rest_of_name : List ℕ → Bool
is_rest_of_name rest = nat_lt (length rest) 32 && list_all is_name_byte rest

-- 1 to 32 bytes, an ASCII letter first, then ASCII letters, digits, `_` and `-`
abbrev pub has_name_form : List ℕ → Bool
has_name_form [] = false
has_name_form (first ∷ rest) = is_ascii_alphabetic first && is_rest_of_name rest

-- whether these bytes may be a node's name: they have the form of a name, and are not the auctioneer's
unfoldable pub is_name : List ℕ → Bool
is_name bytes = has_name_form bytes && not (bytes_eq bytes auctioneer)
