-- The node that the arguments of the command line name.
use Rattle.std.specs.Prelude.{◌≡◌, ℕ, ◌≤◌, List, [], ◌∷◌, codes, decimal, Option, Some, None, ⊤}
use Rattle.std.specs.Fmt.{signed_decimal}
use Rattle.pm_base.specs.Limits.{most_nodes}
use Rattle.pm_frames.specs.Terms.{AreTerms}
use Rattle.pm_live.specs.declared.named.LiveNode.{LiveNode}
use Rattle.pm_live.specs.declared.named.LiveNode.TheVariants.{Relay, Auctioneer, Device}

-- a node's own number at its parent
pub record IsChild (child : ℕ) : Type 0 where
  pub first : 1 ≤ child
  pub last : child ≤ most_nodes

-- a node that there may be
abbrev pub MayBe : LiveNode → Type 0
MayBe (Relay child terms) = IsChild child × AreTerms terms
MayBe Auctioneer = ⊤
MayBe (Device child) = IsChild child

-- the place in which a relay is given limits, if it is
abbrev pub giver_words : Option ℕ → List (List ℕ)
giver_words None = []
giver_words (Some giver) = decimal giver ∷ []

-- the arguments that name a node: its word, its number, and of a relay the floor, the ceiling and the place in which it is given limits
abbrev pub words_of : LiveNode → List (List ℕ)
words_of (Relay child terms) =
    codes "relay" ∷ decimal child ∷ signed_decimal terms.limits.floor ∷ signed_decimal terms.limits.ceiling ∷ giver_words terms.giver
words_of Auctioneer = codes "auctioneer" ∷ []
words_of (Device child) = codes "device" ∷ decimal child ∷ []

-- the arguments name this node
pub record IsNamed (arguments : List (List ℕ)) (node : LiveNode) : Type 0 where
  pub may_be : MayBe node
  pub words : arguments ≡ words_of node
