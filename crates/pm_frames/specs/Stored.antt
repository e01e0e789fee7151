-- What a node keeps over a restart, and its bytes.
use Rattle.std.specs.Prelude.{◌≡◌, ℕ, ◌+◌, ◌*◌, ◌%◌, ◌<◌, ◌≤◌, ◌^◌, ℤ, List, ◌∷◌, ◌++◌, length, Option, Some}
use Rattle.std.specs.Prelude.{None, FitsSigned, ⊤}
use Rattle.std.specs.Int.{w16, w32, to_be_bytes}
use Rattle.std.specs.List.{flat_map, AllByRecursion}
use Rattle.pm_base.specs.Limits.{most_nodes}
use Rattle.pm_bid.specs.Checks.{checked_bid}
use Rattle.std.specs.Prelude.{Ok}
use Rattle.pm_base.specs.declared.limits.Limits.{Limits}
use Rattle.pm_relay.specs.Relays.{AreRelayLimits}
use Rattle.pm_basis.specs.Prices.{BasisValue}
use Rattle.pm_wire.specs.Frames.{demand_bytes}
use Rattle.pm_frames.specs.LimitsFrames.{limits_bytes, AreLimitsFormed}
use Rattle.pm_frames.specs.NamedBases.{basis_bytes, IsBasisFormed}
use Rattle.pm_frames.specs.Places.{basis_at}
use Rattle.pm_frames.specs.Terms.{giver_number}
use Rattle.pm_frames.specs.declared.place.Stage.{Stage}
use Rattle.pm_frames.specs.declared.terms.RelayTerms.{RelayTerms}
use Rattle.pm_frames.specs.Kinds.{resume_kind, resume_gone_kind, relay_resume_head_size, root_resume_head_size}
use Rattle.pm_frames.specs.declared.stored.StoredAgent.{StoredAgent}

-- what a relay keeps: its last number, the limits that this bid was made under, and of each child the number in it; the number answered
-- and the index of one price; the basis of its bids, and what the arguments say of it
pub record StoredRelay : Type 0 where
  pub last : ℕ
  pub answered : ℕ
  pub index : ℕ
  pub basis : BasisValue
  -- the limits of the arguments, and the place in which others are given, 0 where there is none
  pub first : Limits
  pub giver : ℕ
  pub limits : Limits
  pub numbers : List ℕ

-- what an auctioneer keeps: the index of its last clearing, the basis of which it told a step, and of each child the number in it
pub record StoredRoot : Type 0 where
  pub last : ℕ
  pub basis : BasisValue
  pub numbers : List ℕ

-- the numbers of the children, one after the other
abbrev pub number_bytes : List ℕ → List ℕ
number_bytes numbers = flat_map (to_be_bytes w32) numbers

abbrev pub AreChildNumbers : List ℕ → Type 0
AreChildNumbers numbers = (length numbers ≡ most_nodes) × AllByRecursion (λ number. number < 2 ^ 32) numbers

-- ---- a relay

abbrev pub relay_resume_bytes : StoredRelay → List ℕ
relay_resume_bytes stored =
    resume_kind ∷ (to_be_bytes w32 stored.last ++ (to_be_bytes w32 stored.answered ++ (to_be_bytes w32 stored.index ++ (basis_bytes stored.basis
    ++ (limits_bytes stored.first ++ (to_be_bytes w16 stored.giver ++ (limits_bytes stored.limits ++ number_bytes stored.numbers)))))))

abbrev pub relay_resume_size : ℕ
relay_resume_size = relay_resume_head_size + 4 * most_nodes

abbrev pub IsRelayStored : StoredRelay → Type 0
IsRelayStored stored = (stored.last < 2 ^ 32) × (stored.answered < 2 ^ 32) × (stored.index < 2 ^ 32)
    × IsBasisFormed stored.basis × AreLimitsFormed stored.first × (stored.giver < 2 ^ 16) × AreLimitsFormed stored.limits
    × AreChildNumbers stored.numbers

-- it is what a relay of these terms gave
abbrev pub IsOfTerms : RelayTerms → StoredRelay → Type 0
IsOfTerms terms stored = (stored.first ≡ terms.limits) × (stored.giver ≡ giver_number terms.giver)

-- it is of this basis and these terms, no number answered is above the last one, and a relay may have the limits
abbrev pub IsRelayStoredAccepted : Stage → RelayTerms → StoredRelay → Type 0
IsRelayStoredAccepted stage terms stored =
    (basis_at stage ≡ Some stored.basis) × IsOfTerms terms stored × (stored.answered ≤ stored.last) × AreRelayLimits stored.limits

-- ---- an auctioneer

abbrev pub root_resume_bytes : StoredRoot → List ℕ
root_resume_bytes stored = resume_kind ∷ (to_be_bytes w32 stored.last ++ (basis_bytes stored.basis ++ number_bytes stored.numbers))

abbrev pub root_resume_size : ℕ
root_resume_size = root_resume_head_size + 4 * most_nodes

abbrev pub IsRootStored : StoredRoot → Type 0
IsRootStored stored = (stored.last < 2 ^ 32) × IsBasisFormed stored.basis × AreChildNumbers stored.numbers

-- it is of this basis
abbrev pub IsRootStoredAccepted : Stage → StoredRoot → Type 0
IsRootStoredAccepted stage stored = basis_at stage ≡ Some stored.basis

-- ---- a device, whose newest offer is None where it left, or offered nothing

abbrev pub newest_bytes : ℕ → ℕ → BasisValue → Option (List ℤ) → List ℕ
newest_bytes number index basis (Some demand) =
    resume_kind ∷ (to_be_bytes w32 number ++ (to_be_bytes w32 index ++ (basis_bytes basis ++ demand_bytes demand)))
newest_bytes number index basis None = resume_gone_kind ∷ (to_be_bytes w32 number ++ (to_be_bytes w32 index ++ basis_bytes basis))

abbrev pub agent_resume_bytes : StoredAgent → List ℕ
agent_resume_bytes stored = newest_bytes stored.number stored.index stored.basis stored.newest

abbrev pub IsNewestFormed : ℕ → Option (List ℤ) → Type 0
IsNewestFormed steps (Some demand) = (length demand ≡ steps) × AllByRecursion (λ z. FitsSigned w32 z) demand
IsNewestFormed steps None = ⊤

abbrev pub IsAgentStored : ℕ → StoredAgent → Type 0
IsAgentStored steps stored = (stored.number < 2 ^ 32) × (stored.index < 2 ^ 32) × IsBasisFormed stored.basis × IsNewestFormed steps stored.newest

-- an offer has a number above 0, and is a bid
abbrev pub IsNewestAccepted : ℕ → Option (List ℤ) → Type 0
IsNewestAccepted number (Some demand) = (1 ≤ number) × (checked_bid (length demand) demand ≡ Ok demand)
IsNewestAccepted number None = ⊤

-- it is of this basis, and its number is a device's: odd ones are its parent's
abbrev pub IsAgentStoredAccepted : Stage → StoredAgent → Type 0
IsAgentStoredAccepted stage stored =
    (basis_at stage ≡ Some stored.basis) × (stored.number % 2 ≡ 0) × IsNewestAccepted stored.number stored.newest
