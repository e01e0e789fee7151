-- A worked history, by its bytes: a device offers, its process is killed within the bid, and the next process sends the bid.
use Rattle.std.specs.Prelude.{◌≡◌, ℕ, false, pos, negsuc, List, [], ◌∷◌, ◌++◌, None}
use Rattle.pm_net.specs.Messages.{bid_message}
use Rattle.pm_relay.specs.Relays.{RelayValue}
use Rattle.pm_relay.specs.Roots.{RootValue}
use Rattle.pm_frames.specs.declared.terms.RelayTerms.{RelayTerms}
use Rattle.pm_system.specs.Worked.{small_tree, small_places, small_limits, small_pricing}
use Rattle.pm_lives.specs.Worked.{new_world}
use Rattle.pm_lives.specs.WorkedLives.{small_basis}
use Rattle.pm_processes.specs.History.{Scene, HistoryEvent, DeviceBegins, DeviceGoesOn, Happen, IsNewScene}

-- prices 0 to 20 in three steps
abbrev pub basis_field : List ℕ
basis_field = 0 ∷ 0 ∷ 0 ∷ 0 ∷ 0 ∷ 0 ∷ 0 ∷ 20 ∷ 0 ∷ 3 ∷ []

-- 6, 4 and -2 watts
abbrev pub demands_field : List ℕ
demands_field = 0 ∷ 0 ∷ 0 ∷ 6 ∷ 0 ∷ 0 ∷ 0 ∷ 4 ∷ 255 ∷ 255 ∷ 255 ∷ 254 ∷ []

abbrev pub hello_bytes : List ℕ
hello_bytes = 1 ∷ basis_field

-- number 2, and no price
abbrev pub resume_bytes : List ℕ
resume_bytes = 25 ∷ 0 ∷ 0 ∷ 0 ∷ 2 ∷ 0 ∷ 0 ∷ 0 ∷ 0 ∷ (basis_field ++ demands_field)

-- a Bid of child 1, under number 2: its first five bytes, and the others
abbrev pub bid_begun : List ℕ
bid_begun = 2 ∷ 0 ∷ 1 ∷ 0 ∷ 0 ∷ []

abbrev pub bid_rest : List ℕ
bid_rest = 0 ∷ 2 ∷ demands_field

-- Hello and an Offer; a Resume, and a part of the Bid
abbrev pub took_first : List ℕ
took_first = hello_bytes ++ (13 ∷ demands_field)

abbrev pub wrote_first : List ℕ
wrote_first = resume_bytes ++ bid_begun

-- Hello and this Resume; the Bid
abbrev pub took_second : List ℕ
took_second = hello_bytes ++ resume_bytes

abbrev pub wrote_second : List ℕ
wrote_second = bid_begun ++ bid_rest

-- no process runs; relays have these terms
abbrev pub new_scene : (ℕ → RelayTerms) → RootValue → (ℕ → RelayValue) → Scene
new_scene terms root relays = record {
  world = new_world small_places small_basis terms root relays;
  relay_next = λ c. [];
  root_next = [];
  device_next = λ d. [];
  left = λ y. 0;
}

-- each relay has the same limits, and nobody gives it others
abbrev pub no_terms : ℕ → RelayTerms
no_terms c = record { limits = small_limits; giver = None }

abbrev pub small_scene : RootValue → (ℕ → RelayValue) → Scene
small_scene root relays = new_scene no_terms root relays

-- The first process of device 2 takes Hello and an Offer. Of the answer the Resume is written, and five bytes of the Bid; the Resume is
-- handled. The second process takes Hello and this Resume, and writes the Bid.
abbrev pub cut_events : List HistoryEvent
cut_events = DeviceBegins 2 took_first wrote_first ∷ DeviceGoesOn 2 ∷ DeviceBegins 2 took_second wrote_second ∷ []

-- the bid is handed out then, under the number that was stored
pub record HistoryGoesOn (first : Scene) : Type 0 where
  pub none : IsNewScene small_pricing small_places first
  pub last : Scene
  pub happen : Happen small_tree small_pricing small_places first cut_events last
  pub bid : last.world.seen.bids_sent 2 ≡ bid_message 2 false (pos 6 ∷ pos 4 ∷ negsuc 1 ∷ []) ∷ []
