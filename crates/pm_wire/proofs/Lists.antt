-- Lists of frames, one behind the other.
use Rattle.std.proofs.Common.{◌≡◌, refl, ◌≤◌, List, [], ◌∷◌, ◌++◌, length, arith, length-append}
use Rattle.std.proofs.lemmas.Grind.{flat_map-append}
use Rattle.pm_wire.specs.Framing.{Framing, IsFraming, stream_bytes, place_behind, AllStand}
use Rattle.pm_wire.proofs.Places.{frame_length}

module _ {P F : Type 0} (framing : Framing P F) where
  -- frames that may stand at the place behind others that may stand may stand behind them
  pub all_stand-append : (place : P) (fs gs : List F) → AllStand framing place fs → AllStand framing (place_behind framing place fs) gs →
      AllStand framing place (fs ++ gs)
  all_stand-append place [] gs f g = g
  all_stand-append place (h ∷ fs) gs f g = (f.0, all_stand-append (framing.place_after place h) fs gs f.1 g)

  -- the place behind two lists of frames is that behind the second from the place behind the first
  pub place_behind-append : (place : P) (fs gs : List F) →
      place_behind framing place (fs ++ gs) ≡ place_behind framing (place_behind framing place fs) gs
  place_behind-append place [] gs = refl
  place_behind-append place (h ∷ fs) gs = place_behind-append (framing.place_after place h) fs gs

  -- the bytes of two lists of frames are those of the first, then those of the second
  pub stream_bytes-append : (fs gs : List F) → stream_bytes framing (fs ++ gs) ≡ stream_bytes framing fs ++ stream_bytes framing gs
  stream_bytes-append fs gs = flat_map-append framing.frame_bytes fs gs

-- frames that may stand have at least as many bytes as there are frames
pub stream_length : {P F : Type 0} (framing : Framing P F) → IsFraming framing → (fs : List F) (place : P) → AllStand framing place fs →
    length fs ≤ length (stream_bytes framing fs)
stream_length framing sound [] place all = omega arith
stream_length framing sound (f ∷ fs) place all = omega (
  arith,
  frame_length framing sound place f all.0.formed,
  length-append (framing.frame_bytes f) (stream_bytes framing fs),
  stream_length framing sound fs (framing.place_after place f) all.1,
)
