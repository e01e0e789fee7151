-- How frames of any sort stand in a stream of bytes, one behind the other.
use Rattle.std.specs.Prelude.{◌≡◌, ◌≢◌, ℕ, ◌≤◌, ◌<◌, List, [], ◌∷◌, ◌++◌, length, Option, Some, None, ⊤, ◌⊎◌}
use Rattle.std.specs.List.{flat_map}

-- ---- a sort of frames

-- What there is to say of frames of one sort. A place in the stream is what the frames before it say of those behind it, as how many
-- steps a bid has.
pub record Framing (P F : Type 0) : Type 1 where
  -- how many bytes a frame of this kind has at a place, if it may stand there; the first byte of a frame tells its kind
  pub size_at : P → ℕ → Option ℕ
  pub frame_bytes : F → List ℕ
  -- the place behind a frame
  pub place_after : P → F → P
  -- a frame of a kind that may stand at this place, each of whose fields has its bytes
  pub IsFormed : P → F → Type 0
  -- the fields of a frame are accepted at this place
  pub IsAccepted : P → F → Type 0
  -- a place that frames lead to
  pub IsPlace : P → Type 0
  -- the most bytes of a frame
  pub most_bytes : ℕ

-- the frame may stand at this place
pub record MayStand {P F : Type 0} (framing : Framing P F) (place : P) (frame : F) : Type 0 where
  pub formed : framing.IsFormed place frame
  pub accepted : framing.IsAccepted place frame

-- the first byte tells that a frame at this place has so many bytes
abbrev pub HasSize : {P F : Type 0} → Framing P F → P → List ℕ → ℕ → Type 0
HasSize framing place [] size = ⊥
HasSize framing place (kind ∷ more) size = framing.size_at place kind ≡ Some size

-- what each framing has to keep: the first byte of a frame tells how long it is, and its bytes tell which frame it is
pub record IsFraming {P F : Type 0} (framing : Framing P F) : Type 0 where
  pub sized : (place : P) (frame : F) (more : List ℕ) → framing.IsFormed place frame →
      HasSize framing place (framing.frame_bytes frame ++ more) (length (framing.frame_bytes frame))
  pub some_bytes : (place : P) (kind size : ℕ) → framing.size_at place kind ≡ Some size → 1 ≤ size
  pub few_bytes : (place : P) (kind size : ℕ) → framing.IsPlace place → framing.size_at place kind ≡ Some size → size ≤ framing.most_bytes
  -- no frame begins another one, nor has another one's bytes
  pub one_frame : (place : P) (frame other : F) (more behind : List ℕ) → framing.IsFormed place frame → framing.IsFormed place other →
      framing.frame_bytes frame ++ more ≡ framing.frame_bytes other ++ behind → (frame ≡ other) × (more ≡ behind)
  pub not_empty : 1 ≤ framing.most_bytes
  pub leads_on : (place : P) (frame : F) → framing.IsPlace place → MayStand framing place frame → framing.IsPlace (framing.place_after place frame)

-- ---- lists of frames

-- the bytes of frames, one behind the other
abbrev pub stream_bytes : {P F : Type 0} → Framing P F → List F → List ℕ
stream_bytes framing frames = flat_map framing.frame_bytes frames

-- each of the frames may stand where it stands, the first at this place
abbrev pub AllStand : {P F : Type 0} → Framing P F → P → List F → Type 0
AllStand framing place [] = ⊤
AllStand framing place (frame ∷ frames) = MayStand framing place frame × AllStand framing (framing.place_after place frame) frames

-- the place behind frames of which the first stands at this place
abbrev pub place_behind : {P F : Type 0} → Framing P F → P → List F → P
place_behind framing place [] = place
place_behind framing place (frame ∷ frames) = place_behind framing (framing.place_after place frame) frames

-- ---- what stands where no frame is whole

-- fewer bytes than a frame of their kind has, or none: the frame may still come
abbrev pub IsUnfinished : {P F : Type 0} → Framing P F → P → List ℕ → Type 0
IsUnfinished framing place [] = ⊤
IsUnfinished framing place (kind ∷ more) = (size : ℕ) × (framing.size_at place kind ≡ Some size) × (length (kind ∷ more) < size)

-- the first byte is no kind that may stand at this place
abbrev pub HasWrongKind : {P F : Type 0} → Framing P F → P → List ℕ → Type 0
HasWrongKind framing place [] = ⊥
HasWrongKind framing place (kind ∷ more) = framing.size_at place kind ≡ None

-- the frame is there, whole, and one of its fields is refused
pub record HasRefusedFrame {P F : Type 0} (framing : Framing P F) (place : P) (bytes : List ℕ) : Type 0 where
  pub frame : F
  pub more : List ℕ
  pub formed : framing.IsFormed place frame
  pub refused : ¬ framing.IsAccepted place frame
  pub spelled : bytes ≡ framing.frame_bytes frame ++ more

-- the bytes at this place begin with a bad frame
abbrev pub BeginsBadly : {P F : Type 0} → Framing P F → P → List ℕ → Type 0
BeginsBadly framing place bytes = HasWrongKind framing place bytes ⊎ HasRefusedFrame framing place bytes

-- no further frame is whole at this place: the bytes are less than one, or begin badly
abbrev pub Stops : {P F : Type 0} → Framing P F → P → List ℕ → Type 0
Stops framing place rest = IsUnfinished framing place rest ⊎ BeginsBadly framing place rest

-- ---- streams, of which the first frame stands at the place `start`

-- the bytes begin with these frames, and this is what stands behind them
pub record BeginsWith {P F : Type 0} (framing : Framing P F) (start : P) (bytes : List ℕ) (frames : List F) (rest : List ℕ) : Type 0 where
  pub stand : AllStand framing start frames
  pub spelled : bytes ≡ stream_bytes framing frames ++ rest

-- the bytes are a list of frames
abbrev pub AreFrames : {P F : Type 0} → Framing P F → P → List ℕ → List F → Type 0
AreFrames framing start bytes frames = BeginsWith framing start bytes frames []

-- the frames are all those of the bytes, and no bad frame shows behind them
pub record HasFrames {P F : Type 0} (framing : Framing P F) (start : P) (bytes : List ℕ) (frames : List F) : Type 0 where
  pub rest : List ℕ
  pub begins : BeginsWith framing start bytes frames rest
  pub unfinished : IsUnfinished framing (place_behind framing start frames) rest

-- the bytes have a bad frame, and so many bytes stand before it
pub record HasBadFrame {P F : Type 0} (framing : Framing P F) (start : P) (bytes : List ℕ) (offset : ℕ) : Type 0 where
  pub frames : List F
  pub rest : List ℕ
  pub begins : BeginsWith framing start bytes frames rest
  pub bad : BeginsBadly framing (place_behind framing start frames) rest
  pub before : offset ≡ length (stream_bytes framing frames)

-- the bytes end within a frame, and so many bytes stand before it
pub record EndsWithin {P F : Type 0} (framing : Framing P F) (start : P) (bytes : List ℕ) (offset : ℕ) : Type 0 where
  pub frames : List F
  pub rest : List ℕ
  pub begins : BeginsWith framing start bytes frames rest
  pub unfinished : IsUnfinished framing (place_behind framing start frames) rest
  pub some : rest ≢ []
  pub before : offset ≡ length (stream_bytes framing frames)
