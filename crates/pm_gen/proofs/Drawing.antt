-- The devices one after another, as far as they are drawn.
use Rattle.std.proofs.Common.{◌≡◌, ℕ, suc, ◌+◌, ◌-◌, ◌<◌, ◌≤◌, List, [], ◌∷◌, ◌++◌, refl, sym, ap, ◌∙◌, arith}
use Rattle.std.proofs.Common.{append_assoc, append-nil}
use Rattle.pm_plan.specs.Parts.{NodePart}
use Rattle.pm_gen.specs.Nodes.{drawn_device, with_first, drawn_devices}

-- parts of which so many devices are drawn: with those that are left they are the parts before and all devices
pub record Drawn (front : List NodePart) (size first : ℕ) (parts : List NodePart) (count seed : ℕ) : Type 0 where
  -- the parts so far and the devices left to draw are the parts before and all devices
  pub devices : parts ++ (drawn_devices (size - count) seed).0 ≡ front ++ (drawn_devices size first).0
  -- drawing the devices that are left ends with the seed with which drawing all devices ends
  pub left : (drawn_devices (size - count) seed).1 ≡ (drawn_devices size first).1

drawn_devices-suc : (n seed : ℕ) → drawn_devices (suc n) seed ≡ with_first (drawn_device seed).0 (drawn_devices n (drawn_device seed).1)
unfolding drawn_devices
drawn_devices-suc n seed = refl

drawn_devices-step : (size count seed : ℕ) → count < size →
    drawn_devices (size - count) seed ≡ with_first (drawn_device seed).0 (drawn_devices (size - (count + 1)) (drawn_device seed).1)
drawn_devices-step size count seed low =
    let one : size - count ≡ suc (size - (count + 1)) = omega arith in
    ap (λ n. drawn_devices n seed) one ∙ drawn_devices-suc (size - (count + 1)) seed

drawn_devices-none : (size count seed : ℕ) → size ≤ count → drawn_devices (size - count) seed ≡ ([], seed)
unfolding drawn_devices
drawn_devices-none size count seed high = let none : size - count ≡ 0 = omega arith in ap (λ n. drawn_devices n seed) none

-- with the next drawn device put behind the parts one device more is drawn
pub drawn-more : (front : List NodePart) (size first : ℕ) (parts more : List NodePart) (part : NodePart) (count seed new : ℕ) →
    count < size → Drawn front size first parts count seed
    → more ≡ parts ++ part ∷ [] → part ≡ (drawn_device seed).0 → new ≡ (drawn_device seed).1 → Drawn front size first more (count + 1) new
drawn-more front size first parts more part count seed new low drawn pushed is seed_is =
    let step = drawn_devices-step size count seed low in
    record {
      devices =
          (λ i. pushed i ++ (drawn_devices (size - (count + 1)) (seed_is i)).0)
          ∙ append_assoc parts (part ∷ []) (drawn_devices (size - (count + 1)) (drawn_device seed).1).0
          ∙ ap (λ here. parts ++ here ∷ (drawn_devices (size - (count + 1)) (drawn_device seed).1).0) is
          ∙ ap (λ rest. parts ++ rest.0) (sym step)
          ∙ drawn.devices;
      left = ap (λ s. (drawn_devices (size - (count + 1)) s).1) seed_is ∙ ap (λ rest. rest.1) (sym step) ∙ drawn.left;
    }

-- once all devices are drawn, the parts are those before and all devices
pub drawn-all : (front : List NodePart) (size first : ℕ) (parts : List NodePart) (count seed : ℕ) → size ≤ count →
    Drawn front size first parts count seed → parts ≡ front ++ (drawn_devices size first).0
drawn-all front size first parts count seed high drawn =
    sym (append-nil parts) ∙ ap (λ rest. parts ++ rest.0) (sym (drawn_devices-none size count seed high)) ∙ drawn.devices

-- once all devices are drawn, the seed is the one after all devices
pub seed-all : (front : List NodePart) (size first : ℕ) (parts : List NodePart) (count seed : ℕ) → size ≤ count →
    Drawn front size first parts count seed → seed ≡ (drawn_devices size first).1
seed-all front size first parts count seed high drawn =
    ap (λ rest. rest.1) (sym (drawn_devices-none size count seed high)) ∙ drawn.left
