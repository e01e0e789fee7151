-- What nodes keep over a restart, and what names a basis or limits: its bytes determine it, whatever follows.
use Rattle.std.proofs.Common.{◌≡◌, ◌∙◌, sym, ap, ℕ, ◌<◌, ◌≤◌, ◌^◌, ℤ, List, ◌++◌, get_or}
use Rattle.std.proofs.Common.{Option, Some, None, refl, arith}
use Rattle.std.specs.Int.{w16, w32, to_be_bytes}
use Rattle.pm_base.specs.declared.limits.Limits.{Limits}
use Rattle.pm_basis.specs.Prices.{BasisValue}
use Rattle.pm_frames.specs.LimitsFrames.{limits_bytes, AreLimitsFormed, given_bytes, IsGivenFormed, bound_bytes, IsBoundFormed}
use Rattle.pm_frames.specs.NamedBases.{basis_bytes, IsBasisFormed}
use Rattle.pm_wire.specs.Frames.{demand_bytes, signed_bytes}
use Rattle.std.proofs.Common.{append_assoc, ◌∷◌}
use Rattle.pm_frames.specs.Kinds.{resume_kind, resume_gone_kind, limits_kind, bound_kind}
use Rattle.pm_wire.proofs.OneField.{two_same, four_same, signed_same, demands_same}
use Rattle.pm_wire.proofs.OneFrame.{parts_same}
use Rattle.pm_frames.specs.Stored.{StoredRelay, StoredRoot, number_bytes, relay_resume_bytes, root_resume_bytes, newest_bytes}
use Rattle.pm_frames.specs.Stored.{IsRelayStored, IsRootStored, IsNewestFormed}
use Rattle.pm_frames.proofs.OneNumber.{numbers_same}

-- of a basis
pub basis_same : (a b : BasisValue) (x y : List ℕ) → IsBasisFormed a → IsBasisFormed b → basis_bytes a ++ x ≡ basis_bytes b ++ y →
    (a ≡ b) × (x ≡ y)
basis_same a b x y f g e =
    let plain : (c : BasisValue) (z : List ℕ) → basis_bytes c ++ z ≡ signed_bytes c.min ++ (signed_bytes c.max ++ (to_be_bytes w16 c.steps ++ z)) =
    λ c z. simp append_assoc in
    let least = signed_same a.min b.min (signed_bytes a.max ++ (to_be_bytes w16 a.steps ++ x)) (signed_bytes b.max ++ (to_be_bytes w16 b.steps ++ y))
    f.0 g.0 (sym (plain a x) ∙ e ∙ plain b y) in
    let greatest = signed_same a.max b.max (to_be_bytes w16 a.steps ++ x) (to_be_bytes w16 b.steps ++ y) f.1 g.1 least.1 in
    let steps = two_same a.steps b.steps x y f.2 g.2 greatest.1 in (
      ap (λ v. record { min = v; max = a.max; steps = a.steps }) least.0
          ∙ ap (λ v. record { min = b.min; max = v; steps = a.steps }) greatest.0
          ∙ ap (λ v. record { min = b.min; max = b.max; steps = v }) steps.0,
      steps.1,
    )

-- of limits
pub limits_same : (a b : Limits) (x y : List ℕ) → AreLimitsFormed a → AreLimitsFormed b → limits_bytes a ++ x ≡ limits_bytes b ++ y →
    (a ≡ b) × (x ≡ y)
limits_same a b x y f g e =
    let plain : (c : Limits) (z : List ℕ) → limits_bytes c ++ z ≡ signed_bytes c.floor ++ (signed_bytes c.ceiling ++ z) = λ c z. simp append_assoc in
    let floors = signed_same a.floor b.floor (signed_bytes a.ceiling ++ x) (signed_bytes b.ceiling ++ y) f.0 g.0 (sym (plain a x) ∙ e ∙ plain b y) in
    let ceilings = signed_same a.ceiling b.ceiling x y f.1 g.1 floors.1 in (
      ap (λ v. record { floor = v; ceiling = a.ceiling }) floors.0 ∙ ap (λ v. record { floor = b.floor; ceiling = v }) ceilings.0,
      ceilings.1,
    )

-- of a relay
pub relay_stored_same : (a b : StoredRelay) (x y : List ℕ) → IsRelayStored a → IsRelayStored b →
    relay_resume_bytes a ++ x ≡ relay_resume_bytes b ++ y →
    (a ≡ b) × (x ≡ y)
relay_stored_same a b x y f g e =
    let behind_limits : StoredRelay → List ℕ → List ℕ = λ s l. number_bytes s.numbers ++ l in
    let behind_giver : StoredRelay → List ℕ → List ℕ = λ s l. limits_bytes s.limits ++ behind_limits s l in
    let behind_first : StoredRelay → List ℕ → List ℕ = λ s l. to_be_bytes w16 s.giver ++ behind_giver s l in
    let behind_basis : StoredRelay → List ℕ → List ℕ = λ s l. limits_bytes s.first ++ behind_first s l in
    let behind_index : StoredRelay → List ℕ → List ℕ = λ s l. basis_bytes s.basis ++ behind_basis s l in
    let plain : (s : StoredRelay) (l : List ℕ) → relay_resume_bytes s ++ l
    ≡ resume_kind ∷ (to_be_bytes w32 s.last ++ (to_be_bytes w32 s.answered ++ (to_be_bytes w32 s.index ++ behind_index s l))) =
    λ s l. simp append_assoc in
    let same = sym (plain a x) ∙ e ∙ plain b y in
    let lasts = four_same a.last b.last (to_be_bytes w32 a.answered ++ (to_be_bytes w32 a.index ++ behind_index a x))
    (to_be_bytes w32 b.answered ++ (to_be_bytes w32 b.index ++ behind_index b y)) f.0 g.0 (parts_same _ _ _ _ same).1 in
    let answers = four_same a.answered b.answered (to_be_bytes w32 a.index ++ behind_index a x) (to_be_bytes w32 b.index ++ behind_index b y) f.1 g.1 lasts.1 in
    let indices = four_same a.index b.index (behind_index a x) (behind_index b y) f.2 g.2 answers.1 in
    let bases = basis_same a.basis b.basis (behind_basis a x) (behind_basis b y) f.3 g.3 indices.1 in
    let firsts = limits_same a.first b.first (behind_first a x) (behind_first b y) f.4 g.4 bases.1 in
    let givers = two_same a.giver b.giver (behind_giver a x) (behind_giver b y) f.5 g.5 firsts.1 in
    let limits = limits_same a.limits b.limits (behind_limits a x) (behind_limits b y) f.6 g.6 givers.1 in
    let children = numbers_same a.numbers b.numbers x y (f.7.0 ∙ sym g.7.0) f.7.1 g.7.1 limits.1 in (
      ap (λ v. record {
        last = v;
        answered = a.answered;
        index = a.index;
        basis = a.basis;
        first = a.first;
        giver = a.giver;
        limits = a.limits;
        numbers = a.numbers;
      }) lasts.0
          ∙ ap (λ v.
          record {
            last = b.last;
            answered = v;
            index = a.index;
            basis = a.basis;
            first = a.first;
            giver = a.giver;
            limits = a.limits;
            numbers =
                a.numbers;
          }) answers.0
          ∙ ap (λ v.
          record {
            last = b.last;
            answered = b.answered;
            index = v;
            basis = a.basis;
            first = a.first;
            giver = a.giver;
            limits = a.limits;
            numbers = a.numbers;
          }) indices.0
          ∙ ap (λ v.
          record {
            last = b.last;
            answered = b.answered;
            index = b.index;
            basis = v;
            first = a.first;
            giver = a.giver;
            limits = a.limits;
            numbers = a.numbers;
          }) bases.0
          ∙ ap (λ v.
          record {
            last = b.last;
            answered = b.answered;
            index = b.index;
            basis = b.basis;
            first = v;
            giver = a.giver;
            limits = a.limits;
            numbers = a.numbers;
          }) firsts.0
          ∙ ap (λ v.
          record {
            last = b.last;
            answered = b.answered;
            index = b.index;
            basis = b.basis;
            first = b.first;
            giver = v;
            limits = a.limits;
            numbers = a.numbers;
          }) givers.0
          ∙ ap (λ v.
          record {
            last = b.last;
            answered = b.answered;
            index = b.index;
            basis = b.basis;
            first = b.first;
            giver = b.giver;
            limits = v;
            numbers = a.numbers;
          }) limits.0
          ∙ ap (λ v.
          record {
            last = b.last;
            answered = b.answered;
            index = b.index;
            basis = b.basis;
            first = b.first;
            giver = b.giver;
            limits = b.limits;
            numbers = v;
          }) children.0,
      children.1,
    )

-- of limits that a relay is given
pub given_same : (m : ℕ) (l : Limits) (n : ℕ) (k : Limits) (x y : List ℕ) → IsGivenFormed m l → IsGivenFormed n k →
    given_bytes m l ++ x ≡ given_bytes n k ++ y → (m ≡ n) × (l ≡ k) × (x ≡ y)
given_same m l n k x y f g e =
    let plain : (i : ℕ) (v : Limits) (z : List ℕ) → given_bytes i v ++ z ≡ limits_kind ∷ (to_be_bytes w32 i ++ (limits_bytes v ++ z)) =
    λ i v z. simp append_assoc in
    let numbers = four_same m n (limits_bytes l ++ x) (limits_bytes k ++ y) f.0 g.0 (parts_same _ _ _ _ (sym (plain m l x) ∙ e ∙ plain n k y)).1 in
    let limits = limits_same l k x y f.1 g.1 numbers.1 in
    (numbers.0, limits.0, limits.1)

-- of the bound of a child
pub bound_same : (m : ℕ) (l : Limits) (n : ℕ) (k : Limits) (x y : List ℕ) → IsBoundFormed m l → IsBoundFormed n k →
    bound_bytes m l ++ x ≡ bound_bytes n k ++ y → (m ≡ n) × (l ≡ k) × (x ≡ y)
bound_same m l n k x y f g e =
    let plain : (i : ℕ) (v : Limits) (z : List ℕ) → bound_bytes i v ++ z ≡ bound_kind ∷ (to_be_bytes w16 i ++ (limits_bytes v ++ z)) =
    λ i v z. simp append_assoc in
    let children = two_same m n (limits_bytes l ++ x) (limits_bytes k ++ y) f.0 g.0 (parts_same _ _ _ _ (sym (plain m l x) ∙ e ∙ plain n k y)).1 in
    let limits = limits_same l k x y f.1 g.1 children.1 in
    (children.0, limits.0, limits.1)

-- of an auctioneer
pub root_stored_same : (a b : StoredRoot) (x y : List ℕ) → IsRootStored a → IsRootStored b → root_resume_bytes a ++ x ≡ root_resume_bytes b ++ y →
    (a ≡ b) × (x ≡ y)
root_stored_same a b x y f g e =
    let plain : (s : StoredRoot) (l : List ℕ) → root_resume_bytes s ++ l
    ≡ resume_kind ∷ (to_be_bytes w32 s.last ++ (basis_bytes s.basis ++ (number_bytes s.numbers ++ l))) = λ s l. simp append_assoc in
    let lasts = four_same a.last b.last (basis_bytes a.basis ++ (number_bytes a.numbers ++ x)) (basis_bytes b.basis ++ (number_bytes b.numbers ++ y))
    f.0 g.0 (parts_same _ _ _ _ (sym (plain a x) ∙ e ∙ plain b y)).1 in
    let bases = basis_same a.basis b.basis (number_bytes a.numbers ++ x) (number_bytes b.numbers ++ y) f.1 g.1 lasts.1 in
    let children = numbers_same a.numbers b.numbers x y (f.2.0 ∙ sym g.2.0) f.2.1 g.2.1 bases.1 in (
      ap (λ v. record { last = v; basis = a.basis; numbers = a.numbers }) lasts.0
          ∙ ap (λ v. record { last = b.last; basis = v; numbers = a.numbers }) bases.0
          ∙ ap (λ v. record { last = b.last; basis = b.basis; numbers = v }) children.0,
      children.1,
    )

-- of a device
pub newest_same : (steps number index number' index' : ℕ) (basis basis' : BasisValue) (newest newest' : Option (List ℤ)) (x y : List ℕ) →
    number < 2 ^ 32 → index < 2 ^ 32 → number' < 2 ^ 32 → index' < 2 ^ 32 → IsBasisFormed basis → IsBasisFormed basis' →
    IsNewestFormed steps newest → IsNewestFormed steps newest' →
    newest_bytes number index basis newest ++ x ≡ newest_bytes number' index' basis' newest' ++ y →
    (number ≡ number') × (index ≡ index') × (basis ≡ basis') × (newest ≡ newest') × (x ≡ y)
newest_same steps number index number' index' basis basis' (Some demand) (Some demand') x y n i n' i' b b' f g e =
    let plain : (m k : ℕ) (c : BasisValue) (d : List ℤ) (z : List ℕ) → newest_bytes m k c (Some d) ++ z
    ≡ resume_kind ∷ (to_be_bytes w32 m ++ (to_be_bytes w32 k ++ (basis_bytes c ++ (demand_bytes d ++ z)))) = λ m k c d z. simp append_assoc in
    let same = sym (plain number index basis demand x) ∙ e ∙ plain number' index' basis' demand' y in
    let numbers = four_same number number' (to_be_bytes w32 index ++ (basis_bytes basis ++ (demand_bytes demand ++ x)))
    (to_be_bytes w32 index' ++ (basis_bytes basis' ++ (demand_bytes demand' ++ y))) n n' (parts_same _ _ _ _ same).1 in
    let indices = four_same index index' (basis_bytes basis ++ (demand_bytes demand ++ x)) (basis_bytes basis' ++ (demand_bytes demand' ++ y)) i i' numbers.1 in
    let bases = basis_same basis basis' (demand_bytes demand ++ x) (demand_bytes demand' ++ y) b b' indices.1 in
    let demands = demands_same demand demand' x y (f.0 ∙ sym g.0) f.1 g.1 bases.1 in
    (numbers.0, indices.0, bases.0, ap (λ d. Some d) demands.0, demands.1)
newest_same steps number index number' index' basis basis' (Some demand) None x y n i n' i' b b' f g e =
    absurd (omega (arith, (parts_same _ _ _ _ e).0))
newest_same steps number index number' index' basis basis' None (Some demand') x y n i n' i' b b' f g e =
    absurd (omega (arith, (parts_same _ _ _ _ e).0))
newest_same steps number index number' index' basis basis' None None x y n i n' i' b b' f g e =
    let plain : (m k : ℕ) (c : BasisValue) (z : List ℕ) → newest_bytes m k c None ++ z
    ≡ resume_gone_kind ∷ (to_be_bytes w32 m ++ (to_be_bytes w32 k ++ (basis_bytes c ++ z))) = λ m k c z. simp append_assoc in
    let same = sym (plain number index basis x) ∙ e ∙ plain number' index' basis' y in
    let numbers = four_same number number' (to_be_bytes w32 index ++ (basis_bytes basis ++ x)) (to_be_bytes w32 index' ++ (basis_bytes basis' ++ y))
    n n' (parts_same _ _ _ _ same).1 in
    let indices = four_same index index' (basis_bytes basis ++ x) (basis_bytes basis' ++ y) i i' numbers.1 in
    let bases = basis_same basis basis' x y b b' indices.1 in
    (numbers.0, indices.0, bases.0, refl, bases.1)

-- the kind of what a device comes back with
pub newest_kind : (number index : ℕ) (basis : BasisValue) (newest : Option (List ℤ)) (x : List ℕ) →
    25 ≤ get_or (newest_bytes number index basis newest ++ x) 0 0
newest_kind number index basis (Some demand) x = omega arith
newest_kind number index basis None x = omega arith
