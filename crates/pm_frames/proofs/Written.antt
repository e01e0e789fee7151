-- What a list of fields is, written one after the other.
use Rattle.std.proofs.Common.{◌≡◌, ◌∙◌, sym, ap, ℕ, ◌+◌, ◌<◌, List, ◌++◌, length, take, get_or, append_assoc}
use Rattle.std.specs.List.{flat_map}
use Rattle.std.proofs.lemmas.List.{take_more, flat_map_more}

-- one more field after those of the first elements
pub field_more : {A : Type 0} (field : A → List ℕ) (elements : List A) (default : A) (at : ℕ) (start old new : List ℕ) → at < length elements →
    old ≡ start ++ flat_map field (take at elements) → new ≡ old ++ field (get_or elements at default) →
    new ≡ start ++ flat_map field (take (at + 1) elements)
field_more field elements default at start old new within e e' =
    e' ∙ ap (λ l. l ++ field (get_or elements at default)) e
    ∙ flat_map_more field start (take at elements) (get_or elements at default)
    ∙ ap (λ l. start ++ flat_map field l) (sym (take_more elements at default within))

-- five parts
pub five_written : (out first second third fourth fifth a b c d e : List ℕ) → a ≡ out ++ first → b ≡ a ++ second → c ≡ b ++ third →
    d ≡ c ++ fourth → e ≡ d ++ fifth →
    e ≡ out ++ (first ++ (second ++ (third ++ (fourth ++ fifth))))
five_written out first second third fourth fifth a b c d e ea eb ec ed ee =
    let all : e ≡ ((((out ++ first) ++ second) ++ third) ++ fourth) ++ fifth = cc in all ∙ simp append_assoc

-- four parts
pub four_written : (out p1 p2 p3 p4 a b c d : List ℕ) → a ≡ out ++ p1 → b ≡ a ++ p2 → c ≡ b ++ p3 → d ≡ c ++ p4 →
    d ≡ out ++ (p1 ++ (p2 ++ (p3 ++ p4)))
four_written out p1 p2 p3 p4 a b c d ea eb ec ed =
    let all : d ≡ (((out ++ p1) ++ p2) ++ p3) ++ p4 = cc in all ∙ simp append_assoc

-- six parts
pub six_written : (out p1 p2 p3 p4 p5 p6 a b c d e f : List ℕ) → a ≡ out ++ p1 → b ≡ a ++ p2 → c ≡ b ++ p3 → d ≡ c ++ p4 → e ≡ d ++ p5 →
    f ≡ e ++ p6 → f ≡ out ++ (p1 ++ (p2 ++ (p3 ++ (p4 ++ (p5 ++ p6)))))
six_written out p1 p2 p3 p4 p5 p6 a b c d e f ea eb ec ed ee ef =
    let five : e ≡ out ++ (p1 ++ (p2 ++ (p3 ++ (p4 ++ p5)))) = five_written out p1 p2 p3 p4 p5 a b c d e ea eb ec ed ee in
    let all : f ≡ (out ++ (p1 ++ (p2 ++ (p3 ++ (p4 ++ p5))))) ++ p6 = cc in all ∙ simp append_assoc

-- nine parts
pub nine_written : (out p1 p2 p3 p4 p5 p6 p7 p8 p9 a b c d e f g h i : List ℕ) → a ≡ out ++ p1 → b ≡ a ++ p2 → c ≡ b ++ p3 → d ≡ c ++ p4 →
    e ≡ d ++ p5 → f ≡ e ++ p6 → g ≡ f ++ p7 → h ≡ g ++ p8 → i ≡ h ++ p9 →
    i ≡ out ++ (p1 ++ (p2 ++ (p3 ++ (p4 ++ (p5 ++ (p6 ++ (p7 ++ (p8 ++ p9))))))))
nine_written out p1 p2 p3 p4 p5 p6 p7 p8 p9 a b c d e f g h i ea eb ec ed ee ef eg eh ei =
    let five : e ≡ out ++ (p1 ++ (p2 ++ (p3 ++ (p4 ++ p5)))) = five_written out p1 p2 p3 p4 p5 a b c d e ea eb ec ed ee in
    let four : i ≡ e ++ (p6 ++ (p7 ++ (p8 ++ p9))) = four_written e p6 p7 p8 p9 f g h i ef eg eh ei in
    let all : i ≡ (out ++ (p1 ++ (p2 ++ (p3 ++ (p4 ++ p5))))) ++ (p6 ++ (p7 ++ (p8 ++ p9))) = cc in all ∙ simp append_assoc
