-- A parent of the market learns, child by child, the numbers that a network's node heard.
use Rattle.std.proofs.Common.{◌≡◌, ◌∙◌, sym, ap, subst, ℕ, zero, suc, ◌<◌, ◌≤◌, Bool, true, false, cond, ltb, ◌&&◌, inl, inr}
use Rattle.std.proofs.Common.{List, [], ◌∷◌, ◌++◌, refl, arith}
use Rattle.std.proofs.lemmas.Bool.{cases_eq, cases_lt, cases_Bool, cond-true, cond-false, and_parts, and_from, ltb-true, lt-ltb}
use Rattle.pm_market.specs.Lists.{Lists, nodes, IsNode, Lawful}
use Rattle.pm_market.specs.State.{State, update, newest_number_of}
use Rattle.pm_market.specs.Moves.{step, after_from, LegalFrom, Legal}
use Rattle.pm_market.specs.Sound.{Sound}
use Rattle.pm_market.specs.declared.moves.Move.{Move}
use Rattle.pm_market.specs.declared.moves.Move.TheVariants.{Learn}
use Rattle.pm_market.proofs.Cuts.{updated_same, updated_other}
use Rattle.pm_laws.proofs.Order.{after_append, legal_append}
use Rattle.pm_laws.proofs.Kept.{sound_after_from}
use Rattle.pm_net.specs.Pricing.{Pricing}
use Rattle.pm_net.specs.Network.{Network}
use Rattle.pm_net.specs.Agrees.{NetworkAgrees, GoesOn}

-- of the first k nodes those that pass the test are learnt under these numbers, where these are above the old ones
pub learnt_to : (ℕ → Bool) → (ℕ → ℕ) → (ℕ → ℕ) → ℕ → ℕ → ℕ
learnt_to test numbers l zero = l
learnt_to test numbers l (suc k) =
    cond (test (suc k) && ltb (l (suc k)) (numbers (suc k))) (update (learnt_to test numbers l k) (suc k) (numbers (suc k)))
    (learnt_to test numbers l k)

module _ (test : ℕ → Bool) (numbers l : ℕ → ℕ) where
  abbrev upto : ℕ → ℕ → ℕ
  upto k = learnt_to test numbers l k

  one_more : (k x : ℕ) → (x ≡ suc k → ⊥) → upto (suc k) x ≡ upto k x
  unfolding learnt_to
  one_more k x ne =
      elim (cases_Bool (test (suc k) && ltb (l (suc k)) (numbers (suc k)))) [
        | inl e ↦ ap (λ (f : ℕ → ℕ). f x) (cond-true (test (suc k) && ltb (l (suc k)) (numbers (suc k))) (update (upto k) (suc k) (numbers
            (suc k))) (upto k) e)
            ∙ updated_other (upto k) (suc k) (numbers (suc k)) x ne
        | inr e ↦ ap (λ (f : ℕ → ℕ). f x) (cond-false (test (suc k) && ltb (l (suc k)) (numbers (suc k))) (update (upto k) (suc k) (numbers
            (suc k))) (upto k) e)
      ]

  -- past the first k nodes nothing changed
  pub above : (k x : ℕ) → k < x → upto k x ≡ l x
  unfolding learnt_to
  above zero x lt = refl
  above (suc k) x lt = one_more k x (λ e. omega arith) ∙ above k x (omega arith)

  -- nor for a node that fails the test
  pub failing : (k x : ℕ) → test x ≡ false → upto k x ≡ l x
  unfolding learnt_to
  failing zero x fails = refl
  failing (suc k) x fails =
      elim (cases_eq x (suc k)) [
        | inl e ↦
            ap (λ (f : ℕ → ℕ). f x) (cond-false (test (suc k) && ltb (l (suc k)) (numbers (suc k))) (update (upto k) (suc k) (numbers (suc k)))
            (upto k) (not_both k (ap test (sym e) ∙ fails)))
            ∙ failing k x fails
        | inr ne ↦ one_more k x ne ∙ failing k x fails
      ]
    where
      not_both : (k : ℕ) → test (suc k) ≡ false → (test (suc k) && ltb (l (suc k)) (numbers (suc k))) ≡ false
      not_both k e = ap (λ (b : Bool). b && ltb (l (suc k)) (numbers (suc k))) e

  -- a node that passes it, and whose number is not below the old one, has that number
  pub passing : (k x : ℕ) → 1 ≤ x → x ≤ k → test x ≡ true → l x ≤ numbers x → upto k x ≡ numbers x
  unfolding learnt_to
  passing zero x one le passes more = absurd (omega arith)
  passing (suc k) x one le passes more =
      elim (cases_eq x (suc k)) [
        | inl e ↦ elim (cases_lt (l x) (numbers x)) [
          | inl lt ↦
              let both : (test (suc k) && ltb (l (suc k)) (numbers (suc k))) ≡ true =
              and_from _ _ (ap test (sym e) ∙ passes) (lt-ltb (l (suc k)) (numbers (suc k)) (subst (λ (z : ℕ). l z < numbers z) e lt)) in
              ap (λ (f : ℕ → ℕ). f x) (cond-true (test (suc k) && ltb (l (suc k)) (numbers (suc k))) (update (upto k) (suc k) (numbers (suc k)))
              (upto k) both)
              ∙ ap (λ (z : ℕ). update (upto k) (suc k) (numbers (suc k)) z) e ∙ updated_same (upto k) (suc k) (numbers (suc k)) ∙ ap numbers (sym e)
          | inr ge ↦
              let same : l x ≡ numbers x = omega arith in
              elim (cases_Bool (test (suc k) && ltb (l (suc k)) (numbers (suc k)))) [
                | inl both ↦ absurd (omega (
                  arith,
                  ltb-true (l (suc k)) (numbers (suc k)) (and_parts (test (suc k)) (ltb (l (suc k)) (numbers (suc k))) both).1,
                  ap l e,
                  ap numbers e,
                  ge,
                ))
                | inr none ↦
                    ap (λ (f : ℕ → ℕ). f x) (cond-false (test (suc k) && ltb (l (suc k)) (numbers (suc k))) (update (upto k) (suc k) (numbers
                    (suc k))) (upto k) none)
                    ∙ above k x (omega arith) ∙ same
              ]
        ]
        | inr ne ↦ one_more k x ne ∙ passing k x one (omega arith) passes more
      ]

-- the moves that do so are legal
pub record Learning (lists : Lists) (s : State) (l : ℕ → ℕ) : Type 0 where
  -- the moves, one for each node that is learnt
  pub moves : List Move
  pub legal : LegalFrom lists s moves
  -- they lead to the state with just these learnt
  pub ends : after_from lists s moves ≡ record s { learnt = l }

module _ (lists : Lists) (test : ℕ → Bool) (numbers : ℕ → ℕ) (s : State) (within : (x : ℕ) → IsNode lists x →
    numbers x ≤ newest_number_of lists s x) where
  -- learning what was heard of the first k nodes is legal
  pub learning_to : (k : ℕ) → k ≤ nodes lists → Learning lists s (learnt_to test numbers s.learnt k)
  unfolding learnt_to
  learning_to zero le = record { moves = []; legal = tt; ends = refl }
  learning_to (suc k) le =
      let before = learning_to k (omega arith) in
      let b : Bool = test (suc k) && ltb (s.learnt (suc k)) (numbers (suc k)) in
      let more : ℕ → ℕ = update (learnt_to test numbers s.learnt k) (suc k) (numbers (suc k)) in
      elim (cases_Bool b) [
        | inl e ↦
            let node : IsNode lists (suc k) = (omega arith, le) in
            let here : State = record s { learnt = learnt_to test numbers s.learnt k } in
            let rises : learnt_to test numbers s.learnt k (suc k) < numbers (suc k) = omega (
              arith,
              above test numbers s.learnt k (suc k) (omega arith),
              ltb-true (s.learnt (suc k)) (numbers (suc k)) (and_parts (test (suc k)) (ltb (s.learnt (suc k)) (numbers (suc k))) e).1,
            ) in
            let legal : Legal lists here (Learn (suc k) (numbers (suc k))) = (node, rises, within (suc k) node) in
            let m : Move = Learn (suc k) (numbers (suc k)) in
            let P : State → Type 0 = λ t. LegalFrom lists t (m ∷ []) in
            record {
              moves = before.moves ++ m ∷ [];
              legal = legal_append lists before.moves (m ∷ []) s before.legal (subst P (sym before.ends) (legal, tt));
              ends = after_append lists before.moves (m ∷ []) s ∙ ap (λ (t : State). step lists t m) before.ends
                  ∙ ap (λ (f : ℕ → ℕ). record s { learnt = f }) (sym (cond-true b more (learnt_to test numbers s.learnt k) e));
            }
        | inr e ↦ record {
          moves = before.moves;
          legal = before.legal;
          ends = before.ends ∙ ap (λ (f : ℕ → ℕ). record s { learnt = f }) (sym (cond-false b more (learnt_to test numbers s.learnt k) e));
        }
      ]

  -- and keep the state sound
  pub learning_sound : Lawful lists → Sound lists s → (l : ℕ → ℕ) → Learning lists s l → Sound lists (record s { learnt = l })
  learning_sound law sound l did =
      let P : State → Type 0 = λ t. Sound lists t in
      subst P did.ends (sound_after_from lists law did.moves s sound did.legal)

-- what was heard of the nodes that pass a test is learnt
module _ (lists : Lists) (p : Pricing) (net : Network) (s : State) (agrees : NetworkAgrees lists p net s) (test : ℕ → Bool) where
  abbrev number_heard : ℕ → ℕ
  number_heard x = (net.heard x).number

  abbrev pub all_learnt : ℕ → ℕ
  all_learnt = learnt_to test number_heard s.learnt (nodes lists)

  -- by legal moves
  pub learning : Learning lists s all_learnt
  learning = learning_to lists test number_heard s (λ x node. (agrees.heard x node).0) (nodes lists) (omega arith)

  -- the state stays sound
  pub learnt_sound : Lawful lists → Sound lists (record s { learnt = all_learnt })
  learnt_sound law = learning_sound lists test number_heard s (λ x node. (agrees.heard x node).0) law agrees.sound all_learnt learning

  -- such a node has the number heard of it, where that is not below the old one
  pub is_learnt : (x : ℕ) → IsNode lists x → test x ≡ true → s.learnt x ≤ number_heard x → all_learnt x ≡ number_heard x
  is_learnt x node passes more = passing test number_heard s.learnt (nodes lists) x node.0 node.1 passes more

  -- any other has its old one
  pub not_learnt : (x : ℕ) → test x ≡ false → all_learnt x ≡ s.learnt x
  not_learnt x fails = failing test number_heard s.learnt (nodes lists) x fails

-- what was learnt, and one move more
pub learns_and_moves : (lists : Lists) (p : Pricing) (s : State) (l : ℕ → ℕ) (did : Learning lists s l) (m : Move) →
    Legal lists (record s { learnt = l }) m → (after : Network) → NetworkAgrees lists p after (step lists (record s { learnt = l }) m) →
    GoesOn lists p s after
learns_and_moves lists p s l did m legal after agrees =
    let P : State → Type 0 = λ t. LegalFrom lists t (m ∷ []) in
    let ends : after_from lists s (did.moves ++ m ∷ []) ≡ step lists (record s { learnt = l }) m =
    after_append lists did.moves (m ∷ []) s ∙ ap (λ (t : State). step lists t m) did.ends in
    record {
      moves = did.moves ++ m ∷ [];
      legal = legal_append lists did.moves (m ∷ []) s did.legal (subst P (sym did.ends) (legal, tt));
      agrees = subst (NetworkAgrees lists p after) (sym ends) agrees;
    }
