-- A draft that is made element by element, up to the first refusal.
use Rattle.std.proofs.Common.{◌≡◌, ◌∙◌, sym, ap, ℕ, ◌+◌, ◌<◌, ◌≤◌, List, [], ◌∷◌, length, map, get_or, take}
use Rattle.std.proofs.Common.{arith, subst, Result, Ok, Err}
use Rattle.std.specs.Prelude.{IsErrAnd, OnOk, ⊤}
use Rattle.std.proofs.lemmas.List.{take_all, length-append}
use Rattle.pm_base.specs.Outcomes.{fold_from, Refuses}
use Rattle.pm_base.proofs.NumberedLists.{fold_from-map, fold_from_more, Refuses-fold_from}
use Rattle.pm_plan.specs.Plans.{PlanData, NodeData}
use Rattle.pm_plan.specs.Building.{with_node}
use Rattle.pm_plan.specs.Refusals.{refusal_in, Makes}
use Rattle.pm_plan.specs.declared.refusal.Refusal.{Refusal}
use Rattle.pm_plan.specs.declared.refusal.PlanFault.{PlanFault}

-- what the exit by an error returns
pub Makes-err : {Y : Type 0} (r : Result ⊤ PlanFault) (e : PlanFault) (new : Y) (read : Result Y Refusal) → IsErrAnd r (λ y. y ≡ e) →
    Refuses (refusal_in e) read → Makes r new read
Makes-err (Ok x) e new read h f = absurd h
Makes-err (Err y) e new read h f = subst (λ z. Refuses (refusal_in z) read) (sym h) f

-- the exit by an error gives no value, so it shows nothing of one
pub no_value : {T E : Type 0} (r : Result T E) (Q : E → Type 0) (P : Type 0) → IsErrAnd r Q → OnOk r P
no_value (Ok x) Q P h = absurd h
no_value (Err y) Q P h = tt

-- all that the exit by an error shows where a part was to be taken
pub step-err : {Y : Type 0} (r : Result ⊤ PlanFault) (e : PlanFault) (new : Y) (read : Result Y Refusal) (P Q S : Type 0) → IsErrAnd r (λ y. y ≡ e) →
    Refuses (refusal_in e) read → record { made : Makes r new read; entries : OnOk r P; nodes : OnOk r Q; arrays : OnOk r S }
step-err r e new read P Q S h f = record {
  made = Makes-err r e new read h f;
  entries = no_value r (λ y. y ≡ e) P h;
  nodes = no_value r (λ y. y ≡ e) Q h;
  arrays = no_value r (λ y. y ≡ e) S h;
}

-- all that the exit shows where a node was taken over the plan that its state made
pub node-taken : (old made new : PlanData) (x : NodeData) (read : Result PlanData Refusal) → new ≡ with_node made x → read ≡ Ok (with_node made x) →
    made.entries ≡ old.entries → made.nodes ≡ old.nodes → length made.arrays ≤ length old.arrays + 1 →
    record {
      made : read ≡ Ok new;
      entries : new.entries ≡ old.entries;
      nodes : length new.nodes ≡ length old.nodes + 1;
      arrays : length new.arrays ≤ length old.arrays + 1;
    }
node-taken old made new x read is reads entries nodes arrays = record {
  made = reads ∙ ap (λ (p : PlanData). Ok p) (sym is);
  entries = ap (λ (p : PlanData). p.entries) is ∙ entries;
  nodes = ap (λ (p : PlanData). length p.nodes) is ∙ length-append made.nodes (x ∷ []) ∙ ap (λ (l : List NodeData). length l + 1) nodes;
  arrays = omega (arith, ap (λ (p : PlanData). length p.arrays) is);
}

-- what is made of the first i elements, each seen by view
abbrev pub made_of : {S A B : Type 0} → (ℕ → S → B → Result S Refusal) → (A → B) → S → List A → ℕ → Result S Refusal
made_of f view s xs i = fold_from 1 (λ n t x. f n t (view x)) s (take i xs)

-- one more element was taken, whose number is n
pub made_more : {S A B : Type 0} (f : ℕ → S → B → Result S Refusal) (view : A → B) (s : S) (xs : List A) (i n : ℕ) (x : A) (t u : S) →
    i < length xs → n ≡ i + 1 → x ≡ get_or xs i x →
    made_of f view s xs i ≡ Ok t → f n t (view x) ≡ Ok u → made_of f view s xs (i + 1) ≡ Ok u
made_more f view s xs i n x t u within number read before here =
    fold_from_more 1 (λ m v y. f m v (view y)) s xs i x t u within before
    (ap (λ m. f m t (view (get_or xs i x))) (omega arith) ∙ ap (λ y. f n t (view y)) (sym read) ∙ here)

-- an element was refused, or an allocation failed
pub makes_refused : {S A B : Type 0} (f : ℕ → S → B → Result S Refusal) (view : A → B) (s : S) (xs : List A) (i n : ℕ) (x : A)
    (t new : S) (r : Result ⊤ PlanFault) (e : PlanFault) → i < length xs → n ≡ i + 1 → x ≡ get_or xs i x →
    made_of f view s xs i ≡ Ok t → Refuses (refusal_in e) (f n t (view x)) → IsErrAnd r (λ y. y ≡ e) → Makes r new (fold_from 1 f s (map view xs))
makes_refused f view s xs i n x t new r e within number read before here is =
    let e1 : n ≡ 1 + i = omega arith in
    let same : f n t (view x) ≡ f (1 + i) t (view (get_or xs i x)) = ap (λ m. f m t (view x)) e1 ∙ ap (λ y. f (1 + i) t (view y)) read in
    Makes-err r e new (fold_from 1 f s (map view xs)) is
    (subst (Refuses (refusal_in e)) (fold_from-map 1 f view s xs)
    (Refuses-fold_from 1 (λ m v y. f m v (view y)) s xs i x t (refusal_in e) within before (subst (Refuses (refusal_in e)) same here)))

-- all elements were taken
pub made_all : {S A B : Type 0} (f : ℕ → S → B → Result S Refusal) (view : A → B) (s : S) (xs : List A) (i : ℕ) (t : S) →
    length xs ≤ i → made_of f view s xs i ≡ Ok t → fold_from 1 f s (map view xs) ≡ Ok t
made_all f view s xs i t all before =
    sym (fold_from-map 1 f view s xs) ∙ ap (fold_from 1 (λ m v y. f m v (view y)) s) (sym (take_all i xs all)) ∙ before
