-- What a list of nodes is once one of them is another.
use Rattle.std.proofs.Common.{◌≡◌, ◌∙◌, sym, ap, subst, ℕ, ◌+◌, ◌<◌, ◌≤◌, ◌^◌, List, [], ◌∷◌}
use Rattle.std.proofs.Common.{◌++◌, length, Bool, true, false, Some, None, refl, slice_get, get_or, arith, ◌⊎◌, inl, inr, not}
use Rattle.std.proofs.Common.{filter, eqb, ltb, ◌≢◌}
use Rattle.std.proofs.lemmas.List.{get_or-set_other, get_or-set_same, length-set}
use Rattle.std.proofs.lemmas.List.Elements.{All-set, All-append, All-cons, All-nil}
use Rattle.std.proofs.lemmas.List.Sums.{sum_by-set, sum_by-append, sum_by-cons, get_or-le-sum_by, length-filter}
use Rattle.std.proofs.lemmas.List.Filters.{length-filter_both}
use Rattle.std.proofs.lemmas.Option.{slice_get-get_or, slice_get_past, slice_get_within, slice_get_cases, get_or_from_slice_get}
use Rattle.std.proofs.lemmas.Bool.Decides.{eqb_tells, Decides-ltb}
use Rattle.std.specs.List.{count_by}
use Rattle.std.specs.Prelude.{slice_set}
use Rattle.pm_waking.specs.Work.{has_work, has_change, has_unsent}
use Rattle.pm_waking.specs.Sleeping.{OthersStay, IsKept, SleepsIdle, IsRung, TotalsFollow, TotalsMayFollow, MayRecount, KeepsRings}
use Rattle.pm_waking.specs.Sleeping.{WakesEntry, ForgetsNobody, count, is_offered, one_if, pending_at, asleep_at, pending_of, asleep_of}
use Rattle.pm_waking.specs.Sleeping.{Roll}
use Rattle.pm_waking.specs.declared.node.NodePending.{NodePending}
use Rattle.pm_waking.specs.declared.rings.Rings.{Rings}
use Rattle.pm_waking.specs.declared.roster.Entry.{Entry}
use Rattle.pm_waking.specs.declared.roster.Totals.{Totals}

-- the node in the place is the new one
node_there : (es : List Entry) (i : ℕ) (e : Entry) → i < length es → slice_get (slice_set es i e) i ≡ Some e
node_there es i e h =
    slice_get-get_or (slice_set es i e) i e (subst (λ n. i < n) (sym (length-set es i e)) h) ∙ ap Some (get_or-set_same es i e e h)

-- what was lent is the node of its place
pub lent_there : (es : List Entry) (i : ℕ) (e : Entry) → true ≡ ltb i (length es) → e ≡ get_or es i e → slice_get es i ≡ Some e
lent_there es i e within is = slice_get-get_or es i e ((Decides-ltb i (length es)).0 (sym within)) ∙ ap Some (sym is)

-- the node that was lent is the new one
pub put_there : (es : List Entry) (i : ℕ) (e : Entry) → true ≡ ltb i (length es) → slice_get (slice_set es i e) i ≡ Some e
put_there es i e within = node_there es i e ((Decides-ltb i (length es)).0 (sym within))

-- every other node is as it was
pub other_stays : (es : List Entry) (i : ℕ) (e : Entry) (x : ℕ) → (x ≡ i → ⊥) → slice_get (slice_set es i e) x ≡ slice_get es x
other_stays es i e x apart = cases (slice_get_cases es x).1
  where
    cases : ((y : Entry) × (x < length es) × (slice_get es x ≡ Some y) × (get_or es x y ≡ y)) ⊎ ((length es ≤ x) × (slice_get es x ≡ None)) →
        slice_get (slice_set es i e) x ≡ slice_get es x
    cases (inl within) =
        slice_get-get_or (slice_set es i e) x within.0 (subst (λ n. x < n) (sym (length-set es i e)) within.1)
        ∙ ap Some (get_or-set_other es i x e within.0 apart) ∙ sym (slice_get-get_or es x within.0 within.1)
    cases (inr past) = slice_get_past (slice_set es i e) x (subst (λ n. n ≤ x) (sym (length-set es i e)) past.0) ∙ sym past.1

-- all other nodes are as they were, and there are as many
pub others_stay : (es : List Entry) (i : ℕ) (e : Entry) → OthersStay i es (slice_set es i e)
others_stay es i e = record { many = length-set es i e; others = other_stays es i e }

-- ---- how many nodes have something

-- the number follows the node that is another
pub count_follows : (p : NodePending → Bool) (es : List Entry) (i : ℕ) (was e : Entry) (old new : ℕ) → slice_get es i ≡ Some was →
    old ≡ count p es → new + one_if (p was.node) ≡ old + one_if (p e.node) → new ≡ count p (slice_set es i e)
count_follows p es i was e old new there counted follows =
    let same : one_if (p (get_or es i was).node) ≡ one_if (p was.node) = ap (λ (x : Entry). one_if (p x.node)) (get_or_from_slice_get es i was was there) in
    let sums : count p (slice_set es i e) + one_if (p (get_or es i was).node) ≡ count p es + one_if (p e.node)
    = sum_by-set (λ (x : Entry). one_if (p x.node)) es i e was (slice_get_within es i was there) in
    omega (arith, same, sums, counted, follows)

-- what is counted is one of those counted
counts_it : {X : Type 0} (p : X → Bool) (xs : List X) (i : ℕ) (x : X) → slice_get xs i ≡ Some x → one_if (p x) ≤ count_by p xs
counts_it p xs i x there =
    subst (λ n. n ≤ count_by p xs) (ap (λ y. one_if (p y)) (get_or_from_slice_get xs i x x there))
    (get_or-le-sum_by (λ y. one_if (p y)) xs i x (slice_get_within xs i x there))

-- those that are counted and those that are not are all
both_are_all : {X : Type 0} (p : X → Bool) (xs : List X) → count_by p xs + count_by (λ x. not (p x)) xs ≡ length xs
both_are_all p xs =
    ap (λ n. n + count_by (λ x. not (p x)) xs) (sym (length-filter p xs)) ∙ ap (λ n. length (filter p xs) + n) (sym (length-filter (λ x. not (p x)) xs))
    ∙ length-filter_both p (λ x. not (p x)) (λ x. refl) xs

-- the number of one kind of node may follow a node that is another
pub may_recount : (p : NodePending → Bool) (es : List Entry) (i : ℕ) (was : Entry) (total : ℕ) → slice_get es i ≡ Some was →
    total ≡ count p es → length es < 2 ^ 64 → MayRecount total (p was.node)
may_recount p es i was total there counted fits =
    let least = counts_it (λ (e : Entry). p e.node) es i was there in
    let others = counts_it (λ (e : Entry). not (p e.node)) es i was there in
    let all = both_are_all (λ (e : Entry). p e.node) es in
    record {
      low = λ is. subst (λ b. one_if b ≤ total) is (subst (λ n. one_if (p was.node) ≤ n) (sym counted) least);
      high = λ is. let one = subst (λ b. one_if (not b) ≤ count_by (λ (e : Entry). not (p e.node)) es) is others in omega arith;
    }

-- each total may follow
pub has_room : (es : List Entry) (i : ℕ) (was : Entry) (totals : Totals) → slice_get es i ≡ Some was → IsKept es totals →
    length es < 2 ^ 64 → TotalsMayFollow totals was.node
has_room es i was totals there kept fits = record {
  working = may_recount has_work es i was totals.working there kept.working fits;
  changing = may_recount has_change es i was totals.changing there kept.changing fits;
  offered = may_recount is_offered es i was totals.offered there kept.offered fits;
  unsent = may_recount has_unsent es i was totals.unsent there kept.unsent fits;
}

-- ---- what is kept

-- a node is another that is awake or has no work, and the totals follow
pub kept_after : (es : List Entry) (i : ℕ) (was e : Entry) (old new : Totals) → slice_get es i ≡ Some was → IsKept es old →
    SleepsIdle e → TotalsFollow old new was.node e.node → IsKept (slice_set es i e) new
kept_after es i was e old new there kept calm follows = record {
  working = count_follows has_work es i was e old.working new.working there kept.working follows.working;
  changing = count_follows has_change es i was e old.changing new.changing there kept.changing follows.changing;
  offered = count_follows is_offered es i was e old.offered new.offered there kept.offered follows.offered;
  unsent = count_follows has_unsent es i was e old.unsent new.unsent there kept.unsent follows.unsent;
  calm = All-set SleepsIdle es i e calm kept.calm;
}

-- a node sleeps or is awake, with what is pending at it as it was
pub kept_with : (es : List Entry) (i : ℕ) (was e : Entry) (totals : Totals) → slice_get es i ≡ Some was → IsKept es totals →
    SleepsIdle e → e.node ≡ was.node → IsKept (slice_set es i e) totals
kept_with es i was e totals there kept calm same =
    kept_after es i was e totals totals there kept calm
    (subst (λ n. TotalsFollow totals totals was.node n) (sym same) (record { working = refl; changing = refl; offered = refl; unsent = refl }))

-- what is pending at the node is as it was
pub node_kept : (es : List Entry) (i : ℕ) (was e : Entry) → slice_get es i ≡ Some was → e.node ≡ was.node →
    pending_at (slice_set es i e) i ≡ pending_at es i
node_kept es i was e there same =
    ap pending_of (node_there es i e (slice_get_within es i was there)) ∙ ap Some same ∙ sym (ap pending_of there)

-- nobody is forgotten if the node whose place it is wakes as it should
pub forgets_nobody : (es : List Entry) (i : ℕ) (was e : Entry) (old new : Rings) → slice_get es i ≡ Some was →
    WakesEntry was e new → KeepsRings old new → ForgetsNobody (record { entries = es; rings = old }) (record { entries = slice_set es i e; rings = new })
forgets_nobody es i was e old new there wakes kept = record {
  many = length-set es i e;
  slept = λ x bell asleep. cases x bell asleep (eqb_tells x i);
  rung = kept;
}
  where
    here : (bell : ℕ) → (e.asleep ≡ Some bell) ⊎ IsRung new bell → (asleep_at (slice_set es i e) i ≡ Some bell) ⊎ IsRung new bell
    here bell (inl sleeps) = inl (ap asleep_of (node_there es i e (slice_get_within es i was there)) ∙ sleeps)
    here bell (inr rung) = inr rung

    cases : (x bell : ℕ) → asleep_at es x ≡ Some bell → ((eqb x i ≡ true) × (x ≡ i)) ⊎ ((eqb x i ≡ false) × (x ≢ i)) →
        (asleep_at (slice_set es i e) x ≡ Some bell) ⊎ IsRung new bell
    cases x bell asleep (inl same) =
        subst (λ n. (asleep_at (slice_set es i e) n ≡ Some bell) ⊎ IsRung new bell) (sym same.1)
        (here bell (wakes bell (sym (ap asleep_of there) ∙ subst (λ n. asleep_at es n ≡ Some bell) same.1 asleep)))
    cases x bell asleep (inr apart) = inl (ap asleep_of (other_stays es i e x apart.1) ∙ asleep)

-- ---- one more node

-- a node without anything pending is counted nowhere
count_more : (p : NodePending → Bool) (es : List Entry) (e : Entry) (total : ℕ) → total ≡ count p es → p e.node ≡ false →
    total ≡ count p (es ++ e ∷ [])
count_more p es e total counted none =
    let sum : count p (es ++ e ∷ []) ≡ count p es + count p (e ∷ []) = sum_by-append (λ (x : Entry). one_if (p x.node)) es (e ∷ []) in
    let last : count p (e ∷ []) ≡ one_if (p e.node) + count p [] = sum_by-cons (λ (x : Entry). one_if (p x.node)) e [] in
    let empty : count p [] ≡ 0 = refl in
    let it : one_if (p e.node) ≡ 0 = ap one_if none in
    omega (arith, sum, last, empty, it, counted)

-- the totals are those of the nodes with one more of which nothing is pending
pub kept_with_more : (es : List Entry) (e : Entry) (totals : Totals) → IsKept es totals → has_work e.node ≡ false →
    has_change e.node ≡ false → is_offered e.node ≡ false → has_unsent e.node ≡ false → IsKept (es ++ e ∷ []) totals
kept_with_more es e totals kept idle no_change not_offered sent = record {
  working = count_more has_work es e totals.working kept.working idle;
  changing = count_more has_change es e totals.changing kept.changing no_change;
  offered = count_more is_offered es e totals.offered kept.offered not_offered;
  unsent = count_more has_unsent es e totals.unsent kept.unsent sent;
  calm = All-append SleepsIdle es (e ∷ []) kept.calm (All-cons SleepsIdle e [] (λ bell asleep. idle) (All-nil SleepsIdle));
}

-- ---- one wake after another

pub forgets_nobody_still : (a b c : Roll) → ForgetsNobody a b → ForgetsNobody b c → ForgetsNobody a c
forgets_nobody_still a b c first next = record {
  many = next.many ∙ first.many;
  slept = λ x bell asleep. elim (first.slept x bell asleep) [ inl still ↦ next.slept x bell still | inr rung ↦ inr (next.rung bell rung) ];
  rung = λ bell is. next.rung bell (first.rung bell is);
}

-- ---- all awake

-- one more node is awake, and the others are as they were
pub awake_next : (old new : List Entry) (place : ℕ) → ((x : ℕ) → x < place → asleep_at old x ≡ None) → OthersStay place old new →
    asleep_at new place ≡ None → (x : ℕ) → x < place + 1 → asleep_at new x ≡ None
awake_next old new place before others here x within = cases (eqb_tells x place)
  where
    cases : ((eqb x place ≡ true) × (x ≡ place)) ⊎ ((eqb x place ≡ false) × (x ≢ place)) → asleep_at new x ≡ None
    cases (inl same) = subst (λ n. asleep_at new n ≡ None) (sym same.1) here
    cases (inr apart) = ap asleep_of (others.others x apart.1) ∙ before x (omega (arith, within, apart.1))

-- all nodes that there are are awake
pub awake_all : (es : List Entry) (n : ℕ) → length es ≤ n → ((x : ℕ) → x < n → asleep_at es x ≡ None) → (x : ℕ) → asleep_at es x ≡ None
awake_all es n all awake x = cases (slice_get_cases es x).1
  where
    cases : ((y : Entry) × (x < length es) × (slice_get es x ≡ Some y) × (get_or es x y ≡ y)) ⊎ ((length es ≤ x) × (slice_get es x ≡ None)) →
        asleep_at es x ≡ None
    cases (inl within) = awake x (omega (arith, within.1, all))
    cases (inr past) = ap asleep_of past.1
