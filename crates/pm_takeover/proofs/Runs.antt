-- Each event over a row that tests keeps what holds at each moment.
use Rattle.std.proofs.Common.{
  ◌≡◌,
  ◌⊎◌,
  inl,
  inr,
  ⊎_elim,
  ℕ,
  ◌+◌,
  ◌<◌,
  ◌≤◌,
  Bool,
  true,
  false,
  List,
  [],
  ◌∷◌,
  refl,
  sym,
  ◌∙◌,
  ap,
  subst,
  arith,
}
use Rattle.pm_takeover.specs.Takeovers.{
  SharedRow,
  Machine,
  SharedNode,
  TakeoverEvent,
  Reads,
  Starts,
  Stores,
  Hands,
  row_with_start,
  row_with_bid,
  Changes,
  Puts,
  PutsStart,
  HandsOut,
  TakeoverHappens,
  TakeoversHappen,
  IsNewSharedNode,
  TakeoversNameOneBid,
}
use Rattle.pm_takeover.proofs.Rows.{Fall, Names, AllNamed, Sound, which, fall_more, false_true, all_more, names_one, sound_first}

module _ (old new : SharedNode) (at : ℕ) (machine : Machine) (row : SharedRow) (handed : List SharedRow)
    (changes : Changes old new at machine row handed) where
  -- a process of an other machine was there before
  was_running : (k : ℕ) → new.machine k ≡ old.machine k → (new.machine k).runs ≡ true → (old.machine k).runs ≡ true
  was_running k e runs = sym (ap (λ (x : Machine). x.runs) e) ∙ runs

  -- what runs at the machine that changed has the row, and no other has its count
  put_sound : (stored : List SharedRow) → Fall (row.number + 1) stored → Names row.number row.bid stored → machine.own ≡ row →
      AllNamed stored handed →
      ((k : ℕ) → (k ≡ at → ⊥) → (old.machine k).runs ≡ true → ((old.machine k).own.start ≤ row.start) ×
      ((old.machine k).own.start ≡ row.start → ⊥)
      × Names (old.machine k).own.number (old.machine k).own.bid stored) →
      Sound stored new
  put_sound stored falls names own_is all others =
      let at_own : (new.machine at).own ≡ new.row = ap (λ (x : Machine). x.own) changes.it ∙ own_is ∙ sym changes.row_is in
      let row_start : new.row.start ≡ row.start = ap (λ (r : SharedRow). r.start) changes.row_is in
      let alone : (k : ℕ) → (new.machine k).runs ≡ true → (new.machine k).own.start ≡ new.row.start → k ≡ at = λ k runs e.
      elim (which old new at machine row handed changes k) [
        | inl p ↦ p.0
        | inr p ↦ absurd ((others k p.0 (was_running k p.1 runs)).1 (sym (ap (λ (x : Machine). x.own.start) p.1) ∙ e ∙ row_start))
      ] in
      record {
        fall = subst (λ (r : SharedRow). Fall (r.number + 1) stored) (sym changes.row_is) falls;
        row_in = subst (λ (r : SharedRow). Names r.number r.bid stored) (sym changes.row_is) names;
        behind = λ k runs. elim (which old new at machine row handed changes k) [
          | inl p ↦ (let same : (new.machine k).own.start ≡ new.row.start = ap (λ j. (new.machine j).own.start) p.0 ∙ ap (λ
              (r : SharedRow). r.start) at_own in omega (arith, same))
          | inr p ↦ (let same : (new.machine k).own.start ≡ (old.machine k).own.start = ap (λ (x : Machine). x.own.start) p.1 in
              let le = (others k p.0 (was_running k p.1 runs)).0 in omega (arith, same, le, row_start))
        ];
        same = λ k runs e. ap (λ j. (new.machine j).own.number) (alone k runs e) ∙ ap (λ (r : SharedRow). r.number) at_own;
        one = λ m k runs_m runs_k e_m e_k. alone m runs_m e_m ∙ sym (alone k runs_k e_k);
        own_in = λ k runs. elim (which old new at machine row handed changes k) [
          | inl p ↦ subst (λ (r : SharedRow). Names r.number r.bid stored) (sym (ap (λ j. (new.machine j).own) p.0 ∙ at_own ∙
              changes.row_is)) names
          | inr p ↦ subst (λ (x : Machine). Names x.own.number x.own.bid stored) (sym p.1) (others k p.0 (was_running k p.1 runs)).2
        ];
        handed_in = subst (AllNamed stored) (sym changes.handed_is) all;
      }

  -- the row stays, and what runs is as it was
  stay_sound : (stored : List SharedRow) → Sound stored old → row ≡ old.row → AllNamed stored handed →
      ((machine ≡ old.machine at) ⊎ (machine.runs ≡ false)) → Sound stored new
  stay_sound stored sound row_same all stays =
      let row_is : new.row ≡ old.row = changes.row_is ∙ row_same in
      let row_start : new.row.start ≡ old.row.start = ap (λ (r : SharedRow). r.start) row_is in
      let row_number : new.row.number ≡ old.row.number = ap (λ (r : SharedRow). r.number) row_is in
      let as_old : (k : ℕ) → (new.machine k).runs ≡ true → new.machine k ≡ old.machine k = λ k runs.
      elim (which old new at machine row handed changes k) [
        | inl p ↦ ⊎_elim (λ kept. p.1 ∙ kept ∙ ap old.machine (sym p.0))
            (λ stopped. false_true _ stopped (sym (ap (λ (x : Machine). x.runs) p.1) ∙ runs)) stays
        | inr p ↦ p.1
      ] in
      let same_start : (k : ℕ) → (new.machine k).runs ≡ true → (new.machine k).own.start ≡ (old.machine k).own.start = λ k runs.
      ap (λ (x : Machine). x.own.start) (as_old k runs) in
      record {
        fall = subst (λ (n : ℕ). Fall (n + 1) stored) (sym row_number) sound.fall;
        row_in = subst (λ (r : SharedRow). Names r.number r.bid stored) (sym row_is) sound.row_in;
        behind = λ k runs. (let le = sound.behind k (was_running k (as_old k runs) runs) in omega (arith, le, same_start k runs, row_start));
        same = λ k runs e. ap (λ (x : Machine). x.own.number) (as_old k runs)
            ∙ sound.same k (was_running k (as_old k runs) runs) (sym (same_start k runs) ∙ e ∙ row_start) ∙ sym row_number;
        one = λ m k runs_m runs_k e_m e_k. sound.one m k (was_running m (as_old m runs_m) runs_m) (was_running k (as_old k runs_k) runs_k)
            (sym (same_start m runs_m) ∙ e_m ∙ row_start) (sym (same_start k runs_k) ∙ e_k ∙ row_start);
        own_in = λ k runs. subst (λ (x : Machine). Names x.own.number x.own.bid stored) (sym (as_old k runs))
            (sound.own_in k (was_running k (as_old k runs) runs));
        handed_in = subst (AllNamed stored) (sym changes.handed_is) all;
      }

store_sound : (old new : SharedNode) (at bid : ℕ) (stored : List SharedRow) → Sound stored old → Puts true old new at bid →
    Sound (row_with_bid (old.machine at).own bid ∷ stored) new
store_sound old new at bid stored sound puts =
    let newest : old.row.start ≡ (old.machine at).own.start = puts.newest in
    let number : (old.machine at).own.number ≡ old.row.number = sound.same at puts.runs (sym newest) in
    put_sound old new at _ (row_with_bid (old.machine at).own bid) old.handed puts.changes (row_with_bid (old.machine at).own bid ∷ stored)
    (omega arith, fall_more (old.row.number + 1) _ stored (omega (arith, number)) sound.fall) (inl (refl, refl)) refl
    (all_more stored (row_with_bid (old.machine at).own bid) old.handed sound.handed_in)
    (λ k other runs. let le = sound.behind k runs in
    (omega (arith, le, newest), λ e. other (sound.one k at runs puts.runs (e ∙ sym newest) (sym newest)), inr (sound.own_in k runs)))

start_sound : (old new : SharedNode) (at : ℕ) (stored : List SharedRow) → Sound stored old → PutsStart true old new at → Sound stored new
start_sound old new at stored sound puts =
    let is : old.row ≡ (old.machine at).saw = puts.unchanged in
    let start : old.row.start ≡ (old.machine at).saw.start = ap (λ (r : SharedRow). r.start) is in
    put_sound old new at _ (row_with_start (old.machine at).saw) old.handed puts.changes stored
    (subst (λ (r : SharedRow). Fall (r.number + 1) stored) is sound.fall) (subst (λ
    (r : SharedRow). Names r.number r.bid stored) is sound.row_in) refl sound.handed_in
    (λ k other runs. let le = sound.behind k runs in
    (omega (arith, le, start), λ e. omega (arith, le, start, e), sound.own_in k runs))

-- an event keeps a node sound
pub step_sound : (old new : SharedNode) (event : TakeoverEvent) (stored : List SharedRow) → Sound stored old → TakeoverHappens true old event new →
    (later : List SharedRow) × Sound later new
step_sound old new (Reads m) stored sound did = (stored, stay_sound old new m _ _ _ did stored sound refl sound.handed_in (inr refl))
step_sound old new (Starts m) stored sound (inl same) = (stored, subst (Sound stored) (sym same) sound)
step_sound old new (Starts m) stored sound (inr puts) = (stored, start_sound old new m stored sound puts)
step_sound old new (Stores m bid) stored sound (inl same) = (stored, subst (Sound stored) (sym same) sound)
step_sound old new (Stores m bid) stored sound (inr puts) = (
  row_with_bid (old.machine m).own bid ∷ stored,
  store_sound old new m bid stored sound puts,
)
step_sound old new (Hands m) stored sound did =
    (stored, stay_sound old new m _ _ _ did.changes stored sound refl (sound.own_in m did.runs, sound.handed_in) (inl refl))

-- events keep a node sound
pub run_sound : (first last : SharedNode) (events : List TakeoverEvent) (stored : List SharedRow) → Sound stored first →
    TakeoversHappen true first events last →
    (later : List SharedRow) × Sound later last
run_sound first last [] stored sound happen = (stored, subst (Sound stored) happen sound)
run_sound first last (event ∷ events) stored sound happen =
    let step = step_sound first happen.0 event stored sound happen.1 in run_sound happen.0 last events step.0 step.1 happen.2

-- over a row that tests, each number names one bid
pub one_bid : TakeoversNameOneBid
one_bid first last events new happen =
    let end = run_sound first last events (first.row ∷ []) (sound_first first new) happen in names_one end.0 last end.1
