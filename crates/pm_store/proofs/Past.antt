-- One more value joins those that a store has had.
use Rattle.std.proofs.Common.{◌≡◌, ◌⊎◌, inl, inr, ⊎_elim, ℕ, List, [], ◌∷◌, ◌++◌, Vec, sym, ◌∙◌, subst}
use Rattle.std.specs.declared.alloc.Global.{Global}
use Rattle.pm_store.specs.Stores.{LeavesInTime}
use Rattle.pm_store.specs.Past.{HadBeen}

abbrev Contents : Type 0
Contents = List (Vec ℕ Global)

keeps : (past : Contents) (v : Vec ℕ Global) (c : List ℕ) → HadBeen past c → HadBeen (past ++ v ∷ []) c
keeps [] v c had = absurd had
keeps (p ∷ past) v c (inl here) = inl here
keeps (p ∷ past) v c (inr there) = inr (keeps past v c there)

adds : (past : Contents) (v : Vec ℕ Global) (c : List ℕ) → HadBeen (past ++ v ∷ []) c → HadBeen past c ⊎ (c ≡ v.items)
adds [] v c (inl here) = inr here
adds [] v c (inr none) = absurd none
adds (p ∷ past) v c (inl here) = inl (inl here)
adds (p ∷ past) v c (inr there) = ⊎_elim (λ had. inl (inr had)) (λ new. inr new) (adds past v c there)

newest : (past : Contents) (v : Vec ℕ Global) (c : List ℕ) → c ≡ v.items → HadBeen (past ++ v ∷ []) c
newest [] v c is = inl is
newest (p ∷ past) v c is = inr (newest past v c is)

-- what a crash until now might have left
abbrev Left : Contents → List ℕ → List ℕ → Type 0
Left past bytes c = (c ≡ bytes) ⊎ HadBeen past c

-- The value that is there joins those before it, and another is put.
pub goes_on : (past later : Contents) (v : Vec ℕ Global) (old new : List ℕ) → v.items ≡ old → later ≡ past ++ v ∷ [] →
    LeavesInTime new (λ c. c ≡ old) (Left past old) (Left later new)
goes_on past later v old new is same = record {
  nothing_else = λ c left. ⊎_elim (λ now. inr (inr now))
      (λ had. ⊎_elim (λ was. inl (inr was)) (λ last. inl (inl (last ∙ is))) (adds past v c (subst (λ (l : Contents). HadBeen l c) same had))) left;
  keeps = λ c left. inr (subst (λ (l : Contents). HadBeen l c) (sym same) (⊎_elim (λ now. newest past v c (now ∙ sym is)) (keeps past v c) left));
}
