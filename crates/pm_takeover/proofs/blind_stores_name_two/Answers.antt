-- Of `blind_stores_name_two`: each run, step by step.
use Rattle.std.proofs.Common.{◌≡◌, ◌⊎◌, inl, inr, ℕ, zero, suc, Bool, true, false, List, [], ◌∷◌, refl}
use Rattle.pm_takeover.specs.Takeovers.{
  SharedRow,
  Machine,
  SharedNode,
  TakeoverEvent,
  Reads,
  Starts,
  Stores,
  Hands,
  Changes,
  Puts,
  PutsStart,
  HandsOut,
  TakeoversHappen,
  IsNewSharedNode,
}
use Rattle.pm_takeover.specs.Blind.{row, idle, two, no_start, LeadsTo, both_read, goes_on, is_overwritten, is_tested, BlindStoresNameTwo}
use Rattle.pm_takeover.proofs.blind_stores_name_two.Goals as goal

abbrev r : ℕ → ℕ → ℕ → SharedRow
r = row

abbrev m : SharedRow → Bool → SharedRow → Machine
m saw' runs' own' = record { saw = saw'; runs = runs'; own = own' }

abbrev st : SharedRow → Machine → Machine → List SharedRow → SharedNode
st row' a b handed' = record { row = row'; machine = two a b; handed = handed' }

new : IsNewSharedNode no_start
new = record { runs = idle_two; handed = refl }
  where
    idle_two : (k : ℕ) → (two idle idle k).runs ≡ false
    idle_two zero = refl
    idle_two (suc zero) = refl
    idle_two (suc (suc k)) = refl

others0 : (a c b : Machine) (k : ℕ) → (k ≡ 0 → ⊥) → two c b k ≡ two a b k
others0 a c b zero other = absurd (other refl)
others0 a c b (suc zero) other = refl
others0 a c b (suc (suc k)) other = refl

others1 : (a c b : Machine) (k : ℕ) → (k ≡ 1 → ⊥) → two b c k ≡ two b a k
others1 a c b zero other = refl
others1 a c b (suc zero) other = absurd (other refl)
others1 a c b (suc (suc k)) other = refl

changes0 : (r s : SharedRow) (a c b : Machine) (hs ks : List SharedRow) → Changes (st r a b hs) (st s c b ks) 0 c s ks
changes0 r s a c b hs ks = record { it = refl; others = others0 a c b; row_is = refl; handed_is = refl }

changes1 : (r s : SharedRow) (a c b : Machine) (hs ks : List SharedRow) → Changes (st r b a hs) (st s b c ks) 1 c s ks
changes1 r s a c b hs ks = record { it = refl; others = others1 a c b; row_is = refl; handed_is = refl }

both : LeadsTo false both_read (r 1 1 4 ∷ r 1 1 7 ∷ [])
both = record {
  last = (st (r 1 1 4) (m (r 0 0 0) true (r 1 1 7)) (m (r 0 0 0) true (r 1 1 4)) (r 1 1 4 ∷ r 1 1 7 ∷ []));
  is_new = new;
  happen = (
    (st (r 0 0 0) (m (r 0 0 0) false (r 0 0 0)) (m (r 0 0 0) false (r 0 0 0)) ([])),
    (changes0 (r 0 0 0) (r 0 0 0) (m (r 0 0 0) false (r 0 0 0)) (m (r 0 0 0) false (r 0 0 0)) (m (r 0 0 0) false (r 0 0 0)) ([])
        ([])),
    (
      (st (r 0 0 0) (m (r 0 0 0) false (r 0 0 0)) (m (r 0 0 0) false (r 0 0 0)) ([])),
      (changes1 (r 0 0 0) (r 0 0 0) (m (r 0 0 0) false (r 0 0 0)) (m (r 0 0 0) false (r 0 0 0)) (m (r 0 0 0) false (r 0 0 0)) ([])
          ([])),
      (
        (st (r 1 0 0) (m (r 0 0 0) true (r 1 0 0)) (m (r 0 0 0) false (r 0 0 0)) ([])),
        inr (record {
          unchanged = tt;
          changes = changes0 (r 0 0 0) (r 1 0 0) (m (r 0 0 0) false (r 0 0 0)) (m (r 0 0 0) true (r 1 0 0)) (m (r 0 0 0) false (r 0 0 0))
              ([]) ([]);
        }),
        (
          (st (r 1 0 0) (m (r 0 0 0) true (r 1 0 0)) (m (r 0 0 0) true (r 1 0 0)) ([])),
          inr (record {
            unchanged = tt;
            changes = changes1 (r 1 0 0) (r 1 0 0) (m (r 0 0 0) false (r 0 0 0)) (m (r 0 0 0) true (r 1 0 0)) (m (r 0 0 0) true (r 1 0 0))
                ([]) ([]);
          }),
          (
            (st (r 1 1 7) (m (r 0 0 0) true (r 1 1 7)) (m (r 0 0 0) true (r 1 0 0)) ([])),
            inr (record {
              runs = refl;
              newest = tt;
              changes = changes0 (r 1 0 0) (r 1 1 7) (m (r 0 0 0) true (r 1 0 0)) (m (r 0 0 0) true (r 1 1 7)) (m (r 0 0 0) true (r 1 0 0))
                  ([]) ([]);
            }),
            (
              (st (r 1 1 7) (m (r 0 0 0) true (r 1 1 7)) (m (r 0 0 0) true (r 1 0 0)) (r 1 1 7 ∷ [])),
              record {
                runs = refl;
                changes = changes0 (r 1 1 7) (r 1 1 7) (m (r 0 0 0) true (r 1 1 7)) (m (r 0 0 0) true (r 1 1 7)) (m (r 0 0 0) true (r 1 0 0))
                    ([]) (r 1 1 7 ∷ []);
              },
              (
                (st (r 1 1 4) (m (r 0 0 0) true (r 1 1 7)) (m (r 0 0 0) true (r 1 1 4)) (r 1 1 7 ∷ [])),
                inr (record {
                  runs = refl;
                  newest = tt;
                  changes = changes1 (r 1 1 7) (r 1 1 4) (m (r 0 0 0) true (r 1 0 0)) (m (r 0 0 0) true (r 1 1 4)) (m (r 0 0 0) true (r 1 1 7))
                      (r 1 1 7 ∷ []) (r 1 1 7 ∷ []);
                }),
                (
                  (st (r 1 1 4) (m (r 0 0 0) true (r 1 1 7)) (m (r 0 0 0) true (r 1 1 4)) (r 1 1 4 ∷ r 1 1 7 ∷ [])),
                  record {
                    runs = refl;
                    changes = changes1 (r 1 1 4) (r 1 1 4) (m (r 0 0 0) true (r 1 1 4)) (m (r 0 0 0) true (r 1 1 4)) (m (r 0 0 0) true (r 1 1 7))
                        (r 1 1 7 ∷ []) (r 1 1 4 ∷ r 1 1 7 ∷ []);
                  },
                  refl,
                ),
              ),
            ),
          ),
        ),
      ),
    ),
  );
  gives = refl;
}

forked : LeadsTo false goes_on (r 1 1 4 ∷ r 2 1 7 ∷ [])
forked = record {
  last = (st (r 1 1 4) (m (r 0 0 0) true (r 1 1 4)) (m (r 1 0 0) true (r 2 1 7)) (r 1 1 4 ∷ r 2 1 7 ∷ []));
  is_new = new;
  happen = (
    (st (r 0 0 0) (m (r 0 0 0) false (r 0 0 0)) (m (r 0 0 0) false (r 0 0 0)) ([])),
    (changes0 (r 0 0 0) (r 0 0 0) (m (r 0 0 0) false (r 0 0 0)) (m (r 0 0 0) false (r 0 0 0)) (m (r 0 0 0) false (r 0 0 0)) ([])
        ([])),
    (
      (st (r 1 0 0) (m (r 0 0 0) true (r 1 0 0)) (m (r 0 0 0) false (r 0 0 0)) ([])),
      inr (record {
        unchanged = tt;
        changes = changes0 (r 0 0 0) (r 1 0 0) (m (r 0 0 0) false (r 0 0 0)) (m (r 0 0 0) true (r 1 0 0)) (m (r 0 0 0) false (r 0 0 0))
            ([]) ([]);
      }),
      (
        (st (r 1 0 0) (m (r 0 0 0) true (r 1 0 0)) (m (r 1 0 0) false (r 0 0 0)) ([])),
        (changes1 (r 1 0 0) (r 1 0 0) (m (r 0 0 0) false (r 0 0 0)) (m (r 1 0 0) false (r 0 0 0)) (m (r 0 0 0) true (r 1 0 0)) ([]) ([])),
        (
          (st (r 2 0 0) (m (r 0 0 0) true (r 1 0 0)) (m (r 1 0 0) true (r 2 0 0)) ([])),
          inr (record {
            unchanged = tt;
            changes = changes1 (r 1 0 0) (r 2 0 0) (m (r 1 0 0) false (r 0 0 0)) (m (r 1 0 0) true (r 2 0 0)) (m (r 0 0 0) true (r 1 0 0))
                ([]) ([]);
          }),
          (
            (st (r 2 1 7) (m (r 0 0 0) true (r 1 0 0)) (m (r 1 0 0) true (r 2 1 7)) ([])),
            inr (record {
              runs = refl;
              newest = tt;
              changes = changes1 (r 2 0 0) (r 2 1 7) (m (r 1 0 0) true (r 2 0 0)) (m (r 1 0 0) true (r 2 1 7)) (m (r 0 0 0) true (r 1 0 0))
                  ([]) ([]);
            }),
            (
              (st (r 2 1 7) (m (r 0 0 0) true (r 1 0 0)) (m (r 1 0 0) true (r 2 1 7)) (r 2 1 7 ∷ [])),
              record {
                runs = refl;
                changes = changes1 (r 2 1 7) (r 2 1 7) (m (r 1 0 0) true (r 2 1 7)) (m (r 1 0 0) true (r 2 1 7)) (m (r 0 0 0) true (r 1 0 0))
                    ([]) (r 2 1 7 ∷ []);
              },
              (
                (st (r 1 1 4) (m (r 0 0 0) true (r 1 1 4)) (m (r 1 0 0) true (r 2 1 7)) (r 2 1 7 ∷ [])),
                inr (record {
                  runs = refl;
                  newest = tt;
                  changes = changes0 (r 2 1 7) (r 1 1 4) (m (r 0 0 0) true (r 1 0 0)) (m (r 0 0 0) true (r 1 1 4)) (m (r 1 0 0) true (r 2 1 7))
                      (r 2 1 7 ∷ []) (r 2 1 7 ∷ []);
                }),
                (
                  (st (r 1 1 4) (m (r 0 0 0) true (r 1 1 4)) (m (r 1 0 0) true (r 2 1 7)) (r 1 1 4 ∷ r 2 1 7 ∷ [])),
                  record {
                    runs = refl;
                    changes = changes0 (r 1 1 4) (r 1 1 4) (m (r 0 0 0) true (r 1 1 4)) (m (r 0 0 0) true (r 1 1 4)) (m (r 1 0 0) true (r 2 1 7))
                        (r 2 1 7 ∷ []) (r 1 1 4 ∷ r 2 1 7 ∷ []);
                  },
                  refl,
                ),
              ),
            ),
          ),
        ),
      ),
    ),
  );
  gives = refl;
}

overwritten : LeadsTo false is_overwritten (r 2 2 6 ∷ r 1 1 4 ∷ r 2 2 7 ∷ [])
overwritten = record {
  last = (st (r 2 2 6) (m (r 0 0 0) true (r 1 1 4)) (m (r 1 1 4) true (r 2 2 6)) (r 2 2 6 ∷ r 1 1 4 ∷ r 2 2 7 ∷ []));
  is_new = new;
  happen = (
    (st (r 0 0 0) (m (r 0 0 0) false (r 0 0 0)) (m (r 0 0 0) false (r 0 0 0)) ([])),
    (changes0 (r 0 0 0) (r 0 0 0) (m (r 0 0 0) false (r 0 0 0)) (m (r 0 0 0) false (r 0 0 0)) (m (r 0 0 0) false (r 0 0 0)) ([])
        ([])),
    (
      (st (r 1 0 0) (m (r 0 0 0) true (r 1 0 0)) (m (r 0 0 0) false (r 0 0 0)) ([])),
      inr (record {
        unchanged = tt;
        changes = changes0 (r 0 0 0) (r 1 0 0) (m (r 0 0 0) false (r 0 0 0)) (m (r 0 0 0) true (r 1 0 0)) (m (r 0 0 0) false (r 0 0 0))
            ([]) ([]);
      }),
      (
        (st (r 1 0 0) (m (r 0 0 0) true (r 1 0 0)) (m (r 1 0 0) false (r 0 0 0)) ([])),
        (changes1 (r 1 0 0) (r 1 0 0) (m (r 0 0 0) false (r 0 0 0)) (m (r 1 0 0) false (r 0 0 0)) (m (r 0 0 0) true (r 1 0 0)) ([]) ([])),
        (
          (st (r 2 0 0) (m (r 0 0 0) true (r 1 0 0)) (m (r 1 0 0) true (r 2 0 0)) ([])),
          inr (record {
            unchanged = tt;
            changes = changes1 (r 1 0 0) (r 2 0 0) (m (r 1 0 0) false (r 0 0 0)) (m (r 1 0 0) true (r 2 0 0)) (m (r 0 0 0) true (r 1 0 0))
                ([]) ([]);
          }),
          (
            (st (r 2 1 5) (m (r 0 0 0) true (r 1 0 0)) (m (r 1 0 0) true (r 2 1 5)) ([])),
            inr (record {
              runs = refl;
              newest = tt;
              changes = changes1 (r 2 0 0) (r 2 1 5) (m (r 1 0 0) true (r 2 0 0)) (m (r 1 0 0) true (r 2 1 5)) (m (r 0 0 0) true (r 1 0 0))
                  ([]) ([]);
            }),
            (
              (st (r 2 2 7) (m (r 0 0 0) true (r 1 0 0)) (m (r 1 0 0) true (r 2 2 7)) ([])),
              inr (record {
                runs = refl;
                newest = tt;
                changes = changes1 (r 2 1 5) (r 2 2 7) (m (r 1 0 0) true (r 2 1 5)) (m (r 1 0 0) true (r 2 2 7)) (m (r 0 0 0) true (r 1 0 0))
                    ([]) ([]);
              }),
              (
                (st (r 2 2 7) (m (r 0 0 0) true (r 1 0 0)) (m (r 1 0 0) true (r 2 2 7)) (r 2 2 7 ∷ [])),
                record {
                  runs = refl;
                  changes = changes1 (r 2 2 7) (r 2 2 7) (m (r 1 0 0) true (r 2 2 7)) (m (r 1 0 0) true (r 2 2 7)) (m (r 0 0 0) true (r 1 0 0))
                      ([]) (r 2 2 7 ∷ []);
                },
                (
                  (st (r 1 1 4) (m (r 0 0 0) true (r 1 1 4)) (m (r 1 0 0) true (r 2 2 7)) (r 2 2 7 ∷ [])),
                  inr (record {
                    runs = refl;
                    newest = tt;
                    changes = changes0 (r 2 2 7) (r 1 1 4) (m (r 0 0 0) true (r 1 0 0)) (m (r 0 0 0) true (r 1 1 4)) (m (r 1 0 0) true (r 2 2 7))
                        (r 2 2 7 ∷ []) (r 2 2 7 ∷ []);
                  }),
                  (
                    (st (r 1 1 4) (m (r 0 0 0) true (r 1 1 4)) (m (r 1 0 0) true (r 2 2 7)) (r 1 1 4 ∷ r 2 2 7 ∷ [])),
                    record {
                      runs = refl;
                      changes = changes0 (r 1 1 4) (r 1 1 4) (m (r 0 0 0) true (r 1 1 4)) (m (r 0 0 0) true (r 1 1 4)) (m (r 1 0 0) true (r 2 2 7))
                          (r 2 2 7 ∷ []) (r 1 1 4 ∷ r 2 2 7 ∷ []);
                    },
                    (
                      (st (r 1 1 4) (m (r 0 0 0) true (r 1 1 4)) (m (r 1 1 4) false (r 2 2 7)) (r 1 1 4 ∷ r 2 2 7 ∷ [])),
                      (changes1 (r 1 1 4) (r 1 1 4) (m (r 1 0 0) true (r 2 2 7)) (m (r 1 1 4) false (r 2 2 7)) (m (r 0 0 0) true (r 1 1 4))
                          (r 1 1 4 ∷ r 2 2 7 ∷ []) (r 1 1 4 ∷ r 2 2 7 ∷ [])),
                      (
                        (st (r 2 1 4) (m (r 0 0 0) true (r 1 1 4)) (m (r 1 1 4) true (r 2 1 4)) (r 1 1 4 ∷ r 2 2 7 ∷ [])),
                        inr (record {
                          unchanged = tt;
                          changes = changes1 (r 1 1 4) (r 2 1 4) (m (r 1 1 4) false (r 2 2 7)) (m (r 1 1 4) true (r 2 1 4)) (m (r 0 0 0) true (r 1 1 4))
                              (r 1 1 4 ∷ r 2 2 7 ∷ []) (r 1 1 4 ∷ r 2 2 7 ∷ []);
                        }),
                        (
                          (st (r 2 2 6) (m (r 0 0 0) true (r 1 1 4)) (m (r 1 1 4) true (r 2 2 6)) (r 1 1 4 ∷ r 2 2 7 ∷ [])),
                          inr (record {
                            runs = refl;
                            newest = tt;
                            changes = changes1 (r 2 1 4) (r 2 2 6) (m (r 1 1 4) true (r 2 1 4)) (m (r 1 1 4) true (r 2 2 6)) (m (r 0 0 0) true (r 1 1 4))
                                (r 1 1 4 ∷ r 2 2 7 ∷ []) (r 1 1 4 ∷ r 2 2 7 ∷ []);
                          }),
                          (
                            (st (r 2 2 6) (m (r 0 0 0) true (r 1 1 4)) (m (r 1 1 4) true (r 2 2 6)) (r 2 2 6 ∷ r 1 1 4 ∷ r 2 2 7 ∷ [])),
                            record {
                              runs = refl;
                              changes = changes1 (r 2 2 6) (r 2 2 6) (m (r 1 1 4) true (r 2 2 6)) (m (r 1 1 4) true (r 2 2 6)) (m (r 0 0 0) true (r 1 1 4))
                                  (r 1 1 4 ∷ r 2 2 7 ∷ []) (r 2 2 6 ∷ r 1 1 4 ∷ r 2 2 7 ∷ []);
                            },
                            refl,
                          ),
                        ),
                      ),
                    ),
                  ),
                ),
              ),
            ),
          ),
        ),
      ),
    ),
  );
  gives = refl;
}

tested : LeadsTo true is_tested (r 2 2 6 ∷ r 2 1 7 ∷ r 1 1 7 ∷ [])
tested = record {
  last = (st (r 2 2 6) (m (r 0 0 0) true (r 1 1 7)) (m (r 1 1 7) true (r 2 2 6)) (r 2 2 6 ∷ r 2 1 7 ∷ r 1 1 7 ∷ []));
  is_new = new;
  happen = (
    (st (r 0 0 0) (m (r 0 0 0) false (r 0 0 0)) (m (r 0 0 0) false (r 0 0 0)) ([])),
    (changes0 (r 0 0 0) (r 0 0 0) (m (r 0 0 0) false (r 0 0 0)) (m (r 0 0 0) false (r 0 0 0)) (m (r 0 0 0) false (r 0 0 0)) ([])
        ([])),
    (
      (st (r 1 0 0) (m (r 0 0 0) true (r 1 0 0)) (m (r 0 0 0) false (r 0 0 0)) ([])),
      inr (record {
        unchanged = refl;
        changes = changes0 (r 0 0 0) (r 1 0 0) (m (r 0 0 0) false (r 0 0 0)) (m (r 0 0 0) true (r 1 0 0)) (m (r 0 0 0) false (r 0 0 0))
            ([]) ([]);
      }),
      (
        (st (r 1 1 7) (m (r 0 0 0) true (r 1 1 7)) (m (r 0 0 0) false (r 0 0 0)) ([])),
        inr (record {
          runs = refl;
          newest = refl;
          changes = changes0 (r 1 0 0) (r 1 1 7) (m (r 0 0 0) true (r 1 0 0)) (m (r 0 0 0) true (r 1 1 7)) (m (r 0 0 0) false (r 0 0 0))
              ([]) ([]);
        }),
        (
          (st (r 1 1 7) (m (r 0 0 0) true (r 1 1 7)) (m (r 1 1 7) false (r 0 0 0)) ([])),
          (changes1 (r 1 1 7) (r 1 1 7) (m (r 0 0 0) false (r 0 0 0)) (m (r 1 1 7) false (r 0 0 0)) (m (r 0 0 0) true (r 1 1 7)) ([]) ([])),
          (
            (st (r 2 1 7) (m (r 0 0 0) true (r 1 1 7)) (m (r 1 1 7) true (r 2 1 7)) ([])),
            inr (record {
              unchanged = refl;
              changes = changes1 (r 1 1 7) (r 2 1 7) (m (r 1 1 7) false (r 0 0 0)) (m (r 1 1 7) true (r 2 1 7)) (m (r 0 0 0) true (r 1 1 7))
                  ([]) ([]);
            }),
            (
              (st (r 2 1 7) (m (r 0 0 0) true (r 1 1 7)) (m (r 1 1 7) true (r 2 1 7)) ([])),
              inl refl,
              (
                (st (r 2 1 7) (m (r 0 0 0) true (r 1 1 7)) (m (r 1 1 7) true (r 2 1 7)) (r 1 1 7 ∷ [])),
                record {
                  runs = refl;
                  changes = changes0 (r 2 1 7) (r 2 1 7) (m (r 0 0 0) true (r 1 1 7)) (m (r 0 0 0) true (r 1 1 7)) (m (r 1 1 7) true (r 2 1 7))
                      ([]) (r 1 1 7 ∷ []);
                },
                (
                  (st (r 2 1 7) (m (r 0 0 0) true (r 1 1 7)) (m (r 1 1 7) true (r 2 1 7)) (r 2 1 7 ∷ r 1 1 7 ∷ [])),
                  record {
                    runs = refl;
                    changes = changes1 (r 2 1 7) (r 2 1 7) (m (r 1 1 7) true (r 2 1 7)) (m (r 1 1 7) true (r 2 1 7)) (m (r 0 0 0) true (r 1 1 7))
                        (r 1 1 7 ∷ []) (r 2 1 7 ∷ r 1 1 7 ∷ []);
                  },
                  (
                    (st (r 2 2 6) (m (r 0 0 0) true (r 1 1 7)) (m (r 1 1 7) true (r 2 2 6)) (r 2 1 7 ∷ r 1 1 7 ∷ [])),
                    inr (record {
                      runs = refl;
                      newest = refl;
                      changes = changes1 (r 2 1 7) (r 2 2 6) (m (r 1 1 7) true (r 2 1 7)) (m (r 1 1 7) true (r 2 2 6)) (m (r 0 0 0) true (r 1 1 7))
                          (r 2 1 7 ∷ r 1 1 7 ∷ []) (r 2 1 7 ∷ r 1 1 7 ∷ []);
                    }),
                    (
                      (st (r 2 2 6) (m (r 0 0 0) true (r 1 1 7)) (m (r 1 1 7) true (r 2 2 6)) (r 2 2 6 ∷ r 2 1 7 ∷ r 1 1 7 ∷ [])),
                      record {
                        runs = refl;
                        changes = changes1 (r 2 2 6) (r 2 2 6) (m (r 1 1 7) true (r 2 2 6)) (m (r 1 1 7) true (r 2 2 6)) (m (r 0 0 0) true (r 1 1 7))
                            (r 2 1 7 ∷ r 1 1 7 ∷ []) (r 2 2 6 ∷ r 2 1 7 ∷ r 1 1 7 ∷ []);
                      },
                      refl,
                    ),
                  ),
                ),
              ),
            ),
          ),
        ),
      ),
    ),
  );
  gives = refl;
}

pub returns : goal.returns
returns c = record { both = both; forked = forked; overwritten = overwritten; tested = tested }
