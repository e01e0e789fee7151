-- Sums over shares, and accounts to which shares are added one by one.
use Rattle.std.proofs.Common.{◌≡◌, ◌≢◌, ◌∙◌, sym, ap, subst, ℕ, zero, suc, ◌+◌, ◌<◌, ◌≤◌, ◌==◌, true, false, ℤ, pos}
use Rattle.std.proofs.Common.{◌+ℤ◌, ◌-ℤ◌, ◌*ℤ◌, List, [], ◌∷◌}
use Rattle.std.proofs.Common.{◌++◌, length, get_or, take, replicate, refl, arith, inl, inr, get_or-set_same, get_or-set_other}
use Rattle.std.specs.Prelude.{All}
use Rattle.std.specs.List.{AllPairs}
use Rattle.std.proofs.Math.IntN.{zero-*ℤ}
use Rattle.std.proofs.Math.ListN.{set, get_or-eq_default}
use Rattle.std.proofs.lemmas.Bool.{cases_eq, cases_lt, eq-eqb, ne_eqb}
use Rattle.std.proofs.lemmas.Int.{ints}
use Rattle.std.proofs.lemmas.List.{append-nil, take_more, length-take, get_or-take, get_or_default}
use Rattle.std.proofs.lemmas.List.Elements.{filter-append, All-set}
use Rattle.pm_base.proofs.Ints.{wider, none-within}
use Rattle.pm_bill.specs.declared.account.Account.{Account}
use Rattle.pm_bill.specs.declared.share.Share.{Share}
use Rattle.pm_bill.specs.Accounts.{no_account, account_at, account_sum, net_taken, tick_limit, IsAccountWithin}
use Rattle.pm_bill.specs.Shares.{sum_each, share_cost, shares_of, account_of_share, account_of_shares, AreAdded}
use Rattle.pm_bill.proofs.Products.{sum-times}
use Rattle.pm_bill.proofs.AccountSums.{account_sum_assoc, account_sum-none, none-account_sum, account_sum_within, net_taken-account_sum, net_taken-account_of}

-- a sum over a list and one element more
pub sum_each-push : {X : Type 0} (part : X → ℤ) (xs : List X) (x : X) → sum_each part (xs ++ x ∷ []) ≡ sum_each part xs +ℤ part x
sum_each-push part [] x = omega (arith, ints)
sum_each-push part (y ∷ xs) x = let rest = sum_each-push part xs x in omega (arith, ints, rest)

-- a sum over a list of which one element was exchanged
pub sum_each-set : {X : Type 0} (part : X → ℤ) (xs : List X) (i : ℕ) (x d : X) → i < length xs →
    sum_each part (set xs i x) ≡ (sum_each part xs -ℤ part (get_or xs i d)) +ℤ part x
sum_each-set part [] i x d inside = absurd (omega arith)
sum_each-set part (y ∷ xs) zero x d inside = omega (arith, ints)
sum_each-set part (y ∷ xs) (suc i) x d inside = let rest = sum_each-set part xs i x d (omega arith) in omega (arith, ints, rest)

-- a sum of nothing, any number of times
pub sum_each-replicate : {X : Type 0} (part : X → ℤ) (n : ℕ) (x : X) → part x ≡ pos 0 → sum_each part (replicate n x) ≡ pos 0
sum_each-replicate part zero x none = refl
sum_each-replicate part (suc n) x none = let rest = sum_each-replicate part n x none in omega (arith, ints, rest, none)

-- a sum over the first so many elements, and one more
pub sum_each-more : {X : Type 0} (part : X → ℤ) (xs : List X) (i : ℕ) (d : X) → i < length xs →
    sum_each part (take (i + 1) xs) ≡ sum_each part (take i xs) +ℤ part (get_or xs i d)
sum_each-more part xs i d inside = ap (sum_each part) (take_more xs i d inside) ∙ sum_each-push part (take i xs) (get_or xs i d)

-- the account of shares and one more
pub account_of_shares-push : (minutes : ℤ) (shares : List Share) (share : Share) →
    account_of_shares minutes (shares ++ share ∷ []) ≡ account_sum (account_of_shares minutes shares) (account_of_share minutes share)
unfolding account_of_shares
account_of_shares-push minutes [] share = account_sum-none (account_of_share minutes share) ∙ sym (none-account_sum (account_of_share minutes share))
account_of_shares-push minutes (first ∷ shares) share =
    ap (account_sum (account_of_share minutes first)) (account_of_shares-push minutes shares share)
    ∙ sym (account_sum_assoc (account_of_share minutes first) (account_of_shares minutes shares) (account_of_share minutes share))

-- the account of no share
pub account_of_shares-none : (minutes : ℤ) → account_of_shares minutes [] ≡ no_account
unfolding account_of_shares
account_of_shares-none minutes = refl

-- one more share is one of its own node, and of no other
own_share : (node : ℕ) (shares : List Share) (share : Share) → share.node ≡ node →
    shares_of node (shares ++ share ∷ []) ≡ shares_of node shares ++ share ∷ []
own_share node shares share same =
    let test : (share.node == node) ≡ true = eq-eqb share.node node same in
    filter-append (λ s. s.node == node) shares (share ∷ []) ∙ ap (λ more. shares_of node shares ++ more) (rw test refl)

other_share : (node : ℕ) (shares : List Share) (share : Share) → (share.node ≡ node → ⊥) →
    shares_of node (shares ++ share ∷ []) ≡ shares_of node shares
other_share node shares share different =
    let test : (share.node == node) ≡ false = ne_eqb share.node node different in
    let none : shares_of node (share ∷ []) ≡ [] = rw test refl in
    filter-append (λ s. s.node == node) shares (share ∷ []) ∙ ap (λ more. shares_of node shares ++ more) none ∙ append-nil (shares_of node shares)

-- shares of other nodes are none of the node
pub no_shares : (node : ℕ) (shares : List Share) → All (λ share. share.node ≢ node) shares → shares_of node shares ≡ []
no_shares node [] others = refl
no_shares node (share ∷ shares) others =
    let test : (share.node == node) ≡ false = ne_eqb share.node node (others 0 share (omega arith)) in
    rw test (no_shares node shares (λ k d inside. others (suc k) d (omega arith)))

-- of shares of different nodes the earlier ones are none of a later one's node
pub no_earlier : (shares : List Share) (i : ℕ) (d : Share) → AllPairs (λ one other. one.node ≢ other.node) shares → i < length shares →
    shares_of (get_or shares i d).node (take i shares) ≡ []
no_earlier shares i d different inside = no_shares (get_or shares i d).node (take i shares) (λ k e before.
    let earlier : k < i = omega (arith, length-take i shares) in
    λ same. different k i e earlier inside
    (ap (λ share. share.node) (sym (get_or-take i shares k e earlier)) ∙ same ∙ ap (λ share. share.node) (get_or_default shares i d e inside)))

-- an account within a limit is within a greater one
pub account_wider : (small big : ℕ) (account : Account) → small ≤ big → IsAccountWithin small account → IsAccountWithin big account
account_wider small big account more within = record {
  amount = wider small big account.amount more within.amount;
  taken = wider small big account.taken more within.taken;
  given = wider small big account.given more within.given;
}

-- all of a list of accounts
pub all_wider : (small big : ℕ) (accounts : List Account) → small ≤ big → All (IsAccountWithin small) accounts → All (IsAccountWithin big) accounts
all_wider small big accounts more all = λ k d inside. account_wider small big (get_or accounts k d) more (all k d inside)

-- an account without anything lies within any limit
pub no_account_within : (limit : ℕ) → IsAccountWithin limit no_account
no_account_within limit = record { amount = none-within limit; taken = none-within limit; given = none-within limit }

-- the account of any number, of a node or not
pub account_at_within : (limit : ℕ) (accounts : List Account) → All (IsAccountWithin limit) accounts → (node : ℕ) →
    IsAccountWithin limit (account_at accounts node)
account_at_within limit accounts all node = elim (cases_lt node (length accounts)) [
  | inl inside ↦ all node no_account inside
  | inr outside ↦ rw (get_or-eq_default accounts no_account {n = node} outside) (no_account_within limit)
]

-- no share is added yet
pub none_added : (minutes : ℤ) (accounts : List Account) → AreAdded minutes [] accounts accounts
none_added minutes accounts = record {
  gains = λ node. sym (ap (account_sum (account_at accounts node)) (account_of_shares-none minutes) ∙ account_sum-none (account_at accounts node));
  amounts = omega (arith, ints, zero-*ℤ minutes);
  powers = omega (arith, ints, zero-*ℤ minutes);
  within = λ limit. all_wider limit (limit + tick_limit) accounts (omega arith);
}

-- the account of a node to which its first share is added
gained_here : (minutes : ℤ) (shares : List Share) (share : Share) (old now : List Account) → share.node < length now → AreAdded minutes shares old now →
    account_at (set now share.node (account_sum (account_at now share.node) (account_of_share minutes share))) share.node
    ≡ account_sum (account_at old share.node) (account_of_shares minutes (shares_of share.node (shares ++ share ∷ [])))
gained_here minutes shares share old now inside added =
    let node = share.node in
    let gain = account_of_share minutes share in
    let before = account_of_shares minutes (shares_of node shares) in
    rw get_or-set_same (ap (λ account. account_sum account gain) (added.gains node)
    ∙ account_sum_assoc (account_at old node) before gain
    ∙ ap (account_sum (account_at old node)) (sym (account_of_shares-push minutes (shares_of node shares) share)
    ∙ ap (account_of_shares minutes) (sym (own_share node shares share refl))))

gained_other : (minutes : ℤ) (shares : List Share) (share : Share) (old now : List Account) (new : Account) (node : ℕ) →
    AreAdded minutes shares old now → (share.node ≡ node → ⊥) →
    account_at (set now share.node new) node ≡ account_sum (account_at old node) (account_of_shares minutes (shares_of node (shares ++ share ∷ [])))
gained_other minutes shares share old now new node added different =
    let other : node ≢ share.node = λ same. different (sym same) in
    rw get_or-set_other (added.gains node
    ∙ ap (λ own. account_sum (account_at old node) (account_of_shares minutes own)) (sym (other_share node shares share different)))

-- the account of a node that has no share yet is the old one
pub not_yet_added : (minutes : ℤ) (shares : List Share) (share : Share) (limit : ℕ) (old now : List Account) → AreAdded minutes shares old now →
    shares_of share.node shares ≡ [] → All (IsAccountWithin limit) old → IsAccountWithin limit (account_at now share.node)
not_yet_added minutes shares share limit old now added first all =
    let is : account_at now share.node ≡ account_at old share.node =
    added.gains share.node
    ∙ ap (λ own. account_sum (account_at old share.node) (account_of_shares minutes own)) first
    ∙ ap (account_sum (account_at old share.node)) (account_of_shares-none minutes)
    ∙ account_sum-none (account_at old share.node) in
    rw is (account_at_within limit old all share.node)

-- one more share is added, the first one of its node
pub share_added : (minutes : ℤ) (shares : List Share) (share : Share) (old now : List Account) → share.node < length now →
    AreAdded minutes shares old now → shares_of share.node shares ≡ [] → IsAccountWithin tick_limit (account_of_share minutes share) →
    AreAdded minutes (shares ++ share ∷ []) old (set now share.node (account_sum (account_at now share.node) (account_of_share minutes share)))
share_added minutes shares share old now inside added first within =
    let here = account_at now share.node in
    let gain = account_of_share minutes share in
    let new = account_sum here gain in
    record {
      gains = λ node. elim (cases_eq share.node node) [
        | inl same ↦
            subst (λ (n : ℕ). account_at (set now share.node new) n
            ≡ account_sum (account_at old n) (account_of_shares minutes (shares_of n (shares ++ share ∷ []))))
            same (gained_here minutes shares share old now inside added)
        | inr different ↦ gained_other minutes shares share old now new node added different
      ];
      amounts =
          let changed = sum_each-set (λ (account : Account). account.amount) now share.node new no_account inside in
          let more = ap (λ z. z *ℤ minutes) (sum_each-push share_cost shares share) in
          let times = sum-times (sum_each share_cost shares) (share_cost share) minutes in
          omega (arith, ints, changed, more, times, added.amounts);
      powers =
          let changed = sum_each-set net_taken now share.node new no_account inside in
          let more = ap (λ z. z *ℤ minutes) (sum_each-push (λ (s : Share). s.power) shares share) in
          let times = sum-times (sum_each (λ (s : Share). s.power) shares) share.power minutes in
          let one = net_taken-account_sum here gain in
          let its_own = net_taken-account_of minutes (share_cost share) share.power in
          omega (arith, ints, changed, more, times, one, its_own, added.powers);
      within = λ limit all.
          let before = not_yet_added minutes shares share limit old now added first all in
          All-set (IsAccountWithin (limit + tick_limit)) now share.node new
          (account_sum_within limit tick_limit (limit + tick_limit) here gain refl before within) (added.within limit all);
    }
