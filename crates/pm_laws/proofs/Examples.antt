-- Small markets, worked out.
use Rattle.std.proofs.Common.{◌≡◌, ℕ, zero, suc, ◌+◌, ◌<◌, ◌≤◌, true, false, List, [], ◌∷◌, ◌++◌, refl, sym, ◌∙◌, ap}
use Rattle.std.proofs.Common.{arith}
use Rattle.std.specs.List.{flat_map}
use Rattle.pm_base.specs.Limits.{most_depth}
use Rattle.pm_market.specs.Lists.{Lists, IsNode, IsLeaf, IsInner, Lawful, parent, is_leaf, is_member, changes, is_below_in, is_below, is_leaf_of, path_depth_in}
use Rattle.pm_market.specs.Lists.{path_depth, end_count}
use Rattle.pm_market.specs.Lists.{way_up, child_at_or_above}
use Rattle.pm_market.specs.State.{start, update, all_to, sum_to, is_same_on, cut_at, newest_of, part_of, knowledge_of, greatest_number, number_of, last_of}
use Rattle.pm_market.specs.State.{addresses_of, last_index, clearings, cleared_cut}
use Rattle.pm_market.specs.Moves.{after, LegalJournal}
use Rattle.pm_market.specs.Held.{last_join, holds_price}
use Rattle.pm_laws.proofs.Facts.{end_zero}
use Rattle.pm_laws.proofs.Kept.{sound_start}
use Rattle.pm_laws.proofs.Legality.{journal_from}
use Rattle.pm_market.specs.Bound.{bound}
use Rattle.pm_market.specs.Legality.{is_one_of, learn_is_legal, publish_is_legal, clear_is_legal, pass_is_legal, is_idle_at, is_idle, change_is_legal, are_made}
use Rattle.pm_market.specs.Legality.{close_is_legal, is_legal, first_illegal}
use Rattle.pm_market.specs.declared.moves.Move.{Move}
use Rattle.pm_market.specs.declared.moves.Move.TheVariants.{Change, Learn, Publish, Clear, Pass, Close}

-- one device that joins, leaves and joins
abbrev one_device : Lists
one_device = record {
  parents = 0 ∷ [];
  leaves = true ∷ [];
  members = (true ∷ false ∷ true ∷ []) ∷ [];
  ends = (3 ∷ []) ∷ [];
}

abbrev rejoins : List Move
rejoins = Change 1 1 ∷ Learn 1 1 ∷ Clear 1 ∷ Change 1 2 ∷ Change 1 3 ∷ Pass 1 1 ∷ []

rejoins_legal : first_illegal one_device start rejoins ≡ 6
unfolding parent is_leaf is_member changes end_count is_below_in
    is_below is_leaf_of way_up child_at_or_above update all_to is_same_on cut_at newest_of part_of knowledge_of greatest_number number_of last_of addresses_of
    is_one_of learn_is_legal publish_is_legal clear_is_legal pass_is_legal is_idle_at is_idle change_is_legal are_made close_is_legal is_legal first_illegal
rejoins_legal = refl

-- the clearing passed last has number 1 of the device
rejoins_number : cleared_cut (after one_device rejoins) (last_index (after one_device rejoins) 1) 1 ≡ 1
unfolding parent is_leaf is_member changes end_count is_below_in
    is_below is_leaf_of way_up child_at_or_above update all_to is_same_on cut_at newest_of part_of knowledge_of greatest_number number_of last_of addresses_of
rejoins_number = refl

rejoins_to_the_end : first_illegal one_device start (rejoins ++ Learn 1 3 ∷ Clear 2 ∷ Pass 1 2 ∷ Close 1 ∷ []) ≡ 10
unfolding parent is_leaf is_member changes end_count is_below_in
    is_below is_leaf_of way_up child_at_or_above update all_to is_same_on cut_at newest_of part_of knowledge_of greatest_number number_of last_of addresses_of
    is_one_of learn_is_legal publish_is_legal clear_is_legal pass_is_legal is_idle_at is_idle change_is_legal are_made close_is_legal is_legal first_illegal
rejoins_to_the_end = refl

-- it may not be closed before
rejoins_not_closed : first_illegal one_device start (rejoins ++ Close 1 ∷ []) ≡ 6
unfolding parent is_leaf is_member changes end_count is_below_in
    is_below is_leaf_of way_up child_at_or_above update all_to is_same_on cut_at newest_of part_of knowledge_of greatest_number number_of last_of addresses_of
    is_one_of learn_is_legal publish_is_legal clear_is_legal pass_is_legal is_idle_at is_idle change_is_legal are_made close_is_legal is_legal first_illegal
rejoins_not_closed = refl

-- a concentrator with a device under it
abbrev one_under : Lists
one_under = record {
  parents = 0 ∷ 1 ∷ [];
  leaves = false ∷ true ∷ [];
  members = [] ∷ (true ∷ true ∷ true ∷ true ∷ true ∷ true ∷ true ∷ true ∷ true ∷ []) ∷ [];
  ends = (0 ∷ 9 ∷ []) ∷ [];
}

abbrev round : ℕ → List Move
round i = Change 2 i ∷ Learn 2 i ∷ Publish 1 i ∷ []

abbrev eight_rounds : List Move
eight_rounds = flat_map round (1 ∷ 2 ∷ 3 ∷ 4 ∷ 5 ∷ 6 ∷ 7 ∷ 8 ∷ [])

window_full : first_illegal one_under start (eight_rounds ++ Change 2 9 ∷ Learn 2 9 ∷ Publish 1 9 ∷ []) ≡ 26
unfolding parent is_leaf is_member changes end_count is_below_in
    is_below is_leaf_of way_up child_at_or_above update all_to is_same_on cut_at newest_of part_of knowledge_of greatest_number number_of last_of addresses_of
    is_one_of learn_is_legal publish_is_legal clear_is_legal pass_is_legal is_idle_at is_idle change_is_legal are_made close_is_legal is_legal first_illegal
window_full = refl

window_opens : first_illegal one_under start (eight_rounds ++ Change 2 9 ∷ Learn 2 9 ∷ Learn 1 8 ∷ Clear 1 ∷ Pass 1 1 ∷ Publish 1 9 ∷ []) ≡ 30
unfolding parent is_leaf is_member changes end_count is_below_in
    is_below is_leaf_of way_up child_at_or_above update all_to is_same_on cut_at newest_of part_of knowledge_of greatest_number number_of last_of addresses_of
    is_one_of learn_is_legal publish_is_legal clear_is_legal pass_is_legal is_idle_at is_idle change_is_legal are_made close_is_legal is_legal first_illegal
window_opens = refl

-- a concentrator under a concentrator, nine devices under it, and one more
abbrev two_levels : Lists
two_levels = record {
  parents = 0 ∷ 1 ∷ 2 ∷ 2 ∷ 2 ∷ 2 ∷ 2 ∷ 2 ∷ 2 ∷ 2 ∷ 2 ∷ 1 ∷ [];
  leaves = false ∷ false ∷ true ∷ true ∷ true ∷ true ∷ true ∷ true ∷ true ∷ true ∷ true ∷ true ∷ [];
  members = [] ∷ [] ∷ (true ∷ []) ∷ (true ∷ []) ∷ (true ∷ []) ∷ (true ∷ []) ∷ (true ∷ []) ∷ (true ∷ []) ∷ (true ∷ []) ∷
      (true ∷ []) ∷ (true ∷ []) ∷ (true ∷ []) ∷ [];
  ends = (0 ∷ 0 ∷ 1 ∷ 1 ∷ 1 ∷ 1 ∷ 1 ∷ 1 ∷ 1 ∷ 1 ∷ 1 ∷ 1 ∷ []) ∷ [];
}

abbrev upward : ℕ → List Move
upward i = Change (i + 2) 1 ∷ Learn (i + 2) 1 ∷ Publish 2 i ∷ Learn 2 i ∷ Publish 1 i ∷ []

abbrev both_full : List Move
both_full = flat_map upward (1 ∷ 2 ∷ 3 ∷ 4 ∷ 5 ∷ 6 ∷ 7 ∷ 8 ∷ []) ++ Change 11 1 ∷ Learn 11 1 ∷ Change 12 1 ∷ Learn 12 1 ∷ []

-- 44 moves are legal, then neither concentrator may publish
both_full_lower : first_illegal two_levels start (both_full ++ Publish 2 9 ∷ []) ≡ 44
unfolding parent is_leaf is_member changes end_count is_below_in
    is_below is_leaf_of way_up child_at_or_above update all_to is_same_on cut_at newest_of part_of knowledge_of greatest_number number_of last_of addresses_of
    is_one_of learn_is_legal publish_is_legal clear_is_legal pass_is_legal is_idle_at is_idle change_is_legal are_made close_is_legal is_legal first_illegal
both_full_lower = refl

both_full_upper : first_illegal two_levels start (both_full ++ Publish 1 9 ∷ []) ≡ 44
unfolding parent is_leaf is_member changes end_count is_below_in
    is_below is_leaf_of way_up child_at_or_above update all_to is_same_on cut_at newest_of part_of knowledge_of greatest_number number_of last_of addresses_of
    is_one_of learn_is_legal publish_is_legal clear_is_legal pass_is_legal is_idle_at is_idle change_is_legal are_made close_is_legal is_legal first_illegal
both_full_upper = refl

two_levels_bound : bound two_levels ≡ 271
unfolding is_leaf changes sum_to
two_levels_bound = refl

-- to the end: 12 more learnings and so on, until nothing is left but to close
abbrev pass_all : ℕ → List ℕ → List Move
pass_all j xs = flat_map (λ x. Pass x j ∷ []) xs

abbrev all_devices : List ℕ
all_devices = 3 ∷ 4 ∷ 5 ∷ 6 ∷ 7 ∷ 8 ∷ 9 ∷ 10 ∷ 11 ∷ []

-- the auctioneer alone can move, and then the windows open one after the other
abbrev unwound : List Move
unwound = both_full ++ Learn 1 8 ∷ Clear 1 ∷ Pass 1 1 ∷ Pass 2 1 ∷ Publish 2 9 ∷ Learn 2 9 ∷ Publish 1 9 ∷ Learn 1 9 ∷ Clear 2 ∷ Pass
    1 2 ∷ Pass 2 2 ∷ pass_all 2 all_devices ++ Pass 12 2 ∷ []

unwound_closes : first_illegal two_levels start (unwound ++ Close 1 ∷ []) ≡ 66
unfolding parent is_leaf is_member changes end_count is_below_in
    is_below is_leaf_of way_up child_at_or_above update all_to is_same_on cut_at newest_of part_of knowledge_of greatest_number number_of last_of addresses_of
    is_one_of learn_is_legal publish_is_legal clear_is_legal pass_is_legal is_idle_at is_idle change_is_legal are_made close_is_legal is_legal first_illegal
unwound_closes = refl

-- every device was passed the last clearing, with its number 1
unwound_last : (last_index (after two_levels unwound) 3 ≡ 2) × (last_index (after two_levels unwound) 12 ≡ 2)
    × (cleared_cut (after two_levels unwound) 2 12 ≡ 1) × (clearings (after two_levels unwound) ≡ 2)
unfolding parent is_leaf is_member changes end_count is_below_in
    is_below is_leaf_of way_up child_at_or_above update all_to is_same_on cut_at newest_of part_of knowledge_of greatest_number number_of last_of addresses_of
    is_one_of learn_is_legal publish_is_legal clear_is_legal pass_is_legal is_idle_at is_idle change_is_legal are_made close_is_legal is_legal first_illegal
unwound_last = (refl, refl, refl, refl)

only_the_auctioneer : (is_legal two_levels (after two_levels both_full) (Learn 1 8) ≡ true)
    × (is_legal two_levels (after two_levels both_full) (Clear 1) ≡ false)
unfolding parent is_leaf is_member changes end_count is_below_in
    is_below is_leaf_of way_up child_at_or_above update all_to is_same_on cut_at newest_of part_of knowledge_of greatest_number number_of last_of addresses_of
    is_one_of learn_is_legal publish_is_legal clear_is_legal pass_is_legal is_idle_at is_idle change_is_legal are_made close_is_legal is_legal first_illegal
only_the_auctioneer = (refl, refl)

-- the lists of one device are lawful, and its journal is a legal one
one_device_lawful : Lawful one_device
unfolding parent is_leaf is_member changes end_count path_depth_in path_depth
one_device_lawful = record {
  leaves = refl;
  earlier = λ x node. earlier x node;
  inner = λ x node. inner x node;
  depth = λ x node. depth x node;
  ends_rise = λ p d leaf lt. rise p d leaf lt;
  ends_last = λ d leaf. last_end d leaf;
}
  where
    one : (x : ℕ) → IsNode one_device x → x ≡ 1
    one x node = omega arith

    earlier : (x : ℕ) → IsNode one_device x → parent one_device x < x
    earlier x node = omega (arith, ap (parent one_device) (one x node))

    inner : (x : ℕ) → IsNode one_device x → IsInner one_device (parent one_device x)
    inner x node = ap (λ (z : ℕ). is_leaf one_device (parent one_device z)) (one x node)

    depth : (x : ℕ) → IsNode one_device x → path_depth one_device x ≤ most_depth
    depth x node = omega (arith, ap (path_depth one_device) (one x node))

    leaf_one : (d : ℕ) → IsLeaf one_device d → d ≡ 1
    leaf_one zero leaf = cc
    leaf_one (suc zero) leaf = refl
    leaf_one (suc (suc d)) leaf = cc

    rise : (p d : ℕ) → IsLeaf one_device d → p < 1 → end_count one_device p d ≤ end_count one_device (p + 1) d
    rise p d leaf lt = let e : p ≡ 0 = omega arith in omega (arith, ap (λ (q : ℕ). end_count one_device q d) e, end_zero one_device d)

    last_end : (d : ℕ) → IsLeaf one_device d → end_count one_device 1 d ≡ changes one_device d
    last_end d leaf = ap (end_count one_device 1) (leaf_one d leaf) ∙ ap (changes one_device) (sym (leaf_one d leaf))

one_device_journal : LegalJournal one_device (rejoins ++ Learn 1 3 ∷ Clear 2 ∷ Pass 1 2 ∷ Close 1 ∷ [])
one_device_journal = journal_from one_device one_device_lawful (rejoins ++ Learn 1 3 ∷ Clear 2 ∷ Pass 1 2 ∷ Close 1 ∷ []) start
    (sound_start one_device one_device_lawful) rejoins_to_the_end

-- after the pass of the old clearing it holds_price none, at the end it holds_price one
rejoins_holds : (holds_price one_device (after one_device rejoins) 1 ≡ false)
    × (holds_price one_device (after one_device (rejoins ++ Learn 1 3 ∷ Clear 2 ∷ Pass 1 2 ∷ [])) 1 ≡ true)
unfolding parent is_leaf is_member changes end_count is_below_in
    is_below is_leaf_of way_up child_at_or_above update all_to is_same_on cut_at newest_of part_of knowledge_of greatest_number number_of last_of addresses_of
    is_one_of learn_is_legal publish_is_legal clear_is_legal pass_is_legal is_idle_at is_idle change_is_legal are_made close_is_legal is_legal first_illegal
    last_join holds_price
rejoins_holds = (refl, refl)
