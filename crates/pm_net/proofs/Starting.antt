-- A network in which nothing was sent stands for the start.
use Rattle.std.proofs.Common.{◌≡◌, ◌∙◌, sym, ap, ℕ, inl, [], refl, arith}
use Rattle.pm_base.specs.Cuts.{Cut}
use Rattle.pm_market.specs.Lists.{Lists, IsNode, Lawful}
use Rattle.pm_market.specs.State.{start, cut_at, last_of, number}
use Rattle.pm_market.proofs.Cuts.{part_zero, entry_zero}
use Rattle.pm_laws.proofs.Kept.{sound_start, newest_zero}
use Rattle.pm_laws.proofs.Numbers.{number_of_part}
use Rattle.pm_laws.proofs.Published.{due_within}
use Rattle.pm_net.specs.Pricing.{Pricing, GoesByNodes}
use Rattle.pm_net.specs.Network.{start_network}
use Rattle.pm_net.specs.Agrees.{bid_of_number, NetworkAgrees}
use Rattle.pm_net.proofs.Gone.{nothing_is}

number_zero : (lists : Lists) → Lawful lists → (x i : ℕ) → IsNode lists x → i ≡ 0 → number lists start x (cut_at [] i) ≡ 0
number_zero lists law x i node e =
    number_of_part lists law start (sound_start lists law) x 0 (cut_at [] i) node (omega arith) (λ d leaf.
    ap (λ (k : ℕ). cut_at [] k d) e ∙ ap (λ (a : Cut). a d) (entry_zero []) ∙ sym (part_zero lists start.published x d))

-- the network in which nothing was sent stands for the start
pub starting : (lists : Lists) → Lawful lists → (p : Pricing) → GoesByNodes lists p → NetworkAgrees lists p (start_network p) start
unfolding last_of
starting lists law p by = record {
  sound = sound_start lists law;
  closed = refl;
  counts = λ d leaf. refl;
  heard = λ x node. (omega arith, nothing_is lists p by start x node);
  learnt = λ x node. sym (number_zero lists law x 0 node refl);
  last_number = λ c inner. refl;
  newest_numbers = λ x node. refl;
  records = λ x n node whole le. nothing_is lists p by start x node
      ∙ ap (bid_of_number lists p start x) (sym (number_zero lists law x n node (omega arith)));
  answered = λ c conc. refl;
  index = λ x node. omega arith;
  device_index = λ d leaf none. refl;
  taken = λ x node. inl refl;
  full = λ c j conc due le. absurd (let w = due_within lists start (sound_start lists law) c j due in omega (arith, w.0, w.1));
  last_sent = λ x node some. absurd (omega arith);
  bids_sent = λ x k node lt. absurd (omega arith);
  prices_sent = λ x k node lt. absurd (omega arith);
  newest_sent = λ none x node some. absurd (omega (arith, newest_zero lists x));
  whole_from = λ none c. refl;
  caught_up = λ none x node. omega arith;
  due_root = λ none x j node up due. absurd (
      let w = due_within lists start (sound_start lists law) x j due in omega (arith, w.0, w.1));
  due_through = λ x node p_conc at through all due. absurd (
      let w = due_within lists start (sound_start lists law) x 0 due in omega (arith, w.0));
}
