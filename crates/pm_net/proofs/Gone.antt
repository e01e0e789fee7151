-- When a bid is gone.
use Rattle.std.proofs.Common.{◌≡◌, ◌∙◌, sym, ap, ℕ, Bool, true, false, not, refl}
use Rattle.std.proofs.lemmas.Bool.{true≢false}
use Rattle.pm_bid.specs.Bids.{zeros}
use Rattle.pm_market.specs.Lists.{Lists, IsNode}
use Rattle.pm_market.specs.State.{State, part, no_changes}
use Rattle.pm_market.proofs.Cuts.{part_zero}
use Rattle.pm_net.specs.Pricing.{Pricing, GoesByNodes}
use Rattle.pm_net.specs.Messages.{bid_message, nothing_heard}
use Rattle.pm_laws.specs.Gone.{is_gone}
use Rattle.pm_laws.proofs.Gone.{gone_zero}
use Rattle.pm_net.specs.Agrees.{bid_of_number}

-- a node of which nothing was heard is one whose bid 0 was heard
pub nothing_is : (lists : Lists) (p : Pricing) → GoesByNodes lists p → (s : State) (x : ℕ) → IsNode lists x →
    nothing_heard p ≡ bid_of_number lists p s x 0
nothing_is lists p by s x node =
    ap (λ g. bid_message 0 g (zeros p.steps)) (sym (gone_zero lists x))
    ∙ ap (bid_message 0 (is_gone lists x 0)) (
    sym (by.alike x (part lists s x 0) no_changes (λ d leaf. part_zero lists s.published x d) ∙ by.nothing x node))

-- a test that is the negation of another
pub not_flips : (a b : Bool) → a ≡ not b → a ≡ false → b ≡ true
not_flips a true e f = refl
not_flips a false e f = absurd (true≢false (sym e ∙ f))
