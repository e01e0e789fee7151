-- The arguments name one node.
use Rattle.std.proofs.Common.{◌≡◌, ◌∙◌, sym, ap, ℕ, ℤ, List, get_or, drop, arith, refl, [], Option, Some, None}
use Rattle.std.specs.Prelude.{decimal}
use Rattle.std.specs.Fmt.{signed_decimal}
use Rattle.std.proofs.lemmas.Fmt.{decimal_injective}
use Rattle.pm_base.specs.Limits.{demand_limit}
use Rattle.pm_live.specs.LiveNodes.{IsNamed, IsChild, giver_words}
use Rattle.pm_frames.specs.Terms.{MayGive}
use Rattle.pm_live.specs.declared.named.LiveNode.{LiveNode}
use Rattle.pm_live.specs.declared.named.LiveNode.TheVariants.{Relay, Auctioneer, Device}
use Rattle.pm_live.proofs.Texts.{one_number}

one_child : (m n : ℕ) → IsChild m → IsChild n → decimal m ≡ decimal n → m ≡ n
one_child m n first second same = decimal_injective m n (omega (arith, first.last)) (omega (arith, second.last)) same

one_giver : (a b : Option ℕ) → MayGive a → MayGive b → giver_words a ≡ giver_words b → a ≡ b
one_giver None None first second same = refl
one_giver None (Some h) first second same = absurd (cc same)
one_giver (Some g) None first second same = absurd (cc same)
one_giver (Some g) (Some h) first second same =
    ap (λ (n : ℕ). Some n) (one_child g h (record { first = first.0; last = first.1 }) (record { first = second.0; last = second.1 })
    (ap (λ l. get_or l 0 []) same))

-- arguments that name two nodes name one
pub one_node : (arguments : List (List ℕ)) (a b : LiveNode) → IsNamed arguments a → IsNamed arguments b → a ≡ b
one_node arguments (Relay m y) (Relay n z) first second =
    let words = sym first.words ∙ second.words in
    let child = one_child m n first.may_be.0 second.may_be.0 (ap (λ l. get_or l 1 []) words) in
    let low = first.may_be.1.limits in
    let high = second.may_be.1.limits in
    let floor = one_number demand_limit demand_limit y.limits.floor z.limits.floor (signed_decimal y.limits.floor) (omega arith) (omega arith) low.floor
    high.floor refl (ap (λ l. get_or l 2 []) words) in
    let ceiling = one_number demand_limit demand_limit y.limits.ceiling z.limits.ceiling (signed_decimal y.limits.ceiling) (omega arith) (omega arith)
    low.ceiling high.ceiling refl (ap (λ l. get_or l 3 []) words) in
    let giver = one_giver y.giver z.giver first.may_be.1.giver second.may_be.1.giver (ap (λ l. drop 4 l) words) in
    ap (λ (c : ℕ). Relay c y) child
    ∙ ap (λ (f : ℤ). Relay n (record { limits = record { floor = f; ceiling = y.limits.ceiling }; giver = y.giver })) floor
    ∙ ap (λ (c : ℤ). Relay n (record { limits = record { floor = z.limits.floor; ceiling = c }; giver = y.giver })) ceiling
    ∙ ap (λ (g : Option ℕ). Relay n (record { limits = z.limits; giver = g })) giver
one_node arguments (Relay m y) Auctioneer first second = absurd (cc (sym first.words ∙ second.words))
one_node arguments (Relay m y) (Device n) first second = absurd (cc (sym first.words ∙ second.words))
one_node arguments Auctioneer (Relay n z) first second = absurd (cc (sym first.words ∙ second.words))
one_node arguments Auctioneer Auctioneer first second = refl
one_node arguments Auctioneer (Device n) first second = absurd (cc (sym first.words ∙ second.words))
one_node arguments (Device m) (Relay n z) first second = absurd (cc (sym first.words ∙ second.words))
one_node arguments (Device m) Auctioneer first second = absurd (cc (sym first.words ∙ second.words))
one_node arguments (Device m) (Device n) first second =
    ap (λ (c : ℕ). Device c) (one_child m n first.may_be second.may_be (ap (λ l. get_or l 1 []) (sym first.words ∙ second.words)))
