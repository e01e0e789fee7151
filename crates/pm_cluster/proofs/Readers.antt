-- What is read of a cluster.
use Rattle.std.proofs.Common.{◌≡◌, ◌∙◌, sym, ap, ℤ, refl, arith, w64, FitsSigned, to_z, of_z}
use Rattle.std.proofs.Math.Logic.{∥∥₁_elim}
use Rattle.std.proofs.Props.{props}
use Rattle.std.proofs.lemmas.Int.{ints, to_z-of_z}
use Rattle.std.specs.Prelude.{◌≤ℤ◌}
use Rattle.pm_basis.specs.Prices.{BasisValue, IsBasis}
use Rattle.pm_market.proofs.Tree.{leaf_zero}
use Rattle.pm_cache.specs.Cache.{Cache}
use Rattle.pm_plan.specs.Plans.{PlanData}
use Rattle.pm_plan.specs.Market.{plan_lists}
use Rattle.pm_stands.specs.Core.{Core}
use Rattle.pm_stands.specs.Stands.{Stands}
use Rattle.pm_stands.proofs.Caches.{cache_root}

-- the auctioneer's cache has the steps of the basis
pub auction_steps : (plan : PlanData) (c : Core) → ∥ Stands plan c ∥₁ → c.auctioneer.cache.steps ≡ plan.basis.steps
auction_steps plan c stands = ∥∥₁_elim stands (Prim.hlevel props) (λ st.
    sym (ap (λ (q : Cache). q.steps) (cache_root c.auctioneer c.concentrators 0 refl))
    ∙ st.is.shaped.cache_steps 0 (omega arith) (leaf_zero (plan_lists plan)))

-- a price between the least and the greatest of a basis is read back as it is
pub price_read : (basis : BasisValue) (price : ℤ) → IsBasis basis → basis.min ≤ℤ price → price ≤ℤ basis.max →
    to_z w64 (of_z w64 price) ≡ price
price_read basis price is low high =
    let fits : FitsSigned w64 price = omega (arith, ints, is.low, is.high) in
    to_z-of_z w64 price fits
