-- A bid that is taken over a link is one more that came, and the entries stay those that came.
use Rattle.std.proofs.Common.{◌≡◌, ◌∙◌, sym, ap, subst, ℕ, List, [], ◌∷◌, ◌++◌, Some, None, refl, inl, inr}
use Rattle.pm_cache.specs.Cache.{Cache}
use Rattle.pm_cache.specs.Learning.{after_learning}
use Rattle.pm_cells.specs.Ends.{LinkEnd}
use Rattle.pm_cells.specs.declared.message.UpMessage.{UpMessage}
use Rattle.pm_cells.specs.declared.message.Message.{Message}
use Rattle.pm_cells.specs.declared.message.Message.TheVariants.{Bid, Price}
use Rattle.pm_phase.specs.declared.matcher.Matcher.{Matcher}
use Rattle.pm_phase.specs.declared.matcher.Matcher.TheVariants.{Concentrator, Auctioneer}
use Rattle.pm_phase.specs.declared.parent.ParentPart.{ParentPart}
use Rattle.pm_phase.specs.Matchers.{cache_of_matcher, after_bid}
use Rattle.pm_phase.specs.Waiting.{TakesBidFromLink}
use Rattle.pm_phase.specs.TellingParents.{EntryCame, TakesIn, KeepsEntries, bids_among}
use Rattle.pm_phase.proofs.ParentKeeps.{entry_here, entry_other, entry_more}

-- the bids among messages, with one bid more
pub bids_push : (ms : List Message) (bid : UpMessage) → bids_among (ms ++ Bid bid ∷ []) ≡ bids_among ms ++ bid ∷ []
bids_push [] bid = refl
bids_push (Bid b ∷ ms) bid = ap (λ bs. b ∷ bs) (bids_push ms bid)
bids_push (Price p ∷ ms) bid = bids_push ms bid

-- the cache after a bid was learnt
pub cache_learnt : (m : Matcher) (k : ℕ) (bid : UpMessage) →
    cache_of_matcher (after_bid m k bid) ≡ after_learning (cache_of_matcher m) k bid.number bid.demand
cache_learnt (Concentrator g) k bid = refl
cache_learnt (Auctioneer a) k bid = refl

-- a bid came
pub heard_entries : (place : ℕ) (bid : UpMessage) (old new : LinkEnd) (parent parent' : ParentPart) → TakesBidFromLink old new (Some bid) →
    TakesIn place bid parent parent' → KeepsEntries place old new parent parent'
heard_entries place bid old new parent parent' taken (inl (may, learns)) =
    let m = parent.matcher in
    let is : after_learning (cache_of_matcher m) place bid.number bid.demand ≡ cache_of_matcher parent'.matcher =
    sym (ap cache_of_matcher learns.matcher ∙ cache_learnt m place bid) in
    let came : bids_among old.known.up.received ++ bid ∷ [] ≡ bids_among new.known.up.received =
    sym (ap (λ (e : LinkEnd). bids_among e.known.up.received) taken ∙ bids_push old.known.up.received bid) in
    record {
      here = λ before even entry. subst (λ (x : Cache × List UpMessage). EntryCame before x.0 place x.1) (λ i. (is i, came i))
          (entry_here (cache_of_matcher m) place bid may before (bids_among old.known.up.received) even);
      others = λ before other bids ne entry. subst (λ (x : Cache). EntryCame before x other bids) is
          (entry_other (cache_of_matcher m) place bid may before other bids ne entry);
    }
heard_entries place bid old new parent parent' taken (inr same) =
    let is : cache_of_matcher parent.matcher ≡ cache_of_matcher parent'.matcher = ap (λ (p : ParentPart). cache_of_matcher p.matcher) (sym same) in
    let came : bids_among old.known.up.received ++ bid ∷ [] ≡ bids_among new.known.up.received =
    sym (ap (λ (e : LinkEnd). bids_among e.known.up.received) taken ∙ bids_push old.known.up.received bid) in
    record {
      here = λ before even entry. subst (λ (x : Cache × List UpMessage). EntryCame before x.0 place x.1) (λ i. (is i, came i))
          (entry_more before (cache_of_matcher parent.matcher) place (bids_among old.known.up.received) bid entry);
      others = λ before other bids ne entry. subst (λ (x : Cache). EntryCame before x other bids) is entry;
    }

-- none came
pub no_entries : (place : ℕ) (old new : LinkEnd) (parent parent' : ParentPart) → TakesBidFromLink old new None → parent' ≡ parent →
    KeepsEntries place old new parent parent'
no_entries place old new parent parent' taken same =
    let is : cache_of_matcher parent.matcher ≡ cache_of_matcher parent'.matcher = ap (λ (p : ParentPart). cache_of_matcher p.matcher) (sym same) in
    let came = received taken in
    record {
      here = λ before even entry. subst (λ (x : Cache × List UpMessage). EntryCame before x.0 place x.1) (λ i. (is i, came i)) entry;
      others = λ before other bids ne entry. subst (λ (x : Cache). EntryCame before x other bids) is entry;
    }
  where
    received : TakesBidFromLink old new None → bids_among old.known.up.received ≡ bids_among new.known.up.received
    received (inl t) = ap (λ (e : LinkEnd). bids_among e.known.up.received) (sym t.1)
    received (inr (inl t)) = ap (λ (e : LinkEnd). bids_among e.known.up.received) (sym t)
    received (inr (inr t)) = ap (λ (e : LinkEnd). bids_among e.known.up.received) (sym t)
