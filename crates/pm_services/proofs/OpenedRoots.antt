-- What an auctioneer after Hello answers, by what the auctioneer that it holds answers.
use Rattle.std.proofs.Common.{◌≡◌, sym, refl, ℕ, ◌+◌, ◌≤◌, ℤ, List, ◌++◌, Some, inl, inr, arith}
use Rattle.pm_relay.specs.Roots.{RootValue, RootComesBack}
use Rattle.pm_wire.specs.declared.frame.Frame.TheVariants.{Bid}
use Rattle.pm_frames.specs.Answers.{too_much_bytes}
use Rattle.pm_frames.specs.Stored.{StoredRoot, root_resume_bytes}
use Rattle.pm_frames.specs.declared.root.RootFrame.{RootFrame}
use Rattle.pm_frames.specs.declared.root.RootFrame.TheVariants.{Market, Resume}
use Rattle.pm_services.specs.Bounds.{KeepsBound}
use Rattle.pm_services.specs.Limits.{root_reply_limit, prices_limit}
use Rattle.pm_services.specs.Receipts.{Appended}
use Rattle.pm_services.specs.RootWrites.{WritesRoot, WritesRootBid, root_bytes, root_bounds_after}
use Rattle.pm_services.specs.RootAnswers.{OpenRoot, WritesOpenRoot}
use Rattle.pm_services.proofs.Written.{mapped, says, says_nothing}

-- what the auctioneer that it holds answers to a frame that gives no bound is its own answer
pub opened : (old : OpenRoot) (frame : RootFrame) (after : RootValue) (most : ℕ) (out longer : List ℕ) → most ≤ root_reply_limit →
    root_bounds_after old.bounds frame ≡ old.bounds →
    Appended (root_bytes old.basis) (WritesRoot old.basis old.bounds old.root frame after) most out longer →
    Appended (root_bytes old.basis) (WritesOpenRoot old frame (record old { root = after })) root_reply_limit out longer
opened old frame after most out longer within stays a =
    mapped (root_bytes old.basis) (WritesRoot old.basis old.bounds old.root frame after) (WritesOpenRoot old frame (record old { root = after }))
    most root_reply_limit out longer within (λ outs writes. record { basis = refl; bounds = sym stays; held = writes }) a

-- a bid within the bound of its child is answered as the auctioneer answers it
pub counts : (old : OpenRoot) (sender number : ℕ) (demand : List ℤ) (after : RootValue) (out longer : List ℕ) → KeepsBound old.bounds sender demand →
    Appended (root_bytes old.basis) (WritesRootBid old.root sender number (Some demand) after) (7 + prices_limit) out longer →
    Appended (root_bytes old.basis) (WritesOpenRoot old (Market (Bid sender number demand)) (record old { root = after })) root_reply_limit out longer
counts old sender number demand after out longer keeps a =
    opened old (Market (Bid sender number demand)) after (7 + prices_limit) out longer (omega arith) refl
    (mapped (root_bytes old.basis) (WritesRootBid old.root sender number (Some demand) after)
    (WritesRoot old.basis old.bounds old.root (Market (Bid sender number demand)) after) (7 + prices_limit) (7 + prices_limit) out longer (omega arith)
    (λ outs writes. inl (keeps, writes)) a)

-- a bid beyond the bound of its child is answered TooMuch, and changes nothing
pub is_beyond : (old : OpenRoot) (sender number : ℕ) (demand : List ℤ) (out longer : List ℕ) → ¬ KeepsBound old.bounds sender demand →
    longer ≡ out ++ too_much_bytes sender number →
    Appended (root_bytes old.basis) (WritesOpenRoot old (Market (Bid sender number demand)) old) root_reply_limit out longer
is_beyond old sender number demand out longer beyond written =
    opened old (Market (Bid sender number demand)) old.root root_reply_limit out longer (omega arith) refl
    (says root_resume_bytes old.basis 0 (WritesRoot old.basis old.bounds old.root (Market (Bid sender number demand)) old.root)
    root_reply_limit out longer (too_much_bytes sender number) written (omega arith) (inr (beyond, refl, refl)))

-- an auctioneer that comes back with what it kept answers nothing
pub comes_back : (old : OpenRoot) (stored : StoredRoot) (after : RootValue) (out : List ℕ) →
    RootComesBack old.basis.steps stored.last stored.numbers after →
    Appended (root_bytes old.basis) (WritesOpenRoot old (Resume stored) (record old { root = after })) root_reply_limit out out
comes_back old stored after out back =
    opened old (Resume stored) after root_reply_limit out out (omega arith) refl
    (says_nothing root_resume_bytes old.basis 0 (WritesRoot old.basis old.bounds old.root (Resume stored) after) root_reply_limit out (back, refl))
