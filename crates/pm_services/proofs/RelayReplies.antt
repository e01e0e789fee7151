-- How many bytes the answers of a relay have.
use Rattle.std.proofs.Common.{◌≡◌, ℕ, ◌≤◌, ℤ, Bool, true, false, List, [], length, arith}
use Rattle.std.specs.Prelude.{if◌then◌else◌, nat_le}
use Rattle.pm_base.specs.Limits.{most_steps, most_nodes}
use Rattle.pm_wire.specs.Memory.{frame_limit}
use Rattle.pm_wire.specs.Frames.{frame_bytes}
use Rattle.pm_wire.specs.declared.frame.Frame.TheVariants.{Bid}
use Rattle.pm_wire.proofs.OneField.{length-demand_bytes}
use Rattle.pm_frames.specs.Stored.{StoredRelay, relay_resume_bytes, relay_resume_size}
use Rattle.pm_frames.proofs.OneNumber.{length-number_bytes}
use Rattle.pm_services.specs.Receipts.{receipt_bytes}

-- what a relay keeps over a restart
pub length-relay_resume : (stored : StoredRelay) → length stored.numbers ≡ most_nodes → length (relay_resume_bytes stored) ≡ relay_resume_size
length-relay_resume stored all = omega (arith, all, length-number_bytes stored.numbers)

-- a bid over a basis
pub bid_few : (child number : ℕ) (demand : List ℤ) → length demand ≤ most_steps → length (frame_bytes (Bid child number demand)) ≤ frame_limit
bid_few child number demand few = omega (arith, few, length-demand_bytes demand)

receipt_either : (test : Bool) (bytes : List ℕ) → length bytes ≤ 7 → length (if test then bytes else []) ≤ 7
receipt_either true bytes few = few
receipt_either false bytes few = omega arith

-- a receipt
pub receipt_few : (kept sender number : ℕ) → length (receipt_bytes kept sender number) ≤ 7
receipt_few kept sender number = receipt_either (nat_le number kept) _ (omega arith)
