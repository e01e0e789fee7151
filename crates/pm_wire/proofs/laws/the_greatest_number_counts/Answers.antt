-- Of `the_greatest_number_counts`: what it ensures.
use Rattle.pm_wire.proofs.Newest as newest
use Rattle.pm_wire.proofs.laws.the_greatest_number_counts.Goals as goal

pub returns : goal.returns
returns c = record { counts = newest.greatest_number_counts; none_counts = newest.none_counts }
