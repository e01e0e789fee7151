-- Of `setpoints_answer_offers`: its clauses `run`, `event`, `later` and 4 more.
use Rattle.pm_net.proofs.Membership.{of_membership}
use Rattle.pm_net.proofs.Offers.{few_kept, gives}
use Rattle.pm_net.proofs.Steps.{run_from_start, step_goes_on, cuts_rise, rising_from_start}
use Rattle.pm_net.proofs.devices.setpoints_answer_offers.Goals as goal

pub returns-clause-run : goal.returns-clause-run
returns-clause-run c lists p events law one by = run_from_start lists law one p by events

pub returns-clause-event : goal.returns-clause-event
returns-clause-event c lists p devices s e law one by agree = step_goes_on lists law one p by devices s agree e

pub returns-clause-later : goal.returns-clause-later
returns-clause-later c lists p s d a b law devices agree right le e leaf = cuts_rise lists p s d a b law devices agree right le e leaf

pub returns-clause-rising : goal.returns-clause-rising
returns-clause-rising c lists p events d runs = rising_from_start lists p events d runs

pub returns-clause-few : goal.returns-clause-few
returns-clause-few c agent window = few_kept agent window

pub returns-clause-given : goal.returns-clause-given
returns-clause-given c agent price window newer above given = gives agent price window newer above given

pub returns-clause-membership : goal.returns-clause-membership
returns-clause-membership c lists p d count index agent is = of_membership lists p d count index agent is
