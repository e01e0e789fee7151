-- The laws of runs in which relays store and send at once.
use Rattle.pm_rounds.proofs.Storing.{run_can_go_on, run_settles_at_once, run_held_at_once}
use Rattle.pm_rounds.proofs.runs_settle.Goals as goal

pub returns-clause-goes_on : goal.returns-clause-goes_on
returns-clause-goes_on c lists p events law one by once = run_can_go_on lists law one p by events once

pub returns-clause-settles : goal.returns-clause-settles
returns-clause-settles c lists p events rounds law one by once are many = run_settles_at_once lists law one p by events once rounds are many

pub returns-clause-held : goal.returns-clause-held
returns-clause-held c lists p events rounds d law one by once are many leaf member =
    run_held_at_once lists law one p by events once rounds are many d leaf member
