-- Of `service`: its clause `serves`.
use Rattle.pm_top.proofs.top.service.Goals as goal

pub returns-clause-serves : goal.returns-clause-serves
returns-clause-serves g c = record {
  served = c.serve.result;
  told = c.service_status.ensures;
  ends = c.serve.ensures.ends;
  due = c.serve.ensures.due;
}
