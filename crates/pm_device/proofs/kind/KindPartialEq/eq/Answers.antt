-- Of `KindPartialEq::eq`: its clauses `test` and `same`.
use Rattle.std.proofs.Common.{◌∙◌, ap}
use Rattle.std.proofs.lemmas.Bool.Decides.{Decides-at}
use Rattle.pm_device.specs.Keys.{key_of, are_same_keys}
use Rattle.pm_device.proofs.SameKinds.{same_kinds}
use Rattle.pm_device.proofs.kind.KindPartialEq.eq.Goals as goal

pub returns-clause-test : goal.returns-clause-test
returns-clause-test c =
    c.eq.ensures ∙ ap (λ key. are_same_keys key c.key-2.result) c.key.ensures ∙ ap (are_same_keys (key_of c.args.self.now)) c.key-2.ensures

pub returns-clause-same : goal.returns-clause-same
returns-clause-same c = Decides-at _ _ (returns-clause-test c) (same_kinds c.args.self.now c.args.other.now)
