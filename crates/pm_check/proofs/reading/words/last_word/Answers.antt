-- Of `last_word`: its clause `told`.
use Rattle.std.proofs.Common.{◌∙◌, ap, ◌+◌, ◌++◌, ◌∷◌, List, ℕ, take, arith}
use Rattle.std.proofs.lemmas.List.{drop_all}
use Rattle.pm_check.proofs.Splitting.{parted_by}
use Rattle.pm_check.proofs.reading.words.last_word.Goals as goal

pub returns-then-end-bytes-2-clause-told : goal.returns-then-end-bytes-2-clause-told
returns-then-end-bytes-2-clause-told c =
    let bytes = c.args.bytes.now in
    let end = c.word_len-end.result in (
      c.word_len-end.ensures.word,
      parted_by bytes end 10 c.if-end-bytes.true c.if-bytes-end-eq10.true
          ∙ ap (λ (rest : List ℕ). take end bytes ++ 10 ∷ rest) (drop_all (end + 1) bytes (omega arith)),
    )
