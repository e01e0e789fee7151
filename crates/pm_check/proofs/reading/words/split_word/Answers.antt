-- Of `split_word`: its clauses `told` and `none`.
use Rattle.std.proofs.Common.{◌≡◌, ◌∙◌, sym, ap, ℕ, ◌+◌, ◌-◌, List, ◌∷◌, ◌++◌, length, take, drop, arith}
use Rattle.std.proofs.lemmas.List.{length-drop}
use Rattle.pm_check.proofs.Splitting.{EndsAt, no_blank, parted_by, take_all}
use Rattle.pm_check.proofs.reading.words.split_word.Goals as goal
use Rattle.pm_check.proofs.reading.words.split_word.Goals.{else-end-bytes-via-then-end-bytes+else-bytes-end-eq32, else-end-bytes-via-else-end-bytes}

pub returns-then-bytes-end-eq32-clause-told : goal.returns-then-bytes-end-eq32-clause-told
returns-then-bytes-end-eq32-clause-told c =
    let bytes = c.args.bytes.now in
    let end = c.word_len-end.result in
    let all : take (length bytes - (end + 1)) (drop (end + 1) bytes) ≡ drop (end + 1) bytes =
    take_all (drop (end + 1) bytes) (length bytes - (end + 1)) (omega (arith, length-drop (end + 1) bytes)) in (
      c.word_len-end.ensures.word,
      parted_by bytes end 32 c.if-end-bytes.true c.if-bytes-end-eq32.true ∙ ap (λ (rest : List ℕ). take end bytes ++ 32 ∷ rest) (sym all),
    )

pub returns-else-end-bytes-clause-none : goal.returns-else-end-bytes-clause-none
returns-else-end-bytes-clause-none c none =
    let bytes = c.args.bytes.now in
    let end = c.word_len-end.result in
    let ends : EndsAt bytes end = record { within = c.word_len-end.ensures.within; word = c.word_len-end.ensures.word; low = c.word_len-end.ensures.end } in
    no_blank bytes end ends (λ inside blank. elim c.else-end-bytes.branch [
      | else-end-bytes-via-then-end-bytes+else-bytes-end-eq32 w ↦ w.if-bytes-end-eq32.false blank
      | else-end-bytes-via-else-end-bytes w ↦ absurd (omega (arith, inside, w.if-end-bytes.false))
    ])
