-- Of `split_whole_line`: its clause `whole`.
use Rattle.std.proofs.Common.{◌≡◌, ◌∙◌, ap, refl, ℕ, suc, ◌+◌, List, [], ◌∷◌, ◌++◌, length, take, add-one}
use Rattle.pm_check.proofs.lines.split_whole_line.Goals as goal

-- the bytes up to the first line feed, and the line feed
front_at : (line rest : List ℕ) → take (suc (length line)) (line ++ 10 ∷ rest) ≡ line ++ 10 ∷ []
front_at [] rest = refl
front_at (byte ∷ line) rest = ap (λ t. byte ∷ t) (front_at line rest)

pub returns-clause-whole : goal.returns-clause-whole
returns-clause-whole c =
    let line = c.in_ok-line.line.now in
    let rest = c.in_ok-line._rest.now in (
      line,
      (
        c.in_ok-line.ensures.some.no_line_feed,
        c.split_at.ensures.front ∙ ap (take (length line + 1)) c.in_ok-line.ensures.some.parts
            ∙ ap (λ n. take n (line ++ 10 ∷ rest)) (add-one (length line)) ∙ front_at line rest,
      ),
    )
