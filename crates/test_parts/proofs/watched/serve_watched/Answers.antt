-- Of `serve_watched`: the peer asks no more than what is due.
use Rattle.std.proofs.Common.{List, ℕ, [], Some, None, subst, sym, ◌∙◌}
use Rattle.pm_wire.specs.Frames.{bid_framing}
use Rattle.pm_wire.specs.Answers.{AreReplies}
use Rattle.pm_wire.specs.Moments.{HasAnswered, IsRestDue}
use Rattle.test_parts.proofs.watched.serve_watched.Goals as goal

pub serve_market-requires : goal.serve_market-requires
serve_market-requires c = record {
  read = λ now same has.
      let P : List ℕ → Type 0 = λ b. HasAnswered bid_framing None AreReplies (Some b) (Some now.source.left) (Some c.args.watch.now.sink.held)
      (Some now.sink.held) in
      let Q : List ℕ → Type 0 = λ h. HasAnswered bid_framing None AreReplies (Some now.bytes.items) (Some now.source.left) (Some h) (Some now.sink.held) in
      subst Q c.requires.empty (subst P (c.requires.fresh ∙ sym same) has);
  write = λ now piece same rest.
      let P : List ℕ → Type 0 = λ b. IsRestDue bid_framing None AreReplies (Some b) (Some now.source.left) (Some c.args.watch.now.sink.held)
      (Some now.sink.held) piece in
      let Q : List ℕ → Type 0 = λ h. IsRestDue bid_framing None AreReplies (Some now.bytes.items) (Some now.source.left) (Some h)
      (Some now.sink.held) piece in
      subst Q c.requires.empty (subst P (c.requires.fresh ∙ sym same) rest);
}
