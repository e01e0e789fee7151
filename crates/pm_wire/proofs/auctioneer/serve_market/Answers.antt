-- Of `serve_market`: what it tells of its answers, and that the peer asks no more.
use Rattle.std.proofs.Common.{◌≡◌, subst, ℕ, List, Option, None}
use Rattle.pm_wire.specs.declared.frame.Frame.{Frame}
use Rattle.pm_wire.specs.Frames.{bid_framing}
use Rattle.pm_wire.specs.Answers.{OpenMarket, AnswersFrame, AreReplies}
use Rattle.pm_wire.specs.Taking.{AnswersFrom}
use Rattle.pm_wire.proofs.Known.{from_start}
use Rattle.pm_wire.proofs.Weaker.{ends_by, as_due_by, reading_by, rest_by}
use Rattle.pm_wire.proofs.auctioneer.serve_market.Goals as goal

-- a server that is new knows nothing, so what it answered are the replies
replied : (server : Option OpenMarket) → server ≡ None → (frames : List Frame) (reply : List ℕ) → AnswersFrom AnswersFrame server frames reply →
    AreReplies frames reply
replied server is frames reply answers =
    let Q : Option OpenMarket → Type 0 = λ s. AnswersFrom AnswersFrame s frames reply in
    from_start frames reply (subst Q is answers)

pub returns-clause-ends : goal.returns-clause-ends
returns-clause-ends g c = ends_by bid_framing None _ AreReplies (replied _ c.new-server.ensures) _ _ _ _ _ _ _ c.serve_peer.ensures.ends

pub returns-clause-due : goal.returns-clause-due
returns-clause-due g c = λ all told.
    as_due_by bid_framing None _ AreReplies (replied _ c.new-server.ensures) all _ _ _ _ _ _ _ (c.serve_peer.ensures.due all told)

pub serve_peer-requires-clause-asks : goal.serve_peer-requires-clause-asks
serve_peer-requires-clause-asks g c = record {
  read = λ now so has. c.requires.read now so (reading_by bid_framing None _ AreReplies (replied _ c.new-server.ensures) _ _ _ _ has);
  write = λ now piece so rest. c.requires.write now piece so
      (rest_by bid_framing None _ AreReplies (replied _ c.new-server.ensures) _ _ _ _ piece rest);
}
