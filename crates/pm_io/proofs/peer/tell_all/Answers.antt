-- Of `tell_all`: what its write requires; the turns of its loop over `written`.
use Rattle.std.proofs.Common.{arith, ◌∙◌, sym, subst, ℕ, List, take, drop, take-append-drop}
use Rattle.std.proofs.Math.Seq.{take-add}
use Rattle.std.proofs.lemmas.List.{take_rest}
use Rattle.std.proofs.KnownBytes.{Appends-trans}
use Rattle.pm_io.proofs.peer.tell_all.Goals as goal

pub write-requires : goal.write-requires
write-requires g c =
    let kept = c.loop-written.invariant in
    let written = c.loop-written.written in
    let Q : List ℕ → Type 0 = λ rest. g.W.Peer.may_write c.loop-written.wire rest in
    subst Q (sym (take_rest c.args.bytes.now written)) (c.requires.next _ (take written c.args.bytes.now) (drop written c.args.bytes.now)
    (sym (take-append-drop written c.args.bytes.now)) kept.becomes kept.left kept.appended)

pub loop-written-preserved : goal.loop-written-preserved
loop-written-preserved g c = record {
  within = omega (arith, c.in-Ok.ensures);
  count = omega (arith, c.write.ensures.cause);
  appended = rw take-add (Appends-trans _ _ _ _ _ c.loop-written.invariant.appended (rw take_rest at c.in-Ok.ensures.bytes));
  left = c.write.ensures.left ∙ c.loop-written.invariant.left;
  read_faults = c.write.ensures.read_faults ∙ c.loop-written.invariant.read_faults;
  becomes = g.met.W.Peer.goes_on _ _ _ c.loop-written.invariant.becomes c.write.ensures.becomes;
}
