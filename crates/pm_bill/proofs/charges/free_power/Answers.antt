-- Of `free_power`: the turns of its loop over `member`.
use Rattle.std.proofs.Common.{◌≡◌, ◌∙◌, sym, ap, subst, ℕ, ◌+◌, ◌<◌, pos, ◌+ℤ◌, Bool, true, false, cond, List, get_or, take, length}
use Rattle.std.proofs.Common.{to_z, w64, arith}
use Rattle.std.specs.Prelude.{◌==◌, All, filter}
use Rattle.std.proofs.lemmas.Bool.{eq-eqb, ne_eqb}
use Rattle.std.proofs.lemmas.Int.{ints}
use Rattle.pm_base.specs.Limits.{IsWithin, demand_limit}
use Rattle.pm_plan.specs.declared.end.MemberLine.{MemberLine}
use Rattle.pm_plan.specs.Plans.{group}
use Rattle.pm_bill.specs.Shares.{sum_each}
use Rattle.pm_bill.proofs.NodeSums.{sum_each-filter_more}
use Rattle.pm_bill.proofs.charges.free_power.Goals as goal
use Rattle.pm_bill.proofs.charges.free_power.Goals.{then-group_of-eq0, else-group_of-eq0}

abbrev no_line : MemberLine
no_line = record { node = 0; power = pos 0; number = 0 }

-- the power of the members so far that pass a test, as one member more adds to it or not
counted : (p : MemberLine → Bool) (members : List MemberLine) (i : ℕ) (b : Bool) → i < length members → p (get_or members i no_line) ≡ b →
    sum_each (λ member. member.power) (filter p (take (i + 1) members))
    ≡ sum_each (λ member. member.power) (filter p (take i members)) +ℤ cond b (get_or members i no_line).power (pos 0)
counted p members i b inside test =
    let front = sum_each (λ (member : MemberLine). member.power) (filter p (take i members)) in
    sum_each-filter_more (λ (member : MemberLine). member.power) p members i no_line inside
    ∙ ap (λ c. front +ℤ cond c (get_or members i no_line).power (pos 0)) test

pub loop-member-preserved : goal.loop-member-preserved
loop-member-preserved c =
    let members = c.members-member-items.result.now in
    let at = c.loop-member.member-index in
    let member = get_or members at no_line in
    let inside = c.loop-member-test.true in
    let free : MemberLine → Bool = λ line. group c.args.plan.now line.node == 0 in
    let powers = subst (All (λ (line : MemberLine). IsWithin demand_limit line.power)) (sym c.members-member-items.ensures) c.requires.powers in
    let power : IsWithin demand_limit member.power = powers at no_line inside in
    let few = ap length c.members-member-items.ensures in
    let before = c.loop-member.invariant.within in
    elim c.if-group_of-eq0.branch [
      | then-group_of-eq0 w ↦
          let more = counted free members at true inside (eq-eqb (group c.args.plan.now member.node) 0 (sym c.group_of.ensures ∙ w.if-group_of-eq0.true)) in
          let sum : to_z w64 c.if-group_of-eq0.power-bits ≡ to_z w64 c.loop-member.power-bits +ℤ member.power =
          omega (arith, ints, w.power-is, before, power, c.requires.few, few) in
          record {
            power = sum ∙ ap (λ z. z +ℤ member.power) c.loop-member.invariant.power ∙ sym more;
            within = record { low = omega (arith, ints, sum, before, power); high = omega (arith, ints, sum, before, power) };
          }
      | else-group_of-eq0 w ↦
          let more = counted free members at false inside
          (ne_eqb (group c.args.plan.now member.node) 0 (λ none. w.if-group_of-eq0.false (c.group_of.ensures ∙ none))) in
          let same : to_z w64 c.if-group_of-eq0.power-bits ≡ to_z w64 c.loop-member.power-bits +ℤ pos 0 = omega (arith, ints, w.power-is) in
          record {
            power = same ∙ ap (λ z. z +ℤ pos 0) c.loop-member.invariant.power ∙ sym more;
            within = record { low = omega (arith, ints, same, before); high = omega (arith, ints, same, before) };
          }
    ]
