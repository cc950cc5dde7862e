-- A test for equality, or of bits, shows a number.
use Rattle.std.proofs.Common.{rules, arith, ◌≡◌, Some, sym, ap, ◌∙◌, subst}
use Rattle.flt_short.proofs.Common.{common_steps, operation_of, Insn, JumpIf, Constant, Test}
use Rattle.flt_short.specs.inside.Facts.{LearnsEqual, masked_held}
use Rattle.flt_short.proofs.Knowing.{learns_equal, learns_bits}
use Rattle.flt_short.specs.declared.facts.Held.TheVariants as held
use Rattle.flt_short.proofs.facts.learn.Goals as goal

pub returns-in-Field : goal.returns-in-Field
returns-in-Field c =
    let o : operation_of c.args.insn.code ≡ Some (JumpIf Test.Equal Constant) = search rules in
    let new = c.learn_equal.new.known in
    learns_equal c.args.known.now c.args.insn c.in-Field.field c.args.outcome new o c.in-Field.is
    (subst (λ (i : Insn). LearnsEqual c.args.known.now c.in-Field.field i.k c.args.outcome new) c.insn.view_is c.learn_equal.ensures)

pub returns-in-Field-masked_held : goal.returns-in-Field-masked_held
returns-in-Field-masked_held c =
    let f = c.in-Field-masked_held.field in
    let o : operation_of c.args.insn.code ≡ Some (JumpIf Test.AnyBit Constant) = grind (arith, common_steps) in
    let is : masked_held c.args.known.now.held c.args.insn.k ≡ held.Field f = ap (λ (i : Insn). masked_held c.args.known.now.held i.k)
    (sym c.insn.view_is) ∙ sym c.masked_held.ensures ∙ c.in-Field-masked_held.is in
    learns_bits c.args.known.now c.args.insn f c.args.outcome c.learn_equal-in-Field-masked_held.new.known o is c.learn_equal-in-Field-masked_held.ensures
