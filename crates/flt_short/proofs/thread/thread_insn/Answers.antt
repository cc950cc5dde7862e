-- An instruction is threaded by its operation.
use Rattle.flt_short.proofs.Common.{operation_of, Insn, JumpIf}
use Rattle.std.proofs.Common.{◌≡◌, Some, sym, ap, ◌∙◌, subst}
use Rattle.flt_short.specs.inside.Threads.{Moves, IsThreaded}
use Rattle.flt_short.proofs.Threading.{unknown_threaded, plain_threaded, test_threaded, jump_threaded, return_threaded}
use Rattle.flt_short.proofs.thread.thread_insn.Goals as goal

pub returns-in_default-decode : goal.returns-in_default-decode
returns-in_default-decode c = rw (← c.insn.view_is) (unknown_threaded _ _ _ _ _ (sym c.decode.ensures ∙ c.in_default-decode.is))

pub returns-then-goes_on_or_rejects : goal.returns-then-goes_on_or_rejects
returns-then-goes_on_or_rejects c =
    let o : operation_of c.args.insn.code ≡ Some c.in-Some.operation = ap (λ (i : Insn). operation_of i.code) (sym c.insn.view_is)
    ∙ sym c.decode.ensures ∙ c.in-Some.is in
    plain_threaded _ _ _ _ _ _ _ o (sym c.goes_on_or_rejects.ensures ∙ c.if-goes_on_or_rejects.true) (rw (rw o at c.pass_insn.ensures) at c.arrive.ensures)

pub returns-in-JumpIf : goal.returns-in-JumpIf
returns-in-JumpIf c =
    let view = c.insn-in-JumpIf.view_is in
    let hit = c.learn.new.known in
    let miss = c.learn-in-JumpIf.new.known in
    let following = c.args.following.now in
    let a = c.new_offset.result in
    let b = c.new_offset-in-JumpIf.result in
    let seen = c.arrive-in-JumpIf-2.new.seen in
    let o : operation_of c.args.insn.code ≡ Some (JumpIf c.in-JumpIf.field-0 c.in-JumpIf.field-1) = ap (λ (i : Insn). operation_of i.code)
    (sym c.insn.view_is) ∙ sym c.decode.ensures ∙ c.in-Some.is ∙ ap Some c.in-JumpIf.is in
    subst (λ (i : Insn). IsThreaded c.args.from c.args.here.now c.args.insn following (record i { jt = a; jf = b }) c.args.seen.now seen) (sym view)
    (test_threaded c.args.from c.args.here.now c.args.insn following hit miss c.args.seen.now c.arrive-in-JumpIf.new.seen seen a b c.in-JumpIf.field-0
    c.in-JumpIf.field-1 o
    c.learn.ensures c.learn-in-JumpIf.ensures
    (subst (λ (i : Insn). Moves hit following i.jt a) view c.new_offset.ensures)
    (subst (λ (i : Insn). Moves miss following i.jf b) view c.new_offset-in-JumpIf.ensures)
    c.arrive-in-JumpIf.ensures c.arrive-in-JumpIf-2.ensures)

pub returns-in-Jump : goal.returns-in-Jump
returns-in-Jump c = rw (← c.insn.view_is) (jump_threaded _ _ _ _ _ _ (sym c.decode.ensures ∙ c.in-Some.is ∙ ap Some c.in-Jump.is) c.arrive-in-Jump.ensures)

pub returns-in_default-operation : goal.returns-in_default-operation
returns-in_default-operation c =
    rw (← c.insn.view_is) (return_threaded _ _ _ _ c.in-Some.operation _ (sym c.decode.ensures ∙ c.in-Some.is)
    (sym c.goes_on_or_rejects.ensures ∙ c.if-goes_on_or_rejects.false) c.in_default-operation.not-JumpIf c.in_default-operation.not-Jump)
