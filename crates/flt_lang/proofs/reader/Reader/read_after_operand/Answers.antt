-- The number takes a prefix length, or the frames take the operand before the next token.
use Rattle.std.proofs.Common.{sym, ◌∙◌, inl, inr}
use Rattle.flt_lang.proofs.Stepping.{failed, same_given, prefix_taken, next_read}
use Rattle.flt_lang.proofs.reader.Reader.read_after_operand.Goals.{in_default-via-in-Some+else-operand_precedence-ge1, in_default-via-in_default}
use Rattle.flt_lang.proofs.reader.Reader.read_after_operand.Goals as goal

pub returns-in_err-reduced-in_default-clause-reads : goal.returns-in_err-reduced-in_default-clause-reads
returns-in_err-reduced-in_default-clause-reads g c =
    failed c.from_residual.result c.in_err-reduced-in_default.ensures.reads c.from_residual.ensures.1
    (λ none. next_read c.args.first _ c.args.self.now.frames c.args.operand c.args.self.now.nodes _ _
    (elim c.in_default.branch [
      | in_default-via-in-Some+else-operand_precedence-ge1 w ↦
          inr (rw w.operand_precedence.ensures at w.if-operand_precedence-ge1.false)
      | in_default-via-in_default w ↦
          inl (sym c.number_with_prefix.ensures.value ∙ w.in_default.is)
    ])
    c.token_precedence.ensures none)

pub returns-in-Some-clause-reads : goal.returns-in-Some-clause-reads
returns-in-Some-clause-reads g c =
    prefix_taken _ _ _ _ _ _ (sym c.in-Some.ensures.value) (rw c.operand_precedence.ensures at c.if-operand_precedence-ge1.true)

pub returns-in_ok-reduced-in_default-clause-reads : goal.returns-in_ok-reduced-in_default-clause-reads
returns-in_ok-reduced-in_default-clause-reads g c =
    same_given (next_read c.args.first _ c.args.self.now.frames c.args.operand c.args.self.now.nodes _ _
    (elim c.in_default.branch [
      | in_default-via-in-Some+else-operand_precedence-ge1 w ↦
          inr (rw w.operand_precedence.ensures at w.if-operand_precedence-ge1.false)
      | in_default-via-in_default w ↦
          inl (sym c.number_with_prefix.ensures.value ∙ w.in_default.is)
    ])
    c.token_precedence.ensures c.in_ok-reduced-in_default.ensures.reads.ok) c.shift_or_close.ensures.reads
