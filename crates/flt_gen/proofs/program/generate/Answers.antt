-- The code of the nodes, after both rounds, is code of the expression, and what is laid out of it keeps every promise.
use Rattle.flt_gen.proofs.Common.{sym, subst, IsProgramOf, short_bound_of, JumpsAreNeeded, IsShort}
use Rattle.std.proofs.Common.{rules}
use Rattle.flt_gen.proofs.Whole.{IsMadeOf, made_short, laid_program, laid_valid, laid_short}
use Rattle.flt_gen.proofs.program.generate.Goals as goal

pub unreachable-requires : goal.unreachable-requires
unreachable-requires g c =
    let e = c.args.expr.now in let laid = c.in_ok-insns.ensures in let m = subst (λ code. IsMadeOf code e.expr c.args.link) (sym c.deref-3.ensures.value)
    (made_short c.args.link e.expr c.deref.result.now _ _ _ _ _ e.resolved.is_filled e.few_words e.short c.deref.ensures.value
    c.in_ok-nodes.ensures c.nodes.ensures c.in_ok-code.ensures c.in_ok-once.ensures c.in_ok-short.ensures) in
    laid_valid _ _ e.expr c.args.link e.short laid.at_most laid.valid m c.in-Err.field-0.0 c.in-Err.field-0.1 c.in-Err.ensures.refused.broken

pub returns : goal.returns
returns g c =
    let e = c.args.expr.now in let laid = c.in_ok-insns.ensures in let m = subst (λ code. IsMadeOf code e.expr c.args.link) (sym c.deref-3.ensures.value)
    (made_short c.args.link e.expr c.deref.result.now _ _ _ _ _ e.resolved.is_filled e.few_words e.short c.deref.ensures.value
    c.in_ok-nodes.ensures c.nodes.ensures c.in_ok-code.ensures c.in_ok-once.ensures c.in_ok-short.ensures) in
    let is = sym c.in-Ok.ensures.made.0 in
    record {
      decides = subst (λ prog. IsProgramOf prog e.expr c.args.link) is (laid_program _ _ e.expr c.args.link laid.answers laid.at_most m);
      jumps = subst JumpsAreNeeded is (laid.jumps m.is.no_jump);
      short = λ few. subst (λ prog. IsShort prog (short_bound_of e.expr)) is (laid_short _ _ e.expr c.args.link few laid.short m);
      fresh = search rules;
    }
