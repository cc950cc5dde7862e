-- A text has a tree if the lexer and the parser accept it; otherwise one of them refuses it.
use Rattle.std.proofs.Common.{List, Ok, sym, subst}
use Rattle.flt_words.specs.{declared.token.Token.Token, Tokens.Tokens}
use Rattle.cap_filter.proofs.Expressions.{lexed-reason, parsed-reads, parsed-refused}
use Rattle.cap_filter.proofs.expression.read_tree.Goals as goal

pub returns-in-Ok-clause-read : goal.returns-in-Ok-clause-read
returns-in-Ok-clause-read g c =
    let P : List Token → Type 0 = λ l. Tokens c.args.text.now (Ok l) in
    parsed-reads c.args.text.now c.deref.result.now c.parse.result (subst P (sym c.deref.ensures.value) c.in-Ok.ensures.ok) c.parse.ensures.deep
    c.parse.ensures.ok

pub returns-in-Ok-clause-refused : goal.returns-in-Ok-clause-refused
returns-in-Ok-clause-refused g c =
    let P : List Token → Type 0 = λ l. Tokens c.args.text.now (Ok l) in
    parsed-refused c.args.text.now c.deref.result.now c.parse.result (subst P (sym c.deref.ensures.value) c.in-Ok.ensures.ok) c.parse.ensures.deep
    c.parse.ensures.none c.parse.ensures.err

pub returns-in-Err-clause-refused : goal.returns-in-Err-clause-refused
returns-in-Err-clause-refused g c = lexed-reason c.args.text.now c.in-Err.fault c.in-Err.ensures.err
