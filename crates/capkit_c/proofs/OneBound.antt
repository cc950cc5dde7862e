-- A text is at most one expression, so one bound applies to all programs compiled from it.
use Rattle.capkit_c.proofs.Common.{◌≡◌, ◌≤◌, ℕ, List, length, ap, sym, subst, ◌∙◌, Insn, IsBound, IsFor}
use Rattle.flt_words.specs.declared.token.Token.{Token}
use Rattle.flt_words.proofs.OneAnswer.{same_answer}
use Rattle.flt_ast.specs.{Counts.bound_of, Filled.fill_expression, Tree.Expression}
use Rattle.flt_lang.specs.Grammar.{IsReadAs, kinds_of}
use Rattle.flt_lang.proofs.Complete.{complete}
use Rattle.flt_ast.proofs.NodesBack.{same_nodes}
use Rattle.cap_filter.specs.Expressions.{IsExpression, HasTree}

one_tree : (tokens more : List Token) (a b : Expression) → tokens ≡ more → IsReadAs (kinds_of tokens) a → IsReadAs (kinds_of more) b → a ≡ b
one_tree tokens more a b same reads_a reads_b =
    let P : List Token → Type 0 = λ ts. IsReadAs (kinds_of ts) a in
    let nodes = sym (complete (subst P same reads_a)) ∙ complete reads_b in
    same_nodes a b (cc)

one_reading : (text : List ℕ) (a b : Expression) → HasTree text a → HasTree text b → a ≡ b
one_reading text a b x y =
    let answers = same_answer x.lexed y.lexed in
    one_tree x.tokens y.tokens a b (cc) x.reads y.reads

one_expression : (text : List ℕ) (a b : Expression) → IsExpression text a → IsExpression text b → a ≡ b
one_expression text a b x y =
    x.settled.fills ∙ ap fill_expression (one_reading text x.tree y.tree x.read y.read) ∙ sym y.settled.fills

most_of : (text : List ℕ) (e : Expression) (link_type : ℕ) (prog : List Insn) → IsExpression text e → IsFor text link_type prog → length prog ≤ bound_of e
most_of text e link_type prog is for =
    let P : Expression → Type 0 = λ x. length prog ≤ bound_of x in
    subst P (one_expression text for.compiled.e e for.compiled.expression is) for.compiled.program.bounded

pub is_bound : (text : List ℕ) (e : Expression) (number : ℕ) → IsExpression text e → number ≡ bound_of e → IsBound text number
is_bound text e number is same = record {
  e = e;
  expression = is;
  is_bound = same;
  most = λ link_type prog for. subst (λ n. length prog ≤ n) (sym same) (most_of text e link_type prog is for);
}
