-- The parser's nodes are those of the tree.
use Rattle.flt_lang.specs.Grammar.{IsReadAs, kinds_of}
use Rattle.flt_lang.proofs.Sound.{found_is_tree, found_reads, no_tree}
use Rattle.std.proofs.{Common.arith, Common.sym, Common.subst, lemmas.Grind.common_steps}
use Rattle.flt_lang.proofs.parser.read_tree.Goals as goal

pub into_expr-requires : goal.into_expr-requires
into_expr-requires g c = found_is_tree (kinds_of c.args.tokens.now) c.read.new.self.nodes c.in_ok-read.ensures.reads.ok

pub returns-clause-ok : goal.returns-clause-ok
returns-clause-ok g c =
    subst (IsReadAs (kinds_of c.args.tokens.now)) (sym c.into_expr.ensures) (found_reads (kinds_of c.args.tokens.now) c.read.new.self.nodes
    c.in_ok-read.ensures.reads.ok)

pub returns-in_err-read-clause-none : goal.returns-in_err-read-clause-none
returns-in_err-read-clause-none g c = grind (arith, common_steps, no_tree)
