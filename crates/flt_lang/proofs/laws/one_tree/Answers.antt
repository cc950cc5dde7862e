-- The parser returns one list of nodes, so tokens have one tree.
use Rattle.std.proofs.Common.{sym, ◌∙◌}
use Rattle.{flt_ast.proofs.NodesBack.same_nodes, flt_lang.proofs.Complete.complete}
use Rattle.flt_lang.proofs.laws.one_tree.Goals as goal

pub returns : goal.returns
returns c = λ tokens a b reads_a reads_b.
    let same = sym (complete reads_a) ∙ complete reads_b in
    same_nodes a b cc
