-- The programs of a compiled expression.
use Rattle.std.specs.{Coded.Coded, Coded.code_by, Coded.coded_list, Prelude.List}
use Rattle.flt_bpf.specs.Content.{Content}
use Rattle.flt_ast.specs.Nodes.{expr_nodes, tree_of}
use Rattle.flt_ast.specs.{Tree.Expression, Tree.empty, Tree.truth, declared.node.Node.Node, inside.Nodes.tree_back}
use Rattle.flt_ast.specs.contracts.node.Node as stored
use Rattle.cap_octet.specs.Link.{all_links}
use Rattle.cap_filter.specs.Programs.{AreMade}

-- an expression is stored as its nodes
abbrev pub coded_expression : Coded Expression
coded_expression = code_by (List Node) (coded_list stored.the_row.coded)
    expr_nodes tree_of tree_back

-- the expression isn't empty
abbrev pub IsTruth : Expression → Type 0
IsTruth empty = ⊥
IsTruth (truth a) = Unit {0}

-- the expression isn't empty, and has its program for each link
pub record HasPrograms (e : Expression) (programs : List Content) : Type 0 where
  pub some : IsTruth e
  pub made : AreMade e all_links programs
