-- What is filled in, over a tree's nodes.
use Rattle.std.specs.Prelude.{List, [], ◌∷◌}
use Rattle.flt_ast.specs.declared.{node.Node.Node, qualifiers.Qualifiers.Qualifiers}

-- the latest given qualifiers after one more node; q before it
abbrev pub next_latest : Qualifiers → Node → Qualifiers
next_latest q (Node.Valued p v) = p
next_latest q _ = q

-- a node; if it is a bare value, with these qualifiers
abbrev pub inherited_node : Qualifiers → Node → Node
inherited_node q (Node.Bare v) = Node.Valued q v
inherited_node q n = n

-- nodes whose bare values have the latest qualifiers before them, or q
abbrev pub inherited_nodes : Qualifiers → List Node → List Node
inherited_nodes q [] = []
inherited_nodes q (n ∷ rest) = inherited_node q n ∷ inherited_nodes (next_latest q n) rest
