-- The check for divisions by 0, over a tree's nodes.
use Rattle.std.specs.Prelude.{Bool, false, ◌&&◌, ◌||◌, ◌==◌, List, [], ◌∷◌}
use Rattle.flt_ast.specs.{Checks.is_division, declared.node.Node.Node}

-- whether the node is literally the number 0
abbrev pub is_zero_node : Node → Bool
is_zero_node (Node.Literal n) = n == 0
is_zero_node _ = false

-- whether the node is a division or a remainder
abbrev pub is_division_node : Node → Bool
is_division_node (Node.Apply o) = is_division o
is_division_node _ = false

-- whether some division comes right after its divisor 0; `before` states whether the node before
-- these is 0
abbrev pub some_zero_divisor : Bool → List Node → Bool
some_zero_divisor before [] = false
some_zero_divisor before (n ∷ rest) =
    (is_division_node n && before) || some_zero_divisor (is_zero_node n) rest
