-- The height of the operand stack along a list of nodes.
use Rattle.std.specs.Prelude.{ℕ, max}
use Rattle.flt_ast.specs.{Heights.height_after, Heights.peak_height, declared.node.Node.Node}

-- the height of the operand stack after one more node, and the greatest so far
abbrev pub climb : ℕ × ℕ → Node → ℕ × ℕ
climb s n = (height_after s.0 n, max s.1 (peak_height s.0 n))
