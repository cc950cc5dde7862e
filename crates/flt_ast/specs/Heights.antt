-- Heights of the operand stack: how many numbers it holds while the nodes of a tree are evaluated
-- one by one, operands before their operator.
use Rattle.std.specs.Prelude.{ℕ, ◌+◌, ◌-◌}
use Rattle.flt_ast.specs.declared.node.Node.{Node}

-- the height of the stack after a node, if it was h: a number or `len` adds one, an operator
-- replaces two numbers by one, a comparison removes two, and other nodes keep the height
abbrev pub height_after : ℕ → Node → ℕ
height_after h (Node.Literal n) = h + 1
height_after h Node.Len = h + 1
height_after h (Node.Named n) = h + 1
height_after h (Node.Apply o) = h - 1
height_after h (Node.Compare c) = h - 2
height_after h _ = h

-- the greatest height of the stack during and after a node, if it was h: `less` and `greater` add
-- two numbers of their own, and remove them again
abbrev pub peak_height : ℕ → Node → ℕ
peak_height h (Node.Sized s n) = h + 2
peak_height h n = height_after h n
