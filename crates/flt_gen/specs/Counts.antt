-- The bound of a program without `ja`.
use Rattle.std.specs.Prelude.{ℕ, ◌+◌, ◌*◌}
use Rattle.flt_ast.specs.{Counts.tests_of, Counts.nodes_of, Tree.Expression}

-- the most instructions that the program of an expression has, if it needs no `ja`
abbrev pub short_bound_of : Expression → ℕ
short_bound_of e = 2 + 4 * tests_of e + 6 * nodes_of e
