-- The tokens of a meaning, written from the last node to the first: a node comes before its
-- operands, so what is written before or between them is pending until they are written.
use Rattle.std.specs.Prelude.{Bool, true, false, List, [], ◌∷◌}
use Rattle.flt_words.specs.declared.token.Operator.TheVariants.{Subtract}
use Rattle.flt_words.specs.declared.token.TokenKind.{TokenKind}
use Rattle.flt_words.specs.declared.token.TokenKind.TheVariants as token
use Rattle.flt_ast.specs.declared.node.Node.{Node}
use Rattle.flt_ast.specs.declared.node.Node.TheVariants as node
use Rattle.flt_ast.specs.Tree.{check, cast, sized, bare, valued, qualified, TruthTree}
use Rattle.flt_explain.specs.declared.backward.Pending.{Pending}
use Rattle.flt_explain.specs.declared.backward.Pending.TheVariants.{Front, Between}
use Rattle.flt_explain.specs.Explained.{close_operand, truth_tokens}

-- what is pending, latest first, and the tokens so far
pub record WriterState : Type 0 where
  pub pending : List Pending
  pub tokens : List TokenKind

-- after an operand is written, what is pending before it is written too, up to what comes between
-- it and the operand on its left
abbrev pub write_pending : List Pending → List TokenKind → WriterState
write_pending [] ts = record { pending = []; tokens = ts }
write_pending (Front t ∷ ps) ts = write_pending ps (t ∷ ts)
write_pending (Between t ∷ ps) ts = record { pending = ps; tokens = t ∷ ts }

-- what is pending, and the `(` before it if a node is an operand
abbrev pub parenthesis_before : Bool → List Pending → List Pending
parenthesis_before true ps = Front token.Open ∷ ps
parenthesis_before false ps = ps

-- A node whose operands are written next: what comes before or between them is pending. If the node
-- is an operand, the `)` after them is written, and the `(` before them is pending too.
abbrev pub around : Bool → Pending → WriterState → WriterState
around operand p s =
    record { pending = p ∷ parenthesis_before operand s.pending; tokens = close_operand operand s.tokens }

-- a primitive is written, and then what is pending before it
abbrev pub with_primitive : Bool → TruthTree → WriterState → WriterState
with_primitive operand a s = write_pending s.pending (truth_tokens operand a s.tokens)

-- a node is written before those that are written already; its operands come next
abbrev pub write_node : Bool → Node → WriterState → WriterState
write_node operand (node.Check p) s = with_primitive operand (check p) s
write_node operand (node.Cast p c) s = with_primitive operand (cast p c) s
write_node operand (node.Sized z n) s = with_primitive operand (sized z n) s
write_node operand (node.Bare v) s = with_primitive operand (bare v) s
write_node operand (node.Valued q v) s = with_primitive operand (valued q v) s
write_node operand (node.Qualified q v) s = with_primitive operand (qualified q v) s
write_node operand (node.Compare c) s = around operand (Between (token.Comparison c)) s
write_node operand node.Not s = around operand (Front token.Not) s
write_node operand (node.Join j) s = around operand (Between (token.Join j)) s
write_node operand (node.Literal n) s = write_pending s.pending (token.Number n ∷ s.tokens)
write_node operand node.Len s = write_pending s.pending (token.Len ∷ s.tokens)
write_node operand (node.Named n) s = write_pending s.pending (token.Name n ∷ s.tokens)
write_node operand (node.Load p z) s =
    record {
      pending = Front token.OpenBracket ∷ Front (token.Protocol p) ∷ s.pending;
      tokens = token.Colon ∷ token.Number z ∷ token.CloseBracket ∷ s.tokens;
    }
write_node operand node.Negate s = around true (Front (token.Operator Subtract)) s
write_node operand (node.Apply o) s = around true (Between (token.Operator o)) s

-- whether nodes remain
abbrev pub is_more : List Node → Bool
is_more [] = false
is_more (n ∷ rest) = true

-- what is pending and the tokens, once the nodes from an index on are written; the last one isn't
-- an operand
abbrev pub write_nodes : List Node → WriterState
write_nodes [] = record { pending = []; tokens = [] }
write_nodes (n ∷ rest) = write_node (is_more rest) n (write_nodes rest)
