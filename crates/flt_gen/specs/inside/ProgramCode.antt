-- The code of an expression: the code of its formula, in front of two returns.
use Rattle.std.specs.Prelude.{ℕ, ◌-◌, List, [], ◌∷◌, length, drop}
use Rattle.flt_bpf.specs.declared.{insn.Insn.Insn, operation.Operation.TheVariants.ReturnConstant}
use Rattle.flt_words.specs.declared.token.Protocol.{Protocol}
use Rattle.flt_ast.specs.Tree.{Expression, empty, truth}
use Rattle.cap_octet.specs.declared.link.Link.{Link}
use Rattle.flt_gen.specs.{Numbers.accessor_tests, inside.Group.no_group, inside.Group.grouped_formula}
use Rattle.flt_gen.specs.inside.Code.{plain, Block, emit_formula, emit_all}

-- the tests of accessors, from the last to the first
abbrev pub emit_accessor_tests : Link → List Protocol → ℕ → ℕ → List Insn → Block
emit_accessor_tests link [] hit miss c = record { code = c; entry = hit }
emit_accessor_tests link (p ∷ ps) hit miss c =
    let e = emit_accessor_tests link ps hit miss c in
    emit_all (accessor_tests link p) e.entry miss e.code

-- the two returns at the end
abbrev pub returns_code : List Insn
returns_code = plain ReturnConstant 262144 ∷ plain ReturnConstant 0 ∷ []

-- the code of an expression, in front of the two returns; the empty expression has none. Hosts and
-- ports that stand one after the other with `or` between them are looked for together
abbrev pub expression_code : Link → Expression → Block
expression_code link empty = record { code = returns_code; entry = 2 }
expression_code link (truth a) =
    emit_formula link (grouped_formula link no_group a) 2 1 returns_code

-- the program of an expression: the instructions from the entry on
abbrev pub program_code : Link → Expression → List Insn
program_code link e = let b = expression_code link e in drop (length b.code - b.entry) b.code
