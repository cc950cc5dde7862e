-- The code of a formula, which is emitted in front of the code that is present.
use Rattle.std.specs.Prelude.{ℕ, ◌+◌, ◌-◌, ◌%◌, ◌^◌, true, false, ◌==◌, ◌&&◌, if◌then◌else◌, Bool, List, [], ◌∷◌, length, Option, Some, None}
use Rattle.flt_bpf.specs.declared.operation.Operation.TheVariants.{LoadAbsolute, LoadIndirect, Load, LoadHeaderLength, Store, Compute, Negate, JumpIf, CopyToIndex}
use Rattle.flt_bpf.specs.declared.operation.{Test.Test, Width.Width, Width.TheVariants.Word, Width.TheVariants.HalfWord, Width.TheVariants.Byte}
use Rattle.flt_words.specs.declared.token.Operator.TheVariants.{Or, And, ShiftLeft, ShiftRight, Add, Subtract, Multiply, Divide, Remainder, ExclusiveOr}
use Rattle.std.specs.Option.{is_none, option_map_or}
use Rattle.flt_bpf.specs.{Check.constant_fault, Instructions.code_of}
use Rattle.flt_bpf.specs.declared.{insn.Insn.Insn, operation.AluOperation.AluOperation, operation.Operation.Operation}
use Rattle.flt_bpf.specs.declared.operation.Operand.{Operand, TheVariants.Constant, TheVariants.IndexRegister}
use Rattle.flt_bpf.specs.declared.operation.Register.TheVariants.{Accumulator, Index}
use Rattle.flt_bpf.specs.declared.operation.Source.TheVariants.{Immediate, Memory, Length}
use Rattle.flt_words.specs.declared.token.{Comparison.Comparison, Operator.Operator, Protocol.Protocol}
use Rattle.flt_words.specs.declared.token.Comparison.TheVariants.{Equal, NotEqual, Less, AtMost, Greater, AtLeast}
use Rattle.flt_words.specs.declared.token.Protocol.TheVariants.{Ether, Tcp, Udp, Icmp}
use Rattle.flt_ast.specs.Tree.{NumberTree, literal, len, named, load, negated, applied}
use Rattle.cap_octet.specs.{Link.network_offset, declared.link.Link.Link}
use Rattle.flt_gen.specs.{Elementary.with, Numbers.width_of}
use Rattle.flt_gen.specs.Formula.{Formula, Single, Compare, Both, Either, Except, Split}
use Rattle.flt_gen.specs.declared.elementary.Elementary.{Elementary, TheVariants.Outcome, TheVariants.Field}
use Rattle.flt_gen.specs.declared.elementary.{FieldPlace.FieldPlace, FieldTest.FieldTest, Offset.Offset}
use Rattle.flt_gen.specs.declared.elementary.Offset.TheVariants.{Fixed, AfterHeader, AtIndex}

-- an instruction that isn't a test
abbrev pub plain : Operation → ℕ → Insn
plain operation k = record { code = code_of operation; jt = 0; jf = 0; k = k }

-- the machine's operator for one of an expression
abbrev pub alu_operation : Operator → AluOperation
alu_operation Add = AluOperation.Add
alu_operation Subtract = AluOperation.Subtract
alu_operation Multiply = AluOperation.Multiply
alu_operation Divide = AluOperation.Divide
alu_operation Or = AluOperation.Or
alu_operation And = AluOperation.And
alu_operation ShiftLeft = AluOperation.ShiftLeft
alu_operation ShiftRight = AluOperation.ShiftRight
alu_operation Remainder = AluOperation.Remainder
alu_operation ExclusiveOr = AluOperation.ExclusiveOr

-- an operator with X, or with a constant
abbrev pub computation : Operator → Operand → Operation
computation operator operand = Compute (alu_operation operator) operand

-- whether an operator's instruction may have a constant: a division by 0 and a shift by 32 or more
-- aren't valid with one
abbrev pub takes_constant : Operator → ℕ → Bool
takes_constant operator k = is_none (constant_fault (alu_operation operator) k)

-- the number that arithmetic is, or none if it is anything else; a name was folded to its number
abbrev pub constant : NumberTree → Option ℕ
constant (literal k) = Some k
constant _ = None

-- the right operand that goes into the operator's instruction, or none if it isn't a constant or
-- may not stand there
abbrev pub constant_operand : Operator → NumberTree → Option ℕ
constant_operand operator r = with (constant r) (λ k. if takes_constant operator k then Some k else None)

-- a test that skips this many instructions if it holds, and this many if it doesn't
abbrev pub branch_insn : Test → Operand → ℕ → ℕ → ℕ → Insn
branch_insn test operand k jt jf = record {
  code = code_of (JumpIf test operand);
  jt = jt;
  jf = jf;
  k = k;
}

-- a test in front of code, which goes on at one of two places, each given as the number of
-- instructions from there to the end
abbrev pub emit_branch : Test → Operand → ℕ → ℕ → ℕ → List Insn → List Insn
emit_branch test operand k hit miss c =
    branch_insn test operand k (length c - hit) (length c - miss) ∷ c

-- the machine has three of the six comparisons; the others exchange the places
abbrev pub emit_comparison : Comparison → Operand → ℕ → ℕ → ℕ → List Insn → List Insn
emit_comparison Equal operand k hit miss c = emit_branch Test.Equal operand k hit miss c
emit_comparison NotEqual operand k hit miss c = emit_branch Test.Equal operand k miss hit c
emit_comparison Less operand k hit miss c = emit_branch Test.AtLeast operand k miss hit c
emit_comparison AtMost operand k hit miss c = emit_branch Test.Greater operand k miss hit c
emit_comparison Greater operand k hit miss c = emit_branch Test.Greater operand k hit miss c
emit_comparison AtLeast operand k hit miss c = emit_branch Test.AtLeast operand k hit miss c

-- a field's number goes into A
abbrev pub emit_field : Offset → Width → List Insn → List Insn
emit_field (Fixed k) width c = plain (LoadAbsolute width) k ∷ c
emit_field (AfterHeader header k) width c =
    plain LoadHeaderLength header ∷ plain (LoadIndirect width) k ∷ c
emit_field (AtIndex index k) width c =
    plain (Load Index Immediate) index ∷ plain (LoadIndirect width) k ∷ c

-- of A only the bits of a mask are left
abbrev pub emit_mask : Option ℕ → List Insn → List Insn
emit_mask None c = c
emit_mask (Some mask) c = plain (Compute AluOperation.And Constant) mask ∷ c

-- the field as far past a fixed place as the number in A goes into A
abbrev pub emit_base : ℕ → Width → List Insn → List Insn
emit_base at width c = plain CopyToIndex 0 ∷ plain (LoadIndirect width) at ∷ c

-- the field as far past the IPv4 header as the number in A goes into A
abbrev pub emit_transport : Link → Width → List Insn → List Insn
emit_transport link width c =
    plain LoadHeaderLength (network_offset link) ∷ plain (Compute AluOperation.Add IndexRegister) 0
    ∷ emit_base (network_offset link) width c

-- an accessor's field goes into A, its index being there
abbrev pub emit_accessor : Link → Protocol → Width → List Insn → List Insn
emit_accessor link Ether width c = emit_base 0 width c
emit_accessor link Tcp width c = emit_transport link width c
emit_accessor link Udp width c = emit_transport link width c
emit_accessor link Icmp width c = emit_transport link width c
emit_accessor link _ width c = emit_base (network_offset link) width c

-- the place of an accessor's field with a constant index
abbrev pub accessor_offset : Link → Protocol → ℕ → Offset
accessor_offset link Ether k = Fixed ((0 + k) % 2 ^ 32)
accessor_offset link Tcp k = AfterHeader (network_offset link) ((network_offset link + k) % 2 ^ 32)
accessor_offset link Udp k = AfterHeader (network_offset link) ((network_offset link + k) % 2 ^ 32)
accessor_offset link Icmp k = AfterHeader (network_offset link) ((network_offset link + k) % 2 ^ 32)
accessor_offset link _ k = Fixed ((network_offset link + k) % 2 ^ 32)

-- the right operand, which is in A, goes into X, and the left one comes back into A from its word
abbrev pub emit_operands : ℕ → List Insn → List Insn
emit_operands slot c = plain CopyToIndex 0 ∷ plain (Load Accumulator Memory) slot ∷ c

-- arithmetic's value goes into A; the words from slot on are free for it. A left operand goes into a
-- word before a right one is computed
abbrev pub emit_number : Link → NumberTree → ℕ → List Insn → List Insn
emit_number link (literal k) slot c = plain (Load Accumulator Immediate) k ∷ c
emit_number link (named k) slot c = plain (Load Accumulator Immediate) k ∷ c
emit_number link len slot c = plain (Load Accumulator Length) 0 ∷ c
emit_number link (load protocol size i) slot c =
    option_map_or (λ k. emit_field (accessor_offset link protocol k) (width_of size) c) (constant i)
    (emit_number link i slot (emit_accessor link protocol (width_of size) c))
emit_number link (negated a) slot c = emit_number link a slot (plain Negate 0 ∷ c)
emit_number link (applied operator l r) slot c =
    emit_number link l slot (option_map_or (λ k. plain (computation operator Constant) k ∷ c)
    (constant_operand operator r) (plain (Store Accumulator) slot ∷ emit_number link r (slot + 1)
    (emit_operands slot (plain (computation operator IndexRegister) 0 ∷ c))))

-- two numbers are computed and compared, and the code goes on at one of two places
abbrev pub emit_relation : Link → Comparison → NumberTree → NumberTree → ℕ → ℕ → List Insn
    → List Insn
emit_relation link comparison l r hit miss c =
    emit_number link l 0 (option_map_or (λ k. emit_comparison comparison Constant k hit miss c)
    (constant r) (plain (Store Accumulator) 0 ∷ emit_number link r 1 (emit_operands 0
    (emit_comparison comparison IndexRegister 0 hit miss c))))

-- code, and the place at which it is entered
pub record Block : Type 0 where
  pub code : List Insn
  pub entry : ℕ

-- this code, entered at this place
abbrev pub block : List Insn → ℕ → Block
block c entry = record { code = c; entry = entry }

-- code that is entered at its first instruction
abbrev pub at_top : List Insn → Block
at_top c = record { code = c; entry = length c }

-- both places are the same
abbrev pub same_offset : Offset → Offset → Bool
same_offset (Fixed j) (Fixed k) = j == k
same_offset (AfterHeader g j) (AfterHeader h k) = g == h && j == k
same_offset (AtIndex g j) (AtIndex h k) = g == h && j == k
same_offset _ _ = false

-- both widths are the same
abbrev pub same_width : Width → Width → Bool
same_width Word Word = true
same_width HalfWord HalfWord = true
same_width Byte Byte = true
same_width _ _ = false

-- both masks are the same, or there is none
abbrev pub same_mask : Option ℕ → Option ℕ → Bool
same_mask None None = true
same_mask (Some j) (Some k) = j == k
same_mask _ _ = false

-- a test looks at the bits of the field that A holds, if it holds one
abbrev pub is_loaded : Option FieldPlace → FieldTest → Bool
is_loaded None t = false
is_loaded (Some f) t =
    same_offset f.offset t.offset && (same_width f.width t.width && same_mask f.mask t.mask)

-- the field that A holds after a test, if that is one of a field
abbrev pub left_by : Elementary → Option FieldPlace
left_by (Outcome b) = None
left_by (Field t) = Some (record { offset = t.offset; width = t.width; mask = t.mask })

-- an elementary test: a field is loaded and masked, unless A holds it, and compared; what the link
-- type decides takes no code
abbrev pub emit_test : Option FieldPlace → Elementary → ℕ → ℕ → List Insn → Block
emit_test held (Outcome true) hit miss c = block c hit
emit_test held (Outcome false) hit miss c = block c miss
emit_test held (Field t) hit miss c =
    let d = emit_comparison t.comparison Constant t.value hit miss c in
    at_top (if is_loaded held t then d else emit_field t.offset t.width (emit_mask t.mask d))

-- an elementary test of a field that A doesn't hold
abbrev pub emit_elementary : Elementary → ℕ → ℕ → List Insn → Block
emit_elementary t hit miss c = emit_test None t hit miss c

-- the code of a formula that goes on at one of two places. A test by which one of two formulas is
-- chosen doesn't load the field that A holds, if it holds one
abbrev pub emit_after : Option FieldPlace → Link → Formula → ℕ → ℕ → List Insn → Block
emit_after held link (Single t) hit miss c = emit_elementary t hit miss c
emit_after held link (Compare comparison l r) hit miss c =
    at_top (emit_relation link comparison l r hit miss c)
emit_after held link (Both a b) hit miss c =
    let e = emit_after None link b hit miss c in emit_after None link a e.entry miss e.code
emit_after held link (Either a b) hit miss c =
    let e = emit_after None link b hit miss c in emit_after None link a hit e.entry e.code
emit_after held link (Except a) hit miss c = emit_after None link a miss hit c
emit_after held link (Split t a b) hit miss c =
    let no = emit_after (left_by t) link b hit miss c in
    let yes = emit_after (left_by t) link a hit miss no.code in
    emit_test held t yes.entry no.entry yes.code

-- the code of a formula by itself
abbrev pub emit_formula : Link → Formula → ℕ → ℕ → List Insn → Block
emit_formula link f hit miss c = emit_after None link f hit miss c

-- the code of some tests that all have to hold, from the last to the first
abbrev pub emit_all : List Elementary → ℕ → ℕ → List Insn → Block
emit_all [] hit miss c = block c hit
emit_all (t ∷ ts) hit miss c =
    let e = emit_all ts hit miss c in emit_elementary t e.entry miss e.code
