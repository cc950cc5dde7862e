-- Instructions as `tcpdump -d` prints them, by libpcap's bpf_image.
use Rattle.std.specs.Fmt.{digits}
use Rattle.std.specs.Prelude.{false, ℕ, ◌+◌, ◌-◌, ◌^◌, nat_lt, if◌then◌else◌, List, [], ◌∷◌, ◌++◌, length, replicate, codes, decimal, Option, Some, None}
use Rattle.flt_bpf.specs.Instructions.{operation_of}
use Rattle.flt_bpf.specs.declared.{insn.Insn.Insn, operation.AluOperation.AluOperation}
use Rattle.flt_bpf.specs.declared.operation.AluOperation.TheVariants.{Add, Subtract, Multiply, Divide, Or, And, ShiftLeft, ShiftRight, Remainder, ExclusiveOr}
use Rattle.flt_bpf.specs.declared.operation.Operand.TheVariants.{Constant, IndexRegister}
use Rattle.flt_bpf.specs.declared.operation.Operation.{Operation}
use Rattle.flt_bpf.specs.declared.operation.Operation.TheVariants.{LoadAbsolute, LoadIndirect, Load, LoadHeaderLength, Store, Compute, Negate, Jump, JumpIf, ReturnConstant, ReturnAccumulator, CopyToIndex, CopyToAccumulator}
use Rattle.flt_bpf.specs.declared.operation.Register.TheVariants.{Accumulator, Index}
use Rattle.flt_bpf.specs.declared.operation.Source.TheVariants.{Immediate, Memory, Length}
use Rattle.flt_bpf.specs.declared.operation.Test.{Test}
use Rattle.flt_bpf.specs.declared.operation.Test.TheVariants.{Equal, Greater, AtLeast, AnyBit}
use Rattle.flt_bpf.specs.declared.operation.Width.{Width, TheVariants.Word, TheVariants.HalfWord, TheVariants.Byte}

-- a 32-bit number as C's %d prints it: from 2^31 on it is the number less 2^32, with a minus sign
-- (45)
unfoldable pub signed_number : ℕ → List ℕ
signed_number k = if nat_lt k (2 ^ 31) then decimal k else 45 ∷ decimal (2 ^ 32 - k)

-- a number as C's %x prints it: in lower case, without leading zeros
abbrev pub hex : ℕ → List ℕ
hex k = digits 16 false k

-- the name of a load of this many bytes of the packet into A
abbrev pub load_name : Width → List ℕ
load_name Word = codes "ld"
load_name HalfWord = codes "ldh"
load_name Byte = codes "ldb"

-- the name of an operation of arithmetic
abbrev pub arithmetic_name : AluOperation → List ℕ
arithmetic_name Add = codes "add"
arithmetic_name Subtract = codes "sub"
arithmetic_name Multiply = codes "mul"
arithmetic_name Divide = codes "div"
arithmetic_name Or = codes "or"
arithmetic_name And = codes "and"
arithmetic_name ShiftLeft = codes "lsh"
arithmetic_name ShiftRight = codes "rsh"
arithmetic_name Remainder = codes "mod"
arithmetic_name ExclusiveOr = codes "xor"

-- the name of a conditional jump with this test
abbrev pub test_name : Test → List ℕ
test_name Equal = codes "jeq"
test_name Greater = codes "jgt"
test_name AtLeast = codes "jge"
test_name AnyBit = codes "jset"

-- the name of an operation
abbrev pub operation_name : Operation → List ℕ
operation_name (LoadAbsolute width) = load_name width
operation_name (LoadIndirect width) = load_name width
operation_name (Load Accumulator source) = codes "ld"
operation_name (Load Index source) = codes "ldx"
operation_name LoadHeaderLength = codes "ldxb"
operation_name (Store Accumulator) = codes "st"
operation_name (Store Index) = codes "stx"
operation_name (Compute operator operand) = arithmetic_name operator
operation_name Negate = codes "neg"
operation_name Jump = codes "ja"
operation_name (JumpIf test operand) = test_name test
operation_name ReturnConstant = codes "ret"
operation_name ReturnAccumulator = codes "ret"
operation_name CopyToIndex = codes "tax"
operation_name CopyToAccumulator = codes "txa"

-- the constant of an arithmetic operation: in hexadecimal for and, or and exclusive or, else in
-- decimal
abbrev pub constant_text : AluOperation → ℕ → List ℕ
constant_text Or k = codes "#0x" ++ hex k
constant_text And k = codes "#0x" ++ hex k
constant_text ExclusiveOr k = codes "#0x" ++ hex k
constant_text _ k = codes "#" ++ signed_number k

-- the operand of an operation with the number k at an index in a program: for `ja` the index of its
-- target; empty for negations, copies and the return of A
abbrev pub operand_text : Operation → ℕ → ℕ → List ℕ
operand_text (LoadAbsolute width) k place = codes "[" ++ (signed_number k ++ codes "]")
operand_text (LoadIndirect width) k place = codes "[x + " ++ (signed_number k ++ codes "]")
operand_text (Load register Immediate) k place = codes "#0x" ++ hex k
operand_text (Load register Memory) k place = codes "M[" ++ (signed_number k ++ codes "]")
operand_text (Load register Length) k place = codes "#pktlen"
operand_text LoadHeaderLength k place = codes "4*([" ++ (signed_number k ++ codes "]&0xf)")
operand_text (Store register) k place = codes "M[" ++ (signed_number k ++ codes "]")
operand_text (Compute operator Constant) k place = constant_text operator k
operand_text (Compute operator IndexRegister) k place = codes "x"
operand_text Negate k place = []
operand_text Jump k place = decimal (place + 1 + k)
operand_text (JumpIf test Constant) k place = codes "#0x" ++ hex k
operand_text (JumpIf test IndexRegister) k place = codes "x"
operand_text ReturnConstant k place = codes "#" ++ signed_number k
operand_text ReturnAccumulator k place = []
operand_text CopyToIndex k place = []
operand_text CopyToAccumulator k place = []

-- a text padded with blanks (32) up to a width
abbrev pub filled_text : ℕ → List ℕ → List ℕ
filled_text width text = text ++ replicate (width - length text) 32

-- a number in decimal, padded with zeros (48) up to three digits
abbrev pub three_digits : ℕ → List ℕ
three_digits n = replicate (3 - length (decimal n)) 48 ++ decimal n

-- the start of an instruction's line: its index and its name, in a column of 8 bytes
abbrev pub front_text : ℕ → List ℕ → List ℕ
front_text place name =
    codes "(" ++ (three_digits place ++ (codes ") " ++ (filled_text 8 name ++ codes " ")))

-- the operand of a conditional jump, in a column of 16 bytes, and the indices of its two targets
abbrev pub branch_text : List ℕ → ℕ → ℕ → List ℕ
branch_text operand target other =
    filled_text 16 operand ++ (codes " jt " ++ (decimal target ++ (codes "\tjf " ++ decimal other)))

-- the line of an instruction with this operation; without one its code is shown as a number
abbrev pub operation_text : Option Operation → Insn → ℕ → List ℕ
operation_text None i place = front_text place (codes "unimp") ++ (codes "0x" ++ hex i.code)
operation_text (Some (JumpIf test operand)) i place =
    front_text place (test_name test)
    ++ branch_text (operand_text (JumpIf test operand) i.k place) (place + 1 + i.jt)
    (place + 1 + i.jf)
operation_text (Some operation) i place =
    front_text place (operation_name operation) ++ operand_text operation i.k place

-- the line of an instruction at an index in a program
unfoldable pub insn_text : Insn → ℕ → List ℕ
insn_text i place = operation_text (operation_of i.code) i place
