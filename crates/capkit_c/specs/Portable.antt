-- Programs that run the same way on other machines.
use Rattle.std.specs.List.{list_all}
use Rattle.std.specs.Prelude.{ℕ, ◌==◌, ◌&&◌, ◌||◌, ◌^◌, if◌then◌else◌, Bool, true, false, not, zero, suc, List, [], ◌∷◌, length, nat_le, nat_lt, slice_index_or, Option, Some}
use Rattle.flt_bpf.specs.{Instructions.operation_of, Valid.WORDS, declared.insn.Insn.Insn}
use Rattle.flt_bpf.specs.declared.operation.AluOperation.TheVariants.{ShiftLeft, ShiftRight}
use Rattle.flt_bpf.specs.declared.operation.{Operand.TheVariants.IndexRegister, Operation.Operation}
use Rattle.flt_bpf.specs.declared.operation.Operation.TheVariants.{LoadAbsolute, LoadIndirect, Load, LoadHeaderLength, Store, Compute, Jump, JumpIf, CopyToIndex}
use Rattle.flt_bpf.specs.declared.operation.Register.TheVariants.{Index}
use Rattle.flt_bpf.specs.declared.operation.Source.TheVariants.{Immediate, Memory, Length}

-- 2^31, the highest of 32 bits: from here on Linux takes the offset of a load as negative
abbrev pub sign_bit : ℕ
sign_bit = 2 ^ 31

-- 2^30: the sum of two numbers below it is below 2^31
abbrev pub half_sign_bit : ℕ
half_sign_bit = 2 ^ 30

-- whether X, the index register, is surely below 2^30 after an operation if it is before it
abbrev pub operation_keeps : Option Operation → ℕ → Bool
operation_keeps (Some (Load Index Immediate)) k = nat_lt k half_sign_bit
operation_keeps (Some (Load Index _)) k = false
operation_keeps (Some CopyToIndex) k = false
operation_keeps _ k = true

-- whether X, the index register, is surely below 2^30 after an instruction if it is before it
abbrev pub keeps_x_small : Insn → Bool
keeps_x_small i = operation_keeps (operation_of i.code) i.k

-- whether an operation surely does the same on libpcap's and Linux's machines; `small` says that X
-- is below 2^30
abbrev pub operation_alike : Option Operation → ℕ → Bool → Bool
operation_alike (Some (LoadAbsolute width)) k small = nat_lt k sign_bit
operation_alike (Some LoadHeaderLength) k small = nat_lt k sign_bit
operation_alike (Some (LoadIndirect width)) k small = small && nat_lt k half_sign_bit
operation_alike (Some (Load register Length)) k small = false
operation_alike (Some (Compute ShiftLeft IndexRegister)) k small = false
operation_alike (Some (Compute ShiftRight IndexRegister)) k small = false
operation_alike _ k small = true

-- whether an instruction surely does the same on libpcap's and Linux's machines; `small` says that
-- X is below 2^30
abbrev pub runs_alike : Bool → Insn → Bool
runs_alike small i = operation_alike (operation_of i.code) i.k small

-- whether an operation surely does the same on libpcap's machine, which adds X and k without
-- wrapping; `small` says that X is below 2^30
abbrev pub operation_alike_on_libpcap : Option Operation → ℕ → Bool → Bool
operation_alike_on_libpcap (Some (LoadIndirect width)) k small = small && nat_lt k sign_bit
operation_alike_on_libpcap _ k small = true

-- whether an instruction surely does the same on libpcap's machine
abbrev pub runs_alike_on_libpcap : Bool → Insn → Bool
runs_alike_on_libpcap small i = operation_alike_on_libpcap (operation_of i.code) i.k small

-- by what holds of the places after an instruction: whether at the n-th of them a word is live,
-- which means that a run from there on may read it before it writes it, if it also goes on past
-- returns, as Linux's check of programs does; past the last one nothing is
abbrev pub is_live_at : List Bool → ℕ → Bool
is_live_at following n = slice_index_or following n false

-- whether M[w] is live before an instruction, by its operation and by what holds of the places
-- after it
abbrev pub operation_wants : Option Operation → ℕ → Insn → List Bool → Bool
operation_wants (Some (Load register Memory)) w i following = (i.k == w) || is_live_at following 0
operation_wants (Some (Store register)) w i following = not (i.k == w) && is_live_at following 0
operation_wants (Some Jump) w i following = is_live_at following i.k
operation_wants (Some (JumpIf test operand)) w i following =
    is_live_at following i.jt || is_live_at following i.jf
operation_wants _ w i following = is_live_at following 0

-- whether word w is live before an instruction, by what holds of the places after it
abbrev pub is_live_before : ℕ → Insn → List Bool → Bool
is_live_before w i following = operation_wants (operation_of i.code) w i following

-- whether word w is live before each instruction of a program
abbrev pub live_places : ℕ → List Insn → List Bool
live_places w [] = []
live_places w (i ∷ is) = is_live_before w i (live_places w is) ∷ live_places w is

-- whether none of the first n words is read before it is written
abbrev pub none_read_unwritten : ℕ → List Insn → Bool
none_read_unwritten zero insns = true
none_read_unwritten (suc n) insns = none_read_unwritten n insns && not (is_live_at (live_places n insns) 0)

-- the most instructions that Linux attaches to a socket
abbrev pub most_attached : ℕ
most_attached = 4096

-- 1 if a valid program surely runs the same on libpcap's and Linux's machines, as far as
-- its instructions show, and has at most 4,096; else 0
abbrev pub is_portable : List Insn → ℕ
is_portable insns =
    if nat_le (length insns) most_attached
    && (list_all (runs_alike (list_all keeps_x_small insns)) insns && none_read_unwritten WORDS insns)
    then 1 else 0

-- the machines on which a valid program surely runs the same, as far as its instructions show, of
-- at most 4,096: 1 is libpcap's machine, 2 Linux's, and their sum both; 0 is neither
abbrev pub portability : List Insn → ℕ
portability insns =
    if is_portable insns == 1 then 3
    else (if nat_le (length insns) most_attached
    && (list_all (runs_alike_on_libpcap (list_all keeps_x_small insns)) insns
    && none_read_unwritten WORDS insns)
    then 1 else 0)
