-- When two places of two programs do the same: the new one is c, the old one is read from its
-- instruction i on, which lands at l. `is` are the old instructions after i, `ls` their landings, j
-- the instruction of the new program where i lands, and `js` those after it.
use Rattle.std.specs.Prelude.{ℕ, ◌+◌, ◌-◌, ◌==◌, nat_lt, nat_le, Bool, true, false, ◌&&◌, ◌||◌, not, List, [], ◌∷◌, length, Option, Some, None, slice_get, drop}
use Rattle.flt_bpf.specs.Instructions.{code_of, operation_of}
use Rattle.flt_bpf.specs.Registers.{reads_accumulator, reads_index, sets_accumulator, sets_index}
use Rattle.flt_bpf.specs.declared.insn.Insn.{Insn}
use Rattle.flt_bpf.specs.declared.operation.AluOperation.TheVariants.{And, Divide, Remainder}
use Rattle.flt_bpf.specs.declared.operation.Operand.TheVariants.{Constant}
use Rattle.flt_bpf.specs.declared.operation.Operation.{Operation}
use Rattle.flt_bpf.specs.declared.operation.Operation.TheVariants.{Load, Compute, Negate, Jump, JumpIf, ReturnConstant, ReturnAccumulator, CopyToIndex, CopyToAccumulator}
use Rattle.flt_bpf.specs.declared.operation.Source.TheVariants.{Immediate, Length}
use Rattle.flt_bpf.specs.declared.operation.Test.{Test}
use Rattle.flt_bpf.specs.inside.Flow.{goes_on_or_rejects}
use Rattle.flt_short.specs.declared.alike.Landing.{Landing}

-- the code from a place on, which is named by the number of instructions from there to the end; all
-- of it if it has fewer
abbrev pub code_from : List Insn → ℕ → List Insn
code_from c place = drop (length c - place) c

-- two instructions with this operation go on the same way: they return, or lead to the same places,
-- or what follows both is the same
abbrev pub goes_on_alike : Option Operation → Insn → ℕ → Insn → ℕ → Bool → Bool
goes_on_alike None i len j other_len rest = false
goes_on_alike (Some Jump) i len j other_len rest = false
goes_on_alike (Some ReturnConstant) i len j other_len rest = true
goes_on_alike (Some ReturnAccumulator) i len j other_len rest = true
goes_on_alike (Some (JumpIf test operand)) i len j other_len rest =
    len - i.jt == other_len - j.jt && len - i.jf == other_len - j.jf
goes_on_alike (Some op) i len j other_len rest = rest

-- two ends of the same code begin with the same instructions, up to a return, or to a test with the
-- same targets
abbrev pub are_copies : List Insn → List Insn → Bool
are_copies [] d = false
are_copies (i ∷ is) [] = false
are_copies (i ∷ is) (j ∷ js) =
    (i.code == j.code && i.k == j.k)
    && goes_on_alike (operation_of i.code) i (length is) j (length js) (are_copies is js)

-- there is a landing, it is at this place or at a copy of the code there, and what is read from
-- there on is the same in both programs: a and x are whether A and X are
abbrev pub lands_at_if : List Insn → Option Landing → ℕ → Bool → Bool → Bool
lands_at_if c None place a x = false
lands_at_if c (Some l) place a x =
    (nat_lt 0 l.place
    && (l.place == place || are_copies (code_from c l.place) (code_from c place)))
    && ((not l.accumulator || a) && (not l.index || x))

-- the landing with index k is at this place, and what is read from there on is the same
abbrev pub lands_at : List Insn → List Landing → ℕ → ℕ → Bool → Bool → Bool
lands_at c ls k place a x = lands_at_if c (slice_get ls k) place a x

-- both programs go on the same way after an instruction that both have, here with this operation:
-- all its ways fit, and it isn't `ja`
abbrev pub goes_on : List Insn → Operation → Insn → Landing → Insn → List Landing → Bool
goes_on c Jump j l i ls = false
goes_on c (JumpIf test operand) j l i ls =
    lands_at c ls i.jt (l.place - (1 + j.jt)) l.accumulator l.index
    && lands_at c ls i.jf (l.place - (1 + j.jf)) l.accumulator l.index
goes_on c ReturnConstant j l i ls = true
goes_on c ReturnAccumulator j l i ls = true
goes_on c op j l i ls =
    lands_at c ls 0 (l.place - 1) (sets_accumulator op || l.accumulator)
    (sets_index op || l.index)

-- j is the same instruction as i except the offsets, what it reads is the same in both programs,
-- and both go on the same way
unfoldable pub same_step : List Insn → Option Operation → Insn → Landing → Insn → List Landing → Bool
same_step c None j l i ls = false
same_step c (Some op) j l i ls =
    (i.code == j.code && i.k == j.k)
    && (((not (reads_accumulator op) || l.accumulator) && (not (reads_index op) || l.index))
    && goes_on c op j l i ls)

-- i is a mask, and t a test whether 0 is left
abbrev pub is_masked_test : Insn → Insn → Bool
is_masked_test i t =
    (i.code == code_of (Compute And Constant) && t.code == code_of (JumpIf Test.Equal Constant))
    && t.k == 0

-- j is one test of bits instead of i, which is a mask, and of the test after it whether 0 is left;
-- before them A is the same in both programs, and after them it isn't read
unfoldable pub one_test : List Insn → Insn → Landing → Insn → List Insn → List Landing → Bool
one_test c j l i [] ls = false
one_test c j l i (t ∷ is) ls =
    (is_masked_test i t && (j.code == code_of (JumpIf Test.AnyBit Constant) && i.k == j.k))
    && (l.accumulator
    && (lands_at c ls (1 + t.jt) (l.place - (1 + j.jf)) false l.index
    && lands_at c ls (1 + t.jf) (l.place - (1 + j.jt)) false l.index))

-- an instruction returns 0
abbrev pub rejects : Insn → Bool
rejects i = i.code == code_of ReturnConstant && i.k == 0

-- an operation is one of these: a load of a number or of the length, a copy, a negation, or
-- arithmetic other than `/` and `%`; after it the run goes on at the next instruction on every
-- packet, and memory is unchanged
abbrev pub is_sure : Operation → Bool
is_sure (Load register Immediate) = true
is_sure (Load register Length) = true
is_sure (Compute Divide operand) = false
is_sure (Compute Remainder operand) = false
is_sure (Compute operator operand) = true
is_sure Negate = true
is_sure CopyToIndex = true
is_sure CopyToAccumulator = true
is_sure _ = false

-- i, of which this is the operation, has no instruction in the new code: all its ways land as it
-- lands, at j; and it does nothing that is seen from there on, or the packet is rejected there
unfoldable pub left_out : List Insn → Option Operation → Insn → Landing → Insn → List Landing → Bool
left_out c None j l i ls = false
left_out c (Some (JumpIf test operand)) j l i ls =
    lands_at c ls i.jt l.place l.accumulator l.index
    && lands_at c ls i.jf l.place l.accumulator l.index
left_out c (Some op) j l i ls =
    (is_sure op || (rejects j && goes_on_or_rejects op))
    && lands_at c ls 0 l.place (l.accumulator && not (sets_accumulator op))
    (l.index && not (sets_index op))

-- the code, from a landing on, does what the instruction i and those after it do, by one of three
-- rules
abbrev pub stands_at : List Insn → List Insn → Landing → Insn → List Insn → List Landing → Bool
stands_at c [] l i is ls = false
stands_at c (j ∷ js) l i is ls =
    (same_step c (operation_of i.code) j l i ls || one_test c j l i is ls)
    || left_out c (operation_of i.code) j l i ls

-- the code does at the landing of i what i and those after it do; nothing is asked if i lands
-- nowhere
abbrev pub stands : List Insn → Landing → Insn → List Insn → List Landing → Bool
stands c l i is ls =
    l.place == 0 || (nat_le l.place (length c) && stands_at c (code_from c l.place) l i is ls)

-- the code does at each landing what the old code does there
abbrev pub are_alike : List Insn → List Insn → List Landing → Bool
are_alike c [] ls = true
are_alike c (i ∷ is) [] = false
are_alike c (i ∷ is) (l ∷ ls) = stands c l i is ls && are_alike c is ls
