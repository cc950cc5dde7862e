-- Operations and their codes are the same in both directions, and a word is its four bytes.
use Rattle.std.proofs.Common.{◌≡◌, ℕ, List, [], ◌∷◌, Some, refl, arith, ◌+◌, ◌*◌, ◌<◌, zero, suc, All}
use Rattle.flt_bpf.proofs.Common.{nat_tests, Operation, LoadAbsolute, LoadIndirect, Load, Store, Compute, JumpIf, Immediate, Constant, Equal}
use Rattle.flt_bpf.specs.Instructions.{code_of, found, operations}
use Rattle.std.proofs.lemmas.List.Elements.{All-head, All-tail}
use Rattle.flt_bpf.specs.declared.operation.{Register.TheVariants.Accumulator, Register.TheVariants.Index, AluOperation.TheVariants.Add, Width.TheVariants.Word}
use Rattle.{flt_bpf.specs.Machine.big_endian_at, std.specs.Prelude.slice_index, std.proofs.Math.Nat.mod-eq_of_lt}
use Rattle.flt_bpf.specs.Instructions.{operation_of}

found_code : (os : List Operation) (code : ℕ) (o : Operation) → found os code ≡ Some o → code_of o ≡ code
found_code [] code o e = cc
found_code (p ∷ os) code o e =
    let later = found_code os code o in
    grind (arith, nat_tests)

pub back_of_code : (code : ℕ) (o : Operation) → operation_of code ≡ Some o → code_of o ≡ code
unfolding operation_of
back_of_code code o e = found_code operations code o e

pub code_is : (o : Operation) → operation_of (code_of o) ≡ Some o
unfolding operation_of
code_is (LoadAbsolute Word) = refl
code_is (LoadIndirect Word) = refl
code_is (Load Accumulator Immediate) = refl
code_is (Load Index Immediate) = refl
code_is (Store Accumulator) = refl
code_is (Compute Add Constant) = refl
code_is (Compute _ Constant) = refl
code_is (JumpIf Equal Constant) = refl
code_is (JumpIf _ Constant) = refl
code_is _ = refl

byte_at : (p : List ℕ) (at : ℕ) → All (λ b. b < 256) p → slice_index p at < 256
byte_at [] at h = omega arith
byte_at (b ∷ p) zero h = All-head (λ x. x < 256) b p h
byte_at (b ∷ p) (suc at) h = byte_at p at (All-tail (λ x. x < 256) b p h)

pub word_is : (p : List ℕ) (at : ℕ) → All (λ b. b < 256) p → big_endian_at p at Word ≡ slice_index p at * 0x100_0000 + slice_index p (at + 1) *
    0x1_0000 + slice_index p (at + 2) * 0x100 + slice_index p (at + 3)
word_is p at h = search (arith, byte_at, mod-eq_of_lt)
