-- Which registers an operation reads, and which it sets.
use Rattle.std.specs.Prelude.{Bool, true, false}
use Rattle.flt_bpf.specs.declared.operation.{Operand.TheVariants.IndexRegister, Operation.Operation}
use Rattle.flt_bpf.specs.declared.operation.Operation.TheVariants.{LoadAbsolute, LoadIndirect, Load, LoadHeaderLength, Store, Compute, Negate, JumpIf, ReturnAccumulator, CopyToIndex, CopyToAccumulator}
use Rattle.flt_bpf.specs.declared.operation.Register.TheVariants.{Accumulator, Index}

-- whether the result of an operation depends on A
abbrev pub reads_accumulator : Operation → Bool
reads_accumulator (Store Accumulator) = true
reads_accumulator (Compute operator operand) = true
reads_accumulator Negate = true
reads_accumulator (JumpIf test operand) = true
reads_accumulator ReturnAccumulator = true
reads_accumulator CopyToIndex = true
reads_accumulator _ = false

-- whether the result of an operation depends on X
abbrev pub reads_index : Operation → Bool
reads_index (LoadIndirect width) = true
reads_index (Store Index) = true
reads_index (Compute operator IndexRegister) = true
reads_index (JumpIf test IndexRegister) = true
reads_index CopyToAccumulator = true
reads_index _ = false

-- whether an operation sets A
abbrev pub sets_accumulator : Operation → Bool
sets_accumulator (LoadAbsolute width) = true
sets_accumulator (LoadIndirect width) = true
sets_accumulator (Load Accumulator source) = true
sets_accumulator (Compute operator operand) = true
sets_accumulator Negate = true
sets_accumulator CopyToAccumulator = true
sets_accumulator _ = false

-- whether an operation sets X
abbrev pub sets_index : Operation → Bool
sets_index (Load Index source) = true
sets_index LoadHeaderLength = true
sets_index CopyToIndex = true
sets_index _ = false
