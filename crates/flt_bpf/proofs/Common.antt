-- Re-exports the names that most proofs of this crate cite; declares nothing.
pub use Rattle.std.proofs.Common.{length, take, append_assoc, if◌then◌else◌}
pub use Rattle.std.proofs.lemmas.Option.{slice_get_within, slice_get-get_or, get_or_from_slice_get, gets}
pub use Rattle.std.specs.List.{slice_split, onto_first, join_with_byte, AllZip}
pub use Rattle.flt_bpf.specs.declared.operation.Operation.TheVariants.{ReturnConstant, Load, Store, Compute, JumpIf, LoadAbsolute, LoadIndirect}
pub use Rattle.flt_bpf.specs.declared.operation.Test.TheVariants.{Equal, AtLeast, AnyBit}
pub use Rattle.flt_bpf.specs.declared.operation.{Source.TheVariants.Immediate, Register.Register, Test.Test, Operand.TheVariants.Constant, Operation.Operation}
pub use Rattle.flt_bpf.specs.declared.{machine.State.State, fault.CheckFault.CheckFault, insn.Insn.Insn}
pub use Rattle.std.proofs.lemmas.{Bool.Decides.nat_tests, Fmt.length-decimal-le, Grind.common_steps, Slice.Zip.AllZip-long}
pub use Rattle.flt_bpf.specs.{Valid.IsValid, Instructions.operation_of}
pub use Rattle.flt_bpf.specs.inside.{Position.ComesTo, Position.RunStands, Reach.program_reach, Reach.load_end, Flow.goes_on_or_rejects, Flow.reach_next}
