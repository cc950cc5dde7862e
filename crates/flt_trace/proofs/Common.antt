-- Re-exports the names that most proofs of this crate cite; declares nothing.
pub use Rattle.flt_bpf.{specs.declared.insn.Insn.Insn, specs.declared.machine.State.State, specs.Valid.IsValid, proofs.Checking.parts}
