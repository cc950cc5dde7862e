-- The names that most proofs here cite, passed on from one place. Declares nothing.
pub use Rattle.std.proofs.lemmas.List.Elements.{All-cons, All-head, All-tail, All-take, All-set}
pub use Rattle.flt_bpf.specs.declared.operation.Operation.TheVariants.{LoadIndirect, Load, LoadHeaderLength, Compute, JumpIf, Jump}
pub use Rattle.flt_bpf.specs.declared.operation.Source.TheVariants.{Immediate, Memory, Length}
pub use Rattle.flt_bpf.specs.declared.operation.{Operand.Operand, Operand.TheVariants.Constant, AluOperation.AluOperation, Operation.Operation, Test.Test}
pub use Rattle.flt_short.specs.inside.{Facts.held_after, Layout.placed_code}
pub use Rattle.std.proofs.lemmas.{Grind.common_steps, Bool.Decides.nat_tests, Option.slice_get_read}
pub use Rattle.flt_short.specs.declared.{facts.Known.Known, facts.Held.Held, facts.IndexValue.IndexValue, layout.PlacedJump.PlacedJump, thread.Spot.Spot}
pub use Rattle.flt_bpf.proofs.{Both.known_step, Both.plain_both, Suffix.answer_drop}
pub use Rattle.flt_bpf.specs.{Instructions.operation_of, declared.insn.Insn.Insn, declared.machine.State.State}
