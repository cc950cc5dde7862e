-- Re-exports the names that most proofs of this crate cite; declares nothing.
pub use Rattle.cap_inputs.specs.declared.inputs.Schedule.TheVariants.{Turn, Merge}
pub use Rattle.cap_io.specs.Sequence.{PacketOrder, InTurn, ByTime, order_of}
pub use Rattle.cap_inputs.specs.declared.{queue.Waiting.Waiting, inputs.Next.Next, inputs.Schedule.Schedule}
pub use Rattle.cap_octet.specs.{Views.fresh_input, declared.fault.Fault.Fault}
pub use Rattle.cap_inputs.specs.{Fresh.fresh_view, Fresh.fresh_inputs, Queue.Queue, Cursor.ordering_of, Inputs.InputView}
pub use Rattle.std.specs.{Vec.Iter.into_iter_items, BinaryHeap.heap_items, declared.cmp.Reverse.Reverse}
pub use Rattle.std.proofs.lemmas.{List.Sorted.IsPermutation-map, Bool.Decides.nat_tests, Bool.and_parts, Bool.eqb-true}
