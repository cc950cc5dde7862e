-- Re-exports the names that most proofs of this crate cite; declares nothing.
pub use Rattle.std.proofs.Common.{◌≡◌, ℕ, ◌+◌, ◌-◌, ◌<◌, ◌≤◌, List, [], ◌∷◌, ◌++◌, length, take, drop, Option, Some, None, Ok, Result, refl, sym, ap, ◌∙◌}
pub use Rattle.std.proofs.Common.{subst, arith, min, ◌↔◌, ◌⊎◌, inl, inr, zero, suc, ◌%◌, ◌^◌, get_or, Bool, true, false, ◌==◌, nat_lt, nat_le, ◌&&◌, ◌||◌}
pub use Rattle.std.proofs.Common.{not, if◌then◌else◌, slice_set, bit_and, Err, ap₂, rules}
pub use Rattle.std.proofs.lemmas.List.{drop-take, length-take-le, take-append-drop, take-take, drop-drop, length-drop, get_or-drop, append-nil}
pub use Rattle.std.specs.{List.slice_get, List.list_all, Option.option_map}
pub use Rattle.cap_io.specs.Capture.{Declared, Nothing, PcapFile, PcapngFile, Whole, front_of, NoUnit, first_link_of}
pub use Rattle.cap_io.specs.{Reading.declared_by, declared.file_state.FileState.FileState, Reading.UnitHas, FirstUnit.BeginsWithUnit, FirstUnit.HoldsPacket}
pub use Rattle.cap_io.specs.{FirstUnit.HoldsPackets}
pub use Rattle.cap_octet.specs.{Checks.checked, Checks.first_failing, Packet.Captured, Packet.captured, declared.fault.Fault.Fault}
pub use Rattle.cap_octet.specs.declared.{fault.Fault.TheVariants.Truncated, fault.Fault.TheVariants.TimeOutOfRange, number.Order.Order}
pub use Rattle.cap_octet.proofs.Checks.{checked_ok, checked_err, met_front}
pub use Rattle.cap_pcap.specs.declared.header.{Head.Head}
pub use Rattle.cap_pcapng.specs.Effect.{section_of}
pub use Rattle.cap_pcapng.specs.{Frame.is_section, Frame.frame_fault, Frame.frame_in, Interface.Described}
pub use Rattle.cap_pcapng.specs.Unit.{Section, packet_of, parts_after, block_size, order_before, unit_fault}
pub use Rattle.capkit_c.specs.{Bounding.IsBound, Buffers.WriteLeaves, Buffers.written_packet, Compiling.IsFor}
pub use Rattle.capkit_c.specs.Layout.{HasLink, declared_in, first_interfaces, reader_form, most_known}
pub use Rattle.capkit_c.specs.Matching.{Skips, at_packet, past_packet, past_unit}
pub use Rattle.capkit_c.specs.Portable.{sign_bit, half_sign_bit, operation_keeps, keeps_x_small, operation_alike, runs_alike, operation_alike_on_libpcap}
pub use Rattle.capkit_c.specs.Portable.{runs_alike_on_libpcap, is_live_at, operation_wants, is_live_before, live_places, none_read_unwritten, most_attached}
pub use Rattle.capkit_c.specs.Portable.{is_portable, portability}
pub use Rattle.capkit_c.specs.Units.{IsPastUnit, IsPacketFound, NextLeaves, Stays, comment_by, ends, fails, finds, is_full, passes, DeclaresOne, IsStop}
pub use Rattle.capkit_c.specs.Units.{PacketLeaves, PassesUnits, one_passed}
pub use Rattle.capkit_c.specs.declared.memory.layout.{Interface.Interface, Packet.Packet, Reader.Reader}
pub use Rattle.capkit_c.specs.inside.Skipping.{IsFramed}
pub use Rattle.capkit_c.specs.inside.Units.{Counts, IsAtEnd, IsPacketAt}
pub use Rattle.flt_bpf.specs.Machine.{Next, Goes, Ends, Lost, step_if_there, does, does_if_known, into, word_into, into_word, with_register, held, field}
pub use Rattle.flt_bpf.specs.Machine.{compute, operand_value, test_holds, header_length, run_from, progress_after, machine, start}
pub use Rattle.flt_bpf.specs.declared.insn.Insn.{Insn}
pub use Rattle.flt_bpf.proofs.Checking.{parts}
