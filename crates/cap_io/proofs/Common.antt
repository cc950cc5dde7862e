-- Re-exports the names that most proofs of this crate cite; declares nothing.
pub use Rattle.std.proofs.lemmas.Bool.{ltb-true, le-leb, lt-leb, lt-ltb}
pub use Rattle.cap_io.specs.RoundTrip.{ReadsBack, Back, InRange, IsPlain, IsCarried, ItemsBack}
pub use Rattle.cap_octet.specs.Device.{TakesFull, HasGiven, AppendsOrStops, Stops, Takes}
pub use Rattle.cap_octet.specs.declared.fault.Fault.TheVariants.{NoMemory, ReadFailed, NotACaptureFile, Truncated, LinkTypesDiffer}
pub use Rattle.cap_octet.specs.declared.format.Format.TheVariants.{Pcapng, Pcap, NsecPcap}
pub use Rattle.cap_octet.proofs.Checks.{checked_ok, checked_err, all_met}
pub use Rattle.cap_pcap.specs.Header.{form_in, header_fault, header_in, header_checks, IsHeader, magic}
pub use Rattle.cap_pcap.specs.declared.header.Resolution.TheVariants.{Microseconds, Nanoseconds}
pub use Rattle.cap_pcapng.specs.inside.Effect.{AddsInterface, IsEntryFault}
pub use Rattle.cap_io.specs.declared.file_state.{FileState.FileState, NextUnit.NextUnit}
pub use Rattle.cap_pcap.specs.declared.header.{Resolution.Resolution, Head.Head, RecordHead.RecordHead}
pub use Rattle.cap_octet.specs.declared.number.Order.{Order, TheVariants.Little, TheVariants.Big}
pub use Rattle.cap_octet.specs.declared.{device.Input.Ghosts, fault.Fault.Fault, format.Format.Format}
pub use Rattle.std.proofs.lemmas.List.{Sums.fold-append, append_assoc, append-nil, map-append, length-append, length-take-le, drop_at, drop-drop}
pub use Rattle.std.proofs.lemmas.List.{take-append-drop, length-drop, take_at, take-take, drop-take, length-take, length-map, Elements.All-append}
pub use Rattle.cap_io.specs.declared.{numbering.InterfaceNumber.InterfaceNumber, sink.SinkState.SinkState, next_unit.UnitReader.UnitReader, source.Stage.Stage}
pub use Rattle.cap_pcapng.specs.declared.{frames.Frame.Frame, effect.PacketSpans.PacketSpans, effect.BlockEffect.BlockEffect}
pub use Rattle.cap_io.specs.inside.{Numbering.HasNumber, Numbering.IsFirst, Reading.PacketCame, Sink.Appends, Sink.description_text}
pub use Rattle.cap_octet.specs.{Packet.Captured, Packet.captured, Number.u32_in, Number.number_in, Checks.checked, Checks.first_failing, Writer.WritesExactly}
pub use Rattle.cap_pcapng.specs.{Interface.Described, Interface.most_interfaces, Frame.is_section, Frame.section_type, Unit.block_size, Encoding.interface_text}
pub use Rattle.cap_io.specs.{Capture.Declared, Capture.PcapngFile, Source.KeepsBounds, Numbering.interface_in, Text.number_among}
pub use Rattle.std.proofs.{lemmas.Grind.common_steps, lemmas.Result.err_from_is_err_and, Common.arith, Math.Bool.or-true}
pub use Rattle.std.specs.{List.AllByRecursion, List.slice_get, List.flat_map, Option.option_to_list, Option.option_map, Result.OnOk}
