-- Re-exports the names that most proofs of this crate cite; declares nothing.
pub use Rattle.cap_octet.specs.declared.fault.Fault.TheVariants.{TimeOutOfRange, TooManyInterfaces, BadOption, BadTimeResolution, Truncated}
pub use Rattle.cap_octet.proofs.Checks.{all_met, met_front, failing_front}
pub use Rattle.cap_pcapng.specs.InterfaceOptions.{first_value, fitting_options, checks_after, resolution_code}
pub use Rattle.cap_octet.specs.declared.number.Order.{Order, TheVariants.Little}
pub use Rattle.cap_pcapng.specs.declared.{blocks.Block.Block, blocks.EnhancedBlock.EnhancedBlock, frames.Frame.Frame, options.BlockOption.BlockOption}
pub use Rattle.cap_pcapng.specs.{Interface.Described, Interface.description_of, Padding.padded_length, Comment.comment_code, OptionList.options_left}
pub use Rattle.cap_octet.specs.{Number.u16_in, Number.u32_in, Number.number_in, declared.fault.Fault.Fault, Checks.first_failing, Writer.WritesExactly}
pub use Rattle.{std.proofs.lemmas.Bool.lt-leb, byteorder.specs.Endian.little_bytes}
