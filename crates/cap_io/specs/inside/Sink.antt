-- What a packet adds to a file, by the sink's state.
use Rattle.std.specs.Prelude.{◌≡◌, ℕ, Bool, true, false, ◌+◌, List, [], ◌++◌, Result, IsTrue}
use Rattle.cap_octet.specs.{Device.AppendsOrStops, Device.failures_of, Packet.Captured}
use Rattle.cap_octet.specs.declared.device.{DeviceFault.DeviceFault, Output.Ghosts}
use Rattle.cap_pcapng.specs.Encoding as pcapng
use Rattle.cap_io.specs.declared.numbering.InterfaceNumber.{InterfaceNumber}

-- the description of a packet's interface, if it is new
abbrev pub description_text : Bool → Captured → List ℕ
description_text true p = pcapng.interface_text p.link p.snap p.name
description_text false p = []

-- a packet's block, by the number of its interface, after the description of the interface if it is
-- new
abbrev pub packet_block_text : InterfaceNumber → Captured → List ℕ
packet_block_text interface p =
    description_text interface.is_new p ++ pcapng.packet_block interface.number p

-- These bytes are appended to a device; or, if it failed, a prefix of them but not all.
pub record Appends {Device : Type 0} (d : Ghosts Device) (old : Device) (bytes : List ℕ)
    (r : Result (Unit {0}) DeviceFault) (new : Device) : Type 0 where
  pub appended : IsTrue d.tells → AppendsOrStops r (d.written old) bytes (d.written new)
  pub failed : d.failures new ≡ d.failures old + failures_of r
  pub room : d.room new ≡ d.room old
