-- The steps of a put.
use Rattle.std.specs.Prelude.{◌≡◌, ℕ, ◌+◌, ◌<◌, List, length, slice_set}
use Rattle.cap_io.specs.Text as text
use Rattle.cap_octet.specs.Packet.{Captured}
use Rattle.capkit_c.specs.Writer.{output_interface}
use Rattle.capkit_c.specs.declared.memory.layout.{Interface.Interface, Writer.Writer}

-- the interface of a packet is the one at `known` of the table, and the writer counts it
pub record HasAdded (known : ℕ) (p : Captured) (w : Writer) (table : List Interface) (w' : Writer)
    (table' : List Interface) : Type 0 where
  pub fits : (known < length table) × (known < 4096)
  pub entry : Interface
  pub same : output_interface entry ≡ text.interface_of p
  pub put : table' ≡ slice_set table known entry
  pub counted : w' ≡ record w { interfaces = known + 1 }
