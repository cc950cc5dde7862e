-- Interfaces that are numbered by first use.
use Rattle.cap_io.specs.{Text.Interface, declared.numbering.InterfaceKey.InterfaceKey}

-- the interface whose key it is
abbrev pub interface_in : InterfaceKey → Interface
interface_in key = record { link = key.link; snap = key.snap; name = key.name.items }
