-- An interface by its values, the interfaces that a section may have, and the one that the options
-- of a block describe.
use Rattle.std.specs.Option.{option_map_or}
use Rattle.std.specs.Prelude.{◌≡◌, ◌≤◌, ℕ, length, All, ℤ, pos, List, [], unwrap_or}
use Rattle.cap_octet.specs.declared.number.Order.{Order}
use Rattle.cap_pcapng.specs.InterfaceOptions.{first_value, fitting_options, name_code, offset_code, offset_in_value, resolution_code, units_in_value}
use Rattle.cap_pcapng.specs.{OptionList.CodedValue, OptionList.options_in, Time.microseconds}
use Rattle.cap_pcapng.specs.declared.{blocks.InterfaceBlock.InterfaceBlock, interface.Interface.Interface}

-- an interface without the place of its name in memory
pub record Described : Type 0 where
  pub link : ℕ
  pub snap : ℕ
  -- empty if there is none
  pub name : List ℕ
  -- the ticks per second, and the seconds that are added
  pub units : ℕ
  pub offset : ℤ

-- the values of an interface
abbrev pub description_of : Interface → Described
description_of i =
    record {
      link = i.link;
      snap = i.snap;
      name = i.name.now;
      units = i.clock.units;
      offset = i.clock.offset;
    }

-- the most interfaces of a section
abbrev pub most_interfaces : ℕ
most_interfaces = 256

-- the interfaces of a section: at most 256, with names of at most 255 bytes
pub record FitSection (interfaces : List Described) : Type 0 where
  pub count : length interfaces ≤ most_interfaces
  pub names : All (λ i. length i.name ≤ 255) interfaces

-- the interface of this link type and snap length that options describe; by default its name is
-- empty, a tick is a microsecond and the offset is 0
abbrev pub described_by : (link snap : ℕ) → Order → List CodedValue → Described
described_by link snap order options = record {
  link = link;
  snap = snap;
  name = unwrap_or (first_value name_code options) [];
  units = option_map_or units_in_value (first_value resolution_code options) microseconds;
  offset = option_map_or (offset_in_value order) (first_value offset_code options) (pos 0);
}

-- the interface that the options in these bytes describe; those whose values don't fit are left out
abbrev pub described_in : (link snap : ℕ) → Order → List ℕ → Described
described_in link snap order text =
    described_by link snap order (fitting_options (options_in order text))

-- the interface of a block is that which its options describe
abbrev pub IsDescribed : InterfaceBlock → Type 0
IsDescribed b =
    description_of b.interface
    ≡ described_in b.interface.link b.interface.snap b.options.order b.options.rest.now
