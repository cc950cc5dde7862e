-- The options found so far, while an interface's options are read one after another.
use Rattle.std.specs.Option.{option_map, option_copied, option_or}
use Rattle.std.specs.Prelude.{◌≡◌, ◌≤◌, ℕ, length, IfSome, ◌==◌, if◌then◌else◌, Bool, false, List, Option, Some, None, is_some}
use Rattle.cap_octet.specs.declared.number.Order.{Order}
use Rattle.cap_pcapng.specs.InterfaceOptions.{first_value, name_code, offset_code, offset_in_value, resolution_code, units_in_value}
use Rattle.cap_pcapng.specs.{OptionList.CodedValue, declared.interface.FoundOptions.FoundOptions}

-- the value of an option, if it has this code
abbrev pub value_for : ℕ → CodedValue → Option (List ℕ)
value_for code option = if option.code == code then Some option.value else None

-- if a name was found, it is short enough
abbrev pub HasShortName : FoundOptions → Type 0
HasShortName found = IfSome found.name (λ name. length name.now ≤ 255)

-- the options found in this list
pub record IsFound (order : Order) (options : List CodedValue) (found : FoundOptions) : Type 0 where
  pub name : option_copied found.name ≡ first_value name_code options
  pub units : found.units ≡ option_map units_in_value (first_value resolution_code options)
  pub offset : found.offset ≡ option_map (offset_in_value order) (first_value offset_code options)
  pub short : HasShortName found

-- the options found once one more option is read
pub record Adds (order : Order) (before : FoundOptions) (option : CodedValue)
    (after : FoundOptions) : Type 0 where
  pub name : option_copied after.name
      ≡ option_or (option_copied before.name) (value_for name_code option)
  pub units : after.units
      ≡ option_or before.units (option_map units_in_value (value_for resolution_code option))
  pub offset : after.offset
      ≡ option_or before.offset (option_map (offset_in_value order) (value_for offset_code option))
  pub short : HasShortName before → HasShortName after

-- whether an option of this code was found; false for a code that isn't read
abbrev pub is_found : FoundOptions → ℕ → Bool
is_found found code =
    if code == name_code then is_some found.name
    else (if code == resolution_code then is_some found.units
    else (if code == offset_code then is_some found.offset
    else false))
