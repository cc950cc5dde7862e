-- The options of an interface description block: their checks, in order, and what they mean
-- (draft-ietf-opsawg-pcapng, "Interface Description Block").
use Rattle.std.specs.Int.{cast_signed, w64}
use Rattle.std.specs.Prelude.{ℕ, ◌==◌, if◌then◌else◌, Bool, false, ℤ, List, [], ◌∷◌, ◌++◌, length, slice_index, nat_le, Option, Some, None, is_some, Result, Ok, Err}
use Rattle.cap_octet.specs.Number.{number_in}
use Rattle.cap_octet.specs.declared.fault.Fault.{Fault, TheVariants.BadOption, TheVariants.BadTimeResolution}
use Rattle.cap_octet.specs.declared.number.Order.{Order}
use Rattle.cap_pcapng.specs.{OptionList.CodedValue, Time.is_resolution, Time.units_per_second}

-- the codes of the options that are read
abbrev pub name_code : ℕ
name_code = 2

abbrev pub resolution_code : ℕ
resolution_code = 9

abbrev pub offset_code : ℕ
offset_code = 14

-- the checks of the value of a name: at most 255 bytes
abbrev pub name_checks : List ℕ → List (Bool × Fault)
name_checks value = (nat_le (length value) 255, BadOption) ∷ []

-- the checks of the value of a resolution: one byte, whose power is in range
abbrev pub resolution_checks : List ℕ → List (Bool × Fault)
resolution_checks value =
    (length value == 1, BadOption) ∷ (is_resolution (slice_index value 0), BadTimeResolution) ∷ []

-- the checks of the value of an offset: eight bytes
abbrev pub offset_checks : List ℕ → List (Bool × Fault)
offset_checks value = (length value == 8, BadOption) ∷ []

-- the checks of the first option with its code: those of a name, a resolution or an offset; options
-- with other codes aren't checked
abbrev pub first_checks : CodedValue → List (Bool × Fault)
first_checks option =
    if option.code == name_code then name_checks option.value
    else (if option.code == resolution_code then resolution_checks option.value
    else (if option.code == offset_code then offset_checks option.value
    else []))

-- the value of the first option with a code; None if there is none
abbrev pub first_value : ℕ → List CodedValue → Option (List ℕ)
first_value code [] = None
first_value code (option ∷ options) =
    if option.code == code then Some option.value else first_value code options

-- the checks of an option after these: if an option is repeated, only the first is checked
abbrev pub checks_after : List CodedValue → CodedValue → List (Bool × Fault)
checks_after before option =
    if is_some (first_value option.code before) then [] else first_checks option

-- the checks of a list of options after these, in order: for each, that its value fits, then those
-- of its code
abbrev pub list_checks : List CodedValue → List (Result CodedValue Fault) → List (Bool × Fault)
list_checks before [] = []
list_checks before (Err fault ∷ items) = (false, fault) ∷ list_checks before items
list_checks before (Ok option ∷ items) =
    checks_after before option ++ list_checks (before ++ option ∷ []) items

-- the options whose values fit
abbrev pub fitting_options : List (Result CodedValue Fault) → List CodedValue
fitting_options [] = []
fitting_options (Err fault ∷ items) = fitting_options items
fitting_options (Ok option ∷ items) = option ∷ fitting_options items

-- the ticks per second, by the resolution in a value
abbrev pub units_in_value : List ℕ → ℕ
units_in_value value = units_per_second (slice_index value 0)

-- the offset in a value: seconds, in two's complement
abbrev pub offset_in_value : Order → List ℕ → ℤ
offset_in_value order value = cast_signed w64 (number_in order 8 value 0)
