-- Options: codes and values, one after another (draft-ietf-opsawg-pcapng, "Options").
use Rattle.std.specs.Prelude.{ℕ, zero, suc, ◌+◌, ◌==◌, ◌||◌, if◌then◌else◌, Bool, List, [], ◌∷◌, length, drop, take, nat_le, nat_lt, Result, Ok, Err}
use Rattle.cap_octet.specs.Number.{u16_in}
use Rattle.cap_octet.specs.declared.{fault.Fault.Fault, fault.Fault.TheVariants.BadOption, number.Order.Order}
use Rattle.cap_pcapng.specs.Padding.{padded_length}
use Rattle.cap_pcapng.specs.declared.options.{BlockOption.BlockOption, Options.Options}

-- an option without the place of its value in memory
pub record CodedValue : Type 0 where
  pub code : ℕ
  pub value : List ℕ

-- the size of the option at the start of these bytes: its header and the length that it states,
-- without padding
abbrev pub option_size : Order → List ℕ → ℕ
option_size order text = 4 + u16_in order text 2

-- code and value of the option at the start of these bytes
abbrev pub option_at : Order → List ℕ → CodedValue
option_at order text =
    record { code = u16_in order text 0; value = take (u16_in order text 2) (drop 4 text) }

-- whether a list of options ends here: fewer than four bytes remain, or the code is 0, whatever its
-- length
abbrev pub ends_at : Order → List ℕ → Bool
ends_at order text = nat_lt (length text) 4 || (u16_in order text 0 == 0)

-- whether the value of the option at the start lies within these bytes
abbrev pub fits_at : Order → List ℕ → Bool
fits_at order text = nat_le (option_size order text) (length text)

-- the options in these bytes, in order, at most a given number of them; an option whose value
-- doesn't fit is a fault, and ends the list
unfoldable pub options_within : ℕ → Order → List ℕ → List (Result CodedValue Fault)
options_within zero order text = []
options_within (suc most) order text =
    if ends_at order text then []
    else (if fits_at order text
    then Ok (option_at order text)
    ∷ options_within most order (drop (padded_length (option_size order text)) text)
    else Err BadOption ∷ [])

-- the options in these bytes; each has at least one byte, so there are at most as many as bytes
unfoldable pub options_in : Order → List ℕ → List (Result CodedValue Fault)
options_in order text = options_within (length text) order text

-- the options that an iterator hasn't returned yet
abbrev pub options_left : Options → List (Result CodedValue Fault)
options_left options = options_in options.order options.rest.now

-- the code and the value of an option that was read
abbrev pub coded_value : BlockOption → CodedValue
coded_value option = record { code = option.code; value = option.value.now }

-- an item of the iterator, without the place in memory
abbrev pub item_of : Result BlockOption Fault → Result CodedValue Fault
item_of (Ok option) = Ok (coded_value option)
item_of (Err fault) = Err fault
