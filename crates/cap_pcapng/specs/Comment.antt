-- The comment of a packet (draft-ietf-opsawg-pcapng, option opt_comment).
use Rattle.std.specs.Prelude.{ℕ, List, [], unwrap_or}
use Rattle.cap_octet.specs.declared.number.Order.{Order}
use Rattle.cap_pcapng.specs.{InterfaceOptions.first_value, InterfaceOptions.fitting_options, OptionList.options_in}

-- the code of a comment
abbrev pub comment_code : ℕ
comment_code = 1

-- The comment in a packet's options: the value of the first option with its code, or empty. The
-- options end at code 0, at the end of their bytes, or at a value that doesn't fit; none of these
-- is a fault.
abbrev pub comment_in : Order → List ℕ → List ℕ
comment_in order options =
    unwrap_or (first_value comment_code (fitting_options (options_in order options))) []
