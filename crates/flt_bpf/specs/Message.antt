-- The messages about a refused program and about a refused text.
use Rattle.std.specs.Prelude.{ℕ, Bool, true, false, if◌then◌else◌, List, [], ◌++◌, Option, Some, None, codes, decimal}
use Rattle.flt_bpf.specs.declared.fault.CheckFault.{CheckFault}
use Rattle.flt_bpf.specs.declared.fault.CheckFault.TheVariants.{Empty, TooLong, UnknownCode, JumpOut, NoSuchWord, DivisionByZero, ShiftTooFar, NoReturn}
use Rattle.flt_bpf.specs.declared.fault.ListingFault.{ListingFault}

-- the text of a broken rule
abbrev pub check_text : CheckFault → List ℕ
check_text Empty = codes "empty"
check_text TooLong = codes "too long"
check_text UnknownCode = codes "unknown code"
check_text JumpOut = codes "jump out"
check_text NoSuchWord = codes "no such word"
check_text DivisionByZero = codes "division by zero"
check_text ShiftTooFar = codes "shift too far"
check_text NoReturn = codes "no return at the end"

-- whether a rule is about one instruction, whose index is reported
abbrev pub has_index : CheckFault → Bool
has_index Empty = false
has_index TooLong = false
has_index NoReturn = false
has_index _ = true

-- the message about a broken rule; if one instruction breaks it, with its index
abbrev pub check_message : CheckFault → ℕ → List ℕ
check_message fault index =
    check_text fault ++ (if has_index fault then codes " at " ++ decimal index else [])

-- why a text was not read, without the line
abbrev pub listing_text : ListingFault → List ℕ
listing_text (ListingFault.NotListing line) = codes "not a listing"
listing_text ListingFault.Memory = codes "no memory"

-- the number, from 1, of the line at which a text is refused; None if memory ran out
abbrev pub wrong_line : ListingFault → Option ℕ
wrong_line (ListingFault.NotListing line) = Some line
wrong_line ListingFault.Memory = None

-- the part of a message that names a line; empty without one
abbrev pub at_line : Option ℕ → List ℕ
at_line None = []
at_line (Some line) = codes " at line " ++ decimal line

-- the message about a text that was not read
abbrev pub listing_message : ListingFault → List ℕ
listing_message fault = listing_text fault ++ at_line (wrong_line fault)
