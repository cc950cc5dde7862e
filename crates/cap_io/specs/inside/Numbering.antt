-- The set that gives each interface its number.
use Rattle.std.specs.Prelude.{◌≡◌, ℕ, false, not, List, ◌++◌, Result, Ok, Err, Some, slice_get}
use Rattle.cap_octet.specs.declared.fault.Fault.{Fault, TheVariants.NoMemory}
use Rattle.cap_io.specs.Text.{Interface, is_among, new_among, number_among}
use Rattle.cap_io.specs.declared.numbering.InterfaceNumber.{InterfaceNumber}

-- the number of an interface among the numbered ones, and whether it is new
pub record HasNumber (old : List Interface) (i : Interface) (given : InterfaceNumber)
    (new : List Interface) : Type 0 where
  pub number : given.number ≡ number_among old i
  pub is_new : given.is_new ≡ not (is_among old i)
  pub interfaces : new ≡ old ++ new_among old i

-- the interface with this index, if there is one, is the first of its equals, so this is its number
abbrev pub IsFirst : ℕ → List Interface → Type 0
IsFirst number interfaces =
    (i : Interface) → slice_get interfaces number ≡ Some i → number_among interfaces i ≡ number

-- an interface gets its number; or it is new, and memory for it ran out
abbrev pub Numbers : List Interface → Interface → Result InterfaceNumber Fault → List Interface
    → Type 0
Numbers old i (Ok given) new = HasNumber old i given new
Numbers old i (Err fault) new = (fault ≡ NoMemory) × (is_among old i ≡ false) × (new ≡ old)
