-- Why a text isn't read as a listing.
use Rattle.std.specs.Prelude.{ℕ, List}
use Rattle.flt_bpf.specs.Listing.{IsRefusedAt}
use Rattle.flt_bpf.specs.declared.fault.ListingFault.{ListingFault, TheVariants.NotListing, TheVariants.Memory}

-- `NotListing line`: the text is refused at this line. `Memory` may be returned for every text.
abbrev pub IsReasonFor : List ℕ → ListingFault → Type 0
IsReasonFor text (NotListing line) = IsRefusedAt text line
IsReasonFor text Memory = Unit {0}
