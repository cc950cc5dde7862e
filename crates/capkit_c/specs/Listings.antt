-- The result of reading a listing for C, and of writing one.
use Rattle.std.specs.Prelude.{◌≡◌, ℕ, ◌<◌, ◌≤◌, List, length, take, drop}
use Rattle.flt_bpf.specs.Listing.{IsListing, IsRefusedAt, listing}
use Rattle.flt_bpf.specs.{Valid.BreaksFirst, Valid.IsValid, declared.insn.Insn.Insn}
use Rattle.flt_words.specs.declared.fault.ExprFault.{ExprFault}
use Rattle.capkit_c.specs.{Compiling.Tells, Texts.put_text, declared.compiling.Failure.Failure}

-- the first `count` instructions are those of the listing, and the others are unchanged
pub record HoldsListing (text : List ℕ) (old new : List Insn) (count : ℕ) : Type 0 where
  pub listing : IsListing text (take count new)
  pub same_length : length new ≡ length old
  pub fits : count ≤ length old
  pub rest : drop count new ≡ drop count old

-- there is no room for the instructions of a listing
abbrev pub IsTooLong : List ℕ → (room count : ℕ) → Type 0
IsTooLong text room count =
    (room < count) × ((insns : List Insn) × IsListing text insns × (length insns ≡ count))

-- why no listing is read: the text isn't one, there is no room for its instructions, or, for any
-- text, memory ran out
abbrev pub IsUnread : List ℕ → ℕ → Failure → Type 0
IsUnread text room (Failure.NotListing line) = IsRefusedAt text line
IsUnread text room (Failure.NoRoom count) = IsTooLong text room count
IsUnread text room (Failure.Text ExprFault.Memory) = Unit {0}
IsUnread text room _ = ⊥

-- status 0 and the instructions; or 17 and the first wrong line, 16 and the number of instructions,
-- or 13 if memory ran out, and the instructions are unchanged
abbrev pub ListingLeaves : List ℕ → (old new : List Insn) → (number status : ℕ) → Type 0
ListingLeaves text old new number status =
    Tells (HoldsListing text old new) (λ why. IsUnread text (length old) why × (new ≡ old))
    number status

-- as much of the listing of a valid program as fits is in the buffer, and `number` is its full
-- length
pub record PutsListing (insns : List Insn) (old new : List ℕ) (number : ℕ) : Type 0 where
  pub valid : IsValid insns
  pub put : new ≡ put_text (listing insns) old
  pub count : number ≡ length (listing insns)

-- why no listing is written: this is the first rule that the instructions break; or, for any
-- instructions, memory ran out
abbrev pub IsUnlisted : List Insn → Failure → Type 0
IsUnlisted insns (Failure.Invalid rule) = (index : ℕ) × BreaksFirst insns rule index
IsUnlisted insns (Failure.Text ExprFault.Memory) = Unit {0}
IsUnlisted insns _ = ⊥

-- status 0 and the listing; or the number of the first rule that the instructions break, or 13 if
-- memory ran out; then the length is 0 and the buffer is unchanged
abbrev pub ListingTells : List Insn → (old new : List ℕ) → (number status : ℕ) → Type 0
ListingTells insns old new number status =
    Tells (PutsListing insns old new) (λ why. IsUnlisted insns why × (new ≡ old)) number
    status
