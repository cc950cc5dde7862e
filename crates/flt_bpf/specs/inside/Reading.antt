-- What the reader of listings computes from a line, and what it finds on the lines after the first.
use Rattle.std.specs.{Borrow.Bor, List.slice_split, List.AllZip}
use Rattle.std.specs.Prelude.{◌≡◌, ℕ, ◌+◌, ◌^◌, ◌<◌, ◌≤◌, ◌⊎◌, nat_lt, ◌==◌, ◌&&◌, if◌then◌else◌, List, [], ◌∷◌, length, slice_get, Option, Some, None, IsSomeAnd}
use Rattle.cap_octet.specs.Digits.{decimal_value}
use Rattle.flt_bpf.specs.Listing.{BLANK, IsInsnLine}
use Rattle.flt_bpf.specs.declared.fault.ListingFault.{ListingFault, TheVariants.NotListing, TheVariants.Memory}
use Rattle.flt_bpf.specs.declared.insn.Insn.{Insn}

-- the pieces of a text after the first, by what follows that and `stop`; none if the first one is
-- the whole text
abbrev pub pieces_after : ℕ → Option (Bor (List ℕ)) → List (List ℕ)
pieces_after stop None = []
pieces_after stop (Some rest) = slice_split (λ b. b == stop) rest.now

-- the number that 1 to 10 digits mean; None for any other bytes
abbrev pub numeral : List ℕ → Option ℕ
numeral ds = if nat_lt 10 (length ds) then None else decimal_value ds

-- a number before others; None if it or they are missing
abbrev pub after : Option ℕ → Option (List ℕ) → Option (List ℕ)
after None others = None
after (Some n) None = None
after (Some n) (Some ns) = Some (n ∷ ns)

-- the numbers of the pieces between blanks after a line's first number. All pieces but the last may
-- be empty, since several blanks count as one. None if a non-empty piece isn't a number, or the
-- last one is empty.
abbrev pub later_numbers : List (List ℕ) → Option (List ℕ)
later_numbers [] = None
later_numbers (w ∷ []) = after (numeral w) (Some [])
later_numbers ([] ∷ v ∷ ws) = later_numbers (v ∷ ws)
later_numbers ((b ∷ bs) ∷ v ∷ ws) = after (numeral (b ∷ bs)) (later_numbers (v ∷ ws))

-- the numbers of a line's pieces between blanks. The first and the last piece mustn't be empty,
-- since a line begins and ends with a number. None if a non-empty piece isn't a number.
abbrev pub numbers_of : List (List ℕ) → Option (List ℕ)
numbers_of [] = None
numbers_of (w ∷ []) = after (numeral w) (Some [])
numbers_of (w ∷ v ∷ ws) = after (numeral w) (later_numbers (v ∷ ws))

-- the numbers of a line, with blanks between them; None if it isn't such a line
abbrev pub line_numbers : List ℕ → Option (List ℕ)
line_numbers line = numbers_of (slice_split (λ b. b == BLANK) line)

-- the number of a list with one number; None for any other list
abbrev pub only_of : Option (List ℕ) → Option ℕ
only_of (Some (n ∷ [])) = Some n
only_of _ = None

-- a list of at most one number, or no list
abbrev pub HasAtMostOne : Option (List ℕ) → Type 0
HasAtMostOne None = Unit {0}
HasAtMostOne (Some ns) = length ns ≤ 1

-- the instruction with these fields; None if one isn't in range
abbrev pub insn_from : ℕ → ℕ → ℕ → ℕ → Option Insn
insn_from code jt jf k =
    if nat_lt code (2 ^ 16) && (nat_lt jt (2 ^ 8) && (nat_lt jf (2 ^ 8) && nat_lt k (2 ^ 32)))
    then Some (record { code = code; jt = jt; jf = jf; k = k }) else None

-- the instruction with these four numbers; None if there aren't four or one isn't in range
abbrev pub insn_of : Option (List ℕ) → Option Insn
insn_of (Some (code ∷ jt ∷ jf ∷ k ∷ [])) = insn_from code jt jf k
insn_of _ = None

-- each of n lines has the instruction with its index
pub record AreInsns (n : ℕ) (lines : List (List ℕ)) (is : List Insn) : Type 0 where
  pub count : length is ≡ n
  pub each : AllZip IsInsnLine lines is

-- a line exists and has this instruction
abbrev pub HasInsn : Option (List ℕ) → Insn → Type 0
HasInsn o i = IsSomeAnd o (λ line. IsInsnLine line i)

-- among lines that should be n instructions, the one after k others is the first that isn't one, is
-- missing, or is one too many
pub record WrongAfter (n : ℕ) (lines : List (List ℕ)) (k : ℕ) : Type 0 where
  pub wrong : ((k < n) × ((i : Insn) → ¬ HasInsn (slice_get lines k) i))
      ⊎ ((n ≤ k) × (k < length lines))
  pub upper_bound : k ≤ n
  pub insns : (j : ℕ) → j < k → (i : Insn) × HasInsn (slice_get lines j) i

-- a fault of these lines, the first of which has number 2: its line is the first wrong one; memory
-- may run out for any lines
abbrev pub IsFaultAfter : ℕ → List (List ℕ) → ListingFault → Type 0
IsFaultAfter n lines (NotListing line) = (k : ℕ) × WrongAfter n lines k × (line ≡ k + 2)
IsFaultAfter n lines Memory = Unit {0}
