-- Listings of programs: how they are written, which texts are listings, and which line of any other
-- text is the first wrong one.
use Rattle.std.specs.List.{slice_split, AllZip}
use Rattle.std.specs.Prelude.{◌≡◌, ℕ, zero, suc, ◌+◌, ◌^◌, ◌<◌, ◌≤◌, ◌⊎◌, ◌==◌, List, [], ◌∷◌, ◌++◌, length, replicate, slice_get, IsSomeAnd, decimal}
use Rattle.std.specs.Str.Parse.{IsNumeral, digits_value}
use Rattle.flt_bpf.specs.{Valid.MOST_INSTRUCTIONS, declared.insn.Insn.Insn}

-- the byte between the numbers of a line
abbrev pub BLANK : ℕ
BLANK = 32

-- the byte that ends a line
abbrev pub LINE_FEED : ℕ
LINE_FEED = 10

-- the most bytes of a listing
abbrev pub MOST_BYTES : ℕ
MOST_BYTES = 1048576

-- the line of an instruction, without its line feed
abbrev pub insn_line : Insn → List ℕ
insn_line i =
    decimal i.code ++ BLANK ∷ (decimal i.jt ++ BLANK ∷ (decimal i.jf ++ BLANK ∷ decimal i.k))

-- the lines of instructions, each with its line feed
abbrev pub insn_lines : List Insn → List ℕ
insn_lines [] = []
insn_lines (i ∷ is) = insn_line i ++ LINE_FEED ∷ insn_lines is

-- the listing of instructions
abbrev pub listing : List Insn → List ℕ
listing is = decimal (length is) ++ LINE_FEED ∷ insn_lines is

-- a number in 1 to 10 digits, maybe with leading zeros
pub record IsWrittenNumber (digits : List ℕ) (n : ℕ) : Type 0 where
  pub numeral : IsNumeral 10 digits
  pub short : length digits ≤ 10
  pub value : digits_value 10 digits ≡ n

-- a line that consists of a number, one or more blanks, and then bytes for which `Rest` is true
pub record BeginsWith (line : List ℕ) (n : ℕ) (Rest : List ℕ → Type 0) : Type 0 where
  pub digits : List ℕ
  pub more_blanks : ℕ
  pub rest : List ℕ
  pub line_is : line ≡ digits ++ (BLANK ∷ replicate more_blanks BLANK) ++ rest
  pub number : IsWrittenNumber digits n
  pub rest_is : Rest rest

-- a line of one or more of these numbers, with one or more blanks between any two, and none at the
-- ends
abbrev pub AreNumbers : List ℕ → List ℕ → Type 0
AreNumbers line [] = ⊥
AreNumbers line (n ∷ []) = IsWrittenNumber line n
AreNumbers line (n ∷ m ∷ ns) = BeginsWith line n (λ rest. AreNumbers rest (m ∷ ns))

-- the fields of an instruction are in the ranges of their types
pub record HasFieldsInRange (i : Insn) : Type 0 where
  pub code : i.code < 2 ^ 16
  pub jt : i.jt < 2 ^ 8
  pub jf : i.jf < 2 ^ 8
  pub k : i.k < 2 ^ 32

-- a line with the four numbers of an instruction
pub record IsInsnLine (line : List ℕ) (i : Insn) : Type 0 where
  pub numbers : AreNumbers line (i.code ∷ i.jt ∷ i.jf ∷ i.k ∷ [])
  pub in_range : HasFieldsInRange i

-- the pieces between line feeds; the last one is left out if it is empty
abbrev pub lines_from : List (List ℕ) → List (List ℕ)
lines_from [] = []
lines_from ([] ∷ []) = []
lines_from ((b ∷ bs) ∷ []) = (b ∷ bs) ∷ []
lines_from (w ∷ v ∷ ws) = w ∷ lines_from (v ∷ ws)

-- the lines of a text, each ended by a line feed, which may be missing in the last one
abbrev pub lines_of : List ℕ → List (List ℕ)
lines_of text = lines_from (slice_split (λ b. b == LINE_FEED) text)

-- the first line is the number of instructions, and each other line has one of these
abbrev pub AreListingLines : List (List ℕ) → List Insn → Type 0
AreListingLines [] is = ⊥
AreListingLines (first ∷ others) is =
    IsWrittenNumber first (length is) × AllZip IsInsnLine others is

-- the text is a listing of these instructions
pub record IsListing (text : List ℕ) (is : List Insn) : Type 0 where
  pub short : length text ≤ MOST_BYTES
  pub upper_bound : length is ≤ MOST_INSTRUCTIONS
  pub lines : AreListingLines (lines_of text) is

-- the first line exists, and is a number of instructions that a program may have
pub record HasCount (lines : List (List ℕ)) (count : ℕ) : Type 0 where
  pub number : IsSomeAnd (slice_get lines 0) (λ line. IsWrittenNumber line count)
  pub upper_bound : count ≤ MOST_INSTRUCTIONS

-- The line after k others is wrong: the first one if it isn't a count; a later one if it should be
-- an instruction but isn't or is missing, or if it is one too many.
abbrev pub IsWrong : List (List ℕ) → ℕ → Type 0
IsWrong lines zero = (count : ℕ) → ¬ HasCount lines count
IsWrong lines (suc k) = (count : ℕ) × HasCount lines count
    × (((k < count)
    × ((i : Insn) → ¬ IsSomeAnd (slice_get lines (suc k)) (λ line. IsInsnLine line i)))
    ⊎ ((count ≤ k) × (suc k < length lines)))

-- the line after k others is the first wrong one
pub record FirstWrong (lines : List (List ℕ)) (k : ℕ) : Type 0 where
  pub wrong : IsWrong lines k
  pub first : (j : ℕ) → j < k → ¬ IsWrong lines j

-- The number, from 1, of the line at which a text is refused: 1 if the text is too long, else that
-- of the first wrong line.
abbrev pub IsRefusedAt : List ℕ → ℕ → Type 0
IsRefusedAt text line =
    ((MOST_BYTES < length text) × (line ≡ 1))
    ⊎ ((length text ≤ MOST_BYTES) × ((k : ℕ) × FirstWrong (lines_of text) k × (line ≡ k + 1)))
