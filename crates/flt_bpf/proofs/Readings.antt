-- The instruction that the reader finds on a line is the one that it writes, so a text has one
-- reading.
use Rattle.std.proofs.Common.{◌≡◌, ℕ, ◌≤◌, List, [], ◌∷◌, Option, Some, refl, ap, ◌∙◌, arith}
use Rattle.flt_bpf.proofs.Common.{length, AllZip, Insn, nat_tests}
use Rattle.flt_bpf.specs.Listing.{MOST_BYTES, IsWrittenNumber, IsInsnLine, lines_of, AreListingLines, IsListing, HasFieldsInRange}
use Rattle.flt_bpf.specs.inside.Reading.{line_numbers, only_of, AreInsns, insn_from, insn_of}
use Rattle.flt_bpf.{specs.Valid.MOST_INSTRUCTIONS, proofs.Numbers.line_numbers_are, proofs.Numbers.line_numbers_read}

-- four numbers that are an instruction are its fields, and in range
four_numbers : (o : Option (List ℕ)) (i : Insn) → insn_of o ≡ Some i → o ≡ Some (i.code ∷ i.jt ∷ i.jf ∷ i.k ∷ [])
four_numbers o i e = grind (arith, nat_tests)

in_range : (o : Option (List ℕ)) (i : Insn) → insn_of o ≡ Some i → HasFieldsInRange i
in_range o i e = grind (arith, nat_tests)

insn_from_fields : (i : Insn) → HasFieldsInRange i → insn_from i.code i.jt i.jf i.k ≡ Some i
insn_from_fields i h = grind (arith, nat_tests)

-- the instruction that is read from a line is on it, and the other way round
pub insn_is : (line : List ℕ) (i : Insn) → insn_of (line_numbers line) ≡ Some i → IsInsnLine line i
insn_is line i e = search (arith, line_numbers_are, four_numbers, in_range)

pub insn_read : (line : List ℕ) (i : Insn) → IsInsnLine line i → insn_of (line_numbers line) ≡ Some i
insn_read line i h = ap insn_of (line_numbers_read line (i.code ∷ i.jt ∷ i.jf ∷ i.k ∷ []) h.numbers) ∙ insn_from_fields i h.in_range

-- a line that is read as one number
pub only_number_is : (line : List ℕ) (n : ℕ) → only_of (line_numbers line) ≡ Some n → IsWrittenNumber line n
only_number_is line n e = line_numbers_are line (n ∷ []) (one (line_numbers line) e)
  where
    one : (o : Option (List ℕ)) → only_of o ≡ Some n → o ≡ Some (n ∷ [])
    one (Some (m ∷ [])) e = let same : m ≡ n = cc in ap (λ k. Some (k ∷ [])) same
    one _ e = cc

pub insns_listing : (text first : List ℕ) (others : List (List ℕ)) (n : ℕ) (is : List Insn) → length text ≤ MOST_BYTES → lines_of text ≡ first ∷
    others → IsWrittenNumber first n → n ≤ MOST_INSTRUCTIONS → AreInsns n others is → IsListing text is
insns_listing text first others n is short e number upper_bound h = search arith

insns_same : (lines : List (List ℕ)) (is js : List Insn) → AllZip IsInsnLine lines is → AllZip IsInsnLine lines js → is ≡ js
insns_same [] [] [] a b = refl
insns_same [] [] (j ∷ js) a b = absurd b
insns_same [] (i ∷ is) js a b = absurd a
insns_same (line ∷ lines) [] js a b = absurd a
insns_same (line ∷ lines) (i ∷ is) [] a b = absurd b
insns_same (line ∷ lines) (i ∷ is) (j ∷ js) a b =
    let s = insn_read line i a.0 in let t = insn_read line j b.0 in let r = insns_same lines is js a.1 b.1 in let same : i ≡ j = cc in cc

pub same_reading : (text : List ℕ) (is js : List Insn) → IsListing text is → IsListing text js → is ≡ js
same_reading text is js a b = same (lines_of text) a.lines b.lines
  where
    same : (lines : List (List ℕ)) → AreListingLines lines is → AreListingLines lines js → is ≡ js
    same [] a b = absurd a
    same (first ∷ others) a b = insns_same others is js a.1 b.1
