-- The listing that is written for instructions is a listing of them.
use Rattle.std.proofs.Common.{◌≡◌, ℕ, suc, ◌*◌, ◌^◌, ◌<◌, ◌≤◌, List, [], ◌∷◌, ◌++◌, length-append, false, refl, sym, subst, arith, ◌==◌, All, decimal}
use Rattle.flt_bpf.proofs.Common.{length, append_assoc, common_steps, AllZip, length-decimal-le, Insn}
use Rattle.flt_bpf.specs.Listing.{BLANK, LINE_FEED, insn_line, insn_lines, listing, AreNumbers, HasFieldsInRange, IsInsnLine, lines_of, IsListing}
use Rattle.std.proofs.lemmas.List.{Elements.All-append, Elements.All-cons, Splits.slice_split_at}
use Rattle.flt_bpf.proofs.{Digits.decimal_number, Digits.field_lengths, Digits.number_lacks, LineByLine.line_more}

-- a number, one blank, and a rest
number_before : (n m : ℕ) (ns rest : List ℕ) → n < 2 ^ 32 → AreNumbers rest (m ∷ ns) → AreNumbers (decimal n ++ BLANK ∷ rest) (n ∷ m ∷ ns)
number_before n m ns rest l h =
    record {
      digits = decimal n;
      more_blanks = 0;
      rest = rest;
      line_is = sym (append_assoc (decimal n) (BLANK ∷ []) rest);
      number =
          decimal_number n l;
      rest_is = h;
    }

-- the line that is written for an instruction is a line of it
insn_written : (i : Insn) → HasFieldsInRange i → IsInsnLine (insn_line i) i
insn_written i r =
    let jf = number_before i.jf i.k [] (decimal i.k) (omega (arith, r.jf)) (decimal_number i.k r.k) in
    let jt = number_before i.jt i.jf (i.k ∷ []) (decimal i.jf ++ BLANK ∷ decimal i.k) (omega (arith, r.jt)) jf in
    let code = number_before i.code i.jt (i.jf ∷ i.k ∷ []) (decimal i.jt ++ BLANK ∷ (decimal i.jf ++ BLANK ∷ decimal i.k)) (omega (arith, r.code)) jt in
    record { numbers = code; in_range = r }

decimal_lacks : (n : ℕ) → n < 2 ^ 32 → All (λ b. (b == LINE_FEED) ≡ false) (decimal n)
decimal_lacks n l = search (arith, number_lacks, decimal, decimal_number)

line_lacks : (i : Insn) → HasFieldsInRange i → All (λ b. (b == LINE_FEED) ≡ false) (insn_line i)
line_lacks i r =
    let P : ℕ → Type 0 = λ b. (b == LINE_FEED) ≡ false in
    let code = decimal_lacks i.code (omega (arith, r.code)) in
    let jt = decimal_lacks i.jt (omega (arith, r.jt)) in
    let jf = decimal_lacks i.jf (omega (arith, r.jf)) in
    let k = decimal_lacks i.k r.k in
    All-append P (decimal i.code) _ code
    (All-cons P BLANK _ refl (All-append P (decimal i.jt) _ jt (All-cons P BLANK _ refl (All-append P (decimal i.jf) _ jf (All-cons P BLANK _ refl k)))))

-- a line of an instruction has at most 24 bytes before its line feed
pub line_short : (i : Insn) → HasFieldsInRange i → length (insn_line i) ≤ 24
line_short i r = grind (arith, common_steps, field_lengths)

lines_short : (is : List Insn) → All HasFieldsInRange is → length (insn_lines is) ≤ 25 * length is
lines_short [] r = omega arith
lines_short (i ∷ is) r =
    let here = line_short i (r 0 i (omega arith)) in
    let rest = lines_short is (λ k d l. r (suc k) d (omega arith)) in
    omega (arith, here, rest, length-append (insn_line i) (LINE_FEED ∷ insn_lines is))

-- one line, and the others
line_off : (w rest : List ℕ) → All (λ b. (b == LINE_FEED) ≡ false) w → lines_of (w ++ LINE_FEED ∷ rest) ≡ w ∷ lines_of rest
line_off w rest h = search (arith, line_more, slice_split_at)

insns_written : (is : List Insn) → All HasFieldsInRange is → AllZip IsInsnLine (lines_of (insn_lines is)) is
insns_written [] r = tt
insns_written (i ∷ is) r =
    let here = r 0 i (omega arith) in
    let lines : AllZip IsInsnLine (insn_line i ∷ lines_of (insn_lines is)) (i ∷ is) =
    (insn_written i here, insns_written is (λ k d l. r (suc k) d (omega arith))) in
    subst (λ (ls : List (List ℕ)). AllZip IsInsnLine ls (i ∷ is)) (sym (line_off (insn_line i) (insn_lines is) (line_lacks i here))) lines

-- what is written is a listing
pub listing_written : (is : List Insn) → length is ≤ 32768 → All HasFieldsInRange is → IsListing (listing is) is
listing_written is upper_bound r =
    search (arith, length-decimal-le, decimal, decimal_number, insns_written, lines_short, length-append, line_off, decimal_lacks)
