-- The numbers that the reader finds on a line are those that the line writes.
use Rattle.std.proofs.Common.{◌≡◌, ℕ, zero, suc, ◌<◌, List, [], ◌∷◌, ◌++◌, Bool, Option, Some, refl, ap, ◌∙◌, subst, arith, ◌==◌, replicate}
use Rattle.flt_bpf.proofs.Common.{length, append_assoc, slice_split, join_with_byte}
use Rattle.std.proofs.lemmas.List.Splits.{slice_split_at, slice_split_none, length-slice_split, slice_split-cons_yes, join_with_byte-slice_split}
use Rattle.flt_bpf.specs.Listing.{BLANK, AreNumbers}
use Rattle.flt_bpf.specs.inside.Reading.{numeral, after, later_numbers, numbers_of, line_numbers}
use Rattle.flt_bpf.proofs.{Digits.numeral_is, Digits.numeral_read, Digits.number_lacks, Lines.numbers_more}

-- blanks and then numbers
record Indented (line : List ℕ) (ns : List ℕ) : Type 0 where
  blanks : ℕ
  rest : List ℕ
  line_is : line ≡ replicate blanks BLANK ++ rest
  numbers : AreNumbers rest ns

-- a number read before others
before : (o : Option ℕ) (others : Option (List ℕ)) (ns : List ℕ) → after o others ≡ Some ns → (n : ℕ) × (ms : List ℕ) × (o ≡ Some n)
    × (others ≡ Some ms) × (ns ≡ n ∷ ms)
before o others ns e = grind arith

-- one number
only : (o : Option ℕ) (ns : List ℕ) → after o (Some []) ≡ Some ns → (n : ℕ) × (o ≡ Some n) × (ns ≡ n ∷ [])
only o ns e = grind arith

one_number : (w : List ℕ) (ns : List ℕ) → after (numeral w) (Some []) ≡ Some ns → AreNumbers w ns
one_number w ns e = let r = only (numeral w) ns e in rw r.2 (numeral_is w r.0 r.1)

-- a number, blanks and other numbers
more_numbers : (w line : List ℕ) (n : ℕ) (ms : List ℕ) → numeral w ≡ Some n → Indented line ms → AreNumbers (w ++ BLANK ∷ line) (n ∷ ms)
more_numbers w line n [] e r = absurd r.numbers
more_numbers w line n (m ∷ ms) e r = search (arith, append_assoc, numeral_is)

-- the numbers of later pieces are those of their text, after blanks
later_are : (ws : List (List ℕ)) (ns : List ℕ) → later_numbers ws ≡ Some ns → Indented (join_with_byte BLANK ws) ns
later_are [] ns e = cc
later_are (w ∷ []) ns e = search (arith, one_number)
later_are ([] ∷ v ∷ ws) ns e =
    let r = later_are (v ∷ ws) ns e in
    record { blanks = suc r.blanks; rest = r.rest; line_is = ap (λ (x : List ℕ). BLANK ∷ x) r.line_is; numbers = r.numbers }
later_are ((b ∷ bs) ∷ v ∷ ws) ns e =
    let r = before (numeral (b ∷ bs)) (later_numbers (v ∷ ws)) ns e in
    record {
      blanks = 0;
      rest = (b ∷ bs) ++ BLANK ∷ join_with_byte BLANK (v ∷ ws);
      line_is = refl;
      numbers =
          rw r.4 (more_numbers (b ∷ bs) _ r.0 r.1 r.2 (later_are (v ∷ ws) r.1 r.3));
    }

numbers_are : (ws : List (List ℕ)) (ns : List ℕ) → numbers_of ws ≡ Some ns → AreNumbers (join_with_byte BLANK ws) ns
numbers_are [] ns e = cc
numbers_are (w ∷ []) ns e = one_number w ns e
numbers_are (w ∷ v ∷ ws) ns e =
    let r = before (numeral w) (later_numbers (v ∷ ws)) ns e in rw r.4 (more_numbers w _ r.0 r.1 r.2 (later_are (v ∷ ws) r.1 r.3))

-- the numbers that are read from a line are on it
pub line_numbers_are : (line : List ℕ) (ns : List ℕ) → line_numbers line ≡ Some ns → AreNumbers line ns
line_numbers_are line ns e =
    subst (λ (l : List ℕ). AreNumbers l ns) (join_with_byte-slice_split BLANK line) (numbers_are (slice_split (λ b. b == BLANK) line) ns e)

later_full : (w : List ℕ) (ws : List (List ℕ)) → 0 < length w → later_numbers (w ∷ ws) ≡ numbers_of (w ∷ ws)
later_full w ws l = grind arith

later_skip : (ws : List (List ℕ)) → 0 < length ws → later_numbers ([] ∷ ws) ≡ later_numbers ws
later_skip ws l = grind arith

-- blanks before later numbers are skipped
later_blanks : (k : ℕ) (rest : List ℕ) → later_numbers (slice_split (λ b. b == BLANK) (replicate k BLANK ++ rest)) ≡ later_numbers
    (slice_split (λ b. b == BLANK) rest)
later_blanks zero rest = refl
later_blanks (suc k) rest = search (arith, slice_split-cons_yes, later_skip, slice_split, length-slice_split, (later_blanks k rest))

-- the numbers that are on a line are read from it, as those of a line and as later ones
both_read : (line : List ℕ) (ns : List ℕ) → AreNumbers line ns → (line_numbers line ≡ Some ns) × (later_numbers (slice_split (λ b. b == BLANK) line) ≡ Some ns)
both_read line [] h = absurd h
both_read line (n ∷ []) h =
    let s = slice_split_none (λ b. b == BLANK) line (number_lacks BLANK line n (omega arith) h) in
    let r = ap (λ o. after o (Some [])) (numeral_read line n h) in
    (ap numbers_of s ∙ r, ap later_numbers s ∙ r)
both_read line (n ∷ m ∷ ns) h =
    let p : ℕ → Bool = λ b. b == BLANK in
    let following = replicate h.more_blanks BLANK ++ h.rest in
    let s = ap (slice_split p) (h.line_is ∙ append_assoc h.digits (BLANK ∷ replicate h.more_blanks BLANK) h.rest)
    ∙ slice_split_at p h.digits BLANK following (number_lacks BLANK h.digits n (omega arith) h.number) refl in
    let r = numbers_more h.digits (slice_split p following) (omega (arith, length-slice_split p following))
    ∙ ap (λ o. after o (later_numbers (slice_split p following))) (numeral_read h.digits n h.number)
    ∙ ap (after (Some n)) (later_blanks h.more_blanks h.rest ∙ (both_read h.rest (m ∷ ns) h.rest_is).1) in
    (ap numbers_of s ∙ r, ap later_numbers s ∙ later_full h.digits _ h.number.numeral.0 ∙ r)

pub line_numbers_read : (line : List ℕ) (ns : List ℕ) → AreNumbers line ns → line_numbers line ≡ Some ns
line_numbers_read line ns h = (both_read line ns h).0
