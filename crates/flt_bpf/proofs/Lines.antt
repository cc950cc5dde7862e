-- A text is cut at the first occurrence of a byte, and the numbers of a line are read one by one.
use Rattle.std.proofs.Common.{◌≡◌, ℕ, ◌<◌, List, [], ◌∷◌, Option, Some, None, refl, ap, ◌∙◌, arith, ◌==◌, zero, suc, ◌+◌, ◌-◌, get_or, drop, length-drop, false}
use Rattle.flt_bpf.proofs.Common.{length, slice_split, Insn, take, nat_tests, onto_first}
use Rattle.flt_bpf.specs.Listing.{BLANK}
use Rattle.flt_bpf.specs.inside.Reading.{numeral, after, later_numbers, numbers_of, line_numbers, insn_from, insn_of, only_of}
use Rattle.std.proofs.lemmas.List.{Splits.length-slice_split, Splits.slice_split-cons_yes, Splits.slice_split-cons_no, take_all}

-- no byte below a place is the one
pub cut_here : (c : ℕ) (bs : List ℕ) (at : ℕ) → ((k : ℕ) → k < at → get_or bs k 0 ≡ c → ⊥) → at < length bs → get_or bs at 0 ≡ c
    → slice_split (λ b. b == c) bs ≡ take at bs ∷ slice_split (λ b. b == c) (drop (suc at) bs)
cut_here c [] at before l here = absurd (omega arith)
cut_here c (b ∷ bs) zero before l here = search (arith, slice_split-cons_yes)
cut_here c (b ∷ bs) (suc at) before l here =
    let other : b ≡ c → ⊥ = before 0 (omega arith) in
    let t : (b == c) ≡ false = grind (arith, nat_tests) in
    slice_split-cons_no (λ x. x == c) b bs t ∙ ap (onto_first b) (cut_here c bs at (λ k less. before (suc k) (omega arith)) (omega arith) here)

-- the same, with what follows as a range
pub cut_range : (c : ℕ) (bs : List ℕ) (at : ℕ) → ((k : ℕ) → k < at → get_or bs k 0 ≡ c → ⊥) → at < length bs → get_or bs at 0 ≡ c
    → slice_split (λ b. b == c) bs ≡ take at bs ∷ slice_split (λ b. b == c) (take (length bs - (at + 1)) (drop (at + 1) bs))
cut_range c bs at before l here = search (arith, suc, take_all, length-drop, cut_here, slice_split)

pub cut_none : (c : ℕ) (bs : List ℕ) → ((k : ℕ) → k < length bs → get_or bs k 0 ≡ c → ⊥) → slice_split (λ b. b == c) bs ≡ bs ∷ []
cut_none c [] h = refl
cut_none c (b ∷ bs) h =
    let other : b ≡ c → ⊥ = h 0 (omega arith) in
    let t : (b == c) ≡ false = grind (arith, nat_tests) in
    slice_split-cons_no (λ x. x == c) b bs t ∙ ap (onto_first b) (cut_none c bs (λ k less. h (suc k) (omega arith)))

pub numbers_more : (w : List ℕ) (ws : List (List ℕ)) → 0 < length ws → numbers_of (w ∷ ws) ≡ after (numeral w) (later_numbers ws)
numbers_more w ws l = grind arith

-- a number with others after it
pub number_first : (line piece rest next : List ℕ) (n : ℕ) → slice_split (λ b. b == BLANK) line ≡ piece ∷ slice_split (λ b. b == BLANK) rest
    → numeral piece ≡ Some n → later_numbers (slice_split (λ b. b == BLANK) rest) ≡ line_numbers next → line_numbers line ≡ after (Some n) (line_numbers next)
number_first line piece rest next n s e l = search (arith, slice_split, length-slice_split, numbers_more, after)

after_not_empty : (o : Option ℕ) (q : Option (List ℕ)) → after o q ≡ Some [] → ⊥
after_not_empty o q e = grind arith

later_not_empty : (ws : List (List ℕ)) → later_numbers ws ≡ Some [] → ⊥
later_not_empty [] e = cc
later_not_empty (w ∷ []) e = after_not_empty (numeral w) (Some []) e
later_not_empty ([] ∷ v ∷ ws) e = later_not_empty (v ∷ ws) e
later_not_empty ((b ∷ bs) ∷ v ∷ ws) e = after_not_empty (numeral (b ∷ bs)) (later_numbers (v ∷ ws)) e

not_only : (o : Option ℕ) (q : Option (List ℕ)) → (q ≡ Some [] → ⊥) → only_of (after o q) ≡ None
not_only o q h = grind arith

-- a line with a blank isn't one number
pub blank_not_only : (line piece rest : List ℕ) → slice_split (λ b. b == BLANK) line ≡ piece ∷ slice_split (λ b. b == BLANK) rest
    → only_of (line_numbers line) ≡ None
blank_not_only line piece rest s = search (arith, slice_split, length-slice_split, numbers_more, not_only, numeral, later_not_empty)

abbrev pub insn_last : ℕ → ℕ → ℕ → Option ℕ → Option Insn
insn_last a b c None = None
insn_last a b c (Some k) = insn_from a b c k

last_of_four : (a b c : ℕ) (o : Option (List ℕ)) → insn_of (after (Some a) (after (Some b) (after (Some c) o))) ≡ insn_last a b c (only_of o)
last_of_four a b c o = grind arith

-- four numbers make an instruction
pub four_numbers : (line l1 l2 l3 : List ℕ) (a b c : ℕ) (k : Option ℕ) → line_numbers line ≡ after (Some a) (line_numbers l1)
    → line_numbers l1 ≡ after (Some b) (line_numbers l2) → line_numbers l2 ≡ after (Some c) (line_numbers l3) → k ≡ only_of (line_numbers l3)
    → insn_of (line_numbers line) ≡ insn_last a b c k
four_numbers line l1 l2 l3 a b c k e1 e2 e3 ek = search (arith, after, last_of_four)
