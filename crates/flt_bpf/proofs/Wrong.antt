-- The reader refuses a text at its first wrong line, and a listing has none.
use Rattle.std.proofs.Common.{◌≡◌, ℕ, zero, suc, ◌<◌, ◌≤◌, List, [], ◌∷◌, Some, sym, ap, ◌∙◌, arith, ◌⊎◌, inl, inr, slice_get}
use Rattle.flt_bpf.proofs.Common.{length, AllZip, Insn, AllZip-long}
use Rattle.flt_bpf.specs.Listing.{MOST_BYTES, IsWrittenNumber, IsInsnLine, lines_of, AreListingLines, IsListing, HasCount, IsWrong, FirstWrong, IsRefusedAt}
use Rattle.flt_bpf.specs.inside.Reading.{HasInsn, WrongAfter, IsFaultAfter, line_numbers, only_of}
use Rattle.flt_bpf.specs.declared.fault.ListingFault.{ListingFault, TheVariants.NotListing, TheVariants.Memory}
use Rattle.flt_bpf.{proofs.Numbers.line_numbers_read, specs.Valid.MOST_INSTRUCTIONS, specs.Refusal.IsReasonFor}

-- a line is a number in one way
same_number : (digits : List ℕ) (m n : ℕ) → IsWrittenNumber digits m → IsWrittenNumber digits n → m ≡ n
same_number digits m n a b = sym a.value ∙ b.value

-- a wrong line among those after the first is the first wrong one of all
first_wrong : (first : List ℕ) (others : List (List ℕ)) (n k : ℕ) → IsWrittenNumber first n → n ≤ MOST_INSTRUCTIONS → WrongAfter n others k
    → FirstWrong (first ∷ others) (suc k)
first_wrong first others n k number upper_bound w =
    record { wrong = (n, record { number = number; upper_bound = upper_bound }, here w.wrong); first = λ j less h. earlier j less h }
  where
    here : ((k < n) × ((i : Insn) → ¬ HasInsn (slice_get others k) i)) ⊎ ((n ≤ k) × (k < length others))
        → ((k < n) × ((i : Insn) → ¬ HasInsn (slice_get others k) i)) ⊎ ((n ≤ k) × (suc k < length (first ∷ others)))
    here h = grind arith

    earlier : (j : ℕ) → j < suc k → IsWrong (first ∷ others) j → ⊥
    earlier zero less h = h n (record { number = number; upper_bound = upper_bound })
    earlier (suc j) less (count, has, inl h) = let e = w.insns j (omega arith) in h.1 e.0 e.1
    earlier (suc j) less (count, has, inr h) = omega (arith, h.0, w.upper_bound, same_number first n count number has.number)

-- where there is no count, the first line is the wrong one
refused_first : (text : List ℕ) → length text ≤ MOST_BYTES → ((count : ℕ) → ¬ HasCount (lines_of text) count) → IsRefusedAt text 1
refused_first text short h = search (arith, inr)

pub no_count : (text first : List ℕ) (others : List (List ℕ)) → length text ≤ MOST_BYTES → lines_of text ≡ first ∷ others
    → ((count : ℕ) → only_of (line_numbers first) ≡ Some count → ¬ (count ≤ MOST_INSTRUCTIONS)) → IsRefusedAt text 1
no_count text first others short e none = refused_first text short (λ count h. not_counted count (rw e at h))
  where
    not_counted : (count : ℕ) → HasCount (first ∷ others) count → ⊥
    not_counted count h = none count (ap only_of (line_numbers_read first (count ∷ []) h.number)) h.upper_bound

-- the fault that lines after the count have is the text's
pub fault_reason : (text first : List ℕ) (others : List (List ℕ)) (n : ℕ) (fault : ListingFault) → length text ≤ MOST_BYTES → lines_of text ≡ first ∷
    others → IsWrittenNumber first n → n ≤ MOST_INSTRUCTIONS → IsFaultAfter n others fault → IsReasonFor text fault
fault_reason text first others n (NotListing line) short e number upper_bound (k, w, l) =
    inr (short, (suc k, rw (← e) at (first_wrong first others n k number upper_bound w), omega (arith, l)))
fault_reason text first others n Memory short e number upper_bound h = tt

-- a line with each instruction has the one at a place
line_there : (lines : List (List ℕ)) (is : List Insn) (k : ℕ) → AllZip IsInsnLine lines is → k < length is → (i : Insn) × HasInsn (slice_get lines k) i
line_there [] [] k h l = absurd (omega arith)
line_there [] (i ∷ is) k h l = absurd h
line_there (line ∷ lines) [] k h l = absurd h
line_there (line ∷ lines) (i ∷ is) zero h l = (i, h.0)
line_there (line ∷ lines) (i ∷ is) (suc k) h l = line_there lines is k h.1 (omega arith)

-- no line of a listing is wrong
none_wrong : (lines : List (List ℕ)) (is : List Insn) (k : ℕ) → length is ≤ MOST_INSTRUCTIONS → AreListingLines lines is → IsWrong lines k → ⊥
none_wrong [] is k upper_bound h w = h
none_wrong (first ∷ others) is zero upper_bound h w = w (length is) (record { number = h.0; upper_bound = upper_bound })
none_wrong (first ∷ others) is (suc k) upper_bound h (count, has, inl w) =
    let there = line_there others is k h.1 (omega (arith, w.0, same_number first (length is) count h.0 has.number)) in w.1 there.0 there.1
none_wrong (first ∷ others) is (suc k) upper_bound h (count, has, inr w) =
    omega (arith, w.0, w.1, AllZip-long IsInsnLine others is h.1, same_number first (length is) count h.0 has.number)

-- a listing is refused nowhere
pub listing_not_refused : (text : List ℕ) (is : List Insn) (line : ℕ) → IsListing text is → IsRefusedAt text line → ⊥
listing_not_refused text is line h (inl r) = let long = r.0 in let short = h.short in omega arith
listing_not_refused text is line h (inr r) = none_wrong (lines_of text) is r.1.0 h.upper_bound h.lines r.1.1.wrong

-- a text is refused at one line only
pub refused_once : (text : List ℕ) (line other : ℕ) → IsRefusedAt text line → IsRefusedAt text other → line ≡ other
refused_once text line other (inl r) (inl s) = r.1 ∙ sym s.1
refused_once text line other (inl r) (inr s) = let long = r.0 in let short = s.0 in absurd (omega arith)
refused_once text line other (inr r) (inl s) = let long = s.0 in let short = r.0 in absurd (omega arith)
refused_once text line other (inr (s, (k, a, d))) (inr (t, (j, b, e))) = omega (arith, not_below k j a b, not_below j k b a, d, e)
  where
    not_below : (k j : ℕ) → FirstWrong (lines_of text) k → FirstWrong (lines_of text) j → k ≤ j
    not_below k j a b = let h : ¬ (j < k) = λ l. a.first j l b.wrong in omega arith
