-- The bytes of the lines are the listing, and if a line can't be written, a prefix of it.
use Rattle.std.proofs.Common.{◌≡◌, ℕ, ◌+◌, ◌-◌, ◌<◌, ◌≤◌, List, [], ◌∷◌, ◌++◌, drop, length-append, refl, sym, ap, ◌∙◌, arith, get_or, decimal}
use Rattle.flt_bpf.proofs.Common.{length, take, append_assoc, Insn}
use Rattle.std.proofs.lemmas.List.{take_all, take_more, drop_more, take-append-drop, take-append-le, length-drop}
use Rattle.flt_bpf.specs.Listing.{LINE_FEED, insn_line, insn_lines, listing}
use Rattle.std.proofs.Math.Seq.{take-append-add}

-- the bytes of a line from where it starts
pub line_bytes : (line : List ℕ) (start : ℕ) → length line ≡ 25 → take (25 - start) (drop start line) ≡ drop start line
line_bytes line start n = search (arith, take_all, length-drop)

-- the lines of more instructions
lines_joined : (is js : List Insn) → insn_lines (is ++ js) ≡ insn_lines is ++ insn_lines js
lines_joined [] js = refl
lines_joined (i ∷ is) js = simp (append_assoc, lines_joined is js)

-- the front of a listing up to an instruction
abbrev pub front_of : List Insn → ℕ → List ℕ
front_of is k = decimal (length is) ++ LINE_FEED ∷ insn_lines (take k is)

front_joined : (is : List Insn) (js ks : List Insn) → decimal (length is) ++ LINE_FEED ∷ insn_lines (js ++ ks) ≡
    (decimal (length is) ++ LINE_FEED ∷ insn_lines js) ++ insn_lines ks
front_joined is js ks = search (arith, decimal, lines_joined, append_assoc)

-- the front grows by a line
pub front_more : (is : List Insn) (k : ℕ) (d : Insn) → k < length is → front_of is (k + 1) ≡ front_of is k ++ (insn_line (get_or is k d) ++ LINE_FEED ∷ [])
front_more is k d l =
    ap (λ (js : List Insn). decimal (length is) ++ LINE_FEED ∷ insn_lines js) (take_more is k d l) ∙ front_joined is (take k is) (get_or is k d ∷ [])

-- a front and what follows it
listing_split : (is : List Insn) (k : ℕ) → listing is ≡ front_of is k ++ insn_lines (drop k is)
listing_split is k = search (arith, decimal, take-append-drop, front_joined)

-- the same with the next line
listing_at : (is : List Insn) (k : ℕ) (d : Insn) → k < length is → listing is ≡ front_of is k
    ++ ((insn_line (get_or is k d) ++ LINE_FEED ∷ []) ++ insn_lines (drop (k + 1) is))
listing_at is k d l =
    listing_split is k
    ∙ ap (λ (x : List ℕ). front_of is k ++ x)
    (ap insn_lines (drop_more is k d l) ∙ sym (append_assoc (insn_line (get_or is k d)) (LINE_FEED ∷ []) (insn_lines (drop (k + 1) is))))

-- a front, and then a front of a line, are a front of the listing
pub stopped_at : (is : List Insn) (k : ℕ) (d : Insn) (s : ℕ) → k < length is → s < length (insn_line (get_or is k d) ++ LINE_FEED ∷ [])
    → front_of is k ++ take s (insn_line (get_or is k d) ++ LINE_FEED ∷ []) ≡ take (length (front_of is k) + s) (listing is)
stopped_at is k d s l less =
    let line = insn_line (get_or is k d) ++ LINE_FEED ∷ [] in
    let rest = insn_lines (drop (k + 1) is) in
    sym (ap (take (length (front_of is k) + s)) (listing_at is k d l) ∙ take-append-add (front_of is k) (line ++ rest) s
    ∙ ap (λ (x : List ℕ). front_of is k ++ x) (take-append-le s line rest (omega arith)))

-- a front and a line are no more than the listing
pub front_within : (is : List Insn) (k : ℕ) (d : Insn) → k < length is → length (front_of is k) + length (insn_line (get_or is k d) ++ LINE_FEED ∷ [])
    ≤ length (listing is)
front_within is k d l =
    let line = insn_line (get_or is k d) ++ LINE_FEED ∷ [] in
    let rest = insn_lines (drop (k + 1) is) in
    omega (arith, ap length (listing_at is k d l), length-append (front_of is k) (line ++ rest), length-append line rest)

-- where the output fails in a line, fewer bytes than the listing has are written
pub stopped_front : (is : List Insn) (k : ℕ) (d : Insn) (written s : ℕ) (bytes : List ℕ) → k < length is → bytes ≡ insn_line (get_or is k d)
    ++ LINE_FEED ∷ [] → s < length bytes → written ≡ length (front_of is k) → written + s < length (listing is)
stopped_front is k d written s bytes l e less size = omega (arith, ap length e, front_within is k d l)

-- and they are the listing's first ones
pub stopped_told : (before now after : List ℕ) (is : List Insn) (k : ℕ) (d : Insn) (written s : ℕ) (bytes : List ℕ) → k < length is
    → bytes ≡ insn_line (get_or is k d) ++ LINE_FEED ∷ [] → s < length bytes → written ≡ length (front_of is k) → now ≡ before ++ front_of is k
    → after ≡ now ++ take s bytes → after ≡ before ++ take (written + s) (listing is)
stopped_told before now after is k d written s bytes l e less size first next = search (arith, append_assoc, stopped_at, listing)

-- one more complete line
pub more_told : (before now after : List ℕ) (is : List Insn) (k : ℕ) (d : Insn) (bytes : List ℕ) → k < length is → bytes ≡ insn_line (get_or is k d)
    ++ LINE_FEED ∷ [] → now ≡ before ++ front_of is k → after ≡ now ++ bytes → after ≡ before ++ front_of is (k + 1)
more_told before now after is k d bytes l e first next = search (arith, append_assoc, front_more)

pub more_size : (is : List Insn) (k : ℕ) (d : Insn) (written start : ℕ) (line : List ℕ) → k < length is → length line ≡ 25
    → take (25 - start) (drop start line) ≡ insn_line (get_or is k d) ++ LINE_FEED ∷ [] → written ≡ length (front_of is k) → written + (25 - start) ≡
    length (front_of is (k + 1))
more_size is k d written start line l n e size =
    let whole = line_bytes line start n in
    omega (
      arith,
      ap length whole,
      ap length e,
      length-drop start line,
      ap length (front_more is k d l),
      length-append (front_of is k)
          (insn_line (get_or is k d) ++ LINE_FEED ∷ []),
    )
