-- The longest piece at the start of a text.
use Rattle.std.proofs.Common.{◌≡◌, ℕ, ◌+◌, ◌-◌, ◌<◌, ◌≤◌, ◌≢◌, suc, zero, List, [], ◌∷◌, below_more, length, get_or, take, refl, sym, ap, ◌∙◌, arith, Bool}
use Rattle.std.proofs.Common.{true, false, length-take-le, Some, None, lit<, lit≤, ⊎_elim}
use Rattle.flt_words.proofs.Common.{cases_lt, false≢true, TokenKind, starts_word, within_word, symbol_of, symbol, word}
use Rattle.flt_words.specs.Tokens.{IsLongest, IsPiece, IsWordPiece}
use Rattle.{std.proofs.lemmas.List.get_or-take, flt_words.proofs.Tables.symbol_piece}

-- what the loop over a word's bytes finds out, up to where it stops
pub record IsScanned (inside : Bool) (rest : List ℕ) (len stop : ℕ) : Type 0 where
  pub so_far : len ≤ stop
  pub some : 0 < len
  pub within : (k : ℕ) → k < stop → within_word inside (get_or rest k 0) ≡ true
  pub ends : starts_word inside (get_or rest (len - 1) 0) ≡ true
  pub later : (k : ℕ) → len ≤ k → k < stop → starts_word inside (get_or rest k 0) ≡ false

starts_at_none : (inside : Bool) → starts_word inside 0 ≡ false
starts_at_none true = refl
starts_at_none false = refl

pub begins_some : (inside : Bool) (rest : List ℕ) → starts_word inside (get_or rest 0 0) ≡ true → 0 < length rest
begins_some inside [] begins = search (arith, false≢true, starts_at_none)
begins_some inside (b ∷ rest) begins = omega arith

-- its first byte
pub scanned_first : {inside : Bool} {rest : List ℕ} → starts_word inside (get_or rest 0 0) ≡ true → IsScanned inside rest 1 1
scanned_first {inside} {rest} starts = record {
  so_far = lit≤ tt;
  some = lit< tt;
  within = below_more (λ k. within_word inside (get_or rest k 0) ≡ true) 0 (λ k none. absurd (omega arith)) (rw starts refl);
  ends = starts;
  later = λ k low high. absurd (omega arith);
}

-- one more byte
pub scanned_end : {inside : Bool} {rest : List ℕ} {len i : ℕ} → IsScanned inside rest len i → within_word inside (get_or rest i 0) ≡ true
    → starts_word inside (get_or rest i 0) ≡ true → IsScanned inside rest (i + 1) (i + 1)
scanned_end {inside} {rest} {len} {i} scanned within starts = record {
  so_far = omega arith;
  some = omega arith;
  within = below_more (λ k. within_word inside (get_or rest k 0) ≡ true) i scanned.within within;
  ends = let last : i + 1 - 1 ≡ i = omega arith in rw last starts;
  later = λ k low high. absurd (omega arith);
}

pub scanned_between : {inside : Bool} {rest : List ℕ} {len i : ℕ} → IsScanned inside rest len i → within_word inside (get_or rest i 0) ≡ true
    → starts_word inside (get_or rest i 0) ≡ false → IsScanned inside rest len (i + 1)
scanned_between {inside} {rest} {len} {i} scanned within other = record {
  so_far = omega (arith, scanned.so_far);
  some = scanned.some;
  within = below_more (λ k. within_word inside (get_or rest k 0) ≡ true) i scanned.within within;
  ends = scanned.ends;
  later = λ k low high. ⊎_elim (λ below. scanned.later k low below) (λ above. let here : k ≡ i = omega arith in rw here other) (cases_lt k i);
}

-- a piece reads as its text does
pub taken : (rest : List ℕ) (m i : ℕ) → i < m → get_or (take m rest) i 0 ≡ get_or rest i 0
taken rest m i below = get_or-take m rest i 0 below

pub word_some : (inside : Bool) (rest : List ℕ) (m : ℕ) → IsWordPiece inside (take m rest) → 0 < m
word_some inside rest zero w = search (arith, false≢true, starts_at_none)
word_some inside rest (suc m) w = omega arith

last_starts : (inside : Bool) (rest : List ℕ) (m : ℕ) → 0 < m → m ≤ length rest → IsWordPiece inside (take m rest)
    → starts_word inside (get_or rest (m - 1) 0) ≡ true
last_starts inside rest m some within w = search (arith, length-take-le, taken)

module _ (inside : Bool) (rest : List ℕ) (len stop : ℕ) (scanned : IsScanned inside rest len stop) (in_range : stop ≤ length rest)
    (begins : starts_word inside (get_or rest 0 0) ≡ true)
    (stops : stop < length rest → within_word inside (get_or rest stop 0) ≡ false) where
  past_stop : (m : ℕ) → m ≤ length rest → stop < m → IsWordPiece inside (take m rest) → ⊥
  past_stop m within above w =
      let long : length (take m rest) ≡ m = length-take-le m rest within in
      let same = taken rest m stop above in
      false≢true (sym (stops (omega arith)) ∙ sym (ap (within_word inside) same) ∙ w.within stop (omega arith))

  no_longer_word : (m : ℕ) → m ≤ length rest → IsWordPiece inside (take m rest) → m ≤ len
  no_longer_word m within w = ⊎_elim (λ longer. absurd
      (⊎_elim (λ past. past_stop m within past w)
      (λ here. false≢true (sym (scanned.later (m - 1) (omega arith) (omega (arith, word_some inside rest m w))) ∙ last_starts inside rest m
      (word_some inside rest m w) within w)) (cases_lt stop m))) (λ shorter. shorter) (cases_lt len m)

  scanned_word : IsWordPiece inside (take len rest)
  scanned_word =
      let below : len ≤ length rest = omega (arith, scanned.so_far) in
      let long : length (take len rest) ≡ len = length-take-le len rest below in
      record {
        begins = ap (starts_word inside) (taken rest len 0 scanned.some) ∙ begins;
        within = λ i h. let low : i < len = omega arith in ap (within_word inside) (taken rest len i low) ∙ scanned.within i (omega (arith, scanned.so_far));
        ends = ap (λ k. starts_word inside (get_or (take len rest) (k - 1) 0)) long ∙ ap (starts_word inside)
            (taken rest len (len - 1) (omega (arith, scanned.some))) ∙ scanned.ends;
      }

  no_longer : (m : ℕ) → m ≤ length rest → IsPiece inside (take m rest) → m ≤ len
  no_longer m within (word w) = no_longer_word m within w
  no_longer m within (symbol {kind} found) =
      let is = symbol_piece inside (take m rest) kind found in
      let some : 0 < m = omega (arith, is.some, length-take-le m rest within) in
      absurd (false≢true (sym is.starts_none ∙ ap (starts_word inside) (taken rest m 0 some) ∙ begins))

  pub longest_word : IsLongest inside rest len
  longest_word = record { in_range = omega (arith, scanned.so_far); piece = word scanned_word; longest = no_longer }

-- where no word begins, no piece is one
no_word : (inside : Bool) (rest : List ℕ) (m : ℕ) → starts_word inside (get_or rest 0 0) ≡ false → IsWordPiece inside (take m rest) → ⊥
no_word inside rest m other w = search (arith, taken, word_some, false≢true)

some_bytes : (inside : Bool) (rest : List ℕ) (m : ℕ) → m ≤ length rest → IsPiece inside (take m rest) → 0 < m
some_bytes inside rest m within (word w) = word_some inside rest m w
some_bytes inside rest m within (symbol {kind} found) = search (arith, symbol_piece, length-take-le)

-- but a symbol of at most two bytes
record IsSymbolOf (inside : Bool) (rest : List ℕ) (m : ℕ) : Type 0 where
  some : 0 < m
  upper_bound : m ≤ 2
  found : symbol_of inside (take m rest) ≢ None

only_symbol : {inside : Bool} {rest : List ℕ} (m : ℕ) → starts_word inside (get_or rest 0 0) ≡ false → m ≤ length rest → IsPiece inside (take m rest)
    → IsSymbolOf inside rest m
only_symbol {inside} {rest} m other within (word w) = absurd (no_word inside rest m other w)
only_symbol {inside} {rest} m other within (symbol {kind} is) = search (arith, some_bytes, symbol, symbol_piece, length-take-le)

not_of : {inside : Bool} {rest : List ℕ} {m : ℕ} (n : ℕ) → (n ≤ length rest → symbol_of inside (take n rest) ≡ None) → m ≤ length rest
    → IsSymbolOf inside rest m → m ≢ n
not_of {inside} {rest} n none within is same = search arith

pub longest_two : {inside : Bool} {rest : List ℕ} {kind : TokenKind} → 2 ≤ length rest → starts_word inside (get_or rest 0 0) ≡ false
    → symbol_of inside (take 2 rest) ≡ Some kind → IsLongest inside rest 2
longest_two long other found = record { in_range = long; piece = symbol found; longest = λ m within piece. (only_symbol m other within piece).upper_bound }

pub longest_one : {inside : Bool} {rest : List ℕ} {kind : TokenKind} → 1 ≤ length rest → starts_word inside (get_or rest 0 0) ≡ false
    → (2 ≤ length rest → symbol_of inside (take 2 rest) ≡ None) → symbol_of inside (take 1 rest) ≡ Some kind → IsLongest inside rest 1
longest_one some other none found = record {
  in_range = some;
  piece = symbol found;
  longest = λ m within piece. let is = only_symbol m other within piece in omega (arith, is.upper_bound, not_of 2 none within is);
}

pub no_piece_at : (inside : Bool) (rest : List ℕ) → starts_word inside (get_or rest 0 0) ≡ false
    → (2 ≤ length rest → symbol_of inside (take 2 rest) ≡ None) → (1 ≤ length rest → symbol_of inside (take 1 rest) ≡ None)
    → (m : ℕ) → m ≤ length rest → IsPiece inside (take m rest) → ⊥
no_piece_at inside rest other no_two no_one m within piece =
    let is = only_symbol m other within piece in omega (arith, is.some, is.upper_bound, not_of 1 no_one within is, not_of 2 no_two within is)

-- where a word begins, the longest piece is one
pub longest_is_word : {inside : Bool} {rest : List ℕ} {n : ℕ} → IsLongest inside rest n → starts_word inside (get_or rest 0 0) ≡ true
    → IsWordPiece inside (take n rest)
longest_is_word {inside} {rest} {n} longest begins = is_word n longest.in_range longest.piece
  where
    is_word : (m : ℕ) → m ≤ length rest → IsPiece inside (take m rest) → IsWordPiece inside (take m rest)
    is_word m within (word w) = w
    is_word m within (symbol {kind} found) =
        let is = symbol_piece inside (take m rest) kind found in
        let some : 0 < m = omega (arith, is.some, length-take-le m rest within) in
        absurd (false≢true (sym is.starts_none ∙ ap (starts_word inside) (taken rest m 0 some) ∙ begins))

-- and each has a byte
pub longest_some : {inside : Bool} {rest : List ℕ} {n : ℕ} → IsLongest inside rest n → 0 < n
longest_some {inside} {rest} {n} longest = some_bytes inside rest n longest.in_range longest.piece
