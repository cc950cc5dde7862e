-- Reading a listing line by line reads the whole listing.
use Rattle.std.proofs.Common.{◌≡◌, ℕ, zero, suc, ◌+◌, ◌-◌, ◌<◌, ◌≤◌, List, [], ◌∷◌, ◌++◌, length-append, Some, None, refl, sym, ap, ◌∙◌, subst, arith, ◌==◌}
use Rattle.std.proofs.Common.{◌⊎◌, Bool, cond, inl, inr, slice_get}
use Rattle.flt_bpf.proofs.Common.{length, onto_first, slice_split, AllZip, Insn}
use Rattle.flt_bpf.specs.Listing.{LINE_FEED, lines_from, lines_of, IsInsnLine}
use Rattle.flt_bpf.specs.inside.Reading.{line_numbers, insn_of, AreInsns, HasInsn, WrongAfter}
use Rattle.flt_bpf.proofs.Readings.{insn_is, insn_read}
use Rattle.std.proofs.{Math.Seq.append_snoc, lemmas.List.Splits.length-slice_split, lemmas.List.append-nil}

-- a line with others after it
pub line_more : (text piece rest : List ℕ) → slice_split (λ b. b == LINE_FEED) text ≡ piece ∷ slice_split (λ b. b == LINE_FEED) rest
    → lines_of text ≡ piece ∷ lines_of rest
line_more text piece rest s =
    let some : 0 < length (slice_split (λ b. b == LINE_FEED) rest) = omega (arith, length-slice_split (λ b. b == LINE_FEED) rest) in
    ap lines_from s ∙ more piece (slice_split (λ b. b == LINE_FEED) rest) some
  where
    more : (w : List ℕ) (ws : List (List ℕ)) → 0 < length ws → lines_from (w ∷ ws) ≡ w ∷ lines_from ws
    more w [] l = absurd (omega arith)
    more w (v ∷ ws) l = refl

lines_some : (text : List ℕ) → 0 < length text → 0 < length (lines_of text)
lines_some [] l = absurd (omega arith)
lines_some (b ∷ bs) l = split (b == LINE_FEED) (slice_split (λ x. x == LINE_FEED) bs) (omega (arith, length-slice_split (λ x. x == LINE_FEED) bs))
  where
    split : (t : Bool) (ws : List (List ℕ)) → 0 < length ws → 0 < length (lines_from (cond t ([] ∷ ws) (onto_first b ws)))
    split t ws l = grind arith

lines_none : (text : List ℕ) → length text ≡ 0 → lines_of text ≡ []
lines_none [] e = refl
lines_none (b ∷ bs) e = absurd (omega arith)

-- lines that are read up to their end: their instructions before those of the others, and the wrong
-- line after them
pub record ReadTo (lines others : List (List ℕ)) (n at : ℕ) (is : List Insn) : Type 0 where
  pub counted : length is ≡ at
  pub insns : (js : List Insn) → AllZip IsInsnLine others js → AllZip IsInsnLine lines (is ++ js)
  pub wrong : (k : ℕ) → WrongAfter (n - at) others k → WrongAfter n lines (at + k)

pub read_none : (lines : List (List ℕ)) (n : ℕ) → ReadTo lines lines n 0 []
read_none lines n = search arith

-- one more line
wrong_later : {n : ℕ} {lines : List (List ℕ)} {k : ℕ} (line : List ℕ) (i : Insn) → IsInsnLine line i → WrongAfter n lines k
    → WrongAfter (suc n) (line ∷ lines) (suc k)
wrong_later {n} {lines} {k} line i h r = record { wrong = later r.wrong; upper_bound = omega (arith, r.upper_bound); insns = earlier }
  where
    later : ((k < n) × ((i : Insn) → ¬ HasInsn (slice_get lines k) i)) ⊎ ((n ≤ k) × (k < length lines))
        → ((suc k < suc n) × ((i : Insn) → ¬ HasInsn (slice_get (line ∷ lines) (suc k)) i)) ⊎ ((suc n ≤ suc k) × (suc k < length (line ∷ lines)))
    later h = grind arith

    earlier : (j : ℕ) → j < suc k → (i : Insn) × HasInsn (slice_get (line ∷ lines) j) i
    earlier zero less = (i, h)
    earlier (suc j) less = r.insns j (omega arith)

pub read_more : {lines others next : List (List ℕ)} {n at : ℕ} {is js : List Insn} {line : List ℕ} (i : Insn) → ReadTo lines others n at is → at < n
    → others ≡ line ∷ next → insn_of (line_numbers line) ≡ Some i → js ≡ is ++ i ∷ [] → ReadTo lines next n (at + 1) js
read_more {lines} {others} {next} {n} {at} {is} {js} {line} i r l e f push = subst (ReadTo lines next n (at + 1)) (sym push) (record {
  counted = omega (arith, r.counted, length-append is (i ∷ []));
  insns = λ ks h. subst (AllZip IsInsnLine lines) (sym (append_snoc is i ks))
      (r.insns (i ∷ ks) (subst (λ (ls : List (List ℕ)). AllZip IsInsnLine ls (i ∷ ks)) (sym e) (here, h)));
  wrong = λ k h.
      let m : suc (n - (at + 1)) ≡ n - at = omega arith in
      let place : at + suc k ≡ at + 1 + k = omega arith in
      subst (WrongAfter n lines) place
      (r.wrong (suc k) (subst (λ (ls : List (List ℕ)). WrongAfter (n - at) ls (suc k)) (sym e)
      (subst (λ x. WrongAfter x (line ∷ next) (suc k)) m (wrong_later line i here h))));
})
  where
    here : IsInsnLine line i
    here = insn_is line i f

-- all lines are read
pub read_all : {lines : List (List ℕ)} (rest : List ℕ) {n at : ℕ} {is : List Insn} → ReadTo lines (lines_of rest) n at is → n ≡ at → length rest ≡ 0
    → AreInsns n lines is
read_all {lines} rest {n} {at} {is} r last e = record {
  count = r.counted ∙ sym last;
  each = subst (AllZip IsInsnLine lines) (append-nil is) (r.insns [] (subst (λ (ls : List (List ℕ)). AllZip IsInsnLine ls []) (sym (lines_none rest e)) tt));
}

-- the next line is no instruction, is missing, or is one too many
no_insn : {lines others : List (List ℕ)} {n at : ℕ} {is : List Insn} → ReadTo lines others n at is → at < n
    → ((i : Insn) → ¬ HasInsn (slice_get others 0) i) → WrongAfter n lines (at + 0)
no_insn r l h = search (arith, inl)

pub read_wrong : {lines others next : List (List ℕ)} {n at : ℕ} {is : List Insn} {line : List ℕ} → ReadTo lines others n at is → at < n
    → others ≡ line ∷ next → insn_of (line_numbers line) ≡ None → WrongAfter n lines (at + 0)
read_wrong {line} r l e f = no_insn r l (λ i h. not_there i (subst (λ (ls : List (List ℕ)). HasInsn (slice_get ls 0) i) e h))
  where
    not_there : (i : Insn) → IsInsnLine line i → ⊥
    not_there i h = let t = insn_read line i h in cc

pub read_missing : {lines : List (List ℕ)} (rest : List ℕ) {n at : ℕ} {is : List Insn} → ReadTo lines (lines_of rest) n at is → at < n
    → length rest ≡ 0 → WrongAfter n lines (at + 0)
read_missing rest r l e = search (arith, no_insn, slice_get, lines_none)

pub read_beyond : {lines : List (List ℕ)} (rest : List ℕ) {n at : ℕ} {is : List Insn} → ReadTo lines (lines_of rest) n at is
    → n ≡ at → 0 < length rest → WrongAfter n lines (at + 0)
read_beyond rest r e l = search (arith, inr, lines_some)
