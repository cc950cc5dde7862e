-- A portable program reads no word that it didn't write, and does nothing that libpcap or Linux
-- does differently.
use Rattle.capkit_c.proofs.Common.{◌≡◌, ◌↔◌, ◌⊎◌, inl, inr, ℕ, zero, suc, ◌+◌, ◌-◌, ◌%◌, ◌^◌, ◌<◌, ◌≤◌, List, [], ◌∷◌, length, drop, get_or, Bool, true, false}
use Rattle.capkit_c.proofs.Common.{Option, Some, None, refl, sym, ap, ◌∙◌, subst, arith, ◌==◌, nat_lt, nat_le, ◌&&◌, ◌||◌, not, if◌then◌else◌, slice_set}
use Rattle.capkit_c.proofs.Common.{bit_and, list_all, option_map, get_or-drop, Insn, Next, Goes, Ends, Lost, step_if_there, does, does_if_known, into}
use Rattle.capkit_c.proofs.Common.{word_into, into_word, with_register, field, compute, operand_value, test_holds, header_length, run_from}
use Rattle.capkit_c.proofs.Common.{progress_after, machine, start, parts, sign_bit, half_sign_bit, operation_keeps, keeps_x_small, operation_alike, runs_alike}
use Rattle.capkit_c.proofs.Common.{operation_alike_on_libpcap, runs_alike_on_libpcap, is_live_at, operation_wants, is_live_before, live_places}
use Rattle.capkit_c.proofs.Common.{none_read_unwritten, most_attached, is_portable, portability}
use Rattle.std.specs.Prelude.{slice_get}
use Rattle.std.proofs.lemmas.Bool.{and_parts, and_from, or_right, or_left, cases_lt, eq-eqb, ne_eqb, ltb-true, lt-ltb, not-true}
use Rattle.std.proofs.lemmas.{Nat.and_le_r, Option.slice_get_past, Option.slice_get-get_or}
use Rattle.flt_bpf.specs.{Instructions.operation_of, Machine.step, Valid.IsValid, Valid.WORDS, declared.machine.State.State}
use Rattle.flt_bpf.specs.declared.operation.{Operand.TheVariants.Constant, Operand.TheVariants.IndexRegister, Operation.Operation}
use Rattle.flt_bpf.specs.declared.operation.Operation.TheVariants.{LoadAbsolute, LoadIndirect, Load, LoadHeaderLength, Store, Compute, Negate, Jump, JumpIf}
use Rattle.flt_bpf.specs.declared.operation.Operation.TheVariants.{ReturnConstant, ReturnAccumulator, CopyToIndex, CopyToAccumulator}
use Rattle.flt_bpf.specs.declared.operation.Register.{Register, TheVariants.Accumulator, TheVariants.Index}
use Rattle.flt_bpf.specs.declared.operation.Source.TheVariants.{Immediate, Memory, Length}
use Rattle.flt_bpf.specs.declared.operation.Width.TheVariants.{Byte}
use Rattle.flt_bpf.proofs.Steps.{goes_inside}
use Rattle.capkit_c.specs.Elsewhere.{Machine, does_on, step_on, run_on, outcome_on, on_libpcap, load_on_linux, on_linux, HereFromZeros, SameFromAnyWords}
use Rattle.capkit_c.specs.Elsewhere.{SameOnLibpcap, SameOnLinux}

-- ---- words

-- a state with other words of memory
abbrev on : State → List ℕ → State
on s m = record s { memory = m }

-- words that are live are the same, and there are as many
record SameWords (live : ℕ → Bool) (m : List ℕ) (s : State) : Type 0 where
  sizes : length m ≡ length s.memory
  words : (w : ℕ) → live w ≡ true → slice_get m w ≡ slice_get s.memory w

weaker : {live less : ℕ → Bool} {m : List ℕ} {s t : State} → t.memory ≡ s.memory → ((w : ℕ) → less w ≡ true → live w ≡ true) → SameWords live m s
    → SameWords less m t
weaker {live} {less} {m} {s} {t} e f h = grind arith

set_both : (a b : List ℕ) (k v w : ℕ) → length a ≡ length b → ((k ≡ w → ⊥) → slice_get a w ≡ slice_get b w) → slice_get (slice_set a k v) w ≡
    slice_get (slice_set b k v) w
set_both [] [] k v w e h = refl
set_both [] (y ∷ b) k v w e h = absurd (omega arith)
set_both (x ∷ a) [] k v w e h = absurd (omega arith)
set_both (x ∷ a) (y ∷ b) zero v zero e h = refl
set_both (x ∷ a) (y ∷ b) zero v (suc w) e h = h (λ z. cc)
set_both (x ∷ a) (y ∷ b) (suc k) v zero e h = h (λ z. cc)
set_both (x ∷ a) (y ∷ b) (suc k) v (suc w) e h = set_both a b k v w (omega arith) (λ ne. h (λ z. ne (omega arith)))

set_length : (a : List ℕ) (k v : ℕ) → length (slice_set a k v) ≡ length a
set_length [] k v = refl
set_length (x ∷ a) zero v = refl
set_length (x ∷ a) (suc k) v = omega (arith, set_length a k v)

-- ---- one instruction, from other words

-- two states after an instruction, by what is true of the places after it
data After (following : ℕ → List Bool) : Next → Next → Type 0 where
  goes : (k : ℕ) (s : State) (m : List ℕ) → SameWords (λ w. is_live_at (following w) k) m s → After following (Goes k (on s m)) (Goes k s)
  ends : (a : ℕ) → After following (Ends a) (Ends a)
  lost : After following Lost Lost

module _ (i : Insn) (p : List ℕ) (n : ℕ) (f : ℕ → List Bool) (s : State) (m : List ℕ) where
  abbrev Next0 : Type 0
  Next0 = SameWords (λ w. is_live_at (f w) 0) m s

  set : (r : Register) (v : ℕ) → Next0 → After f (Goes 0 (with_register r v (on s m))) (Goes 0 (with_register r v s))
  set Accumulator v h = goes 0 (with_register Accumulator v s) m (weaker refl (λ w l. l) h)
  set Index v h = goes 0 (with_register Index v s) m (weaker refl (λ w l. l) h)

  into_after : (r : Register) (o : Option ℕ) → Next0 → After f (into r o (on s m)) (into r o s)
  into_after r None h = ends 0
  into_after r (Some v) h = set r v h

  word_after : (r : Register) (o q : Option ℕ) → q ≡ o → Next0 → After f (word_into r q (on s m)) (word_into r o s)
  word_after r o q e h = subst (λ x. After f (word_into r x (on s m)) (word_into r o s)) (sym e) (there o)
    where
      there : (x : Option ℕ) → After f (word_into r x (on s m)) (word_into r x s)
      there None = lost
      there (Some v) = set r v h

  branch : (b : Bool) (j k : ℕ) → SameWords (λ w. is_live_at (f w) j || is_live_at (f w) k) m s → After f (Goes (if b then j else k) (on s m))
      (Goes (if b then j else k) s)
  branch true j k h = goes j s m (weaker refl (λ w l. or_left (is_live_at (f w) j) (is_live_at (f w) k) l) h)
  branch false j k h = goes k s m (weaker refl (λ w l. or_right (is_live_at (f w) j) (is_live_at (f w) k) l) h)

  put : (b : Bool) (v : ℕ) → SameWords (λ w. not (i.k == w) && is_live_at (f w) 0) m s
      → After f (if b then Goes 0 (on s (slice_set m i.k v)) else Lost) (if b then Goes 0 (on s (slice_set s.memory i.k v)) else Lost)
  put false v h = lost
  put true v h = goes 0 (on s (slice_set s.memory i.k v)) (slice_set m i.k v) (record {
    sizes = set_length m i.k v ∙ h.sizes ∙ sym (set_length s.memory i.k v);
    words = λ w l. set_both m s.memory i.k v w h.sizes (λ ne. h.words w (and_from (not (i.k == w)) (is_live_at (f w) 0) (ap not (ne_eqb i.k w ne)) l));
  })

  store_after : (v : ℕ) → SameWords (λ w. not (i.k == w) && is_live_at (f w) 0) m s → After f (into_word i.k v (on s m)) (into_word i.k v s)
  store_after v h = subst (λ x. After f (if nat_lt i.k x then Goes 0 (on s (slice_set m i.k v)) else Lost) (into_word i.k v s)) (sym h.sizes)
      (put (nat_lt i.k (length s.memory)) v h)

  after_known : (o : Option Operation) → SameWords (λ w. operation_wants o w i (f w)) m s → After f (does_if_known o i p n (on s m)) (does_if_known o i p n s)
  after_known None h = lost
  after_known (Some (LoadAbsolute width)) h = into_after Accumulator (field p i.k width) h
  after_known (Some (LoadIndirect width)) h = into_after Accumulator (field p ((s.index + i.k) % 2 ^ 32) width) h
  after_known (Some (Load r Immediate)) h = set r i.k h
  after_known (Some (Load r Memory)) h =
      word_after r (slice_get s.memory i.k) (slice_get m i.k) (h.words i.k (or_left (i.k == i.k) (is_live_at (f i.k) 0) (eq-eqb i.k i.k refl)))
      (weaker refl (λ w l. or_right (i.k == w) (is_live_at (f w) 0) l) h)
  after_known (Some (Load r Length)) h = set r n h
  after_known (Some LoadHeaderLength) h = into_after Index (option_map header_length (field p i.k Byte)) h
  after_known (Some (Store Accumulator)) h = store_after s.accumulator h
  after_known (Some (Store Index)) h = store_after s.index h
  after_known (Some (Compute operator Constant)) h = into_after Accumulator (compute operator s.accumulator i.k) h
  after_known (Some (Compute operator IndexRegister)) h = into_after Accumulator (compute operator s.accumulator s.index) h
  after_known (Some Negate) h = set Accumulator ((2 ^ 32 - s.accumulator) % 2 ^ 32) h
  after_known (Some Jump) h = goes i.k s m h
  after_known (Some (JumpIf test operand)) h = branch (test_holds test s.accumulator (operand_value operand i.k s.index)) i.jt i.jf h
  after_known (Some ReturnConstant) h = ends i.k
  after_known (Some ReturnAccumulator) h = ends s.accumulator
  after_known (Some CopyToIndex) h = set Index s.accumulator h
  after_known (Some CopyToAccumulator) h = set Accumulator s.index h

-- ---- X stays small

-- X is below 2^30, if a test is true
abbrev Small : Bool → State → Type 0
Small small s = small ≡ true → s.index < half_sign_bit

abbrev index_after : Next → ℕ
index_after (Goes k s) = s.index
index_after (Ends a) = 0
index_after Lost = 0

into_index : (o : Option ℕ) (s : State) (b : ℕ) → s.index < b → index_after (into Accumulator o s) < b
into_index o s b h1 = grind arith

word_index : (o : Option ℕ) (s : State) (b : ℕ) → s.index < b → index_after (word_into Accumulator o s) < b
word_index o s b h1 = grind arith

put_index : (b : Bool) (s : State) (m : List ℕ) (x : ℕ) → s.index < x → index_after (if b then Goes 0 (on s m) else Lost) < x
put_index b s m x h1 = grind arith

header_index : (o : Option ℕ) (s : State) → index_after (into Index (option_map header_length o) s) < half_sign_bit
header_index o s = grind (arith, and_le_r)

index_kept : (o : Option Operation) (i : Insn) (p : List ℕ) (n : ℕ) (s : State) → operation_keeps o i.k ≡ true → s.index < half_sign_bit
    → index_after (does_if_known o i p n s) < half_sign_bit
index_kept o i p n s h1 h2 = grind (arith, into_index, word_index, ltb-true, header_index, put_index)

-- ---- complete runs

-- what a list of tests means for the one at an index
all_at : (q : Insn → Bool) (is : List Insn) (k : ℕ) (i : Insn) → list_all q is ≡ true → slice_get is k ≡ Some i → q i ≡ true
all_at q [] k i h e = cc
all_at q (j ∷ is) zero i h e = let same : j ≡ i = cc in subst (λ x. q x ≡ true) same (and_parts (q j) (list_all q is) h).0
all_at q (j ∷ is) (suc k) i h e = all_at q is k i (and_parts (q j) (list_all q is) h).1 e

live_there : (w : ℕ) (is : List Insn) (k : ℕ) (i : Insn) → slice_get is k ≡ Some i → is_live_at (live_places w is) k ≡ is_live_before w i
    (drop (suc k) (live_places w is))
live_there w [] k i e = cc
live_there w (j ∷ is) zero i e = let same : j ≡ i = cc in ap (λ x. is_live_before w x (live_places w is)) same
live_there w (j ∷ is) (suc k) i e = live_there w is k i e

live_later : (w : ℕ) (is : List Insn) (place k : ℕ) → is_live_at (live_places w is) (place + 1 + k) ≡ is_live_at (drop (suc place) (live_places w is)) k
live_later w is place k = grind (arith, get_or-drop)

module _ (there : Machine) (prog : List Insn) (p : List ℕ) (n : ℕ) (small : Bool) (valid : IsValid prog)
    (keeps : (k : ℕ) (i : Insn) → slice_get prog k ≡ Some i → small ≡ true → keeps_x_small i ≡ true)
    (agrees : (k : ℕ) (i : Insn) (s : State) → slice_get prog k ≡ Some i → Small small s → does_on there (operation_of i.code) i p n s ≡ does_if_known
    (operation_of i.code) i p n s) where
  -- the words before a place
  abbrev Before : ℕ → List ℕ → State → Type 0
  Before place m s = SameWords (λ w. is_live_at (live_places w prog) place) m s

  -- the runs from a place on are the same
  abbrev SameFrom : ℕ → ℕ → ℕ → Type 0
  SameFrom t place count =
      (s : State) (m : List ℕ) → place < length prog → length prog ≤ t + place → Before place m s → Small small s
      → run_on there prog p n t place (on s m) count ≡ run_from prog p n t place s count

  next : (t place count : ℕ) (i : Insn) (s : State) (u v : Next) → ((k : ℕ) → SameFrom t (place + 1 + k) (count + 1)) → length prog ≤ suc t + place
      → slice_get prog place ≡ Some i → After (λ w. drop (suc place) (live_places w prog)) u v → step i p n s ≡ v
      → (small ≡ true → index_after v < half_sign_bit) → progress_after (run_on there prog p n t) place count u ≡ progress_after (run_from prog p n t)
      place count v
  next t place count i s u v later left g (goes k s1 m1 h1) e x1 =
      later k s1 m1 (goes_inside prog place i p n s s1 k valid g e) (omega arith)
      (weaker refl (λ w l. sym (live_later w prog place k) ∙ l) h1) x1
  next t place count i s u v later left g (ends a) e x1 = refl
  next t place count i s u v later left g lost e x1 = refl

  one : (t place count : ℕ) (i : Insn) → ((k : ℕ) → SameFrom t (place + 1 + k) (count + 1)) → slice_get prog place ≡ Some i → SameFrom (suc t) place count
  unfolding step
  one t place count i later g s m inside left h x =
      let o = operation_of i.code in
      let f = λ (w : ℕ). drop (suc place) (live_places w prog) in
      let h1 : SameWords (λ w. operation_wants o w i (f w)) m s = weaker refl (λ w l. live_there w prog place i g ∙ l) h in
      ap (λ q. progress_after (run_on there prog p n t) place count (step_on there q p n (on s m))) g
      ∙ ap (progress_after (run_on there prog p n t) place count) (agrees place i (on s m) g x)
      ∙ next t place count i s _ _ later left g (after_known i p n f s m o h1) refl (λ y. index_kept o i p n s (keeps place i g y) (x y))
      ∙ sym (ap (λ q. progress_after (run_from prog p n t) place count (step_if_there q p n s)) g)

  same_run : (t place count : ℕ) → SameFrom t place count
  same_run zero place count s m inside left h x = absurd (omega arith)
  same_run (suc t) place count s m inside left h x =
      one t place count (get_or prog place (record { code = 0; jt = 0; jf = 0; k = 0 })) (λ k. same_run t (place + 1 + k) (count + 1))
      (slice_get-get_or prog place _ inside) s m inside left h x

-- ---- the words at the start

none_below : (n : ℕ) (is : List Insn) → none_read_unwritten n is ≡ true → (w : ℕ) → w < n → is_live_at (live_places w is) 0 ≡ false
none_below zero is h w l = absurd (omega arith)
none_below (suc n) is h w l = earlier (λ less. none_below n is both.0 w less) (cases_lt w n)
  where
    both : (none_read_unwritten n is ≡ true) × (not (is_live_at (live_places n is) 0) ≡ true)
    both = and_parts (none_read_unwritten n is) (not (is_live_at (live_places n is) 0)) h

    earlier : (w < n → is_live_at (live_places w is) 0 ≡ false) → (w < n) ⊎ (n ≤ w) → is_live_at (live_places w is) 0 ≡ false
    earlier below (inl less) = below less
    earlier below (inr more) = let same : n ≡ w = omega arith in subst (λ x. is_live_at (live_places x is) 0 ≡ false) same
        (not-true (is_live_at (live_places n is) 0) both.1)

none_live : (words : List ℕ) (is : List Insn) → length words ≡ WORDS → none_read_unwritten WORDS is ≡ true
    → SameWords (λ w. is_live_at (live_places w is) 0) words start
none_live words is long none = record { sizes = long; words = λ w l. either w l (cases_lt w WORDS) }
  where
    either : (w : ℕ) → is_live_at (live_places w is) 0 ≡ true → (w < WORDS) ⊎ (WORDS ≤ w) → slice_get words w ≡ slice_get start.memory w
    either w l (inl less) = let dead = none_below WORDS is none w less in cc
    either w l (inr more) = slice_get_past words w (omega arith) ∙ sym (slice_get_past start.memory w more)

from_start : (there : Machine) (prog : List Insn) (p words : List ℕ) (n : ℕ) (small : Bool) → IsValid prog
    → ((k : ℕ) (i : Insn) → slice_get prog k ≡ Some i → small ≡ true → keeps_x_small i ≡ true)
    → ((k : ℕ) (i : Insn) (s : State) → slice_get prog k ≡ Some i → Small small s → does_on there (operation_of i.code) i p n s ≡ does_if_known
    (operation_of i.code) i p n s) → none_read_unwritten WORDS prog ≡ true → length words ≡ WORDS → outcome_on there words prog p n (length prog) ≡
    machine prog p n (length prog)
from_start there prog p words n small valid keeps agrees none long =
    same_run there prog p n small valid keeps agrees (length prog) 0 0 start words (parts prog valid).some (omega arith)
    (none_live words prog long none) (λ y. omega arith)

-- ---- the machine here

here_known : (o : Option Operation) (i : Insn) (p : List ℕ) (n : ℕ) (s : State) → does_on does o i p n s ≡ does_if_known o i p n s
here_known o i p n s = grind arith

here_step : (o : Option Insn) (p : List ℕ) (n : ℕ) (s : State) → step_on does o p n s ≡ step_if_there o p n s
unfolding step
here_step None p n s = refl
here_step (Some i) p n s = here_known (operation_of i.code) i p n s

here_next : (prog : List Insn) (p : List ℕ) (n t place count : ℕ) (v : Next)
    → ((j : ℕ) (s : State) (c : ℕ) → run_on does prog p n t j s c ≡ run_from prog p n t j s c) → progress_after (run_on does prog p n t) place count
    v ≡ progress_after (run_from prog p n t) place count v
here_next prog p n t place count v h1 = grind arith

here_run : (prog : List Insn) (p : List ℕ) (n t place : ℕ) (s : State) (count : ℕ) → run_on does prog p n t place s count ≡ run_from prog p n t place s count
here_run prog p n zero place s count = refl
here_run prog p n (suc t) place s count =
    ap (progress_after (run_on does prog p n t) place count) (here_step (slice_get prog place) p n s)
    ∙ here_next prog p n t place count (step_if_there (slice_get prog place) p n s) (λ j s1 c. here_run prog p n t j s1 c)

pub here_from_zeros : HereFromZeros
here_from_zeros insns p n t = here_run insns p n t 0 start 0

-- ---- the meaning of the bits

abbrev passed : Bool → ℕ
passed a = if a then 1 else 0

-- the bits, by what is found for both machines and for libpcap's
abbrev bits : Bool → Bool → ℕ
bits a b = if passed a == 1 then 3 else passed b

some_bit : (a b : Bool) → (bits a b ≡ 0 → ⊥) → (a ≡ true) ⊎ (b ≡ true)
some_bit a b h1 = grind arith

first_bit : (a b : Bool) → bit_and (bits a b) 1 ≡ 1 → (a ≡ true) ⊎ (b ≡ true)
first_bit a b h1 = grind arith

second_bit : (a b : Bool) → bit_and (bits a b) 2 ≡ 2 → a ≡ true
second_bit a b h1 = grind arith

abbrev tested : (Bool → Insn → Bool) → List Insn → Bool
tested q insns = nat_le (length insns) most_attached && (list_all (q (list_all keeps_x_small insns)) insns && none_read_unwritten WORDS insns)

-- a test is true of each instruction, and no word is read before it is written
record Tested (q : Bool → Insn → Bool) (insns : List Insn) : Type 0 where
  each : (k : ℕ) (i : Insn) → slice_get insns k ≡ Some i → q (list_all keeps_x_small insns) i ≡ true
  none : none_read_unwritten WORDS insns ≡ true

tests_say : (q : Bool → Insn → Bool) (insns : List Insn) → tested q insns ≡ true → Tested q insns
tests_say q insns e = grind (arith, and_parts, all_at)

alike_known : (o : Option Operation) (k : ℕ) (small : Bool) → operation_alike o k small ≡ true → operation_alike_on_libpcap o k small ≡ true
alike_known o k small h1 = grind (arith, and_parts, ltb-true, and_from, lt-ltb)

on_libpcap_too : (insns : List Insn) → (tested runs_alike insns ≡ true) ⊎ (tested runs_alike_on_libpcap insns ≡ true) → Tested runs_alike_on_libpcap insns
on_libpcap_too insns (inl e) =
    let t = tests_say runs_alike insns e in
    record { each = λ k i g. alike_known (operation_of i.code) i.k (list_all keeps_x_small insns) (t.each k i g); none = t.none }
on_libpcap_too insns (inr e) = tests_say runs_alike_on_libpcap insns e

keeps_each : (insns : List Insn) (k : ℕ) (i : Insn) → slice_get insns k ≡ Some i → list_all keeps_x_small insns ≡ true → keeps_x_small i ≡ true
keeps_each insns k i g e = grind (arith, all_at)

pub same_from_any_words : SameFromAnyWords
same_from_any_words insns valid bit words p n long =
    let t = on_libpcap_too insns (some_bit (tested runs_alike insns) (tested runs_alike_on_libpcap insns) bit) in
    from_start does insns p words n (list_all keeps_x_small insns) valid (keeps_each insns) (λ k i s g x. here_known (operation_of i.code) i p n s) t.none long

-- ---- libpcap

sum_stays : (a b : ℕ) → a < half_sign_bit → b < sign_bit → (a + b) % 2 ^ 32 ≡ a + b
sum_stays a b x y = omega arith

libpcap_known : (o : Option Operation) (i : Insn) (p : List ℕ) (n : ℕ) (s : State) (small : Bool) → operation_alike_on_libpcap o i.k small ≡ true
    → Small small s → does_on on_libpcap o i p n s ≡ does_if_known o i p n s
libpcap_known o i p n s small h1 h2 = grind (arith, and_parts, sum_stays, ltb-true)

pub same_on_libpcap : SameOnLibpcap
same_on_libpcap insns valid bit words p n long =
    let t = on_libpcap_too insns (first_bit (tested runs_alike insns) (tested runs_alike_on_libpcap insns) bit) in
    from_start on_libpcap insns p words n (list_all keeps_x_small insns) valid (keeps_each insns)
    (λ k i s g x. libpcap_known (operation_of i.code) i p n s (list_all keeps_x_small insns) (t.each k i g) x) t.none long

-- ---- Linux

load_below : (other : Machine) (offset : ℕ) (operation : Operation) (i : Insn) (p : List ℕ) (n : ℕ) (s : State) → nat_lt offset sign_bit ≡ true
    → load_on_linux other offset operation i p n s ≡ does operation i p n s
load_below other offset operation i p n s e = grind arith

linux_known : (other : Machine) (o : Option Operation) (i : Insn) (p : List ℕ) (n : ℕ) (s : State) (small : Bool) → operation_alike o i.k small ≡ true
    → Small small s → does_on (on_linux other) o i p n s ≡ does_if_known o i p n s
linux_known other o i p n s small h1 h2 = grind (arith, load_below, and_parts, ltb-true, lt-ltb)

pub same_on_linux : SameOnLinux
same_on_linux insns other valid bit words p n long =
    let t = tests_say runs_alike insns (second_bit (tested runs_alike insns) (tested runs_alike_on_libpcap insns) bit) in
    from_start (on_linux other) insns p words n (list_all keeps_x_small insns) valid (keeps_each insns)
    (λ k i s g x. linux_known other (operation_of i.code) i p n s (list_all keeps_x_small insns) (t.each k i g) x) t.none long

-- ---- both bits

both_tested : (a b : Bool) → passed a ≡ 1 → bits a b ≡ 3
both_tested a b h1 = grind arith

tested_both : (a b : Bool) → bits a b ≡ 3 → passed a ≡ 1
tested_both a b h1 = grind arith

pub both_bits : (insns : List Insn) → (is_portable insns ≡ 1) ↔ (portability insns ≡ 3)
both_bits insns = grind (arith, both_tested, tested_both)
