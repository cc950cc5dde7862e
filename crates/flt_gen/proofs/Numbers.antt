-- What the code of arithmetic does.
use Rattle.flt_gen.proofs.Common.{LoadAbsolute, accessor_offset, emit_field, ◌≡◌, ℕ, ◌+◌, ◌-◌, ◌%◌, ◌^◌, ◌<◌, ◌≤◌, List, ◌∷◌, length, true, Option, Some, None}
use Rattle.flt_gen.proofs.Common.{refl, sym, ap, ap₂, ◌∙◌, arith, slice_get, slice_set, nat_lt, if◌then◌else◌, option_map, nat_tests, get_or-set_same}
use Rattle.flt_gen.proofs.Common.{get_or-set_other, Insn, State, Accumulator, Index, Width, Byte, Operand, Constant, IndexRegister, Goes, Lost, field, compute}
use Rattle.flt_gen.proofs.Common.{operand_value, into, word_into, header_length, Operator, Protocol, Ether, Tcp, Udp, Icmp, NumberTree, literal, len, named}
use Rattle.flt_gen.proofs.Common.{load, negated, applied, Link, Offset, Fixed, AfterHeader, AtIndex, with, field_at, network_offset, width_of, base, result_of}
use Rattle.flt_gen.proofs.Common.{number, number_words, plain, alu_operation, computation, takes_constant, constant, constant_operand, emit_base}
use Rattle.flt_gen.proofs.Common.{emit_transport, emit_accessor, emit_operands, emit_number, answer_of, answer_after, LoadIndirect, Load, LoadHeaderLength}
use Rattle.flt_gen.proofs.{Common.Store, Common.Negate, Common.CopyToIndex, Common.Immediate, Common.Memory, Common.Length, Leads.by_operand, Leads.run_plain}
use Rattle.std.proofs.{Math.ListN.length-set, lemmas.Option.slice_get-get_or}
use Rattle.flt_words.specs.declared.token.Operator.TheVariants.{Add}

get_set_same : (xs : List ℕ) (i v : ℕ) → i < length xs → slice_get (slice_set xs i v) i ≡ Some v
get_set_same xs i v l =
    let within : i < length (slice_set xs i v) = omega (arith, length-set {A = ℕ}) in
    slice_get-get_or (slice_set xs i v) i 0 within ∙ ap Some (get_or-set_same xs i v 0 l)

get_set_below : (xs : List ℕ) (i j v : ℕ) → j < i → i < length xs → slice_get (slice_set xs i v) j ≡ slice_get xs j
get_set_below xs i j v less l =
    let within : j < length (slice_set xs i v) = omega (arith, length-set {A = ℕ}) in
    slice_get-get_or (slice_set xs i v) j 0 within ∙ ap Some (get_or-set_other xs i j v 0 (λ e. absurd (omega arith)))
    ∙ sym (slice_get-get_or xs j 0 (omega arith))

-- the machine's arithmetic is that of expressions
pub computed : (o : Operator) (a b : ℕ) → compute (alu_operation o) a b ≡ result_of o a b
computed o a b = grind arith

-- a right operand that is in an instruction is a constant that this may have
pub record IsConstant (operator : Operator) (r : NumberTree) (k : ℕ) : Type 0 where
  pub is : constant r ≡ Some k
  pub taken : takes_constant operator k ≡ true

pub operand_is : (operator : Operator) (r : NumberTree) (k : ℕ) → constant_operand operator r ≡ Some k → IsConstant operator r k
operand_is operator r k e = grind arith

-- the answer for a number; without one the run ends with 0
abbrev pub answer_for : Option ℕ → (ℕ → ℕ) → ℕ
answer_for None f = 0
answer_for (Some v) f = f v

for_with : (o : Option ℕ) (g : ℕ → Option ℕ) (f : ℕ → ℕ) → answer_for o (λ v. answer_for (g v) f) ≡ answer_for (with o g) f
for_with o g f = grind arith

module _ (p : List ℕ) (n : ℕ) where
  pub constant_is : (link : Link) (r : NumberTree) (k : ℕ) → constant r ≡ Some k → number link r p n ≡ Some k
  constant_is link r k e = grind arith

  run_operator : (operator : Operator) (operand : Operand) (k : ℕ) (c : List Insn) (s : State)
      → answer_of (plain (computation operator operand) k ∷ c) p n 0 s ≡ answer_after (answer_of c p n)
      (into Accumulator (result_of operator s.accumulator (operand_value operand k s.index)) s)
  run_operator operator operand k c s =
      run_plain p n (computation operator operand) k c s
      ∙ ap (λ o. answer_after (answer_of c p n) (into Accumulator o s)) (computed operator s.accumulator (operand_value operand k s.index))

  run_store : (k : ℕ) (c : List Insn) (s : State) → k < length s.memory → answer_of (plain (Store Accumulator) k ∷ c) p n 0 s ≡ answer_of c p n 0
      (record s { memory = slice_set s.memory k s.accumulator })
  run_store k c s l =
      let t : nat_lt k (length s.memory) ≡ true = grind (arith, nat_tests) in
      run_plain p n (Store Accumulator) k c s
      ∙ ap (λ b. answer_after (answer_of c p n) (if b then Goes 0 (record s { memory = slice_set s.memory k s.accumulator }) else Lost)) t

  run_word : (k v : ℕ) (c : List Insn) (s : State) → slice_get s.memory k ≡ Some v → answer_of (plain (Load Accumulator Memory) k ∷ c) p n 0 s ≡
      answer_of c p n 0 (record s { accumulator = v })
  run_word k v c s e = run_plain p n (Load Accumulator Memory) k c s ∙ ap (λ o. answer_after (answer_of c p n) (word_into Accumulator o s)) e

  -- the words below slot are kept
  pub record Keeps (slot : ℕ) (s t : State) : Type 0 where
    pub long : length t.memory ≡ 16
    pub kept : (j : ℕ) → j < slot → slice_get t.memory j ≡ slice_get s.memory j

  -- with a number in A code has the answer for it
  abbrev pub GoesOn : List Insn → ℕ → State → (ℕ → ℕ) → Type 0
  GoesOn c slot s f = (v : ℕ) (t : State) → Keeps slot s t → t.accumulator ≡ v → answer_of c p n 0 t ≡ Some (f v)

  -- the last instruction puts a number into A, or ends the run with 0
  into_any : (o : Option ℕ) (c : List Insn) (u : State) (f : ℕ → ℕ)
      → ((v : ℕ) → o ≡ Some v → answer_of c p n 0 (record u { accumulator = v }) ≡ Some (f v)) → answer_after (answer_of c p n) (into Accumulator o u)
      ≡ Some (answer_for o f)
  into_any o c u f h = grind arith

  into_runs : (o : Option ℕ) (c : List Insn) (slot : ℕ) (s u : State) (f : ℕ → ℕ) → Keeps slot s u → GoesOn c slot s f
      → answer_after (answer_of c p n) (into Accumulator o u) ≡ Some (answer_for o f)
  into_runs o c slot s u f k h = into_any o c u f (λ v e. h v (record u { accumulator = v }) (record { long = k.long; kept = k.kept }) refl)

  -- a field goes into A, whatever that leaves in X
  pub field_runs : (place : Offset) (width : Width) (c : List Insn) (s : State) (f : ℕ → ℕ)
      → ((v i : ℕ) → field_at place width p ≡ Some v → answer_of c p n 0 (record s { accumulator = v; index = i }) ≡ Some (f v))
      → answer_of (emit_field place width c) p n 0 s ≡ Some (answer_for (field_at place width p) f)
  field_runs (Fixed at) width c s f h = run_plain p n (LoadAbsolute width) at c s ∙ into_any (field p at width) c s f (λ v e. h v s.index e)
  field_runs (AtIndex index at) width c s f h =
      let u : State = record s { index = index } in
      run_plain p n (Load Index Immediate) index (plain (LoadIndirect width) at ∷ c) s ∙ run_plain p n (LoadIndirect width) at c u
      ∙ into_any (field p ((index + at) % 2 ^ 32) width) c u f (λ v e. h v index e)
  field_runs (AfterHeader header at) width c s f h = run_plain p n LoadHeaderLength header (plain (LoadIndirect width) at ∷ c) s
      ∙ by_header (field p header Byte) refl
    where
      by_header : (o : Option ℕ) → field p header Byte ≡ o
          → answer_after (answer_of (plain (LoadIndirect width) at ∷ c) p n) (into Index (option_map header_length o) s) ≡ Some
          (answer_for (with (with o (λ b. Some (header_length b))) (λ x. field p ((x + at) % 2 ^ 32) width)) f)
      by_header None is = refl
      by_header (Some b) is =
          let x = header_length b in let u : State = record s { index = x } in
          run_plain p n (LoadIndirect width) at c u ∙ into_any (field p ((x + at) % 2 ^ 32) width) c u f
          (λ v e. h v x (ap (λ o. with (with o (λ y. Some (header_length y))) (λ y. field p ((y + at) % 2 ^ 32) width)) is ∙ e))

  -- an accessor's field at a number in A
  base_runs : (at : ℕ) (w : Width) (c : List Insn) (slot v : ℕ) (s t : State) (f : ℕ → ℕ) → Keeps slot s t → t.accumulator ≡ v → GoesOn c slot s f
      → answer_of (emit_base at w c) p n 0 t ≡ Some (answer_for (field p ((at + v) % 2 ^ 32) w) f)
  base_runs at w c slot v s t f k e h =
      let u : State = record t { index = t.accumulator } in let place : t.accumulator + at ≡ at + v = omega (arith, e) in
      run_plain p n CopyToIndex 0 (plain (LoadIndirect w) at ∷ c) t ∙ run_plain p n (LoadIndirect w) at c u
      ∙ ap (λ b. answer_after (answer_of c p n) (into Accumulator (field p (b % 2 ^ 32) w) u)) place
      ∙ into_runs (field p ((at + v) % 2 ^ 32) w) c slot s u f (record { long = k.long; kept = k.kept }) h

  transport_runs : (link : Link) (w : Width) (c : List Insn) (slot v : ℕ) (s t : State) (f : ℕ → ℕ) → Keeps slot s t → t.accumulator ≡ v
      → GoesOn c slot s f → (o : Option ℕ) → field p (network_offset link) Byte ≡ o → answer_of (emit_transport link w c) p n 0 t ≡ Some
      (answer_for (with (with (with o (λ b. Some (header_length b))) (λ x. Some (x + network_offset link))) (λ at. field p ((at + v) % 2 ^ 32) w)) f)
  transport_runs link w c slot v s t f k e h o is =
      run_plain p n LoadHeaderLength l added t ∙ ap (λ q. answer_after (answer_of added p n) (into Index (option_map header_length q) t)) is ∙ by_header o
    where
      l : ℕ
      l = network_offset link

      added : List Insn
      added = plain (computation Add IndexRegister) 0 ∷ emit_base l w c

      by_header : (q : Option ℕ) → answer_after (answer_of added p n) (into Index (option_map header_length q) t) ≡ Some
          (answer_for (with (with (with q (λ b. Some (header_length b))) (λ x. Some (x + l))) (λ at. field p ((at + v) % 2 ^ 32) w)) f)
      by_header None = refl
      by_header (Some b) =
          let x = header_length b in let sum : (t.accumulator + x) % 2 ^ 32 ≡ (v + x) % 2 ^ 32 = ap (λ m. (m + x) % 2 ^ 32) e in
          let place : (l + (v + x) % 2 ^ 32) % 2 ^ 32 ≡ (x + l + v) % 2 ^ 32 = omega arith in
          run_operator Add IndexRegister 0 (emit_base l w c) (record t { index = x })
          ∙ base_runs l w c slot ((v + x) % 2 ^ 32) s (record t { accumulator = (t.accumulator + x) % 2 ^ 32; index = x }) f
          (record { long = k.long; kept = k.kept }) sum h ∙ ap (λ at. Some (answer_for (field p at w) f)) place

  accessor_runs : (link : Link) (protocol : Protocol) (w : Width) (c : List Insn) (slot v : ℕ) (s t : State) (f : ℕ → ℕ) → Keeps slot s t
      → t.accumulator ≡ v → GoesOn c slot s f → answer_of (emit_accessor link protocol w c) p n 0 t ≡ Some
      (answer_for (with (base link protocol p) (λ at. field p ((at + v) % 2 ^ 32) w)) f)
  accessor_runs link Ether w c slot v s t f k e h = base_runs 0 w c slot v s t f k e h
  accessor_runs link Tcp w c slot v s t f k e h = transport_runs link w c slot v s t f k e h _ refl
  accessor_runs link Udp w c slot v s t f k e h = transport_runs link w c slot v s t f k e h _ refl
  accessor_runs link Icmp w c slot v s t f k e h = transport_runs link w c slot v s t f k e h _ refl
  accessor_runs link _ w c slot v s t f k e h = base_runs (network_offset link) w c slot v s t f k e h

  pub indexed_same : (link : Link) (protocol : Protocol) (w : Width) (v : ℕ) → field_at (accessor_offset link protocol v) w p ≡ with
      (base link protocol p) (λ at. field p ((at + v) % 2 ^ 32) w)
  indexed_same link protocol w v = grind arith

  indexed_runs : (link : Link) (protocol : Protocol) (w : Width) (c : List Insn) (slot v : ℕ) (s : State) (f : ℕ → ℕ) → Keeps slot s s
      → GoesOn c slot s f → answer_of (emit_field (accessor_offset link protocol v) w c) p n 0 s ≡ Some
      (answer_for (with (base link protocol p) (λ at. field p ((at + v) % 2 ^ 32) w)) f)
  indexed_runs link protocol w c slot v s f k h =
      field_runs (accessor_offset link protocol v) w c s f
      (λ x i e. h x (record s { accumulator = x; index = i }) (record { long = k.long; kept = k.kept }) refl)
      ∙ ap (λ o. Some (answer_for o f)) (indexed_same link protocol w v)

  -- the code of arithmetic has the answer for its value
  abbrev pub Runs : Link → NumberTree → ℕ → List Insn → Type 0
  Runs link e slot c = (s : State) (f : ℕ → ℕ) → length s.memory ≡ 16 → GoesOn c slot s f → answer_of (emit_number link e slot c) p n 0 s ≡ Some
      (answer_for (number link e p n) f)

  -- the left operand goes into a word, the right one is computed, and both are brought to A and X
  pub operands_run : (link : Link) (r : NumberTree) (slot x : ℕ) (c : List Insn) (s t : State) (f : ℕ → ℕ) → slot < 16 → Keeps slot s t
      → t.accumulator ≡ x → Runs link r (slot + 1) (emit_operands slot c) → ((y : ℕ) (u : State) → Keeps slot s u → u.accumulator ≡ x → u.index ≡ y
      → answer_of c p n 0 u ≡ Some (f y)) → answer_of (plain (Store Accumulator) slot ∷ emit_number link r (slot + 1) (emit_operands slot c)) p n 0
      t ≡ Some (answer_for (number link r p n) f)
  operands_run link r slot x c s t f few k e right h =
      let inside : slot < length t.memory = omega (arith, few, k.long) in let stored : State = record t { memory = slice_set t.memory slot t.accumulator } in
      run_store slot (emit_number link r (slot + 1) (emit_operands slot c)) t inside ∙ right stored f (omega (arith, length-set {A = ℕ}, k.long)) (λ y u j g.
      let word : slice_get u.memory slot ≡ Some x = j.kept slot (omega arith) ∙ get_set_same t.memory slot t.accumulator inside ∙ ap Some e in
      run_plain p n CopyToIndex 0 (plain (Load Accumulator Memory) slot ∷ c) u ∙ run_word slot x c (record u { index = u.accumulator }) word
      ∙ h y (record { accumulator = x; index = u.accumulator; memory = u.memory })
      (record { long = j.long; kept = λ i l. j.kept i (omega arith) ∙ get_set_below t.memory slot i t.accumulator l inside ∙ k.kept i l }) refl g)

  pub number_runs : (link : Link) (e : NumberTree) (slot : ℕ) (c : List Insn) → slot + number_words e ≤ 16 → Runs link e slot c
  number_runs link (literal k) slot c few = λ s f long h. run_plain p n (Load Accumulator Immediate) k c s ∙ h k (record s { accumulator = k })
      (record { long = long; kept = λ j l. refl }) refl
  number_runs link (named k) slot c few = λ s f long h. run_plain p n (Load Accumulator Immediate) k c s ∙ h k (record s { accumulator = k })
      (record { long = long; kept = λ j l. refl }) refl
  number_runs link len slot c few = λ s f long h. run_plain p n (Load Accumulator Length) 0 c s ∙ h n (record s { accumulator = n })
      (record { long = long; kept = λ j l. refl }) refl
  number_runs link (load protocol size i) slot c few =
      λ s f long h. by_operand (λ b. answer_of b p n 0 s ≡ Some (answer_for (number link (load protocol size i) p n) f)) (constant i) _ _
      (λ k is. indexed_runs link protocol (width_of size) c slot k s f (record { long = long; kept = λ j l. refl }) h
      ∙ ap (λ o. Some (answer_for (with o (λ v. with (base link protocol p) (λ at. field p ((at + v) % 2 ^ 32) (width_of size)))) f))
      (sym (constant_is link i k is))) (number_runs link i slot (emit_accessor link protocol (width_of size) c) few s _ long
      (λ v t k e. accessor_runs link protocol (width_of size) c slot v s t f k e h)
      ∙ ap Some (for_with (number link i p n) (λ v. with (base link protocol p) (λ at. field p ((at + v) % 2 ^ 32) (width_of size))) f))
  number_runs link (negated a) slot c few =
      λ s f long h. number_runs link a slot (plain Negate 0 ∷ c) few s (λ v. f ((2 ^ 32 - v) % 2 ^ 32)) long
      (λ v t k e. run_plain p n Negate 0 c t ∙ h ((2 ^ 32 - v) % 2 ^ 32) (record t { accumulator = (2 ^ 32 - t.accumulator) % 2 ^ 32 })
      (record { long = k.long; kept = k.kept }) (ap (λ m. (2 ^ 32 - m) % 2 ^ 32) e))
      ∙ ap Some (for_with (number link a p n) (λ v. Some ((2 ^ 32 - v) % 2 ^ 32)) f)
  number_runs link (applied operator l r) slot c few =
      λ s f long h. number_runs link l slot _ (omega arith) s (λ x. answer_for (with (number link r p n) (λ y. result_of operator x y)) f) long
      (λ x t k e. by_operand (λ d. answer_of d p n 0 t ≡ Some (answer_for (with (number link r p n) (λ y. result_of operator x y)) f))
      (constant_operand operator r) _ _ (λ j is. run_operator operator Constant j c t
      ∙ ap (λ a. answer_after (answer_of c p n) (into Accumulator (result_of operator a j) t)) e ∙ into_runs (result_of operator x j) c slot s t f k h
      ∙ ap (λ o. Some (answer_for (with o (λ y. result_of operator x y)) f)) (sym (constant_is link r j (operand_is operator r j is).is)))
      (operands_run link r slot x (plain (computation operator IndexRegister) 0 ∷ c) s t (λ y. answer_for (result_of operator x y) f) (omega arith) k
      e (number_runs link r (slot + 1) _ (omega arith)) (λ y u j g i. run_operator operator IndexRegister 0 c u
      ∙ ap₂ (λ a b. answer_after (answer_of c p n) (into Accumulator (result_of operator a b) u)) g i ∙ into_runs (result_of operator x y) c slot s u f j h)
      ∙ ap Some (for_with (number link r p n) (λ y. result_of operator x y) f)))
      ∙ ap Some (for_with (number link l p n) (λ x. with (number link r p n) (λ y. result_of operator x y)) f)
