-- The code of a formula, in front of other code, which still stands at its end: it has no fault and
-- no jump, and no more instructions and branches than are counted.
use Rattle.flt_gen.proofs.Common.{accessor_offset, ◌≡◌, ℕ, ◌+◌, ◌-◌, ◌*◌, ◌<◌, ◌≤◌, List, [], ◌∷◌, length, Bool, true, false, cond, Option, Some, None, refl}
use Rattle.flt_gen.proofs.Common.{ap, ◌∙◌, arith, ◌≢◌, nat_lt, ◌&&◌, if◌then◌else◌, count_by, nat_tests, sum_by-cons, All-cons, Insn, Operand, Constant}
use Rattle.flt_gen.proofs.Common.{IndexRegister, Operation, LoadAbsolute, LoadIndirect, Load, LoadHeaderLength, Store, Compute, Negate, Jump, JumpIf}
use Rattle.flt_gen.proofs.Common.{CopyToIndex, Accumulator, Index, Immediate, Memory, Length, Test, Width, operation_fault, unless, ends_in_return}
use Rattle.flt_gen.proofs.Common.{IsValidUnlessLong, code_of, is_branch, JUMP, HasNoJump, Comparison, Equal, NotEqual, Less, AtMost, Greater, AtLeast, Operator}
use Rattle.flt_gen.proofs.Common.{Protocol, Tcp, Udp, Icmp, number_words, number_size, NumberTree, literal, len, named, load, negated, applied, Link}
use Rattle.flt_gen.proofs.Common.{network_offset, Elementary, Outcome, Field, Offset, Fixed, AfterHeader, width_of, Formula, Single, Compare, Both, Either}
use Rattle.flt_gen.proofs.Common.{Except, Split, AtIndex, plain, computation, takes_constant, constant, constant_operand, branch_insn, emit_branch}
use Rattle.flt_gen.proofs.Common.{emit_comparison, emit_field, emit_mask, emit_accessor, emit_base, emit_number, Block, at_top, emit_test, emit_after}
use Rattle.flt_gen.proofs.Common.{emit_formula, words, nodes, tests, test_count, place_loads, mask_loads, field_loads, test_loads, loads, is_loaded, left_by}
use Rattle.flt_bpf.{proofs.Codes.code_is, specs.Check.fault_of, specs.Instructions.operation_of, specs.declared.operation.AluOperation.AluOperation}
use Rattle.flt_gen.proofs.{Common.FieldPlace, Numbers.operand_is, Leads.Extends, Leads.extends_none, Leads.extends_put, Leads.by_operand, Counted.place_few}
use Rattle.flt_bpf.specs.declared.fault.CheckFault.{CheckFault, TheVariants.JumpOut, TheVariants.NoSuchWord}

abbrev pub branches : List Insn → ℕ
branches c = count_by (λ i. is_branch (operation_of i.code)) c

-- code without a fault or a jump
pub record Sound (c : List Insn) : Type 0 where
  pub valid : IsValidUnlessLong c
  pub no_jump : HasNoJump c

abbrev jumps : Option Operation → Bool
jumps (Some Jump) = true
jumps _ = false

no_jump : (o : Operation) (i : Insn) → i.code ≡ code_of o → jumps (Some o) ≡ false → i.code ≢ JUMP
unfolding operation_of
no_jump o i e other j = grind (arith, code_is)

branch_count : (o : Operation) (i : Insn) (c : List Insn) → i.code ≡ code_of o → branches (i ∷ c) ≡ cond (is_branch (Some o)) 1 0 + branches c
branch_count o i c e =
    sum_by-cons (λ j. cond (is_branch (operation_of j.code)) 1 0) i c ∙ ap (λ x. cond (is_branch x) 1 0 + branches c) (ap operation_of e ∙ code_is o)

sound_put : (o : Operation) (i : Insn) (c : List Insn) → i.code ≡ code_of o → jumps (Some o) ≡ false → operation_fault o i (length c) ≡ None → Sound c
    → Sound (i ∷ c)
unfolding fault_of
sound_put o i c e other f s = grind (arith, code_is, All-cons)

-- what is known if it is asked for
abbrev pub Asked : Bool → Type 0 → Type 0
Asked true X = X
Asked false X = Unit {0}

asked : (b : Bool) {X Y : Type 0} → (X → Y) → Asked b X → Asked b Y
asked b f x = grind arith

-- code d that was put in front of code c: at most m instructions, which are w with each branch counted three times. It is sound, if that is asked for
pub record GrowsBy (b : Bool) (c d : List Insn) (m w : ℕ) : Type 0 where
  pub sound : Asked b (Sound d)
  pub tail : Extends c d
  pub shorter : length d ≤ length c + m
  pub lighter : length d + 2 * branches d ≤ length c + 2 * branches c + w

-- a place that a test may go on at
pub record Inside (c : List Insn) (place : ℕ) : Type 0 where
  pub low : 0 < place
  pub upper_bound : place ≤ length c

passes_both : (j k m : ℕ) (f : CheckFault) → j < m → k < m → unless (nat_lt j m && nat_lt k m) f ≡ None
passes_both j k m f a b = grind (arith, nat_tests)

ends_some : (c : List Insn) → ends_in_return c ≡ true → 0 < length c
ends_some [] e = cc
ends_some (i ∷ c) e = omega arith

top_inside : (c : List Insn) → Sound c → Inside c (length c)
top_inside c s = record { low = ends_some c s.valid.ends; upper_bound = omega arith }

branch_sound : (t : Test) (operand : Operand) (k hit miss : ℕ) (c : List Insn) (b : Bool) → Asked b (Sound c) → Asked b (Inside c hit)
    → Asked b (Inside c miss) → Asked b (Sound (emit_branch t operand k hit miss c))
branch_sound t operand k hit miss c false s h m = tt
branch_sound t operand k hit miss c true s h m =
    let f = passes_both (length c - hit) (length c - miss) (length c) JumpOut (omega (arith, h.low, h.upper_bound)) (omega (arith, m.low, m.upper_bound)) in
    sound_put (JumpIf t operand) (branch_insn t operand k (length c - hit) (length c - miss)) c refl refl f s

-- a block in front of code, with its entry inside
pub record FitsBy (b : Bool) (c : List Insn) (e : Block) (m w : ℕ) : Type 0 where
  pub grows : GrowsBy b c e.code m w
  pub entry : Asked b (Inside e.code e.entry)

-- a word of memory, and arithmetic with a constant, without a fault
word_fine : (k : ℕ) → k < 16 → unless (nat_lt k 16) NoSuchWord ≡ None
word_fine k l = grind (arith, nat_tests)

constant_fine : (operator : Operator) (k m : ℕ) → takes_constant operator k ≡ true → operation_fault (computation operator Constant)
    (plain (computation operator Constant) k) m ≡ None
constant_fine operator k m t = grind arith

module _ (b : Bool) where
  pub none_by : {c : List Insn} → Asked b (Sound c) → GrowsBy b c c 0 0
  none_by {c = c} s = record { sound = s; tail = extends_none c; shorter = omega arith; lighter = omega arith }

  grows_more : {c d : List Insn} {m w : ℕ} (m' w' : ℕ) → m ≤ m' → w ≤ w' → GrowsBy b c d m w → GrowsBy b c d m' w'
  grows_more m' w' lm lw g = record { sound = g.sound; tail = g.tail; shorter = omega (arith, g.shorter); lighter = omega (arith, g.lighter) }

  grows_put : {c d : List Insn} {m w : ℕ} (o : Operation) (k : ℕ) → jumps (Some o) ≡ false → is_branch (Some o) ≡ false
      → operation_fault o (plain o k) (length d) ≡ None → GrowsBy b c d m w → GrowsBy b c (plain o k ∷ d) (m + 1) (w + 1)
  grows_put {d = d} o k j p f g =
      let n : branches (plain o k ∷ d) ≡ 0 + branches d = branch_count o (plain o k) d refl ∙ ap (λ x. cond x 1 0 + branches d) p in
      record {
        sound = asked b (sound_put o (plain o k) d refl j f) g.sound;
        tail = extends_put (plain o k) g.tail;
        shorter = omega (arith, g.shorter);
        lighter = omega (arith, g.lighter);
      }

  inside_on : {c d : List Insn} {m w : ℕ} (place : ℕ) → GrowsBy b c d m w → Asked b (Inside c place) → Asked b (Inside d place)
  inside_on {c = c} place g = grind (arith, asked)

  pub branch_grows : (t : Test) (operand : Operand) (k hit miss : ℕ) (c : List Insn) → Asked b (Sound c) → Asked b (Inside c hit)
      → Asked b (Inside c miss) → GrowsBy b c (emit_branch t operand k hit miss c) 1 3
  branch_grows t operand k hit miss c s h m =
      let i = branch_insn t operand k (length c - hit) (length c - miss) in
      let n : branches (i ∷ c) ≡ 1 + branches c = branch_count (JumpIf t operand) i c refl in
      record { sound = branch_sound t operand k hit miss c b s h m; tail = extends_put i (extends_none c); shorter = omega arith; lighter = omega arith }

  comparison_grows : (comparison : Comparison) (operand : Operand) (k hit miss : ℕ) (c : List Insn) → Asked b (Sound c) → Asked b (Inside c hit)
      → Asked b (Inside c miss) → GrowsBy b c (emit_comparison comparison operand k hit miss c) 1 3
  comparison_grows Equal operand k hit miss c s h m = branch_grows Test.Equal operand k hit miss c s h m
  comparison_grows NotEqual operand k hit miss c s h m = branch_grows Test.Equal operand k miss hit c s m h
  comparison_grows Less operand k hit miss c s h m = branch_grows Test.AtLeast operand k miss hit c s m h
  comparison_grows AtMost operand k hit miss c s h m = branch_grows Test.Greater operand k miss hit c s m h
  comparison_grows Greater operand k hit miss c s h m = branch_grows Test.Greater operand k hit miss c s h m
  comparison_grows AtLeast operand k hit miss c s h m = branch_grows Test.AtLeast operand k hit miss c s h m

  field_grows : (place : Offset) (width : Width) {c d : List Insn} {m w : ℕ} → GrowsBy b c d m w
      → GrowsBy b c (emit_field place width d) (m + place_loads place) (w + place_loads place)
  field_grows (Fixed k) width g = grows_put (LoadAbsolute width) k refl refl refl g
  field_grows (AfterHeader header k) width g =
      grows_more _ _ (omega arith) (omega arith) (grows_put LoadHeaderLength header refl refl refl (grows_put (LoadIndirect width) k refl refl refl g))
  field_grows (AtIndex index k) width g =
      grows_more _ _ (omega arith) (omega arith) (grows_put (Load Index Immediate) index refl refl refl (grows_put (LoadIndirect width) k refl refl refl g))

  place_grows : (place : Offset) (width : Width) {c d : List Insn} {m w : ℕ} → GrowsBy b c d m w → GrowsBy b c (emit_field place width d) (m + 2) (w + 2)
  place_grows place width g = let few = place_few place in grows_more _ _ (omega arith) (omega arith) (field_grows place width g)

  mask_grows : (mask : Option ℕ) {c d : List Insn} {m w : ℕ} → GrowsBy b c d m w → GrowsBy b c (emit_mask mask d) (m + mask_loads mask) (w + mask_loads mask)
  mask_grows None g = grows_more _ _ (omega arith) (omega arith) g
  mask_grows (Some mask) g = grows_put (Compute AluOperation.And Constant) mask refl refl refl g

  base_grows : (at : ℕ) (width : Width) {c d : List Insn} {m w : ℕ} → GrowsBy b c d m w → GrowsBy b c (emit_base at width d) (m + 2) (w + 2)
  base_grows at width g =
      grows_more _ _ (omega arith) (omega arith) (grows_put CopyToIndex 0 refl refl refl (grows_put (LoadIndirect width) at refl refl refl g))

  transport_grows : (at : ℕ) (width : Width) {c d : List Insn} {m w : ℕ} → GrowsBy b c d m w
      → GrowsBy b c (plain LoadHeaderLength at ∷ plain (Compute AluOperation.Add IndexRegister) 0 ∷ emit_base at width d) (m + 4) (w + 4)
  transport_grows at width g =
      grows_more _ _ (omega arith) (omega arith)
      (grows_put LoadHeaderLength at refl refl refl (grows_put (Compute AluOperation.Add IndexRegister) 0 refl refl refl (base_grows at width g)))

  accessor_grows : (link : Link) (protocol : Protocol) (width : Width) {c d : List Insn} {m w : ℕ} → GrowsBy b c d m w
      → GrowsBy b c (emit_accessor link protocol width d) (m + 4) (w + 4)
  accessor_grows link Tcp width g = transport_grows (network_offset link) width g
  accessor_grows link Udp width g = transport_grows (network_offset link) width g
  accessor_grows link Icmp width g = transport_grows (network_offset link) width g
  accessor_grows link _ width g = grows_more _ _ (omega arith) (omega arith) (base_grows _ width g)

  -- the two operands are in A and X
  operands_grow : {c d : List Insn} {m w : ℕ} (slot : ℕ) → slot < 16 → GrowsBy b c d m w
      → GrowsBy b c (plain CopyToIndex 0 ∷ plain (Load Accumulator Memory) slot ∷ d) (m + 1 + 1) (w + 1 + 1)
  operands_grow slot l g = grows_put CopyToIndex 0 refl refl refl (grows_put (Load Accumulator Memory) slot refl refl (word_fine slot l) g)

  number_grows : (link : Link) (e : NumberTree) (slot : ℕ) {c d : List Insn} {m w : ℕ} → slot + number_words e ≤ 16 → GrowsBy b c d m w
      → GrowsBy b c (emit_number link e slot d) (m + 6 * number_size e) (w + 6 * number_size e)
  number_grows link (literal k) slot few g = grows_more _ _ (omega arith) (omega arith) (grows_put (Load Accumulator Immediate) k refl refl refl g)
  number_grows link (named k) slot few g = grows_more _ _ (omega arith) (omega arith) (grows_put (Load Accumulator Immediate) k refl refl refl g)
  number_grows link len slot few g = grows_more _ _ (omega arith) (omega arith) (grows_put (Load Accumulator Length) 0 refl refl refl g)
  number_grows link (negated a) slot few g = grind (arith, grows_more, number_grows link a slot few (grows_put Negate 0 refl refl refl g), grows_put)
  number_grows link (load protocol size i) slot {c = c} {d = d} {m = m} {w = w} few g =
      by_operand (λ code. GrowsBy b c code (m + 6 * number_size (load protocol size i)) (w + 6 * number_size (load protocol size i))) (constant i) _ _
      (λ k is. grows_more _ _ (omega arith) (omega arith) (place_grows (accessor_offset link protocol k) (width_of size) g))
      (grows_more _ _ (omega arith) (omega arith) (number_grows link i slot few (accessor_grows link protocol (width_of size) g)))
  number_grows link (applied operator l r) slot {c = c} {d = d} {m = m} {w = w} few g =
      grows_more _ _ (omega arith) (omega arith) (number_grows link l slot (omega arith)
      (by_operand (λ code. GrowsBy b c code (m + 4 + 6 * number_size r) (w + 4 + 6 * number_size r)) (constant_operand operator r) _ _
      (λ k is. grows_more _ _ (omega arith) (omega arith)
      (grows_put (computation operator Constant) k refl refl (constant_fine operator k (length d) (operand_is operator r k is).taken) g))
      (grows_more _ _ (omega arith) (omega arith) (grows_put (Store Accumulator) slot refl refl (word_fine slot (omega arith))
      (number_grows link r (slot + 1) (omega arith) (operands_grow slot (omega arith) (grows_put (computation operator IndexRegister) 0 refl refl refl g)))))))

  fits_top : {c d : List Insn} {m w : ℕ} → GrowsBy b c d m w → FitsBy b c (at_top d) m w
  fits_top {d = d} g = record { grows = g; entry = asked b (top_inside d) g.sound }

  pub more_by : {c : List Insn} {e : Block} {m w : ℕ} (m' w' : ℕ) → m ≤ m' → w ≤ w' → FitsBy b c e m w → FitsBy b c e m' w'
  more_by m' w' lm lw f = record { grows = grows_more m' w' lm lw f.grows; entry = f.entry }

  -- one part of the code in front of another
  fits_on : {c d : List Insn} {e : Block} {m w m' w' : ℕ} → GrowsBy b c d m w → FitsBy b d e m' w' → FitsBy b c e (m + m') (w + w')
  fits_on a f = grind arith

  test_fits : (held : Option FieldPlace) (t : Elementary) (hit miss : ℕ) (c : List Insn) → Asked b (Sound c) → Asked b (Inside c hit) → Asked b (Inside c miss)
      → FitsBy b c (emit_test held t hit miss c) (test_loads held t + test_count t) (test_loads held t + 3 * test_count t)
  test_fits held (Outcome true) hit miss c s h m = record { grows = none_by s; entry = h }
  test_fits held (Outcome false) hit miss c s h m = record { grows = none_by s; entry = m }
  test_fits held (Field t) hit miss c s h m = by (is_loaded held t)
    where
      d : List Insn
      d = emit_comparison t.comparison Constant t.value hit miss c

      g : GrowsBy b c d 1 3
      g = comparison_grows t.comparison Constant t.value hit miss c s h m

      by : (k : Bool) → FitsBy b c (at_top (if k then d else emit_field t.offset t.width (emit_mask t.mask d))) ((if k then 0 else field_loads t) + 1)
          ((if k then 0 else field_loads t) + 3)
      by true = fits_top g
      by false = more_by _ _ (omega arith) (omega arith) (fits_top (field_grows t.offset t.width (mask_grows t.mask g)))

  pub emitted_by : (held : Option FieldPlace) (link : Link) (f : Formula) (hit miss : ℕ) (c : List Insn) → words f ≤ 16 → Asked b (Sound c)
      → Asked b (Inside c hit) → Asked b (Inside c miss) → FitsBy b c (emit_after held link f hit miss c) (loads held f + tests f + 6 * nodes f)
      (loads held f + 3 * tests f + 6 * nodes f)
  emitted_by held link (Single t) hit miss c few s h m = more_by _ _ (omega arith) (omega arith) (test_fits None t hit miss c s h m)
  emitted_by held link (Compare comparison l r) hit miss c few s h m =
      more_by _ _ (omega arith) (omega arith) (fits_top (number_grows link l 0 (omega arith)
      (by_operand (λ code. GrowsBy b c code (4 + 6 * number_size r) (6 + 6 * number_size r)) (constant r) _ _
      (λ k is. grows_more _ _ (omega arith) (omega arith) (comparison_grows comparison Constant k hit miss c s h m)) (grows_more _ _ (omega arith) (omega arith)
      (grows_put (Store Accumulator) 0 refl refl refl (number_grows link r 1 (omega arith)
      (operands_grow 0 (omega arith) (comparison_grows comparison IndexRegister 0 hit miss c s h m))))))))
  emitted_by held link (Both x y) hit miss c few s h m =
      let e = emit_formula link y hit miss c in let f = emitted_by None link y hit miss c (omega arith) s h m in
      more_by _ _ (omega arith) (omega arith)
      (fits_on f.grows (emitted_by None link x e.entry miss e.code (omega arith) f.grows.sound f.entry (inside_on _ f.grows m)))
  emitted_by held link (Either x y) hit miss c few s h m =
      let e = emit_formula link y hit miss c in let f = emitted_by None link y hit miss c (omega arith) s h m in
      more_by _ _ (omega arith) (omega arith)
      (fits_on f.grows (emitted_by None link x hit e.entry e.code (omega arith) f.grows.sound (inside_on _ f.grows h) f.entry))
  emitted_by held link (Except a) hit miss c few s h m = emitted_by None link a miss hit c few s m h
  emitted_by held link (Split t x y) hit miss c few s h m =
      let left = left_by t in let no = emit_after left link y hit miss c in let yes = emit_after left link x hit miss no.code in
      let f = emitted_by left link y hit miss c (omega arith) s h m in
      let g = emitted_by left link x hit miss no.code (omega arith) f.grows.sound (inside_on _ f.grows h) (inside_on _ f.grows m) in
      more_by _ _ (omega arith) (omega arith)
      (fits_on (fits_on f.grows g).grows (test_fits held t yes.entry no.entry yes.code g.grows.sound g.entry (inside_on _ g.grows f.entry)))
