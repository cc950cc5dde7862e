-- The code of a formula goes on where the formula's reading says.
use Rattle.flt_gen.proofs.Common.{◌≡◌, ℕ, ◌+◌, ◌-◌, ◌≤◌, List, length, Bool, true, false, Option, Some, None, refl, sym, ap, ap₂, ◌∙◌, arith, nat_le, nat_lt}
use Rattle.flt_gen.proofs.Common.{◌==◌, not, ◌&&◌, if◌then◌else◌, bit_and, nat_tests, and_parts, Insn, State, Width, Test, Operand, Constant, IndexRegister}
use Rattle.flt_gen.proofs.Common.{Compute, JumpIf, answer_of, test_holds, operand_value, Comparison, Equal, NotEqual, Less, AtMost, Greater, AtLeast}
use Rattle.flt_gen.proofs.Common.{number_words, NumberTree, Link, Offset, Elementary, Outcome, Field, FieldTest, MatchResult, Yes, No, Rejected, reading_of}
use Rattle.flt_gen.proofs.Common.{with, compares, field_at, under_mask, field_reads, elementary_reads, number, constant, branch_insn, emit_test, emit_branch}
use Rattle.flt_gen.proofs.Common.{emit_comparison, emit_field, emit_mask, emit_relation, emit_after, emit_formula, words, is_loaded, left_by, FieldPlace}
use Rattle.flt_gen.specs.Formula.{choose, Formula, Single, Compare, Both, Either, Except, Split, relation_reads, both, either, reads}
use Rattle.flt_gen.proofs.{Ascending.if_case, Numbers.answer_for, Numbers.field_runs, Numbers.constant_is, Numbers.operands_run, Numbers.number_runs}
use Rattle.flt_gen.proofs.{Common.same_offset, Common.same_width, Common.same_mask, Grows.emitted_by}
use Rattle.flt_gen.proofs.Leads.{by_operand, run, run_plain, HasWords, Tops, Leads, leads_top, leads_on, leads_in, leads_to}
use Rattle.flt_bpf.specs.declared.operation.AluOperation.{AluOperation}

-- one of two answers, by a reading; a rejected one ends the run with 0
abbrev pub pick : MatchResult → ℕ → ℕ → ℕ
pick Yes v w = v
pick No v w = w
pick Rejected v w = 0

pick_both : (a b : MatchResult) (v w : ℕ) → pick a (pick b v w) w ≡ pick (both a b) v w
pick_both a b v w = grind arith

pick_chosen : (a b c : MatchResult) (v w : ℕ) → pick a (pick b v w) (pick c v w) ≡ pick (choose a b c) v w
pick_chosen a b c v w = grind arith

pick_either : (a b : MatchResult) (v w : ℕ) → pick a v (pick b v w) ≡ pick (either a b) v w
pick_either a b v w = grind arith

picked : (b : Bool) (v w : ℕ) → (if b then v else w) ≡ pick (reading_of (Some b)) v w
picked b v w = grind arith

for_test : (o : Option ℕ) (b : ℕ → Bool) (v w : ℕ) → answer_for o (λ y. if b y then v else w) ≡ pick (reading_of (with o (λ y. Some (b y)))) v w
for_test o b v w = grind arith

exchanged_if : (b : Bool) (v w : ℕ) → (if b then w else v) ≡ (if not b then v else w)
exchanged_if b v w = grind arith

less_is : (a b : ℕ) → not (nat_le b a) ≡ nat_lt a b
less_is a b = grind (arith, nat_tests)

at_most_is : (a b : ℕ) → not (nat_lt b a) ≡ nat_le a b
at_most_is a b = grind (arith, nat_tests)

pub one_number : (a low high : ℕ) → low ≡ high → (a == low) ≡ (nat_le low a && nat_le a high)
one_number a low high e = grind (arith, nat_tests)

-- a state with a number in A, and with another one in X
abbrev Has : ℕ → State → Type 0
Has a s = HasWords s × (s.accumulator ≡ a)

abbrev HasBoth : ℕ → ℕ → State → Type 0
HasBoth a b s = HasWords s × (s.accumulator ≡ a) × (s.index ≡ b)

same_offset_is : (a b : Offset) → same_offset a b ≡ true → a ≡ b
same_offset_is a b e = grind (arith, nat_tests)

same_width_is : (a b : Width) → same_width a b ≡ true → a ≡ b
same_width_is a b e = grind arith

same_mask_is : (a b : Option ℕ) → same_mask a b ≡ true → a ≡ b
same_mask_is a b e = grind (arith, nat_tests)

module _ (p : List ℕ) (n : ℕ) where
  two_ways : (c : List Insn) (jt jf v w : ℕ) (s : State) (b : Bool) → answer_of c p n jt s ≡ Some v → answer_of c p n jf s ≡ Some w
      → answer_of c p n (if b then jt else jf) s ≡ Some (if b then v else w)
  two_ways c jt jf v w s b e f = grind arith

  -- a test of A and its operand, which are these numbers
  branch_tops : {P : State → Type 0} (t : Test) (operand : Operand) (k a b hit miss v w : ℕ) (c : List Insn) → ((s : State) → P s → s.accumulator ≡ a)
      → ((s : State) → P s → operand_value operand k s.index ≡ b) → Leads p n P c hit v → Leads p n P c miss w
      → Tops p n P (emit_branch t operand k hit miss c) (if test_holds t a b then v else w)
  branch_tops t operand k a b hit miss v w c e f h m =
      λ s q. run p n (JumpIf t operand) (branch_insn t operand k (length c - hit) (length c - miss)) c s refl
      ∙ two_ways c (length c - hit) (length c - miss) v w s (test_holds t s.accumulator (operand_value operand k s.index)) (h.by s q) (m.by s q)
      ∙ ap (λ x. Some (if test_holds t x (operand_value operand k s.index) then v else w)) (e s q) ∙ ap (λ y. Some (if test_holds t a y then v else w)) (f s q)

  -- the machine's three tests and the six comparisons
  comparison_tops : {P : State → Type 0} (comparison : Comparison) (operand : Operand) (k a b hit miss v w : ℕ) (c : List Insn)
      → ((s : State) → P s → s.accumulator ≡ a) → ((s : State) → P s → operand_value operand k s.index ≡ b) → Leads p n P c hit v
      → Leads p n P c miss w → Tops p n P (emit_comparison comparison operand k hit miss c) (if compares comparison a b then v else w)
  comparison_tops Equal operand k a b hit miss v w c e f h m = branch_tops Test.Equal operand k a b hit miss v w c e f h m
  comparison_tops NotEqual operand k a b hit miss v w c e f h m =
      λ s q. branch_tops Test.Equal operand k a b miss hit w v c e f m h s q ∙ ap Some (exchanged_if (a == b) v w)
  comparison_tops Less operand k a b hit miss v w c e f h m =
      λ s q. branch_tops Test.AtLeast operand k a b miss hit w v c e f m h s q
      ∙ ap Some (exchanged_if (nat_le b a) v w ∙ ap (λ x. if x then v else w) (less_is a b))
  comparison_tops AtMost operand k a b hit miss v w c e f h m =
      λ s q. branch_tops Test.Greater operand k a b miss hit w v c e f m h s q
      ∙ ap Some (exchanged_if (nat_lt b a) v w ∙ ap (λ x. if x then v else w) (at_most_is a b))
  comparison_tops Greater operand k a b hit miss v w c e f h m = branch_tops Test.Greater operand k a b hit miss v w c e f h m
  comparison_tops AtLeast operand k a b hit miss v w c e f h m = branch_tops Test.AtLeast operand k a b hit miss v w c e f h m

  -- A holds a field, or none
  abbrev Holds : Option FieldPlace → State → Type 0
  Holds None s = Unit {0}
  Holds (Some f) s = (x : ℕ) × ((field_at f.offset f.width p ≡ Some x) × (s.accumulator ≡ under_mask f.mask x))

  abbrev pub After : Option FieldPlace → State → Type 0
  After held s = HasWords s × Holds held s

  -- a test of a field that is the same as one before
  still_held : (held : Option FieldPlace) (t : FieldTest) (s : State) → is_loaded held t ≡ true → Holds held s → Holds (left_by (Field t)) s
  still_held None t s e h = cc
  still_held (Some u) t s e h =
      let parts = and_parts (same_offset u.offset t.offset) (same_width u.width t.width && same_mask u.mask t.mask) e in
      let more = and_parts (same_width u.width t.width) (same_mask u.mask t.mask) parts.1 in (
        h.0,
        (
          sym (ap₂ (λ o w. field_at o w p) (same_offset_is u.offset t.offset parts.0) (same_width_is u.width t.width more.0)) ∙ h.1.0,
          h.1.1 ∙ ap (λ m. under_mask m h.0) (same_mask_is u.mask t.mask more.1),
        ),
      )

  -- the comparison of a field that A holds
  abbrev passes : FieldTest → ℕ → Bool
  passes t x = compares t.comparison (under_mask t.mask x) t.value

  compared_tops : (t : FieldTest) (x hit miss v w : ℕ) (c : List Insn) → field_at t.offset t.width p ≡ Some x → Leads p n (After (left_by (Field t))) c hit v
      → Leads p n (After (left_by (Field t))) c miss w → Tops p n (Has (under_mask t.mask x)) (emit_comparison t.comparison Constant t.value hit miss c)
      (if passes t x then v else w)
  compared_tops t x hit miss v w c e h m =
      comparison_tops {P = Has (under_mask t.mask x)} t.comparison Constant t.value (under_mask t.mask x) t.value hit miss v w c (λ s q. q.1) (λ s q. refl)
      (leads_in p n (λ s q. (q.0, (x, (e, q.1)))) h) (leads_in p n (λ s q. (q.0, (x, (e, q.1)))) m)

  masked_tops : (mask : Option ℕ) (c : List Insn) (x v : ℕ) → Tops p n (Has (under_mask mask x)) c v → Tops p n (Has x) (emit_mask mask c) v
  masked_tops None c x v h = h
  masked_tops (Some m) c x v h =
      λ s q. run_plain p n (Compute AluOperation.And Constant) m c s ∙ h (record s { accumulator = bit_and s.accumulator m }) (q.0, ap (λ y. bit_and y m) q.1)

  -- a field is loaded and asked for; where there is none the run ends with 0
  test_leads : (held : Option FieldPlace) (t : Elementary) (hit miss v w : ℕ) (c : List Insn) → Leads p n (After (left_by t)) c hit v
      → Leads p n (After (left_by t)) c miss w → let e = emit_test held t hit miss c in Leads p n (After held) e.code e.entry (pick (elementary_reads t p) v w)
  test_leads held (Outcome true) hit miss v w c h m = leads_in p n (λ s q. (q.0, tt)) h
  test_leads held (Outcome false) hit miss v w c h m = leads_in p n (λ s q. (q.0, tt)) m
  test_leads held (Field t) hit miss v w c h m =
      let d = emit_comparison t.comparison Constant t.value hit miss c in
      if_case (λ (d : List Insn). Leads p n (After held) d (length d) (pick (field_reads t p) v w)) (is_loaded held t) _ _ (λ e. leads_top p n d _ (λ s q.
      let k = still_held held t s e q.1 in
      compared_tops t k.0 hit miss v w c k.1.0 h m s (q.0, k.1.1) ∙ ap Some (picked (passes t k.0) v w)
      ∙ ap (λ o. Some (pick (reading_of (with o (λ y. Some (passes t y)))) v w)) (sym k.1.0)))
      (λ e. leads_top p n (emit_field t.offset t.width (emit_mask t.mask d)) _ (λ s q.
      field_runs p n t.offset t.width (emit_mask t.mask d) s (λ x. if passes t x then v else w)
      (λ x i f. masked_tops t.mask d x _ (compared_tops t x hit miss v w c f h m) (record s { accumulator = x; index = i }) (q.0, refl))
      ∙ ap Some (for_test (field_at t.offset t.width p) (passes t) v w)))

  -- a relation: the test of both numbers, or of one and a constant
  relation_picks : (o : Option ℕ) (b : ℕ → ℕ → Bool) (q : Option ℕ) (v w : ℕ)
      → answer_for o (λ x. pick (reading_of (with q (λ y. Some (b x y)))) v w) ≡ pick (reading_of (with o (λ x. with q (λ y. Some (b x y))))) v w
  relation_picks o b q v w = grind arith

  relation_tops : (link : Link) (comparison : Comparison) (l r : NumberTree) (hit miss v w : ℕ) (c : List Insn) → Leads p n HasWords c hit v
      → Leads p n HasWords c miss w → number_words l ≤ 16 → 1 + number_words r ≤ 16 → Tops p n HasWords (emit_relation link comparison l r hit miss c)
      (pick (relation_reads link comparison l r p n) v w)
  relation_tops link comparison l r hit miss v w c h m few_l few_r =
      λ s long. number_runs p n link l 0 _ (omega arith) s (λ x. pick (reading_of (with (number link r p n) (λ y. Some (compares comparison x y)))) v w) long
      (λ x t k e. by_operand (λ d. answer_of d p n 0 t ≡ Some (pick (reading_of (with (number link r p n) (λ y. Some (compares comparison x y)))) v
      w)) (constant r) _ _
      (λ j is. comparison_tops {P = Has x} comparison Constant j x j hit miss v w c (λ u q. q.1) (λ u q. refl) (leads_in p n (λ u q. q.0) h)
      (leads_in p n (λ u q. q.0) m) t (k.long, e) ∙ ap Some (picked (compares comparison x j) v w)
      ∙ ap (λ o. Some (pick (reading_of (with o (λ y. Some (compares comparison x y)))) v w)) (sym (constant_is p n link r j is)))
      (operands_run p n link r 0 x (emit_comparison comparison IndexRegister 0 hit miss c) s t (λ y. if compares comparison x y then v else w)
      (omega arith) k e (number_runs p n link r 1 _ few_r)
      (λ y u j g i. comparison_tops {P = HasBoth x y} comparison IndexRegister 0 x y hit miss v w c (λ z q. q.1) (λ z q. q.2)
      (leads_in p n (λ z q. q.0) h) (leads_in p n (λ z q. q.0) m) u (j.long, g, i)) ∙ ap Some (for_test (number link r p n) (compares comparison x) v w)))
      ∙ ap Some (relation_picks (number link l p n) (compares comparison) (number link r p n) v w)

  -- code that is entered anyhow, or with nothing in A
  anyhow : {c : List Insn} {place v : ℕ} (held : Option FieldPlace) → Leads p n HasWords c place v → Leads p n (After held) c place v
  anyhow held h = leads_in p n (λ s q. q.0) h

  by_itself : {c : List Insn} {place v : ℕ} → Leads p n (After None) c place v → Leads p n HasWords c place v
  by_itself h = leads_in p n (λ s q. (q, tt)) h

  emitted_after : (held : Option FieldPlace) (link : Link) (f : Formula) (hit miss v w : ℕ) (c : List Insn) → words f ≤ 16 → Leads p n HasWords c hit v
      → Leads p n HasWords c miss w → let e = emit_after held link f hit miss c in Leads p n (After held) e.code e.entry (pick (reads link f p n) v w)
  emitted_after held link (Single t) hit miss v w c few h m =
      anyhow held (by_itself (test_leads None t hit miss v w c (anyhow (left_by t) h) (anyhow (left_by t) m)))
  emitted_after held link (Compare comparison l r) hit miss v w c few h m =
      anyhow held (leads_top p n (emit_relation link comparison l r hit miss c) _
      (relation_tops link comparison l r hit miss v w c h m (omega arith) (omega arith)))
  emitted_after held link (Both a b) hit miss v w c few h m =
      let e = emit_formula link b hit miss c in
      anyhow held (leads_to p n (pick_both (reads link a p n) (reads link b p n) v w)
      (by_itself (emitted_after None link a e.entry miss (pick (reads link b p n) v w) w e.code (omega arith)
      (by_itself (emitted_after None link b hit miss v w c (omega arith) h m))
      (leads_on p n (emitted_by false None link b hit miss c (omega arith) tt tt tt).grows.tail m))))
  emitted_after held link (Either a b) hit miss v w c few h m =
      let e = emit_formula link b hit miss c in
      anyhow held (leads_to p n (pick_either (reads link a p n) (reads link b p n) v w)
      (by_itself (emitted_after None link a hit e.entry v (pick (reads link b p n) v w) e.code (omega arith)
      (leads_on p n (emitted_by false None link b hit miss c (omega arith) tt tt tt).grows.tail h)
      (by_itself (emitted_after None link b hit miss v w c (omega arith) h m)))))
  emitted_after held link (Except a) hit miss v w c few h m = grind (arith, anyhow, leads_to, by_itself, emitted_after None link a miss hit w v c few m h)
  emitted_after held link (Split t a b) hit miss v w c few h m =
      let left = left_by t in let no = emit_after left link b hit miss c in let yes = emit_after left link a hit miss no.code in
      let grown = (emitted_by false left link b hit miss c (omega arith) tt tt tt).grows.tail in
      leads_to p n (pick_chosen (elementary_reads t p) (reads link a p n) (reads link b p n) v w)
      (test_leads held t yes.entry no.entry (pick (reads link a p n) v w) (pick (reads link b p n) v w) yes.code
      (emitted_after left link a hit miss v w no.code (omega arith) (leads_on p n grown h) (leads_on p n grown m))
      (leads_on p n (emitted_by false left link a hit miss no.code (omega arith) tt tt tt).grows.tail
      (emitted_after left link b hit miss v w c (omega arith) h m)))

  pub emitted_leads : (link : Link) (f : Formula) (hit miss v w : ℕ) (c : List Insn) → words f ≤ 16 → Leads p n HasWords c hit v
      → Leads p n HasWords c miss w → let e = emit_formula link f hit miss c in Leads p n HasWords e.code e.entry (pick (reads link f p n) v w)
  emitted_leads link f hit miss v w c few h m = by_itself (emitted_after None link f hit miss v w c few h m)
