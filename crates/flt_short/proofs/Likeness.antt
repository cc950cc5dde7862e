-- Code that is alike has the answers of the old code, and a run of it meets no more instructions.
use Rattle.std.proofs.Math.Seq.{drop-nil, drop-cons}
use Rattle.flt_short.proofs.Common.{operation_of, AluOperation, Test, answer_drop, nat_tests, Insn, State, Operation, Load, Compute, Jump, JumpIf, Immediate}
use Rattle.flt_short.proofs.Common.{Length, Constant, known_step, plain_both}
use Rattle.flt_bpf.specs.Machine.{step, Next, Goes, Ends, Lost, does, does_if_known, operand_value, test_holds, Answered, run_from, progress_after}
use Rattle.flt_bpf.specs.Machine.{step_if_there, machine, start}
use Rattle.flt_bpf.specs.Registers.{reads_accumulator, reads_index, sets_accumulator, sets_index}
use Rattle.std.proofs.Common.{◌≡◌, inl, inr, ℕ, zero, suc, ◌+◌, ◌-◌, ◌<◌, ◌≤◌, List, [], ◌∷◌, length, drop, length-drop, Bool, true, false, Option, Some, None}
use Rattle.std.proofs.Common.{refl, sym, ap, ap₂, ◌∙◌, subst, arith, ◌≢◌, All, count_by, ◌==◌, ◌&&◌, ◌||◌, not, if◌then◌else◌, slice_get, bit_and, get_or}
use Rattle.flt_bpf.specs.declared.operation.Operation.TheVariants.{Negate, ReturnConstant, ReturnAccumulator, CopyToIndex, CopyToAccumulator}
use Rattle.flt_bpf.specs.declared.operation.Register.TheVariants.{Accumulator, Index}
use Rattle.flt_short.specs.inside.Alike.{goes_on, rejects, is_sure, goes_on_alike, are_copies, lands_at_if, lands_at, code_from, stands_at, stands, are_alike}
use Rattle.flt_short.specs.inside.Alike.{same_step, one_test, left_out}
use Rattle.flt_bpf.specs.{declared.operation.Operand.TheVariants.IndexRegister, Instructions.code_of, Check.IsValidUnlessLong, inside.Flow.goes_on_or_rejects}
use Rattle.std.proofs.lemmas.{Option.slice_get_within, Option.get_or_from_slice_get, List.drop-drop, Bool.and_parts, Bool.or_cases}
use Rattle.flt_short.specs.{Alike.Comes, Alike.Shortens, declared.alike.Landing.Landing}
use Rattle.flt_bpf.proofs.{Suffix.machine_answers, Suffix.valid_if_short, Codes.code_is, Checking.parts}
use Rattle.flt_bpf.specs.{Layout.JUMP, Layout.is_branch, Answer.answer_of, Answer.answer_after}

-- how many instructions a run meets after an instruction, and from a place on
abbrev pub steps_after : (ℕ → State → ℕ) → Next → ℕ
steps_after rest (Goes k s) = rest k s
steps_after rest (Ends a) = 0
steps_after rest Lost = 0

abbrev pub steps_of : List Insn → List ℕ → ℕ → ℕ → State → ℕ
steps_of [] p n k s = 0
steps_of (i ∷ is) p n (suc k) s = steps_of is p n k s
steps_of (i ∷ is) p n zero s = suc (steps_after (steps_of is p n) (step i p n s))

steps_drop : (c : List Insn) (p : List ℕ) (n k : ℕ) (s : State) → steps_of (drop k c) p n 0 s ≡ steps_of c p n k s
steps_drop (i ∷ is) p n (suc k) s = steps_drop is p n k s
steps_drop _ p n zero s = refl
steps_drop _ p n _ s = refl

drop_at : (c : List Insn) (k : ℕ) (j : Insn) → slice_get c k ≡ Some j → drop k c ≡ j ∷ drop (suc k) c
drop_at c k j e = drop-cons c k j (slice_get_within c k j e) ∙ ap (λ z. z ∷ drop (suc k) c) (get_or_from_slice_get c k j j e)

rest_at : (c : List Insn) (place far : ℕ) → drop far (drop (suc place) c) ≡ drop (place + 1 + far) c
rest_at c place far = let there : suc place + far ≡ place + 1 + far = omega arith in drop-drop far (suc place) c ∙ ap (λ m. drop m c) there

-- the answer from a place on, and how many instructions are met, by the instruction there
pub at_step : (c : List Insn) (p : List ℕ) (n place : ℕ) (i : Insn) (s : State) → slice_get c place ≡ Some i → answer_of c p n place s ≡ answer_after
    (λ far w. answer_of c p n (place + 1 + far) w) (step i p n s)
at_step c p n place i s g = sym (answer_drop c p n place s) ∙ ap (λ z. answer_of z p n 0 s) (drop_at c place i g) ∙ by (step i p n s)
  where
    by : (o : Next) → answer_after (answer_of (drop (suc place) c) p n) o ≡ answer_after (λ far w. answer_of c p n (place + 1 + far) w) o
    by (Goes far w) = sym (answer_drop (drop (suc place) c) p n far w) ∙ ap (λ z. answer_of z p n 0 w) (rest_at c place far)
        ∙ answer_drop c p n (place + 1 + far) w
    by _ = refl

steps_at : (c : List Insn) (p : List ℕ) (n place : ℕ) (i : Insn) (s : State) → slice_get c place ≡ Some i → steps_of c p n place s ≡ suc
    (steps_after (λ far w. steps_of c p n (place + 1 + far) w) (step i p n s))
steps_at c p n place i s g = sym (steps_drop c p n place s) ∙ ap (λ z. steps_of z p n 0 s) (drop_at c place i g) ∙ ap suc (by (step i p n s))
  where
    by : (o : Next) → steps_after (steps_of (drop (suc place) c) p n) o ≡ steps_after (λ far w. steps_of c p n (place + 1 + far) w) o
    by (Goes far w) = sym (steps_drop (drop (suc place) c) p n far w) ∙ ap (λ z. steps_of z p n 0 w) (rest_at c place far)
        ∙ steps_drop c p n (place + 1 + far) w
    by _ = refl

-- after two instructions: where the old code has an answer, the code has the same, and in no more
-- instructions
abbrev pub Follows : List Insn → List Insn → List ℕ → ℕ → Next → Next → Type 0
Follows d is p n u v =
    ((answer : ℕ) → answer_after (answer_of is p n) v ≡ Some answer → answer_after (answer_of d p n) u ≡ Some answer)
    × (steps_after (steps_of d p n) u ≤ steps_after (steps_of is p n) v)

-- so it is from a place on
abbrev pub AsGood : List Insn → List Insn → List ℕ → ℕ → ℕ → ℕ → State → State → Type 0
AsGood d is p n far k t s = Follows d is p n (Goes far t) (Goes k s)

-- A and X may differ
abbrev pub other : State → ℕ → ℕ → State
other s a x = record s { accumulator = a; index = x }

-- but not where they are read
abbrev Same : Bool → ℕ → ℕ → Type 0
Same b u v = b ≡ true → u ≡ v

implied_same : (b a : Bool) (u v : ℕ) → (not b || a) ≡ true → Same a u v → Same b u v
implied_same b a u v e h = grind arith

-- the old value where it is read
abbrev read : Bool → ℕ → ℕ → ℕ
read b u v = if b then v else u

read_is : (b : Bool) (u v : ℕ) → Same b u v → u ≡ read b u v
read_is b u v h = grind arith

read_same : (b sets a : Bool) (u v : ℕ) → sets ≡ false → Same a u v → Same (sets || a) (read b u v) v
read_same b sets a u v e h = grind arith

drop_after : (c : List Insn) (k : ℕ) (j : Insn) (js : List Insn) → drop k c ≡ j ∷ js → drop (suc k) c ≡ js
drop_after c k j js e = let next : k + 1 ≡ suc k = omega arith in ap (λ m. drop m c) (sym next) ∙ sym (drop-drop 1 k c) ∙ ap (drop 1) e

tail_after : (c : List Insn) (place : ℕ) (j : Insn) (js : List Insn) → 0 < place → place ≤ length c → code_from c place ≡ j ∷ js → js ≡ code_from c (place - 1)
tail_after c place j js some low e = grind (arith, drop_after)

module _ (p : List ℕ) (n : ℕ) where
  -- the code does at a landing what the old code does so far on
  abbrev pub Lands : List Insn → List Insn → Landing → ℕ → Type 0
  Lands c is l k = (s : State) (a x : ℕ) → Same l.accumulator a s.accumulator → Same l.index x s.index → AsGood (code_from c l.place) is p n 0 k (other s a x) s

  abbrev pub AllLand : List Insn → List Insn → List Landing → Type 0
  AllLand c is ls = (k : ℕ) (l : Landing) → slice_get ls k ≡ Some l → 0 < l.place → Lands c is l k

  ends : (d is : List Insn) → Follows d is p n (Ends 0) (Ends 0)
  ends d is = (λ b eb. eb, omega arith)

  lost : (d is : List Insn) → Follows d is p n Lost Lost
  lost d is = (λ b eb. eb, omega arith)

  -- an operation does the same with other values of A and X where it doesn't read them
  does_both : (P : Next → Next → Type 0) (op : Operation) (j i : Insn) (s : State) (a x : ℕ) → goes_on_or_rejects op ≡ true → P (Ends 0) (Ends 0)
      → P Lost Lost → (sets_index op ≡ false → (v : ℕ)
      → P (Goes 0 (record { accumulator = v; index = read (reads_index op) x s.index; memory = s.memory }))
      (Goes 0 (record { accumulator = v; index = s.index; memory = s.memory })))
      → (sets_accumulator op ≡ false → (v : ℕ)
      → P (Goes 0 (record { accumulator = read (reads_accumulator op) a s.accumulator; index = v; memory = s.memory }))
      (Goes 0 (record { accumulator = s.accumulator; index = v; memory = s.memory })))
      → (sets_accumulator op ≡ false → sets_index op ≡ false → (m : List ℕ)
      → P (Goes 0 (record { accumulator = read (reads_accumulator op) a s.accumulator; index = read (reads_index op) x s.index; memory = m }))
      (Goes 0 (record { accumulator = s.accumulator; index = s.index; memory = m })))
      → P (does op (record j { k = i.k }) p n (other s (read (reads_accumulator op) a s.accumulator) (read (reads_index op) x s.index))) (does op i p n s)
  does_both P op j i s a x e ends lost set_a set_x stored = grind (arith, ends, lost, set_a, set_x, stored)

  -- both codes go on by an instruction
  both : (d is : List Insn) (j i : Insn) (t s : State) (u v : Next) → step j p n t ≡ u → step i p n s ≡ v → Follows d is p n u v
      → AsGood (j ∷ d) (i ∷ is) p n 0 0 t s
  both d is j i t s u v new old g = grind (arith, g)

  -- the old one goes on by an instruction of its own
  old_alone : (d is : List Insn) (i : Insn) (k : ℕ) (t s s' : State) → step i p n s ≡ Goes k s' → AsGood d is p n 0 k t s' → AsGood d (i ∷ is) p n 0 0 t s
  old_alone d is i k t s s' e g = grind (arith, g)

  -- copies do the same
  same_tails : (c : List Insn) (x y : ℕ) → length (drop x c) ≡ length (drop y c) → drop x c ≡ drop y c
  same_tails [] x y e = drop-nil x ∙ sym (drop-nil y)
  same_tails (i ∷ c) zero zero e = refl
  same_tails (i ∷ c) zero (suc y) e = absurd (omega (arith, length-drop y c))
  same_tails (i ∷ c) (suc x) zero e = absurd (omega (arith, length-drop x c))
  same_tails (i ∷ c) (suc x) (suc y) e = same_tails c x y e

  led : (is js : List Insn) (s : State) (far near : ℕ) → drop far is ≡ drop near js → AsGood js is p n near far s s
  led is js s far near e =
      let old = sym (steps_drop is p n far s) ∙ ap (λ z. steps_of z p n 0 s) e ∙ steps_drop js p n near s in
      (λ b eb. sym (sym (answer_drop is p n far s) ∙ ap (λ z. answer_of z p n 0 s) e ∙ answer_drop js p n near s) ∙ eb, omega arith)

  copies_good : (c one two : List Insn) (x y : ℕ) → one ≡ drop x c → two ≡ drop y c → are_copies one two ≡ true → (s : State) → AsGood two one p n 0 0 s s
  copies_good c (i ∷ is) (j ∷ js) x y d e f s =
      let op = operation_of i.code in
      let q : (i.code ≡ j.code) × (i.k ≡ j.k) × (goes_on_alike op i (length is) j (length js) (are_copies is js) ≡ true) = grind (arith, nat_tests) in
      let is_at = sym (drop_after c x i is (sym d)) in
      let js_at = sym (drop_after c y j js (sym e)) in
      let targets : (far near : ℕ) → (length is - far == length js - near) ≡ true → drop far is ≡ drop near js = λ far near t.
      (let t1 = t in
      let same : length is - far ≡ length js - near = grind (arith, nat_tests) in
      let one_is : drop far is ≡ drop (suc x + far) c = ap (drop far) is_at ∙ drop-drop far (suc x) c in
      let two_is : drop near js ≡ drop (suc y + near) c = ap (drop near) js_at ∙ drop-drop near (suc y) c in
      one_is ∙ same_tails c (suc x + far) (suc y + near) (ap length (sym one_is) ∙ length-drop far is ∙ same ∙ sym (length-drop near js)
      ∙ ap length two_is) ∙ sym two_is) in
      both js is j i s s _ _ (known_step p n j op s (ap operation_of (sym q.0))) (known_step p n i op s refl)
      (subst (λ m. Follows js is p n (does_if_known op (record j { k = m }) p n s) (does_if_known op i p n s)) q.1
      (alike op (λ h t. copies_good c is js (suc x) (suc y) is_at js_at h t) targets q.2))
    where
      alike : (op : Option Operation) → (are_copies is js ≡ true → (t : State) → AsGood js is p n 0 0 t t)
          → ((far near : ℕ) → (length is - far == length js - near) ≡ true → drop far is ≡ drop near js) → goes_on_alike op i (length is) j
          (length js) (are_copies is js) ≡ true → Follows js is p n (does_if_known op (record j { k = i.k }) p n s) (does_if_known op i p n s)
      alike None rest to h = cc
      alike (Some Jump) rest to h = cc
      alike (Some ReturnConstant) rest to h = (λ b eb. eb, omega arith)
      alike (Some ReturnAccumulator) rest to h = (λ b eb. eb, omega arith)
      alike (Some (JumpIf t o)) rest to h = ways (test_holds t s.accumulator (operand_value o i.k s.index))
        where
          ways : (b : Bool) → AsGood js is p n (if b then j.jt else j.jf) (if b then i.jt else i.jf) s s
          ways true = led is js s i.jt j.jt (to i.jt j.jt (and_parts (length is - i.jt == length js - j.jt) _ h).0)
          ways false = led is js s i.jf j.jf (to i.jf j.jf (and_parts (length is - i.jt == length js - j.jt) _ h).1)
      alike (Some op) rest to h = plain_both p n (Follows js is p n) (ends js is) (lost js is) op j i s refl (rest h)
  copies_good c _ _ x y d e f s = cc

  -- where a way lands
  landed : (c is : List Insn) (ls : List Landing) (all : AllLand c is ls) (k place : ℕ) (a x : Bool) → lands_at c ls k place a x ≡ true
      → (s : State) (u v : ℕ) → Same a u s.accumulator → Same x v s.index → AsGood (code_from c place) is p n 0 k (other s u v) s
  landed c is ls all k place a x f s u v h g = by (slice_get ls k) refl f
    where
      by : (o : Option Landing) → slice_get ls k ≡ o → lands_at_if c o place a x ≡ true → AsGood (code_from c place) is p n 0 k (other s u v) s
      by None e f = cc
      by (Some m) e f =
          let q : (0 < m.place) × ((not m.accumulator || a) ≡ true) × ((not m.index || x) ≡ true)
          × ((m.place == place || are_copies (code_from c m.place) (code_from c place)) ≡ true) = grind (arith, nat_tests) in
          let good = all k m e q.0 s u v (implied_same m.accumulator a u s.accumulator q.1 h) (implied_same m.index x v s.index q.2 g) in
          elim (or_cases (m.place == place) (are_copies (code_from c m.place) (code_from c place)) q.3) [
            | inl z ↦ let same : m.place ≡ place = grind (arith, nat_tests) in subst (λ z. AsGood (code_from c z) is p n 0 k (other s u v) s) same good
            | inr z ↦
                let copy = copies_good c (code_from c m.place) (code_from c place) (length c - m.place) (length c - place) refl refl z (other s u v) in
                let far = copy.1 in
                let near = good.1 in
                (λ b eb. copy.0 b (good.0 b eb), omega arith)
          ]

  -- after the instruction at a place
  module _ (c is : List Insn) (ls : List Landing) (l : Landing) (all : AllLand c is ls) (low : l.place ≤ length c) where
    abbrev following : List Insn
    following = code_from c (l.place - 1)

    fit : (k far : ℕ) (a x : Bool) → lands_at c ls k (l.place - (1 + far)) a x ≡ true → (s : State) (u v : ℕ) → Same a u s.accumulator
        → Same x v s.index → AsGood following is p n far k (other s u v) s
    fit k far a x f s u v h g =
        let good = landed c is ls all k (l.place - (1 + far)) a x f s u v h g in
        let start = length c - (l.place - 1) in
        let there : drop far following ≡ code_from c (l.place - (1 + far)) = drop-drop far start c ∙ same_tails c (start + far)
        (length c - (l.place - (1 + far))) (omega (arith, length-drop (start + far) c, length-drop (length c - (l.place - (1 + far))) c)) in
        let upper_bound = good.1 in
        let steps : steps_of following p n far (other s u v) ≡ steps_of (code_from c (l.place - (1 + far))) p n 0 (other s u v) =
        sym (steps_drop following p n far (other s u v)) ∙ ap (λ z. steps_of z p n 0 (other s u v)) there in
        (λ b eb. sym (answer_drop following p n far (other s u v)) ∙ ap (λ z. answer_of z p n 0 (other s u v)) there ∙ good.0 b eb, omega arith)

    -- one instruction, with the same A and X where they are read
    way : (hit miss near next : ℕ) → (lands_at c ls hit (l.place - (1 + near)) l.accumulator l.index && lands_at c ls miss (l.place - (1 + next))
        l.accumulator l.index) ≡ true → (s : State) (a x : ℕ) → Same l.accumulator a s.accumulator → Same l.index x s.index → (b : Bool)
        → AsGood following is p n (if b then near else next) (if b then hit else miss) (other s a x) s
    way hit miss near next f s a x ha hx true = fit hit near l.accumulator l.index
        (and_parts (lands_at c ls hit (l.place - (1 + near)) l.accumulator l.index) _ f).0 s a x ha hx
    way hit miss near next f s a x ha hx false = fit miss next l.accumulator l.index
        (and_parts (lands_at c ls hit (l.place - (1 + near)) l.accumulator l.index) _ f).1 s a x ha hx

    module _ (j i : Insn) (s : State) (a x : ℕ) (ha : Same l.accumulator a s.accumulator) (hx : Same l.index x s.index) where
      -- what an operation does is as good with the values of A and X that it reads
      abbrev Does : Operation → Type 0
      Does op = Follows following is p n
          (does op (record j { k = i.k }) p n (other s (read (reads_accumulator op) a s.accumulator) (read (reads_index op) x s.index))) (does op i p n s)

      plain_good : (op : Operation) → goes_on_or_rejects op ≡ true
          → lands_at c ls 0 (l.place - 1) (sets_accumulator op || l.accumulator) (sets_index op || l.index) ≡ true → Does op
      plain_good op e f =
          let same_a = λ (q : sets_accumulator op ≡ false). read_same (reads_accumulator op) (sets_accumulator op) l.accumulator a s.accumulator q ha in
          let same_x = λ (q : sets_index op ≡ false). read_same (reads_index op) (sets_index op) l.index x s.index q hx in
          let to = fit 0 0 (sets_accumulator op || l.accumulator) (sets_index op || l.index) f in
          does_both (Follows following is p n) op j i s a x e (ends following is) (lost following is)
          (λ q v. to (record s { accumulator = v }) v _ (λ z. refl) (same_x q)) (λ q v. to (record s { index = v }) _ v (same_a q) (λ z. refl))
          (λ q r m. to (record s { memory = m }) _ _ (same_a q) (same_x r))

      does_good : (op : Operation) → goes_on c op j l i ls ≡ true → Does op
      does_good Jump f = cc
      does_good (JumpIf o Constant) f = way i.jt i.jf j.jt j.jf f s s.accumulator x (λ z. refl) hx (test_holds o s.accumulator i.k)
      does_good (JumpIf o IndexRegister) f = way i.jt i.jf j.jt j.jf f s s.accumulator s.index (λ z. refl) (λ z. refl)
          (test_holds o s.accumulator s.index)
      does_good ReturnConstant f = (λ b eb. eb, omega arith)
      does_good ReturnAccumulator f = (λ b eb. eb, omega arith)
      does_good op f = plain_good op refl f

      -- the same instruction
      same_good : (op : Option Operation) → operation_of i.code ≡ op → same_step c op j l i ls ≡ true
          → AsGood (j ∷ following) (i ∷ is) p n 0 0 (other s a x) s
      unfolding same_step
      same_good None e f = cc
      same_good (Some op) e f =
          let q : (i.code ≡ j.code) × (i.k ≡ j.k) × ((not (reads_accumulator op) || l.accumulator) ≡ true) × ((not (reads_index op) || l.index) ≡ true)
          × (goes_on c op j l i ls ≡ true) = grind (arith, nat_tests) in
          let a_is = read_is (reads_accumulator op) a s.accumulator (implied_same (reads_accumulator op) l.accumulator a s.accumulator q.2 ha) in
          let x_is = read_is (reads_index op) x s.index (implied_same (reads_index op) l.index x s.index q.3 hx) in
          both following is j i (other s a x) s _ _ (known_step p n j (Some op) (other s a x) (ap operation_of (sym q.0) ∙ e))
          (known_step p n i (Some op) s e)
          (subst (λ m. Follows following is p n (does op (record j { k = m }) p n (other s a x)) (does op i p n s)) q.1
          (rw (a_is, x_is) (does_good op q.4)))

  coded_step : (o : Operation) (j : Insn) (s : State) → j.code ≡ code_of o → step j p n s ≡ does o j p n s
  coded_step o j s e = known_step p n j (Some o) s (ap operation_of e ∙ code_is o)

  -- one test for a mask and a test of 0
  one_good : (c is : List Insn) (ls : List Landing) (l : Landing) (all : AllLand c is ls) (low : l.place ≤ length c) (j i : Insn)
      → one_test c j l i is ls ≡ true → (s : State) (a x : ℕ) → Same l.accumulator a s.accumulator → Same l.index x s.index
      → AsGood (j ∷ code_from c (l.place - 1)) (i ∷ is) p n 0 0 (other s a x) s
  unfolding one_test
  one_good c [] ls l all low j i f s a x ha hx = cc
  one_good c (u ∷ is) ls l all low j i f s a x ha hx =
      let q : (i.code ≡ 84) × (u.code ≡ 21) × (u.k ≡ 0) × (j.code ≡ 69) × (i.k ≡ j.k) × (l.accumulator ≡ true)
      × (lands_at c ls (1 + u.jt) (l.place - (1 + j.jf)) false l.index ≡ true)
      × (lands_at c ls (1 + u.jf) (l.place - (1 + j.jt)) false l.index ≡ true) = grind (arith, nat_tests) in
      let second = coded_step (JumpIf Test.Equal Constant) u s' q.1 ∙ ap (λ m. Goes (if bit_and s.accumulator i.k == m then u.jt else u.jf) s') q.2 in
      let new = coded_step (JumpIf Test.AnyBit Constant) j (other s a x) q.3
      ∙ ap₂ (λ m k. Goes (if not (bit_and m k == 0) then j.jt else j.jf) (other s a x)) (ha q.5) (sym q.4) in
      old_alone (j ∷ d) (u ∷ is) i 0 (other s a x) s s' (coded_step (Compute AluOperation.And Constant) i s q.0)
      (both d is j u (other s a x) s' _ _ new second (ways (way u.jt j.jf q.6) (way u.jf j.jt q.7) (bit_and s.accumulator i.k == 0)))
    where
      d : List Insn
      d = code_from c (l.place - 1)

      s' : State
      s' = record s { accumulator = bit_and s.accumulator i.k }

      way : (k far : ℕ) → lands_at c ls (1 + k) (l.place - (1 + far)) false l.index ≡ true → AsGood d is p n far k (other s a x) s'
      way k far f =
          let one : 1 + k ≡ suc k = omega arith in
          subst (λ m. AsGood d (u ∷ is) p n far m (other s a x) s') one (fit c (u ∷ is) ls l all low (1 + k) far false l.index f s' a x (λ q. cc) hx)

      ways : AsGood d is p n j.jf u.jt (other s a x) s' → AsGood d is p n j.jt u.jf (other s a x) s' → (z : Bool)
          → AsGood d is p n (if not z then j.jt else j.jf) (if z then u.jt else u.jf) (other s a x) s'
      ways f g z = grind arith

  -- an instruction that is left out
  rejected : (j : Insn) (js : List Insn) (s : State) → rejects j ≡ true → (answer_of (j ∷ js) p n 0 s ≡ Some 0) × (steps_of (j ∷ js) p n 0 s ≡ 1)
  rejected j js s e = grind (arith, nat_tests, coded_step ReturnConstant j s)

  module _ (c is : List Insn) (ls : List Landing) (l : Landing) (all : AllLand c is ls) (i : Insn) (s : State) (a x : ℕ)
      (ha : Same l.accumulator a s.accumulator) (hx : Same l.index x s.index) where
    abbrev Left : Type 0
    Left = AsGood (code_from c l.place) (i ∷ is) p n 0 0 (other s a x) s

    kept : (b c : Bool) (u v w : ℕ) → Same b u v → (c ≡ true → w ≡ v) → Same (b && c) u w
    kept b c u v w h g = grind arith

    -- an operation that can't fail: A and X are others, if it sets them
    set_left : (op : Operation) (v w : ℕ) → operation_of i.code ≡ Some op → does op i p n s ≡ Goes 0 (other s v w)
        → (not (sets_accumulator op) ≡ true → v ≡ s.accumulator) → (not (sets_index op) ≡ true → w ≡ s.index) → lands_at c ls 0 l.place
        (l.accumulator && not (sets_accumulator op)) (l.index && not (sets_index op)) ≡ true → Left
    set_left op v w o e keeps_a keeps_x f =
        old_alone (code_from c l.place) is i 0 (other s a x) s (other s v w) (known_step p n i (Some op) s o ∙ e)
        (landed c is ls all 0 l.place (l.accumulator && not (sets_accumulator op)) (l.index && not (sets_index op)) f (other s v w) a x
        (kept l.accumulator (not (sets_accumulator op)) a s.accumulator v ha keeps_a) (kept l.index (not (sets_index op)) x s.index w hx keeps_x))

    sure_left : (op : Operation) → operation_of i.code ≡ Some op → is_sure op ≡ true → lands_at c ls 0 l.place
        (l.accumulator && not (sets_accumulator op)) (l.index && not (sets_index op)) ≡ true → Left
    sure_left (Load Accumulator Immediate) o e f = set_left _ i.k s.index o refl (λ h. cc) (λ h. refl) f
    sure_left (Load Accumulator Length) o e f = set_left _ n s.index o refl (λ h. cc) (λ h. refl) f
    sure_left (Load Index Immediate) o e f = set_left _ s.accumulator i.k o refl (λ h. refl) (λ h. cc) f
    sure_left (Load Index Length) o e f = set_left _ s.accumulator n o refl (λ h. refl) (λ h. cc) f
    sure_left (Compute AluOperation.Divide v) o e f = cc
    sure_left (Compute AluOperation.Remainder v) o e f = cc
    sure_left (Compute operator v) o e f = set_left _ _ s.index o refl (λ h. cc) (λ h. refl) f
    sure_left Negate o e f = set_left _ _ s.index o refl (λ h. cc) (λ h. refl) f
    sure_left CopyToIndex o e f = set_left _ s.accumulator s.accumulator o refl (λ h. refl) (λ h. cc) f
    sure_left CopyToAccumulator o e f = set_left _ s.index s.index o refl (λ h. cc) (λ h. refl) f
    sure_left _ o e f = cc

    rejected_left : (op : Operation) (j : Insn) (js : List Insn) → code_from c l.place ≡ j ∷ js → operation_of i.code ≡ Some op → rejects j ≡ true
        → goes_on_or_rejects op ≡ true → lands_at c ls 0 l.place (l.accumulator && not (sets_accumulator op)) (l.index && not (sets_index op)) ≡ true → Left
    rejected_left op j js d o r e f =
        let only : (b : ℕ) → answer_after (answer_of is p n) (does op i p n s) ≡ Some b → Some 0 ≡ Some b =
        plain_both p n (λ u v. (b : ℕ) → answer_after (answer_of is p n) v ≡ Some b → Some 0 ≡ Some b) (λ b eb. eb) (λ b eb. cc) op i i s e
        (λ t b eb. sym (there t).0 ∙ (landed c is ls all 0 l.place _ _ f t t.accumulator t.index (λ z. refl) (λ z. refl)).0 b eb) in
        let steps = (there (other s a x)).1 in
        (λ b eb. (there (other s a x)).0 ∙ only b (sym (ap (answer_after (answer_of is p n)) (known_step p n i (Some op) s o)) ∙ eb), omega arith)
      where
        there : (t : State) → (answer_of (code_from c l.place) p n 0 t ≡ Some 0) × (steps_of (code_from c l.place) p n 0 t ≡ 1)
        there t = subst (λ z. (answer_of z p n 0 t ≡ Some 0) × (steps_of z p n 0 t ≡ 1)) (sym d) (rejected j js t r)

    left_good : (op : Option Operation) (j : Insn) (js : List Insn) → code_from c l.place ≡ j ∷ js → operation_of i.code ≡ op
        → left_out c op j l i ls ≡ true → Left
    unfolding left_out
    left_good None j js d o f = cc
    left_good (Some (JumpIf t v)) j js d o f =
        let q = and_parts (lands_at c ls i.jt l.place l.accumulator l.index) (lands_at c ls i.jf l.place l.accumulator l.index) f in
        old_alone (code_from c l.place) is i _ (other s a x) s s (known_step p n i (Some (JumpIf t v)) s o)
        (way (test_holds t s.accumulator (operand_value v i.k s.index)) q.0 q.1)
      where
        way : (b : Bool) → lands_at c ls i.jt l.place l.accumulator l.index ≡ true → lands_at c ls i.jf l.place l.accumulator l.index ≡ true
            → AsGood (code_from c l.place) is p n 0 (if b then i.jt else i.jf) (other s a x) s
        way true f g = landed c is ls all i.jt l.place l.accumulator l.index f s a x ha hx
        way false f g = landed c is ls all i.jf l.place l.accumulator l.index g s a x ha hx
    left_good (Some op) j js d o f =
        let q = and_parts (is_sure op || (rejects j && goes_on_or_rejects op)) (lands_at c ls 0 l.place (l.accumulator && not (sets_accumulator op))
        (l.index && not (sets_index op))) f in
        elim (or_cases (is_sure op) (rejects j && goes_on_or_rejects op) q.0) [
          | inl e ↦ sure_left op o e q.1
          | inr e ↦ let r = and_parts (rejects j) (goes_on_or_rejects op) e in rejected_left op j js d o r.0 r.1 q.1
        ]

  -- by one of three ways
  here : (c is : List Insn) (ls : List Landing) (l : Landing) (i : Insn) → AllLand c is ls → 0 < l.place → l.place ≤ length c → (d : List Insn)
      → code_from c l.place ≡ d → stands_at c d l i is ls ≡ true → Lands c (i ∷ is) l 0
  here c is ls l i all some low [] e f s a x ha hx = cc
  here c is ls l i all some low (j ∷ js) e f s a x ha hx =
      let op = operation_of i.code in
      let whole = e ∙ ap (λ z. j ∷ z) (tail_after c l.place j js some low e) in
      elim (or_cases (same_step c op j l i ls || one_test c j l i is ls) (left_out c op j l i ls) f) [
        | inl g ↦
            subst (λ d. AsGood d (i ∷ is) p n 0 0 (other s a x) s) (sym whole) (elim (or_cases (same_step c op j l i ls) (one_test c j l i is ls) g) [
              | inl h ↦ same_good c is ls l all low j i s a x ha hx op refl h
              | inr h ↦ one_good c is ls l all low j i h s a x ha hx
            ])
        | inr g ↦ left_good c is ls l all i s a x ha hx op j js e refl g
      ]

  -- at each landing
  pub all_land : (c is : List Insn) (ls : List Landing) → length ls ≡ length is → are_alike c is ls ≡ true → AllLand c is ls
  all_land c [] [] same e k l g some = cc
  all_land c [] (m ∷ ls) same e k l g some = absurd (omega arith)
  all_land c (i ∷ is) [] same e k l g some = cc
  all_land c (i ∷ is) (m ∷ ls) same e (suc k) l g some = all_land c is ls (omega arith) (and_parts (stands c m i is ls) (are_alike c is ls) e).1 k l g some
  all_land c (i ∷ is) (m ∷ ls) same e zero l g some =
      let q = and_parts (stands c m i is ls) (are_alike c is ls) e in
      let is_l : m ≡ l = cc in
      let here_q : stands c l i is ls ≡ true = subst (λ z. stands c z i is ls ≡ true) is_l q.0 in
      let r : (l.place ≤ length c) × (stands_at c (code_from c l.place) l i is ls ≡ true) = grind (arith, nat_tests) in
      here c is ls l i (all_land c is ls (omega arith) q.1) some r.0 (code_from c l.place) refl r.1

  -- a run's answer and count are those of the code
  pub record Met (prog : List Insn) (s : State) (place count a m : ℕ) : Type 0 where
    pub answer : answer_of prog p n place s ≡ Some a
    steps : m ≡ count + steps_of prog p n place s

  met_next : (prog : List Insn) (left place count : ℕ) (s : State) (a m : ℕ)
      → ((k : ℕ) (u : State) → run_from prog p n left (place + 1 + k) u (count + 1) ≡ Answered a m → Met prog u (place + 1 + k) (count + 1) a m)
      → (i : Insn) (o : Next) → slice_get prog place ≡ Some i → step i p n s ≡ o → progress_after (run_from prog p n left) place count o ≡ Answered a
      m → Met prog s place count a m
  met_next prog left place count s a m later i (Goes k u) g st f =
      let r = later k u f in
      let q = r.steps in
      let here = steps_at prog p n place i s g ∙ ap (λ o. suc (steps_after (λ far w. steps_of prog p n (place + 1 + far) w) o)) st in
      record { answer = at_step prog p n place i s g ∙ ap (answer_after (λ far w. answer_of prog p n (place + 1 + far) w)) st ∙ r.answer; steps = omega arith }
  met_next prog left place count s a m later i (Ends b) g st f =
      let same : b ≡ a = cc in
      let more : count + 1 ≡ m = cc in
      let here = steps_at prog p n place i s g ∙ ap (λ o. suc (steps_after (λ far w. steps_of prog p n (place + 1 + far) w) o)) st in
      record {
        answer = at_step prog p n place i s g ∙ ap (answer_after (λ far w. answer_of prog p n (place + 1 + far) w)) st ∙ ap Some same;
        steps =
            omega arith;
      }
  met_next prog left place count s a m later i Lost g st f = cc

  met_there : (prog : List Insn) (left place count : ℕ) (s : State) (a m : ℕ)
      → ((k : ℕ) (u : State) → run_from prog p n left (place + 1 + k) u (count + 1) ≡ Answered a m → Met prog u (place + 1 + k) (count + 1) a m)
      → (o : Option Insn) → slice_get prog place ≡ o → progress_after (run_from prog p n left) place count (step_if_there o p n s) ≡ Answered a m
      → Met prog s place count a m
  met_there prog left place count s a m later None g f = cc
  met_there prog left place count s a m later (Some i) g f = met_next prog left place count s a m later i (step i p n s) g refl f

  pub met_of : (prog : List Insn) (left place count : ℕ) (s : State) (a m : ℕ) → run_from prog p n left place s count ≡ Answered a m
      → Met prog s place count a m
  met_of prog zero place count s a m e = cc
  met_of prog (suc left) place count s a m e =
      met_there prog left place count s a m (λ k u f. met_of prog left (place + 1 + k) (count + 1) u a m f) (slice_get prog place) refl e

  -- a run of code that has an answer
  pub comes_of : (c : List Insn) (answer most : ℕ) → answer_of c p n 0 start ≡ Some answer → steps_of c p n 0 start ≤ most → Comes c p n answer most
  comes_of c answer most a l =
      let m = machine_answers c p n answer a in
      let steps = (met_of c (length c) 0 0 start answer m.met m.answered).steps in
      let inside = m.upper_bound in
      record { count = m.met; answered = m.answered; upper_bound = omega arith; inside = omega arith }

  -- the new code gives the old one's answer in no more instructions
  pub shortened : (new old : List Insn) (ls : List Landing) (d : Landing) (answer count : ℕ) → length ls ≡ length old → 0 < length ls
      → 0 < (get_or ls 0 d).place → (get_or ls 0 d).place ≡ length new → are_alike new old ls ≡ true → machine old p n (length old) ≡ Answered answer
      count → Comes new p n answer count
  shortened new old [] d answer count same any some top e m = absurd (omega arith)
  shortened new old (l ∷ ls) d answer count same any some top e m =
      let good = all_land new old (l ∷ ls) same e 0 l refl some start 0 0 (λ z. refl) (λ z. refl) in
      let none : length new - l.place ≡ 0 = omega arith in
      let whole : code_from new l.place ≡ new = ap (λ k. drop k new) none in
      let was = met_of old (length old) 0 0 start answer count m in
      let a = ap (λ c. answer_of c p n 0 start) (sym whole) ∙ good.0 answer was.answer in
      let steps_new = ap (λ z. steps_of z p n 0 start) whole in
      let upper_bound = good.1 in
      let old_steps = was.steps in
      comes_of new answer count a (omega arith)

pub replaced : (new old : List Insn) (ls : List Landing) (d : Landing) → length new ≤ length old → length ls ≡ length old → 0 < length ls
    → 0 < (get_or ls 0 d).place → (get_or ls 0 d).place ≡ length new → are_alike new old ls ≡ true → count_by (λ i. is_branch (operation_of i.code))
    new ≤ count_by (λ i. is_branch (operation_of i.code)) old → All (λ i. i.code ≢ JUMP) new → IsValidUnlessLong new → Shortens new old
replaced new old ls d short same any some top e few free valid =
    record {
      shorter = short;
      fewer = few;
      valid = λ v. valid_if_short new valid (omega (arith, short, (parts old v).short));
      runs = λ p n answer count m. shortened p n new old ls d answer count same any some top e m;
      needed = λ h. record {
        each = λ place jump g j. absurd
            (free place jump (slice_get_within new place jump g) (ap (λ i. i.code) (get_or_from_slice_get new place jump jump g) ∙ j));
      };
      no_jump = λ h. free;
    }

-- each program replaces itself
pub itself : (old : List Insn) → Shortens old old
itself old = grind (arith, met_of, comes_of)
