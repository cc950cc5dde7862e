-- Code that is laid out gives the answers of the wide code.
use Rattle.flt_short.proofs.Common.{nat_tests, All-cons, All-head, All-tail, Insn, Operation, Jump, JumpIf, placed_code, All-take, State, Test}
use Rattle.flt_short.proofs.Common.{Operand, plain_both, known_step, PlacedJump}
use Rattle.flt_bpf.specs.Machine.{step, does_if_known, test_holds, operand_value}
use Rattle.std.proofs.Common.{◌≡◌, ℕ, ◌-◌, ◌<◌, ◌≤◌, List, [], ◌∷◌, length, true, Option, Some, refl, arith, zero, suc, Bool, false, ap, ◌∙◌, if◌then◌else◌}
use Rattle.std.proofs.Common.{subst, ◌==◌, ◌&&◌, nat_lt, All, None}
use Rattle.flt_short.specs.inside.Layout.{PlacedCode, with_offsets, with_test_by, with_insn, laid_out, with_jump, with_way, way, place_at, emitted}
use Rattle.flt_short.specs.inside.Layout.{with_noted_jump, jump_near, near_place, put, with_test}
use Rattle.flt_bpf.specs.declared.operation.Operation.TheVariants.{ReturnConstant, ReturnAccumulator}
use Rattle.flt_bpf.specs.{Answer.answer_of, Answer.answer_after, Layout.MOST_OFFSET, Check.ends_in_return}
use Rattle.{std.specs.Prelude.slice_index, flt_short.proofs.PlacedSizes.emitted_grows}
use Rattle.flt_bpf.specs.Instructions.{operation_of}

-- What is laid out first stays where its place says; from a jump a run goes on where
-- the jump leads.
pub jumps : (to : ℕ) (c : List Insn) (p : List ℕ) (n : ℕ) (s : State) → answer_of (with_jump to c) p n 0 s ≡ answer_of c p n (length c - to) s
unfolding step operation_of
jumps to c p n s = refl

-- past one more instruction, by how much code there is then
pub later : (m : ℕ) (i : Insn) (c : List Insn) (to : ℕ) (p : List ℕ) (n : ℕ) (s : State) → m ≡ suc (length c) → to ≤ length c
    → answer_of (i ∷ c) p n (m - to) s ≡ answer_of c p n (length c - to) s
later m i c to p n s e l = grind arith

-- the code from one place on gives the answers of that from another one on
pub record GoesTo (c : List Insn) (place to : ℕ) : Type 0 where
  pub within : place ≤ length c
  pub some : 0 < to → 0 < place
  pub same : (p : List ℕ) (n : ℕ) (s : State) → answer_of c p n (length c - place) s ≡ answer_of c p n (length c - to) s

stays : (c : List Insn) (to : ℕ) → to ≤ length c → GoesTo c to to
stays c to l = record { within = l; some = λ h. h; same = λ p n s. refl }

-- more in front of a layout: from each place of it a run goes on as before
pub record Extends (l m : PlacedCode) : Type 0 where
  pub more : length l.code ≤ length m.code
  pub places : m.places ≡ l.places
  pub same : (to : ℕ) (p : List ℕ) (n : ℕ) (s : State) → to ≤ length l.code → answer_of m.code p n (length m.code - to) s ≡ answer_of l.code p n
      (length l.code - to) s
  pub ends : 0 < length l.code → ends_in_return m.code ≡ ends_in_return l.code

one_more : (i : Insn) (l : PlacedCode) (noted : List PlacedJump) → Extends l (record { code = i ∷ l.code; places = l.places; jumps = noted })
one_more i l noted = grind (arith, later)

both_more : {l m o : PlacedCode} → Extends l m → Extends m o → Extends l o
both_more h g = grind arith

pub way_more : (near : Bool) (to : ℕ) (l : PlacedCode) → Extends l (with_way near to l)
way_more near to l = grind (arith, one_more)

pub emitted_more : (o : Option Operation) (i : Insn) (l : PlacedCode) → Extends l (with_insn o i l)
unfolding with_test
emitted_more (Some (JumpIf test operand)) i l = both_more (both_more (way_more _ _ l) (way_more _ _ (with_way _ _ l))) (one_more _ _ _)
emitted_more _ i l = one_more _ l _

-- so it is at a jump, which leads no farther than the end
pub record Leads (c : List Insn) (j : PlacedJump) : Type 0 where
  pub goes : GoesTo c j.place j.to
  pub inside : j.to ≤ length c

keeps : {l m : PlacedCode} → Extends l m → (j : PlacedJump) → Leads l.code j → Leads m.code j
keeps e j h = grind arith

-- all that are noted lead so
abbrev pub AllLead : PlacedCode → Type 0
AllLead l = All (Leads l.code) l.jumps

all_put : (i : Insn) (l : PlacedCode) → AllLead l → AllLead (emitted i l)
all_put i l h k j b = keeps (one_more i l l.jumps) _ (h k j b)

jump_leads : (to : ℕ) (l : PlacedCode) → to ≤ length l.code → Leads (with_jump to l.code) (record { place = length (with_jump to l.code); to = to })
jump_leads to l b = grind (arith, jumps, later)

all_jump : (to : ℕ) (l : PlacedCode) → to ≤ length l.code → AllLead l → AllLead (with_noted_jump to l)
all_jump to l b h = All-cons (Leads (with_jump to l.code)) _ _ (jump_leads to l b) (All-take (Leads (with_jump to l.code)) 3 l.jumps (all_put _ l h))

-- the place that is chosen for a test
near_jump : (c : List Insn) (js : List PlacedJump) (to : ℕ) → to ≤ length c → All (Leads c) js → GoesTo c (jump_near js to (length c)) to
near_jump c [] to l h = stays c to l
near_jump c (j ∷ js) to l h =
    choice (j.to == to) (nat_lt (length c - j.place) MOST_OFFSET) refl (near_jump c js to l (All-tail (Leads c) j js h))
  where
    choice : (a b : Bool) → a ≡ (j.to == to) → GoesTo c (jump_near js to (length c)) to → GoesTo c (if a && b then j.place else jump_near js to (length c)) to
    choice true true e rest =
        let same : j.to ≡ to = grind (arith, nat_tests) in
        subst (GoesTo c j.place) same (All-head (Leads c) j js h).goes
    choice _ _ e rest = rest

pub near_goes : (l : PlacedCode) (to : ℕ) → to ≤ length l.code → AllLead l → GoesTo l.code (near_place l to) to
unfolding near_place
near_goes l to inside h = grind (arith, stays, near_jump)

-- what is laid out in front of jumps that lead so
all_way : (near : Bool) (to : ℕ) (l : PlacedCode) → to ≤ length l.code → AllLead l → AllLead (with_way near to l)
all_way true to l b h = h
all_way false to l b h = all_jump to l b h

all_test : (a b : Bool) (i : Insn) (hit miss : ℕ) (l : PlacedCode) → hit ≤ length l.code → miss ≤ length l.code → AllLead l
    → AllLead (with_test_by a b i hit miss l)
all_test a b i hit miss l lh lm h =
    all_put _ (with_way a hit _) (all_way a hit _ (omega (arith, lh, (way_more b miss l).more)) (all_way b miss l lm h))

all_emitted : (op : Option Operation) (i : Insn) (l : PlacedCode) → ((k : ℕ) → place_at l k ≤ length l.code) → AllLead l → AllLead (with_insn op i l)
unfolding with_test
all_emitted (Some (JumpIf t o)) i l inside h =
    all_test _ _ i _ _ l (near_goes l _ (inside i.jt) h).within (near_goes l _ (inside i.jf) h).within h
all_emitted (Some Jump) i l inside h = all_jump _ l (inside i.k) h
all_emitted _ i l inside h = all_put _ l h

way_leads : (near : Bool) (to : ℕ) (l : PlacedCode) → to ≤ length l.code → Leads (with_way near to l).code (record { place = way near to l; to = to })
way_leads true to l b = record { goes = stays l.code to b; inside = b }
way_leads false to l b = jump_leads to l b

-- a test's two places lead where they should
pub test_leads : (a b : Bool) (hit miss : ℕ) (l : PlacedCode) → hit ≤ length l.code → miss ≤ length l.code
    → (let m = with_way b miss l in let c = (with_way a hit m).code in GoesTo c (way a hit m) hit × GoesTo c (way b miss l) miss)
test_leads a b hit miss l lh lm = grind (arith, way_leads, way_more, keeps)

-- the layout of wide code: from the place of each instruction a run goes on as in the wide code
pub record Lays (l : PlacedCode) (wide : List Insn) : Type 0 where
  pub leads : AllLead l
  pub inside : (k : ℕ) → place_at l k ≤ length l.code
  pub some : (k : ℕ) → k < length wide → 0 < place_at l k
  pub next : (p : List ℕ) (n : ℕ) (s : State) → answer_of l.code p n 0 s ≡ answer_of wide p n 0 s
  pub arrives : (p : List ℕ) (n k : ℕ) (s : State) → answer_of l.code p n (length l.code - place_at l k) s ≡ answer_of wide p n k s

pub near : {l : PlacedCode} {is : List Insn} → Lays l is → (k : ℕ) → GoesTo l.code (near_place l (place_at l k)) (place_at l k)
near {l} h k = near_goes l _ (h.inside k) h.leads

-- where a test goes on
abbrev goes : Bool → ℕ → ℕ → ℕ
goes b k m = if b then k else m

-- what an instruction in front does, by its operation
plain : (op : Option Operation) (i : Insn) (jt jf : ℕ) (c : List Insn) (p : List ℕ) (n : ℕ) (s : State) → operation_of i.code ≡ op
    → answer_of (with_offsets i jt jf ∷ c) p n 0 s ≡ answer_after (answer_of c p n) (does_if_known op (with_offsets i jt jf) p n s)
plain op i jt jf c p n s e = ap (answer_after (answer_of c p n)) (known_step p n (with_offsets i jt jf) op s e)

-- a test goes on at its places, however they are reached
test_same : (a b : Bool) (i : Insn) (t : Test) (o : Operand) (l : PlacedCode) (is : List Insn) (p : List ℕ) (n : ℕ) (s : State)
    → operation_of i.code ≡ Some (JumpIf t o) → Lays l is
    → answer_of (with_test_by a b i (near_place l (place_at l i.jt)) (near_place l (place_at l i.jf)) l).code p n 0 s ≡ answer_of is p n
    (goes (test_holds t s.accumulator (operand_value o i.k s.index)) i.jt i.jf) s
test_same a b i t o l is p n s e h = plain (Some (JumpIf t o)) i _ _ c.code p n s e ∙ by (test_holds t s.accumulator (operand_value o i.k s.index))
  where
    hit : ℕ
    hit = near_place l (place_at l i.jt)

    miss : ℕ
    miss = near_place l (place_at l i.jf)

    c : PlacedCode
    c = with_way a hit (with_way b miss l)

    led : (place k : ℕ) → GoesTo c.code place (near_place l (place_at l k)) → answer_of c.code p n (length c.code - place) s ≡ answer_of is p n k s
    led place k g = g.same p n s ∙ (both_more (way_more b miss l) (way_more a hit (with_way b miss l))).same _ p n s (near h k).within
        ∙ (near h k).same p n s ∙ h.arrives p n k s

    by : (d : Bool) → answer_of c.code p n (goes d (length c.code - way a hit (with_way b miss l)) (length c.code - way b miss l)) s ≡ answer_of is p
        n (goes d i.jt i.jf) s
    by true = led _ i.jt (test_leads a b hit miss l (near h i.jt).within (near h i.jf).within).0
    by false = led _ i.jf (test_leads a b hit miss l (near h i.jt).within (near h i.jf).within).1

-- a wide instruction that is laid out does what it does in the wide code
emitted_same : (op : Option Operation) (i : Insn) (l : PlacedCode) (is : List Insn) (p : List ℕ) (n : ℕ) (s : State) → operation_of i.code ≡ op
    → Lays l is → answer_of (with_insn op i l).code p n 0 s ≡ answer_after (answer_of is p n) (does_if_known op i p n s)
unfolding with_test
emitted_same None i l is p n s e h = plain None i 0 0 l.code p n s e
emitted_same (Some Jump) i l is p n s e h = jumps _ l.code p n s ∙ h.arrives p n i.k s
emitted_same (Some (JumpIf t o)) i l is p n s e h = test_same _ _ i t o l is p n s e h
emitted_same (Some ReturnConstant) i l is p n s e h = plain _ i 0 0 l.code p n s e
emitted_same (Some ReturnAccumulator) i l is p n s e h = plain _ i 0 0 l.code p n s e
emitted_same (Some op) i l is p n s e h =
    plain _ i 0 0 l.code p n s e ∙ plain_both p n (λ u v. answer_after (answer_of l.code p n) u ≡ answer_after (answer_of is p n) v) refl refl op
    (with_offsets i 0 0) i s refl (λ t. h.next p n t)

lays_put : (i : Insn) (l : PlacedCode) (is : List Insn) → Lays l is → Lays (put i l) (i ∷ is)
unfolding step
lays_put i l is h = record { leads = all_emitted op i l h.inside h.leads; inside = inside; some = some; next = next; arrives = arrives }
  where
    op : Option Operation
    op = operation_of i.code

    m : PlacedCode
    m = with_insn op i l

    more : Extends l m
    more = emitted_more op i l

    kept : (k : ℕ) → slice_index m.places k ≡ place_at l k
    kept k = ap (λ ps. slice_index ps k) more.places

    inside : (k : ℕ) → place_at (put i l) k ≤ length m.code
    inside zero = omega arith
    inside (suc k) = omega (arith, kept k, h.inside k, more.more)

    some : (k : ℕ) → k < length (i ∷ is) → 0 < place_at (put i l) k
    some zero b = omega (arith, (emitted_grows op i l).more)
    some (suc k) b = omega (arith, kept k, h.some k (omega arith))

    next : (p : List ℕ) (n : ℕ) (s : State) → answer_of m.code p n 0 s ≡ answer_of (i ∷ is) p n 0 s
    next p n s = emitted_same op i l is p n s refl h

    arrives : (p : List ℕ) (n k : ℕ) (s : State) → answer_of m.code p n (length m.code - place_at (put i l) k) s ≡ answer_of (i ∷ is) p n k s
    arrives p n zero s = let none : length m.code - length m.code ≡ 0 = omega arith in ap (λ k. answer_of m.code p n k s) none ∙ next p n s
    arrives p n (suc k) s = ap (λ to. answer_of m.code p n (length m.code - to) s) (kept k) ∙ more.same _ p n s (h.inside k) ∙ h.arrives p n k s

pub lays : (wide : List Insn) → Lays (placed_code wide) wide
lays [] = grind (arith, stays)
lays (i ∷ is) = lays_put i (placed_code is) is (lays is)

pub same_answers : (wide : List Insn) (p : List ℕ) (n : ℕ) (s : State) → answer_of (laid_out wide) p n 0 s ≡ answer_of wide p n 0 s
same_answers wide p n s = (lays wide).next p n s
