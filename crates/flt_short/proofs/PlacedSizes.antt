-- How many instructions wide code becomes where it is laid out, and that a jump stands only for a target
-- that is too far for its test.
use Rattle.std.proofs.lemmas.List.Sums.{count_by-le-length, sum_by-cons}
use Rattle.flt_short.proofs.Common.{operation_of, nat_tests, All-cons, All-head, All-tail, Insn, Operation, Jump, JumpIf, placed_code}
use Rattle.std.proofs.Common.{◌≡◌, ℕ, ◌+◌, ◌-◌, ◌*◌, ◌<◌, ◌≤◌, List, [], ◌∷◌, length, true, cond, Option, Some, refl, sym, arith, ◌≢◌, count_by, zero, suc}
use Rattle.std.proofs.Common.{Bool, false, ap, ◌∙◌, inl, inr, ◌⊎◌, slice_get, if◌then◌else◌, subst, length-drop}
use Rattle.flt_bpf.specs.Layout.{is_branch, JUMP, MOST_OFFSET, HasNoJump, IsShort, IsNeeded, JumpsAreNeeded}
use Rattle.flt_short.specs.inside.Layout.{PlacedCode, with_offsets, with_test_by, with_insn, laid_out, with_jump, is_near, with_way, way, with_test}
use Rattle.flt_bpf.proofs.{Jumps.jump_later, Jumps.needed_put, Codes.back_of_code}

-- code with at least one and at most a given number of instructions more
pub record Grows (c d : List Insn) (most : ℕ) : Type 0 where
  pub more : length c < length d
  few : length d ≤ length c + most

test_grows : (a b : Bool) (i : Insn) (hit miss : ℕ) (l : PlacedCode) → Grows l.code (with_test_by a b i hit miss l).code 3
test_grows a b i hit miss l = grind arith

pub emitted_grows : (op : Option Operation) (i : Insn) (l : PlacedCode) → Grows l.code (with_insn op i l).code (1 + 2 * cond (is_branch op) 1 0)
unfolding with_test
emitted_grows op i l = grind (arith, test_grows)

pub at_least : (wide : List Insn) → length wide ≤ length (laid_out wide)
at_least [] = omega arith
at_least (i ∷ is) = grind (arith, emitted_grows, at_least is)

pub at_most : (wide : List Insn) → length (laid_out wide) ≤ length wide + 2 * count_by (λ i. is_branch (operation_of i.code)) wide
at_most [] = omega arith
at_most (i ∷ is) =
    let g = emitted_grows (operation_of i.code) i (placed_code is) in
    let more : count_by (λ j. is_branch (operation_of j.code)) (i ∷ is) ≡ cond (is_branch (operation_of i.code)) 1 0 + count_by
    (λ j. is_branch (operation_of j.code)) is = sum_by-cons (λ j. cond (is_branch (operation_of j.code)) 1 0) i is in
    omega (arith, g.few, at_most is)

-- three for each at most
pub threefold : (wide : List Insn) → length (laid_out wide) ≤ 3 * length wide
threefold wide = omega (arith, at_most wide, count_by-le-length (λ i. is_branch (operation_of i.code)) wide)

pub ruleset room = (threefold, length-drop)

-- in short code all targets are near: one instruction more, and no jump
plain_put : (i : Insn) (c : List Insn) → i.code ≢ JUMP → HasNoJump c → IsShort (i ∷ c) (length c + 1)
plain_put i c other none = record { no_jump = All-cons (λ j. j.code ≢ JUMP) i c other none; short = omega arith }

emitted_plain : (op : Option Operation) (i : Insn) (l : PlacedCode) → operation_of i.code ≡ op → i.code ≢ JUMP → HasNoJump l.code
    → length l.code ≤ 255 → IsShort (with_insn op i l).code (length l.code + 1)
unfolding with_test
emitted_plain (Some (JumpIf t o)) i l e other none short = grind (arith, nat_tests, plain_put)
emitted_plain (Some Jump) i l e other none short = absurd (other (sym (back_of_code i.code Jump e)))
emitted_plain _ i l e other none short = plain_put _ l.code other none

pub short_stays : (wide : List Insn) → HasNoJump wide → length wide ≤ 256 → IsShort (laid_out wide) (length wide)
short_stays [] none short = record { no_jump = none; short = omega arith }
short_stays (i ∷ is) none short =
    let before = short_stays is (All-tail (λ j. j.code ≢ JUMP) i is none) (omega arith) in
    let now = emitted_plain (operation_of i.code) i (placed_code is) refl (All-head (λ j. j.code ≢ JUMP) i is none) before.no_jump
    (omega (arith, before.short)) in
    record { no_jump = now.no_jump; short = omega (arith, now.short, before.short) }

-- a jump at which the test in front goes on
led : (all : List Insn) (b : Insn) (k place : ℕ) → slice_get all 0 ≡ Some b → is_branch (operation_of b.code) ≡ true
    → (1 + b.jt ≡ place) ⊎ (1 + b.jf ≡ place) → 1 + MOST_OFFSET < place + 1 + k → (jump : Insn)
    → Some (record { code = JUMP; jt = 0; jf = 0; k = k }) ≡ Some jump → IsNeeded all place jump
led all b k place there branches leads far jump e =
    let same : record { code = JUMP; jt = 0; jf = 0; k = k } ≡ jump = cc in
    subst (IsNeeded all place) same (record { from = 0; branch = b; there = there; branches = branches; leads = leads; far = far })

-- a test and a jump for one of its ways
needed_one : (c : List Insn) (i : Insn) (jt jf to : ℕ) → i.code ≢ JUMP → is_branch (operation_of i.code) ≡ true → (1 + jt ≡ 1) ⊎ (1 + jf ≡ 1)
    → MOST_OFFSET < length c - to → JumpsAreNeeded c → JumpsAreNeeded (with_offsets i jt jf ∷ with_jump to c)
needed_one c i jt jf to other branches way far h = record { each = at }
  where
    all : List Insn
    all = with_offsets i jt jf ∷ with_jump to c

    at : (place : ℕ) (jump : Insn) → slice_get all place ≡ Some jump → jump.code ≡ JUMP → IsNeeded all place jump
    at zero jump g e = let same : with_offsets i jt jf ≡ jump = cc in absurd (other (ap (λ j. j.code) same ∙ e))
    at (suc zero) jump g e = led all (with_offsets i jt jf) (length c - to) 1 refl branches way (omega arith) jump g
    at (suc (suc place)) jump g e = jump_later (with_jump to c) _ (suc place) jump (jump_later c _ place jump (h.each place jump g e))

-- a test and a jump for each of its ways
needed_two : (c : List Insn) (i : Insn) (jt jf hit miss : ℕ) → i.code ≢ JUMP → is_branch (operation_of i.code) ≡ true → jt ≡ 0 → jf ≡ 1
    → MOST_OFFSET < length c + 1 - hit → MOST_OFFSET < length c + 1 - miss → JumpsAreNeeded c
    → JumpsAreNeeded (with_offsets i jt jf ∷ with_jump hit (with_jump miss c))
needed_two c i jt jf hit miss other branches zero_jt one_jf far_hit far_miss h = record { each = at }
  where
    all : List Insn
    all = with_offsets i jt jf ∷ with_jump hit (with_jump miss c)

    at : (place : ℕ) (jump : Insn) → slice_get all place ≡ Some jump → jump.code ≡ JUMP → IsNeeded all place jump
    at zero jump g e = let same : with_offsets i jt jf ≡ jump = cc in absurd (other (ap (λ j. j.code) same ∙ e))
    at (suc zero) jump g e = led all (with_offsets i jt jf) (length (with_jump miss c) - hit) 1 refl branches (inl (omega arith)) (omega arith) jump g
    at (suc (suc zero)) jump g e = led all (with_offsets i jt jf) (length c - miss) 2 refl branches (inr (omega arith)) (omega arith) jump g
    at (suc (suc (suc place))) jump g e = jump_later _ _ (suc (suc place)) jump
        (jump_later _ _ (suc place) jump (jump_later c _ place jump (h.each place jump g e)))

needed_test : (i : Insn) (hit miss : ℕ) (l : PlacedCode) → i.code ≢ JUMP → is_branch (operation_of i.code) ≡ true → JumpsAreNeeded l.code
    → (a b d : Bool) → d ≡ is_near l hit MOST_OFFSET → b ≡ is_near l miss (if d then MOST_OFFSET else MOST_OFFSET - 1)
    → a ≡ is_near (with_way b miss l) hit MOST_OFFSET → JumpsAreNeeded (with_test_by a b i hit miss l).code
needed_test i hit miss l other branches h true true d ed eb ea = needed_put l.code _ other h
needed_test i hit miss l other branches h false true d ed eb ea = grind (arith, nat_tests, needed_one)
needed_test i hit miss l other branches h true false true ed eb ea = grind (arith, nat_tests, needed_one)
needed_test i hit miss l other branches h true false false ed eb ea = absurd (grind (arith, nat_tests))
needed_test i hit miss l other branches h false false d ed eb ea = grind (arith, nat_tests, needed_two)

emitted_needed : (op : Option Operation) (i : Insn) (l : PlacedCode) → operation_of i.code ≡ op → i.code ≢ JUMP → JumpsAreNeeded l.code
    → JumpsAreNeeded (with_insn op i l).code
unfolding with_test
emitted_needed (Some (JumpIf t o)) i l e other h = needed_test i _ _ l other (ap is_branch e) h _ _ _ refl refl refl
emitted_needed (Some Jump) i l e other h = absurd (other (sym (back_of_code i.code Jump e)))
emitted_needed _ i l e other h = needed_put l.code _ other h

pub laid_needed : (wide : List Insn) → HasNoJump wide → JumpsAreNeeded (laid_out wide)
laid_needed [] none = record { each = λ place jump g e. cc }
laid_needed (i ∷ is) none =
    emitted_needed (operation_of i.code) i (placed_code is) refl (none 0 i (omega arith)) (laid_needed is (λ k d l. none (suc k) d (omega arith)))
