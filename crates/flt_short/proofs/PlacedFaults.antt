-- Code without a fault is laid out as code without one.
use Rattle.flt_bpf.specs.Check.{fault_of, ends_in_return, unless, fault_if_known, is_return, IsFaultless, IsValidUnlessLong}
use Rattle.flt_short.proofs.Common.{nat_tests, Insn, Operation, Jump, JumpIf, placed_code, Test, Operand, Load, Compute, Memory, Constant}
use Rattle.std.proofs.Common.{◌≡◌, ℕ, ◌<◌, ◌≤◌, List, [], ◌∷◌, length, true, Option, Some, refl, arith, Bool, ap, ◌∙◌, ◌&&◌, nat_lt, None}
use Rattle.flt_short.specs.inside.Layout.{PlacedCode, with_offsets, with_test_by, with_insn, laid_out, with_jump, with_way, with_test}
use Rattle.flt_short.proofs.PlacedSizes.{at_least, at_most, laid_needed, short_stays}
use Rattle.flt_short.proofs.Placed.{same_answers, Lays, emitted_more, lays, near, test_leads, way_more}
use Rattle.flt_bpf.{proofs.Suffix.valid_if_short, specs.declared.fault.CheckFault.TheVariants.JumpOut}
use Rattle.flt_bpf.specs.Instructions.{operation_of}

jump_sound : (to : ℕ) (c : List Insn) → 0 < to → to ≤ length c → IsFaultless c → IsFaultless (with_jump to c)
unfolding fault_of operation_of
jump_sound to c some within sound = grind (arith, nat_tests)

test_sound : (i : Insn) (t : Test) (o : Operand) (jt jf : ℕ) (c : List Insn) → operation_of i.code ≡ Some (JumpIf t o) → jt < length c → jf < length c
    → IsFaultless c → IsFaultless (with_offsets i jt jf ∷ c)
unfolding fault_of
test_sound i t o jt jf c e yes_in no_in sound = (grind (arith, nat_tests), sound)

way_sound : (near : Bool) (to : ℕ) (l : PlacedCode) → 0 < to → to ≤ length l.code → IsFaultless l.code → IsFaultless (with_way near to l).code
way_sound near to l some within sound = grind (arith, jump_sound)

reached_sound : (a b : Bool) (i : Insn) (t : Test) (o : Operand) (hit miss : ℕ) (l : PlacedCode) → operation_of i.code ≡ Some (JumpIf t o) → 0 < hit
    → hit ≤ length l.code → 0 < miss → miss ≤ length l.code → IsFaultless l.code → IsFaultless (with_test_by a b i hit miss l).code
reached_sound a b i t o hit miss l e some_hit hit_in some_miss miss_in sound = grind (arith, test_leads, test_sound, way_sound, way_more)

plain_sound : (op : Option Operation) (i : Insn) (c : List Insn) → operation_of i.code ≡ op → fault_if_known op (with_offsets i 0 0) (length c) ≡ None
    → IsFaultless c → IsFaultless (with_offsets i 0 0 ∷ c)
unfolding fault_of
plain_sound op i c e none sound = (ap (λ o. fault_if_known o (with_offsets i 0 0) (length c)) e ∙ none, sound)

within_if : (k following : ℕ) → unless (nat_lt k following) JumpOut ≡ None → k < following
within_if k following e = grind (arith, nat_tests)

emitted_sound : (op : Option Operation) (i : Insn) (l : PlacedCode) (is : List Insn) → operation_of i.code ≡ op → fault_if_known op i (length is) ≡
    None → Lays l is → IsFaultless l.code → IsFaultless (with_insn op i l).code
unfolding with_test
emitted_sound None i l is e none h sound = cc
emitted_sound (Some (Load register Memory)) i l is e none h sound = plain_sound _ i l.code e none sound
emitted_sound (Some (Compute operator Constant)) i l is e none h sound = plain_sound _ i l.code e none sound
emitted_sound (Some Jump) i l is e none h sound = jump_sound _ l.code (h.some i.k (within_if i.k (length is) none)) (h.inside i.k) sound
emitted_sound (Some (JumpIf t o)) i l is e none h sound = inside (nat_lt i.jt (length is)) (nat_lt i.jf (length is)) refl refl none
  where
    inside : (a b : _) → a ≡ nat_lt i.jt (length is) → b ≡ nat_lt i.jf (length is) → unless (a && b) JumpOut ≡ None
        → IsFaultless (with_insn (Some (JumpIf t o)) i l).code
    inside true true ea eb none' =
        let yes_in : i.jt < length is = grind (arith, nat_tests) in
        let no_in : i.jf < length is = grind (arith, nat_tests) in
        let hit = near h i.jt in
        let miss = near h i.jf in
        reached_sound _ _ i t o _ _ l e (hit.some (h.some i.jt yes_in)) hit.within (miss.some (h.some i.jf no_in)) miss.within sound
    inside _ _ ea eb none' = cc
emitted_sound _ i l is e none h sound = plain_sound _ i l.code e none sound

faultless_laid : (wide : List Insn) → IsFaultless wide → IsFaultless (laid_out wide)
unfolding fault_of
faultless_laid [] h = tt
faultless_laid (i ∷ is) h =
    emitted_sound (operation_of i.code) i (placed_code is) is refl h.0 (lays is) (faultless_laid is h.1)

-- the end of code
last_end : (op : Option Operation) (i : Insn) → operation_of i.code ≡ op → is_return op ≡ true → ends_in_return (with_insn op i (placed_code [])).code ≡ true
last_end op i e r = grind arith

ends_laid : (wide : List Insn) → ends_in_return wide ≡ true → ends_in_return (laid_out wide) ≡ true
ends_laid [] e = e
ends_laid (i ∷ []) e = last_end (operation_of i.code) i refl e
ends_laid (i ∷ j ∷ is) e =
    (emitted_more (operation_of i.code) i (placed_code (j ∷ is))).ends (omega (arith, at_least (j ∷ is))) ∙ ends_laid (j ∷ is) e

pub sound_laid : (wide : List Insn) → IsValidUnlessLong wide → IsValidUnlessLong (laid_out wide)
sound_laid wide h = record { faultless = faultless_laid wide h.faultless; ends = ends_laid wide h.ends }

-- what holds of wide code that is laid out
pub ruleset placed_rules = (same_answers, at_least, at_most, laid_needed, short_stays, sound_laid, valid_if_short)
