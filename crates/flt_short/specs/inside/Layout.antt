-- Wide code laid out as instructions, from its end to its beginning. A place is the number of
-- instructions from there to the end; `hit` and `miss` are the places where a test leads if it
-- holds and if it doesn't, and `c` is the code that is laid out so far.
use Rattle.std.specs.Prelude.{ℕ, ◌-◌, nat_le, nat_lt, Bool, ◌==◌, ◌&&◌, if◌then◌else◌, List, []}
use Rattle.std.specs.Prelude.{◌∷◌, length, take, replicate, slice_index, Option, Some}
use Rattle.flt_bpf.specs.{Instructions.operation_of, Layout.JUMP, Layout.MOST_OFFSET}
use Rattle.flt_bpf.specs.declared.{insn.Insn.Insn, operation.Operation.Operation}
use Rattle.flt_bpf.specs.declared.operation.Operation.TheVariants.{Jump, JumpIf}
use Rattle.flt_short.specs.declared.layout.PlacedJump.{PlacedJump}

-- what is laid out so far: the code, the place of each instruction of the wide code, from the first
-- to the last, and the four jumps that were laid out last, the last one first
pub record PlacedCode : Type 0 where
  pub code : List Insn
  pub places : List ℕ
  pub jumps : List PlacedJump

-- the place where a wide instruction leads that is laid out next and skips `further` ones; past the
-- last it is the end, 0
abbrev pub place_at : PlacedCode → ℕ → ℕ
place_at l further = slice_index l.places further

-- an instruction with these offsets instead of its own
abbrev pub with_offsets : Insn → ℕ → ℕ → Insn
with_offsets i jt jf = record { code = i.code; jt = jt; jf = jf; k = i.k }

-- code with a jump to a place put in front
abbrev pub with_jump : ℕ → List Insn → List Insn
with_jump to c = record { code = JUMP; jt = 0; jf = 0; k = length c - to } ∷ c

-- one more instruction in front
abbrev pub emitted : Insn → PlacedCode → PlacedCode
emitted i l = record l { code = i ∷ l.code }

-- a jump to a place in front, which is noted as the last one
abbrev pub with_noted_jump : ℕ → PlacedCode → PlacedCode
with_noted_jump to l =
    let c = with_jump to l.code in
    record l { code = c; jumps = record { place = length c; to = to } ∷ take 3 l.jumps }

-- the place of the first of these jumps that leads to a place and is near a test in front of `top`
-- instructions, though a jump comes between; the place itself if there is none
abbrev pub jump_near : List PlacedJump → ℕ → ℕ → ℕ
jump_near [] to top = to
jump_near (jump ∷ jumps) to top =
    if jump.to == to && nat_lt (top - jump.place) MOST_OFFSET then jump.place
    else jump_near jumps to top

-- the place to which a test that is put in front jumps to get to `to`: `to` itself if it is near, else
-- a jump that leads there, if one exists
unfoldable pub near_place : PlacedCode → ℕ → ℕ
near_place l to =
    if nat_le (length l.code - to) MOST_OFFSET then to else jump_near l.jumps to (length l.code)

-- an instruction in front gets to a place by an offset of at most this
abbrev pub is_near : PlacedCode → ℕ → ℕ → Bool
is_near l to most = nat_le (length l.code - to) most

-- the way from a test in front to a place: a jump is put between, unless the place is near; and the
-- place where the test goes on
abbrev pub with_way : Bool → ℕ → PlacedCode → PlacedCode
with_way near to l = if near then l else with_noted_jump to l

abbrev pub way : Bool → ℕ → PlacedCode → ℕ
way near to l = if near then to else length (with_noted_jump to l).code

-- a test in front that goes on at one of two places, of which these are near
abbrev pub with_test_by : Bool → Bool → Insn → ℕ → ℕ → PlacedCode → PlacedCode
with_test_by yes_near no_near i hit miss l =
    let between = with_way no_near miss l in
    let c = with_way yes_near hit between in
    let offset = λ (place : ℕ). length c.code - place in
    emitted (with_offsets i (offset (way yes_near hit between)) (offset (way no_near miss l))) c

-- the same with as few jumps as possible: one for a place makes the other one farther by one
unfoldable pub with_test : Insn → ℕ → ℕ → PlacedCode → PlacedCode
with_test i hit miss l =
    let most = if is_near l hit MOST_OFFSET then MOST_OFFSET else MOST_OFFSET - 1 in
    let near = is_near l miss most in
    with_test_by (is_near (with_way near miss l) hit MOST_OFFSET) near i hit miss l

-- a wide instruction, which has this operation, laid out in front
abbrev pub with_insn : Option Operation → Insn → PlacedCode → PlacedCode
with_insn (Some (JumpIf test operand)) i l =
    with_test i (near_place l (place_at l i.jt)) (near_place l (place_at l i.jf)) l
with_insn (Some Jump) i l = with_noted_jump (place_at l i.k) l
with_insn _ i l = emitted (with_offsets i 0 0) l

-- one more wide instruction laid out in front, with its place noted: the beginning of the code
abbrev pub put : Insn → PlacedCode → PlacedCode
put i l =
    let m = with_insn (operation_of i.code) i l in
    record m { places = length m.code ∷ m.places }

-- wide code, laid out from its last instruction to its first
abbrev pub placed_code : List Insn → PlacedCode
placed_code [] =
    record { code = []; places = []; jumps = replicate 4 (record { place = 0; to = 0 }) }
placed_code (i ∷ is) = put i (placed_code is)

-- the instructions that wide code is once it is laid out
abbrev pub laid_out : List Insn → List Insn
laid_out wide = (placed_code wide).code
