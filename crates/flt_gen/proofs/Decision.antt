-- A decision tree, unfolded once, and the tests of a case from a word on.
use Rattle.std.proofs.Common.{◌≡◌, ℕ, ◌+◌, ◌-◌, ◌<◌, List, [], ◌∷◌, drop, take, get_or, length, Bool, true, false, Option, Some, refl, ap, ◌∙◌, sym, arith, ◌≤◌}
use Rattle.std.proofs.{Common.◌⊎◌, lemmas.Bool.Decides.nat_tests}
use Rattle.std.specs.{Prelude.is_none, Prelude.if◌then◌else◌, Prelude.Result, declared.alloc.AllocError.AllocError}
use Rattle.flt_gen.specs.Formula.{Formula, Single, Both, Split, all_of, guarded_formula}
use Rattle.flt_gen.specs.declared.{cases.Bound.TheVariants.Exactly, cases.Case.Case, elementary.Elementary.Elementary, elementary.FieldPlace.FieldPlace}
use Rattle.flt_gen.specs.inside.Cases.{chain, decided, decision, all_keep, is_parted, middle, test_at, lowest, from_test, same_word}
use Rattle.flt_gen.specs.inside.{Emitted.needed_tests, Code.Block, Code.emit_all, Code.emit_elementary, Code.emit_after, Code.emit_formula, Emits.Emits}
use Rattle.flt_bpf.specs.declared.insn.Insn.{Insn}
use Rattle.cap_octet.specs.declared.link.Link.{Link}

decision_put : (few k : ℕ) (tests : Case → List Elementary) (word : ℕ) (cs : List Case) → 0 < k → decision few k tests word cs ≡ decided few
    (decision few (k - 1) tests) tests word cs
unfolding decision
decision_put few k tests word cs l = grind arith

pub decision_chain : (few k : ℕ) (tests : Case → List Elementary) (word : ℕ) (cs : List Case) → (k ≡ 0) ⊎ (length cs ≤ few)
    → decision few k tests word cs ≡ chain tests word cs
unfolding decision
decision_chain few k tests word cs h = grind (arith, nat_tests)

-- the code of tests, of which all hold
pub all_emitted : (link : Link) (ts : List Elementary) (hit miss : ℕ) (c : List Insn) → emit_formula link (all_of ts) hit miss c ≡ emit_all ts hit miss c
all_emitted link [] hit miss c = refl
all_emitted link (t ∷ []) hit miss c = refl
all_emitted link (t ∷ u ∷ ts) hit miss c = ap (λ (e : Block). emit_elementary t e.entry miss e.code) (all_emitted link (u ∷ ts) hit miss c)

-- the code of tests and of a formula after them
pub guarded_emitted : (link : Link) (ts : List Elementary) (f : Formula) (hit miss : ℕ) (c : List Insn) → emit_formula link (guarded_formula ts f) hit
    miss c ≡ (let e = emit_formula link f hit miss c in emit_all ts e.entry miss e.code)
guarded_emitted link [] f hit miss c = refl
guarded_emitted link (t ∷ ts) f hit miss c = ap (λ (e : Block). emit_elementary t e.entry miss e.code) (guarded_emitted link ts f hit miss c)

-- a test that stands alone, and one case after the other, are emitted alike after each test
all_after : (held : Option FieldPlace) (link : Link) (ts : List Elementary) (hit miss : ℕ) (c : List Insn) → emit_after held link (all_of ts) hit miss c
    ≡ emit_formula link (all_of ts) hit miss c
all_after held link [] hit miss c = refl
all_after held link (t ∷ []) hit miss c = refl
all_after held link (t ∷ u ∷ ts) hit miss c = refl

pub chain_after : (held : Option FieldPlace) (link : Link) (tests : Case → List Elementary) (word : ℕ) (cs : List Case) (hit miss : ℕ) (c : List Insn)
    → emit_after held link (chain tests word cs) hit miss c ≡ emit_formula link (chain tests word cs) hit miss c
chain_after held link tests word [] hit miss c = refl
chain_after held link tests word (d ∷ []) hit miss c = all_after held link (needed_tests (drop word (tests d))) hit miss c
chain_after held link tests word (d ∷ x ∷ xs) hit miss c = refl

pub turn_emitted : (r : Result ℕ AllocError) (new : List Insn) (link : Link) (tests : Case → List Elementary) (word : ℕ) (cs : List Case)
    (other : Case) (hit miss : ℕ) (c : List Insn) (e : Block) → 1 ≤ length cs → emit_formula link (chain tests word (drop 1 cs)) hit miss c ≡ e
    → Emits r (emit_all (needed_tests (drop word (tests (get_or cs 0 other)))) hit e.entry e.code) new
    → Emits r (emit_formula link (chain tests word cs) hit miss c) new
turn_emitted r new link tests word cs other hit miss c e l is done = grind (arith, all_emitted)

-- the parts of a decision
module _ (few k : ℕ) (by : Case → List Elementary) (w : ℕ) (cs : List Case) (some : 0 < k) (many : few < length cs) where
  abbrev t : Option Elementary
  t = test_at by w cs 0

  abbrev next : ℕ → List Case → Formula
  next = decision few (k - 1) by

  abbrev parts : Bool → Bool → Formula
  parts same parted =
      if same then same_word t (test_at by (w + 1) cs 0) (next (w + 1) cs) else (if parted
      then Split (from_test t (lowest (test_at by w cs (middle by w cs)))) (next w (drop (middle by w cs) cs)) (next w (take (middle by w cs) cs))
      else chain by w cs)

  put : decision few k by w cs ≡ parts (all_keep by w (Exactly (lowest t)) cs) (is_parted by w cs (middle by w cs))
  put = grind (arith, decision_put, nat_tests)

  pub decision_same : (o : Option Elementary) → o ≡ t → true ≡ all_keep by w (Exactly (lowest o)) cs → same_word o (test_at by (w + 1) cs 0)
      (next (w + 1) cs) ≡ decision few k by w cs
  decision_same o e a = grind (arith, put)

  pub decision_told : (o : Elementary) (b : Bool) → Some o ≡ t → is_none (test_at by (w + 1) cs 0) ≡ b
      → true ≡ all_keep by w (Exactly (lowest (Some o))) cs → (if b then Single o else Both (Single o) (next (w + 1) cs)) ≡ decision few k by w cs
  decision_told o b e n a = ap (λ c. if c then Single o else Both (Single o) (next (w + 1) cs)) (sym n) ∙ decision_same (Some o) e a

  pub decision_halves : (o : Option Elementary) (at : ℕ) (b : Bool) → o ≡ t → at ≡ middle by w cs → false ≡ all_keep by w (Exactly (lowest o)) cs
      → b ≡ is_parted by w cs at → (if b then Split (from_test o (lowest (test_at by w cs at))) (next w (drop at cs)) (next w (take at cs)) else chain
      by w cs) ≡ decision few k by w cs
  decision_halves o at b e f a g = grind (arith, put)
