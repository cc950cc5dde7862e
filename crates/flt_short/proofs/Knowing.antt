-- What is known holds of the packet and of the registers.
use Rattle.std.proofs.Common.{◌<◌, All, get_or, take, ◌≡◌, ℕ, zero, suc, ◌+◌, ◌≤◌, List, [], ◌∷◌, length, true, false, Option, Some, sym, ◌∙◌, subst, arith}
use Rattle.std.proofs.Common.{◌⊎◌, inl, inr, ◌==◌, if◌then◌else◌, slice_set, bit_and, not, Bool}
use Rattle.flt_short.proofs.Common.{All-set, operation_of, AluOperation, nat_tests, State, Operation, Insn, Held, IndexValue, Known, Test, JumpIf, Constant}
use Rattle.flt_bpf.specs.Machine.{field, Next, Goes, does, compute}
use Rattle.flt_bpf.specs.inside.Flow.{goes_on_or_rejects}
use Rattle.flt_short.specs.inside.Facts.{same_index, same_load, same_field, claims_nothing, allows, Implies, same_held, common_index, holds_field, known_after}
use Rattle.flt_short.specs.inside.Facts.{masked_held, loaded, masked, value_of, IsThere, is_said, Says, HeldHolds, IndexHolds, Holds, LearnsEqual, Learns}
use Rattle.flt_short.specs.inside.Facts.{JoinsBy, JoinsFact, JoinsFacts, Arrives}
use Rattle.flt_short.specs.declared.facts.{Fact.Fact, Field.Field, Claim.Claim}
use Rattle.std.proofs.lemmas.List.{take_more_set, take_all, Elements.All-push}
use Rattle.flt_short.specs.declared.facts.Held.TheVariants as held

-- claims
pub numbers : (a b : ℕ) → (a == b) ≡ true → a ≡ b
numbers a b e = grind (arith, nat_tests)

pub same_number : (v b : ℕ) → v ≡ b → (v == b) ≡ true
same_number v b e = grind (arith, nat_tests)

pub same_indexes : (x y : IndexValue) → same_index x y ≡ true → x ≡ y
same_indexes x y e = grind (arith, nat_tests)

same_loaded : (p : List ℕ) (n : ℕ) (f g : Field) → same_load f g ≡ true → loaded (operation_of f.code) p n f.index f.k ≡ loaded (operation_of g.code)
    p n g.index g.k
same_loaded p n f g e = grind (arith, nat_tests, same_indexes)

pub same_value : (p : List ℕ) (n : ℕ) (f g : Field) → same_field f g ≡ true → value_of p n f ≡ value_of p n g
same_value p n f g e = grind (arith, nat_tests, same_loaded)

-- what a fact claims of its field
pub claimed : (p : List ℕ) (n : ℕ) (x : Fact) (f : Field) (number : ℕ) → same_field x.field f ≡ true → Says p n x → value_of p n f ≡ Some number
    → allows x.claim number ≡ true
claimed p n x f number same h is = grind (arith, same_value)

implied : (c d : Claim) (o : Option ℕ) → Implies c d → is_said c o ≡ true → is_said d o ≡ true
implied c d o i h = grind arith

-- facts where two ways meet
pub joined_one : (x : Fact) (ys : List Fact) (k : ℕ) (d : Fact) (claim : Claim) → k < length ys → same_field x.field (get_or ys k d).field ≡ true
    → Implies x.claim claim × Implies (get_or ys k d).claim claim → JoinsFact x ys (record { field = x.field; claim = claim })
joined_one x ys k d claim l same joins p n (inl h) = implied x.claim claim (value_of p n x.field) joins.0 h
joined_one x ys k d claim l same joins p n (inr h) = grind (arith, implied, joins, same_value)

said_nothing : (o : Option ℕ) → is_said Claim.Nothing o ≡ true
said_nothing o = grind arith

-- nothing is claimed
pub joined_none : (x : Fact) (ys : List Fact) → JoinsFact x ys (record { field = x.field; claim = Claim.Nothing })
joined_none x ys p n h = said_nothing (value_of p n x.field)

-- some of the facts xs, those before `at`, are joined with ys already
abbrev pub JoinedSoFar : List Fact → List Fact → List Fact → ℕ → Type 0
JoinedSoFar first ys xs at = (p : List ℕ) (n : ℕ) → (All (Says p n) first → All (Says p n) xs) × (All (Says p n) ys → All (Says p n) (take at xs))

pub joined_more : (first ys xs : List Fact) (at : ℕ) (d v : Fact) → at < length xs → JoinedSoFar first ys xs at → JoinsFact (get_or xs at d) ys v
    → JoinedSoFar first ys (slice_set xs at v) (at + 1)
joined_more first ys xs at d v l h joins p n = (
  λ f. let now = (h p n).0 f in All-set (Says p n) xs at v (joins p n (inl (now at d l))) now,
  λ f. subst (All (Says p n)) (sym (take_more_set xs at v l)) (All-push (Says p n) (take at xs) v ((h p n).1 f) (joins p n (inr f))),
)

pub joined_all : (first ys xs : List Fact) (at : ℕ) → length xs ≤ at → JoinedSoFar first ys xs at → JoinsFacts first ys xs
joined_all first ys xs at l h p n (inl f) = (h p n).0 f
joined_all first ys xs at l h p n (inr f) = subst (All (Says p n)) (take_all at xs l) ((h p n).1 f)

held_there : (mask o : Option ℕ) (a : ℕ) → masked mask o ≡ Some a → (v : ℕ) × (o ≡ Some v)
held_there mask o a e = grind arith

module _ (p : List ℕ) (len : ℕ) where
  there_of : (f g : Field) (v : ℕ) → value_of p len f ≡ Some v → same_load f g ≡ true → IsThere p len g
  there_of f g v is same =
      let t = held_there f.mask (loaded (operation_of f.code) p len f.index f.k) v is in
      (t.0, sym (same_loaded p len f g same) ∙ t.1)

  pub there_by : (x : Fact) (g : Field) → Says p len x → same_load x.field g ≡ true → claims_nothing x.claim ≡ false → IsThere p len g
  there_by x g h same e = grind (arith, there_of)

  pub field_there : (h : Held) (g : Field) (s : State) → HeldHolds p len h s → holds_field h g ≡ true → IsThere p len g
  field_there h g s x e = grind (arith, there_of)

  -- A and X
  pub same_holds : (g h : Held) (s : State) → same_held g h ≡ true → HeldHolds p len h s → HeldHolds p len g s
  same_holds g h s e x = grind (arith, nat_tests, same_value)

  joins_held : (one other : Held) (s : State) → HeldHolds p len one s ⊎ HeldHolds p len other s
      → HeldHolds p len (if same_held one other then one else held.Unknown) s
  joins_held one other s h = grind (arith, same_holds)

  joins_index : (a b : IndexValue) (n : ℕ) → IndexHolds p a n ⊎ IndexHolds p b n → IndexHolds p (common_index a b) n
  joins_index a b n h = grind (arith, same_indexes)

  joins_by : (h : Held) (k came new : Known) (s : State) → JoinsBy h k came new → (HeldHolds p len h s × Holds p len k s) ⊎ Holds p len came s
      → Holds p len new s
  joins_by held.Unreached k came new s e d = elim d [ inl x ↦ absurd x.0 | inr y ↦ subst (λ z. Holds p len z s) (sym e) y ]
  joins_by h k came new s e d = record {
    a = subst (λ z. HeldHolds p len z s) (sym e.0) (joins_held h came.held s (elim d [ inl x ↦ inl x.0 | inr y ↦ inr y.a ]));
    x = subst (λ z. IndexHolds p z s.index) (sym e.1) (joins_index k.index came.index s.index (elim d [ inl x ↦ inl x.1.x | inr y ↦ inr y.x ]));
    facts = e.2 p len (elim d [ inl x ↦ inl x.1.facts | inr y ↦ inr y.facts ]);
  }

  -- what is known where two ways meet holds on both
  joins : (k came new : Known) (s : State) → JoinsBy k.held k came new → Holds p len k s ⊎ Holds p len came s → Holds p len new s
  joins k came new s e d = joins_by k.held k came new s e (elim d [ inl y ↦ inl (y.a, y) | inr y ↦ inr y ])

  -- what is known after an instruction that is neither a jump nor a return holds, if the run goes on
  abbrev pub After : Known → Next → Type 0
  After k (Goes far t) = (far ≡ 0) × Holds p len k t
  After k _ = Unit {0}

  pub masks : (h : Held) (m v : ℕ) (s : State) → HeldHolds p len h s → compute AluOperation.And s.accumulator m ≡ Some v
      → HeldHolds p len (masked_held h m) (record s { accumulator = v })
  masks h m v s x e = grind arith

  pub after : (op : Operation) (k : Known) (i : Insn) (s : State) → operation_of i.code ≡ Some op → goes_on_or_rejects op ≡ true → Holds p len k s
      → After (known_after (Some op) k i) (does op i p len s)
  after op k i s e f y = grind (arith, masks)

-- a run that comes to a place with more known
pub arrives : (seen : List Known) (place : ℕ) (k d new : Known) → place < length seen → JoinsBy (get_or seen place d).held (get_or seen place d) k new
    → Arrives k place seen (slice_set seen place new)
arrives [] place k d new l j = absurd (omega arith)
arrives (h ∷ seen) zero k d new l j = grind (arith, joins)
arrives (h ∷ seen) (suc place) k d new l j = grind (arith, arrives seen place k d new (omega arith) j)

pub arrives_nowhere : (seen : List Known) (place : ℕ) (k : Known) → length seen ≤ place → Arrives k place seen seen
arrives_nowhere [] place k l = record { keeps = λ p n q s x. x; comes = λ p n s y. tt }
arrives_nowhere (h ∷ seen) zero k l = absurd (omega arith)
arrives_nowhere (h ∷ seen) (suc place) k l = record { keeps = λ p n q s x. x; comes = (arrives_nowhere seen place k (omega arith)).comes }

-- what the outcome of a test shows of the field that A holds
pub learns_equal : (k : Known) (i : Insn) (f : Field) (outcome : Bool) (new : Known) → operation_of i.code ≡ Some (JumpIf Test.Equal Constant)
    → k.held ≡ held.Field f → LearnsEqual k f i.k outcome new → Learns k i outcome new
learns_equal k i f outcome new o is learned p n s test operand e t h = grind (arith, learned p n s.accumulator s)

pub learns_bits : (k : Known) (i : Insn) (f : Field) (outcome : Bool) (new : Known) → operation_of i.code ≡ Some (JumpIf Test.AnyBit Constant)
    → masked_held k.held i.k ≡ held.Field f → LearnsEqual k f 0 (not outcome) new → Learns k i outcome new
learns_bits k i f outcome new o is learned p n s test operand e t h = grind (arith, masks, learned p n (bit_and s.accumulator i.k) s)
