-- A run may go on where a walk ends instead of where it began; so threaded code returns the same, and keeps its
-- length, its tests and what breaks no rule.
use Rattle.std.proofs.Common.{◌≤◌, ◌++◌, take, append_assoc, ◌≡◌, ℕ, zero, suc, ◌+◌, ◌<◌, List, [], ◌∷◌, length, drop, Bool, true, false, Option, Some, None}
use Rattle.std.proofs.Common.{refl, sym, ap, ◌∙◌, subst, arith, if◌then◌else◌, slice_get, slice_set, bit_and, map, not, count_by, get_or, cond}
use Rattle.flt_short.proofs.Common.{answer_drop, operation_of, AluOperation, Operand, Test, nat_tests, Insn, State, Operation, LoadIndirect, Load}
use Rattle.flt_short.proofs.Common.{LoadHeaderLength, Compute, Jump, JumpIf, Immediate, Length, Constant, Held, IndexValue, Known, held_after, known_step, Spot}
use Rattle.flt_bpf.specs.Machine.{step, Next, Goes, does_if_known, operand_value, test_holds, start, does}
use Rattle.flt_short.specs.inside.Facts.{same_held, same_index, masked_held, load_of, known_after, IsThere, HeldHolds, Holds, HoldsAt, Learns, Arrives}
use Rattle.flt_short.specs.inside.Threads.{is_free_by, is_free, with_a, IsDecided, Passes, LeadsTo, Moves, Alike, IsThreaded, AreThreaded}
use Rattle.flt_short.proofs.Knowing.{same_indexes, same_holds, After, after, masks}
use Rattle.std.proofs.lemmas.List.{append-nil, drop_all, length-map, take_all, take_rest, take_more_set, drop-set-lt, Sums.sum_by-cons}
use Rattle.std.proofs.Math.{Seq.drop-cons, ListN.get_or-map}
use Rattle.flt_bpf.specs.declared.operation.{Register.TheVariants.Accumulator, Register.TheVariants.Index, Width.Width, Operation.TheVariants.LoadAbsolute}
use Rattle.flt_short.{proofs.Likeness.at_step, specs.Threads.Threads}
use Rattle.flt_bpf.specs.{Answer.answer_of, Answer.answer_after, Check.fault_of, Check.ends_in_return, Layout.is_branch, inside.Flow.goes_on_or_rejects}
use Rattle.flt_short.specs.declared.facts.Held.TheVariants as held

module _ (p : List ℕ) (n : ℕ) where
  -- an instruction that is free: what it does is the same with another A, or A stays
  free_both : (P : Next → Next → Type 0) (i : Insn) (s : State) (a : ℕ) (op : Option Operation) (rest : Bool) → ((u : Next) → P u u)
      → (rest ≡ true → (x : ℕ) (m : List ℕ) → P (Goes 0 (record { accumulator = a; index = x; memory = m }))
      (Goes 0 (record { accumulator = s.accumulator; index = x; memory = m }))) → is_free_by op rest ≡ true → P (does_if_known op i p n (with_a s a))
      (does_if_known op i p n s)
  free_both P i s a op rest same kept e = grind (arith, same, kept)

  -- what A holds doesn't matter before code that is free
  pub free_same : (c : List Insn) → is_free c ≡ true → (s : State) (a : ℕ) → answer_of c p n 0 (with_a s a) ≡ answer_of c p n 0 s
  free_same [] e s a = cc
  free_same (i ∷ is) e s a =
      ap (answer_after (answer_of is p n)) (known_step p n i (operation_of i.code) (with_a s a) refl)
      ∙ free_both (λ u v. answer_after (answer_of is p n) u ≡ answer_after (answer_of is p n) v) i s a (operation_of i.code) (is_free is) (λ u. refl)
      (λ f x m. free_same is f (record { accumulator = s.accumulator; index = x; memory = m }) a) e
      ∙ sym (ap (answer_after (answer_of is p n)) (known_step p n i (operation_of i.code) s refl))

-- what a walk passes
pub decides_bits : (k : Known) (h : Held) (m : ℕ) (none : Bool) → IsDecided k Test.Equal 0 (masked_held h m) none
    → IsDecided k Test.AnyBit m h (not none)
decides_bits k h m none decided p n s a holds x = ap not (decided p n s (bit_and a m) holds (masks p n h m (bit_and a m) (with_a s a) x refl))

pub passes_test : (k : Known) (i : Insn) (test : Test) (h : Held) (b : Bool) (far : ℕ) → operation_of i.code ≡ Some (JumpIf test Constant)
    → IsDecided k test i.k h b → (if b then i.jt else i.jf) ≡ far → Passes k i h far
passes_test k i test h b far o decided there p n s a holds x = (
  a,
  known_step p n i (Some (JumpIf test Constant)) (with_a s a) o ∙ ap (λ z. Goes (if z then i.jt else i.jf) (with_a s a))
      (decided p n s a holds x) ∙ ap (λ m. Goes m (with_a s a)) there,
)

pub passes_load : (k : Known) (i : Insn) (h : Held) (w : Width) → operation_of i.code ≡ Some (LoadAbsolute w)
    → ((p : List ℕ) (n : ℕ) (s : State) → Holds p n k s → IsThere p n (load_of i IndexValue.Unknown)) → Passes k i h 0
passes_load k i h w o there p n s a holds x = let t = there p n s holds in (t.0, grind (arith, t, known_step p n i _ (with_a s a) o))

pub passes_known_at : (k : Known) (i : Insn) (h : Held) (w : Width) → operation_of i.code ≡ Some (LoadIndirect w)
    → ((p : List ℕ) (n : ℕ) (s : State) → Holds p n k s → IsThere p n (load_of i k.index)) → Passes k i h 0
passes_known_at k i h w o there p n s a holds x = let t = there p n s holds in (t.0, grind (arith, t, known_step p n i _ (with_a s a) o))

pub passes_load_at : (k : Known) (i : Insn) (h : Held) (w : Width) → operation_of i.code ≡ Some (LoadIndirect w) → same_held (held.AtIndex i.code i.k)
    k.held ≡ true → Passes k i h 0
passes_load_at k i h w o e p n s a holds x = (s.accumulator, grind (arith, same_holds, known_step p n i _ (with_a s a) o))

pub passes_header : (k : Known) (i : Insn) (h : Held) → operation_of i.code ≡ Some LoadHeaderLength
    → same_index k.index (IndexValue.HeaderLength i.k) ≡ true → Passes k i h 0
passes_header k i h o e p n s a holds x = (a, grind (arith, same_indexes, known_step p n i _ (with_a s a) o))

pub passes_number : (k : Known) (i : Insn) (h : Held) → operation_of i.code ≡ Some (Load Index Immediate)
    → same_index k.index (IndexValue.Number i.k) ≡ true → Passes k i h 0
passes_number k i h o e p n s a holds x = (a, grind (arith, same_indexes, known_step p n i _ (with_a s a) o))

pub passes_length : (k : Known) (i : Insn) (h : Held) → operation_of i.code ≡ Some (Load Accumulator Length) → Passes k i h 0
passes_length k i h o p n s a holds x = (n, known_step p n i (Some (Load Accumulator Length)) (with_a s a) o)

pub passes_mask : (k : Known) (i : Insn) (h : Held) → operation_of i.code ≡ Some (Compute AluOperation.And Constant) → Passes k i h 0
passes_mask k i h o p n s a holds x = (bit_and a i.k, known_step p n i (Some (Compute AluOperation.And Constant)) (with_a s a) o)

-- what A holds after any instruction
held_next : (p : List ℕ) (n : ℕ) (k : Known) (s : State) → Holds p n k s → (op : Option Operation) (i : Insn) (h : Held) (a b far : ℕ)
    → operation_of i.code ≡ op → HeldHolds p n h (with_a s a) → does_if_known op i p n (with_a s a) ≡ Goes far (with_a s b)
    → HeldHolds p n (held_after op h k.index i) (with_a s b)
held_next p n k s holds op i h a b far o x e = (let known = holds.x in grind (arith, masks))

-- the answer from the spot after an instruction
stepped : (c : List Insn) (spot : Spot) (i : Insn) (p : List ℕ) (n a b far : ℕ) (s : State) → slice_get c spot.place ≡ Some i
    → step i p n (with_a s a) ≡ Goes far (with_a s b) → answer_of c p n spot.place (with_a s a) ≡ answer_of c p n (spot.place + 1 + far) (with_a s b)
stepped c spot i p n a b far s g e = at_step c p n spot.place i (with_a s a) g ∙ ap (answer_after (λ m v. answer_of c p n (spot.place + 1 + m) v)) e

-- a walk goes on after an instruction that it passes
pub walks_on : (k : Known) (c : List Insn) (spot : Spot) (best here far found : ℕ) (i : Insn) → slice_get c spot.place ≡ Some i
    → LeadsTo k c spot best here → Passes k i spot.held far
    → LeadsTo k c (record { place = spot.place + 1 + far; held = held_after (operation_of i.code) spot.held k.index i }) here found
    → LeadsTo k c spot best found
walks_on k c spot best here far found i g near passes later p n s a holds x e =
    let r = passes p n s a holds x in
    let so_far = near p n s a holds x e in
    let next = held_next p n k s holds (operation_of i.code) i spot.held a r.0 far refl x
    (sym (known_step p n i (operation_of i.code) (with_a s a) refl) ∙ r.1) in
    later p n s r.0 holds next (sym (stepped c spot i p n a r.0 far s g r.1) ∙ e ∙ sym so_far) ∙ so_far

-- or after both outcomes of a test
pub forks_on : (k : Known) (c : List Insn) (spot : Spot) (best here found : ℕ) (i : Insn) → slice_get c spot.place ≡ Some i
    → is_branch (operation_of i.code) ≡ true → LeadsTo k c spot best here → LeadsTo k c (record { place = spot.place + 1 + i.jt; held = spot.held })
    here found → LeadsTo k c (record { place = spot.place + 1 + i.jf; held = spot.held }) here found → LeadsTo k c spot best found
forks_on k c spot best here found i g branch near by_yes by_no p n s a holds x e = by (operation_of i.code) refl branch
  where
    by : (op : Option Operation) → operation_of i.code ≡ op → is_branch op ≡ true → answer_of c p n found s ≡ answer_of c p n best s
    by (Some (JumpIf t o)) d b = either (test_holds t a (operand_value o i.k s.index)) (known_step p n i (Some (JumpIf t o)) (with_a s a) d)
      where
        either : (z : Bool) → step i p n (with_a s a) ≡ Goes (if z then i.jt else i.jf) (with_a s a) → answer_of c p n found s ≡ answer_of c p n best s
        either z f = grind (arith, stepped)
    by _ d b = cc

-- A is as at the start of the walk, or doesn't matter
a_same : (p : List ℕ) (n : ℕ) (s : State) (g h : Held) (a : ℕ) → same_held g h ≡ true → HeldHolds p n g (with_a s a) → HeldHolds p n h s → a ≡ s.accumulator
a_same p n s g h a e x y = let z = same_holds p n g h s e y in grind arith

pub stops_same : (k : Known) (c : List Insn) (spot : Spot) (best : ℕ) → same_held spot.held k.held ≡ true → LeadsTo k c spot best spot.place
stops_same k c spot best same p n s a holds x e = sym (ap (λ m. answer_of c p n spot.place (with_a s m)) (a_same p n s spot.held k.held a same x holds.a)) ∙ e

pub stops_free : (k : Known) (c : List Insn) (spot : Spot) (best : ℕ) → is_free (drop spot.place c) ≡ true → LeadsTo k c spot best spot.place
stops_free k c spot best free p n s a holds x e =
    sym (answer_drop c p n spot.place s) ∙ sym (free_same p n (drop spot.place c) free s a) ∙ answer_drop c p n spot.place (with_a s a) ∙ e

pub ruleset stops = (stops_same, stops_free, take_rest)

-- a test with other targets inside the code
test_sound : (t : Test) (o : Operand) (i : Insn) (a b len : ℕ) → operation_of i.code ≡ Some (JumpIf t o) → (i.jt < len → a < len)
    → (i.jf < len → b < len) → fault_of i len ≡ None → fault_of (record i { jt = a; jf = b }) len ≡ None
unfolding fault_of
test_sound t o i a b len e to_yes to_no f = grind (arith, nat_tests)

-- an instruction that is threaded, of each kind
module _ (from : ℕ) (k : Known) (i : Insn) (is : List Insn) where
  -- whose step goes on so
  step_threaded : (op : Option Operation) (old seen : List Known) → operation_of i.code ≡ op
      → ((p : List ℕ) (n q : ℕ) (s : State) → HoldsAt p n old q s → HoldsAt p n seen q s)
      → ((d : List Insn) → Alike from seen d is → (p : List ℕ) (n : ℕ) (s : State) → Holds p n k s → answer_after (answer_of d p n)
      (does_if_known op i p n s) ≡ answer_after (answer_of is p n) (does_if_known op i p n s)) → IsThreaded from k i is i old seen
  step_threaded op old seen o keeps runs = record {
    code = refl;
    sound = λ f. f;
    keeps = keeps;
    runs = λ d alike p n s holds.
        ap (answer_after (answer_of d p n)) (known_step p n i op s o) ∙ runs d alike p n s holds
        ∙ sym (ap (answer_after (answer_of is p n)) (known_step p n i op s o));
  }

  pub jump_threaded : (old seen : List Known) → operation_of i.code ≡ Some Jump → Arrives k (from + i.k) old seen → IsThreaded from k i is i old seen
  jump_threaded old seen o comes = step_threaded (Some Jump) old seen o comes.keeps (λ d alike p n s holds. alike p n i.k s (comes.comes p n s holds))

  pub unknown_threaded : (seen : List Known) → operation_of i.code ≡ None → IsThreaded from k i is i seen seen
  unknown_threaded seen o = step_threaded None seen seen o (λ p n q s x. x) (λ d alike p n s holds. refl)

  pub return_threaded : (op : Operation) (seen : List Known) → operation_of i.code ≡ Some op → goes_on_or_rejects op ≡ false
      → ((t : Test) (o : Operand) → op ≡ JumpIf t o → ⊥) → (op ≡ Jump → ⊥) → IsThreaded from k i is i seen seen
  return_threaded op seen e none not_test not_jump = step_threaded (Some op) seen seen e (λ p n q s x. x) (λ d alike p n s holds. grind arith)

  pub plain_threaded : (op : Operation) (old seen : List Known) → operation_of i.code ≡ Some op → goes_on_or_rejects op ≡ true
      → Arrives (known_after (Some op) k i) from old seen → IsThreaded from k i is i old seen
  plain_threaded op old seen o e comes = step_threaded (Some op) old seen o comes.keeps
      (λ d alike p n s holds. by d alike p n (does op i p n s) (after p n op k i s o e holds))
    where
      by : (d : List Insn) → Alike from seen d is → (p : List ℕ) (n : ℕ) (u : Next) → After p n (known_after (Some op) k i) u
          → answer_after (answer_of d p n) u ≡ answer_after (answer_of is p n) u
      by d alike p n u h = grind arith

  pub test_threaded : (hit miss : Known) (old mid seen : List Known) (a b : ℕ) (t : Test) (o : Operand) → operation_of i.code ≡ Some (JumpIf t o)
      → Learns k i true hit → Learns k i false miss → Moves hit is i.jt a → Moves miss is i.jf b → Arrives hit (from + a) old mid
      → Arrives miss (from + b) mid seen → IsThreaded from k i is (record i { jt = a; jf = b }) old seen
  test_threaded hit miss old mid seen a b t o e learns_yes learns_no to_yes to_no first second = record {
    code = refl;
    sound = test_sound t o i a b (length is) e to_yes.inside to_no.inside;
    keeps = λ p n q s x. second.keeps p n q s (first.keeps p n q s x);
    runs = λ d alike p n s holds.
        ap (answer_after (answer_of d p n)) (known_step p n (record i { jt = a; jf = b }) (Some (JumpIf t o)) s e) ∙ way d alike p n s holds
        (test_holds t s.accumulator (operand_value o i.k s.index)) refl
        ∙ sym (ap (answer_after (answer_of is p n)) (known_step p n i (Some (JumpIf t o)) s e));
  }
    where
      way : (d : List Insn) → Alike from seen d is → (p : List ℕ) (n : ℕ) (s : State) → Holds p n k s → (z : Bool) → test_holds t s.accumulator
          (operand_value o i.k s.index) ≡ z → answer_of d p n (if z then a else b) s ≡ answer_of is p n (if z then i.jt else i.jf) s
      way d alike p n s holds z g = grind arith

abbrev pub codes_of : List Insn → List ℕ
codes_of is = map (λ i. i.code) is

-- in front of code that is threaded
pub threaded_front : (at : ℕ) (k : Known) (i j : Insn) (is d : List Insn) (old seen : List Known)
    → ((p : List ℕ) (n : ℕ) (s : State) → HoldsAt p n old at s → Holds p n k s) → IsThreaded (at + 1) k i is j old seen → AreThreaded (at + 1) seen d
    is → AreThreaded at old (j ∷ d) (i ∷ is)
threaded_front at k i j is d old seen there one rest = record {
  codes = (let head = one.code in let tail = rest.codes in cc);
  sound = λ f. (ap (fault_of j) same ∙ one.sound f.0, rest.sound f.1);
  runs = runs;
}
  where
    same : length d ≡ length is
    same = sym (length-map d (λ (x : Insn). x.code)) ∙ ap length rest.codes ∙ length-map is (λ (x : Insn). x.code)

    runs : Alike at old (j ∷ d) (i ∷ is)
    runs p n zero s x = let here : at + 0 ≡ at = omega arith in one.runs d rest.runs p n s (there p n s (subst (λ q. HoldsAt p n old q s) here x))
    runs p n (suc m) s x = let next : at + suc m ≡ at + 1 + m = omega arith in
        rest.runs p n m s (one.keeps p n (at + 1 + m) s (subst (λ q. HoldsAt p n old q s) next x))

-- the instructions before `at` are threaded already
abbrev pub ThreadedSoFar : List Known → List Insn → List Known → List Insn → ℕ → Type 0
ThreadedSoFar begin old seen new at = (d : List Insn) → AreThreaded at seen d (drop at new) → AreThreaded 0 begin (take at new ++ d) old

pub threaded_more : (begin : List Known) (old : List Insn) (before seen : List Known) (k : Known) (xs : List Insn) (at : ℕ) (e j : Insn)
    → at < length xs → ThreadedSoFar begin old before xs at → ((p : List ℕ) (n : ℕ) (s : State) → HoldsAt p n before at s → Holds p n k s)
    → IsThreaded (at + 1) k (get_or xs at e) (drop (at + 1) xs) j before seen → ThreadedSoFar begin old seen (slice_set xs at j) (at + 1)
threaded_more begin old before seen k xs at e j l so_far there one d rest =
    let left = subst (AreThreaded (at + 1) seen d) (drop-set-lt (at + 1) xs at j (omega arith)) rest in
    let next : suc at ≡ at + 1 = omega arith in
    let here : drop at xs ≡ get_or xs at e ∷ drop (at + 1) xs = drop-cons xs at e l ∙ ap (λ m. get_or xs at e ∷ drop m xs) next in
    let whole = so_far (j ∷ d) (subst (AreThreaded at before (j ∷ d)) (sym here) (threaded_front at k (get_or xs at e) j (drop (at + 1) xs) d before
    seen there one left)) in
    subst (λ new. AreThreaded 0 begin new old) (sym (ap (λ front. front ++ d) (take_more_set xs at j l) ∙ append_assoc (take at xs) (j ∷ []) d)) whole

pub threaded_all : (begin : List Known) (old : List Insn) (seen : List Known) (xs : List Insn) (at : ℕ) → length xs ≤ at → ThreadedSoFar begin old
    seen xs at → AreThreaded 0 begin xs old
threaded_all begin old seen xs at l so_far =
    let none : AreThreaded at seen [] [] = record { codes = refl; sound = λ f. tt; runs = λ p n m s x. refl } in
    subst (λ new. AreThreaded 0 begin new old) (append-nil (take at xs) ∙ take_all at xs l)
    (so_far [] (subst (AreThreaded at seen []) (sym (drop_all at xs l)) none))

-- what the codes of instructions decide
count_codes : (is : List Insn) → count_by (λ i. is_branch (operation_of i.code)) is ≡ count_by (λ (c : ℕ). is_branch (operation_of c)) (codes_of is)
count_codes [] = refl
count_codes (i ∷ is) =
    let test = λ (c : ℕ). cond (is_branch (operation_of c)) 1 0 in
    sum_by-cons (λ (m : Insn). test m.code) i is ∙ ap (λ m. test i.code + m) (count_codes is) ∙ sym (sum_by-cons test i.code (codes_of is))

ends : (new old : List Insn) → codes_of new ≡ codes_of old → ends_in_return new ≡ ends_in_return old
ends [] [] e = refl
ends (j ∷ []) (i ∷ []) e = let head : j.code ≡ i.code = cc in ap (λ c. ends_in_return (record i { code = c } ∷ [])) head
ends (j ∷ h ∷ new) (i ∷ g ∷ old) e = let tail : codes_of (h ∷ new) ≡ codes_of (g ∷ old) = cc in ends (h ∷ new) (g ∷ old) tail
ends _ _ e = cc

code_at : (new old : List Insn) (m : ℕ) (e : Insn) → codes_of new ≡ codes_of old → (get_or new m e).code ≡ (get_or old m e).code
code_at new old m e same = sym (get_or-map (λ (i : Insn). i.code) new m e) ∙ ap (λ cs. get_or cs m e.code) same ∙ get_or-map (λ (i : Insn). i.code) old m e

pub threads : (new old : List Insn) (seen : List Known) → ((p : List ℕ) (n : ℕ) (s : State) → HoldsAt p n seen 0 s) → AreThreaded 0 seen new old
    → Threads new old
threads new old seen begins t =
    let same : length new ≡ length old = sym (length-map new (λ (x : Insn). x.code)) ∙ ap length t.codes ∙ length-map old (λ (x : Insn). x.code) in
    record {
      same_length = same;
      branches = count_codes new ∙ ap (count_by (λ (c : ℕ). is_branch (operation_of c))) t.codes ∙ sym (count_codes old);
      sound = λ v. record { faultless = t.sound v.faultless; ends = ends new old t.codes ∙ v.ends };
      runs = λ p n. t.runs p n 0 start (begins p n start);
      no_jump = λ h m e l f. h m e (omega arith) (sym (code_at new old m e t.codes) ∙ f);
    }

-- code stays as it is
pub threads_itself : (c : List Insn) → Threads c c
threads_itself c = record { same_length = refl; branches = refl; sound = λ v. v; runs = λ p n. refl; no_jump = λ h. h }

-- what a walk passes, by its operation
pub ruleset walk_steps = (passes_load, passes_known_at, passes_load_at, passes_header, passes_number, passes_length, passes_mask)
