-- Last bits that don't decide which numbers are in intervals, and networks as intervals.
use Rattle.flt_gen.proofs.Common.{◌≡◌, ℕ, zero, suc, ◌+◌, ◌-◌, ◌*◌, ◌/◌, ◌%◌, ◌^◌, ◌<◌, ◌≤◌, List, [], ◌∷◌, map, Bool, true, false, Some, None, refl, sym, ap}
use Rattle.flt_gen.proofs.Common.{ap₂, ◌∙◌, arith, ◌==◌, ◌&&◌, ◌||◌, nat_le, bit_and, if◌then◌else◌, div-mul-le_self, lt-div-mul-add, le-div_iff_mul-le}
use Rattle.flt_gen.proofs.Common.{mul-le-mul_right, pow-succ', suc-mul, nat_tests, and_parts, and_le_r, pow_pos, first_bits, under_mask, Interval, partial_mask}
use Rattle.flt_gen.proofs.{Common.is_aligned, Common.idle_bits, Common.left_out, Common.high_mask, Common.cut, Common.interval, Runs.one_number}
use Rattle.flt_gen.proofs.Ascending.{if_case, Apart, apart_less, is_in, is_within}
use Rattle.std.{specs.Int.Bits.and_zero_r, specs.List.list_all, proofs.Common.pow_mono}
use Rattle.std.proofs.{Math.Nat.div-lt_iff_lt-mul, Math.Nat.div-add-mod, Math.Nat.mod-eq_of_lt, lemmas.Nat.and_mask, lemmas.Nat.Bits.and_high_mask}

-- of blocks of numbers, each as long as the last ones are J, a number is in some exactly where the first of its own is
blocks_in : (x a b J : ℕ) → 0 < J → (nat_le (a * J) (x / J * J) && nat_le (x / J * J) (b * J)) ≡ (nat_le (a * J) x && nat_le x (b * J + (J - 1)))
blocks_in x a b J some =
    let under : x / J * J ≤ x = div-mul-le_self x J in let near : x < x / J * J + J = lt-div-mul-add some in
    let from : a * J ≤ x → a * J ≤ x / J * J = λ l. mul-le-mul_right J ((le-div_iff_mul-le some).1 l) in
    let upto : x ≤ b * J + (J - 1) → x / J * J ≤ b * J = λ l. mul-le-mul_right J (let m = suc-mul b J in let below : x / J < suc b =
    (div-lt_iff_lt-mul some).1 (omega arith) in omega arith) in
    grind (arith, nat_tests)

-- numbers that begin and end with a block
record Blocks (k : ℕ) (i : Interval) : Type 0 where
  low_is : i.low ≡ i.low / 2 ^ k * 2 ^ k
  high_is : i.high ≡ i.high / 2 ^ k * 2 ^ k + (2 ^ k - 1)

whole : (n J r : ℕ) → n % J ≡ r → n ≡ n / J * J + r
whole n J r e = let all : J * (n / J) + n % J ≡ n = div-add-mod n J in let turned : J * (n / J) ≡ n / J * J = omega arith in omega arith

blocks_of : (k : ℕ) (i : Interval) → is_aligned (2 ^ k - 1) i ≡ true → Blocks k i
blocks_of k i e = grind (arith, nat_tests, whole, and_mask)

block_order : (k : ℕ) (i : Interval) → Blocks k i → i.low ≤ i.high → i.low ≤ i.high - (2 ^ k - 1)
block_order k i h l = grind (arith, pow_pos, le-div_iff_mul-le, mul-le-mul_right)

-- last bits that don't decide
pub record Idle (last : ℕ) (first : Interval) (is : List Interval) : Type 0 where
  pub bits : ℕ
  pub few : bits ≤ 31
  pub last_is : last ≡ 2 ^ bits - 1
  pub first_aligned : is_aligned last first ≡ true
  pub all_aligned : list_all (is_aligned last) is ≡ true

zero_aligned : (i : Interval) → is_aligned 0 i ≡ true
zero_aligned i = ap₂ (λ a b. (a == 0) && (b == 0)) (and_zero_r i.low) (and_zero_r i.high)

idle_none : (first : Interval) (is : List Interval) → Idle 0 first is
idle_none first is = record { bits = 0; few = omega arith; last_is = refl; first_aligned = zero_aligned first; all_aligned = all is }
  where
    all : (is : List Interval) → list_all (is_aligned 0) is ≡ true
    all [] = refl
    all (i ∷ is) = ap₂ (λ a b. a && b) (zero_aligned i) (all is)

idle_by : (k : ℕ) (first : Interval) (is : List Interval) → k ≤ 31 → Idle (idle_bits k first is) first is
idle_by zero first is l = idle_none first is
idle_by (suc k) first is l = grind (arith, idle_by k first is (omega arith))

pub idle_sought : (b : Bool) (first : Interval) (is : List Interval) → Idle (left_out b first is) first is
idle_sought false first is = idle_none first is
idle_sought true first is = if_case (λ last. Idle last first is) _ (idle_bits 31 first is) 0 (λ e. idle_by 31 first is (omega arith)) (λ e. idle_none first is)

-- a number that fits its field, if bits are left out
abbrev pub Small : ℕ → ℕ → Type 0
Small last x = 0 < last → x < 2 ^ 32

masked_is : (k x : ℕ) → k ≤ 32 → (0 < 2 ^ k - 1 → x < 2 ^ 32) → under_mask (high_mask (2 ^ k - 1)) x ≡ x / 2 ^ k * 2 ^ k
masked_is zero x l s = omega arith
masked_is (suc k) x l s =
    let one = pow_pos k in let two : 2 ^ suc k ≡ 2 * 2 ^ k = pow-succ' 2 k in let some : (2 ^ suc k - 1 == 0) ≡ false = grind (arith, nat_tests) in
    let same : 2 ^ 32 - 1 - (2 ^ suc k - 1) ≡ 2 ^ 32 - 2 ^ suc k = omega arith in
    ap (λ b. under_mask (if b then None else Some (2 ^ 32 - 1 - (2 ^ suc k - 1))) x) some ∙ ap (bit_and x) same
    ∙ and_high_mask 32 (suc k) (omega arith) x (s (omega arith))

cut_at : (k x : ℕ) (i : Interval) → k ≤ 31 → is_aligned (2 ^ k - 1) i ≡ true → (0 < 2 ^ k - 1 → x < 2 ^ 32)
    → is_in (under_mask (high_mask (2 ^ k - 1)) x) (cut (2 ^ k - 1) i) ≡ is_in x i
cut_at k x i l e s =
    let J = 2 ^ k in let h = blocks_of k i e in let low = h.low_is in let high = h.high_is in let end : i.high - (J - 1) ≡ i.high / J * J = omega arith in
    ap (λ y. nat_le i.low y && nat_le y (i.high - (J - 1))) (masked_is k x (omega arith) s) ∙ ap₂ (λ a b. nat_le a (x / J * J) && nat_le (x / J * J) b) low end
    ∙ blocks_in x (i.low / J) (i.high / J) J (pow_pos k) ∙ ap₂ (λ a b. nat_le a x && nat_le x b) (sym low) (sym high)

pub cut_in : (last x : ℕ) (first i : Interval) (is : List Interval) → Idle last first is → is_aligned last i ≡ true → Small last x
    → is_in (under_mask (high_mask last) x) (cut last i) ≡ is_in x i
cut_in last x first i is h e s = grind (arith, cut_at)

pub cut_within : (last x : ℕ) (first : Interval) (is : List Interval) → Idle last first is → Small last x → is_within (under_mask (high_mask last) x)
    (map (cut last) is) ≡ is_within x is
cut_within last x first is h s = go is h.all_aligned
  where
    go : (js : List Interval) → list_all (is_aligned last) js ≡ true → is_within (under_mask (high_mask last) x) (map (cut last) js) ≡ is_within x js
    go [] e = refl
    go (j ∷ js) e =
        let t = and_parts (is_aligned last j) (list_all (is_aligned last) js) e in
        ap₂ (λ a b. a || b) (cut_in last x first j is h t.0 s) (go js t.1)

pub cut_order : (last : ℕ) (first i : Interval) (is : List Interval) → Idle last first is → is_aligned last i ≡ true → i.low ≤ i.high
    → i.low ≤ (cut last i).high
cut_order last first i is h e l = grind (arith, block_order, blocks_of)

pub cut_apart : (last a : ℕ) (first : Interval) (is : List Interval) → Idle last first is → Apart a is → Apart a (map (cut last) is)
cut_apart last a first is h up = go a is h.all_aligned up
  where
    go : (a : ℕ) (js : List Interval) → list_all (is_aligned last) js ≡ true → Apart a js → Apart a (map (cut last) js)
    go a [] e up = tt
    go a (j ∷ js) e up =
        let t = and_parts (is_aligned last j) (list_all (is_aligned last) js) e in (
          up.0,
          cut_order last first j is h t.0 up.1,
          apart_less ((cut last j).high + 1) (j.high + 1) (map (cut last) js) (omega arith) (go (j.high + 1) js t.1 up.2),
        )

-- the test of a network's address: its mask leaves the first number of a block
net_mask : (b : ℕ) → partial_mask (first_bits 32 b) ≡ high_mask (2 ^ (32 - b) - 1)
net_mask b = grind (arith, pow_pos, pow_mono, nat_tests)

pub net_hit : (b a x : ℕ) → x < 2 ^ 32 → bit_and a (first_bits 32 b) ≡ a → (under_mask (partial_mask (first_bits 32 b)) x == a) ≡ is_in x
    (interval a (a + (2 ^ 32 - 1 - first_bits 32 b)))
net_hit b a x lx e =
    let J = 2 ^ (32 - b) in let some = pow_pos (32 - b) in let few : J ≤ 2 ^ 32 = pow_mono {i = 32 - b} {j = 32} (omega arith) in
    let under = and_le_r a (first_bits 32 b) in let round : a ≡ a / J * J = sym e ∙ and_high_mask 32 (32 - b) (omega arith) a (omega arith) in
    let size : a + (2 ^ 32 - 1 - first_bits 32 b) ≡ a / J * J + (J - 1) = omega arith in
    ap (λ o. under_mask o x == a) (net_mask b) ∙ ap₂ (λ y c. y == c) (masked_is (32 - b) x (omega arith) (λ s. lx)) round
    ∙ one_number (x / J * J) (a / J * J) (a / J * J) refl ∙ blocks_in x (a / J) (a / J) J some ∙ ap₂ (λ c d. nat_le c x && nat_le x d) (sym round) (sym size)

-- ---- the last bits that don't decide, by one bit less
pub none_left : (k : ℕ) (first : Interval) (is : List Interval) → k ≡ 0 → idle_bits k first is ≡ 0
none_left k first is e = ap (λ n. idle_bits n first is) e

pub one_less : (k : ℕ) (first : Interval) (is : List Interval) → 0 < k → k ≤ 31 → idle_bits k first is ≡
    (if is_aligned (1 * 2 ^ k % 4294967296 - 1) first && list_all (is_aligned (1 * 2 ^ k % 4294967296 - 1)) is then 1 * 2 ^ k % 4294967296 - 1 else
    idle_bits (k - 1) first is)
one_less k first is some l = grind (arith, pow_mono, mod-eq_of_lt)

pub uncut : (last : ℕ) (is : List Interval) → last ≡ 0 → map (cut last) is ≡ is
uncut last [] e = refl
uncut last (i ∷ is) e = grind (arith, uncut last is e)
