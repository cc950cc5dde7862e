-- A written address is a word that means its token.
use Rattle.std.proofs.Common.{◌≡◌, ℕ, zero, ◌+◌, ◌*◌, ◌/◌, ◌%◌, ◌^◌, ◌<◌, ◌≤◌, List, [], ◌∷◌, ◌++◌, length, map, refl, sym, ap, ◌∙◌, subst, Bool, true, false}
use Rattle.std.proofs.Common.{◌==◌, cond, lit<, lit≤, append_assoc, pow-suc, replicate}
use Rattle.flt_explain.proofs.Common.{suc, arith, nat_tests, AllByRecursion, IsDottedAddress, or-true, join_with_byte, TokenKind}
use Rattle.std.proofs.lemmas.Fmt.{digits_is_IsNumeral, decimal_is_IsNumeral}
use Rattle.std.specs.Fmt.{decimal, digit_glyph, digits_onto, digits}
use Rattle.flt_words.specs.Words.Spells.{mac, ip6, dotted}
use Rattle.flt_explain.specs.Texts.{octet, hex_byte, group_at, half_bytes, half_groups, octets, bytes_text, mac_word, groups_text, ip6_word, dotted_word}
use Rattle.flt_explain.proofs.WordTokens.{IsPart, part_of_digits, part_join, IsWordFor, part_of_decimal, writes_decimal}
use Rattle.flt_words.specs.{Addresses.IsDotted, Addresses.IsIp6.whole, Characters.within_word, Numbers.WritesDecimal}
use Rattle.std.specs.{Int.Digits.AllBelowBase, Int.Digits.number_from_digits, Char.digit_value, Str.Parse.IsNumeral, Str.Parse.digits_value}

-- how numbers below a base are written as groups of digits with a byte between them
record Writes (inside : Bool) (between base radix : ℕ) (IsGroup : List ℕ → Type 0) (write : ℕ → List ℕ) : Type 0 where
  group : (n : ℕ) → n < base → IsGroup (write n)
  value : (n : ℕ) → n < base → digits_value radix (write n) ≡ n
  part : (n : ℕ) → n < base → IsPart inside (write n)
  within : within_word inside between ≡ true

module _ {inside : Bool} {between base radix : ℕ} {IsGroup : List ℕ → Type 0} {write : ℕ → List ℕ} (by : Writes inside between base radix IsGroup write) where
  each : (numbers : List ℕ) → AllBelowBase base numbers → AllByRecursion IsGroup (map write numbers)
  each [] below = tt
  each (n ∷ numbers) below = grind (arith, each numbers below.1)

  values : (numbers : List ℕ) → AllBelowBase base numbers → map (digits_value radix) (map write numbers) ≡ numbers
  values [] below = refl
  values (n ∷ numbers) below = grind (arith, values numbers below.1)

  part : (numbers : List ℕ) → 0 < length numbers → AllBelowBase base numbers → IsPart inside (join_with_byte between (map write numbers))
  part [] some below = grind arith
  part (n ∷ []) some below = grind arith
  part (n ∷ m ∷ numbers) some below = part_join inside between (write n) _ by.within (grind arith) (part (m ∷ numbers) (omega arith) below.1)

below_256 : (weight n : ℕ) → octet weight n < 256
below_256 weight n = omega arith

below_65536 : (weight half : ℕ) → group_at weight half < 65536
below_65536 weight half = omega arith

-- IPv4 addresses
in_decimal : (inside : Bool) → Writes inside 46 256 10 (λ digits. (n : ℕ) × WritesDecimal digits n × (n ≤ 255)) decimal
in_decimal inside = record {
  group = λ n small. (n, writes_decimal n (omega arith), omega arith);
  value = λ n small. (decimal_is_IsNumeral n (omega arith)).1;
  part = λ n small. part_of_decimal inside n (omega arith);
  within = rw or-true;
}

two_parts : (a : ℕ) → a < 2 ^ 32 → a % 65536 ≡ 0 → a ≡ (((0 * 256 + octet (2 ^ 24) a) * 256 + octet (2 ^ 16) a) * 256 + 0) * 256 + 0
two_parts a small missing = omega arith

three_parts : (a : ℕ) → a < 2 ^ 32 → a % 256 ≡ 0 → a ≡ (((0 * 256 + octet (2 ^ 24) a) * 256 + octet (2 ^ 16) a) * 256 + octet (2 ^ 8) a) * 256 + 0
three_parts a small missing = omega arith

four_parts : (a : ℕ) → a < 2 ^ 32 → a ≡ (((0 * 256 + octet (2 ^ 24) a) * 256 + octet (2 ^ 16) a) * 256 + octet (2 ^ 8) a) * 256 + octet 1 a
four_parts a small = omega arith

dotted_of : (inside : Bool) (a p : ℕ) → 0 < length (octets a p) → AllBelowBase 256 (octets a p) → IsDotted (dotted_word a p) a p
    → IsWordFor inside (dotted_word a p) (TokenKind.Dotted a p)
unfolding dotted_word
dotted_of inside a p some below is = record { part = part (in_decimal inside) (octets a p) some below; stands = dotted is; fit = refl }

pub dotted_for : (inside : Bool) (a p : ℕ) → IsDottedAddress a p → IsWordFor inside (dotted_word a p) (TokenKind.Dotted a p)
unfolding dotted_word
dotted_for inside a zero w = grind arith
dotted_for inside a (suc zero) w = grind arith
dotted_for inside a (suc (suc zero)) w =
    let below : AllBelowBase 256 (octets a 2) = grind (arith, below_256) in
    dotted_of inside a 2 (lit< tt) below
    (record {
      groups = map decimal (octets a 2);
      are = record { joined = refl; each = each (in_decimal inside) (octets a 2) below };
      at_least_two = lit≤ tt;
      at_most_four = lit≤ tt;
      count = refl;
      value = two_parts a w.small w.missing
          ∙ ap (λ ns. number_from_digits 256 (ns ++ replicate 2 0)) (sym (values (in_decimal inside) (octets a 2) below));
    })
dotted_for inside a (suc (suc (suc zero))) w =
    let below : AllBelowBase 256 (octets a 3) = grind (arith, below_256) in
    dotted_of inside a 3 (lit< tt) below
    (record {
      groups = map decimal (octets a 3);
      are = record { joined = refl; each = each (in_decimal inside) (octets a 3) below };
      at_least_two = lit≤ tt;
      at_most_four = lit≤ tt;
      count = refl;
      value = three_parts a w.small w.missing
          ∙ ap (λ ns. number_from_digits 256 (ns ++ replicate 1 0)) (sym (values (in_decimal inside) (octets a 3) below));
    })
dotted_for inside a (suc (suc (suc (suc zero)))) w =
    let below : AllBelowBase 256 (octets a 4) = grind (arith, below_256) in
    dotted_of inside a 4 (lit< tt) below
    (record {
      groups = map decimal (octets a 4);
      are = record { joined = refl; each = each (in_decimal inside) (octets a 4) below };
      at_least_two = lit≤ tt;
      at_most_four = lit≤ tt;
      count = refl;
      value = four_parts a w.small
          ∙ ap (λ ns. number_from_digits 256 (ns ++ replicate 0 0)) (sym (values (in_decimal inside) (octets a 4) below));
    })
dotted_for inside a (suc (suc (suc (suc (suc p))))) w = grind arith

-- two hexadecimal digits
glyph_value : (d : ℕ) → d < 16 → digit_value (digit_glyph false d) ≡ d
glyph_value d small = grind (arith, nat_tests)

hex_numeral : (n : ℕ) → n < 256 → IsNumeral 16 (hex_byte n)
hex_numeral n small = grind (arith, glyph_value)

two_digits : (n : ℕ) → (0 * 16 + n / 16) * 16 + n % 16 ≡ n
two_digits n = omega arith

in_bytes : Writes false 58 256 16 (λ digits. IsNumeral 16 digits × (length digits ≤ 2)) hex_byte
in_bytes = grind (arith, hex_numeral, glyph_value, two_digits, part, part_of_digits)

three_bytes : (h : ℕ) → h < 2 ^ 24 → h ≡ (octet (2 ^ 16) h * 256 + octet (2 ^ 8) h) * 256 + octet 1 h
three_bytes h small = omega arith

six_bytes : (a q r b c d e f g : ℕ) → q ≡ a / 2 ^ 24 → r ≡ a % 2 ^ 24 → q ≡ (b * 256 + c) * 256 + d → r ≡ (e * 256 + f) * 256 + g
    → a ≡ (((((0 * 256 + b) * 256 + c) * 256 + d) * 256 + e) * 256 + f) * 256 + g
six_bytes a q r b c d e f g is also high low = omega arith

pub mac_for : (a : ℕ) → a < 2 ^ 48 → IsWordFor false (mac_word a) (TokenKind.Mac a)
unfolding mac_word bytes_text
mac_for a small =
    let q = a / 2 ^ 24 in
    let r = a % 2 ^ 24 in
    let below : AllBelowBase 256 (half_bytes q ++ half_bytes r) =
    grind (arith, below_256) in
    record {
      part = grind (arith, part, in_bytes);
      stands = mac {address = a} (record {
        groups = map hex_byte (half_bytes q ++ half_bytes r);
        are = record { joined = refl; each = grind (arith, each, in_bytes) };
        all = refl;
        value = grind (arith, six_bytes, three_bytes, values, in_bytes);
      });
      fit = refl;
    }

-- up to four hexadecimal digits
some_front : (n : ℕ) → (n / 16 == 0) ≡ false → 16 ≤ n
some_front n e = grind (arith, nat_tests)

few_step : (k j n : ℕ) (onto : List ℕ) → n < 16 ^ suc j → ((i m : ℕ) (o : List ℕ) → 0 < i → m < 16 ^ i → length (digits_onto k 16 false m o) ≤ i + length o)
    → (b : Bool) → (n / 16 == 0) ≡ b
    → length (cond b (digit_glyph false (n % 16) ∷ onto) (digits_onto k 16 false (n / 16) (digit_glyph false (n % 16) ∷ onto))) ≤ suc j + length onto
few_step k j n onto small more true e = omega arith
few_step k zero n onto small more false e = grind (arith, some_front)
few_step k (suc j) n onto small more false e = grind (arith, pow-suc)

few_onto : (k j n : ℕ) (onto : List ℕ) → 0 < j → n < 16 ^ j → length (digits_onto k 16 false n onto) ≤ j + length onto
few_onto zero j n onto some small = omega arith
few_onto (suc k) zero n onto some small = grind arith
few_onto (suc k) (suc j) n onto some small = few_step k j n onto small (λ i m o some small. few_onto k i m o some small) (n / 16 == 0) refl

few_digits : (n : ℕ) → n < 65536 → length (digits 16 false n) ≤ 4
unfolding digits
few_digits n small = few_onto 64 4 n [] (lit< tt) small

numeral_of : (n : ℕ) → n < 65536 → IsNumeral 16 (digits 16 false n) × (digits_value 16 (digits 16 false n) ≡ n)
numeral_of n small = digits_is_IsNumeral 16 false (lit≤ tt) (lit≤ tt) n (omega arith)

in_quads : Writes false 58 65536 16 (λ digits. IsNumeral 16 digits × (length digits ≤ 4)) (digits 16 false)
in_quads = record {
  group = λ n small. ((numeral_of n small).0, few_digits n small);
  value = λ n small. (numeral_of n small).1;
  part = λ n small. let is = (numeral_of n small).0 in part_of_digits false 16 (digits 16 false n) (lit≤ tt) is.0 is.1;
  within = refl;
}

four_groups : (h : ℕ) → h < 2 ^ 64 → h ≡ ((group_at (2 ^ 48) h * 65536 + group_at (2 ^ 32) h) * 65536 + group_at (2 ^ 16) h) * 65536 + group_at 1 h
four_groups h small = omega arith

eight_groups : (a q r b c d e f g h i : ℕ) → q ≡ a / 2 ^ 64 → r ≡ a % 2 ^ 64 → q ≡ ((b * 65536 + c) * 65536 + d) * 65536 + e
    → r ≡ ((f * 65536 + g) * 65536 + h) * 65536 + i
    → a ≡ (((((((0 * 65536 + b) * 65536 + c) * 65536 + d) * 65536 + e) * 65536 + f) * 65536 + g) * 65536 + h) * 65536 + i
eight_groups a q r b c d e f g h i is also high low = omega arith

all_joined : (a : ℕ) → ip6_word a ≡ join_with_byte 58 (map (digits 16 false) (half_groups (a / 2 ^ 64) ++ half_groups (a % 2 ^ 64)))
unfolding ip6_word groups_text
all_joined a = simp append_assoc

pub ip6_for : (a : ℕ) → a < 2 ^ 128 → IsWordFor false (ip6_word a) (TokenKind.Ip6 a)
ip6_for a small =
    let q = a / 2 ^ 64 in
    let r = a % 2 ^ 64 in
    let below : AllBelowBase 65536 (half_groups q ++ half_groups r) = grind (arith, below_65536) in
    record {
      part = subst (IsPart false) (sym (all_joined a)) (part in_quads (half_groups q ++ half_groups r) (lit< tt) below);
      stands = ip6 {address = a} (whole (record {
        groups = map (digits 16 false) (half_groups q ++ half_groups r);
        are = grind (arith, all_joined, each, in_quads);
        all = refl;
        value = grind (arith, eight_groups, four_groups, values, in_quads);
      }));
      fit = refl;
    }
