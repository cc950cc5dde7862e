-- Words of IPv6 addresses of which no bit counts: the formula reads the same, and has no more tests.
use Rattle.flt_gen.proofs.Common.{◌≡◌, ℕ, ◌+◌, ◌≤◌, List, ◌∷◌, length, true, Option, arith, ◌==◌, ◌&&◌, nat_tests, Protocol, ValueType, Net, Direction, Value}
use Rattle.flt_gen.proofs.Common.{Link, Elementary, MatchResult, under_mask, elementary_reads, network_offset, both, all_of, reads, ip6_tests, is_empty}
use Rattle.flt_gen.proofs.Common.{needed_tests, value_needed}
use Rattle.flt_gen.proofs.{Counted.Bare, Counted.bare_after, Counted.bare_sides, Counted.bare_value, Exclusive.and_yes}
use Rattle.std.specs.Int.Bits.{and_zero_r}
use Rattle.flt_ast.specs.Counts as count

-- no more tests
pub fewer : (ts : List Elementary) → length (needed_tests ts) ≤ length ts
fewer (t ∷ u ∷ ts) = grind (arith, fewer (u ∷ ts))
fewer _ = omega arith

pub bare_needed : (link : Link) (k : ValueType) (p : Option Protocol) (d : Direction) (v : Value) → Bare (value_needed link k p d v) (count.typed_tests k p d v)
bare_needed link Net p d (Value.Ip6 a n) =
    bare_after (bare_sides d _ _ 4 (fewer (ip6_tests n a (network_offset link + 8))) (fewer (ip6_tests n a (network_offset link + 24))) (omega arith))
bare_needed link k p d v = bare_value link k p d v

-- ---- the same reading

-- an idle test is yes of each number
pub idle_holds : (mask : Option ℕ) (a v : ℕ) → (is_empty mask && a == 0) ≡ true → (under_mask mask v == a) ≡ true
idle_holds mask a v e = grind (arith, nat_tests, and_zero_r)

module _ (link : Link) (p : List ℕ) (n : ℕ) where
  abbrev told : List Elementary → MatchResult
  told ts = reads link (all_of ts) p n

  pub all_put : (t : Elementary) (ts : List Elementary) → told (t ∷ ts) ≡ both (elementary_reads t p) (told ts)
  all_put t ts = grind (arith, and_yes)
