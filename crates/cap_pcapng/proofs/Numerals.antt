-- A number that was written reads back.
use Rattle.std.proofs.Common.{arith, ◌≡◌, ℕ, ◌^◌, ◌<◌, List, ◌++◌, drop}
use Rattle.cap_pcapng.proofs.Common.{little_bytes, Little}
use Rattle.byteorder.specs.{Endian.little_number, Numbers.little_number-reads_back}
use Rattle.cap_octet.specs.Number.{number_in}

pub number_at : (width : ℕ) (text : List ℕ) (at x : ℕ) (rest : List ℕ) → drop at text ≡ little_bytes width x ++ rest → x < 256 ^ width
    → number_in Little width text at ≡ x
unfolding number_in
number_at width text at x rest is upper_bound = grind (arith, little_number, little_number-reads_back)
