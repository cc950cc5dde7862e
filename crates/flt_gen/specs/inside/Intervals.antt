-- Intervals that ascend by their beginnings, and the bits of their numbers that are looked at.
use Rattle.std.specs.List.{list_all}
use Rattle.std.specs.Prelude.{ℕ, zero, suc, ◌-◌, ◌^◌, ◌==◌, ◌&&◌, nat_lt, max, bit_and, Bool, if◌then◌else◌, List, [], ◌∷◌, map, count_by, Option, Some, None}
use Rattle.flt_gen.specs.{inside.Search.Numbers, declared.elementary.Interval.Interval}

-- an interval that nothing looks for
abbrev pub no_interval : Interval
no_interval = record { low = 0; high = 0 }

-- an interval is put among others that ascend
abbrev pub insert_ascending : Interval → List Interval → List Interval
insert_ascending i [] = i ∷ []
insert_ascending i (j ∷ js) = if nat_lt j.low i.low then j ∷ insert_ascending i js else i ∷ j ∷ js

-- an interval that goes on as far as another one, if that ends later
abbrev pub extended : Interval → Interval → Interval
extended i j = record { low = i.low; high = max i.high j.high }

-- an interval and those after it, of which those that touch are joined: there is no number between
abbrev pub joined_from : Interval → List Interval → List Interval
joined_from i [] = i ∷ []
joined_from i (j ∷ js) =
    if nat_lt 1 (j.low - i.high) then i ∷ joined_from j js else joined_from (extended i j) js

-- intervals, of which those that touch are joined
abbrev pub joined_all : List Interval → List Interval
joined_all [] = []
joined_all (i ∷ is) = joined_from i is

-- an interval is a row of blocks, if each number is in a block with those that differ from it only
-- in the bits of `last`, which is 0 or the last bits
abbrev pub is_aligned : ℕ → Interval → Bool
is_aligned last i = bit_and i.low last == 0 && bit_and i.high last == last

-- the longest last bits, at most this many, that don't decide which numbers are in intervals
abbrev pub idle_bits : ℕ → Interval → List Interval → ℕ
idle_bits zero first is = 0
idle_bits (suc k) first is =
    if is_aligned (2 ^ suc k - 1) first && list_all (is_aligned (2 ^ suc k - 1)) is
    then 2 ^ suc k - 1 else idle_bits k first is

-- an interval has as many numbers as a block
abbrev pub is_block : ℕ → Interval → Bool
is_block last i = i.high - i.low == last

-- the last bits that aren't looked at, if any may be left out: none, if that doesn't make single
-- numbers of two intervals
abbrev pub left_out : Bool → Interval → List Interval → ℕ
left_out is_masked first is =
    let last = idle_bits 31 first is in
    if is_masked && nat_lt 1 (count_by (is_block last) is) then last else 0

-- the mask without the last bits, or none if there are none of these
abbrev pub high_mask : ℕ → Option ℕ
high_mask last = if last == 0 then None else Some (2 ^ 32 - 1 - last)

-- the numbers of blocks, which have 0 for the last bits: the first one's to the last one's
abbrev pub cut : ℕ → Interval → Interval
cut last i = record { low = i.low; high = i.high - last }

-- intervals other than one
abbrev pub without : Interval → List Interval → List Interval
without i [] = []
without i (j ∷ js) = if i.low == j.low && i.high == j.high then without i js else j ∷ without i js

-- the numbers that are looked for, by the first member's and all; last bits may be left out
abbrev pub sought : Bool → Interval → List Interval → Numbers
sought is_masked first all =
    let is = joined_all all in
    let last = left_out is_masked first is in record {
      mask = high_mask last;
      first = cut last first;
      all = map (cut last) is;
      others = without (cut last first) (map (cut last) is);
    }
