-- The index of the window, by which an equal mark is found: a binary tree of marks for each hash.
-- The newest mark is at its top. At each depth, one bit of a mark chooses between the two trees
-- below. Marks are numbered from 1. For each hash, `heads` has the number of the last mark that had
-- it, even if that mark has left the window; it is 0 if there was none, or if `renumber` set it to
-- 0. A link is the number of places from a mark back to the top of a tree below it. If it leads to
-- a place before the oldest mark, the tree is empty. The definitions describe the index by the path
-- that a search for any mark takes.
use Rattle.std.specs.{Int.w32, Int.from_le_bytes, List.slice_index_or}
use Rattle.std.specs.Prelude.{◌≡◌, ◌≢◌, ℕ, ◌+◌, ◌-◌, ◌/◌, ◌%◌, ◌^◌, ◌<◌, ◌≤◌, ◌==◌, Bool, true, false, nat_lt, if◌then◌else◌, List, [], length, slice_index, take, bit_and}
use Rattle.cap_process.specs.declared.{links.Links.Links, mark.Mark.Mark}

-- The bit of a mark at a depth. The depths 0 to 127 are the bits of its digest, from the last byte
-- to the first; those from 128 on are the 32 bits of its length, repeated. The lowest bit of each
-- byte, and of the length, comes first.
unfoldable pub mark_bit : Mark → ℕ → Bool
mark_bit m depth =
    if nat_lt depth 128 then slice_index m.digest (15 - depth / 8) / 2 ^ (depth % 8) % 2 == 1
    else m.length / 2 ^ (depth % 32) % 2 == 1

-- the link to the tree of the marks with this bit
abbrev pub link_by_bit : Links → Bool → ℕ
link_by_bit links true = links.ones
link_by_bit links false = links.zeros

-- the hash of a mark, which is its index in `heads`: the first four bytes of its digest,
-- little-endian, ANDed with `mask`
abbrev pub hash_of : ℕ → Mark → ℕ
hash_of mask m = bit_and (from_le_bytes w32 (take 4 m.digest)) mask

-- the mark at a place; past the end, one without a meaning
abbrev pub mark_at : List Mark → ℕ → Mark
mark_at marks i = slice_index_or marks i (record { length = 0; digest = [] })

-- the links of the mark at a place; past the end, links of 0
abbrev pub links_at : List Links → ℕ → Links
links_at links i = slice_index_or links i (record { zeros = 0; ones = 0 })

-- the mark m has the same hash as e, and the same bits at all depths above this one
pub record Agrees (mask depth : ℕ) (e m : Mark) : Type 0 where
  pub hash : hash_of mask m ≡ hash_of mask e
  pub bits : (i : ℕ) → i < depth → mark_bit m i ≡ mark_bit e i

-- e isn't at this place nor at a later one
abbrev pub Lacks : List Mark → Mark → ℕ → Type 0
Lacks marks e from = (j : ℕ) → from ≤ j → j < length marks → mark_at marks j ≢ e

-- The path of a search for e, from the mark at `limit` to the one `d` places before it, and further
-- by the links for the bits of e, until a link leads out of the window. Each mark on the path
-- agrees with e down to its depth. No mark equal to e is skipped: if e is nowhere from `limit` on,
-- it is nowhere between `limit` and the next mark of the path, nor below `limit` if there is none.
pub data IsWay (mask : ℕ) (marks : List Mark) (links : List Links) (e : Mark) : (depth limit d : ℕ)
    → Type 0 where
  Ends : {depth limit d : ℕ} → limit < d → (Lacks marks e limit → Lacks marks e 0)
      → IsWay mask marks links e depth limit d
  Goes : {depth limit d : ℕ} → d ≤ limit → 1 ≤ d → Agrees mask depth e (mark_at marks (limit - d))
      → (Lacks marks e limit → Lacks marks e (limit - d + 1))
      → IsWay mask marks links e (depth + 1) (limit - d)
      (link_by_bit (links_at links (limit - d)) (mark_bit e depth))
      → IsWay mask marks links e depth limit d

-- there is a path from the mark at a place, to the one `d` places before it, for each mark that
-- agrees with the first
abbrev pub IsHung : (mask : ℕ) → List Mark → List Links → (depth place d : ℕ) → Type 0
IsHung mask marks links depth place d =
    (e : Mark) → Agrees mask depth e (mark_at marks place) → IsWay mask marks links e depth place d

-- there is a path from the mark at a place, by its own links, for each mark that agrees with it
abbrev pub IsOnTop : (mask : ℕ) → List Mark → List Links → (depth place : ℕ) → Type 0
IsOnTop mask marks links depth place =
    (e : Mark) → Agrees mask depth e (mark_at marks place)
    → IsWay mask marks links e (depth + 1) place
    (link_by_bit (links_at links place) (mark_bit e depth))

-- only links of marks that agree with the one at a place changed, up to this place
abbrev pub IsSameOutside : (mask : ℕ) → List Mark → (old new : List Links) → (depth place : ℕ)
    → Type 0
IsSameOutside mask marks old new depth place =
    (j : ℕ) → (j ≤ place → Agrees mask depth (mark_at marks place) (mark_at marks j) → ⊥)
    → links_at new j ≡ links_at old j

-- The mark at a place is above the older marks of its hash. The links of marks of other hashes
-- didn't change.
pub record IsPutOnTop (mask : ℕ) (marks : List Mark) (old new : List Links)
    (place : ℕ) : Type 0 where
  pub below : IsOnTop mask marks new 0 place
  pub others : IsSameOutside mask marks old new 0 place

-- Each head leads to the tree of its hash, whose top is the newest mark of this hash, if the window
-- has one. `newest` is the number of the newest mark of all; no head is above it, and there are at
-- most as many marks. There are as many links as marks.
pub record IsIndex (mask : ℕ) (marks : List Mark) (links : List Links) (heads : List ℕ)
    (newest : ℕ) : Type 0 where
  pub long : length links ≡ length marks
  pub counted : length marks ≤ newest
  pub small : (h : ℕ) → h < length heads → slice_index heads h ≤ newest
  pub trees : (e : Mark) → IsWay mask marks links e 0 (length marks)
      (newest + 1 - slice_index heads (hash_of mask e))

-- The invariant of a window. `IsIndex` holds. Marks and links have the same capacity, below
-- 2^32 - 1, and there are at most as many marks. `heads` has an entry for each hash, and the number
-- of the next mark still fits 32 bits.
pub record IsSoundIndex (mask : ℕ) (marks : List Mark) (capacity : ℕ) (links : List Links)
    (link_capacity : ℕ) (heads : List ℕ) (newest : ℕ) : Type 0 where
  pub index : IsIndex mask marks links heads newest
  pub same_capacity : link_capacity ≡ capacity
  pub within : capacity + 1 < 2 ^ 32
  pub fits : length marks ≤ capacity
  pub wide : length heads ≡ mask + 1
  pub room : newest + 1 < 2 ^ 32
