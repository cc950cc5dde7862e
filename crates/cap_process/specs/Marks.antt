-- The mark of a packet, by which equal packets are found.
use Rattle.std.specs.{Cmp.Lexicographic.pointwise, List.list_any}
use Rattle.std.specs.Prelude.{ℕ, ◌-◌, ◌==◌, ◌&&◌, Bool, List, length, drop, nat_eq}
use Rattle.md5.specs.Md5.{md5}
use Rattle.cap_process.specs.declared.mark.Mark.{Mark}

-- the mark of captured bytes: their number and their MD5
abbrev pub mark_of : List ℕ → Mark
mark_of bytes = record { length = length bytes; digest = md5 bytes }

-- whether two marks are equal, in length and digest
abbrev pub is_same_mark : Mark → Mark → Bool
is_same_mark x y = x.length == y.length && pointwise nat_eq x.digest y.digest

-- whether one of these marks is equal to another
abbrev pub has_same : List Mark → Mark → Bool
has_same marks m = list_any (is_same_mark m) marks

-- the last n of some marks, or all if there are fewer
abbrev pub last : ℕ → List Mark → List Mark
last n marks = drop (length marks - n) marks
