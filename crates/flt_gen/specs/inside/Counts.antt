-- How many words of memory, nodes of arithmetic, tests and loads a formula has.
use Rattle.std.specs.Prelude.{ℕ, ◌+◌, ◌*◌, ◌==◌, max, nat_le, if◌then◌else◌, List, [], ◌∷◌, length, Option, Some, None}
use Rattle.flt_ast.specs.{Counts.number_words, Counts.number_size, declared.qualifiers.Direction.Direction}
use Rattle.flt_words.specs.declared.token.Join.TheVariants.{And, Or}
use Rattle.flt_gen.specs.Formula.{Formula, Single, Compare, Both, Either, Except, Split}
use Rattle.flt_gen.specs.declared.elementary.Elementary.{Elementary, TheVariants.Outcome, TheVariants.Field}
use Rattle.flt_gen.specs.declared.elementary.{FieldPlace.FieldPlace, Offset.Offset, Offset.TheVariants.Fixed}
use Rattle.flt_gen.specs.declared.elementary.{FieldTest.FieldTest, Interval.Interval}
use Rattle.flt_gen.specs.inside.{Code.is_loaded, Code.left_by, Search.Numbers}

-- how many words of memory the code of a formula needs at most
abbrev pub words : Formula → ℕ
words (Compare c l r) = max (number_words l) (1 + number_words r)
words (Both a b) = max (words a) (words b)
words (Either a b) = max (words a) (words b)
words (Except a) = words a
words (Split t a b) = max (words a) (words b)
words _ = 0

-- how many nodes the arithmetic of a formula has
abbrev pub nodes : Formula → ℕ
nodes (Compare c l r) = number_size l + number_size r
nodes (Both a b) = nodes a + nodes b
nodes (Either a b) = nodes a + nodes b
nodes (Except a) = nodes a
nodes (Split t a b) = nodes a + nodes b
nodes _ = 0

-- one more if the first of some intervals is more than one number, since it has both ends
abbrev pub first_ends : List Interval → ℕ
first_ends [] = 0
first_ends (i ∷ is) = if i.low == i.high then 0 else 1

-- how many tests are counted of intervals that are looked for: one of each, and of the first maybe
-- two; on either side twice as many, and one to three more for those of the first member
abbrev pub sought_tests : Direction → Numbers → ℕ
sought_tests (Direction.Both Or) numbers =
    2 * max 1 (length numbers.all) + max (first_ends numbers.all) (first_ends (numbers.first ∷ []))
    + (if nat_le 5 (length numbers.all) then 3 else 1)
sought_tests (Direction.Both And) numbers = 1
sought_tests _ numbers = max 1 (length numbers.all) + first_ends numbers.all

-- a test of a field is one, and what the link type decides is none
abbrev pub test_count : Elementary → ℕ
test_count (Outcome b) = 0
test_count (Field t) = 1

-- how many tests of fields and of numbers the code of a formula has
abbrev pub tests : Formula → ℕ
tests (Single t) = test_count t
tests (Compare c l r) = 1
tests (Both a b) = tests a + tests b
tests (Either a b) = tests a + tests b
tests (Except a) = tests a
tests (Split t a b) = test_count t + (tests a + tests b)

-- how many instructions load the field of a test, and mask it
abbrev pub place_loads : Offset → ℕ
place_loads (Fixed k) = 1
place_loads _ = 2

abbrev pub mask_loads : Option ℕ → ℕ
mask_loads None = 0
mask_loads (Some mask) = 1

abbrev pub field_loads : FieldTest → ℕ
field_loads t = place_loads t.offset + mask_loads t.mask

-- how many do it for a test, if A holds this field, or none
abbrev pub test_loads : Option FieldPlace → Elementary → ℕ
test_loads held (Outcome b) = 0
test_loads held (Field t) = if is_loaded held t then 0 else field_loads t

-- how many other instructions the code of a formula has at most, if A holds this field, or none, and
-- those of arithmetic's nodes are counted by themselves
abbrev pub loads : Option FieldPlace → Formula → ℕ
loads held (Single t) = test_loads None t
loads held (Compare c l r) = 3
loads held (Both a b) = loads None a + loads None b
loads held (Either a b) = loads None a + loads None b
loads held (Except a) = loads None a
loads held (Split t a b) = test_loads held t + (loads (left_by t) a + loads (left_by t) b)
