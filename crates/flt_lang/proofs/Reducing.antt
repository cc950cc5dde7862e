-- One turn of the loop in which tighter frames take the operand.
use Rattle.std.proofs.Common.{◌≡◌, ℕ, ◌≤◌, ◌<◌, List, [], ◌∷◌, refl, Some, None, true, false, nat_le, arith}
use Rattle.flt_lang.proofs.Common.{Node, Frame, Operand}
use Rattle.flt_lang.specs.inside.Parser.{precedence, fill_frame, reduce, IsLoose}
use Rattle.std.proofs.lemmas.Bool.{le-leb, Decides.nat_tests}

pub le_true : (m n : ℕ) → m ≤ n → nat_le m n ≡ true
le_true m n h = le-leb m n h

-- a tight frame takes it
pub reduce_taken : (m : ℕ) (f : Frame) (gs fs : List Frame) (x y : Operand) (d e : List Node) → gs ≡ f ∷ fs → precedence f ≤ m
    → fill_frame f x d ≡ Some (y, e) → reduce m gs x d ≡ reduce m fs y e
reduce_taken m f gs fs x y d e is h filled = rw (is, le_true (precedence f) m h, filled) refl

-- or can't
pub reduce_failed : (m : ℕ) (f : Frame) (gs fs : List Frame) (x : Operand) (d : List Node) → gs ≡ f ∷ fs → precedence f ≤ m → fill_frame f x d ≡ None
    → reduce m gs x d ≡ None
reduce_failed m f gs fs x d is h filled = rw (is, le_true (precedence f) m h, filled) refl

pub le_false : (m n : ℕ) → n < m → nat_le m n ≡ false
le_false m n h = grind (arith, nat_tests)

-- a loose frame takes nothing
pub reduce_stays : (m : ℕ) (fs : List Frame) (x : Operand) (d : List Node) → IsLoose m fs → reduce m fs x d ≡ Some (fs, x, d)
reduce_stays m [] x d h = refl
reduce_stays m (f ∷ fs) x d h = rw (le_false (precedence f) m h) refl

-- what one step of settling does
pub ruleset reducing = (reduce_taken, reduce_failed, reduce_stays)
