-- Comparing marks decides whether they are equal, and a mark that has left the window never comes
-- back.
use Rattle.std.proofs.Common.{◌≡◌, ◌↔◌, ℕ, ◌+◌, ◌-◌, ◌≤◌, Bool, List, [], ◌∷◌, ◌++◌, length, drop, sym, ap, ◌∙◌, arith, length-append, length-drop, IsTrue, Bor}
use Rattle.std.proofs.Common.{Option, Some, get_or, slice_get}
use Rattle.std.proofs.lemmas.Bool.Decides.{Decides-and, Decides-eqb, Decides-like}
use Rattle.std.proofs.lemmas.List.{drop-drop, drop-append-le, Folds.list_any_at}
use Rattle.std.proofs.lemmas.{Option.get_or_from_slice_get, Map.Views.Contains-from_any, Slice.Eq.bytes_eq-Decides}
use Rattle.cap_process.specs.{declared.mark.Mark.Mark, Marks.is_same_mark, Marks.has_same, Marks.last}
use Rattle.std.specs.{Option.IsSome, Option.option_copied, Bool.Decides, List.Contains}

pub is_same-Decides : (x y : Mark) → Decides (is_same_mark x y) (x ≡ y)
is_same-Decides x y = grind (arith, Decides-and, Decides-eqb, bytes_eq-Decides, Decides-like)

has_same-Decides : (ms : List Mark) (m : Mark) → Decides (has_same ms m) (Contains ms m)
has_same-Decides ms m = (
  Contains-from_any (λ x y. (is_same-Decides x y).0) m ms,
  grind (arith, list_any_at, is_same-Decides),
)

-- what a window returns, as a test
pub answers-has_same : (ms : List Mark) (m : Mark) (answer : Bool) → IsTrue answer ↔ Contains ms m → answer ≡ has_same ms m
answers-has_same ms m answer is = grind (arith, has_same-Decides)

-- what left a window once never comes back
pub last-last : (n : ℕ) (ms : List Mark) (m : Mark) → last n (last n ms ++ m ∷ []) ≡ last n (ms ++ m ∷ [])
last-last n ms m =
    let k = length ms - n in
    let kept : length (drop k ms) ≡ length ms - k = length-drop k ms in
    let short : length (drop k ms ++ m ∷ []) ≡ length ms - k + 1 = length-append (drop k ms) (m ∷ []) ∙ ap (λ l. l + 1) kept in
    let long : length (ms ++ m ∷ []) ≡ length ms + 1 = length-append ms (m ∷ []) in
    let within : k ≤ length ms = omega arith in
    let sum : k + (length (drop k ms ++ m ∷ []) - n) ≡ length (ms ++ m ∷ []) - n = omega (arith, short, long) in
    ap (λ (xs : List Mark). drop (length (drop k ms ++ m ∷ []) - n) xs) (sym (drop-append-le k ms (m ∷ []) within))
    ∙ drop-drop (length (drop k ms ++ m ∷ []) - n) k (ms ++ m ∷ [])
    ∙ ap (λ (j : ℕ). drop j (ms ++ m ∷ [])) sum

-- what is got at a place of a list is its element there
pub got : {T : Type 0} (xs : List T) (i : ℕ) (d : T) (o : Option (Bor T)) (r : Bor T) → option_copied o ≡ slice_get xs i → o ≡ Some r → get_or xs i d ≡ r.now
got xs i d o r is some = grind (arith, get_or_from_slice_get)

-- there is what is got at a place of a list
pub is_there : {T : Type 0} (o : Option (Bor T)) (x : T) → option_copied o ≡ Some x → IsSome o
is_there o x e = grind arith
