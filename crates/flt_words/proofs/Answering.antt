-- Results for a word, carried from one reading to another; and equal results.
use Rattle.std.proofs.Common.{Bool, ◌&&◌, refl, Result, Ok, Err}
use Rattle.flt_words.proofs.Common.{WordFault, FindsMeaning, both_known, and-false}
use Rattle.flt_words.specs.declared.number.WordFault.TheVariants as fault

pub answers_along : {A : Type 0} (V W : A → Type 0) (test : A → Bool) → ((a : A) → V a → W a) → ((a : A) → W a → V a) → (r : Result A WordFault)
    → FindsMeaning V test r → FindsMeaning W test r
answers_along V W test to from (Ok a) h = (to a h.0, h.1)
answers_along V W test to from (Err fault.TooLarge) h = (h.0, to h.0 h.1, h.2)
answers_along V W test to from (Err fault.Unknown) h = λ a w. h a (from a w)

pub answers_both : {A B : Type 0} (V : A → Type 0) (W : B → Type 0) (p : A → Bool) (q : B → Bool) (r : Result A WordFault) (s : Result B WordFault)
    → FindsMeaning V p r → FindsMeaning W q s → FindsMeaning {A = A × B} (λ ab. V ab.0 × W ab.1) (λ ab. p ab.0 && q ab.1) (both_known r s)
answers_both V W p q (Ok a) (Ok b) h k = ((h.0, k.0), rw (h.1, k.1) refl)
answers_both V W p q (Ok a) (Err fault.TooLarge) h k = ((a, k.0), (h.0, k.1), rw (k.2, and-false) refl)
answers_both V W p q (Ok a) (Err fault.Unknown) h k = λ ab w. k ab.1 w.1
answers_both V W p q (Err fault.Unknown) s h k = λ ab w. h ab.0 w.0
answers_both V W p q (Err fault.TooLarge) (Ok b) h k = ((h.0, b), (h.1, k.0), rw h.2 refl)
answers_both V W p q (Err fault.TooLarge) (Err fault.TooLarge) h k = ((h.0, k.0), (h.1, k.1), rw h.2 refl)
answers_both V W p q (Err fault.TooLarge) (Err fault.Unknown) h k = λ ab w. k ab.1 w.1
