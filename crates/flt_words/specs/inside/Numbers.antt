-- What the readers of numbers and of words return.
use Rattle.std.specs.Prelude.{◌≡◌, Bool, true, false, Result, Ok, Err}
use Rattle.flt_words.specs.declared.number.WordFault.{WordFault}

-- the result for a word, whose meanings are those for which `Means`: `Ok` with a meaning that fits,
-- `TooLarge` if it has one that doesn't fit, `Unknown` if it has none
abbrev pub FindsMeaning : {A : Type 0} → (A → Type 0) → (A → Bool) → Result A WordFault → Type 0
FindsMeaning {A} Means test (Ok a) = Means a × (test a ≡ true)
FindsMeaning {A} Means test (Err WordFault.TooLarge) = (a : A) × Means a × (test a ≡ false)
FindsMeaning {A} Means test (Err WordFault.Unknown) = (a : A) → Means a → ⊥

-- the values of two words, or one error for both: `Unknown` if either is unknown, else `TooLarge`
-- if either is too large
abbrev pub both_known : {A B : Type 0} → Result A WordFault → Result B WordFault
    → Result (A × B) WordFault
both_known (Ok a) (Ok b) = Ok (a, b)
both_known (Ok a) (Err e) = Err e
both_known (Err WordFault.Unknown) r = Err WordFault.Unknown
both_known (Err WordFault.TooLarge) (Ok b) = Err WordFault.TooLarge
both_known (Err WordFault.TooLarge) (Err e) = Err e
