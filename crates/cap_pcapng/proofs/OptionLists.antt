-- The first option of a list, and those after it.
use Rattle.std.proofs.Common.{◌≡◌, ℕ, zero, suc, ◌+◌, ◌<◌, ◌≤◌, Bool, true, false, List, [], ◌∷◌, ◌||◌, cond, length, drop, refl, ap, ◌∙◌, ◌-◌, take, arith}
use Rattle.std.proofs.Common.{lit<, ltb-false, lt-ltb, le-ltb, eq-eqb, ne_eqb, length-drop, min, ◌≢◌, Result, Ok, Err, IsErr}
use Rattle.cap_pcapng.proofs.Common.{lt-leb, u16_in, Fault, BadOption, Order, fitting_options, padded_length, BlockOption}
use Rattle.std.proofs.lemmas.List.{drop_min, take_rest}
use Rattle.cap_pcapng.specs.OptionList.{CodedValue, item_of, option_at, option_size, ends_at, fits_at, options_in, options_within}

false_first : (a b : Bool) → (a || b) ≡ false → a ≡ false
false_first false b is = refl
false_first true b is = is

-- an option has four bytes at least
pub room : (order : Order) (text : List ℕ) → ends_at order text ≡ false → 4 ≤ length text
room order text more = ltb-false _ 4 (false_first _ _ more)

pub options_in-end : (order : Order) (text : List ℕ) → ends_at order text ≡ true → options_in order text ≡ []
unfolding options_in options_within
options_in-end order [] ends = refl
options_in-end order (b ∷ bytes) ends = rw ends refl

-- what follows an option is shorter
after_shorter : (order : Order) (text : List ℕ) → 4 ≤ length text → length (drop (padded_length (option_size order text)) text) + 4 ≤ length text
after_shorter order text room = rw length-drop (omega arith)

same_by : (ends fits : Bool) (o : CodedValue) (r s e : List (Result CodedValue Fault)) → (ends ≡ false → r ≡ s)
    → cond ends [] (cond fits (Ok o ∷ r) e) ≡ cond ends [] (cond fits (Ok o ∷ s) e)
same_by false true o r s e same = ap (λ t. Ok o ∷ t) (same refl)
same_by _ _ o r s e same = refl

-- it doesn't matter how many options are allowed, where they are enough
enough : (n m : ℕ) (order : Order) (text : List ℕ) → length text ≤ n → length text ≤ m → options_within n order text ≡ options_within m order text
unfolding options_within
enough zero zero order text upper_bound less = refl
enough zero (suc m) order [] upper_bound less = refl
enough zero (suc m) order (b ∷ bytes) upper_bound less = absurd (omega arith)
enough (suc n) zero order [] upper_bound less = refl
enough (suc n) zero order (b ∷ bytes) upper_bound less = absurd (omega arith)
enough (suc n) (suc m) order text upper_bound less =
    same_by _ (fits_at order text) _ _ _ _
    (λ more. let shorter = after_shorter order text (room order text more) in enough n m order _ (omega arith) (omega arith))

pub options_in-more : (order : Order) (text : List ℕ) → ends_at order text ≡ false → fits_at order text ≡ true
    → options_in order text ≡ Ok (option_at order text) ∷ options_in order (drop (padded_length (option_size order text)) text)
unfolding options_in options_within
options_in-more order [] more fits = (cc)
options_in-more order (b ∷ bytes) more fits = grind (arith, after_shorter, room, enough)

drop_least : (n : ℕ) (text : List ℕ) → drop (min (length text) n) text ≡ drop n text
drop_least n text = ap (λ k. drop k text) (omega arith) ∙ drop_min n text

-- the same by the numbers that the tests are of

or_true : (a b : Bool) → b ≡ true → (a || b) ≡ true
or_true true b is = refl
or_true false b is = is

pub options_in-short : (order : Order) (text : List ℕ) → length text < 4 → options_in order text ≡ []
options_in-short order text short = simp (options_in-end, lt-ltb)

pub options_in-code_end : (order : Order) (text : List ℕ) → u16_in order text 0 ≡ 0 → options_in order text ≡ []
options_in-code_end order text code = simp (options_in-end, or_true, eq-eqb)

pub goes_on : (order : Order) (text : List ℕ) → 4 ≤ length text → u16_in order text 0 ≢ 0 → ends_at order text ≡ false
goes_on order text there code = rw (le-ltb, ne_eqb) refl

pub options_in-past : (order : Order) (text : List ℕ) → 4 ≤ length text → u16_in order text 0 ≢ 0 → length text < option_size order text
    → options_in order text ≡ Err BadOption ∷ []
unfolding options_in options_within
options_in-past order [] there code past = absurd (omega arith)
options_in-past order (b ∷ bytes) there code past = rw (goes_on, lt-leb) refl

-- as the code finds the code, the value and the rest
pub options_in-next : (order : Order) (text : List ℕ) (code len following : ℕ) → code ≡ u16_in order text 0 → len ≡ u16_in order text 2
    → 4 ≤ length text → code ≢ 0 → 4 + len ≤ length text → following ≡ min (length text) (padded_length (4 + len))
    → options_in order text ≡ Ok (record { code = code; value = take (4 + len - 4) (drop 4 text) })
    ∷ options_in order (take (length text - following) (drop following text))
options_in-next order text code len following code_is len_is there more within is = grind (arith, drop_least, take_rest, options_in-more, goes_on)

pub options_in-none : (order : Order) → options_in order [] ≡ []
options_in-none order = options_in-short order [] (lit< tt)

-- one item fewer remains
pub shorter_by : {X : Type 0} (x : X) (all rest : List X) → all ≡ x ∷ rest → length rest < length all
shorter_by x all rest is = grind arith

-- ---- the end at a value that doesn't fit

misfit_by : (ends fits : Bool) (o : CodedValue) (later rest : List (Result CodedValue Fault)) (fault : Fault)
    → cond ends [] (cond fits (Ok o ∷ later) (Err BadOption ∷ [])) ≡ Err fault ∷ rest → rest ≡ []
misfit_by true fits o later rest fault is = (cc)
misfit_by false true o later rest fault is = (cc)
misfit_by false false o later rest fault is = (cc)

misfit-last : (order : Order) (text : List ℕ) (rest : List (Result CodedValue Fault)) (fault : Fault) → options_in order text ≡ Err fault ∷ rest → rest ≡ []
unfolding options_in options_within
misfit-last order [] rest fault is = (cc)
misfit-last order (b ∷ bytes) rest fault is = misfit_by _ _ _ _ rest fault is

-- no option is given from a value on that doesn't fit
pub misfit-fitting_options : (order : Order) (text : List ℕ) (rest : List (Result CodedValue Fault)) (item : Result BlockOption Fault) → IsErr item
    → options_in order text ≡ item_of item ∷ rest → fitting_options (options_in order text) ≡ []
misfit-fitting_options order text rest (Ok o) misfit is = (cc)
misfit-fitting_options order text rest (Err fault) misfit is = grind (arith, misfit-last)
