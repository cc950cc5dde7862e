-- The next action on the inputs is found by their number, their turn or the least key.
use Rattle.std.proofs.lemmas.List.Folds.{list_all-append, list_any-append, list_any_none}
use Rattle.cap_inputs.specs.inside.Inputs.{IsAtTurn, AllEnded, AllReady, IsNext, IsNextIn, IsOpen, IsReady, KeysFrom}
use Rattle.std.proofs.Common.{add-zero, ◌≡◌, inl, inr, ◌&&◌, ◌||◌, if◌then◌else◌, ℕ, suc, ◌+◌, ◌<◌, ◌≤◌, Bool, true, false, not, cond, nat_le, List, [], ◌∷◌}
use Rattle.std.proofs.Common.{◌++◌, length, refl, sym, ◌∙◌, ap, ap₂, arith}
use Rattle.std.specs.List.{list_all, list_any, position_or_len, slice_get, AllByRecursion}
use Rattle.cap_inputs.proofs.Common.{nat_tests, PacketOrder, InTurn, ByTime, Next, InputView}
use Rattle.cap_io.specs.Source.{Phase, Ended}
use Rattle.cap_inputs.specs.Inputs.{InputsView, IsInput, ended_count, has_least_key, is_open, is_unready, key_of, next_at, next_of, place_next}
use Rattle.cap_inputs.proofs.Cursors.{get-input, weaker}
use Rattle.std.proofs.{Math.Bool.or-true, lemmas.List.Elements.All-from_recursion, lemmas.List.append-nil, lemmas.Bool.and_right, lemmas.Option.slice_get_past}

-- ---- the first input for which a test is true

abbrev pub AllFail : (InputView → Bool) → List InputView → Type 0
AllFail p xs = AllByRecursion (λ x. p x ≡ false) xs

skipped : (p : InputView → Bool) (xs zs : List InputView) → AllFail p xs → position_or_len p (xs ++ zs) ≡ length xs + position_or_len p zs
skipped p [] zs fail = omega arith
skipped p (x ∷ xs) zs fail =
    let more = skipped p xs zs fail.1 in
    let one : 1 + position_or_len p (xs ++ zs) ≡ suc (length xs) + position_or_len p zs = omega arith in
    ap (λ b. cond (not b) (1 + position_or_len p (xs ++ zs)) 0) fail.0 ∙ one

first-here : (p : InputView → Bool) (xs ys : List InputView) (h : InputView) → AllFail p xs → p h ≡ true → position_or_len p (xs ++ h ∷ ys) ≡ length xs
first-here p xs ys h fail here = grind (arith, skipped)

first-none : (p : InputView → Bool) (xs : List InputView) → AllFail p xs → position_or_len p xs ≡ length xs
first-none p xs fail = ap (position_or_len p) (sym (append-nil xs)) ∙ skipped p xs [] fail ∙ add-zero _

any-here : (p : InputView → Bool) (xs ys : List InputView) (h : InputView) → p h ≡ true → list_any p (xs ++ h ∷ ys) ≡ true
any-here p xs ys h here = grind (arith, list_any-append, or-true)

any-none : (p : InputView → Bool) (xs : List InputView) → AllFail p xs → list_any p xs ≡ false
any-none p xs fail = list_any_none p xs (All-from_recursion (λ x. p x ≡ false) xs fail)

all-fails : (p : InputView → Bool) (xs ys : List InputView) (h : InputView) → p h ≡ false → list_all p (xs ++ h ∷ ys) ≡ false
all-fails p xs ys h here = grind (arith, list_all-append, and_right)

-- ---- the input in a place

at-here : (cursors : List InputView) (n i : ℕ) (h : InputView) → (a : IsInput cursors i h) → n ≡ length a.front → next_at n (slice_get cursors n) ≡
    (if h.waiting then Next.Decide i else Next.Read i)
at-here cursors n i h a is = ap (λ m. next_at m (slice_get cursors m)) (is ∙ a.place) ∙ ap (next_at i) (get-input cursors i h a)

at-past : (cursors : List InputView) (n : ℕ) → n ≡ length cursors → next_at n (slice_get cursors n) ≡ Next.Finish
at-past cursors n is = grind (arith, slice_get_past)

-- ---- tests of one input

is-open : (p : Phase) → (p ≡ Ended → ⊥) → is_open p ≡ true
is-open Ended on = absurd (on refl)
is-open _ on = refl

is-unready : (h : InputView) → h.waiting ≡ false → IsOpen h → is_unready h ≡ true
is-unready h waits on = grind (arith, is-open)

not-unready : (h : InputView) → IsReady h → is_unready h ≡ false
not-unready h (inl waits) = grind (arith, and_right)
not-unready h (inr ended) = ap (λ p. is_open p && not h.waiting) ended

-- ---- tests of all

none-unready : (hs : List InputView) → AllReady hs → AllFail is_unready hs
none-unready hs ready = weaker IsReady _ not-unready hs ready

abbrev pub test_open : InputView → Bool
test_open h = is_open h.source.phase

none-open : (hs : List InputView) → AllEnded hs → AllFail test_open hs
none-open hs ended = weaker _ _ (λ h e. ap is_open e) hs ended

-- whether another input's key isn't lower than this one, where its packet waits
abbrev pub not_lower : ℕ → InputView → Bool
not_lower key other = not other.waiting || nat_le key (key_of other)

not-lower-where : (key : ℕ) (h : InputView) → (h.waiting ≡ true → key ≤ key_of h) → not_lower key h ≡ true
not-lower-where key h over = grind (arith, nat_tests)

lower-where : (key : ℕ) (h : InputView) → h.waiting ≡ true → key_of h < key → not_lower key h ≡ false
lower-where key h waits under = grind (arith, nat_tests)

none-lower : (key : ℕ) (hs : List InputView) → KeysFrom key hs → list_all (not_lower key) hs ≡ true
none-lower key [] from = refl
none-lower key (h ∷ hs) from = ap (λ b. b && list_all (not_lower key) hs) (not-lower-where key h from.0) ∙ none-lower key hs from.1

none-lower-around : (key : ℕ) (xs ys : List InputView) (h : InputView) → KeysFrom (key + 1) xs → key ≡ key_of h → KeysFrom key ys
    → list_all (not_lower key) (xs ++ h ∷ ys) ≡ true
none-lower-around key xs ys h over is from =
    list_all-append _ xs (h ∷ ys)
    ∙ ap₂ (λ a b. a && b) (none-lower key xs (weaker _ _ (λ x f w. let less = f w in omega arith) xs over))
    (none-lower key (h ∷ ys) ((λ waits. omega arith), from))

waits-not : (cursors : List InputView) (x : InputView) → x.waiting ≡ false → has_least_key cursors x ≡ false
waits-not cursors x waits = grind arith

-- the inputs before the one with the least key have greater ones
greater-before : (xs ys zs : List InputView) (h : InputView) → h.waiting ≡ true → KeysFrom (key_of h + 1) zs → AllFail (has_least_key (xs ++ h ∷ ys)) zs
greater-before xs ys zs h waits over = weaker _ _ (λ z less. by_waits z less _ refl) zs over
  where
    by_waits : (z : InputView) → (z.waiting ≡ true → key_of h + 1 ≤ key_of z) → (b : Bool) → z.waiting ≡ b → has_least_key (xs ++ h ∷ ys) z ≡ false
    by_waits z over true is = and_right _ _
        (all-fails _ xs ys h (lower-where _ h waits (let less = over is in omega arith)))
    by_waits z over false is = waits-not (xs ++ h ∷ ys) z is

least-here : (xs ys : List InputView) (h : InputView) → h.waiting ≡ true → KeysFrom (key_of h + 1) xs → KeysFrom (key_of h) ys
    → has_least_key (xs ++ h ∷ ys) h ≡ true
least-here xs ys h waits over from = ap (λ b. b && list_all (not_lower (key_of h)) (xs ++ h ∷ ys)) waits ∙ none-lower-around _ xs ys
    h over refl from

-- ---- what is next

pub count-open : (xs ys : List InputView) (h : InputView) → AllEnded xs → IsOpen h → ended_count (xs ++ h ∷ ys) ≡ length xs
count-open xs ys h ended on = simp (first-here, none-open, is-open)

pub count-all : (hs : List InputView) → AllEnded hs → ended_count hs ≡ length hs
count-all hs ended = first-none _ hs (none-open hs ended)

at-turn : (cursors : List InputView) (i : ℕ) (waiting : Bool) → IsAtTurn cursors i waiting → next_of (record { order = InTurn; cursors = cursors }) ≡
    (if waiting then Next.Decide i else Next.Read i)
at-turn cursors i waiting at = grind (arith, count-open, at-here)

by-turn : (cursors : List InputView) (r : Next) → IsNextIn InTurn cursors r → next_of (record { order = InTurn; cursors = cursors }) ≡ r
by-turn cursors (Next.Read i) tells = at-turn cursors i false tells
by-turn cursors (Next.Decide i) tells = at-turn cursors i true tells
by-turn cursors Next.Finish tells = simp (at-past, count-all)

by-time : (cursors : List InputView) (r : Next) → IsNextIn ByTime cursors r → next_of (record { order = ByTime; cursors = cursors }) ≡ r
by-time cursors (Next.Read i) tells =
    let a = tells.among in
    let here = is-unready tells.cursor tells.waits tells.unended in
    let any = ap (list_any is_unready) a.splits ∙ any-here _ a.front a.back _ here in
    let place : place_next ByTime cursors ≡ length a.front = rw any (ap (position_or_len _) a.splits ∙ first-here _ a.front a.back
    _ (none-unready a.front tells.front) here) in
    at-here cursors _ i _ a place ∙ ap (λ b. if b then Next.Decide i else Next.Read i) tells.waits
by-time cursors (Next.Decide i) tells =
    let least = tells.1 in
    let a = least.among in
    let front = greater-before a.front a.back a.front _ least.waits least.over in
    let here = least-here a.front a.back _ least.waits least.over least.from in
    let place : place_next ByTime cursors ≡ length a.front = rw (any-none _ cursors (none-unready cursors tells.0))
    (ap (λ l. position_or_len (has_least_key l) l) a.splits ∙ first-here _
    a.front a.back least.cursor front here) in
    at-here cursors (place_next ByTime cursors) i least.cursor a place ∙ ap (λ (b : Bool). if b then Next.Decide i else Next.Read i) least.waits
by-time cursors Next.Finish tells =
    let ready = weaker _ IsReady (λ h e. inr e) cursors tells.1 in
    let place : place_next ByTime cursors ≡ length cursors =
    rw (any-none is_unready cursors (none-unready cursors ready))
    (first-none _ cursors (weaker _ _ (waits-not cursors) cursors tells.0)) in
    at-past cursors _ place

-- what is next by its parts is what is found out
pub next-is-of : (inputs : InputsView) (r : Next) → IsNext inputs r → next_of inputs ≡ r
next-is-of inputs r tells = by_order _ tells
  where
    by_order : (order : PacketOrder) → IsNextIn order inputs.cursors r → next_of (record { order = order; cursors = inputs.cursors }) ≡ r
    by_order InTurn tells = by-turn _ r tells
    by_order ByTime tells = by-time _ r tells
