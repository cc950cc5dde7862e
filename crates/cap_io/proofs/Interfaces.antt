-- The different interfaces of packets, in the order of first use.
use Rattle.std.proofs.Common.{rules, ◌≡◌, ◌≤◌, ◌||◌, ◌+◌, suc, Bool, true, false, not, cond, if◌then◌else◌, Some, refl, ap, List, [], ◌∷◌, ◌++◌, length, sym, ℕ}
use Rattle.std.proofs.Common.{map, nat_le, ◌<◌, zero, length-append, slice_get}
use Rattle.cap_io.proofs.Common.{number_among, arith, fold-append, Captured, Format, Pcapng, append-nil, map-append, length-append, le-leb, lt-leb}
use Rattle.cap_io.proofs.Common.{interface_in, All-append, HasNumber, IsFirst, InterfaceNumber, or-true}
use Rattle.cap_io.specs.Text.{is_among, Interface, interface_of, is_same, new_among, interfaces_after_packet, kept_interfaces, most_output_interfaces, FitFile}
use Rattle.std.specs.List.{fold, list_any, position_or_len, All}
use Rattle.cap_io.specs.declared.numbering.InterfaceKey.{InterfaceKey}

-- ---- the same

pub same_interface : (i j : Interface) → is_same i j ≡ true → i ≡ j
same_interface i j same = search rules

-- ---- one more

pub kept-push : (format : Format) (ps : List Captured) (p : Captured) → kept_interfaces format (ps ++ p ∷ []) ≡ interfaces_after_packet format
    (kept_interfaces format ps) p
kept-push format ps p = grind (arith, fold-append)

-- no interface is given up
pub kept-grows : (interfaces : List Interface) (ps : List Captured) → length interfaces ≤ length (fold (interfaces_after_packet Pcapng) interfaces ps)
kept-grows interfaces [] = omega arith
kept-grows interfaces (p ∷ ps) = grind (arith, length-append, (kept-grows (interfaces ++ new_among interfaces (interface_of p)) ps))

-- ---- an interface has its number

found-by : (b : Bool) (x i : Interface) (xs : List Interface) → is_same i x ≡ b
    → slice_get (xs ++ new_among xs i) (number_among xs i) ≡ Some i
    → slice_get ((x ∷ xs) ++ (if (b || is_among xs i) then [] else i ∷ [])) (cond (not b) (1 + number_among xs i) 0) ≡ Some i
found-by true x i xs same later = ap Some (sym (same_interface i x same))
found-by false x i xs same later = grind arith

-- it is found at its number, also where it is new
pub found : (interfaces : List Interface) (i : Interface) → slice_get (interfaces ++ new_among interfaces i) (number_among interfaces i) ≡ Some i
found [] i = refl
found (x ∷ xs) i = found-by (is_same i x) x i xs refl (found xs i)

-- when two keys are equal
abbrev pub same_key : InterfaceKey → InterfaceKey → Bool
same_key k l = is_same (interface_in k) (interface_in l)

pub among-keys : (keys : List InterfaceKey) (k : InterfaceKey) → list_any (same_key k) keys ≡ is_among (map interface_in keys) (interface_in k)
among-keys [] k = refl
among-keys (x ∷ keys) k = grind (arith, (among-keys keys k))

pub number-keys : (keys : List InterfaceKey) (k : InterfaceKey) → position_or_len (same_key k) keys ≡ number_among (map interface_in keys) (interface_in k)
number-keys [] k = refl
number-keys (x ∷ keys) k = grind (arith, not, (number-keys keys k))

push-key : (b : Bool) (keys : List InterfaceKey) (k : InterfaceKey) → map interface_in (if b then keys else keys ++ k ∷ []) ≡ map interface_in keys
    ++ (if b then [] else interface_in k ∷ [])
push-key b keys k = grind (arith, append-nil, map-append)

pub insert-keys : (keys : List InterfaceKey) (k : InterfaceKey)
    → map interface_in (if list_any (same_key k) keys then keys else keys ++ k ∷ []) ≡ map interface_in keys ++ new_among (map interface_in keys)
    (interface_in k)
insert-keys keys k = grind (arith, push-key, among-keys)

-- ---- room

fewer : (b : Bool) (n : ℕ) (keys : List Interface) (i : Interface) → length keys < n → length (keys ++ (if b then [] else i ∷ [])) ≤ n
fewer b n keys i upper_bound = grind (arith, append-nil, length-append)

-- one more may be had where there are fewer
pub room-below : (keys : List Interface) (i : Interface) → length keys < most_output_interfaces → nat_le (length (keys ++ new_among keys i))
    most_output_interfaces ≡ true
room-below keys i upper_bound = grind (arith, le-leb, fewer)

full-by : (b : Bool) (n : ℕ) (keys : List Interface) (i : Interface) → length keys ≡ n → nat_le (length (keys ++ (if b then [] else i ∷ []))) n ≡ b
full-by b n keys i full = grind (arith, le-leb, append-nil, lt-leb, length-append)

-- if there are as many interfaces as may be, there is room only for one of them
pub room-full : (keys : List Interface) (i : Interface) → length keys ≡ most_output_interfaces → nat_le (length (keys ++ new_among keys i))
    most_output_interfaces ≡ is_among keys i
room-full keys i full = grind (arith, full-by)

some_is : (i j : Interface) → Some i ≡ Some j → i ≡ j
some_is i j same = (cc)

same-self : (i : Interface) → is_same i i ≡ true
same-self i = search rules

-- ---- its number stays

number-by : (b : Bool) (i : Interface) (xs : List Interface) → number_among (xs ++ new_among xs i) i ≡ number_among xs i
    → cond (not b) (1 + number_among (xs ++ (if b || is_among xs i then [] else i ∷ [])) i) 0 ≡ cond (not b) (1 + number_among xs i) 0
number-by b i xs stays = grind arith

number-stays : (old : List Interface) (i : Interface) → number_among (old ++ new_among old i) i ≡ number_among old i
number-stays [] i = grind (arith, not, same-self)
number-stays (x ∷ xs) i = number-by (is_same i x) i xs (number-stays xs i)

pub first-following : (old new : List Interface) (i : Interface) (place : InterfaceNumber) → HasNumber old i place new → IsFirst place.number new
first-following old new i place has j there = grind (arith, found, some_is, number-stays)

-- ---- the bounds after one more

IsShort : Interface → Type 0
IsShort i = length i.name ≤ 255

new-short : (b : Bool) (i : Interface) → length i.name ≤ 255 → All IsShort (if b then [] else i ∷ [])
unfolding IsShort
new-short b i short = grind (arith, IsShort)

pub few-following : (old new : List Interface) (i : Interface) (place : InterfaceNumber) → FitFile old → length (old ++ new_among old i) ≤
    most_output_interfaces → length i.name ≤ 255
    → HasNumber old i place new → FitFile new
unfolding IsShort
few-following old new i place upper_bound room short has =
    let names : All IsShort (old ++ new_among old i) = All-append IsShort old (new_among old i) upper_bound.names (new-short (is_among old i) i short) in
    rw has.interfaces (record { count = room; names = names })

-- ---- the place of what has a number

among-at : (interfaces : List Interface) (n : ℕ) (i : Interface) → slice_get interfaces n ≡ Some i → is_among interfaces i ≡ true
among-at [] n i there = (cc)
among-at (x ∷ xs) zero i there = grind (arith, some_is, same-self)
among-at (x ∷ xs) (suc n) i there = grind (arith, or-true, (among-at xs n i there))

pub place-of-last : (interfaces : List Interface) (last : ℕ) (i : Interface) → IsFirst last interfaces → slice_get interfaces last ≡ Some i
    → HasNumber interfaces i (record { number = last; is_new = false }) interfaces
place-of-last interfaces last i first there = grind (arith, among-at, not, append-nil)
