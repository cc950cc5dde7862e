-- What a filter's programs return, and how many instructions they execute, run by run.
use Rattle.std.proofs.Common.{◌≡◌, ◌≢◌, ◌↔◌, ◌<◌, All, ℕ, zero, suc, ◌+◌, ◌-◌, ◌^◌, Bool, cond, not, nat_eq, nat_lt, ◌==◌, true, false, List, [], ◌∷◌, ◌++◌}
use Rattle.std.proofs.Common.{length, get_or, set, slice_get, take, drop, min, Option, None, Some, Ok, Err, refl, sym, ◌∙◌, ap, arith, subst, ◌≤◌}
use Rattle.std.proofs.Math.Seq.{take-append_seam}
use Rattle.std.specs.List.{find, position, position_or_len}
use Rattle.std.proofs.lemmas.{Bool.ltb-true, Bool.ne_eqb, Bool.Decides.nat_tests, List.Elements.All-append, List.Folds.find_at, Option.slice_get-get_or}
use Rattle.std.proofs.lemmas.{Option.slice_get_past}
use Rattle.cap_octet.specs.{Packet.Captured, Link.all_links, Link.link_of, Link.link_type, declared.link.Link.Link, declared.link.Link.TheVariants.Ether}
use Rattle.cap_octet.specs.{declared.fault.Fault.TheVariants.LinkTypeNotFiltered}
use Rattle.flt_bpf.specs.{Content.Content, Machine.machine, Machine.Answered, declared.insn.Insn.Insn}
use Rattle.flt_ast.specs.{Tree.Expression, Tree.empty, Tree.truth, Counts.bound_of}
use Rattle.cap_filter.specs.Programs.{AreMade, IsMade, steps_of_run, met_on, ran_at, ran_if, ran_on, spent_in}
use Rattle.cap_filter.specs.FilterRules.{by_reading, expression_decides, decision_of, ReturnsDecision}
use Rattle.cap_filter.specs.inside.Programs.{HasPrograms}
use Rattle.cap_filter.specs.Filters.{program_place, spent_on, most_cost}
use Rattle.flt_gen.specs.Elementary.{MatchResult, Yes, No, Rejected}
use Rattle.flt_gen.specs.{Correct.IsProgramOf, Reading.holds}

-- ---- the result

nonzero : (a : ℕ) → a ≢ 0 → not (nat_eq a 0) ≡ true
nonzero a other = rw (ne_eqb a 0 other) refl

zero-unless : (a : ℕ) → (a ≢ 0 → ⊥) → not (nat_eq a 0) ≡ false
zero-unless zero never = refl
zero-unless (suc a) never = absurd (never (λ (same : suc a ≡ 0). absurd (omega arith)))

answers-by : (r : MatchResult) (a : ℕ) → (a ≢ 0) ↔ (r ≡ Yes) → ReturnsDecision (decision_of r) (Ok (not (nat_eq a 0)))
answers-by Yes a right = nonzero a (right.1 refl)
answers-by No a right = zero-unless a (λ other. cc (right.0 other))
answers-by Rejected a right = zero-unless a (λ other. cc (right.0 other))

-- a program for an expression accepts a packet if and only if the packet is kept
pub run-answers : (prog : List Insn) (e : Expression) (link : Link) (p : List ℕ) (n answer count : ℕ) → IsProgramOf prog e link
    → machine prog p n (length prog) ≡ Answered answer count
    → ReturnsDecision (decision_of (holds e link p n)) (Ok (not (nat_eq answer 0)))
run-answers prog e link p n answer count is met =
    let d = is.decides p n in
    let same : d.answer ≡ answer = cc (sym d.answered ∙ met) in
    answers-by (holds e link p n) answer (rw same at d.right)

-- ---- the programs of a table

pub made-length : (e : Expression) (links : List Link) (programs : List Content) → AreMade e links programs → length programs ≡ length links
made-length e [] [] made = refl
made-length e (link ∷ links) (program ∷ programs) made = ap (λ n. suc n) (made-length e links programs made.1)
made-length e _ _ made = absurd made

-- one program more
pub made-put : (e : Expression) (links : List Link) (programs : List Content) (link : Link) (program : Content) → AreMade e links programs
    → IsMade program e link
    → AreMade e (links ++ link ∷ []) (programs ++ program ∷ [])
made-put e [] [] link program made is = (is, tt)
made-put e (first ∷ links) (other ∷ programs) link program made is = (made.0, made-put e links programs link program made.1 is)
made-put e _ _ link program made is = absurd made

fresh-one : (program : Content) → program.spent ≡ 0 → All (λ (c : Content). c.spent ≡ 0) (program ∷ [])
fresh-one program is zero d within = is
fresh-one program is (suc k) d within = absurd (omega (arith, within))

pub fresh-put : (programs : List Content) (program : Content) → All (λ (c : Content). c.spent ≡ 0) programs → program.spent ≡ 0
    → All (λ (c : Content). c.spent ≡ 0) (programs ++ program ∷ [])
fresh-put programs program fresh is =
    All-append (λ (c : Content). c.spent ≡ 0) programs (program ∷ []) fresh (fresh-one program is)

-- the program of a link
pub made-at : (e : Expression) (links : List Link) (programs : List Content) (i : ℕ) (link : Link) (d : Content) → AreMade e links programs
    → slice_get links i ≡ Some link
    → IsMade (get_or programs i d) e link
made-at e [] programs i link d made is = (cc)
made-at e (first ∷ links) [] i link d made is = absurd made
made-at e (first ∷ links) (program ∷ programs) zero link d made is = subst (IsMade program e) (cc is) made.0
made-at e (first ∷ links) (program ∷ programs) (suc i) link d made is = made-at e links programs i link d made.1 is

-- programs keep their instructions when they run
pub made-ran : (e : Expression) (links : List Link) (programs : List Content) (i : ℕ) (p : Captured) → AreMade e links programs
    → AreMade e links (ran_at i p programs)
made-ran e [] [] i p made = tt
made-ran e (link ∷ links) (program ∷ programs) zero p made = (record { valid = made.0.valid; right = made.0.right }, made.1)
made-ran e (link ∷ links) (program ∷ programs) (suc i) p made = (made.0, made-ran e links programs i p made.1)
made-ran e _ _ i p made = absurd made

-- ---- the cost

-- a program after a run
ran : (p : Captured) (before after : Content) (answer count : ℕ) → met_on p before.insns ≡ Answered answer count → after.insns ≡ before.insns
    → after.spent ≡ min (before.spent + count) (2 ^ 128 - 1) → after ≡ ran_on p before
ran p before after answer count met same spent = rw met (λ i. record { insns = same i; spent = spent i })

put : (i : ℕ) (p : Captured) (programs : List Content) (d after : Content) → i < length programs → after ≡ ran_on p (get_or programs i d)
    → set programs i after ≡ ran_at i p programs
put i p [] d after within is = absurd (omega (arith, within))
put zero p (program ∷ programs) d after within is = ap (λ c. c ∷ programs) is
put (suc i) p (program ∷ programs) d after within is = ap (λ l. program ∷ l) (put i p programs d after (omega (arith, within)) is)

-- it is put back at its place
pub set-ran : (i : ℕ) (p : Captured) (programs : List Content) (d after : Content) (answer count : ℕ) → i < length programs
    → met_on p (get_or programs i d).insns ≡ Answered answer count
    → after.insns ≡ (get_or programs i d).insns → after.spent ≡ min ((get_or programs i d).spent + count) (2 ^ 128 - 1) → set programs i after ≡
    ran_at i p programs
set-ran i p programs d after answer count within met same spent = put i p programs d after within
    (ran p (get_or programs i d) after answer count met same spent)

ran-length : (i : ℕ) (p : Captured) (programs : List Content) → length (ran_at i p programs) ≡ length programs
ran-length i p [] = refl
ran-length zero p (program ∷ programs) = refl
ran-length (suc i) p (program ∷ programs) = ap (λ n. suc n) (ran-length i p programs)

-- programs that ran as a slice, back in their vector
pub put-back : (n i : ℕ) (p : Captured) (items lent new : List Content) → lent ≡ items → length lent ≡ n → new ≡ ran_at i p lent
    → take n (new ++ drop (length new) items) ≡ ran_at i p items
put-back n i p items lent new same count is =
    let long : length new ≡ n = ap (λ (l : List Content). length l) is ∙ ran-length i p lent ∙ count in
    rw (← long, take-append_seam new (drop (length new) items)) (is ∙ ap (ran_at i p) same)

-- ---- the program of a packet

position-is : {X : Type 0} (test : X → Bool) (xs : List X) (i : ℕ) → position test xs ≡ Some i → (position_or_len test xs ≡ i) × (i < length xs)
position-is test xs i is = by_test (nat_lt (position_or_len test xs) (length xs)) refl is
  where
    by_test : (b : Bool) → nat_lt (position_or_len test xs) (length xs) ≡ b → cond b (Some (position_or_len test xs)) None ≡ Some i
        → (position_or_len test xs ≡ i) × (i < length xs)
    by_test true less is =
        let same : position_or_len test xs ≡ i = (cc is) in
        (same, subst (λ n. n < length xs) same (ltb-true (position_or_len test xs) (length xs) less))
    by_test false less is = (cc is)

found-at : {X : Type 0} (test : X → Bool) (xs : List X) (i : ℕ) → position test xs ≡ Some i → find test xs ≡ slice_get xs i
found-at test xs i is = find_at test xs ∙ ap (slice_get xs) (position-is test xs i is).0

found-nowhere : {X : Type 0} (test : X → Bool) (xs : List X) → position test xs ≡ None → find test xs ≡ None
found-nowhere test xs is = find_at test xs ∙ by_test (nat_lt (position_or_len test xs) (length xs)) refl is
  where
    by_test : (b : Bool) → nat_lt (position_or_len test xs) (length xs) ≡ b → cond b (Some (position_or_len test xs)) None ≡ None
        → slice_get xs (position_or_len test xs) ≡ None
    by_test true less is = (cc is)
    by_test false less is = slice_get_past xs (position_or_len test xs) (grind (arith, nat_tests))

-- a link type's program is there
pub place-within : (e : Expression) (programs : List Content) (n i : ℕ) → HasPrograms e programs → program_place n ≡ Some i → i < length programs
place-within e programs n i sound is =
    subst (λ count. i < count) (sym (made-length e all_links programs sound.made)) (position-is (λ link. link_type link == n) all_links i is).1

-- a link type without a program has no link
pub answers-none : (e : Expression) (programs : List Content) (p : Captured) → HasPrograms e programs → program_place p.link ≡ None
    → ReturnsDecision (expression_decides e p) (Err LinkTypeNotFiltered)
answers-none empty programs p sound none = absurd sound.some
answers-none (truth a) programs p sound none =
    rw (found-nowhere (λ link. link_type link == p.link) all_links none) refl

-- the program for a packet's link accepts it if the packet is kept
pub answers-at : (e : Expression) (programs : List Content) (p : Captured) (i answer count : ℕ) → HasPrograms e programs → program_place p.link ≡ Some i
    → ((d : Content) → met_on p (get_or programs i d).insns ≡ Answered answer count) → ReturnsDecision (expression_decides e p) (Ok (not (nat_eq answer 0)))
answers-at empty programs p i answer count sound is met = absurd sound.some
answers-at (truth a) programs p i answer count sound is met =
    let test : Link → Bool = λ link. link_type link == p.link in
    let link : Link = get_or all_links i Ether in
    let here : slice_get all_links i ≡ Some link = slice_get-get_or all_links i Ether (position-is test all_links i is).1 in
    let linked : link_of p.link ≡ Some link = found-at test all_links i is ∙ here in
    let none : Content = record { insns = []; spent = 0 } in
    let program : Content = get_or programs i none in
    rw linked
    (run-answers program.insns (truth a) link p.bytes p.orig answer count (made-at (truth a) all_links programs i link none sound.made here).right (met none))

pub sound-ran : (e : Expression) (programs : List Content) (p : Captured) (i : ℕ) → HasPrograms e programs → HasPrograms e (ran_at i p programs)
sound-ran e programs p i sound = record { some = sound.some; made = made-ran e all_links programs i p sound.made }

-- which program an expression runs that isn't empty
pub reading-spends : (e : Expression) (programs : List Content) (p : Captured) (place : Option ℕ) → HasPrograms e programs → program_place p.link ≡
    place → spent_on (by_reading e) p programs ≡ ran_if place p programs
reading-spends empty programs p place sound is = absurd sound.some
reading-spends (truth a) programs p place sound is = rw is refl

made-cost : (program : Content) (e : Expression) (link : Link) (p : Captured) → IsMade program e link → steps_of_run (met_on p program.insns) ≤ bound_of e
made-cost program e link p made =
    let d = made.right.decides p.bytes p.orig in
    let is : steps_of_run (met_on p program.insns) ≡ d.count = ap steps_of_run d.answered in
    omega (arith, is, d.upper_bound, made.right.bounded)

cost-at : (e : Expression) (links : List Link) (programs : List Content) (i : ℕ) (p : Captured) → AreMade e links programs
    → spent_in (ran_at i p programs) ≤ spent_in programs + bound_of e
cost-at e links [] i p made = omega arith
cost-at e [] (program ∷ programs) i p made = absurd made
cost-at e (link ∷ links) (program ∷ programs) zero p made = let upper_bound = made-cost program e link p made.0 in omega (arith, upper_bound)
cost-at e (link ∷ links) (program ∷ programs) (suc i) p made = let upper_bound = cost-at e links programs i p made.1 in omega (arith, upper_bound)

pub bounded-ran : (e : Expression) (programs : List Content) (i : ℕ) (p : Captured) → HasPrograms e programs → spent_in (ran_at i p programs) ≤
    spent_in programs + most_cost (by_reading e)
bounded-ran empty programs i p sound = absurd sound.some
bounded-ran (truth a) programs i p sound = cost-at (truth a) all_links programs i p sound.made
