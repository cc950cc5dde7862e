-- A selector returns the verdict that its policy gives, and adds to its counts what the packet
-- adds.
use Rattle.std.proofs.Common.{◌≡◌, ℕ, ◌+◌, ◌^◌, ◌<◌, ◌≤◌, nat_le, Bool, true, false, length, if◌then◌else◌, List, Option, None, Some, Ok, refl, arith, ◌↔◌, not}
use Rattle.std.proofs.Common.{IsTrue, [], ◌∷◌, ◌++◌}
use Rattle.cap_process.specs.Verdict.{Policy, SelectorState, Judgement, Pass, PassLast, Skip, is_too_many, judge, judge_by, refuses, is_last, unique}
use Rattle.cap_process.specs.Verdict.{skip_judgement, passes}
use Rattle.cap_process.specs.Selector.{is_count, spent_by, spent_by_verdict, marks_in, places, state_of}
use Rattle.cap_process.specs.inside.Selector.{PolicyState, IsWindowFor, ReturnsVerdict, count_limit, TakesTally, verdict_if, verdict_of, IsVerdict}
use Rattle.cap_octet.specs.{Packet.Captured, declared.fault.Fault.TheVariants.TooManyPackets}
use Rattle.cap_process.{proofs.Marks.answers-has_same, specs.declared.mark.Mark.Mark}
use Rattle.cap_process.specs.{Reports.Tally, Reports.tally_with, Marks.last, Marks.mark_of, Window.WindowView, Window.window}
use Rattle.{flt_bpf.specs.Content.Content, std.proofs.lemmas.Bool.Decides.nat_tests, std.specs.List.Contains}
use Rattle.cap_process.specs.declared.selector.Verdict as code

-- where packets aren't only counted, a number may be too great
numbered : (policy : Policy) (number : ℕ) → is_count policy ≡ false → is_too_many policy number ≡ nat_le (2 ^ 63) number
numbered policy number judges = grind arith

too-great : (policy : Policy) (number : ℕ) → is_count policy ≡ false → 2 ^ 63 ≤ number → is_too_many policy number ≡ true
too-great policy number judges h = grind (arith, numbered, nat_tests)

not-too-great : (policy : Policy) (number : ℕ) → is_count policy ≡ false → number < 2 ^ 63 → is_too_many policy number ≡ false
not-too-great policy number judges h = grind (arith, numbered, nat_tests)

pub too-many : (policy : Policy) (state : SelectorState) (number : ℕ) (p : Captured) → is_count policy ≡ false → 2 ^ 63 ≤ number
    → judge policy state number p ≡ refuses state TooManyPackets
too-many policy state number p judges h = grind (arith, too-great)

pub upper_bound : (policy : Policy) (state : SelectorState) (number : ℕ) (p : Captured) → is_count policy ≡ false → number < 2 ^ 63
    → judge policy state number p ≡ judge_by policy state number p
upper_bound policy state number p judges h = grind (arith, not-too-great)

-- ---- what judging costs

pub counted-spends : (policy : Policy) (number : ℕ) (p : Captured) (programs : List Content) → is_count policy ≡ true → programs ≡ spent_by_verdict
    policy number p programs
counted-spends policy number p programs is = grind arith

pub refused-spends : (policy : Policy) (number : ℕ) (p : Captured) (programs : List Content) → is_count policy ≡ false → 2 ^ 63 ≤ number
    → programs ≡ spent_by_verdict policy number p programs
refused-spends policy number p programs judges h = grind (arith, too-great)

pub judged-spends : (policy : Policy) (number : ℕ) (p : Captured) (programs : List Content) → is_count policy ≡ false → number < 2 ^ 63
    → spent_by policy p programs ≡ spent_by_verdict policy number p programs
judged-spends policy number p programs judges h = grind (arith, not-too-great)

-- ---- what is returned

pub tells-none : (count : Option ℕ) (j : Judgement) (state : SelectorState) (p : Captured) (v : code.Verdict) → ReturnsVerdict count j (Ok false) p
    state → verdict_of v p ≡ Skip → IsVerdict j (Ok v) p state
tells-none count j state p v keeps is = grind arith

passing-as : (p : Captured) (b : Bool) → verdict_if p b ≡ (if b then PassLast p else Pass p)
passing-as p b = grind arith

pub tells-some : (count : Option ℕ) (j : Judgement) (state : SelectorState) (p : Captured) (v : code.Verdict) → ReturnsVerdict count j (Ok true) p state
    → verdict_of v p ≡ verdict_if p (is_last count (state.passed + 1)) → IsVerdict j (Ok v) p (state_of (state.passed + 1) state.window state.tally)
tells-some count j state p v keeps is = grind (arith, passing-as)

pub tells-passed : (policy policy' : Policy) (state after : SelectorState) (number : ℕ) (p q : Captured) (v : code.Verdict) → is_count policy ≡ false
    → number < 2 ^ 63
    → ReturnsVerdict (count_limit policy) (judge_by policy state number p) (Ok true) q after → policy' ≡ policy → verdict_of v q ≡ verdict_if q
    (is_last (count_limit policy') (after.passed + 1))
    → IsVerdict (judge policy state number p) (Ok v) q (state_of (after.passed + 1) after.window after.tally)
tells-passed policy policy' state after number p q v judges less keeps same is = grind (arith, upper_bound, tells-some)

-- ---- the window

pub window-few : (n : Option ℕ) (w : Option WindowView) → IsWindowFor n w → length (marks_in w) ≤ places n
window-few n w is = grind arith

-- ---- packets are counted

pub tells-count : (policy : Policy) (passed : ℕ) (marks : List Mark) (tally tally' : Tally) (number : ℕ) (p : Captured) (v : code.Verdict)
    → is_count policy ≡ true → verdict_of v p ≡ Skip → tally' ≡ tally_with tally p
    → IsVerdict (judge policy (state_of passed marks tally) number p) (Ok v) p (state_of passed marks tally')
tells-count policy passed marks tally tally' number p v is skips more = grind arith

-- ---- what was counted is taken

pub closes-policy : (b : Bool) (old new : PolicyState) (r : Option Tally) → TakesTally b old r new → new.policy ≡ old.policy
closes-policy b old new r c = grind arith

pub unique-seen : (n : Option ℕ) (w new : WindowView) (passed : ℕ) (tally : Tally) (p : Captured) (seen : Bool) → IsWindowFor n (Some w)
    → IsTrue seen ↔ Contains w.marks (mark_of p.bytes)
    → new ≡ window (last w.capacity (w.marks ++ mark_of p.bytes ∷ [])) w.capacity
    → unique n (state_of passed w.marks tally) p ≡ (if seen then skip_judgement (state_of passed new.marks tally) else passes
    (state_of passed new.marks tally) p)
unique-seen None w new passed tally p seen is answers new_is = absurd is
unique-seen (Some n) w new passed tally p seen is answers new_is =
    rw (new_is, is.0, answers-has_same w.marks (mark_of p.bytes) seen answers) refl

-- a packet that was not seen is kept
pub unique-keeps : (n : Option ℕ) (w new : WindowView) (passed : ℕ) (tally : Tally) (p : Captured) (seen : Bool) → IsWindowFor n (Some w)
    → IsTrue seen ↔ Contains w.marks (mark_of p.bytes)
    → new ≡ window (last w.capacity (w.marks ++ mark_of p.bytes ∷ [])) w.capacity
    → ReturnsVerdict None (unique n (state_of passed w.marks tally) p) (Ok (not seen)) p (state_of passed new.marks tally)
unique-keeps n w new passed tally p true is answers new_is =
    let j = unique-seen n w new passed tally p true is answers new_is in
    grind arith
unique-keeps n w new passed tally p false is answers new_is = unique-seen n w new passed tally p false is answers new_is
