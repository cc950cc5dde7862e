-- The steps of a run that checks each instruction when it meets it, which is the machine's run if
-- no instruction breaks a rule.
use Rattle.std.proofs.Common.{◌≡◌, ℕ, zero, suc, ◌+◌, ◌-◌, ◌<◌, ◌≤◌, List, length, true, Option, Some, None, refl, arith, slice_get, IsSomeAnd, ◌⊎◌, inl, inr}
use Rattle.std.proofs.lemmas.Option.{slice_get_within, slice_get_past}
use Rattle.flt_trace.proofs.Common.{Insn, State, IsValid}
use Rattle.flt_bpf.specs.Machine.{Next, Goes, Ends, Lost, Stands, Answered, Stuck, step, step_if_there, progress_after, run_from, machine}
use Rattle.flt_trace.specs.RunByRules.{step_unless, step_by_rules, by_rules_from, run_end, run_by_rules, BreaksRuleAt, MeetsNoBrokenRule}
use Rattle.flt_bpf.proofs.Rules.{found_breaks, breaks_found}
use Rattle.flt_bpf.specs.declared.fault.CheckFault.{CheckFault, TheVariants.Empty, TheVariants.TooLong, TheVariants.NoReturn}
use Rattle.{std.specs.Option.is_some, flt_bpf.specs.Check.fault_of}

-- one step of a run
pub by_rules_go : (prog : List Insn) (p : List ℕ) (n place count : ℕ) (s s' : State) (i : Insn) (k : ℕ) → count < length prog → slice_get prog place ≡
    Some i → fault_of i (length prog - (place + 1)) ≡ None → step i p n s ≡ Goes k s' → by_rules_from prog p n (length prog - count) place s count ≡
    by_rules_from prog p n (length prog - (count + 1)) (place + 1 + k) s' (count + 1)
by_rules_go prog p n place count s s' i k c g f e = grind arith

unless_fault : (o : Option CheckFault) (i : Insn) (p : List ℕ) (n : ℕ) (s : State) → is_some o ≡ true → step_unless o i p n s ≡ Lost
unless_fault o i p n s e = grind arith

-- nor past the last one
pub by_rules_past : (prog : List Insn) (p : List ℕ) (n t place count : ℕ) (s : State) → length prog ≤ place
    → run_end (by_rules_from prog p n t place s count) ≡ None
by_rules_past prog p n t place count s h = grind (arith, slice_get_past)

-- the machine's run meets a broken rule, and there the run by the rules has no end
record Broken (prog : List Insn) (p : List ℕ) (n t place count : ℕ) (s : State) : Type 0 where
  met : ℕ
  at : ℕ
  state : State
  fault : CheckFault
  stands : run_from prog p n met place s count ≡ Stands at state
  breaks : BreaksRuleAt prog fault at
  stuck : by_rules_from prog p n t place s count ≡ Stuck

-- else the two are the same
abbrev SameOrBroken : List Insn → List ℕ → ℕ → ℕ → ℕ → ℕ → State → Type 0
SameOrBroken prog p n t place count s = (by_rules_from prog p n t place s count ≡ run_from prog p n t place s count) ⊎ Broken prog p n t place count s

same_or_broken : (prog : List Insn) (p : List ℕ) (n t place count : ℕ) (s : State) → SameOrBroken prog p n t place count s
same_or_broken prog p n zero place count s = inl refl
same_or_broken prog p n (suc t) place count s = found (λ k s'. same_or_broken prog p n t (place + 1 + k) (count + 1) s') (slice_get prog place) refl
  where
    Later : Type 0
    Later = (k : ℕ) (s' : State) → SameOrBroken prog p n t (place + 1 + k) (count + 1) s'

    led : (i : Insn) (k : ℕ) (s' : State) → slice_get prog place ≡ Some i → fault_of i (length prog - (place + 1)) ≡ None → step i p n s ≡ Goes k s'
        → SameOrBroken prog p n t (place + 1 + k) (count + 1) s' → SameOrBroken prog p n (suc t) place count s
    led i k s' g f e (inl same) = grind arith
    led i k s' g f e (inr b) =
        inr (record {
          met = suc b.met;
          at = b.at;
          state = b.state;
          fault = b.fault;
          stands = grind arith;
          breaks = b.breaks;
          stuck =
              grind arith;
        })

    judged : Later → (i : Insn) (o : Option CheckFault) (m : Next) → slice_get prog place ≡ Some i → fault_of i (length prog - (place + 1)) ≡ o
        → step i p n s ≡ m → SameOrBroken prog p n (suc t) place count s
    judged later i None (Goes k s') g f e = grind (arith, led)
    judged later i None (Ends a) g f e = grind arith
    judged later i None Lost g f e = grind arith
    judged later i (Some fault) m g f e =
        inr (record {
          met = 0;
          at = place;
          state = s;
          fault = fault;
          stands = refl;
          breaks =
              grind (arith, found_breaks, slice_get_within);
          stuck = rw (g, f);
        })

    found : Later → (o : Option Insn) → slice_get prog place ≡ o → SameOrBroken prog p n (suc t) place count s
    found later None g = inl (rw g)
    found later (Some i) g = judged later i _ _ g refl refl

-- the result that a run returns is the machine's
pub answered : (prog : List Insn) (p : List ℕ) (n a c : ℕ) → run_by_rules prog p n ≡ Some (a, c) → machine prog p n (length prog) ≡ Answered a c
answered prog p n a c e = grind (arith, same_or_broken)

-- a run that meets no broken rule is the machine's
pub same_run : (prog : List Insn) (p : List ℕ) (n : ℕ) → MeetsNoBrokenRule prog p n → run_by_rules prog p n ≡ run_end (machine prog p n (length prog))
same_run prog p n kept = grind (arith, same_or_broken)

-- no instruction of a valid program breaks a rule
pub valid_meets_none : (prog : List Insn) (p : List ℕ) (n : ℕ) → IsValid prog → MeetsNoBrokenRule prog p n
valid_meets_none prog p n valid t place s fault e b = broken fault b
  where
    nowhere : (o : Option Insn) → IsSomeAnd o (λ i. ⊥) → ⊥
    nowhere o h = grind arith

    broken : (f : CheckFault) → BreaksRuleAt prog f place → ⊥
    broken Empty b = nowhere (slice_get prog place) b
    broken TooLong b = nowhere (slice_get prog place) b
    broken NoReturn b = nowhere (slice_get prog place) b
    broken f b = valid f place b

-- a run that meets a broken rule has no end
broken_from : (prog : List Insn) (p : List ℕ) (n t u place count to : ℕ) (s s' : State) (fault : CheckFault) → run_from prog p n u place s count ≡
    Stands to s' → BreaksRuleAt prog fault to → run_end (by_rules_from prog p n t place s count) ≡ None
broken_from prog p n zero u place count to s s' fault e b = refl
broken_from prog p n (suc t) zero place count to s s' fault e b = grind (arith, breaks_found, slice_get_within)
broken_from prog p n (suc t) (suc u) place count to s s' fault e b =
    found (λ k s'' d. broken_from prog p n t u (place + 1 + k) (count + 1) to s'' s' fault d b) (slice_get prog place) e
  where
    Later : Type 0
    Later = (k : ℕ) (s'' : State) → run_from prog p n u (place + 1 + k) s'' (count + 1) ≡ Stands to s'
        → run_end (by_rules_from prog p n t (place + 1 + k) s'' (count + 1)) ≡ None

    led : Later → (m : Next) → progress_after (run_from prog p n u) place count m ≡ Stands to s'
        → run_end (progress_after (by_rules_from prog p n t) place count m) ≡ None
    led later m e = grind arith

    judged : Later → (o : Option CheckFault) (i : Insn) → progress_after (run_from prog p n u) place count (step i p n s) ≡ Stands to s'
        → run_end (progress_after (by_rules_from prog p n t) place count (step_unless o i p n s)) ≡ None
    judged later o i e = grind arith

    found : Later → (o : Option Insn) → progress_after (run_from prog p n u) place count (step_if_there o p n s) ≡ Stands to s'
        → run_end (progress_after (by_rules_from prog p n t) place count (step_by_rules prog place o p n s)) ≡ None
    found later o e = grind arith

pub broken_run : (prog : List Insn) (p : List ℕ) (n t place : ℕ) (s : State) (fault : CheckFault) → machine prog p n t ≡ Stands place s
    → BreaksRuleAt prog fault place → run_by_rules prog p n ≡ None
broken_run prog p n t place s fault e b = grind (arith, broken_from)

pub ruleset run_laws = (answered, broken_run, same_run, valid_meets_none)

-- what was found of an instruction with that many after it
after_is : (prog : List Insn) (place : ℕ) → length prog - place - 1 ≡ length prog - (place + 1)
after_is prog place = omega arith

pub fault_found : (prog : List Insn) (place : ℕ) (i : Insn) (o : Option CheckFault) → o ≡ fault_of i (length prog - place - 1) → is_some o ≡ true
    → is_some (fault_of i (length prog - (place + 1))) ≡ true
fault_found prog place i o e f = grind arith

pub none_past : (prog : List Insn) (place : ℕ) (i : Insn) (o : Option CheckFault) → o ≡ fault_of i (length prog - place - 1) → o ≡ None
    → fault_of i (length prog - (place + 1)) ≡ None
none_past prog place i o e f = grind arith
