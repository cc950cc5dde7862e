-- The state of a selector, and its change by one verdict.
use Rattle.std.specs.Prelude.{◌≡◌, ℕ, ◌+◌, ◌-◌, ◌^◌, ◌≤◌, Bool, true, false, length, Option, None, Result, Ok, Err, Some, ◌<◌}
use Rattle.cap_octet.specs.{Packet.Captured, declared.fault.Fault.Fault}
use Rattle.cap_process.specs.Window.{WindowView}
use Rattle.cap_process.specs.declared.selector.Verdict as code
use Rattle.cap_process.specs.declared.selector.Verdict.TheVariants as code_verdict
use Rattle.cap_process.specs.Reports.{Tally, nothing_counted}
use Rattle.cap_process.specs.Selector.{SelectorView, window_of, places}
use Rattle.cap_process.specs.Verdict.{Policy, Filter, SelectorState, Verdict, Pass, PassLast, Refuse, Judgement, counts}
use Rattle.cap_process.specs.Verdict as judged
use Rattle.cap_io.specs.Reading.{most_in_unit}

-- the policy of a selector, and its state
pub record PolicyState : Type 0 where
  pub policy : Policy
  pub state : SelectorState

-- the policy and the state of a selector
abbrev pub policy_state : SelectorView → PolicyState
policy_state j = record { policy = j.policy; state = j.state }

-- the most packets that are kept before a job ends, if there is a limit
abbrev pub count_limit : Policy → Option ℕ
count_limit (Filter rule count) = count
count_limit policy = None

-- a verdict of the code, with the packet as it must be written if it is kept
abbrev pub verdict_of : code.Verdict → Captured → Verdict
verdict_of code_verdict.Pass p = Pass p
verdict_of code_verdict.PassLast p = PassLast p
verdict_of code_verdict.Skip p = judged.Skip

-- a packet is kept, as the last one or not
abbrev pub verdict_if : Captured → Bool → Verdict
verdict_if p true = PassLast p
verdict_if p false = Pass p

-- A call returns this judgement of a packet: its verdict, with the kept packet and the state after
-- it; or its refusal; then nothing is stated about the state.
abbrev pub IsVerdict : Judgement → Result code.Verdict Fault → Captured → SelectorState → Type 0
IsVerdict j (Ok v) p state = (verdict_of v p ≡ j.verdict) × (state ≡ j.state)
IsVerdict j (Err fault) p state = j.verdict ≡ Refuse fault

-- The return value for a packet if at most `count` are kept: whether it is kept, the packet then,
-- and the state before it is counted; or its refusal.
abbrev pub ReturnsVerdict : Option ℕ → Judgement → Result Bool Fault → Captured → SelectorState
    → Type 0
ReturnsVerdict count j (Ok false) p state = (j.verdict ≡ judged.Skip) × (j.state ≡ state)
ReturnsVerdict count j (Ok true) p state = j ≡ counts count state p
ReturnsVerdict count j (Err fault) p state = j.verdict ≡ Refuse fault

-- there is a window for n packets in a row, with at most n - 1 marks, if one is asked for; else
-- none
abbrev pub IsWindowFor : Option ℕ → Option WindowView → Type 0
IsWindowFor None None = Unit {0}
IsWindowFor None (Some w) = ⊥
IsWindowFor (Some n) None = ⊥
IsWindowFor (Some n) (Some w) = (w.capacity ≡ n - 1) × (length w.marks ≤ n - 1)

-- there are at most as many marks as the policy asks for
abbrev pub HasFewMarks : Policy → SelectorState → Type 0
HasFewMarks policy state = length state.window ≤ places (window_of policy)

-- at most as much was added to the sums of a tally as one packet may have
abbrev pub GrowsByOne : Tally → Tally → Type 0
GrowsByOne old new =
    (new.count ≤ old.count + 1) × (new.data_size ≤ old.data_size + 2 ^ 32)
    × (new.captured_size ≤ old.captured_size + most_in_unit)

-- the state of a selector after its tally starts again
abbrev pub with_empty_tally : SelectorState → SelectorState
with_empty_tally s = record { passed = s.passed; window = s.window; tally = nothing_counted }

-- if reports are asked for, the tally is returned and starts again; otherwise None is returned and
-- nothing changes
abbrev pub TakesTally : Bool → PolicyState → Option Tally → PolicyState → Type 0
TakesTally false old r new = (r ≡ None) × (new ≡ old)
TakesTally true old r new =
    (r ≡ Some old.state.tally)
    × (new ≡ record { policy = old.policy; state = with_empty_tally old.state })

-- the numbers of the tally have room for one more packet
abbrev pub FitsTally : Tally → Type 0
FitsTally t = (t.count < 2 ^ 127) × (t.data_size < 2 ^ 127) × (t.captured_size < 2 ^ 127)
