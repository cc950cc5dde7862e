-- What contracts see of a selector.
use Rattle.std.specs.Prelude.{◌≡◌, ℕ, ◌-◌, ◌^◌, ◌≤◌, Bool, true, false, if◌then◌else◌, List, [], ◌∷◌, map, Option, None, ◌*◌, Some}
use Rattle.cap_octet.specs.{Link.all_links, Packet.Captured}
use Rattle.cap_process.specs.{Window.WindowView, declared.mark.Mark.Mark}
use Rattle.flt_bpf.specs.Content.{Content}
use Rattle.flt_ast.specs.Tree.{empty, truth}
use Rattle.cap_filter.specs.FilterRules as rules
use Rattle.cap_filter.specs.FilterRules.{by_reading, by_answer}
use Rattle.cap_filter.specs.Filters.{most_cost, programs_of, rule_of, spent_on}
use Rattle.cap_filter.specs.Programs.{AreMade}
use Rattle.cap_process.specs.declared.selector.Policy as code_policy
use Rattle.cap_process.specs.declared.selector.Policy.TheVariants as policy
use Rattle.cap_process.specs.Reports.{Tally}
use Rattle.cap_process.specs.Verdict.{Policy, Edit, Filter, KeepAll, Count, SelectorState, edit_rule_of, is_too_many}
use Rattle.cap_io.specs.Reading.{most_in_unit}

-- a selector: its policy, its state, and the programs of its filter
pub record SelectorView : Type 0 where
  pub policy : Policy
  pub state : SelectorState
  -- the programs that judge packets
  pub programs : List Content

-- the state of a selector with these marks in its window
abbrev pub state_of : ℕ → List Mark → Tally → SelectorState
state_of passed marks tally = record { passed = passed; window = marks; tally = tally }

-- the view of a `Policy` of the code
abbrev pub policy_of : {Z : Type 0} → code_policy.Policy Z → Policy
policy_of (policy.Edit edit) = Edit (edit_rule_of edit)
policy_of (policy.Filter filter count) = Filter (rule_of filter) count
policy_of policy.KeepAll = KeepAll
policy_of policy.Count = Count

-- the programs of a policy's filter
abbrev pub programs_in : {Z : Type 0} → code_policy.Policy Z → List Content
programs_in (policy.Filter filter count) = programs_of filter
programs_in other = []

-- the programs for a rule, whether they ran or not: for an expression one for each link, which
-- accepts exactly the packets that match; none for the empty expression; or the listing's
abbrev pub AreFor : rules.Rule → List Content → Type 0
AreFor (by_reading empty) programs = programs ≡ []
AreFor (by_reading (truth a)) programs = AreMade (truth a) all_links programs
AreFor (by_answer prog) programs = map (λ program. program.insns) programs ≡ prog ∷ []

-- the programs are the policy's: only a filter has any
abbrev pub HavePrograms : Policy → List Content → Type 0
HavePrograms (Filter rule count) programs = AreFor rule programs
HavePrograms other programs = programs ≡ []

-- the programs after a packet was judged: one of a filter's may have run once
abbrev pub spent_by : Policy → Captured → List Content → List Content
spent_by (Filter rule count) p programs = spent_on rule p programs
spent_by other p programs = programs

-- the most instructions that are executed to judge a packet
abbrev pub most_spent : Policy → ℕ
most_spent (Filter rule count) = most_cost rule
most_spent other = 0

-- the programs after the packet with this number was judged: a packet with too great a number is
-- refused before any runs
abbrev pub spent_by_verdict : Policy → ℕ → Captured → List Content → List Content
spent_by_verdict policy number p programs =
    if is_too_many policy number then programs else spent_by policy p programs

-- whether packets are only counted, for reports
abbrev pub is_count : Policy → Bool
is_count Count = true
is_count other = false

-- the marks in a window, if there is one
abbrev pub marks_in : Option WindowView → List Mark
marks_in None = []
marks_in (Some w) = w.marks

-- the number of packets in a row, including the current one, among which duplicates are searched
-- for; None if they aren't searched for
abbrev pub window_of : Policy → Option ℕ
window_of (Edit s) = s.window
window_of other = None

-- the most marks in a window for n packets in a row: n - 1; 0 without a window
abbrev pub places : Option ℕ → ℕ
places None = 0
places (Some n) = n - 1

-- the sums of a tally are at most those of n packets
abbrev pub IsWithin : ℕ → Tally → Type 0
IsWithin n t = (t.count ≤ n) × (t.data_size ≤ n * 2 ^ 32) × (t.captured_size ≤ n * most_in_unit)
