-- Which packets a filter keeps.
use Rattle.std.specs.Prelude.{ℕ, ◌==◌, not, List, length, Option, None, Some, ◌≡◌, Bool, true, false, if◌then◌else◌, Result, Ok, Err}
use Rattle.cap_octet.specs.{Link.link_of, Packet.Captured}
use Rattle.cap_octet.specs.declared.{fault.Fault.Fault, fault.Fault.TheVariants.LinkTypeNotFiltered, link.Link.Link}
use Rattle.flt_bpf.specs.{Listing.IsListing, Machine.machine, Machine.Progress, Machine.Answered}
use Rattle.flt_bpf.specs.Valid.{IsValid, BreaksFirst}
use Rattle.flt_bpf.specs.declared.{fault.ListingFault.ListingFault, insn.Insn.Insn}
use Rattle.flt_bpf.specs.Refusal as listing
use Rattle.flt_ast.specs.Tree.{Expression, empty, truth}
use Rattle.flt_gen.specs.{Elementary.MatchResult, Elementary.Yes, Elementary.No, Elementary.Rejected, Reading.holds}
use Rattle.cap_filter.specs.Expressions.{IsExpression, IsTextFault}
use Rattle.cap_filter.specs.declared.filter.Refusal.{Refusal}
use Rattle.flt_words.specs.declared.fault.ExprFault.{ExprFault}

-- what is decided about a packet: it is kept, or skipped, or its fault ends the job
pub data Decision : Type 0 where
  Keep : Decision
  Skip : Decision
  Refuse : (fault : Fault) → Decision

-- a packet is kept or skipped
abbrev pub keep_if : Bool → Decision
keep_if kept = if kept then Keep else Skip

-- what a call returns for a decision: whether the packet is kept; or the fault, if it is refused
abbrev pub ReturnsDecision : Decision → Result Bool Fault → Type 0
ReturnsDecision (Refuse refusal) r = r ≡ Err refusal
ReturnsDecision Keep (Ok kept) = kept ≡ true
ReturnsDecision Skip (Ok kept) = kept ≡ false
ReturnsDecision Keep (Err fault) = ⊥
ReturnsDecision Skip (Err fault) = ⊥

-- ---- which packets are kept

-- what decides whether a packet is kept: an expression, or a program
pub data Rule : Type 0 where
  by_reading : (e : Expression) → Rule
  by_answer : (prog : List Insn) → Rule

-- a packet is kept if an expression matches; one that is rejected isn't
abbrev pub decision_of : MatchResult → Decision
decision_of Yes = Keep
decision_of No = Skip
decision_of Rejected = Skip

-- what an expression decides about a packet on a link; a packet whose link type no link has is
-- refused
abbrev pub read_on : Expression → Option Link → Captured → Decision
read_on e None p = Refuse LinkTypeNotFiltered
read_on e (Some link) p = decision_of (holds e link p.bytes p.orig)

-- the empty expression keeps all packets, even of link types that expressions don't know
abbrev pub expression_decides : Expression → Captured → Decision
expression_decides empty p = Keep
expression_decides (truth a) p = read_on (truth a) (link_of p.link) p

-- a packet is kept if a program that ended like this accepts it
abbrev pub answering : Progress → Decision
answering (Answered answer count) = keep_if (not (answer == 0))
answering _ = Skip

-- what a rule decides about a packet; a valid program ends within as many steps as it has
-- instructions
abbrev pub rule_decides : Rule → Captured → Decision
rule_decides (by_reading e) p = expression_decides e p
rule_decides (by_answer prog) p = answering (machine prog p.bytes p.orig (length prog))

-- ---- what is asked for

-- the rule that an expression means, or a listing if there is one
abbrev pub IsRule : List ℕ → Option (List ℕ) → Rule → Type 0
IsRule words None (by_reading e) = IsExpression words e
IsRule words None (by_answer prog) = ⊥
IsRule words (Some text) (by_reading e) = ⊥
IsRule words (Some text) (by_answer prog) = IsListing text prog × IsValid prog

-- why an expression, or a listing if there is one, is refused; memory may run out for any
abbrev pub IsWhy : List ℕ → Option (List ℕ) → Refusal → Type 0
IsWhy words None (Refusal.Expression fault) = IsTextFault words fault
IsWhy words None (Refusal.Listing fault) = ⊥
IsWhy words None (Refusal.Program fault at) = ⊥
IsWhy words (Some text) (Refusal.Expression fault) = ⊥
IsWhy words (Some text) (Refusal.Listing fault) = listing.IsReasonFor text fault
IsWhy words (Some text) (Refusal.Program fault at) =
    (prog : List Insn) × IsListing text prog × BreaksFirst prog fault at

-- 1 if memory ran out, else 2
abbrev pub refusal_status : Refusal → ℕ
refusal_status (Refusal.Expression ExprFault.Memory) = 1
refusal_status (Refusal.Listing ListingFault.Memory) = 1
refusal_status _ = 2
