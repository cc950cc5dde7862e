-- The result of a compilation for C.
use Rattle.std.specs.List.{list_all}
use Rattle.std.specs.Prelude.{◌≡◌, ℕ, ◌+◌, ◌<◌, ◌≤◌, ◌==◌, if◌then◌else◌, Bool, true, false, List, length, take, drop, None, Some, unwrap_or}
use Rattle.std.specs.Str.{IsUtf8, IsValidUpTo}
use Rattle.flt_bpf.specs.declared.insn.Insn.{Insn}
use Rattle.flt_words.specs.{Characters.is_blank, declared.fault.ExprFault.ExprFault}
use Rattle.flt_words.specs.Messages as messages
use Rattle.cap_octet.specs.{Assigned.LINKTYPE_RAW, Link.link_of}
use Rattle.cap_octet.specs.declared.link.Link.{Link, TheVariants.Ether}
use Rattle.cap_filter.specs.Expressions.{IsCompiled, IsTextFault}
use Rattle.capkit_c.specs.{Running.rule_number, declared.compiling.Failure.Failure}
use Rattle.capkit_c.specs.declared.compiling.Failure.TheVariants.{Text, NotUtf8, LinkType, NoRoom, NotListing, Invalid}

-- libpcap's pcap_datalink() for raw IP
abbrev pub DLT_RAW : ℕ
DLT_RAW = 12

-- the link type in files; for raw IP libpcap's own number is accepted too
abbrev pub file_link_type : ℕ → ℕ
file_link_type n = if n == DLT_RAW then LINKTYPE_RAW else n

-- whether a text has no token, so that it is the empty expression, which matches every packet
abbrev pub are_blanks : List ℕ → Bool
are_blanks text = list_all is_blank text

-- the link that a text is compiled for: that of the link type; for an unknown link type the empty
-- expression, which reads no header, is compiled as for Ethernet
pub data IsLinkFor (text : List ℕ) (link_type : ℕ) : Link → Type 0 where
  of_link_type : {link : Link} → link_of (file_link_type link_type) ≡ Some link
      → IsLinkFor text link_type link
  of_any : link_of (file_link_type link_type) ≡ None → are_blanks text ≡ true
      → IsLinkFor text link_type Ether

-- a text isn't the empty expression, and the link type is unknown
pub record HasNoLink (text : List ℕ) (link_type : ℕ) : Type 0 where
  pub unknown : link_of (file_link_type link_type) ≡ None
  pub has_tokens : are_blanks text ≡ false

-- a program for the expression, on packets of a link type: it is valid, accepts exactly the packets
-- that match, and has at most as many instructions as the expression's bound
pub record IsFor (text : List ℕ) (link_type : ℕ) (prog : List Insn) : Type 0 where
  pub link : Link
  pub read : IsLinkFor text link_type link
  pub compiled : IsCompiled text link prog

-- the first `count` instructions are such a program, and those after them are unchanged
pub record WritesProgram (text : List ℕ) (link_type : ℕ) (old new : List Insn)
    (count : ℕ) : Type 0 where
  pub program : IsFor text link_type (take count new)
  pub same_length : length new ≡ length old
  pub fits : count ≤ length old
  pub rest : drop count new ≡ drop count old

-- from this byte on, counted from 1, a text isn't UTF-8
pub record IsNotUtf8 (text : List ℕ) (at : ℕ) : Type 0 where
  pub not_utf8 : ¬ IsUtf8 text
  pub before : ℕ
  pub valid : IsValidUpTo text before
  pub counted : at ≡ before + 1

-- why a text isn't an expression; or, for any text, that memory ran out
abbrev pub IsTextFailure : List ℕ → Failure → Type 0
IsTextFailure text (Text refusal) = IsTextFault text refusal
IsTextFailure text (NotUtf8 at) = IsNotUtf8 text at
IsTextFailure text _ = ⊥

-- why there is no program
abbrev pub IsFailure : List ℕ → ℕ → ℕ → Failure → Type 0
IsFailure text link_type room LinkType = HasNoLink text link_type
IsFailure text link_type room (NoRoom needed) =
    (room < needed) × ((prog : List Insn) × IsFor text link_type prog × (length prog ≡ needed))
IsFailure text link_type room failure = IsTextFailure text failure

-- the status of a failure
abbrev pub failure_status : Failure → ℕ
failure_status (Text ExprFault.TooLong) = 1
failure_status (Text (ExprFault.UnknownCharacter at)) = 2
failure_status (Text (ExprFault.UnknownWord at)) = 3
failure_status (Text (ExprFault.NumberTooLarge at)) = 4
failure_status (Text ExprFault.NotAnExpression) = 5
failure_status (Text ExprFault.NestedTooDeep) = 6
failure_status (Text ExprFault.QualifiersDoNotFit) = 7
failure_status (Text ExprFault.ValueOutOfRange) = 8
failure_status (Text ExprFault.BitsPastMask) = 9
failure_status (Text ExprFault.DivisionByZero) = 10
failure_status (Text ExprFault.TooManyWords) = 11
failure_status (Text ExprFault.ProgramTooLong) = 12
failure_status (Text ExprFault.Memory) = 13
failure_status (NotUtf8 at) = 14
failure_status LinkType = 15
failure_status (NoRoom needed) = 16
failure_status (NotListing line) = 17
failure_status (Invalid rule) = rule_number rule

-- the number next to the status: the place of a wrong text's fault, in bytes or lines from 1; or
-- the number of instructions; else 0
abbrev pub failure_number : Failure → ℕ
failure_number (Text refusal) = unwrap_or (messages.place_of refusal) 0
failure_number (NotUtf8 at) = at
failure_number (NoRoom needed) = needed
failure_number (NotListing line) = line
failure_number _ = 0

-- what a number and a status mean: with 0 the call has succeeded; otherwise they are those of a
-- failure, which this explains
pub data Tells (Done : ℕ → Type 0) (Why : Failure → Type 0) (number : ℕ) : ℕ → Type 0 where
  is_done : Done number → Tells Done Why number 0
  has_failed : (failure : Failure) → Why failure → number ≡ failure_number failure
      → Tells Done Why number (failure_status failure)

-- status 0 and a program; or another status, and the instructions are unchanged
abbrev pub CompilesText : List ℕ → ℕ → (old new : List Insn) → (number status : ℕ) → Type 0
CompilesText text link_type old new number status =
    Tells (WritesProgram text link_type old new)
    (λ failure. IsFailure text link_type (length old) failure × (new ≡ old)) number status
