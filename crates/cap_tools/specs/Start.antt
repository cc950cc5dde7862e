-- What a command asks of its job, and what the job does before its first packet.
use Rattle.std.specs.Prelude.{ℕ, not, List, Option, None, Some, string_bytes}
use Rattle.cap_octet.specs.declared.{format.Format.Format, link.Link.Link}
use Rattle.cap_print.specs.declared.print.Options.{Options}
use Rattle.cap_command.specs.{Command.listing_of, declared.command.Command.Command, declared.command.Print.Print}
use Rattle.cap_tools.specs.declared.start.Preparation.{Preparation}
use Rattle.cap_process.specs.{Verdict.edit_rule_of, Verdict.Policy, Verdict.Edit, Verdict.KeepAll, Verdict.Count}
use Rattle.cap_process.specs.declared.output.Writing.{Writing}
use Rattle.cap_io.specs.Sequence.{PacketOrder, InTurn, order_of}

-- a filter by this expression or by a listing, for at most `count` packets
pub record FilterAsked : Type 0 where
  pub words : List ℕ
  pub code : Option (List ℕ)
  pub count : Option ℕ

-- the filter that a print asks for
abbrev pub asked_by : {Z : Type 0} → Print Z → FilterAsked
asked_by print =
    record { words = string_bytes print.expr; code = listing_of print; count = print.count }

-- what a job does before its first packet: reads a filter, or compiles an expression, or nothing
pub data Preparing : Type 0 where
  ReadsFilter : FilterAsked → Preparing
  Compiles : (words : List ℕ) → (link : Link) → Preparing

-- the view of a `Preparation` of the code
abbrev pub preparing_of : {Z : Type 0} → Preparation Z → Preparing
preparing_of (Preparation.Filter print) = ReadsFilter (asked_by print)
preparing_of (Preparation.Listing compile) = Compiles (string_bytes compile.expr) compile.link

-- The preparation, the policy for packets, their order, and what is written. A print's policy is
-- the filter that it reads, and a compilation has no packets: for both, `policy` isn't used.
pub record Assignment : Type 0 where
  pub preparing : Option Preparing
  pub policy : Policy
  pub order : PacketOrder
  pub writing : Writing

-- what a print writes: packets in a format if one is given, else their lines
abbrev pub lines_unless : Option Format → Options → Writing
lines_unless None options = Writing.Lines options
lines_unless (Some format) options = Writing.Capture format

-- the assignment for packets only, without preparation
abbrev pub without_preparation : Policy → PacketOrder → Writing → Assignment
without_preparation policy order to =
    record { preparing = None; policy = policy; order = order; writing = to }

-- the assignment with this preparation; the policy isn't used, and the packets that a print filters
-- come in the order of its input
abbrev pub with_preparation : Preparing → Writing → Assignment
with_preparation preparing to =
    record { preparing = Some preparing; policy = KeepAll; order = InTurn; writing = to }

-- what a command asks of its job
abbrev pub assignment : {Z : Type 0} → Command Z → Assignment
assignment (Command.Edit edit) =
    without_preparation (Edit (edit_rule_of edit)) InTurn (Writing.Capture edit.format)
assignment (Command.Merge merge) =
    without_preparation KeepAll (order_of (not merge.append)) (Writing.Capture merge.format)
assignment Command.Infos = without_preparation Count InTurn Writing.Text
assignment (Command.Print print) =
    with_preparation (ReadsFilter (asked_by print))
    (lines_unless print.write (record { link = print.link; bytes = print.bytes }))
assignment (Command.Compile compile) =
    with_preparation (Compiles (string_bytes compile.expr) compile.link) Writing.Text
