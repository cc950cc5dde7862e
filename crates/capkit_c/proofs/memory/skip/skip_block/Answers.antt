-- A block is skipped if only its time or its options are refused.
use Rattle.std.proofs.Common.{◌∙◌, Some, arith, length, refl, subst, sym}
use Rattle.cap_io.specs.Capture.{PcapngFile}
use Rattle.cap_io.specs.declared.file_state.FileState.TheVariants as form
use Rattle.cap_pcapng.specs.{Effect.section_of}
use Rattle.capkit_c.specs.Layout.{first_interfaces, most_known}
use Rattle.capkit_c.specs.inside.Skipping.{IsUnread, IsWholeFrame}
use Rattle.capkit_c.proofs.Skips.{kept, moved, past_form, past_full, past_none, past_other, past_time, past_unread}
use Rattle.capkit_c.proofs.memory.skip.skip_block.Goals as goal

pub returns-in_default : goal.returns-in_default
returns-in_default c =
    let none = subst (IsWholeFrame c.args.order c.bytes_from-text.result.now) c.in_default.is c.whole_frame.ensures in
    let section = section_of c.args.order (first_interfaces (most_known c.args.reader.now (length c.args.table.now)) c.args.table.now) in
    kept c.args.capture.now c.args.reader.now c.args.table.now c.args.fault c.requires.refused
    (past_form c.args.capture.now c.args.reader.now c.args.table.now c.args.order c.args.first c.args.fault c.requires.form c.requires.refused
    c.bytes_from-text.result.now c.bytes_from-text.ensures (none (Some section) refl))

pub returns-in_default-unread_interface : goal.returns-in_default-unread_interface
returns-in_default-unread_interface c =
    let whole = subst (IsWholeFrame c.args.order c.bytes_from-text.result.now) c.in-Some.is c.whole_frame.ensures in
    let section = section_of c.args.order (first_interfaces (most_known c.args.reader.now (length c.args.table.now)) c.args.table.now) in
    let unread = subst (IsUnread c.in-Some.frame c.bytes_from-text.result.now) c.in_default-unread_interface.is c.unread_interface.ensures in
    kept c.args.capture.now c.args.reader.now c.args.table.now c.args.fault c.requires.refused
    (past_none c.args.capture.now c.args.reader.now c.args.table.now c.args.order c.args.first c.args.fault c.requires.form c.requires.refused
    c.bytes_from-text.result.now c.bytes_from-text.ensures c.in-Some.frame (whole.2 (Some section) refl)
    (sym c.in-Options.is ∙ c.refused_part.ensures) unread)

pub returns-then-known_interfaces-ge-MOST_INTERFACES : goal.returns-then-known_interfaces-ge-MOST_INTERFACES
returns-then-known_interfaces-ge-MOST_INTERFACES c =
    let full = c.if-known_interfaces-ge-MOST_INTERFACES.true in
    let value = c.known_interfaces.ensures.value in
    kept c.args.capture.now c.args.reader.now c.args.table.now c.args.fault c.requires.refused
    (past_full c.args.capture.now c.args.reader.now c.args.table.now c.args.order c.args.first c.args.fault c.requires.form c.requires.refused
    c.bytes_from-text.result.now c.bytes_from-text.ensures (sym c.in-Options.is ∙ c.refused_part.ensures) (omega (arith, full, value)))

pub skip_interface-requires-clause-unit : goal.skip_interface-requires-clause-unit
skip_interface-requires-clause-unit c =
    let whole = subst (IsWholeFrame c.args.order c.bytes_from-text.result.now) c.in-Some.is c.whole_frame.ensures in
    let section = section_of c.args.order (first_interfaces (most_known c.args.reader.now (length c.args.table.now)) c.args.table.now) in
    let unread = subst (IsUnread c.in-Some.frame c.bytes_from-text.result.now) c.in-Some-unread_interface.is c.unread_interface.ensures in
    let more = c.if-known_interfaces-ge-MOST_INTERFACES.false in
    let value = c.known_interfaces.ensures.value in
    past_unread c.args.capture.now c.args.reader.now c.args.table.now c.args.order c.args.first c.args.fault c.requires.form c.requires.refused
    c.bytes_from-text.result.now c.bytes_from-text.ensures c.in-Some.frame (whole.2 (Some section) refl) c.in-Some-unread_interface.interface
    (sym c.in-Options.is ∙ c.refused_part.ensures) unread (omega (arith, more, value))

pub returns-in-Time : goal.returns-in-Time
returns-in-Time c =
    let whole = subst (IsWholeFrame c.args.order c.bytes_from-text.result.now) c.in-Some.is c.whole_frame.ensures in
    let least = whole.0 in
    let section = section_of c.args.order (first_interfaces (most_known c.args.reader.now (length c.args.table.now)) c.args.table.now) in
    let past = past_time c.args.capture.now c.args.reader.now c.args.table.now c.args.order c.args.first c.args.fault c.requires.form
    c.requires.refused c.bytes_from-text.result.now c.bytes_from-text.ensures c.in-Some.frame (whole.2 (Some section) refl)
    (sym c.in-Time.is ∙ c.refused_part.ensures) in
    let value = c.known_interfaces-count.ensures.value in
    moved c.args.capture.now c.args.reader.now c.go_past.new.reader c.args.table.now (form.Pcapng c.args.order c.args.first)
    c.known_interfaces-count.result (record { size = c.in-Some.frame.length; declared = PcapngFile c.args.first section })
    c.go_past.result past (rw value refl) (omega (arith, least)) c.known_interfaces-count.ensures.fits c.known_interfaces-count.ensures.bounds c.go_past.ensures

pub returns-in_default-refused_part : goal.returns-in_default-refused_part
returns-in_default-refused_part c = grind (arith, kept, past_other)
