-- A file header is skipped if only its link type is refused.
use Rattle.std.proofs.Common.{◌∙◌, ap, arith, drop, refl, sym}
use Rattle.cap_io.specs.Capture.{PcapFile}
use Rattle.cap_io.specs.declared.file_state.FileState.TheVariants as form
use Rattle.capkit_c.specs.Skipping.{head_by_low_bits, is_cut}
use Rattle.capkit_c.specs.declared.memory.skip.RefusedPart.{RefusedPart}
use Rattle.capkit_c.proofs.Skips.{kept, moved, not_header, past_is}
use Rattle.capkit_c.proofs.memory.skip.skip_header.Goals as goal

pub returns-then-text-lt-FILE_HEADER : goal.returns-then-text-lt-FILE_HEADER
returns-then-text-lt-FILE_HEADER c =
    let short = c.if-text-lt-FILE_HEADER.true in
    let past = past_is c.args.capture.now c.args.reader.now c.args.table.now form.Unknown c.args.fault RefusedPart.LinkType c.requires.form
    c.requires.refused (sym c.in-LinkType.is ∙ c.refused_part.ensures) in
    is_cut (record { size = 24; declared = PcapFile (head_by_low_bits (drop c.args.reader.now.offset c.args.capture.now)) }) past
    (rw (sym c.bytes_from-text.ensures) (omega (arith, short))) refl refl

pub returns-else-text-lt-FILE_HEADER : goal.returns-else-text-lt-FILE_HEADER
returns-else-text-lt-FILE_HEADER c =
    let past = past_is c.args.capture.now c.args.reader.now c.args.table.now form.Unknown c.args.fault RefusedPart.LinkType c.requires.form
    c.requires.refused (sym c.in-LinkType.is ∙ c.refused_part.ensures) in
    let head = c.head_by_low_bits-head.ensures ∙ ap head_by_low_bits c.bytes_from-text.ensures in
    moved c.args.capture.now c.args.reader.now c.go_past.new.reader c.args.table.now (form.Pcap c.head_by_low_bits-head.result) 0
    (record { size = 24; declared = PcapFile (head_by_low_bits (drop c.args.reader.now.offset c.args.capture.now)) })
    c.go_past.result past (ap PcapFile (sym head)) (omega arith) (omega arith) (omega arith) c.go_past.ensures

pub returns-in_default : goal.returns-in_default
returns-in_default c = grind (arith, kept, past_is, not_header)
