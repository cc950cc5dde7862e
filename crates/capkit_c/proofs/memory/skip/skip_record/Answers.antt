-- A record is skipped if only its time is refused.
use Rattle.std.proofs.Common.{◌≡◌, ◌∙◌, ap, arith, drop, refl, subst, sym}
use Rattle.cap_io.specs.Capture.{PcapFile}
use Rattle.cap_io.specs.declared.file_state.FileState.TheVariants as form
use Rattle.cap_pcap.specs.Record.{record_size}
use Rattle.capkit_c.specs.inside.Skipping.{Moves}
use Rattle.capkit_c.specs.declared.memory.skip.RefusedPart.{RefusedPart}
use Rattle.capkit_c.proofs.Skips.{kept, moved, not_record, past_is}
use Rattle.capkit_c.proofs.memory.skip.skip_record.Goals as goal

pub returns-else-text : goal.returns-else-text
returns-else-text c =
    let head = c.args.head.now in
    let past = past_is c.args.capture.now c.args.reader.now c.args.table.now (form.Pcap head) c.args.fault RefusedPart.Time c.requires.form
    c.requires.refused (sym c.in-Time.is ∙ c.refused_part.ensures) in
    let size : c.record_size-size.result ≡ record_size head (drop c.args.reader.now.offset c.args.capture.now) = c.record_size-size.ensures
    ∙ ap (record_size head) c.bytes_from-text.ensures in
    moved c.args.capture.now c.args.reader.now c.go_past.new.reader c.args.table.now (form.Pcap head) c.known_interfaces-count.result
    (record { size = record_size head (drop c.args.reader.now.offset c.args.capture.now); declared = PcapFile head }) c.go_past.result past refl (omega arith)
    c.known_interfaces-count.ensures.fits c.known_interfaces-count.ensures.bounds
    (subst (λ n. Moves c.args.capture.now n (form.Pcap head) c.known_interfaces-count.result c.args.reader.now c.go_past.new.reader c.go_past.result)
    size c.go_past.ensures)

pub returns-in_default : goal.returns-in_default
returns-in_default c = grind (arith, kept, past_is, not_record)
