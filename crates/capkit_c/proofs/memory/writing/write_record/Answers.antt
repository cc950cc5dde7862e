-- No check fails, and the parts are the record.
use Rattle.capkit_c.proofs.Common.{◌≡◌, ◌++◌, [], ◌∷◌, ◌^◌, List, ℕ, true, refl, ap, ap₂, sym, ◌∙◌, rules, nat_lt, append-nil, first_failing, TimeOutOfRange}
use Rattle.capkit_c.proofs.Common.{checked_ok, met_front, written_packet}
use Rattle.capkit_c.proofs.Writes.{unrefused}
use Rattle.cap_pcap.specs.Encoding.{record_fit_checks, record_header}
use Rattle.capkit_c.proofs.memory.writing.write_record.Goals as goal

pub returns-in-Ok : goal.returns-in-Ok
returns-in-Ok c =
    let p = written_packet c.args.time c.args.original c.args.bytes.now [] in
    let early : nat_lt c.args.time (2 ^ 63) ≡ true = search rules in
    let fits = checked_ok (first_failing (record_fit_checks p)) tt tt (sym c.in-Ok.ensures) in
    unrefused _ _ _ _ _ c.put_parts.result
    (met_front ((nat_lt c.args.time (2 ^ 63), TimeOutOfRange) ∷ []) (record_fit_checks p) (rw early refl) ∙ fits.0)
    (ap₂ (λ (h t : List ℕ). h ++ t) (c.record_bytes-head.ensures ∙ ap (λ r. record_header r p) c.pcap_format-format.ensures.resolution)
    (append-nil c.args.bytes.now))
    c.put_parts.ensures
