-- File start and record are written in this order, or a prefix of them.
use Rattle.cap_io.proofs.Common.{arith, append-nil, err_from_is_err_and, captured}
use Rattle.std.proofs.Common.{◌≡◌, ℕ, List, [], ◌++◌, ap, ◌∙◌}
use Rattle.cap_io.proofs.Parts.{appends-as, appends-stopped, appends-then}
use Rattle.{cap_io.specs.Text.record_text, cap_pcap.specs.Encoding.resolution_of}
use Rattle.cap_io.proofs.writing.write_record.Goals as goal

pub returns-in_err-write_file_start : goal.returns-in_err-write_file_start
returns-in_err-write_file_start g c =
    let e = err_from_is_err_and c.from_residual.result c.from_residual.ensures.1 in
    rw e.1 (appends-stopped _ _ _ _ _ _ c.in_err-write_file_start.ensures)

pub returns : goal.returns
returns g c =
    let front : List ℕ = c.record_bytes.result in
    let bytes : List ℕ = c.args.packet.now.bytes.now in
    let same : front ++ (bytes ++ []) ≡ record_text (resolution_of c.args.format) (captured c.args.packet.now) =
    ap (λ (l : List ℕ). front ++ l) (append-nil bytes) ∙ ap (λ (l : List ℕ). l ++ bytes) c.record_bytes.ensures in
    appends-then _ _ _ _ _ _ _ c.in_ok-write_file_start.ensures (grind (arith, appends-as))
