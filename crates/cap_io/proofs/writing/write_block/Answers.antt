-- File start, interface and packet are written in this order, or a prefix of them.
use Rattle.cap_io.proofs.Common.{arith, err_from_is_err_and, captured, Appends, description_text}
use Rattle.std.proofs.Common.{Ok, Err}
use Rattle.cap_io.proofs.Parts.{appends-exactly, appends-nothing, appends-stopped, appends-then}
use Rattle.cap_io.proofs.writing.write_block.Goals as goal

pub returns-in_err-write_file_start : goal.returns-in_err-write_file_start
returns-in_err-write_file_start g c =
    let e = err_from_is_err_and c.from_residual.result c.from_residual.ensures.1 in
    rw e.1 (appends-stopped _ _ _ _ _ _ c.in_err-write_file_start.ensures)

pub returns-in_err-map_err : goal.returns-in_err-map_err
returns-in_err-map_err g c =
    let e = err_from_is_err_and c.from_residual-in_err-map_err.result c.from_residual-in_err-map_err.ensures.1 in
    let stopped : Appends g.O.Output c.write_file_start.new.output (description_text c.args.interface.is_new (captured c.args.packet.now))
    (Err (record {})) c.write_interface.new.output =
    rw c.if-interface.true (rw c.in_err-map_err.was at (appends-exactly _ _ _ _ c.write_interface.result c.map_err.result
    c.map_err.ensures.variant c.write_interface.ensures)) in
    rw e.1 (appends-then _ _ _ _ _ _ _ c.in_ok-write_file_start.ensures (appends-stopped _ _ _ _ _ _ stopped))

pub returns : goal.returns
returns g c =
    let described : Appends g.O.Output c.write_file_start.new.output (description_text c.args.interface.is_new (captured c.args.packet.now)) (Ok tt)
    c.if-interface.output = grind (arith, appends-exactly, appends-nothing) in
    appends-then _ _ _ _ _ _ _ c.in_ok-write_file_start.ensures
    (appends-then _ _ _ _ _ _ _ described (appends-exactly _ _ _ _ c.write_packet.result c.map_err-2.result c.map_err-2.ensures.variant
    c.write_packet.ensures))
