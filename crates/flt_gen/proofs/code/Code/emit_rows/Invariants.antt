-- The members so far are in front.
use Rattle.flt_gen.proofs.Common.{◌≡◌, take, reverse, block, rows_formula}
use Rattle.flt_gen.specs.inside.Code.{emit_formula}
use Rattle.flt_gen.proofs.code.Code.emit_rows.Given as goal

abbrev pub invariant-loop-entry : goal.invariant-loop-entry
invariant-loop-entry g l =
    emit_formula l.link (rows_formula l.link (reverse (take l.entry-index l.entries))) l.to.yes l.to.no l.initial.self ≡ block l.self l.no
