-- One more comes in front.
use Rattle.flt_gen.proofs.Turned.{one_more_row}
use Rattle.flt_gen.proofs.code.Code.emit_rows.Goals as goal

pub loop-entry-preserved : goal.loop-entry-preserved
loop-entry-preserved g c =
    one_more_row c.args.link c.args.entries.now c.loop-entry.entry-index _ c.args.to.yes c.args.to.no c.args.self.now c.loop-entry.self
    c.emit_entry.new.self c.loop-entry.no c.in_ok-no.no c.loop-entry-test.true c.loop-entry.invariant c.in_ok-no.ensures
