-- The cursor at an index is the one that contracts see there.
use Rattle.cap_inputs.proofs.Cursors.{get-among}
use Rattle.cap_inputs.proofs.inputs.Inputs.cursor.Goals as goal

pub returns : goal.returns
returns g c = rw (← c.self.view_is) (get-among c.self.inside.cursors.items c.args.input c.index.result.now (rw (← c.self.view_is) at c.requires)
    c.index.ensures)
