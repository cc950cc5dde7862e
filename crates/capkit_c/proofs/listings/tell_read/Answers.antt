-- The call reports the instructions that were read, or the failure.
use Rattle.capkit_c.proofs.Telling.{told_kept}
use Rattle.capkit_c.proofs.listings.tell_read.Goals as goal

pub returns : goal.returns
returns g c = told_kept _ _ c.read_into.result _ _ c.read_into.ensures.held c.read_into.ensures.failed c.read_into.ensures.kept c.tell.ensures.ok
    c.tell.ensures.err
