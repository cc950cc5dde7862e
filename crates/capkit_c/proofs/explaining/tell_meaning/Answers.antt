-- The call reports the meaning that was put, or the failure.
use Rattle.capkit_c.proofs.Telling.{told_kept}
use Rattle.capkit_c.proofs.explaining.tell_meaning.Goals as goal

pub returns : goal.returns
returns g c = told_kept _ _ c.put_meaning.result _ _ c.put_meaning.ensures.put c.put_meaning.ensures.failed c.put_meaning.ensures.kept
    c.tell.ensures.ok c.tell.ensures.err
