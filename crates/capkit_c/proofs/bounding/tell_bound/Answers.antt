-- The call reports the bound, or the failure.
use Rattle.capkit_c.proofs.Telling.{told}
use Rattle.capkit_c.proofs.bounding.tell_bound.Goals as goal

pub returns : goal.returns
returns g c = told c.bound_of_text.result _ _ c.bound_of_text.ensures.bounded c.bound_of_text.ensures.failed c.tell.ensures.ok c.tell.ensures.err
