-- The call reports the listing that was put, or the failure.
use Rattle.capkit_c.proofs.Telling.{told_kept}
use Rattle.capkit_c.proofs.listings.tell_listing.Goals as goal

pub returns : goal.returns
returns g c = told_kept _ _ c.put_listing.result _ _ c.put_listing.ensures.put c.put_listing.ensures.failed c.put_listing.ensures.kept
    c.tell.ensures.ok c.tell.ensures.err
