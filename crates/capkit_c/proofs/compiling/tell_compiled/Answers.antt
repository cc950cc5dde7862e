-- The call reports the program that was written, or the failure.
use Rattle.capkit_c.proofs.Telling.{told_kept}
use Rattle.capkit_c.proofs.compiling.tell_compiled.Goals as goal

pub returns : goal.returns
returns g c = told_kept _ _ c.compile_into.result _ _ c.compile_into.ensures.written c.compile_into.ensures.failed c.compile_into.ensures.kept
    c.tell.ensures.ok c.tell.ensures.err
