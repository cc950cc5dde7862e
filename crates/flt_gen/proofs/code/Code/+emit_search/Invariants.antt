-- How often numbers are halved from here on.
use Rattle.flt_gen.proofs.code.Code.+emit_search.Given as goal

abbrev pub decreases-emit_search : goal.decreases-emit_search
decreases-emit_search g l = l.halvings
