-- Without a round code is its own: nothing moves, and nothing is shortened.
use Rattle.flt_short.proofs.{Likeness.itself, Threading.threads_itself}
use Rattle.flt_gen.proofs.program.optimised.Goals as goal

pub returns-then-not-is_wanted : goal.returns-then-not-is_wanted
returns-then-not-is_wanted g c = let code = c.args.insns.items in record { moved = code; threads = threads_itself code; shortens = itself code }
