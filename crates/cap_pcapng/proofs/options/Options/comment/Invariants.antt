-- The first comment is among the remaining options.
use Rattle.std.proofs.Common.{◌≡◌, length}
use Rattle.cap_pcapng.proofs.Common.{first_value, fitting_options, comment_code, options_left}
use Rattle.cap_pcapng.proofs.options.Options.comment.Given as goal

abbrev pub invariant-loop-option : goal.invariant-loop-option
invariant-loop-option l = first_value comment_code (fitting_options (options_left l.fn.self)) ≡ first_value comment_code (fitting_options (options_left l.self))

abbrev pub decreases-loop-option : goal.decreases-loop-option
decreases-loop-option l = length (options_left l.self)
