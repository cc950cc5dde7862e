-- The options so far are read.
use Rattle.cap_pcapng.proofs.{Common.options_left, InterfaceLists.HasRead}
use Rattle.cap_pcapng.proofs.interface.FoundOptions.of_options.Given as goal

abbrev pub invariant-loop-option : goal.invariant-loop-option
invariant-loop-option l =
    (goal.iterator-loop-option).can_next l.option-iterator ×
    (goal.iterator-loop-option).is_finite l.option-iterator ×
    HasRead l.options.order (options_left l.options) (options_left l.option-iterator) l.found
