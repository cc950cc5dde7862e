-- The times of an interface follow from the resolution among its options.
use Rattle.cap_pcapng.proofs.{Common.first_value, Common.fitting_options, Common.resolution_code, Common.options_left, InterfaceLists.units-some}
use Rattle.cap_pcapng.proofs.blocks.InterfaceBlock.of_body.Goals as goal

pub invariant_of-interface : goal.invariant_of-interface
invariant_of-interface c =
    let exact = first_value resolution_code (fitting_options (options_left c.new-options.result)) in
    record { moves = rw (c.unwrap_or-2.ensures, c.in_ok-found.ensures.1.units) (units-some exact) }
