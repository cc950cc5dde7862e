-- A packet is refused for the first check that it fails.
use Rattle.cap_io.proofs.Common.{arith, common_steps}
use Rattle.cap_io.proofs.writing.check_packet.Goals as goal

pub returns-then-link-packet : goal.returns-then-link-packet
returns-then-link-packet g c = grind (arith, common_steps)

pub returns-after-state : goal.returns-after-state
returns-after-state g c = grind (arith, common_steps)

pub returns-in_err-check_block_fits-in-Pcapng : goal.returns-in_err-check_block_fits-in-Pcapng
returns-in_err-check_block_fits-in-Pcapng g c = grind (arith, common_steps)
