-- The blocks so far are complete and have no packet.
use Rattle.std.proofs.Common.{◌≤◌, length}
use Rattle.cap_io.proofs.pcapng.holds_packet.Given as goal

abbrev pub invariant-loop-front : goal.invariant-loop-front
invariant-loop-front l = record { short : length l.rest ≤ length l.fn.bytes }

abbrev pub decreases-loop-front : goal.decreases-loop-front
decreases-loop-front l = length l.rest
