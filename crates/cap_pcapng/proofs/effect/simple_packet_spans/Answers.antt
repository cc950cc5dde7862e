-- The packet lies within its block, and is that of the definitions.
use Rattle.cap_pcapng.proofs.{Common.description_of, Entered.known_interface, Entered.simple_found}
use Rattle.cap_pcapng.proofs.effect.simple_packet_spans.Goals as goal

pub returns : goal.returns
returns g c =
    rw (c.new.ensures, c.new-2.ensures, c.captured.ensures) (simple_found (g.T.Interfaces.list c.args.table.now) (description_of c.in-Some.interface)
    c.args.block.now.orig c.args.size c.args.block.now.rest.now
    (known_interface c.get.result description_of c.in-Some.interface _ c.in-Some.is c.get.ensures) c.in_ok-data.ensures.0)
