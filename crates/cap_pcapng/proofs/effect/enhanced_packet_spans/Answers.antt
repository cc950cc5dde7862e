-- The packet lies within its block, and is that of the definitions.
use Rattle.std.proofs.Common.{◌∙◌, ℕ, length, refl, sym, ap, arith, length-drop}
use Rattle.cap_pcapng.proofs.{Common.description_of, Entered.enhanced_found, Entered.known_interface}
use Rattle.cap_pcapng.proofs.effect.enhanced_packet_spans.Goals as goal

pub returns : goal.returns
returns g c =
    rw (c.new.ensures, c.new-2.ensures) (enhanced_found c.args.block.now.order (g.T.Interfaces.list c.args.table.now)
    (description_of c.in-Some.interface) c.args.block.now.interface c.args.block.now.ticks c.args.block.now.captured c.args.block.now.orig
    c.in_ok-time.time c.args.size _ c.args.block.now.rest.now _
    (known_interface c.get.result description_of c.in-Some.interface _ c.in-Some.is c.get.ensures) c.in_ok-data.ensures.0
    (sym c.in_ok-time.was ∙ c.time_at.ensures.answer) c.in_ok-time.ensures.in_range c.options.ensures.rest refl)

pub overflow_cast-options : goal.overflow_cast-options
overflow_cast-options g c = omega (arith, ap length c.options.ensures.rest, length-drop {A = ℕ})

pub overflow_sub-following : goal.overflow_sub-following
overflow_sub-following g c = omega (arith, ap length c.options.ensures.rest, length-drop {A = ℕ})
