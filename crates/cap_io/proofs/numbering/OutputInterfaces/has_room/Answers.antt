-- There is room if the interface is known or fewer than the most are.
use Rattle.std.proofs.Common.{◌≡◌, List, ◌++◌, length, map, nat_le, sym, ap, subst, ◌∙◌}
use Rattle.cap_io.proofs.Common.{arith, length-map, captured, interface_in, lt-ltb}
use Rattle.cap_io.specs.Text.{Interface, interface_of, most_output_interfaces, new_among, is_among}
use Rattle.cap_io.proofs.Interfaces.{among-keys, room-full, room-below}
use Rattle.cap_io.proofs.numbering.OutputInterfaces.has_room.Goals as goal

pub returns-then-len-lt-MOST_OUTPUT_INTERFACES : goal.returns-then-len-lt-MOST_OUTPUT_INTERFACES
returns-then-len-lt-MOST_OUTPUT_INTERFACES g c = grind (arith, captured, length-map, lt-ltb, room-below)

pub returns-else-len-lt-MOST_OUTPUT_INTERFACES : goal.returns-else-len-lt-MOST_OUTPUT_INTERFACES
returns-else-len-lt-MOST_OUTPUT_INTERFACES g c =
    let keys = c.self.inside.keys.keys in
    let i : Interface = interface_of (captured c.args.packet.now) in
    let size : length (map interface_in keys) ≡ most_output_interfaces = omega (
      arith,
      length-map keys interface_in,
      c.self.invariant,
      c.len.ensures.len,
      c.if-len-lt-MOST_OUTPUT_INTERFACES.false,
    ) in
    let P : List Interface → Type 0 = λ l. c.contains.result ≡ nat_le (length (l ++ new_among l i)) most_output_interfaces in
    subst P c.self.view_is (c.contains.ensures ∙ among-keys keys c.of.result ∙ ap (is_among (map interface_in keys)) c.of.ensures
    ∙ sym (room-full (map interface_in keys) i size))
