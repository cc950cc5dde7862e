-- The text has the bytes so far.
use Rattle.std.proofs.Common.{◌≡◌, ◌+◌, ◌*◌, ◌++◌, length}
use Rattle.cap_print.specs.Addresses.{bytes_with_colons}
use Rattle.cap_print.proofs.address.push_mac.Given as goal

abbrev pub invariant-loop-i : goal.invariant-loop-i
invariant-loop-i l = record {
  bound : length l.text ≡ length l.fn.text + 3 * l.i + 2;
  value : l.text ≡ l.fn.text ++ bytes_with_colons l.bytes l.at l.i;
}
