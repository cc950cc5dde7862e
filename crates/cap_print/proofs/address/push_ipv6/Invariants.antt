-- The text has the groups so far.
use Rattle.std.proofs.Common.{◌≡◌, ◌+◌, ◌*◌, ◌≤◌, ◌++◌, length}
use Rattle.cap_print.specs.Addresses.{groups}
use Rattle.cap_print.proofs.address.push_ipv6.Given as goal

abbrev pub invariant-loop-i : goal.invariant-loop-i
invariant-loop-i l = record {
  bound : length l.text ≤ length l.fn.text + 5 * l.i + 4;
  value : l.text ≡ l.fn.text ++ groups l.bytes l.at l.i;
}
