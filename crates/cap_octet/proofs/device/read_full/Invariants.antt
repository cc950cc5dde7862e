-- The first `count` bytes of the buffer are read, as if by one read.
use Rattle.std.proofs.Common.{length, ◌-◌, ◌≡◌, ◌+◌, ◌^◌, ◌<◌, ◌≤◌, IsTrue}
use Rattle.cap_octet.specs.Device.{Takes}
use Rattle.cap_octet.proofs.device.read_full.Given as goal

abbrev pub invariant-loop-count : goal.invariant-loop-count
invariant-loop-count g l = record {
  within : l.count ≤ length l.buf;
  counted : g.I.Input.given l.input ≡ g.I.Input.given l.initial.input + l.count;
  bounded : 0 < l.count → g.I.Input.given l.input < 2 ^ 63;
  failed : g.I.Input.failures l.input ≡ g.I.Input.failures l.initial.input;
  told : IsTrue g.I.Input.tells → g.I.Input.given l.input + length (g.I.Input.unread l.input) ≡ g.I.Input.given l.initial.input + length
      (g.I.Input.unread l.initial.input);
  sure : g.I.Input.sure l.input ≡ g.I.Input.sure l.initial.input;
  exact : IsTrue g.I.Input.tells → Takes (g.I.Input.unread l.initial.input) l.initial.buf l.count (g.I.Input.unread l.input) l.buf;
}

abbrev pub decreases-loop-count : goal.decreases-loop-count
decreases-loop-count g l = length l.initial.buf - l.count
