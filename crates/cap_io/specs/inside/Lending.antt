-- What a device lends, and skips when it is next called.
use Rattle.std.specs.Io.{StartsWith}
use Rattle.std.specs.Prelude.{◌≡◌, ℕ, ◌+◌, ◌^◌, ◌<◌, drop}
use Rattle.cap_octet.specs.{Device.HasGiven, declared.device.Input.Ghosts}

-- The device had lent `lent` bytes and skips them; then it lends the first `count` bytes that it
-- has at hand.
pub record Lends {I : Type 0} (device : Ghosts I) (count : ℕ) (old : I) (lent : ℕ) (new : I)
    (lent' : ℕ) : Type 0 where
  pub is : lent' ≡ count
  pub stays : StartsWith (device.held new) (drop lent (device.held old))
  pub given : device.given new ≡ device.given old + lent
  pub bounded : device.given new + count < 2 ^ 63
  pub failures : device.failures new ≡ device.failures old
  pub sure : device.sure new ≡ device.sure old
  pub enough : 0 < device.failures new → HasGiven (device.sure new) (device.given new + lent')
  pub rest : device.unread new ≡ drop lent (device.unread old)
