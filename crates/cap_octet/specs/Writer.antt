-- A writer that reports how many bytes it had written when the device failed.
use Rattle.std.specs.Prelude.{◌≡◌, ◌+◌, ◌<◌, ℕ, List, length, Result, IfErr, IsTrue}
use Rattle.cap_octet.specs.Device.{WritesAll, failures_of}
use Rattle.cap_octet.specs.declared.device.{Output.Ghosts, Stopped.Stopped}

-- All bytes are written; or the device failed, and the error states how many bytes were written
-- before, which is fewer than all.
pub record WritesExactly {Device : Type 0} (d : Ghosts Device) (old : Device) (bytes : List ℕ)
    (r : Result (Unit {0}) Stopped) (new : Device) : Type 0 where
  pub front : IfErr r (λ stopped. stopped.written < length bytes)
  pub failed : d.failures new ≡ d.failures old + failures_of r
  pub room : d.room new ≡ d.room old
  pub exact : IsTrue d.tells → WritesAll (d.written old) bytes r (d.written new)
