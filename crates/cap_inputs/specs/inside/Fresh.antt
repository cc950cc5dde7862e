-- The limits of inputs that weren't read yet.
use Rattle.std.specs.Prelude.{◌+◌, length}
use Rattle.cap_octet.specs.Views.{FreshInput}
use Rattle.cap_inputs.specs.Inputs.{DeviceLimits}

-- the limits of the device of an input that was handed over
abbrev pub fresh_limits : FreshInput → DeviceLimits
fresh_limits o = record { sure = o.sure; in_all = o.given + length o.text }
