-- What contracts see of the devices that a call takes and returns.
use Rattle.std.specs.Prelude.{ℕ, Bool, List, Option}
use Rattle.cap_octet.specs.declared.device.Input as input
use Rattle.cap_octet.specs.declared.device.Output as output

-- an input before a call: its unread bytes, how many bytes it has given, how often it has failed,
-- and how many bytes it gives at least before it first fails (None: it never fails)
pub record FreshInput : Type 0 where
  pub text : List ℕ
  pub given : ℕ
  pub failures : ℕ
  pub sure : Option ℕ

-- the view of an input before a call
abbrev pub fresh_input : {I : Type 0} → input.Ghosts I → I → FreshInput
fresh_input device i =
    record {
      text = device.unread i;
      given = device.given i;
      failures = device.failures i;
      sure = device.sure i;
    }

-- the bytes written to an output, if contracts know them, and the number of its failures
pub record OutputView : Type 0 where
  pub written : List ℕ
  pub failures : ℕ

-- the view with these bytes and failures
abbrev pub output_view : List ℕ → ℕ → OutputView
output_view written failures = record { written = written; failures = failures }

-- the view of an output
abbrev pub device_view : {O : Type 0} → output.Ghosts O → O → OutputView
device_view device o = output_view (device.written o) (device.failures o)

-- an output before a call, with how many bytes it takes at least before it first fails, and whether
-- contracts know its bytes
pub record FreshOutput : Type 0 where
  pub view : OutputView
  pub room : ℕ
  pub tells : Bool

-- the view of an output before a call
abbrev pub fresh_output : {O : Type 0} → output.Ghosts O → O → FreshOutput
fresh_output device o =
    record { view = device_view device o; room = device.room o; tells = device.tells }
