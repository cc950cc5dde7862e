-- The arguments of a run, and its results.
use Rattle.std.specs.Prelude.{ℕ, Bool, List}
use Rattle.cap_octet.specs.Views.{FreshInput, FreshOutput, OutputView}

-- A call, except its command: the names of the inputs and then of the output; the inputs; the
-- output, with how many bytes it takes at least before it first fails; and the device for messages,
-- with whether contracts know its bytes.
pub record Call : Type 0 where
  pub names : List (List ℕ)
  pub inputs : List FreshInput
  pub output : OutputView
  pub room : ℕ
  pub messages : OutputView
  pub tells : Bool

-- the call with these arguments
abbrev pub call_of : (names : List (List ℕ)) → List FreshInput → (output messages : FreshOutput)
    → Call
call_of names inputs output messages = record {
  names = names;
  inputs = inputs;
  output = output.view;
  room = output.room;
  messages = messages.view;
  tells = messages.tells;
}

-- what a run returns
pub record RunResult : Type 0 where
  pub status : ℕ
  pub output : OutputView
  pub messages : OutputView

-- the result with these parts
abbrev pub run_result : ℕ → OutputView → OutputView → RunResult
run_result status output messages = record { status = status; output = output; messages = messages }
