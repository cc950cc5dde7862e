-- The messages at the end of a command.
use Rattle.std.specs.Fmt.{decimal}
use Rattle.std.specs.Prelude.{◌≡◌, ℕ, ◌+◌, Bool, IsTrue, List, [], ◌∷◌, ◌++◌, Result, codes}
use Rattle.cap_octet.specs.{Device.AppendsOrStops, Device.failures_of, Fault.fault_text, Views.OutputView}
use Rattle.cap_octet.specs.declared.{device.DeviceFault.DeviceFault, fault.Fault.Fault}
use Rattle.flt_words.specs.{Messages.message_of, declared.fault.ExprFault.ExprFault}
use Rattle.flt_bpf.specs.{Message.check_message, Message.listing_message, declared.fault.ListingFault.ListingFault}
use Rattle.cap_filter.specs.declared.filter.Refusal.{Refusal}
use Rattle.cap_filter.specs.declared.filter.Refusal.TheVariants.{Expression, Listing, Program}

-- the end of a line
abbrev pub line_feed : List ℕ
line_feed = 10 ∷ []

-- the message on a fault at a byte offset of the input with this name
abbrev pub fault_message : List ℕ → ℕ → Fault → List ℕ
fault_message name offset fault =
    codes "capkit: " ++ name ++ codes ": offset " ++ decimal offset ++ codes ": "
    ++ fault_text fault ++ line_feed

-- the message if the device of the output with this name failed
abbrev pub write_failed_message : List ℕ → List ℕ
write_failed_message name = codes "capkit: " ++ name ++ codes ": write failed" ++ line_feed

-- the message if there is no memory to start, or for a filter or an expression
abbrev pub no_memory_message : List ℕ
no_memory_message = codes "capkit: no memory" ++ line_feed

-- the message on a refused expression
abbrev pub expression_message : List ℕ → List ℕ
expression_message text = codes "capkit: expression: " ++ text ++ line_feed

-- the message on a refused listing, or on the program in it
abbrev pub code_message : List ℕ → List ℕ
code_message text = codes "capkit: code: " ++ text ++ line_feed

-- the message if a filter is refused, an expression isn't compiled, or memory for it runs out
abbrev pub refusal_message : Refusal → List ℕ
refusal_message (Expression ExprFault.Memory) = no_memory_message
refusal_message (Expression fault) = expression_message (message_of fault)
refusal_message (Listing ListingFault.Memory) = no_memory_message
refusal_message (Listing fault) = code_message (listing_message fault)
refusal_message (Program fault at) = code_message (check_message fault at)

-- A message is written completely; or, if its device failed once, a prefix but not all of it. For a
-- device whose bytes contracts don't know, only its failures are stated.
pub record IsTold (tells : Bool) (old : OutputView) (message : List ℕ)
    (new : OutputView) : Type 0 where
  pub answer : Result (Unit {0}) DeviceFault
  pub exact : IsTrue tells → AppendsOrStops answer old.written message new.written
  pub counted : new.failures ≡ old.failures + failures_of answer
