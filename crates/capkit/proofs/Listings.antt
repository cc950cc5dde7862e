-- A command with a proper listing may be run.
use Rattle.capkit.proofs.Common.{◌≡◌, ℕ, Bool, true, false, ◌||◌, nat_lt, refl, string_bytes, arith, lt-ltb, Global, Vec}
use Rattle.std.proofs.Common.{zero, suc, ◌&&◌, not, nat_eq}
use Rattle.capkit.specs.Line.{has_expression, with_code}
use Rattle.cap_command.specs.{Command.is_proper, declared.command.Command.Command}

no-words : (a h r : Bool) (n : ℕ) → (a && (h && r)) && not (nat_lt 0 n) ≡ true → (a && ((nat_eq n 0 || false) && r)) ≡ true
no-words false h r n is = (cc)
no-words true false r n is = (cc)
no-words true true false n is = (cc)
no-words true true true zero is = refl
no-words true true true (suc n) is = grind (arith, lt-ltb)

both : (a b : Bool) → (a && b) ≡ true → a ≡ true
both true b is = refl
both false b is = (cc)

-- a proper command without words is proper with a listing too
pub listed : (c : Command Global) (bytes : Vec ℕ) (inputs : ℕ) → (is_proper c inputs && not (has_expression c)) ≡ true → is_proper (with_code c bytes)
    inputs ≡ true
listed (Command.Print print) bytes inputs is = grind (arith, no-words, nat_eq, string_bytes)
listed (Command.Edit edit) bytes inputs is = both _ _ is
listed (Command.Merge merge) bytes inputs is = both _ _ is
listed Command.Infos bytes inputs is = both _ _ is
listed (Command.Compile compile) bytes inputs is = both _ _ is
