-- The status of a command line that isn't run: help, version or a refusal.
use Rattle.std.specs.Prelude.{ℕ, Bool, true, false, if◌then◌else◌}
use Rattle.clap.specs.Words.{kind_of}
use Rattle.clap.specs.declared.error.kind.ErrorKind.{ErrorKind, TheVariants.DisplayHelp, TheVariants.DisplayVersion}
use Rattle.capkit.specs.declared.usage.Usage.{Usage, TheVariants.Memory, TheVariants.Refused}

-- whether the words ask for help or the version
abbrev pub is_request : ErrorKind → Bool
is_request DisplayHelp = true
is_request DisplayVersion = true
is_request _ = false

-- The exit status: for help and the version 0 if they could be written, else 1; 1 if memory ran out
-- after clap had read the words; 2 for other refused words, and if clap itself ran out of memory.
abbrev pub status_of : Usage → (is_written : Bool) → ℕ
status_of (Refused error) is_written =
    if is_request (kind_of error) then (if is_written then 0 else 1) else 2
status_of Memory is_written = 1
status_of _ is_written = 2
