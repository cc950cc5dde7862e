-- What a name means: a path, or a standard stream.
use Rattle.std.specs.Fd.{file_raw_fd}
use Rattle.std.specs.Prelude.{ℤ, pos, int_lt, Bool, true, false, not}
use Rattle.capkit.specs.declared.streams.Created.{Created}

-- whether an output is standard output
abbrev pub is_standard_output : {S : Type 0} → Created S → Bool
is_standard_output (Created.File output) = false
is_standard_output (Created.Stream stream) = true

-- whether the output is a file that may still hold its earlier bytes: until the first write, and
-- from then on if there is none and the status isn't 0
abbrev pub holds_old_bytes : {S : Type 0} → Created S → Bool
holds_old_bytes (Created.File output) = not output.is_emptied
holds_old_bytes (Created.Stream stream) = false

-- whether the descriptor of an open file isn't that of standard input, output or error: 0 to 2
abbrev pub is_beside_streams : ℤ → Bool
is_beside_streams number = int_lt (pos 2) number

-- an output file doesn't have the descriptor of a standard stream, so what is written to that
-- stream, for example a message, never goes into the file
abbrev pub is_output_beside_streams : {S : Type 0} → Created S → Bool
is_output_beside_streams (Created.File output) = is_beside_streams (file_raw_fd output.file)
is_output_beside_streams (Created.Stream stream) = true
