-- Which names are paths, and which are standard streams.
use Rattle.std.specs.Fd.{file_raw_fd}
use Rattle.std.specs.Prelude.{ℕ, Bool, true, false, not, ◌&&◌, List, Option, Some, None, is_some, codes, if◌then◌else◌}
use Rattle.capkit.specs.{Names.is_standard, Streams.is_beside_streams}
use Rattle.capkit.specs.declared.streams.Opened.{Opened}
use Rattle.capkit.specs.declared.streams.OutputFile.{OutputFile}

-- the path of what is read under a name
abbrev pub input_path : List ℕ → List ℕ
input_path name = if is_standard name then codes "/dev/stdin" else name

-- the path of what is written under a name, or without one
abbrev pub output_path : Option (List ℕ) → List ℕ
output_path (Some name) = if is_standard name then codes "/dev/stdout" else name
output_path None = codes "/dev/stdout"

-- whether an input is standard input
abbrev pub is_standard_input : Opened → Bool
is_standard_input (Opened.File file) = false
is_standard_input (Opened.Stream stream) = true

-- an input file doesn't have the descriptor of a standard stream
abbrev pub is_input_beside_streams : Opened → Bool
is_input_beside_streams (Opened.File file) = is_beside_streams (file_raw_fd file)
is_input_beside_streams (Opened.Stream stream) = true

-- an output's file didn't exist before the run, which wrote nothing to it: it is removed when it is
-- closed
abbrev pub is_new_and_unwritten : OutputFile → Bool
is_new_and_unwritten output = is_some output.created_as && not output.is_emptied
