-- How a run ends, by whether its output could be written.
use Rattle.std.specs.Prelude.{ℕ, Bool, true, false, ◌||◌, Option, Some, None, is_some, max, if◌then◌else◌}
use Rattle.std.specs.declared.io.ErrorKind.{ErrorKind, TheVariants.BrokenPipe}

-- a write failed because the reader of a pipe went away
abbrev pub is_broken_pipe : Option ErrorKind → Bool
is_broken_pipe (Some BrokenPipe) = true
is_broken_pipe _ = false

-- a write of the job failed (`cause`), or that of buffered bytes after the job (`flushed`)
abbrev pub has_failed : (cause flushed : Option ErrorKind) → Bool
has_failed cause flushed = is_some cause || is_some flushed

-- The exit status of a run whose job ended with `status`. The job's own message has reported its
-- failed write, but not that of buffered bytes: None means that this must still be reported, unless
-- the reader of a pipe went away.
abbrev pub status_after_writes : (status : ℕ) → (cause flushed : Option ErrorKind) → Option ℕ
status_after_writes status None None = Some status
status_after_writes status (Some cause) flushed = Some (max status 1)
status_after_writes status None (Some flushed) = if is_broken_pipe (Some flushed) then Some 1 else None
