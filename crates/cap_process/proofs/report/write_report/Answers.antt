-- Name, sizes and times, one after the other, are the report, or a prefix of it if the device
-- fails.
use Rattle.cap_io.proofs.Parts.{appends-following, stops-following, stops-front}
use Rattle.{cap_process.proofs.Lines.report-joined, std.proofs.lemmas.Result.err_from_is_err_and}
use Rattle.cap_process.proofs.report.write_report.Goals as goal

pub returns-in_err-write_name-clause-exact : goal.returns-in_err-write_name-clause-exact
returns-in_err-write_name-clause-exact g c = λ tells.
    let fault = err_from_is_err_and c.from_residual.result c.from_residual.ensures.1 in
    rw (fault.1, ← report-joined) (stops-front _ _ _ _ (c.in_err-write_name.ensures.exact tells))

pub returns-in_err-write_sizes-clause-exact : goal.returns-in_err-write_sizes-clause-exact
returns-in_err-write_sizes-clause-exact g c = λ tells.
    let fault = err_from_is_err_and c.from_residual-in_err-write_sizes.result c.from_residual-in_err-write_sizes.ensures.1 in
    rw (fault.1, ← report-joined)
    (stops-following _ _ _ _ _ (c.in_ok-write_name.ensures.exact tells) (stops-front _ _ _ _ (c.in_err-write_sizes.ensures.exact tells)))

pub returns-clause-exact : goal.returns-clause-exact
returns-clause-exact g c = λ tells.
    rw (← report-joined)
    (appends-following _ _ _ _ _ _ (c.in_ok-write_name.ensures.exact tells)
    (appends-following _ _ _ _ _ _ (c.in_ok-write_sizes.ensures.exact tells) (c.write_times.ensures.exact tells)))
