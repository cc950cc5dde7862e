-- A step of the code is a step of the machine.
use Rattle.flt_lang.proofs.Stepping.{run_goes_on, run_begins_on, run_stops, run_begins_none}
use Rattle.std.proofs.{Common.arith, lemmas.Result.err_from_is_err_and}
use Rattle.flt_lang.proofs.reader.Reader.step.Goals as goal

pub returns-in_ok-more-in-Some-clause-ok : goal.returns-in_ok-more-in-Some-clause-ok
returns-in_ok-more-in-Some-clause-ok g c = rw c.in-Some.is (run_goes_on c.args.tokens.now _ _ c.in-Some.read _ c.in_ok-more-in-Some.more _ c.requires
    c.in_ok-more-in-Some.ensures.reads.ok)

pub returns-in_ok-more-in-None-clause-ok : goal.returns-in_ok-more-in-None-clause-ok
returns-in_ok-more-in-None-clause-ok g c = rw c.in-None.is (run_begins_on c.args.tokens.now _ _ _ c.in_ok-more-in-None.more _ c.requires
    c.in_ok-more-in-None.ensures.reads.ok)

pub returns-in_err-more-in-None : goal.returns-in_err-more-in-None
returns-in_err-more-in-None g c =
    let p = err_from_is_err_and c.from_residual.result c.from_residual.ensures.1 in
    let reads = c.in_err-more-in-None.ensures.reads in
    rw (p.1, p.2) (record {
      ok = tt;
      used = tt;
      within = tt;
      none =
          λ n. rw c.in-None.is (run_begins_none c.args.tokens.now _ _ _ c.requires (reads.none n));
      err = reads.err;
    })

pub returns-in_err-more-in-Some : goal.returns-in_err-more-in-Some
returns-in_err-more-in-Some g c =
    let p = err_from_is_err_and c.from_residual-in_err-more-in-Some.result c.from_residual-in_err-more-in-Some.ensures.1 in
    let reads = c.in_err-more-in-Some.ensures.reads in
    rw (p.1, p.2) (record {
      ok = tt;
      used = tt;
      within = tt;
      none =
          λ n. rw c.in-Some.is (run_stops c.args.tokens.now _ _ c.in-Some.read _ c.requires (reads.none n));
      err = reads.err;
    })

pub returns-in_default : goal.returns-in_default
returns-in_default g c = absurd (omega arith)
