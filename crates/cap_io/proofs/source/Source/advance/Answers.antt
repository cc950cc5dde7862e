-- After an error the packets are at their end.
use Rattle.cap_io.proofs.Common.{arith, Stage}
use Rattle.std.proofs.Common.{rules, ◌≡◌, Err, sym, subst}
use Rattle.cap_io.specs.Source.{Phase, Reading, Advances, view_of}
use Rattle.cap_io.proofs.source.Source.advance.Goals as goal

pub returns-in-Err-clause-packets : goal.returns-in-Err-clause-packets
returns-in-Err-clause-packets g c = λ t.
    let reading : c.args.self.now.phase ≡ Reading = search rules in
    let is = c.self-in-Between.view_is in
    let of = c.self-in-Between.inside in
    let new = view_of g.I.Input (Stage.Failed c.in-Err.fault) of.reader of.offset in
    let P : Phase → Type 0 = λ p. Advances p c.args.self.now (Err c.in-Err.fault) new in
    subst P (sym reading) (grind arith)
