-- A walk goes on.
use Rattle.flt_short.proofs.Common.{operation_of, slice_get_read, Insn, held_after}
use Rattle.std.proofs.Common.{refl, sym, ap, ◌∙◌}
use Rattle.flt_short.proofs.Threading.{walks_on, forks_on}
use Rattle.flt_short.proofs.thread.+walk.Goals as goal

pub returns-in-Some-skipped_after : goal.returns-in-Some-skipped_after
returns-in-Some-skipped_after t c =
    let insn = c.in-Some.insn.now in
    let lookup = c.in-Some.ensures.lookup.3 in
    let held = c.held_after-held.ensures ∙ ap (λ (i : Insn). held_after (operation_of i.code) c.args.spot.now.held c.args.known.now.index i) c.insn.view_is in
    walks_on c.args.known.now c.args.code.now c.args.spot.now c.args.best c.place_or_best-best.result c.in-Some-skipped_after.skipped c.walk.result insn
    (slice_get_read c.args.code.now _ c.args.spot.now.place insn refl lookup.0 (lookup.1 insn)) c.place_or_best-best.ensures
    (rw c.insn.view_is at c.in-Some-skipped_after.ensures) (rw held at c.walk.ensures)

pub returns-then-yes-no : goal.returns-then-yes-no
returns-then-yes-no t c =
    let insn = c.in-Some.insn.now in
    let lookup = c.in-Some.ensures.lookup.3 in
    let yes = ap (λ (i : Insn). i.jt) c.insn.view_is in
    let no = ap (λ (i : Insn). i.jf) c.insn.view_is in
    forks_on c.args.known.now c.args.code.now c.args.spot.now c.args.best c.place_or_best-best.result c.walk-yes.result insn
    (slice_get_read c.args.code.now _ c.args.spot.now.place insn refl lookup.0 (lookup.1 insn)) (sym c.is_test.ensures ∙ c.if-not-is_test.false)
    c.place_or_best-best.ensures (rw yes at c.walk-yes.ensures) (rw (no, ← c.if-yes-no.true) at c.walk-no.ensures)
