-- New inputs have fresh cursors and the first order, and are sound.
use Rattle.std.proofs.Common.{List, length, ap, ◌∙◌, refl, arith}
use Rattle.cap_inputs.proofs.Common.{InputView, fresh_view, order_of, fresh_input, Queue}
use Rattle.cap_inputs.proofs.{Cursors.first-inputs, Cursors.first-ordering, Leasts.queued-first, Placed.placed-first}
use Rattle.{cap_inputs.specs.inside.Cursor.first_schedule, std.specs.Prelude.if◌then◌else◌}
use Rattle.cap_inputs.proofs.inputs.Inputs.new.Goals as goal

pub returns : goal.returns
returns g c =
    first-inputs (fresh_input g.I.Input) c.args.inputs.items c.in_ok-cursors.cursors.items c.first_schedule-schedule.result c.args.merges
    c.in_ok-cursors.ensures
    (c.first_schedule-schedule.ensures ∙ ap (λ (l : List InputView). first_schedule (order_of c.args.merges) (length l)) c.deref.ensures.value)

pub invariant_of-result : goal.invariant_of-result
invariant_of-result g c =
    let found = c.in_ok-queue.ensures in
    rw (c.first_schedule-schedule.ensures, first-ordering, c.deref.ensures.value, c.in_ok-cursors.ensures) (
      queued-first (λ input. fresh_view (fresh_input g.I.Input input)) c.args.inputs.items c.args.merges c.in_ok-queue.queue (λ input. refl)
          (ap (λ (q : Queue). q.waiting) found)
          (λ merges. (let fits = ap (λ (q : Queue). q.room) found ∙ ap (λ b. if b then c.len.result else 0) merges in
          omega (arith, fits, c.len.ensures, c.in_ok-cursors.cursors.ok.0, ap length c.in_ok-cursors.ensures))),
      placed-first (λ input. fresh_view (fresh_input g.I.Input input)) c.args.inputs.items (order_of c.args.merges) (λ input. refl) (λ input. refl),
    )
