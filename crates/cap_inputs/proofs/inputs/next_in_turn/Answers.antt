-- The current input is decided if a packet waits, else read.
use Rattle.std.proofs.Common.{refl, sym, ap, ◌∙◌, length, Some}
use Rattle.{cap_inputs.proofs.Common.InputView, std.proofs.lemmas.Option.slice_get_read, std.specs.Option.option_map}
use Rattle.cap_inputs.proofs.inputs.next_in_turn.Goals as goal

pub returns-then-cursor : goal.returns-then-cursor
returns-then-cursor g c = (
  refl,
  ap (option_map (λ (h : InputView). h.waiting)) (slice_get_read c.args.cursors.now (length c.args.cursors.now) c.args.turn
      c.index-cursors-turn.result refl c.if-turn-cursors.true c.index-cursors-turn.is)
      ∙ ap Some (ap (λ (h : InputView). h.waiting) (sym c.cursor.view_is) ∙ c.if-cursor.true),
)

pub returns-else-cursor : goal.returns-else-cursor
returns-else-cursor g c = (
  refl,
  ap (option_map (λ (h : InputView). h.waiting)) (slice_get_read c.args.cursors.now (length c.args.cursors.now) c.args.turn
      c.index-cursors-turn.result refl c.if-turn-cursors.true c.index-cursors-turn.is)
      ∙ ap Some (ap (λ (h : InputView). h.waiting) (sym c.cursor.view_is) ∙ c.if-cursor.false),
)
