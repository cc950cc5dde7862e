-- The buffer has as much of the meaning as there is room for.
use Rattle.std.proofs.Common.{ℕ, List, length, ap, ◌∙◌}
use Rattle.std.specs.Prelude.{string_bytes}
use Rattle.capkit_c.specs.Texts.{put_text}
use Rattle.capkit_c.proofs.explaining.put_meaning.Goals as goal

pub returns-in-Ok-clause-put : goal.returns-in-Ok-clause-put
returns-in-Ok-clause-put g c = record {
  meaning = string_bytes c.in-Ok.meaning;
  explains = record { e = c.in_ok-checked.checked.expr; expression = c.in_ok-checked.ensures.expression; is_text = c.in-Ok.ensures };
  put = c.put_text.ensures.put ∙ ap (λ (bytes : List ℕ). put_text bytes c.args.buffer.now) c.as_bytes.ensures.value;
  count = c.put_text.ensures.count ∙ ap length c.as_bytes.ensures.value;
}
