-- A name is among others if one of them has the same bytes.
use Rattle.capkit.proofs.Common.{◌∙◌, bytes_eq, list_any-map}
use Rattle.capkit.proofs.names.is_among.Goals as goal

pub returns : goal.returns
returns c = c.contains.ensures.value ∙ list_any-map (λ name. bytes_eq name c.args.wanted.now) (λ name. name.now) c.args.names.now
