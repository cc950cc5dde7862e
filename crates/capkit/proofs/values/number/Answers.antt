-- A number is the text that clap found, if it is within its bounds.
use Rattle.capkit.proofs.Common.{◌∙◌, ap, option_and_then, found_of, one_text, one_text-rows, number_between}
use Rattle.std.specs.Str.Parse.{ExplainsUnsignedError, HasUnsignedDigitsIfOk, ParsesUnsigned}
use Rattle.capkit.proofs.OptionValues.{number_read}
use Rattle.capkit.proofs.values.number.Goals as goal

pub returns-clause-value : goal.returns-clause-value
returns-clause-value c =
    let found = found_of c.args.matches.now in
    let id = c.args.id.now in
    c.number_within.ensures.value
    ∙ number_read _ (λ t r. ParsesUnsigned 64 10 t r × ExplainsUnsignedError 10 t r × HasUnsignedDigitsIfOk t r) (λ t r given. given.0) c.args.least
    c.args.most (one_text found id) c.get_one.result c.get_one.ensures.none c.get_one.ensures.value
    ∙ ap (option_and_then (number_between c.args.least c.args.most)) (one_text-rows found id)
