-- A flag is set if clap found the text `true`.
use Rattle.capkit.proofs.Common.{◌∙◌, ap, false, codes, option_map_or, bytes_eq, found_of, one_text, one_text-rows}
use Rattle.capkit.proofs.Getters.{flag_read}
use Rattle.capkit.proofs.values.flag.Goals as goal

pub returns : goal.returns
returns c =
    let found = found_of c.args.matches.now in
    let id = c.args.id.now in
    c.unwrap_or.ensures ∙ flag_read _ (one_text found id) c.get_one.result c.get_one.ensures.none c.get_one.ensures.value
    ∙ ap (λ o. option_map_or (λ text. bytes_eq text (codes "true")) o false) (one_text-rows found id)
