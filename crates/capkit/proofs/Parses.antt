-- What clap accepts and refuses is what the rules of the command line accept and refuse.
use Rattle.capkit.proofs.Common.{arith, ◌≡◌, ◌∙◌, ap, sym, subst, true, List, Result, Ok, Err, IfOk, IfErr, map, refl, App, Text, subcommand_rows_of}
use Rattle.capkit.proofs.Common.{TakesWords, line_app, ValueParser, Error, OutOfMemory, ArgMatches}
use Rattle.clap.specs.Words.{FailsBy, HasKind, HasMatchesOf, fault_of, is_simple, is_simple_and_free, kind_of, subcommand_of, takes}
use Rattle.capkit.specs.Arguments.{AreChoices, RefusesWords, format_names, link_names}
use Rattle.cap_octet.specs.{Format.all_formats, Link.all_links}

simple_line : (formats links : ValueParser) → is_simple (line_app formats links) ≡ true
simple_line formats links = refl

free_line : (formats links : ValueParser) → is_simple_and_free (line_app formats links) ≡ true
free_line formats links = refl

pub takes_words : (app : App) (formats links : ValueParser) (words : List Text) (r : Result ArgMatches Error) → app ≡ line_app formats links
    → AreChoices format_names formats → AreChoices link_names links
    → IfOk r (HasMatchesOf app words) → (is_simple_and_free app ≡ true → FailsBy (fault_of app words) r)
    → IfOk r (λ matches. TakesWords words (subcommand_rows_of matches))
takes_words app formats links words (Err error) is are named matches kinds = tt
takes_words app formats links words (Ok found) is are named matches kinds = record {
  formats = formats;
  links = links;
  are_formats = are;
  are_links = named;
  no_fault = ap (λ a. fault_of a words) (sym is) ∙ kinds (ap is_simple_and_free is ∙ free_line formats links);
  enters = ap (λ a. subcommand_of a words) (sym is) ∙ sym (matches (ap is_simple is ∙ simple_line formats links)).1;
}

pub refuses_words : (app : App) (formats links : ValueParser) (words : List Text) (r : Result ArgMatches Error) → app ≡ line_app formats links
    → AreChoices format_names formats → AreChoices link_names links
    → IfErr r (λ error. takes app words ≡ true → kind_of error ≡ OutOfMemory) → (is_simple_and_free app ≡ true → FailsBy (fault_of app words) r)
    → IfErr r (RefusesWords words)
refuses_words app formats links words (Ok found) is are named memory kinds = tt
refuses_words app formats links words (Err error) is are named memory kinds = record {
  formats = formats;
  links = links;
  are_formats = are;
  are_links = named;
  memory_alone = λ taken. memory (ap (λ a. takes a words) is ∙ taken);
  kind = subst (λ a. HasKind (fault_of a words) error) is (kinds (ap is_simple_and_free is ∙ free_line formats links));
}

choices : List Text → ValueParser
choices texts = ValueParser.Names (record { ref_ptr = (0, 0); now = map (λ text. record { ref_ptr = (0, 0); now = text }) texts })

are_formats : AreChoices format_names (choices format_names)
unfolding choices all_formats
are_formats = refl

are_links : AreChoices link_names (choices link_names)
unfolding choices all_links
are_links = refl

-- out of memory, any words are refused
pub no_memory : (words : List Text) (error : Error) → kind_of error ≡ OutOfMemory → RefusesWords words error
no_memory words error is = grind (arith, are_formats, are_links)
