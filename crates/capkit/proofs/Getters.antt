-- The getters of clap's matches return the texts of the options.
use Rattle.capkit.proofs.Common.{◌≡◌, ap, sym, refl, List, ℕ, Bool, true, false, Option, Some, None, codes, option_map_or, bytes_eq, ReadsOne, one_text-rows}
use Rattle.clap.proofs.WalkLemmas.{first_value-rows, raw_values-rows}
use Rattle.std.{proofs.lemmas.Bool.false_from_ne_true, proofs.lemmas.Slice.Eq.bytes_eq-Decides, proofs.Common.unwrap_or, specs.Str.Parse.ParsesBool}

pub ruleset reads = (first_value-rows, one_text-rows, raw_values-rows)

abbrev is_true : List ℕ → Bool
is_true text = bytes_eq text (codes "true")

-- a flag is what its text reads as
pub flag_read : (E : Type 0) (text : Option (List ℕ)) (r : Option Bool) → (text ≡ None → r ≡ None)
    → ((t : List ℕ) → text ≡ Some t → ReadsOne (ParsesBool {E = E}) t r) → unwrap_or r false ≡ option_map_or is_true text false
flag_read E None r none some = ap (λ o. unwrap_or o false) (none refl)
flag_read E (Some t) r none some = go r (some t refl)
  where
    go : (o : Option Bool) → ReadsOne (ParsesBool {E = E}) t o → unwrap_or o false ≡ is_true t
    go (Some true) is = sym ((bytes_eq-Decides t _).1 is)
    go (Some false) is = ap is_true (sym is)
    go None is = sym (false_from_ne_true _ (λ same. is.1.0 ((bytes_eq-Decides t _).0 same)))
