-- The name is the one at the index, or empty.
use Rattle.cap_tools.proofs.Common.{◌≡◌, ◌∙◌, ℕ, List, [], map, Option, None, Some, String, string_bytes, refl, sym, ap, slice_get-map, slice_get_past}
use Rattle.cap_tools.proofs.Common.{slice_get_read, slice_get, option_map, unwrap_or, name_at}
use Rattle.cap_tools.proofs.messages.name_of.Goals as goal

named : {Z : Type 0} (names l : List (String Z)) (i : ℕ) (o : Option (String Z)) → l ≡ names → slice_get l i ≡ o → name_at (map string_bytes names)
    i ≡ unwrap_or (option_map string_bytes o) []
named names l i o same is = rw (← same) (ap (λ (b : Option (List ℕ)). unwrap_or b []) (slice_get-map string_bytes l i ∙ ap (option_map string_bytes) is))

pub returns-in-Some : goal.returns-in-Some
returns-in-Some g c =
    let here = slice_get_read c.deref.result.now _ c.args.index c.in-Some.name.now refl c.in-Some.ensures.lookup.3.0 c.in-Some.ensures.lookup.1 in
    c.as_str.ensures.value ∙ sym (named c.args.names.now.items c.deref.result.now c.args.index (Some c.in-Some.name.now) c.deref.ensures.value here)

pub returns-in-None : goal.returns-in-None
returns-in-None g c =
    let here = slice_get_past c.deref.result.now c.args.index c.in-None.ensures.lookup.3 in
    sym (named c.args.names.now.items c.deref.result.now c.args.index None c.deref.ensures.value here)
