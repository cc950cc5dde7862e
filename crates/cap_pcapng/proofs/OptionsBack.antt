-- Options that were written read back.
use Rattle.std.proofs.Common.{◌≡◌, ℕ, ◌+◌, ◌-◌, ◌^◌, ◌<◌, ◌≤◌, List, [], ◌∷◌, ◌++◌, length, take, drop, replicate, refl, sym, ap, ap₂, ◌∙◌, arith, append_assoc}
use Rattle.std.proofs.Common.{length-append, None, Result, Ok, le-leb, unwrap_or}
use Rattle.std.proofs.lemmas.List.{length-replicate, take_at, drop_at}
use Rattle.cap_pcapng.proofs.Common.{little_bytes, first_failing, u16_in, Fault, Little, comment_code, first_value, fitting_options, padded_length}
use Rattle.cap_pcapng.specs.OptionList.{CodedValue, option_at, option_size, options_in, options_within}
use Rattle.cap_pcapng.specs.Encoding.{comment_text, end_text, name_text, option_text, padded_text, resolution_text}
use Rattle.cap_pcapng.specs.{Interface.described_by, Interface.described_in, Laws.written_interface, Comment.comment_in, InterfaceOptions.list_checks}
use Rattle.cap_pcapng.proofs.{Numerals.number_at, OptionLists.goes_on, OptionLists.options_in-more, OptionLists.options_in-none}
use Rattle.cap_octet.specs.Number.{number_in}

length-option_text : (code : ℕ) (value : List ℕ) → length (option_text code value) ≡ padded_length (4 + length value)
length-option_text code value = simp (length-append, length-replicate) (omega arith)

-- an option before others
pub options_in-option : (code : ℕ) (value rest : List ℕ) → code < 2 ^ 16 → (code ≡ 0 → ⊥) → length value < 2 ^ 16
    → options_in Little (option_text code value ++ rest) ≡ Ok (record { code = code; value = value }) ∷ options_in Little rest
options_in-option code value rest upper_bound some short =
    let text : List ℕ = option_text code value ++ rest in
    let zeros : List ℕ = replicate (padded_length (length value) - length value) 0 in
    let code_is : u16_in Little text 0 ≡ code = number_at 2 text 0 code (little_bytes 2 (length value) ++ (padded_text value ++ rest)) refl upper_bound in
    let len_is : u16_in Little text 2 ≡ length value = number_at 2 text 2 (length value) (padded_text value ++ rest) refl short in
    let size_is : option_size Little text ≡ 4 + length value = ap (λ n. 4 + n) len_is in
    let room : length text ≡ padded_length (4 + length value) + length rest = length-append (option_text code value) rest ∙ ap (λ n. n + length rest)
    (length-option_text code value) in
    let value_is : take (u16_in Little text 2) (drop 4 text) ≡ value =
    ap (λ n. take n (padded_text value ++ rest)) len_is
    ∙ ap (λ t. take (length value) t) (append_assoc value zeros rest) ∙ take_at value (zeros ++ rest) (length value) refl in
    let rest_is : drop (padded_length (option_size Little text)) text ≡ rest =
    ap (λ n. drop (padded_length n) text) size_is ∙ drop_at (option_text code value) rest (padded_length (4 + length value)) (length-option_text code value) in
    let option_is : option_at Little text ≡ record { code = code; value = value } =
    ap₂ (λ (c : ℕ) (v : List ℕ). record { code = c; value = v }) code_is value_is in
    options_in-more Little text (goes_on Little text (omega arith) (λ none. some (sym code_is ∙ none)))
    (le-leb (option_size Little text) (length text) (omega arith))
    ∙ ap₂ (λ (o : CodedValue) (t : List ℕ). Ok o ∷ options_in Little t) option_is rest_is

resolution_back : options_in Little (resolution_text ++ end_text) ≡ Ok (record { code = 9; value = 9 ∷ [] }) ∷ []
unfolding options_in options_within number_in
resolution_back = refl

-- the options of an interface as it is written
abbrev options_text : List ℕ → List ℕ
options_text name = name_text name ++ resolution_text ++ end_text

abbrev items_back : List ℕ → List (Result CodedValue Fault)
items_back [] = Ok (record { code = 9; value = 9 ∷ [] }) ∷ []
items_back (b ∷ bytes) = Ok (record { code = 2; value = b ∷ bytes }) ∷ Ok (record { code = 9; value = 9 ∷ [] }) ∷ []

options_back : (name : List ℕ) → length name ≤ 255 → options_in Little (options_text name) ≡ items_back name
options_back [] short = resolution_back
options_back (b ∷ bytes) short =
    let name : List ℕ = b ∷ bytes in
    ap (λ t. options_in Little t) (append_assoc (option_text 2 name) resolution_text end_text)
    ∙ options_in-option 2 name (resolution_text ++ end_text) (omega arith) (λ is. absurd (omega arith)) (omega arith)
    ∙ ap (λ items. Ok (record { code = 2; value = name }) ∷ items) resolution_back

checks_back : (name : List ℕ) → length name ≤ 255 → first_failing (list_checks [] (items_back name)) ≡ None
checks_back [] short = refl
checks_back (b ∷ bytes) short = rw le-leb refl

pub options_pass : (name : List ℕ) → length name ≤ 255
    → first_failing (list_checks [] (options_in Little (name_text name ++ resolution_text ++ end_text))) ≡ None
options_pass name short = simp (options_back, checks_back)

described_back : (link snap : ℕ) (name : List ℕ) → described_by link snap Little (fitting_options (items_back name)) ≡ written_interface link snap name
described_back link snap [] = refl
described_back link snap (b ∷ bytes) = refl

pub options_describe : (link snap : ℕ) (name : List ℕ) → length name ≤ 255
    → described_in link snap Little (name_text name ++ resolution_text ++ end_text) ≡ written_interface link snap name
options_describe link snap name short = simp (options_back, described_back)

-- a comment
pub comment_back : (comment : List ℕ) → length comment ≤ 65535 → comment_in Little (comment_text comment) ≡ comment
comment_back [] short = simp options_in-none
comment_back (b ∷ bytes) short =
    ap (λ items. unwrap_or (first_value comment_code (fitting_options items)) [])
    (options_in-option comment_code (b ∷ bytes) end_text (omega arith) (λ is. absurd (omega arith)) (omega arith))
