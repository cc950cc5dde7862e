-- Reports and messages that are written in parts are written as wholes, or up to a failure of the
-- device.
use Rattle.std.proofs.Common.{arith, ◌≡◌, refl, ℕ, List, [], ◌∷◌, ◌++◌, codes, true, false, Option, None, Some}
use Rattle.cap_process.specs.Reports.{Tally, lines, size_lines, time_lines, file_report}
use Rattle.cap_process.specs.Messages.{code_message, line_feed}
use Rattle.flt_bpf.specs.Message.{check_text, has_index, check_message, listing_text, wrong_line, listing_message}
use Rattle.flt_bpf.specs.declared.fault.{CheckFault.CheckFault, ListingFault.ListingFault}
use Rattle.{cap_io.specs.declared.source.Kind.Kind, std.proofs.lemmas.List.append_assoc, std.specs.Fmt.decimal}

lines-append : (xs ys : List (List ℕ × List ℕ)) (following : List ℕ) → lines xs [] ++ lines ys following ≡ lines (xs ++ ys) following
lines-append [] ys following = refl
lines-append ((label, value) ∷ xs) ys following =
    rw (append_assoc, append_assoc, lines-append xs ys following) refl

-- a report is its name's line, and then two groups of lines
pub report-joined : (name : List ℕ) (kind : Option Kind) (size : ℕ) (t : Tally)
    → lines ((codes "File", name) ∷ []) [] ++ (lines (size_lines kind size t) [] ++ lines (time_lines t) (10 ∷ [])) ≡ file_report name kind size t
unfolding file_report
report-joined name kind size t =
    rw (lines-append (size_lines kind size t) (time_lines t) (10 ∷ []))
    (lines-append ((codes "File", name) ∷ []) (size_lines kind size t ++ time_lines t) (10 ∷ []))

-- the bytes of a refusal's message, in its parts
abbrev pub parts : List ℕ → List ℕ → List ℕ → List ℕ
parts text words digits = codes "capkit: " ++ codes "code" ++ codes ": " ++ text ++ words ++ digits ++ line_feed

joined : (text words digits : List ℕ) → parts text words digits ≡ code_message (text ++ (words ++ digits))
joined text words digits = simp append_assoc

pub check-indexed : (fault : CheckFault) (at : ℕ) (text digits : List ℕ) → text ≡ check_text fault → digits ≡ decimal at → has_index fault ≡ true
    → parts text (codes " at ") digits ≡ code_message (check_message fault at)
check-indexed fault at text digits same number is = grind (arith, joined)

pub check-whole : (fault : CheckFault) (at : ℕ) (text : List ℕ) → text ≡ check_text fault → has_index fault ≡ false
    → parts text [] [] ≡ code_message (check_message fault at)
check-whole fault at text same is = grind (arith, joined)

pub listing-lined : (fault : ListingFault) (line : ℕ) (text digits : List ℕ) → text ≡ listing_text fault → digits ≡ decimal line → wrong_line fault ≡ Some line
    → parts text (codes " at line ") digits ≡ code_message (listing_message fault)
listing-lined fault line text digits same number is = grind (arith, joined)

pub listing-whole : (fault : ListingFault) (text : List ℕ) → text ≡ listing_text fault → wrong_line fault ≡ None
    → parts text [] [] ≡ code_message (listing_message fault)
listing-whole fault text same is = grind (arith, joined)
