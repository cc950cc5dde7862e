-- How an address is read group by group.
use Rattle.std.specs.Int.Digits.{number_from_digits}
use Rattle.std.specs.Prelude.{◌≡◌, ◌≤◌, ◌+◌, ℕ, List, length, slice_index, Option, Some, None}
use Rattle.std.specs.Prelude.{MatchOption}
use Rattle.flt_words.specs.Addresses.{group_values, AreGroups}
use Rattle.flt_words.specs.declared.address.{Group.Group, JoinedGroups.JoinedGroups}

-- the base that a form's groups are digits in: each group's number is below it
abbrev pub base_of : Group → ℕ
base_of Group.Quad = 65536
base_of _ = 256

-- what a reader of addresses returns: one for which this holds, or None if it holds for no address
abbrev pub FindsAddress : (ℕ → Type 0) → Option ℕ → Type 0
FindsAddress IsIt answer = MatchOption answer ((address : ℕ) → IsIt address → ⊥) IsIt

-- there are two colons at this index of a word
abbrev pub IsDoubleColon : List ℕ → ℕ → Type 0
IsDoubleColon word i = (slice_index word i ≡ 58) × (slice_index word (i + 1) ≡ 58)

-- what reading a text as at most eight groups returns: their number, and the number that they mean
-- in their base; None if the text isn't such groups
abbrev pub ReadsGroups : Group → List ℕ → Option JoinedGroups → Type 0
ReadsGroups form text None =
    (groups : List (List ℕ)) → AreGroups form text groups → length groups ≤ 8 → ⊥
ReadsGroups form text (Some joined) =
    (groups : List (List ℕ)) × AreGroups form text groups × (length groups ≤ 8)
    × (joined.count ≡ length groups)
    × (joined.value ≡ number_from_digits (base_of form) (group_values form groups))
