-- The bytes of a packet in hexadecimal, 16 per row.
use Rattle.std.specs.Prelude.{ℕ, zero, suc, ◌+◌, ◌*◌, ◌/◌, List, [], ◌∷◌, ◌++◌, length, take, drop, codes}
use Rattle.cap_octet.specs.NetworkHeader.{link_header_length}
use Rattle.cap_print.specs.Hexadecimal.{hex_two, hex_place}

-- the captured bytes after the link header
abbrev pub link_payload : ℕ → List ℕ → List ℕ
link_payload link p = drop (link_header_length link) p

-- a blank and four digits for each two bytes; a single last byte has two digits
abbrev pub pairs : List ℕ → List ℕ
pairs [] = []
pairs (a ∷ []) = 32 ∷ hex_two a
pairs (a ∷ b ∷ more) = 32 ∷ (hex_two a ++ (hex_two b ++ pairs more))

-- the row for these bytes, which come after k others: a tab, the offset of the first, and the bytes
unfoldable pub row : List ℕ → ℕ → List ℕ
row bytes k =
    9 ∷ (codes "0x"
    ++ (hex_place (16 * k) ++ (58 ∷ (pairs (take 16 (drop (16 * k) bytes)) ++ 10 ∷ []))))

-- the number of rows for a number of bytes
abbrev pub row_count : ℕ → ℕ
row_count count = (count + 15) / 16

-- the first rows, one after another
abbrev pub first_rows : List ℕ → ℕ → List ℕ
first_rows bytes zero = []
first_rows bytes (suc k) = first_rows bytes k ++ row bytes k

-- all rows; none if there are no bytes
abbrev pub rows : List ℕ → List ℕ
rows bytes = first_rows bytes (row_count (length bytes))
