-- A block that is written is its parts, joined, and as long as is told.
use Rattle.std.proofs.Common.{◌≡◌, ℕ, ◌+◌, ◌-◌, ◌<◌, ◌≤◌, List, [], ◌∷◌, ◌++◌, length, take, drop, replicate, refl, sym, ap, ap₂, ◌∙◌, arith, append_assoc}
use Rattle.std.proofs.Common.{length-append, ne_eqb, ◌%◌, ◌==◌, false, true}
use Rattle.std.proofs.lemmas.List.{append-nil, drop_at, length-replicate, replicate-append-replicate, take_all}
use Rattle.cap_pcapng.proofs.Common.{little_bytes, padded_length}
use Rattle.cap_pcapng.specs.Encoding.{block_text, comment_text, end_text, interface_body, interface_text, name_text, packet_body, packet_block, resolution_text}
use Rattle.cap_pcapng.specs.inside.Headers.{interface_header, packet_header}
use Rattle.{std.proofs.lemmas.Bool.false≢true, cap_octet.specs.Packet.Captured}

-- the last zeros before other bytes, and these
block_end : (k zeros n : ℕ) (more end : List ℕ) → zeros ≤ k → end ≡ replicate k 0 ++ more → n ≡ k + length more
    → take (n - (k - zeros)) (drop (k - zeros) end) ≡ replicate zeros 0 ++ more
block_end k zeros n more end upper_bound is size =
    let split : k ≡ k - zeros + zeros = omega arith in
    let parts =
    is ∙ ap (λ m. replicate m 0 ++ more) split
    ∙ ap (λ l. l ++ more) (sym (replicate-append-replicate _ zeros 0))
    ∙ append_assoc _ _ more in
    ap (λ l. take (n - (k - zeros)) (drop (k - zeros) l)) parts
    ∙ ap (λ l. take (n - (k - zeros)) l) (drop_at _ _ (k - zeros) (length-replicate _ 0))
    ∙ take_all _ _ (simp (length-append, length-replicate) (omega arith))

pub length-packet_body : (number : ℕ) (p : Captured) → length (packet_body number p) ≡ 20 + padded_length (length p.bytes) + length (comment_text p.comment)
length-packet_body number p = grind (arith, length-append, length-replicate)

-- the length of a comment with the end of the options is a multiple of four
pub length-comment_text : (comment : List ℕ) → (length comment == 0) ≡ false → length (comment_text comment) ≡ 8 + padded_length (length comment)
length-comment_text [] some = absurd (false≢true (sym some))
length-comment_text (b ∷ bytes) some = simp (length-append, length-replicate) (omega arith)

pub comment_text-whole : (comment : List ℕ) → length (comment_text comment) % 4 ≡ 0
comment_text-whole [] = refl
comment_text-whole (b ∷ bytes) = let size =
    length-comment_text (b ∷ bytes) (ne_eqb _ 0 (λ is. absurd (omega arith))) in omega arith

-- ---- what is after a packet's data: padding and a comment

pub plain_after : (padding : ℕ) (bytes comment : List ℕ) → (length comment == 0) ≡ true → length bytes + padding ≡ padded_length (length bytes)
    → comment ++ replicate padding 0 ≡ replicate (padded_length (length bytes) - length bytes) 0 ++ comment_text comment
plain_after padding bytes [] none padding_is = grind (arith, append-nil)
plain_after padding bytes (b ∷ more) none padding_is = grind (arith, ne_eqb)

commented : (zeros head comment more end : List ℕ) → (zeros ++ head) ++ (comment ++ (more ++ end)) ≡ zeros ++ (head ++ (comment ++ more) ++ end)
commented zeros head comment more end = simp append_assoc

pub comment_after : (padding following : ℕ) (bytes comment option : List ℕ) → (length comment == 0) ≡ false → padding < 4
    → length bytes + padding ≡ padded_length (length bytes) → length comment + following ≡ padded_length (length comment)
    → option ≡ replicate 3 0 ++ (little_bytes 2 1 ++ little_bytes 2 (length comment))
    → take (7 - (3 - padding)) (drop (3 - padding) option) ++ (comment ++ replicate (following + 4) 0)
    ≡ replicate (padded_length (length bytes) - length bytes) 0 ++ comment_text comment
comment_after padding following bytes [] option some upper_bound padding_is after_is option_is = absurd (false≢true (sym some))
comment_after padding following bytes (b ∷ rest) option some upper_bound padding_is after_is option_is =
    let comment = b ∷ rest in
    let head = little_bytes 2 1 ++ little_bytes 2 _ in
    let zeros : padding ≡ padded_length (length bytes) - length bytes = omega arith in
    let more : following ≡ padded_length (length comment) - length comment = omega arith in
    ap₂ (λ o z. o ++ (comment ++ z)) (block_end 3 _ 7 head option (omega arith) option_is refl)
    (sym (replicate-append-replicate _ 4 0))
    ∙ commented _ head comment _ _
    ∙ ap₂ (λ n m. replicate n 0 ++ (head ++ (comment ++ replicate m 0) ++ end_text)) zeros more

pieces : (bytes option comment zeros size : List ℕ)
    → bytes ++ (option ++ (comment ++ ((zeros ++ size) ++ []))) ≡ bytes ++ (option ++ (comment ++ zeros)) ++ size
pieces bytes option comment zeros size = simp (append_assoc, append-nil)

length-block_text : (type : ℕ) (body : List ℕ) → length (block_text type body) ≡ 12 + length body
length-block_text type body = simp length-append (omega arith)

-- a packet's block is its pieces, joined, and its length
pub packet_joined : (number zeros : ℕ) (p : Captured) (head option end : List ℕ) → zeros ≤ 7
    → option ++ (p.comment ++ replicate zeros 0) ≡ replicate (padded_length (length p.bytes) - length p.bytes) 0 ++ comment_text p.comment
    → head ≡ packet_header (32 + length p.bytes + length option + length p.comment + zeros) number p
    → end ≡ replicate 7 0 ++ little_bytes 4 (32 + length p.bytes + length option + length p.comment + zeros)
    → (head ++ (p.bytes ++ (option ++ (p.comment ++ (take (11 - (7 - zeros)) (drop (7 - zeros) end) ++ [])))) ≡ packet_block number p)
    × (32 + length p.bytes + length option + length p.comment + zeros ≡ length (packet_block number p))
packet_joined number zeros p head option end upper_bound following head_is end_is =
    let size : ℕ = 32 + length _ + length option + length p.comment + zeros in
    let padding : List ℕ = replicate _ 0 in
    let sizes = simp (length-append, length-replicate) at (ap length following) in
    let whole : size ≡ 12 + length (packet_body number p) = omega (arith, length-packet_body number p) in (
      ap₂ (λ h t. h ++ (p.bytes ++ (option ++ (p.comment ++ (t ++ []))))) head_is
          (block_end 7 zeros 11 (little_bytes 4 size) end upper_bound end_is refl)
          ∙ ap (λ t. packet_header size number p ++ t)
          (pieces p.bytes option p.comment _ _
          ∙ ap (λ t. p.bytes ++ t ++ little_bytes 4 size) following
          ∙ ap (λ t. t ++ little_bytes 4 size) (sym (append_assoc p.bytes padding (comment_text p.comment))))
          ∙ ap (λ (s : ℕ). little_bytes 4 6 ++ little_bytes 4 s ++ packet_body number p ++ little_bytes 4 s) whole,
      whole ∙ sym (length-block_text 6 (packet_body number p)),
    )

empty : (bytes : List ℕ) → (length bytes == 0) ≡ true → bytes ≡ []
empty [] none = refl
empty (b ∷ bytes) none = grind (arith, ne_eqb)

-- the block of a packet without a comment
pub plain_joined : (number zeros : ℕ) (p : Captured) (head end : List ℕ) → (length p.comment == 0) ≡ true → zeros < 4 → length p.bytes + zeros ≡
    padded_length (length p.bytes)
    → head ≡ packet_header (32 + length p.bytes + zeros) number p
    → end ≡ replicate 7 0 ++ little_bytes 4 (32 + length p.bytes + zeros)
    → (head ++ (p.bytes ++ (take (11 - (7 - zeros)) (drop (7 - zeros) end) ++ [])) ≡ packet_block number p)
    × (32 + length p.bytes + zeros ≡ length (packet_block number p))
plain_joined number zeros p head end none upper_bound padding_is head_is end_is =
    let comment_is = empty _ none in
    let size : 32 + length p.bytes + zeros ≡ 32 + length p.bytes + 0 + length p.comment + zeros = omega (arith, ap length comment_is) in
    let it = packet_joined number zeros p head [] end (omega arith) (plain_after zeros _ _ none padding_is)
    (head_is ∙ ap (λ s. packet_header s number p) size) (end_is ∙ ap (λ s. replicate 7 0 ++ little_bytes 4 s) size) in
    (ap (λ c. head ++ (p.bytes ++ (c ++ (take (11 - (7 - zeros)) (drop (7 - zeros) end) ++ [])))) (sym comment_is) ∙ it.0, size ∙ it.1)

-- ---- an interface

pub length-interface_body : (link snap b : ℕ) (bytes : List ℕ) → length (interface_body link snap (b ∷ bytes)) ≡ 24 + padded_length (length (b ∷ bytes))
length-interface_body link snap b bytes = simp (length-append, length-replicate) (omega arith)

pub unnamed : (padding : ℕ) (name : List ℕ) → (length name == 0) ≡ true → length name + padding ≡ padded_length (length name) → name
    ++ replicate padding 0 ≡ name_text name
unnamed padding [] none padding_is = grind arith
unnamed padding (b ∷ bytes) none padding_is = grind (arith, ne_eqb)

pub named : (padding : ℕ) (name option : List ℕ) → (length name == 0) ≡ false → length name + padding ≡ padded_length (length name)
    → option ≡ replicate 3 0 ++ (little_bytes 2 2 ++ little_bytes 2 (length name))
    → take (7 - 3) (drop 3 option) ++ (name ++ replicate padding 0) ≡ name_text name
named padding [] option some padding_is option_is = absurd (false≢true (sym some))
named padding (b ∷ bytes) option some padding_is option_is = grind (arith, block_end)

regrouped : (option name zeros r e s : List ℕ)
    → option ++ (name ++ ((zeros ++ (r ++ e ++ s)) ++ [])) ≡ (option ++ (name ++ zeros)) ++ r ++ e ++ s
regrouped option name zeros r e s = simp (append_assoc, append-nil)

-- an interface's block is its pieces, joined, and its length
pub interface_joined : (link snap padding : ℕ) (name head option end : List ℕ) → padding < 4 → option ++ (name ++ replicate padding 0) ≡ name_text name
    → head ≡ interface_header (32 + length option + length name + padding) link snap
    → end ≡ replicate 3 0 ++ (resolution_text ++ end_text ++ little_bytes 4 (32 + length option + length name + padding))
    → (head ++ (option ++ (name ++ (take (19 - (3 - padding)) (drop (3 - padding) end) ++ []))) ≡ interface_text link snap name)
    × (32 + length option + length name + padding ≡ length (interface_text link snap name))
interface_joined link snap padding name head option end upper_bound name_is head_is end_is =
    let size = 32 + length option + length name + padding in
    let sizes = simp (length-append, length-replicate) at (ap length name_is) in
    let body : length (interface_body link snap name) ≡ length (name_text name) + 20 = simp length-append (omega arith) in
    let whole : size ≡ 12 + length (interface_body link snap name) = omega arith in (
      ap₂ (λ h t. h ++ (option ++ (name ++ (t ++ [])))) head_is (block_end 3 _ 19 _ end (omega arith) end_is refl)
          ∙ ap (λ t. interface_header size link snap ++ t) (regrouped option name _ _ _ _)
          ∙ ap (λ t. interface_header size link snap ++ (t ++ resolution_text ++ end_text ++ little_bytes 4 size)) name_is
          ∙ ap (λ s. little_bytes 4 1 ++ little_bytes 4 s ++ interface_body link snap name ++ little_bytes 4 s) whole,
      whole ∙ sym (length-block_text 1 (interface_body link snap name)),
    )
