-- Place, colon and pairs of at most 16 bytes make up the row, which fits the text.
use Rattle.std.proofs.Common.{◌≡◌, ◌*◌, ℕ, List, [], ◌∷◌, ◌++◌, length, take, drop, min, ap, arith, append_assoc, length-append}
use Rattle.std.proofs.lemmas.{Grind.common_steps, List.length-take, List.take_rest}
use Rattle.cap_print.specs.{Dump.pairs, Dump.row, Hexadecimal.hex_place}
use Rattle.cap_print.proofs.dump.write_row.Goals as goal

-- no more than there are
take-fewest : (n : ℕ) (xs : List ℕ) → take (min n (length xs)) xs ≡ take n xs
take-fewest n xs = grind (arith, common_steps)

joined : (place bytes : List ℕ) → ((place ++ 58 ∷ []) ++ bytes) ++ 10 ∷ [] ≡ place ++ (58 ∷ (bytes ++ 10 ∷ []))
joined place bytes = simp append_assoc

pub returns : goal.returns
unfolding row
returns c =
    let start = 16 * c.args.index in
    rw (
      c.push-2.ensures,
      c.push_pairs.ensures.value,
      c.push.ensures,
      c.push_hex_place.ensures.value,
      c.push_all.ensures,
      c.clear.ensures,
      c.min-end.ensures,
      take_rest c.args.bytes.now start,
      take-fewest 16 (drop start c.args.bytes.now),
    )
    (ap (λ (following : List ℕ). 9 ∷ (48 ∷ (120 ∷ following))) (joined (hex_place start) (pairs (take 16 (drop start c.args.bytes.now)))))

pub push_pairs-requires : goal.push_pairs-requires
push_pairs-requires c =
    omega (
      arith,
      length-take {A = ℕ},
      c.min-end.ensures,
      c.push_hex_place.ensures.bound,
      ap length c.push.ensures,
      ap length c.push_all.ensures,
      ap length c.clear.ensures,
      length-append {A = ℕ},
    )
