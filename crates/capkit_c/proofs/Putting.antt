-- The unit that a put writes, and what the writer records.
use Rattle.capkit_c.proofs.Common.{◌≡◌, ℕ, ◌+◌, ◌<◌, ◌≤◌, List, [], ◌∷◌, ◌++◌, length, take, length-take-le, Option, refl, sym, ap, ◌∙◌, subst}
use Rattle.capkit_c.proofs.Common.{arith, min, suc, Bool, true, false, ◌==◌, nat_lt, ◌&&◌, ◌||◌, not, if◌then◌else◌, Captured, Fault}
use Rattle.capkit_c.proofs.Common.{Interface, first_failing, append-nil, ap₂}
use Rattle.std.specs.{List.list_any, List.position_or_len, Prelude.map, Prelude.cond}
use Rattle.std.proofs.lemmas.{Bool.Decides.nat_tests, Cmp.nat_eq_equiv, Cmp.nat_list_eq_equiv, List.take_more_set, List.length-map, List.length-set}
use Rattle.cap_io.specs.Text as text
use Rattle.cap_pcapng.specs.Encoding.{interface_text, packet_block, section_text}
use Rattle.capkit_c.specs.Writer.{output_interface, interfaces_in, most_written, room_for, put_checks, put_refusal, has_all, next_text, HasWritten}
use Rattle.capkit_c.specs.Writer.{KeepsWritten, IsWhole}
use Rattle.capkit_c.specs.{declared.memory.layout.Writer.Writer, declared.memory.writing.Written.Written, inside.Writer.HasAdded}

-- whether a test is true of some element, by the first such index
among_by : (b later : Bool) (place count : ℕ) → later ≡ nat_lt place count → (b || later) ≡ nat_lt (if not b then 1 + place else 0) (suc count)
among_by b later place count h1 = grind (arith, nat_tests)

pub among_is : {X : Type 0} (test : X → Bool) (xs : List X) → list_any test xs ≡ nat_lt (position_or_len test xs) (length xs)
among_is test [] = grind (arith, nat_tests)
among_is test (x ∷ xs) = among_by (test x) (list_any test xs) (position_or_len test xs) (length xs) (among_is test xs)

pub not_zero : (n : ℕ) → (n ≡ 0 → ⊥) → (n == 0) ≡ false
not_zero n h = grind (arith, nat_tests)

pub is_less : (n m : ℕ) → n < m → nat_lt n m ≡ true
is_less n m l = grind (arith, nat_tests)

pub is_not_less : (n m : ℕ) → m ≤ n → nat_lt n m ≡ false
is_not_less n m l = grind (arith, nat_tests)

pub map_append : {X Y : Type 0} (f : X → Y) (xs ys : List X) → map f (xs ++ ys) ≡ map f xs ++ map f ys
map_append f [] ys = refl
map_append f (x ∷ xs) ys = ap (λ z. f x ∷ z) (map_append f xs ys)

-- a writer that counts no more interfaces than a file may have counts those that are written
pub all_counted : (w : Writer) (table : List Interface) → w.interfaces ≤ room_for (length table) → w.interfaces ≡ length (interfaces_in w table)
all_counted w table fits = grind (arith, length-map, length-take-le)

module _ (w : Writer) (table : List Interface) (p : Captured) (known number room : ℕ) (at_known : known ≡ length (interfaces_in w table))
    (at_number : number ≡ text.number_among (interfaces_in w table) (text.interface_of p)) (at_room : room ≡ room_for (length table)) where
  abbrev ks : List text.Interface
  ks = interfaces_in w table

  abbrev i : text.Interface
  i = text.interface_of p

  among : nat_lt number known ≡ text.is_among ks i
  among = ap₂ nat_lt at_number at_known ∙ sym (among_is (text.is_same i) ks)

  pub is_packet : (b : Bool) → b ≡ (not (w.has_section == 0) && nat_lt number known) → b ≡ has_all w table p
  is_packet b e = e ∙ ap (λ z. not (w.has_section == 0) && z) among

  pub refusal : (r : Option Fault) → r ≡ first_failing (put_checks (nat_lt number room) p) → r ≡ put_refusal w table p
  refusal r e = e ∙ ap₂ (λ m k. first_failing (put_checks (nat_lt m k) p)) at_number at_room

  -- the unit and what is added, by both tests
  unit_is : (b : Bool) → (w.has_section == 0) ≡ false → text.is_among ks i ≡ b
      → next_text w table p ≡ (if b then packet_block (text.number_among ks i) p else interface_text p.link p.snap p.name)
  unit_is b s e = ap₂ (λ x y. if x then section_text else (if y then packet_block (text.number_among ks i) p else interface_text p.link p.snap p.name)) s e

  added_is : (b : Bool) → (w.has_section == 0) ≡ false → text.is_among ks i ≡ b → (if w.has_section == 0 then [] else text.new_among ks i) ≡
      (if b then [] else i ∷ [])
  added_is b s e = ap₂ (λ x y. if x then [] else (if y then [] else i ∷ [])) s e

  pub block_is : (w.has_section == 0) ≡ false → nat_lt number known ≡ true → packet_block number p ≡ next_text w table p
  block_is s l = ap (λ m. packet_block m p) at_number ∙ sym (unit_is true s (sym among ∙ l))

  pub face_is : (w.has_section == 0) ≡ false → nat_lt number known ≡ false → interface_text p.link p.snap p.name ≡ next_text w table p
  face_is s l = sym (unit_is false s (sym among ∙ l))

  -- a block adds nothing
  pub same_kept : (r : Written) → (w.has_section == 0) ≡ false → nat_lt number known ≡ true → KeepsWritten r w table p w table
  same_kept (Written.Whole n) s l = record {
    section = s;
    interfaces = sym (append-nil ks) ∙ ap (λ z. ks ++ z) (sym (added_is true s (sym among ∙ l)));
    room = refl;
    counted = all_counted w table;
  }
  same_kept _ s l = (refl, refl)

  -- a description adds its interface
  one_more : (w' : Writer) (table' : List Interface) → known ≡ most_written w (length table) → (w.has_section == 0) ≡ false
      → nat_lt number known ≡ false → HasAdded known p w table w' table' → HasWritten w table p w' table'
  one_more w' table' is s l h = record {
    section = ap (λ (v : Writer). v.has_section == 0) h.counted ∙ s;
    interfaces =
        ap₂ (λ n t. map output_interface (take n t)) count h.put
        ∙ ap (map output_interface) (take_more_set table known h.entry h.fits.0)
        ∙ map_append output_interface (take known table) (h.entry ∷ [])
        ∙ ap₂ (λ n e. map output_interface (take n table) ++ e ∷ []) is h.same
        ∙ ap (λ z. ks ++ z) (sym (added_is false s (sym among ∙ l)));
    room = long;
    counted = λ _. all_counted w' table' (subst (λ v. v.interfaces ≤ room_for (length table')) (sym h.counted) within);
  }
    where
      long : length table' ≡ length table
      long = ap length h.put ∙ length-set table known h.entry

      within : known + 1 ≤ room_for (length table')
      within = let fits = h.fits in omega (arith, fits, long)

      count : most_written w' (length table') ≡ known + 1
      count = ap₂ (λ (v : Writer) n. min v.interfaces (room_for n)) h.counted long ∙ (let fits = h.fits in grind (arith, nat_tests))

  -- a section adds nothing
  pub section_kept : (r : Written) (w' : Writer) → known ≡ most_written w (length table) → (w.has_section == 0) ≡ true
      → (IsWhole r → w' ≡ record { interfaces = known; has_section = 1 }) → ((IsWhole r → ⊥) → w' ≡ w) → KeepsWritten r w table p w' table
  section_kept (Written.Whole n) w' is s f g =
      let same : w' ≡ record { interfaces = known; has_section = 1 } = f tt in
      let upper_bound : known ≤ room_for (length table) = omega (arith, is) in
      let most : most_written w' (length table) ≡ most_written w (length table) = ap (λ (v : Writer). most_written v (length table)) same
      ∙ omega (arith, is, upper_bound) in
      record {
        section = ap (λ (v : Writer). v.has_section == 0) same;
        interfaces = ap (λ m. map output_interface (take m table)) most ∙ sym (append-nil ks)
            ∙ ap (λ (b : Bool). ks ++ (if b then [] else text.new_among ks i)) (sym s);
        room = refl;
        counted = λ _. all_counted w' table (subst (λ (v : Writer). v.interfaces ≤ room_for (length table)) (sym same) upper_bound);
      }
  section_kept _ w' is s f g = (g (λ x. x), refl)

  pub more_kept : (r : Written) (w' : Writer) (table' : List Interface) → known ≡ most_written w (length table) → (w.has_section == 0) ≡ false
      → nat_lt number known ≡ false → (IsWhole r → HasAdded known p w table w' table') → ((IsWhole r → ⊥) → (w' ≡ w) × (table' ≡ table))
      → KeepsWritten r w table p w' table'
  more_kept (Written.Whole n) w' table' is s l f g = one_more w' table' is s l (f tt)
  more_kept _ w' table' is s l f g = g (λ x. x)

-- ---- the number of an interface

same_self : (i : text.Interface) → text.is_same i i ≡ true
same_self i = grind (arith, nat_eq_equiv, nat_list_eq_equiv)

number_by : (b : Bool) (i : text.Interface) (xs : List text.Interface) → text.number_among (xs ++ text.new_among xs i) i ≡ text.number_among xs i
    → cond (not b) (1 + text.number_among (xs ++ (if b || text.is_among xs i then [] else i ∷ [])) i) 0 ≡ cond (not b) (1 + text.number_among xs i) 0
number_by b i xs h1 = grind arith

pub number_stays : (known : List text.Interface) (i : text.Interface) → text.number_among (known ++ text.new_among known i) i ≡ text.number_among known i
number_stays [] i = ap (λ (b : Bool). cond (not b) 1 0) (same_self i)
number_stays (x ∷ xs) i = number_by (text.is_same i x) i xs (number_stays xs i)
