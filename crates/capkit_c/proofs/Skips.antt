-- The effect of skipping a refused unit.
use Rattle.capkit_c.proofs.Common.{inl, inr, ap₂, block_size, parts_after, section_of, IsFramed, NextLeaves, Packet, ends, fails, finds, is_full, passes, ◌≡◌}
use Rattle.capkit_c.proofs.Common.{ℕ, ◌+◌, ◌<◌, ◌≤◌, ◌%◌, List, [], ◌∷◌, ◌++◌, length, take, drop, Option, Some, None, Err, refl, sym, ap, ◌∙◌, subst, arith}
use Rattle.capkit_c.proofs.Common.{Bool, false, nat_lt, ◌==◌, nat_le, ◌&&◌, ◌||◌, not, if◌then◌else◌, length-take-le, take-append-drop, take-take}
use Rattle.capkit_c.proofs.Common.{Captured, Fault, Order, checked_err, Head, is_section, frame_fault, frame_in, Described, Section, order_before}
use Rattle.capkit_c.proofs.Common.{unit_fault, Declared, Nothing, PcapFile, PcapngFile, NoUnit, Whole, front_of, declared_by, FileState, declared_in}
use Rattle.capkit_c.proofs.Common.{first_interfaces, reader_form, most_known, Counts, Interface, Reader, checked, first_failing}
use Rattle.std.specs.Prelude.{is_some, map, pos, ◌^◌}
use Rattle.cap_pcapng.specs.Time.{microseconds, representable_time}
use Rattle.std.proofs.lemmas.{Bool.Decides.nat_tests, List.length-append, List.length-map}
use Rattle.cap_octet.specs.declared.fault.Fault.TheVariants.{NotACaptureFile, TooLong, BadBlockLength, BadByteOrderMagic}
use Rattle.cap_pcapng.specs.Block.{Parts, InterfaceParts, parts_in}
use Rattle.cap_pcapng.specs.{Interface.description_of, declared.frames.Frame.Frame}
use Rattle.cap_pcapng.specs.declared.interface.Interface.{Interface as PcapngInterface}
use Rattle.cap_pcapng.specs.Frame.{length_in, magic_order, most_block}
use Rattle.cap_pcapng.proofs.Units.{unit_fault-few}
use Rattle.cap_io.specs.Capture.{Front, unit_unless}
use Rattle.cap_io.proofs.FirstUnits.{frame_fails}
use Rattle.capkit_c.proofs.Leaves.{declared_after, declared_as, is_after}
use Rattle.capkit_c.specs.Layout.{described_of}
use Rattle.capkit_c.specs.Skipping.{PastUnit, SkipLeaves, found_at, found_in_front, found_with, goes_past, interface_count, is_cut, offset_of_no_time, past_at}
use Rattle.capkit_c.specs.Skipping.{past_by, past_front, past_interface, refused_part, stays, unread_interface, with_interface}
use Rattle.capkit_c.specs.declared.memory.{reader.Found.Found, skip.RefusedPart.RefusedPart, skip.Skip.Skip}
use Rattle.capkit_c.specs.inside.{Skipping.Describes, Skipping.IsUnread, Skipping.Moves, Skipping.RefusesForm, Units.IsBare, Units.IsFull}
use Rattle.cap_io.specs.declared.file_state.FileState.TheVariants as form

-- ---- a block whose form is refused

is_form : (f g : Fault) → Some f ≡ Some g → refused_part f ≡ RefusedPart.Form → refused_part g ≡ RefusedPart.Form
is_form f g e part = grind arith

pub refuses : (before : Option Section) (text : List ℕ) (fault : Fault) → unit_fault before text ≡ Some fault → refused_part fault ≡ RefusedPart.Form
    → RefusesForm before text
refuses before text fault e part = grind (arith, is_form)

pub few : (before : Option Section) (text : List ℕ) → length text < 12 → RefusesForm before text
few before text short = grind (arith, refuses, unit_fault-few)

by_frame : (a b c d : Bool) (fault : Fault) → first_failing ((a, NotACaptureFile) ∷ (b, BadByteOrderMagic) ∷ (c, BadBlockLength) ∷ (d, TooLong) ∷
    []) ≡ Some fault → refused_part fault ≡ RefusedPart.Form
by_frame a b c d fault h1 = grind (arith, is_form)

pub frame_refused : (before : Option Section) (section : Option Order) (text front : List ℕ) (fault : Fault) → order_before before ≡ section
    → 12 ≤ length text → front ≡ take 12 text
    → Err fault ≡ checked (frame_fault section front) (frame_in section front) → RefusesForm before text
frame_refused before section text front fault is enough same exact =
    let e : frame_fault section front ≡ Some fault = checked_err (frame_fault section front) (frame_in section front) fault (sym exact) in
    refuses before text fault (frame_fails before section text front fault is enough same exact)
    (by_frame (is_section front || is_some section) (not (is_section front) || is_some (magic_order front))
    (nat_le 12 (length_in section front) && (length_in section front % 4 == 0)) (nat_le (length_in section front) most_block) fault e)

-- ---- a unit that can't be skipped, and one that can

-- what is declared, by the state of the file
pub by_state : (r : Reader) (t : List Interface) (f : FileState) → reader_form r ≡ f → declared_in r t ≡ declared_by f
    (first_interfaces (most_known r (length t)) t)
by_state r t f is = grind arith

-- the unit that is skipped, by the part that is refused
pub past_is : (capture : List ℕ) (r : Reader) (t : List Interface) (f : FileState) (fault : Fault) (part : RefusedPart) → reader_form r ≡ f
    → front_of (declared_in r t) (drop r.offset capture) ≡ NoUnit (Some fault) → part ≡ refused_part fault
    → past_at capture r t ≡ past_by (declared_by f (first_interfaces (most_known r (length t)) t)) (drop r.offset capture) part
past_is capture r t f fault part is refused same = grind (arith, by_state)

pub kept : (capture : List ℕ) (r : Reader) (t : List Interface) (fault : Fault) → front_of (declared_in r t) (drop r.offset capture) ≡ NoUnit
    (Some fault) → past_at capture r t ≡ None
    → SkipLeaves capture r r t t (Skip.Not (Found.Fault fault))
kept capture r t fault refused none = stays (Found.Fault fault) none (sym (ap (found_in_front (length t)) refused)) refl refl

pub moved : (capture : List ℕ) (r r' : Reader) (t : List Interface) (f' : FileState) (count : ℕ) (unit : PastUnit) (result : Skip)
    → past_at capture r t ≡ Some unit → unit.declared ≡ declared_by f' (first_interfaces count t) → 0 < unit.size
    → count ≤ length t → count ≤ 256 → Moves capture unit.size f' count r r' result → SkipLeaves capture r r' t t result
moved capture r r' t f' count unit Skip.Past past declares some fits upper_bound m =
    goes_past unit past (declares ∙ declared_after f' r' t count m.state m.interfaces fits upper_bound)
    (is_after capture unit.size r r' t f' count m.offset m.there some m.state m.link m.interfaces fits upper_bound) refl
moved capture r r' t f' count unit (Skip.Not found) past declares some fits upper_bound m =
    subst (λ w. SkipLeaves capture r r' t t (Skip.Not w)) (sym m.1) (is_cut unit past m.0 m.2 refl)

pub not_header : (bytes : List ℕ) (part : RefusedPart) → ¬ part ≡ RefusedPart.LinkType → past_by Nothing bytes part ≡ None
not_header bytes part h1 = grind arith

pub not_record : (head : Head) (bytes : List ℕ) (part : RefusedPart) → ¬ part ≡ RefusedPart.Time → past_by (PcapFile head) bytes part ≡ None
not_record head bytes part h1 = grind arith

-- ---- interfaces

described_count : (n : ℕ) (t : List Interface) → n ≤ length t → length (first_interfaces n t) ≡ n
described_count n t fits = length-map (take n t) _ ∙ length-take-le n t fits

pub one_more : (n : ℕ) (t : List Interface) (i : Described) → n ≤ length t → length (first_interfaces n t ++ i ∷ []) ≡ n + 1
one_more n t i fits = grind (arith, length-append, described_count)

-- a description block is skipped if its section has room; otherwise it isn't
pub past_description : (first : Option ℕ) (section : Section) (size link snap : ℕ) (order : Order) (options : List ℕ) → length section.interfaces < 256
    → past_interface first section size (InterfaceParts link snap order options) ≡ Some
    (record { size = size; declared = with_interface first section (unread_interface link snap) })
past_description first section size link snap order options fits = grind (arith, nat_tests)

pub no_description : (first : Option ℕ) (section : Section) (size : ℕ) (parts : Parts) → 256 ≤ length section.interfaces
    → past_interface first section size parts ≡ None
no_description first section size parts h1 = grind (arith, nat_tests)

-- ---- a block that is refused

without_fault : (why : Option Fault) (size : ℕ) (packets : List Captured) (d : Declared) (fault : Fault) → unit_unless why (Whole size packets d) ≡
    NoUnit (Some fault) → why ≡ Some fault
without_fault why size packets d fault h1 = grind arith

unit_of_front : (first : Option ℕ) (section : Section) (text : List ℕ) (fault : Fault) → front_of (PcapngFile first section) text ≡ NoUnit
    (Some fault) → unit_fault (Some section) text ≡ Some fault
unit_of_front first section text fault h1 = grind (arith, without_fault)

not_block : (first : Option ℕ) (section : Section) (bytes : List ℕ) (part : RefusedPart) → ¬ part ≡ RefusedPart.Time → ¬ part ≡ RefusedPart.Options
    → past_by (PcapngFile first section) bytes part ≡ None
not_block first section bytes part h1 h2 = grind arith

module _ (capture : List ℕ) (r : Reader) (t : List Interface) (order : Order) (first : Option ℕ) (fault : Fault)
    (state : reader_form r ≡ form.Pcapng order first) (refused : front_of (declared_in r t) (drop r.offset capture) ≡ NoUnit (Some fault))
    (text : List ℕ) (same : text ≡ drop r.offset capture) where
  abbrev bytes : List ℕ
  bytes = drop r.offset capture

  abbrev section : Section
  section = section_of order (first_interfaces (most_known r (length t)) t)

  past : (part : RefusedPart) → part ≡ refused_part fault → past_at capture r t ≡ past_by (PcapngFile first section) bytes part
  past part is = past_is capture r t (form.Pcapng order first) fault part state refused is

  fault_is : unit_fault (Some section) bytes ≡ Some fault
  fault_is = unit_of_front first section bytes fault (ap (λ d. front_of d bytes) (sym (by_state r t (form.Pcapng order first) state)) ∙ refused)

  pub past_form : RefusesForm (Some section) text → past_at capture r t ≡ None
  past_form refuses = let part : refused_part fault ≡ RefusedPart.Form = subst (λ b. RefusesForm (Some section) b) same refuses fault fault_is in
      past RefusedPart.Form (sym part)

  pub past_other : (part : RefusedPart) → part ≡ refused_part fault → ¬ part ≡ RefusedPart.Time → ¬ part ≡ RefusedPart.Options → past_at capture r t ≡ None
  past_other part is time options = past part is ∙ not_block first section bytes part time options

  pub past_full : RefusedPart.Options ≡ refused_part fault → 256 ≤ most_known r (length t) → past_at capture r t ≡ None
  past_full is full =
      let count : length (first_interfaces (most_known r (length t)) t) ≡ most_known r (length t) = described_count (most_known r (length t)) t (omega arith) in
      past RefusedPart.Options is ∙ no_description first section (block_size (Some section) bytes) (parts_after (Some section) bytes)
      (omega (arith, count, full))

  module _ (frame : Frame) (framed : IsFramed (Some section) text frame) where
    here : IsFramed (Some section) bytes frame
    here = subst (λ b. IsFramed (Some section) b frame) same framed

    size : block_size (Some section) bytes ≡ frame.length
    size = ap (λ (g : Frame). g.length) here.says

    parts : parts_after (Some section) bytes ≡ parts_in frame bytes
    parts = ap (λ (g : Frame). parts_in g bytes) here.says

    pub past_time : RefusedPart.Time ≡ refused_part fault → past_at capture r t ≡ Some (record { size = frame.length; declared = PcapngFile first section })
    past_time is = past RefusedPart.Time is ∙ ap (λ n. Some (record { size = n; declared = PcapngFile first section })) size

    by_parts : RefusedPart.Options ≡ refused_part fault → past_at capture r t ≡ past_interface first section frame.length (parts_in frame bytes)
    by_parts is = past RefusedPart.Options is ∙ ap₂ (past_interface first section) size parts

    pub past_unread : (i : PcapngInterface) → RefusedPart.Options ≡ refused_part fault → Describes frame text i → most_known r (length t) < 256
        → past_at capture r t ≡ Some (record { size = frame.length; declared = with_interface first section (description_of i) })
    past_unread i is unread fits =
        let d = subst (λ b. Describes frame b i) same unread in
        let count : length (first_interfaces (most_known r (length t)) t) ≡ most_known r (length t) = described_count (most_known r (length t)) t
        (omega arith) in
        by_parts is ∙ ap (past_interface first section frame.length) d.parts
        ∙ past_description first section frame.length i.link i.snap d.order d.options (omega (arith, count, fits))
        ∙ ap (λ e. Some (record { size = frame.length; declared = with_interface first section e })) (sym d.described)

    pub past_none : RefusedPart.Options ≡ refused_part fault → IsUnread frame text None → past_at capture r t ≡ None
    past_none is unread = elim (unread (Some section) framed) [
      | inl refuses ↦ past_form refuses
      | inr none ↦ by_parts is ∙ ap (λ b. past_interface first section frame.length (parts_in frame b)) (sym same) ∙ none first section frame.length
    ]

-- ---- what is found of a unit, in a table of just the interfaces that are known

with_room : (room n : ℕ) (found : Found) → n ≤ room → (if nat_lt room n then Found.NoRoom else found) ≡ found
with_room room n found fits = grind (arith, nat_tests)

without_room : (room n : ℕ) (found : Found) → room < n → (if nat_lt room n then Found.NoRoom else found) ≡ Found.NoRoom
without_room room n found short = grind (arith, nat_tests)

most_count : (f : FileState) (interfaces : List Described) → interface_count (declared_by f interfaces) ≤ length interfaces
most_count f interfaces = grind arith

counts_those : (f : FileState) (r : Reader) (room count : ℕ) → Counts f r room count → Counts f r count count
counts_those f r room count h1 = grind arith

-- what the reader knows of the table
module _ (r : Reader) (t : List Interface) (f : FileState) (count : ℕ) (is : f ≡ reader_form r) (counts : Counts f r (length t) count)
    (fits : count ≤ length t) where
  those : length (take count t) ≡ count
  those = length-take-le count t fits

  counted : Counts f r (length (take count t)) count
  counted = subst (λ n. Counts f r n count) (sym those) (counts_those f r (length t) count counts)

  pub known_alike : declared_in r (take count t) ≡ declared_in r t
  known_alike =
      let all : take count (take count t) ≡ take count t = take-take count count t (omega arith) in
      sym (declared_as f r (take count t) count is counted) ∙ ap (λ (l : List Interface). declared_by f (map described_of l)) all
      ∙ declared_as f r t count is counts

  pub all_taken : IsBare f count → IsFull (reader_form r) r (length (take count t))
  all_taken bare = subst (λ g. IsFull g r (length (take count t))) is
      (subst (λ n. Counts f r (length (take count t)) n × IsBare f n) (sym those) (counted, bare))

  pub untouched : (s' : List Interface) → s' ≡ take count t → s' ++ drop count t ≡ t
  untouched s' kept = ap (λ (l : List Interface). l ++ drop count t) kept ∙ take-append-drop count t

-- what is found in a table with less room is found, unless that has no room
in_more_room : (lacks : Bool) (n room count : ℕ) (what found : Found) → nat_lt n count ≡ lacks
    → what ≡ (if nat_lt n count then Found.NoRoom else found) → n ≤ room → (what ≡ Found.NoRoom → n ≡ room)
    → what ≡ (if nat_lt room count then Found.NoRoom else found)
in_more_room lacks n room count what found h1 h2 h3 h4 = grind (arith, nat_tests, with_room)

-- nothing is gone past where a text begins with a sound unit or nothing
found_front : (capture : List ℕ) (r : Reader) (t t' : List Interface) (n : ℕ) (front : Front) (what : Found) → front_of (declared_in r t)
    (drop r.offset capture) ≡ front → what ≡ found_in_front n front → n ≤ length t → (what ≡ Found.NoRoom → n ≡ length t)
    → ((fault : Fault) → ¬ what ≡ Found.Fault fault) → t' ≡ t → SkipLeaves capture r r t t' (Skip.Not what)
found_front capture r t t' n (NoUnit None) what is says fits full sound same =
    stays what (ap (past_front (declared_in r t) (drop r.offset capture)) is) (says ∙ sym (ap (found_in_front (length t)) is)) refl same
found_front capture r t t' n (NoUnit (Some fault)) what is says fits full sound same = absurd (sound fault says)
found_front capture r t t' n (Whole size packets d) what is says fits full sound same =
    stays what (ap (past_front (declared_in r t) (drop r.offset capture)) is)
    (in_more_room (nat_lt n (interface_count d)) n (length t) (interface_count d) what (found_with packets) refl says fits full
    ∙ sym (ap (found_in_front (length t)) is)) refl same

-- ---- laws

known_fit : (r : Reader) (t : List Interface) → interface_count (declared_in r t) ≤ length t
known_fit r t = grind (arith, most_count, described_count)

pub found_is : (capture : List ℕ) (r r' : Reader) (t t' : List Interface) (p p' : Packet) (what : Found) → length t' ≡ length t
    → NextLeaves capture r r' t t' p p' what → what ≡ found_at capture r t
found_is capture r r' t t' p p' what same (passes size front after kept) = grind (arith, with_room, known_fit)
found_is capture r r' t t' p p' what same (finds size q front after is) = grind (arith, with_room, known_fit)
found_is capture r r' t t' p p' what same (ends front kept) = grind arith
found_is capture r r' t t' p p' what same (fails fault front kept) = grind arith
found_is capture r r' t t' p p' what same (is_full interfaces most one kept) = grind (arith, length-append, without_room)

-- ---- a unit that was read on copies

-- what the call found of a unit that isn't refused, in a table whose interfaces are all known
pub found : (capture : List ℕ) (r r' : Reader) (t s s' t' : List Interface) (p p' : Packet) (what : Found) → declared_in r s ≡ declared_in r t
    → length s' ≡ length s → NextLeaves capture r r' s s' p p' what → length s ≤ length t → (what ≡ Found.NoRoom → length s ≡ length t)
    → ((fault : Fault) → ¬ what ≡ Found.Fault fault) → t' ≡ t → SkipLeaves capture r r t t' (Skip.Not what)
found capture r r' t s s' t' p p' what known long leaves fits full sound same =
    found_front capture r t t' (length s) (front_of (declared_in r s) (drop r.offset capture)) what
    (ap (λ d. front_of d (drop r.offset capture)) (sym known)) (found_is capture r r' s s' p p' what long leaves) fits full sound same

-- an interface that a table with more room has room for
pub room_left : (capture : List ℕ) (r r' : Reader) (t s s' t' : List Interface) (p p' : Packet) (what : Found) → declared_in r s ≡ declared_in r t
    → NextLeaves capture r r' s s' p p' what → what ≡ Found.NoRoom → length s < length t → t' ≡ t → SkipLeaves capture r r t t' (Skip.Not Found.Unit)
room_left capture r r' t s s' t' p p' what known (passes size front after kept) e more same = grind arith
room_left capture r r' t s s' t' p p' what known (finds size q front after is) e more same = grind arith
room_left capture r r' t s s' t' p p' what known (ends front kept) e more same = grind arith
room_left capture r r' t s s' t' p p' what known (fails fault front kept) e more same = grind arith
room_left capture r r' t s s' t' p p' what known (is_full interfaces most one kept) e more same = grind (arith, length-append, found_front, with_room)

-- the fault that the call found
pub refused_alike : (capture : List ℕ) (r r' : Reader) (t s s' : List Interface) (p p' : Packet) (what : Found) (fault : Fault)
    → declared_in r s ≡ declared_in r t → NextLeaves capture r r' s s' p p' what → what ≡ Found.Fault fault
    → front_of (declared_in r t) (drop r.offset capture) ≡ NoUnit (Some fault)
refused_alike capture r r' t s s' p p' what fault known (passes size front after kept) e = grind arith
refused_alike capture r r' t s s' p p' what fault known (finds size q front after is) e = grind arith
refused_alike capture r r' t s s' p p' what fault known (ends front kept) e = grind arith
refused_alike capture r r' t s s' p p' what fault known (fails why front kept) e = grind arith
refused_alike capture r r' t s s' p p' what fault known (is_full interfaces most one kept) e = grind arith

too_late : (n m : ℕ) → 2 ^ 63 ≤ m → nat_lt (n + m) (2 ^ 63) ≡ false
too_late n m least = grind (arith, nat_tests)

pub no_time : (ticks : ℕ) → representable_time ticks microseconds (pos offset_of_no_time) ≡ None
no_time ticks = grind (arith, too_late)
