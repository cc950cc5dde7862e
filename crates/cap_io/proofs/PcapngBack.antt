-- A capture that is written in pcapng reads back.
use Rattle.std.proofs.Common.{rules, ◌≡◌, ℕ, ◌<◌, ◌≤◌, Bool, true, false, List, [], ◌∷◌, ◌++◌, length, map, if◌then◌else◌, Option, None, Some, refl, sym, ap}
use Rattle.std.proofs.Common.{subst, ◌∙◌, length-append}
use Rattle.cap_io.proofs.Common.{arith, AllByRecursion, flat_map, slice_get, option_map, fold-append, append_assoc, append-nil, length-map, map-append}
use Rattle.cap_io.proofs.Common.{first_failing, Captured, Pcapng, Described, most_interfaces, PcapngFile, Back, InRange, IsCarried, ReadsBack, number_among}
use Rattle.std.proofs.lemmas.Option.{slice_get-map, slice_get_within}
use Rattle.cap_io.specs.Capture.{Nothing, IsUnit, a_first_block, a_block, first_link_after}
use Rattle.cap_io.specs.Text.{Interface, interface_of, is_among, kept_interfaces, new_among}
use Rattle.cap_io.proofs.Backs.{Holds, each-following, holds-none, holds-unit, reads-back}
use Rattle.cap_io.proofs.Interfaces.{found, kept-grows, kept-push}
use Rattle.cap_io.proofs.Texts.{bare_text, text-start}
use Rattle.cap_pcapng.proofs.WrittenBack.{section_back, interface_back, packet_back}
use Rattle.cap_pcapng.specs.{Unit.Section, Unit.packets_in, Laws.ReadsAs, Laws.written_interface, Laws.written_section}
use Rattle.cap_pcapng.specs.Encoding as pcapng

-- ---- units

abbrev described : Interface → Described
described i = written_interface i.link i.snap i.name

abbrev section_of : List Interface → Section
section_of interfaces = written_section (map described interfaces)

unit-of : (first : Option ℕ) (before after : Section) (bytes : List ℕ) (ps : List Captured) → ReadsAs (Some before) bytes after ps
    → IsUnit (PcapngFile first before) bytes ps (PcapngFile (first_link_after first after) after)
unit-of first before after bytes ps reads =
    let P : List Captured → Type 0 = λ qs. IsUnit (PcapngFile first before) bytes qs (PcapngFile (first_link_after first after) after) in
    let Q : Section → Type 0 = λ s. IsUnit (PcapngFile first before) bytes (packets_in (Some before) bytes) (PcapngFile (first_link_after first s) s) in
    subst P reads.holds (subst Q reads.declares (a_block first before bytes reads.is_block))

first-unit : (after : Section) (bytes : List ℕ) (ps : List Captured) → ReadsAs None bytes after ps → IsUnit Nothing bytes ps
    (PcapngFile (first_link_after None after) after)
first-unit after bytes ps reads =
    let P : List Captured → Type 0 = λ qs. IsUnit Nothing bytes qs (PcapngFile (first_link_after None after) after) in
    let Q : Section → Type 0 = λ s. IsUnit Nothing bytes (packets_in None bytes) (PcapngFile (first_link_after None s) s) in
    subst P reads.holds (subst Q reads.declares (a_first_block bytes reads.is_block))

-- ---- a packet

record IsKept (p : Captured) : Type 0 where
  in_range : InRange p
  fits : first_failing (pcapng.block_fit_checks p) ≡ None

-- what is held after a place, whatever link type was declared first
abbrev HoldsAfter : List Interface → List ℕ → List Captured → Type 0
HoldsAfter interfaces more ps = (first : Option ℕ) (at : ℕ) → Holds (PcapngFile first (section_of interfaces)) at more ps

-- a packet whose interface has this number
packet-holds : (interfaces : List Interface) (number : ℕ) (p : Captured) (more : List ℕ) (ps : List Captured) → slice_get interfaces number ≡ Some
    (interface_of p)
    → length interfaces ≤ most_interfaces → IsKept p → HoldsAfter interfaces more ps → HoldsAfter interfaces (pcapng.packet_block number p ++ more) (p ∷ ps)
packet-holds interfaces number p more ps known upper_bound kept later first at =
    let within : number < length interfaces = slice_get_within interfaces number (interface_of p) known in
    let exact : slice_get (map described interfaces) number ≡ Some (written_interface p.link p.snap p.name) =
    slice_get-map described interfaces number ∙ ap (option_map described) known in
    let unit = unit-of first (section_of interfaces) (section_of interfaces) (pcapng.packet_block number p) (p ∷ [])
    (packet_back (map described interfaces) number p exact (omega arith) kept.in_range.time kept.in_range.orig kept.in_range.comment kept.fits) in
    holds-unit unit at more ps (later _ _)

-- the description of a new interface
interface-holds : (interfaces : List Interface) (p : Captured) (more : List ℕ) (ps : List Captured) → length interfaces < most_interfaces → InRange p
    → HoldsAfter (interfaces ++ interface_of p ∷ []) more ps → HoldsAfter interfaces (pcapng.interface_text p.link p.snap p.name ++ more) ps
interface-holds interfaces p more ps room in_range later first at =
    let one = interface_back (map described interfaces) p.link p.snap p.name (omega (arith, length-map interfaces described)) in_range.link
    in_range.snap in_range.name in
    let same : written_section (map described interfaces ++ written_interface p.link p.snap p.name ∷ []) ≡ section_of (interfaces ++ interface_of p ∷ []) =
    ap written_section (sym (map-append described interfaces (interface_of p ∷ []))) in
    let R : Section → Type 0 = λ s. ReadsAs (Some (section_of interfaces)) (pcapng.interface_text p.link p.snap p.name) s [] in
    let unit = unit-of first (section_of interfaces) (section_of (interfaces ++ interface_of p ∷ [])) (pcapng.interface_text p.link p.snap p.name) []
    (subst R same one) in
    holds-unit unit at more ps (later _ _)

-- a packet, after the description of its interface where that is new
described-holds : (b : Bool) (interfaces : List Interface) (number : ℕ) (p : Captured) (more : List ℕ) (ps : List Captured)
    → slice_get (interfaces ++ (if b then [] else interface_of p ∷ [])) number ≡ Some (interface_of p)
    → length (interfaces ++ (if b then [] else interface_of p ∷ [])) ≤ most_interfaces → IsKept p
    → HoldsAfter (interfaces ++ (if b then [] else interface_of p ∷ [])) more ps
    → HoldsAfter interfaces ((flat_map (λ (i : Interface). pcapng.interface_text i.link i.snap i.name) (if b then [] else interface_of p ∷ [])
    ++ pcapng.packet_block number p) ++ more) (p ∷ ps)
described-holds true interfaces number p more ps known upper_bound kept later =
    packet-holds interfaces number p more ps (rw (append-nil interfaces) at known) (rw (append-nil interfaces) at upper_bound) kept
    (rw (append-nil interfaces) at later)
described-holds false interfaces number p more ps known upper_bound kept later =
    let bytes : List ℕ = pcapng.interface_text p.link p.snap p.name in
    let split : ((bytes ++ []) ++ pcapng.packet_block number p) ++ more ≡ bytes ++ (pcapng.packet_block number p ++ more) =
    ap (λ (l : List ℕ). (l ++ pcapng.packet_block number p) ++ more) (append-nil bytes) ∙ append_assoc bytes (pcapng.packet_block number p) more in
    let H : List ℕ → Type 0 = λ l. HoldsAfter interfaces l (p ∷ ps) in
    subst H (sym split)
    (interface-holds interfaces p (pcapng.packet_block number p ++ more) (p ∷ ps)
    (omega (arith, upper_bound, length-append interfaces (interface_of p ∷ []))) kept.in_range
    (packet-holds (interfaces ++ interface_of p ∷ []) number p more ps known upper_bound kept later))

-- ---- packets

few-front : (xs ys : List Captured) (n : ℕ) → length (kept_interfaces Pcapng (xs ++ ys)) ≤ n → length (kept_interfaces Pcapng xs) ≤ n
few-front xs ys n upper_bound = grind (arith, fold-append, kept-grows)

packets-hold : (earlier ps : List Captured) → AllByRecursion IsKept ps → length (kept_interfaces Pcapng (earlier ++ ps)) ≤ most_interfaces
    → HoldsAfter (kept_interfaces Pcapng earlier) (bare_text Pcapng earlier ps) ps
packets-hold earlier [] kept upper_bound = grind (arith, holds-none)
packets-hold earlier (p ∷ ps) kept upper_bound =
    let i : Interface = interface_of p in
    let is : List Interface = kept_interfaces Pcapng earlier in
    let more : List ℕ = bare_text Pcapng (earlier ++ p ∷ []) ps in
    let following : length (kept_interfaces Pcapng ((earlier ++ p ∷ []) ++ ps)) ≤ most_interfaces =
    let L : List Captured → Type 0 = λ l. length (kept_interfaces Pcapng l) ≤ most_interfaces in subst L (sym (append_assoc earlier (p ∷ []) ps)) upper_bound in
    let grown : kept_interfaces Pcapng (earlier ++ p ∷ []) ≡ is ++ new_among is i = kept-push Pcapng earlier p in
    let later : HoldsAfter (is ++ new_among is i) more ps =
    let H : List Interface → Type 0 = λ l. HoldsAfter l more ps in subst H grown (packets-hold (earlier ++ p ∷ []) ps kept.1 following) in
    let within : length (is ++ new_among is i) ≤ most_interfaces =
    let L : List Interface → Type 0 = λ l. length l ≤ most_interfaces in subst L grown (few-front (earlier ++ p ∷ []) ps most_interfaces following) in
    described-holds (is_among is i) is (number_among is i) p more ps (found is i) within kept.0 later

-- ---- a file

kept-of : (earlier : List Captured) (p : Captured) → IsCarried Pcapng earlier p → IsKept p
kept-of earlier p carried = search rules

pub pcapng-back : Back Pcapng
pcapng-back p ps carries =
    let kept = each-following IsKept (p ∷ ps) (λ earlier q later is. kept-of earlier q (carries.each earlier q later is)) [] (p ∷ ps) refl in
    let unit = first-unit (written_section []) pcapng.section_text [] (section_back None) in
    let R : List ℕ → Type 0 = λ t. ReadsBack t (p ∷ ps) in
    subst R (sym (text-start Pcapng p ps))
    (reads-back (pcapng.section_text ++ bare_text Pcapng [] (p ∷ ps)) (p ∷ ps)
    (holds-unit unit 0 (bare_text Pcapng [] (p ∷ ps)) (p ∷ ps) (packets-hold [] (p ∷ ps) kept carries.interfaces _ _)))
