-- Blocks that were written read back.
use Rattle.std.proofs.Common.{◌≡◌, ℕ, ◌+◌, ◌-◌, ◌*◌, ◌/◌, ◌%◌, ◌^◌, ◌<◌, ◌≤◌, false, List, [], ◌∷◌, ◌++◌, length, take, drop, refl, sym, ap, ap₂, ◌∙◌, arith}
use Rattle.std.proofs.Common.{append_assoc, length-append, Some, None, le-leb, leb-true, lt-ltb, eq-eqb, lit≤, pos, ◌==◌}
use Rattle.std.proofs.lemmas.List.{length-replicate, take_at, drop_at}
use Rattle.cap_pcapng.proofs.Common.{little_bytes, all_met, first_failing, u16_in, u32_in, Little, Described, padded_length, Frame}
use Rattle.cap_pcapng.specs.Block.{EnhancedParts, InterfaceParts, Parts, block_checks, body_checks, body_in, parts_in, parts_in_body}
use Rattle.cap_pcapng.specs.Frame.{frame_checks, frame_in, most_block, section_type, type_of_block}
use Rattle.cap_pcapng.specs.Laws.{InterfaceBack, PacketBack, SectionBack, ReadsAs, written_interface, written_section}
use Rattle.cap_pcapng.specs.Unit.{checks_among, packet_by, section_by, block_size}
use Rattle.cap_pcapng.specs.Encoding.{block_text, comment_text, end_text, block_fit_checks, interface_body, name_text, packet_body, padded_text}
use Rattle.cap_pcapng.specs.Encoding.{resolution_text}
use Rattle.cap_pcapng.proofs.WrittenBlocks.{comment_text-whole, length-interface_body, length-packet_body}
use Rattle.cap_pcapng.specs.{Time.representable_time, Comment.comment_in, Interface.most_interfaces}
use Rattle.cap_octet.specs.{Packet.Captured, Date.NANOS_PER_SECOND}
use Rattle.std.specs.{List.slice_get, Option.option_to_list}
use Rattle.cap_pcapng.proofs.{OptionsBack.comment_back, OptionsBack.options_describe, OptionsBack.options_pass, Numerals.number_at, Units.unit_fault-passes}
use Rattle.cap_octet.specs.Number.{number_in}

-- ---- a section header

pub section_back : SectionBack
unfolding number_in
section_back before = grind arith

-- ---- a block of any type

abbrev pub written_frame : ℕ → List ℕ → Frame
written_frame type body = record { order = Little; block_type = type_of_block type; length = 12 + length body }

-- what a written block of a type other than a section header is
pub record IsWritten (type : ℕ) (body : List ℕ) : Type 0 where
  pub exact : frame_in (Some Little) (block_text type body) ≡ written_frame type body
  pub framed : first_failing (frame_checks (Some Little) (block_text type body)) ≡ None
  pub size : length (block_text type body) ≡ 12 + length body
  pub ends : u32_in Little (block_text type body) (12 + length body - 4) ≡ 12 + length body
  pub between : body_in (written_frame type body) (block_text type body) ≡ body

pub block_written : (type : ℕ) (body : List ℕ) → type < 2 ^ 32 → (type == section_type) ≡ false → length body % 4 ≡ 0 → 12 + length body ≤ most_block
    → IsWritten type body
block_written type body upper_bound other whole most =
    let size : ℕ = 12 + length body in
    let text : List ℕ = block_text type body in
    let type_is : u32_in Little text 0 ≡ type = number_at 4 text 0 type (little_bytes 4 size ++ body ++ little_bytes 4 size) refl upper_bound in
    let size_is : u32_in Little text 4 ≡ size = number_at 4 text 4 size (body ++ little_bytes 4 size) refl (omega arith) in
    let no_section : (u32_in Little text 0 == section_type) ≡ false = ap (λ n. n == section_type) type_is ∙ other in
    record {
      exact = rw (no_section, type_is, size_is) refl;
      framed = rw (no_section, size_is, le-leb 12 size (omega arith), eq-eqb (size % 4) 0 (omega arith), le-leb size most_block most) refl;
      size = simp length-append (omega arith);
      ends = number_at 4 text (size - 4) size []
          (ap (λ n. drop n text) (omega arith) ∙ drop_at (little_bytes 4 type ++ little_bytes 4 size ++ body) (little_bytes 4 size) (8 + length body)
          (omega arith))
          (omega arith);
      between = ap (λ n. take n (body ++ little_bytes 4 size)) (omega arith) ∙ take_at body (little_bytes 4 size) (length body) refl;
    }

-- what a written block reads as, by its body
pub block_reads : (interfaces : List Described) (type : ℕ) (body : List ℕ) → IsWritten type body
    → first_failing (body_checks (type_of_block type) Little body) ≡ None
    → first_failing (checks_among interfaces (parts_in_body (type_of_block type) Little body)) ≡ None
    → ReadsAs (Some (written_section interfaces)) (block_text type body)
    (section_by (Some (written_section interfaces)) Little (parts_in_body (type_of_block type) Little body))
    (option_to_list (packet_by interfaces (parts_in_body (type_of_block type) Little body)))
block_reads interfaces type body w passes among =
    let text : List ℕ = block_text type body in
    let parts : Parts = parts_in_body (type_of_block type) Little body in
    let parts_are : parts_in (written_frame type body) text ≡ parts = ap (λ t. parts_in_body (type_of_block type) Little t) w.between in
    let found : parts_in (frame_in (Some Little) text) text ≡ parts = ap (λ (f : Frame). parts_in f text) w.exact ∙ parts_are in
    let blocked : first_failing (block_checks (written_frame type body) text) ≡ None =
    rw (eq-eqb _ _ w.ends) (ap (λ t. first_failing (body_checks (type_of_block type) Little t)) w.between ∙ passes) in
    let size_is : block_size (Some (written_section interfaces)) text ≡ 12 + length body = ap (λ (f : Frame). f.length) w.exact in
    record {
      is_block = record {
        passes = unit_fault-passes (Some (written_section interfaces)) text (record {
          enough = omega (arith, w.size);
          framed = w.framed;
          least = omega (arith, size_is);
          whole = omega (arith, size_is, w.size);
          blocked = ap (λ (f : Frame). first_failing (block_checks f text)) w.exact ∙ blocked;
          among = ap (λ (p : Parts). first_failing (checks_among interfaces p)) found ∙ among;
        });
        whole = w.size ∙ sym size_is;
      };
      declares = ap₂ (λ o q. section_by (Some (written_section interfaces)) o q) (ap (λ (f : Frame). f.order) w.exact) found;
      holds = ap (λ q. option_to_list (packet_by interfaces q)) found;
    }

-- ---- a packet

pub packet_parts : (number : ℕ) (p : Captured) → number < 2 ^ 32 → p.time < 2 ^ 63 → p.orig < 2 ^ 32 → length p.bytes < 2 ^ 32
    → parts_in_body (type_of_block 6) Little (packet_body number p) ≡ EnhancedParts number p.time (length p.bytes) p.orig Little
    (padded_text p.bytes ++ comment_text p.comment)
packet_parts number p number_fits time_fits orig_fits upper_bound =
    let body : List ℕ = packet_body number p in
    let number_is : u32_in Little body 0 ≡ number = number_at 4 body 0 number (drop 4 body) refl number_fits in
    let high_is : u32_in Little body 4 ≡ p.time / 2 ^ 32 = number_at 4 body 4 (p.time / 2 ^ 32) (drop 8 body) refl (omega arith) in
    let low_is : u32_in Little body 8 ≡ p.time % 2 ^ 32 = number_at 4 body 8 (p.time % 2 ^ 32) (drop 12 body) refl (omega arith) in
    let captured_is : u32_in Little body 12 ≡ length p.bytes = number_at 4 body 12 (length p.bytes) (drop 16 body) refl upper_bound in
    let orig_is : u32_in Little body 16 ≡ p.orig = number_at 4 body 16 p.orig (drop 20 body) refl orig_fits in
    let time_is : p.time / 2 ^ 32 * 4294967296 + p.time % 2 ^ 32 ≡ p.time = omega arith in
    rw (number_is, high_is, low_is, captured_is, orig_is, time_is) refl

-- nanoseconds are the time itself
nanoseconds_back : (time : ℕ) → time < 2 ^ 63 → representable_time time NANOS_PER_SECOND (pos 0) ≡ Some time
nanoseconds_back time upper_bound = grind (arith, lt-ltb)

padded_size : (bytes : List ℕ) → length (padded_text bytes) ≡ padded_length (length bytes)
padded_size bytes = simp (length-append, length-replicate) (omega arith)

padded_fits : (bytes more : List ℕ) → padded_length (length bytes) ≤ length (padded_text bytes ++ more)
padded_fits bytes more = grind (arith, length-append, padded_size)

packet_among : (interfaces : List Described) (number : ℕ) (p : Captured) → slice_get interfaces number ≡ Some (written_interface p.link p.snap p.name)
    → p.time < 2 ^ 63 → first_failing
    (checks_among interfaces (EnhancedParts number p.time (length p.bytes) p.orig Little (padded_text p.bytes ++ comment_text p.comment))) ≡ None
packet_among interfaces number p known upper_bound = grind (arith, le-leb, padded_fits, nanoseconds_back)

-- the data and the comment of a body
data_back : (bytes more : List ℕ) → take (length bytes) (padded_text bytes ++ more) ≡ bytes
data_back bytes more = simp (append_assoc, take_at)

comment_after : (bytes comment : List ℕ) → length comment ≤ 65535
    → comment_in Little (drop (padded_length (length bytes)) (padded_text bytes ++ comment_text comment)) ≡ comment
comment_after bytes comment short = simp (drop_at, padded_size, comment_back)

packet_held : (interfaces : List Described) (number : ℕ) (p : Captured) → slice_get interfaces number ≡ Some (written_interface p.link p.snap p.name)
    → p.time < 2 ^ 63 → length p.comment ≤ 65535
    → packet_by interfaces (EnhancedParts number p.time (length p.bytes) p.orig Little (padded_text p.bytes ++ comment_text p.comment)) ≡ Some p
packet_held interfaces number p known upper_bound short = rw (known, nanoseconds_back, data_back, comment_after) refl

pub packet_back : PacketBack
packet_back interfaces number p known number_fits time_fits orig_fits short fits =
    let most : 32 + padded_length (length p.bytes) + length (comment_text p.comment) ≤ most_block =
    leb-true (32 + padded_length (length p.bytes) + length (comment_text p.comment)) most_block (all_met (block_fit_checks p) fits).0 in
    let whole : length (comment_text p.comment) % 4 ≡ 0 = comment_text-whole p.comment in
    let body : List ℕ = packet_body number p in
    let size : length body ≡ 20 + padded_length (length p.bytes) + length (comment_text p.comment) = length-packet_body number p in
    let w : IsWritten 6 body = block_written 6 body (omega arith) refl (omega arith) (omega arith) in
    let parts : parts_in_body (type_of_block 6) Little body ≡ EnhancedParts number p.time (length p.bytes) p.orig Little
    (padded_text p.bytes ++ comment_text p.comment) =
    packet_parts number p number_fits time_fits orig_fits (omega arith) in
    let reads = block_reads interfaces 6 body w (rw (le-leb 20 (length body) (omega arith)) refl)
    (ap (λ q. first_failing (checks_among interfaces q)) parts ∙ packet_among interfaces number p known time_fits) in
    record {
      is_block = reads.is_block;
      declares = reads.declares ∙ ap (λ q. section_by (Some (written_section interfaces)) Little q) parts;
      holds = reads.holds ∙ ap (λ q. option_to_list (packet_by interfaces q)) parts ∙ ap option_to_list (packet_held interfaces number p known time_fits short);
    }

-- ---- an interface

interface_parts : (link snap : ℕ) (name : List ℕ) → link < 2 ^ 16 → snap < 2 ^ 32
    → parts_in_body (type_of_block 1) Little (interface_body link snap name) ≡ InterfaceParts link snap Little (name_text name ++ resolution_text ++ end_text)
interface_parts link snap name link_fits snap_fits =
    let body : List ℕ = interface_body link snap name in
    let link_is : u16_in Little body 0 ≡ link = number_at 2 body 0 link (drop 2 body) refl link_fits in
    let snap_is : u32_in Little body 4 ≡ snap = number_at 4 body 4 snap (drop 8 body) refl snap_fits in
    rw (link_is, snap_is) refl

interface_size : (link snap : ℕ) (name : List ℕ) → length name ≤ 255
    → (length (interface_body link snap name) % 4 ≡ 0) × (20 ≤ length (interface_body link snap name)) × (length (interface_body link snap name) ≤ 280)
interface_size link snap [] short = (refl, lit≤ tt, lit≤ tt)
interface_size link snap (b ∷ bytes) short =
    let size : length (interface_body link snap (b ∷ bytes)) ≡ 24 + padded_length (length (b ∷ bytes)) = length-interface_body link snap b bytes in
    (omega arith, omega arith, omega arith)

pub interface_back : InterfaceBack
interface_back interfaces link snap name room link_fits snap_fits short =
    let body : List ℕ = interface_body link snap name in
    let size = interface_size link snap name short in
    let w : IsWritten 1 body = block_written 1 body (omega arith) refl size.0 (omega arith) in
    let parts : parts_in_body (type_of_block 1) Little body ≡ InterfaceParts link snap Little (name_text name ++ resolution_text ++ end_text) =
    interface_parts link snap name link_fits snap_fits in
    let among : first_failing (checks_among interfaces (InterfaceParts link snap Little (name_text name ++ resolution_text ++ end_text))) ≡ None =
    rw (lt-ltb (length interfaces) most_interfaces room) (options_pass name short) in
    let reads = block_reads interfaces 1 body w (rw (le-leb 8 (length body) (omega arith)) refl)
    (ap (λ q. first_failing (checks_among interfaces q)) parts ∙ among) in
    record {
      is_block = reads.is_block;
      declares =
          reads.declares ∙ ap (λ q. section_by (Some (written_section interfaces)) Little q) parts
          ∙ ap (λ (i : Described). written_section (interfaces ++ i ∷ [])) (options_describe link snap name short);
      holds = reads.holds ∙ ap (λ q. option_to_list (packet_by interfaces q)) parts;
    }
