-- The effect of reading a unit, from one read of the device to the next.
use Rattle.std.proofs.Common.{◌≡◌, ℕ, Bool, IsTrue, IfOk, IfErr, ◌+◌, ◌<◌, ◌≤◌, inl, inr, List, [], ◌++◌, length, take, drop, Option, Some, None, is_some}
use Rattle.std.proofs.Common.{unwrap_or, true, false, Result, Ok, Err, refl, sym, subst, ap, ap₂, ◌∙◌, length-drop}
use Rattle.cap_io.proofs.Common.{arith, length-append, take-append-drop, drop_at, drop-drop, append_assoc, append-nil, TakesFull, checked, first_failing, Fault}
use Rattle.cap_io.proofs.Common.{NotACaptureFile, ReadFailed, NoMemory, checked_ok, checked_err, Head, RecordHead, form_in, header_fault, header_in, is_section}
use Rattle.cap_io.proofs.Common.{Declared, PacketCame}
use Rattle.cap_pcap.specs.Record.{captured_len, field_checks, record_header_in, record_size, record_packet}
use Rattle.cap_pcap.proofs.Headers.{form_in-append, header_fault-append, header_fault-no_magic, header_fault-short}
use Rattle.cap_pcap.proofs.Records.{field_checks-append, record_header_in-append, captured_len-append, record_fault-fields, record_fault-short, IsRecord-came}
use Rattle.cap_io.specs.Capture.{Nothing, PcapFile, Front, a_pcap_record, front_of, is_pcapng}
use Rattle.cap_io.specs.Reading.{most_in_unit, most_taken, stated_length, decisive_length, IsTaken, TakesMemory}
use Rattle.cap_io.specs.inside.Reading.{NoUnitCame, RestMissing, HeaderCame}
use Rattle.cap_io.proofs.Fronts.{front_of-no_header, front_of-no_record, front_of-pcapng, is_section-append, is_pcapng-append, most_taken-block}
use Rattle.cap_io.proofs.Fronts.{most_taken-header, most_taken-record, most_taken-front, length_by_header-whole, decisive_length-header}
use Rattle.cap_io.proofs.OwnFaults.{own-fields, own-header, own-not_failed, own-not_memory}
use Rattle.std.proofs.{lemmas.List.take_all, Math.ListN.drop_of_length-le}
use Rattle.cap_pcapng.proofs.Units as block

-- bytes that were read, and some more after them
pub Taken-following : (declared : Declared) (unread unread1 unread2 front : List ℕ) (fault : Fault) (count : ℕ) → unread ≡ front ++ unread1
    → count ≤ length unread1 → unread2 ≡ drop count unread1
    → length front + count ≤ most_taken (front_of declared unread) → (fault ≡ ReadFailed → length front + count < decisive_length declared unread)
    → IsTaken declared unread unread2 fault
Taken-following declared unread unread1 unread2 front fault count splits there rest within unfinished = record {
  count = length front + count;
  within = within;
  unfinished = unfinished;
  there = rw splits (simp length-append (omega arith));
  rest = rest ∙ ap (drop count) (grind (arith, drop_at))
      ∙ drop-drop count (length front) unread;
}

-- a read that filled the buffer
pub filled : (unread buf unread' buf' : List ℕ) (n : ℕ) → TakesFull unread buf n unread' buf' → length buf ≤ n → unread ≡ buf' ++ unread'
filled unread buf unread' buf' n came full = grind (arith, take-append-drop, drop_of_length-le, append-nil)

-- ---- the first four bytes

-- a given number of bytes are no more than the first unit of any file
pub most_taken-file : (text : List ℕ) (count : ℕ) → count ≤ 12 → count ≤ most_taken (front_of Nothing text)
most_taken-file text count upper_bound = by_kind (is_pcapng text) refl
  where
    P : Front → Type 0
    P f = count ≤ most_taken f

    by_kind : (b : Bool) → is_pcapng text ≡ b → count ≤ most_taken (front_of Nothing text)
    by_kind true is =
        subst P (sym (front_of-pcapng text is))
        (most_taken-block None None text count (λ none. omega (arith, upper_bound, (block.passes None text none).least)) (omega (arith, upper_bound)))
    by_kind false is = most_taken-header text count is (omega (arith, upper_bound))

-- what is refused after the first four bytes is refused with them
pub NoUnitCame-following : (unread unread1 unread2 first : List ℕ) (fault : Fault) → unread ≡ first ++ unread1 → NoUnitCame Nothing (first ++ unread1)
    unread2 fault → NoUnitCame Nothing unread unread2 fault
NoUnitCame-following unread unread1 unread2 first fault splits refuses = grind arith

-- ---- the file header

other_kind : (unread unread' magic : List ℕ) → unread ≡ magic ++ unread' → length magic ≡ 4 → is_section magic ≡ false → is_pcapng unread ≡ false
other_kind unread unread' magic splits size other = grind (arith, is_pcapng-append)

pub no_magic : (unread unread' magic : List ℕ) → unread ≡ magic ++ unread' → length magic ≡ 4 → is_section magic ≡ false → form_in magic ≡ None
    → NoUnitCame Nothing unread unread' NotACaptureFile
no_magic unread unread' magic splits size other none =
    let whole : form_in unread ≡ None = ap form_in splits ∙ form_in-append magic unread' (omega arith) ∙ none in
    let kind : is_pcapng unread ≡ false = other_kind unread unread' magic splits size other in
    record {
      why = inl (front_of-no_header unread NotACaptureFile kind (header_fault-no_magic unread whole));
      taken = Taken-following Nothing unread unread' unread' magic NotACaptureFile 0 splits (omega arith) refl
          (most_taken-header unread (length magic + 0) kind (omega arith)) (λ failed. (cc));
    }

pub rest_of_header : (unread unread1 unread2 magic : List ℕ) (fault : Fault) (whole : ℕ) → whole ≡ 24 → unread ≡ magic ++ unread1 → length magic ≡ 4
    → is_section magic ≡ false → is_some (form_in magic) ≡ true
    → RestMissing (length magic) whole unread1 unread2 fault → NoUnitCame Nothing unread unread2 fault
rest_of_header unread unread1 unread2 magic fault whole is splits size other some missing =
    let kind : is_pcapng unread ≡ false = other_kind unread unread1 magic splits size other in
    let form : is_some (form_in unread) ≡ true = ap is_some (ap form_in splits ∙ form_in-append magic unread1 (omega arith)) ∙ some in
    let long : length unread ≡ length magic + length unread1 = ap length splits ∙ length-append magic unread1 in
    record {
      why = grind (arith, front_of-no_header, header_fault-short);
      taken = Taken-following Nothing unread unread1 unread2 magic fault missing.count splits missing.there missing.rest
          (grind (arith, most_taken-header))
          (λ failed. rw (decisive_length-header unread kind form) (omega (arith, missing.within)));
    }

-- bytes that were read completely after the first ones, which are unchanged
pub first_of : (first bytes : List ℕ) (size : ℕ) → length bytes ≡ size → take (length first) (take size bytes) ≡ first → take (length first) bytes ≡ first
first_of first bytes size whole came = grind (arith, take_all)

pub joined_front : (unread unread1 unread2 first bytes : List ℕ) (size : ℕ) → length bytes ≡ size → unread ≡ first ++ unread1
    → take (length first) (take size bytes) ≡ first
    → unread1 ≡ drop (length first) (take size bytes) ++ unread2 → unread ≡ bytes ++ unread2
joined_front unread unread1 unread2 first bytes size whole splits front rest =
    let n = length first in
    let same : take size bytes ≡ bytes = take_all size bytes (omega arith) in
    let following : unread1 ≡ drop n bytes ++ unread2 = rest ∙ ap (λ (l : List ℕ). drop n l ++ unread2) same in
    splits ∙ ap (λ (l : List ℕ). first ++ l) following ∙ sym (append_assoc first (drop n bytes) unread2)
    ∙ ap (λ (l : List ℕ). l ++ unread2) (ap (λ (l : List ℕ). l ++ drop n bytes) (sym (first_of first bytes size whole front)) ∙ take-append-drop n bytes)

header_says : (unread unread2 bytes : List ℕ) (head : Head) → unread ≡ bytes ++ unread2 → length bytes ≡ 24 → Ok head ≡ checked (header_fault bytes)
    (header_in bytes) → HeaderCame unread head unread2
header_says unread unread2 bytes head splits size is = grind (arith, checked_ok)

header_wrong : (unread unread2 bytes : List ℕ) (fault : Fault) → unread ≡ bytes ++ unread2 → length bytes ≡ 24 → is_section bytes ≡ false
    → Err fault ≡ checked (header_fault bytes) (header_in bytes) → NoUnitCame Nothing unread unread2 fault
header_wrong unread unread2 bytes fault splits size other is =
    let kind : is_pcapng unread ≡ false = ap is_pcapng splits ∙ is_pcapng-append bytes unread2 (omega arith) ∙ other in
    let fails : header_fault bytes ≡ Some fault = checked_err (header_fault bytes) (header_in bytes) fault (sym is) in
    let whole : header_fault unread ≡ Some fault = ap header_fault splits ∙ header_fault-append bytes unread2 (omega arith) ∙ fails in
    record {
      why = inl (front_of-no_header unread fault kind whole);
      taken = Taken-following Nothing unread unread2 unread2 bytes fault 0 splits (omega arith) refl
          (most_taken-header unread (length bytes + 0) kind (omega arith))
          (λ failed. absurd (own-not_failed fault (own-header bytes fault fails) failed));
    }

-- the first four bytes are those that were read first
pub section_of_bytes : (bytes first : List ℕ) → take (length first) bytes ≡ first → 4 ≤ length first → is_section bytes ≡ is_section first
section_of_bytes bytes first front enough =
    let joined : first ++ drop (length first) bytes ≡ bytes = grind (arith, take-append-drop) in
    ap is_section (sym joined) ∙ is_section-append first (drop (length first) bytes) enough

pub header_came : (exact : Bool) (unread unread2 bytes : List ℕ) (answer : Result Head Fault) → (IsTrue exact → unread ≡ bytes ++ unread2)
    → length bytes ≡ 24 → answer ≡ checked (header_fault bytes) (header_in bytes)
    → IfOk answer (λ head. IsTrue exact → HeaderCame unread head unread2)
header_came exact unread unread2 bytes (Ok head) splits size is = λ t. header_says unread unread2 bytes head (splits t) size is
header_came exact unread unread2 bytes (Err fault) splits size is = tt

pub header_refused : (exact : Bool) (unread unread2 bytes : List ℕ) (answer : Result Head Fault) → (IsTrue exact → unread ≡ bytes ++ unread2)
    → length bytes ≡ 24 → is_section bytes ≡ false
    → answer ≡ checked (header_fault bytes) (header_in bytes)
    → IfErr answer (λ fault. IsTrue exact → NoUnitCame Nothing unread unread2 fault)
header_refused exact unread unread2 bytes answer splits size other is = grind (arith, header_wrong)

-- ---- a record

pub record FieldsCame (head : Head) (front : List ℕ) (found : RecordHead) : Type 0 where
  pub none : first_failing (field_checks head front) ≡ None
  pub says : found ≡ record_header_in head front

pub fields_came : (head : Head) (front : List ℕ) (answer : Result RecordHead Fault) (found : RecordHead)
    → answer ≡ checked (first_failing (field_checks head front)) (record_header_in head front) → answer ≡ Ok found
    → FieldsCame head front found
fields_came head front answer found is ok = grind (arith, checked_ok)

pub fields_refused : (head : Head) (unread unread1 front : List ℕ) (answer : Result RecordHead Fault) (fault : Fault) → unread ≡ front ++ unread1
    → length front ≡ 16
    → answer ≡ checked (first_failing (field_checks head front)) (record_header_in head front) → answer ≡ Err fault → NoUnitCame (PcapFile head)
    unread unread1 fault
fields_refused head unread unread1 front answer fault splits size is err =
    let fails = checked_err (first_failing (field_checks head front)) (record_header_in head front) fault (sym is ∙ err) in
    let whole : first_failing (field_checks head unread) ≡ Some fault = grind (arith, field_checks-append) in
    let long : length unread ≡ length front + length unread1 = ap length splits ∙ length-append front unread1 in
    record {
      why = inl (front_of-no_record head unread fault (omega arith) (record_fault-fields head unread fault (omega arith) whole));
      taken = Taken-following (PcapFile head) unread unread1 unread1 front fault 0 splits (omega arith) refl
          (most_taken-front head unread (length front + 0) (omega arith))
          (λ failed. absurd (own-not_failed fault (own-fields head front fault fails) failed));
    }

-- a check of a record's header doesn't report that memory ran out
pub fields-has_memory : (head : Head) (front : List ℕ) (answer : Result RecordHead Fault) (fault : Fault)
    → answer ≡ checked (first_failing (field_checks head front)) (record_header_in head front) → answer ≡ Err fault
    → fault ≡ NoMemory → ⊥
fields-has_memory head front answer fault is err = grind (arith, own-not_memory, own-fields, checked_err)

-- nor does one of a file header
pub header-has_memory : (bytes : List ℕ) (answer : Result Head Fault) → answer ≡ checked (header_fault bytes) (header_in bytes)
    → IfErr answer (λ fault. fault ≡ NoMemory → ⊥)
header-has_memory bytes answer is = grind (arith, own-not_memory, own-header, checked_err)

-- a record whose header fails no check needs memory if the buffer has less room
pub record-takes : (head : Head) (unread unread1 front : List ℕ) (found : RecordHead) (size room : ℕ) → size ≡ 16 + found.captured → unread ≡ front
    ++ unread1 → length front ≡ 16 → FieldsCame head front found
    → room < size → TakesMemory room (PcapFile head) unread
record-takes head unread unread1 front found size room is splits upper_bound fields less =
    let said : found.captured ≡ captured_len head front = ap (λ (h : RecordHead). h.captured) fields.says in
    let captured : captured_len head unread ≡ captured_len head front = ap (captured_len head) splits ∙ captured_len-append head front unread1 (omega arith) in
    let none : first_failing (field_checks head unread) ≡ None = ap (λ (t : List ℕ). first_failing (field_checks head t)) splits
    ∙ ap first_failing (field_checks-append head front unread1 (omega arith)) ∙ fields.none in
    let enough : 16 ≤ length unread = omega (arith, upper_bound, ap length splits, length-append front unread1) in
    let stated : stated_length (PcapFile head) unread ≡ Some (record_size head unread) = length_by_header-whole 16 unread (field_checks head unread)
    (record_size head unread) enough none in
    let long : unwrap_or (stated_length (PcapFile head) unread) 0 ≡ record_size head unread = ap (λ (o : Option ℕ). unwrap_or o 0) stated in
    inl (omega (arith, less, is, long, said, captured))

pub no_room : (head : Head) (unread unread1 front : List ℕ) → unread ≡ front ++ unread1 → length front ≡ 16 → NoUnitCame (PcapFile head) unread unread1 NoMemory
no_room head unread unread1 front splits size = record {
  why = inr (inr refl);
  taken = Taken-following (PcapFile head) unread unread1 unread1 front NoMemory 0 splits (omega arith) refl
      (most_taken-front head unread (length front + 0) (omega arith)) (λ failed. (cc));
}

pub data_missing : (head : Head) (unread unread1 unread2 front : List ℕ) (found : RecordHead) (fault : Fault) (size : ℕ) → size ≡ 16 + found.captured
    → unread ≡ front ++ unread1 → length front ≡ 16 → FieldsCame head front found
    → 16 + found.captured ≤ most_in_unit → RestMissing (length front) size unread1 unread2 fault → NoUnitCame (PcapFile head) unread unread2 fault
data_missing head unread unread1 unread2 front found fault size is splits upper_bound fields small missing =
    grind (
      arith,
      length-append,
      captured_len-append,
      field_checks-append,
      length_by_header-whole,
      front_of-no_record,
      record_fault-short,
      Taken-following,
      most_taken-record,
    )

pub record_came : (head : Head) (unread unread1 unread2 front unit buffer : List ℕ) (found : RecordHead) (size : ℕ) → unread ≡ front ++ unread1
    → length front ≡ 16 → FieldsCame head front found
    → size ≡ 16 + found.captured → length unit ≡ size → take (length front) unit ≡ front → unread1 ≡ drop (length front) unit ++ unread2
    → take size buffer ≡ unit
    → PacketCame (PcapFile head) unread buffer
    (record {
      size = size;
      bytes = record { start = 16; length = found.captured };
      options = record { start = 16; length = 0 };
      interface = 0;
      time = found.time;
      orig = found.orig;
    }) (PcapFile head) unread2
record_came head unread unread1 unread2 front unit buffer found size splits upper_bound fields e whole came following there =
    let same : take 16 unit ≡ front = ap (λ (n : ℕ). take n unit) (sym upper_bound) ∙ came in
    let rest : unread1 ≡ drop 16 unit ++ unread2 = following ∙ ap (λ (n : ℕ). drop n unit ++ unread2) upper_bound in
    let said : found.captured ≡ captured_len head front = ap (λ (h : RecordHead). h.captured) fields.says in
    let joined : front ++ drop 16 unit ≡ unit = ap (λ (l : List ℕ). l ++ drop 16 unit) (sym same) ∙ take-append-drop 16 unit in
    let says : record_header_in head unit ≡ found = grind (arith, record_header_in-append) in
    let bytes : take found.captured (drop 16 unit) ≡ drop 16 unit = take_all found.captured (drop 16 unit) (omega (arith, length-drop 16 unit)) in
    let packet : record {
      link = head.link;
      snap = head.snap;
      name = [];
      time = found.time;
      orig = found.orig;
      bytes =
          take found.captured (drop 16 unit);
      comment = [];
    } ≡ record_packet head unit =
    ap₂ (λ (h : RecordHead) (l : List ℕ). record {
      link = head.link;
      snap = head.snap;
      name = [];
      time = h.time;
      orig = h.orig;
      bytes = l;
      comment =
          [];
    }) (sym says) bytes in
    record {
      packet = record_packet head unit;
      is_lent = rw there (ap Some packet);
      unit = rw there (a_pcap_record head unit (IsRecord-came head unit (omega arith) (rw same fields.none) (rw same (omega arith))));
      same = refl;
      splits = rw there (splits ∙ ap (λ (l : List ℕ). front ++ l) rest ∙ sym (append_assoc front (drop 16 unit) unread2)
          ∙ ap (λ (l : List ℕ). l ++ unread2) joined);
    }

pub none_if_not : {X : Type 0} (o : Option X) → is_some o ≡ false → o ≡ None
none_if_not o e = grind arith
