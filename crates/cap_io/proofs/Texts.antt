-- A sink has written the bytes of the packets that were put to it.
use Rattle.cap_io.proofs.Common.{arith, append_assoc, append-nil, first_failing, AppendsOrStops, Captured, Fault, NoMemory, LinkTypesDiffer, Format, SinkState}
use Rattle.std.proofs.Common.{rules, ◌≡◌, ◌⊎◌, ℕ, Bool, List, [], ◌∷◌, ◌++◌, Option, None, Some, Result, Ok, Err, refl, sym, ◌∙◌, ap}
use Rattle.cap_octet.specs.declared.fault.Fault.TheVariants.{WriteFailed, TooLong, TimeOutOfRange, TooManyOutputInterfaces}
use Rattle.cap_io.specs.Text.{added_text, appended_packet, file_start, has_room, kept_interfaces, packets_text, refusal_of, state_after, state_after_packet}
use Rattle.cap_io.specs.Text.{takes_memory, text}
use Rattle.cap_io.specs.Sink.{SinkView, sink_at, HasPut, HasPackets, AddsPacket, PutsNext, WritesPacket, PutsPacket, PutWrites, IsPutAnswer, Finishes}
use Rattle.cap_io.specs.Sink.{FinishWrites, FinishesEmpty, link_or_ethernet, refusal_in, added_in}
use Rattle.cap_io.{proofs.Interfaces.kept-push, specs.declared.sink.SinkState.TheVariants.Broken, specs.Laws.EachPutGoesByPackets, specs.Laws.PutExtendsText}

-- ---- faults that refuse no packet

abbrev IsFailure : Fault → Type 0
IsFailure fault = (fault ≡ WriteFailed) ⊎ (fault ≡ NoMemory)

is-failure : (refusal fault : Fault) → IsFailure fault → refusal ≡ fault → (refusal ≡ WriteFailed → ⊥) → (refusal ≡ NoMemory → ⊥) → ⊥
is-failure refusal fault is same written memory = grind arith

-- ---- the bytes of lists of packets

pub packets_text-append : (format : Format) (earlier xs ys : List Captured)
    → packets_text format earlier (xs ++ ys) ≡ packets_text format earlier xs ++ packets_text format (earlier ++ xs) ys
packets_text-append format earlier [] ys = rw (append-nil earlier) refl
packets_text-append format earlier (x ∷ xs) ys =
    ap (λ (t : List ℕ). added_text format earlier x ++ t) (packets_text-append format (earlier ++ x ∷ []) xs ys)
    ∙ sym (append_assoc (added_text format earlier x) (packets_text format (earlier ++ x ∷ []) xs) (packets_text format ((earlier ++ x ∷ []) ++ xs) ys))
    ∙ ap (λ (b : List Captured). (added_text format earlier x ++ packets_text format (earlier ++ x ∷ []) xs) ++ packets_text format b ys)
    (append_assoc earlier (x ∷ []) xs)

-- a packet adds its part after the text of those before it
pub text-more : (format : Format) (ps : List Captured) (p : Captured) (xs : List Captured)
    → text format (ps ++ p ∷ xs) ≡ text format ps ++ (added_text format ps p ++ packets_text format (ps ++ p ∷ []) xs)
text-more format ps p xs = packets_text-append format [] ps (p ∷ xs)

-- one packet more
pub text-push : (format : Format) (ps : List Captured) (p : Captured) → text format (ps ++ p ∷ []) ≡ text format ps ++ added_text format ps p
text-push format ps p = grind (arith, text-more, append-nil)

-- ---- the text without what the file begins with

abbrev pub bare_text : Format → List Captured → List Captured → List ℕ
bare_text format earlier [] = []
bare_text format earlier (p ∷ ps) = appended_packet format (kept_interfaces format earlier) p ++ bare_text format (earlier ++ p ∷ []) ps

bare-following : (format : Format) (q : Captured) (qs ps : List Captured) → packets_text format (q ∷ qs) ps ≡ bare_text format (q ∷ qs) ps
bare-following format q qs [] = refl
bare-following format q qs (p ∷ ps) = grind (arith, (bare-following format q (qs ++ p ∷ []) ps))

pub text-start : (format : Format) (p : Captured) (ps : List Captured) → text format (p ∷ ps) ≡ file_start format p.link ++ bare_text format [] (p ∷ ps)
text-start format p ps = grind (arith, bare-following)

-- ---- refusals

-- no packet is refused for a failure of the device or of memory
record_by : (a b c : Bool) (fault : Fault) → IsFailure fault → first_failing ((a, LinkTypesDiffer) ∷ (b, TooLong) ∷ (c, TimeOutOfRange) ∷ []) ≡ Some fault → ⊥
record_by a b c fault is e = grind (arith, is-failure)

block_by : (a b : Bool) (fault : Fault) → IsFailure fault → first_failing ((a, TooLong) ∷ (b, TooManyOutputInterfaces) ∷ []) ≡ Some fault → ⊥
block_by a b fault is e = grind (arith, is-failure)

pub refused-failure : (format : Format) (ps : List Captured) (p : Captured) (fault : Fault) → IsFailure fault → refusal_of format ps p ≡ Some fault → ⊥
refused-failure format ps p fault is e = grind (arith, record_by, block_by, has_room)

pub refused-write_failed : (format : Format) (ps : List Captured) (p : Captured) → refusal_of format ps p ≡ Some WriteFailed → ⊥
refused-write_failed format ps p e = grind (arith, refused-failure)

pub refused-no_memory : (format : Format) (ps : List Captured) (p : Captured) → refusal_of format ps p ≡ Some NoMemory → ⊥
refused-no_memory format ps p e = grind (arith, refused-failure)

-- ---- a sink that these packets were put to

-- a new sink has none
pub HasPackets-none : (format : Format) (written : List ℕ) (failures room : ℕ) → HasPackets written (sink_at format written failures room) []
HasPackets-none format written failures room = grind (arith, append-nil)

-- ---- by what a sink keeps

state-after : (ps : List Captured) (p : Captured) → state_after_packet (state_after ps) p ≡ state_after (ps ++ p ∷ [])
state-after ps p = grind arith

-- what a sink keeps decides what all of these packets do
pub by-packets : EachPutGoesByPackets
by-packets sink ps p has = grind (arith, state-after, kept-push)

-- a sink that failed is unchanged if the packet wasn't added, except for its state
pub adds-broken : (old : SinkView) (p : Captured) (fault : Fault) (mid new : SinkView) → AddsPacket old p (Err fault) mid
    → new ≡ record { format = mid.format; state = Broken fault; interfaces = mid.interfaces; written = mid.written; failures = mid.failures; room = mid.room }
    → AddsPacket old p (Err fault) new
adds-broken old p fault mid new adds is = grind arith

-- ---- a put by the state before it

pub puts-tell : (state : SinkState) (old : SinkView) (p : Captured) (r : Result (Unit {0}) Fault) (new : SinkView)
    → ((fault : Fault) → state ≡ Broken fault → ⊥)
    → PutsNext old p r new → PutsPacket state old p r new
puts-tell state old p r new sound puts = grind arith

pub put-writes-tell : (state : SinkState) (old : SinkView) (p : Captured) (r : Result (Unit {0}) Fault) (new : SinkView)
    → ((fault : Fault) → state ≡ Broken fault → ⊥)
    → WritesPacket (refusal_in old p) (added_in old p) old.written r new.written → PutWrites state old p r new
put-writes-tell state old p r new sound writes = grind arith

-- ---- a put to a sink to which these packets were put

next-after : (ps : List Captured) (old : SinkView) (p : Captured) (r : Result (Unit {0}) Fault) (new : SinkView) → PutsPacket (state_after ps) old p r
    new → PutsNext old p r new
next-after ps old p r new puts = grind arith

pub put-next : (ps : List Captured) (old : SinkView) (p : Captured) (r : Result (Unit {0}) Fault) (new : SinkView)
    → HasPut old ps → PutsPacket old.state old p r new → PutsNext old p r new
put-next ps old p r new has puts = grind (arith, next-after)

-- why it is put, or isn't
pub put-answer : (ps : List Captured) (old : SinkView) (p : Captured) (r : Result (Unit {0}) Fault) (new : SinkView)
    → HasPut old ps → PutsNext old p r new → IsPutAnswer (refusal_of old.format ps p) (takes_memory old.format ps p) r
put-answer ps old p r new has puts = grind (arith, by-packets)

-- the bytes that are written for it
pub put-writes : (ps : List Captured) (old : SinkView) (p : Captured) (r : Result (Unit {0}) Fault) (new : SinkView)
    → HasPut old ps → PutWrites old.state old p r new → WritesPacket (refusal_of old.format ps p) (added_text old.format ps p) old.written r new.written
put-writes ps old p r new has writes = search rules

-- a packet that is put isn't refused
pub put-taken : (refusal : Option Fault) (takes : Bool) → IsPutAnswer refusal takes (Ok tt) → refusal ≡ None
put-taken refusal takes answer = grind arith

written-ok : (refusal : Option Fault) (bytes written written' : List ℕ) → WritesPacket refusal bytes written (Ok tt) written' → written' ≡ written ++ bytes
written-ok refusal bytes written written' writes = writes

-- by a put it has one packet more
pub HasPackets-put : PutExtendsText
HasPackets-put before ps old p new has puts writes =
    let adds = (put-next ps old p (Ok tt) new has.put puts).adds in
    let by = by-packets old ps p has.put in
    let bytes : new.written ≡ old.written ++ added_text old.format ps p =
    written-ok (refusal_of old.format ps p) (added_text old.format ps p) old.written new.written (put-writes ps old p (Ok tt) new has.put writes) in
    record {
      written =
          bytes
          ∙ rw (has.written, adds.format)
          (append_assoc before (text old.format ps) (added_text old.format ps p) ∙ ap (λ (t : List ℕ). before ++ t) (sym (text-push old.format ps p)));
      put = grind arith;
    }

-- ---- its end

-- no packet was put: the header is written, or a prefix of it
pub finish-none : (before : List ℕ) (old : SinkView) (first : Option ℕ) (r : Result (Unit {0}) Fault) (new : SinkView)
    → HasPackets before old [] → Finishes old.state old first r new → FinishesEmpty old (link_or_ethernet first) r new
finish-none before old first r new has finishes = grind arith

pub finish-none-writes : (before : List ℕ) (old : SinkView) (first : Option ℕ) (r : Result (Unit {0}) Fault) (new : SinkView)
    → HasPackets before old [] → FinishWrites old.state old first r new → AppendsOrStops r old.written
    (file_start old.format (link_or_ethernet first)) new.written
finish-none-writes before old first r new has writes = grind arith

-- packets were put: all is written
pub finish-some : (before : List ℕ) (q : Captured) (qs : List Captured) (old : SinkView) (first : Option ℕ) (r : Result (Unit {0}) Fault) (new : SinkView)
    → HasPackets before old (q ∷ qs) → Finishes old.state old first r new → (r ≡ Ok tt) × (new ≡ old)
finish-some before q qs old first r new has finishes = grind arith
