-- The effect of a step of a search.
use Rattle.capkit_c.proofs.Common.{◌≡◌, ℕ, ◌+◌, ◌-◌, ◌<◌, ◌≤◌, List, length, take, drop, refl, sym, ap, ◌∙◌, subst, arith}
use Rattle.capkit_c.proofs.Common.{drop-drop, length-drop, Captured, Declared, front_of, declared_in, Insn, Skips, at_packet}
use Rattle.capkit_c.proofs.Common.{past_packet, past_unit, DeclaresOne, IsPastUnit, IsPacketFound, IsStop, NextLeaves, PacketLeaves, PassesUnits, Stays}
use Rattle.capkit_c.proofs.Common.{UnitHas, comment_by, ends, fails, finds, is_full, one_passed, passes, Interface, Packet, Reader}
use Rattle.capkit_c.specs.{Laws.packet_from, Laws.reader_from, inside.Matching.JudgedAs, inside.Matching.StepLeaves}
use Rattle.capkit_c.specs.declared.{matching.SearchStep.SearchStep, memory.reader.Found.Found}

-- ---- a unit is skipped

-- fewer bytes remain
left : (capture : List ℕ) (size : ℕ) (r r' : Reader) (t' : List Interface) → IsPastUnit capture size r r' t' → length capture - r'.offset < length
    capture - r.offset
left capture size r r' t' a =
    let long : length (drop r.offset capture) ≡ length capture - r.offset = length-drop r.offset capture in
    omega (arith, a.offset, a.there, a.some, long)

-- the packet is unchanged, and fewer bytes remain
pub record Passed (capture : List ℕ) (r r' : Reader) (p p' : Packet) : Type 0 where
  pub same : p' ≡ p
  pub less : length capture - r'.offset < length capture - r.offset

pub unit_passed : (capture : List ℕ) (r r' : Reader) (t t' : List Interface) (p p' : Packet) (what : Found) → NextLeaves capture r r' t t' p p' what
    → what ≡ Found.Unit → Passed capture r r' p p'
unit_passed capture r r' t t' p p' what (passes size front after same) e = record { same = same; less = left capture size r r' t' after }
unit_passed capture r r' t t' p p' what (finds size q front after is) e = absurd (cc)
unit_passed capture r r' t t' p p' what (ends front stays) e = absurd (cc)
unit_passed capture r r' t t' p p' what (fails fault front stays) e = absurd (cc)
unit_passed capture r r' t t' p p' what (is_full interfaces most one stays) e = absurd (cc)

pub packet_passed : (capture : List ℕ) (r r' : Reader) (t t' : List Interface) (p p' : Packet) (what : Found) → NextLeaves capture r r' t t' p p' what
    → what ≡ Found.Packet → length capture - r'.offset < length capture - r.offset
packet_passed capture r r' t t' p p' what (passes size front after same) e = absurd (cc)
packet_passed capture r r' t t' p p' what (finds size q front after is) e = left capture size r r' t' after
packet_passed capture r r' t t' p p' what (ends front stays) e = absurd (cc)
packet_passed capture r r' t t' p p' what (fails fault front stays) e = absurd (cc)
packet_passed capture r r' t t' p p' what (is_full interfaces most one stays) e = absurd (cc)

pub stop : (what : Found) → ¬ what ≡ Found.Unit → ¬ what ≡ Found.Packet → IsStop what
stop Found.Unit unit other = absurd (unit refl)
stop Found.Packet unit other = absurd (other refl)
stop Found.End unit other = tt
stop Found.NoRoom unit other = tt
stop (Found.Fault fault) unit other = tt

-- units so far, and one more
pub record OneMore (capture : List ℕ) (r s' : Reader) (t u' : List Interface) (p q' : Packet) : Type 0 where
  pub passed : PassesUnits capture r t p s' u'
  pub same : q' ≡ p

pub one_more_unit : (capture : List ℕ) (r s s' : Reader) (t u u' : List Interface) (p q q' : Packet) (what : Found) → PassesUnits capture r t p s u
    → q ≡ p → NextLeaves capture s s' u u' q q' what → what ≡ Found.Unit
    → OneMore capture r s' t u' p q'
one_more_unit capture r s s' t u u' p q q' what passed same leaves e =
    let step = unit_passed capture s s' u u' q q' what leaves e in
    let P : Packet → Type 0 = λ x. NextLeaves capture s s' u u' q x what in
    let Q : Packet → Type 0 = λ x. NextLeaves capture s s' u u' x x what in
    let R : Found → Type 0 = λ w. NextLeaves capture s s' u u' p p w in
    record { passed = one_passed passed (subst R e (subst Q same (subst P step.same leaves))); same = step.same ∙ same }

pub found_next : (capture : List ℕ) (r s s' : Reader) (t u u' : List Interface) (p q q' : Packet) (what : Found) → PassesUnits capture r t p s u
    → q ≡ p → NextLeaves capture s s' u u' q q' what → ¬ what ≡ Found.Unit
    → PacketLeaves capture r s' t u' p q' what
found_next capture r s s' t u u' p q q' what passed same leaves unit =
    let P : Packet → Type 0 = λ x. NextLeaves capture s s' u u' x q' what in
    record { between = s; table = u; passes = passed; leaves = subst P same leaves; no_unit = unit }

-- ---- a step by a program

pub packet_step : (insns : List Insn) (link_type : ℕ) (capture : List ℕ) (r r' : Reader) (t t' : List Interface) (p p' : Packet) (what : Found)
    (judged : SearchStep) → NextLeaves capture r r' t t' p p' what → what ≡ Found.Packet
    → JudgedAs insns link_type capture p' judged → StepLeaves insns link_type capture r r' t t' p p' judged
packet_step insns link_type capture r r' t t' p p' what (SearchStep.More steps) leaves is judged =
    past_packet (subst (λ w. NextLeaves capture r r' t t' p p' w) is leaves) judged
packet_step insns link_type capture r r' t t' p p' what (SearchStep.Last number) leaves is judged =
    at_packet (subst (λ w. NextLeaves capture r r' t t' p p' w) is leaves) judged

pub unit_step : (insns : List Insn) (link_type : ℕ) (capture : List ℕ) (r r' : Reader) (t t' : List Interface) (p p' : Packet) (what : Found)
    → NextLeaves capture r r' t t' p p' what → what ≡ Found.Unit
    → Skips insns link_type capture r r' t t' p p'
unit_step insns link_type capture r r' t t' p p' what leaves is =
    past_unit (subst (λ w. NextLeaves capture r r' t t' p p' w) is leaves)

-- after a step that isn't the last, fewer bytes remain
pub step_smaller : (insns : List Insn) (link_type : ℕ) (capture : List ℕ) (r r' : Reader) (t t' : List Interface) (p p' : Packet)
    → Skips insns link_type capture r r' t t' p p' → length capture - r'.offset < length capture - r.offset
step_smaller insns link_type capture r r' t t' p p' (past_unit leaves) = (unit_passed capture r r' t t' p p' Found.Unit leaves refl).less
step_smaller insns link_type capture r r' t t' p p' (past_packet leaves judged) = packet_passed capture r r' t t' p p' Found.Packet leaves refl

pub went_on : (insns : List Insn) (link_type : ℕ) (capture : List ℕ) (r r' : Reader) (t t' : List Interface) (p p' : Packet) (judged : SearchStep)
    (steps : ℕ) → StepLeaves insns link_type capture r r' t t' p p' judged → judged ≡ SearchStep.More steps
    → Skips insns link_type capture r r' t t' p p'
went_on insns link_type capture r r' t t' p p' (SearchStep.More count) steps leaves is = leaves
went_on insns link_type capture r r' t t' p p' (SearchStep.Last number) steps leaves is = absurd (cc)

-- ---- the rest of a capture

dropped : (capture : List ℕ) (k at : ℕ) → drop at (drop k capture) ≡ drop (k + at) capture
dropped capture k at = drop-drop at k capture

after_from : (capture : List ℕ) (k size : ℕ) (r r' : Reader) (t' : List Interface) → IsPastUnit (drop k capture) size r r' t'
    → IsPastUnit capture size (reader_from k r) (reader_from k r') t'
after_from capture k size r r' t' a = record {
  offset = omega (arith, a.offset);
  there = subst (λ bytes. size ≤ length bytes) (dropped capture k r.offset) a.there;
  some = a.some;
  link = record { link = a.link.link; flag = a.link.flag };
  counted = a.counted;
}

stays_from : (k : ℕ) (r r' : Reader) (t t' : List Interface) (p p' : Packet) → Stays r r' t t' p p' → Stays (reader_from k r) (reader_from k r') t t'
    (packet_from k p) (packet_from k p')
stays_from k r r' t t' p p' s = record { reader = ap (reader_from k) s.reader; table = s.table; packet = ap (packet_from k) s.packet }

found_from : (capture : List ℕ) (k offset : ℕ) (declared : Declared) (p : Packet) (q : Captured) → k ≤ length capture → IsPacketFound (drop k capture)
    offset declared p q
    → IsPacketFound capture (k + offset) declared (packet_from k p) q
found_from capture k offset declared p q inside is =
    let long : length (drop k capture) ≡ length capture - k = length-drop k capture in
    record {
      spans = is.spans;
      lies = subst (λ text. UnitHas declared text is.spans) (dropped capture k offset) is.lies;
      number = is.number;
      data_at = omega (arith, is.data_at);
      data_length = is.data_length;
      options_at = omega (arith, is.options_at);
      options_length = is.options_length;
      link = is.link;
      snap = is.snap;
      name = is.name;
      time = is.time;
      orig = is.orig;
      bytes = is.bytes ∙ ap (take p.captured) (dropped capture k p.at);
      within = omega (arith, is.within, long, inside);
      comment = is.comment ∙ ap (λ bytes. comment_by declared (take p.options_length bytes)) (dropped capture k p.options_at);
      options = omega (arith, is.options, long, inside);
    }

pub rest_read : (capture : List ℕ) (k : ℕ) (r r' : Reader) (t t' : List Interface) (p p' : Packet) (what : Found) → k ≤ length capture
    → NextLeaves (drop k capture) r r' t t' p p' what
    → NextLeaves capture (reader_from k r) (reader_from k r') t t' (packet_from k p) (packet_from k p') what
rest_read capture k r r' t t' p p' what inside (passes size front after same) =
    passes size (ap (front_of (declared_in r t)) (sym (dropped capture k r.offset)) ∙ front) (after_from capture k size r r' t' after) (ap (packet_from k) same)
rest_read capture k r r' t t' p p' what inside (finds size q front after is) =
    finds size q (ap (front_of (declared_in r t)) (sym (dropped capture k r.offset)) ∙ front) (after_from capture k size r r' t' after)
    (found_from capture k r.offset _ p' q inside is)
rest_read capture k r r' t t' p p' what inside (ends front stays) =
    ends (ap (front_of (declared_in r t)) (sym (dropped capture k r.offset)) ∙ front) (stays_from k r r' t t' p p' stays)
rest_read capture k r r' t t' p p' what inside (fails fault front stays) =
    fails fault (ap (front_of (declared_in r t)) (sym (dropped capture k r.offset)) ∙ front) (stays_from k r r' t t' p p' stays)
rest_read capture k r r' t t' p p' what inside (is_full interfaces most one stays) =
    is_full interfaces most (subst (λ text. DeclaresOne (declared_in r t) text interfaces) (dropped capture k r.offset) one) (stays_from k r r' t t' p p' stays)
