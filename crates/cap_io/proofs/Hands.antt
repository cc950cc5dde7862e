-- A record that the device has at hand is the next unit.
use Rattle.std.proofs.Common.{rules, ◌≡◌, ℕ, Bool, true, IsTrue, is_some, ◌+◌, ◌^◌, ◌<◌, ◌≤◌, List, ◌++◌, length, take, drop, ap, ◌∙◌, false}
use Rattle.cap_io.proofs.Common.{arith, length-take, length-take-le, take-take, take-append-drop, HasGiven, PacketSpans, PacketCame, Declared, Ghosts}
use Rattle.cap_io.specs.Source.{SourceView, Reading, end_offset, TakesIfAtHand}
use Rattle.cap_io.specs.inside.Reading.{HasInterface, BeginsWithPacket, UnitLent}
use Rattle.cap_io.proofs.Passing.{FindsPacket-next, time-held}
use Rattle.cap_io.specs.{Reading.most_in_unit, Reading.packet_in_unit, declared.lending.Lending.Lending, inside.Source.TakesNext, inside.Lending.Lends}

-- bytes that begin with others begin alike
pub begins-same : (bytes front : List ℕ) (size : ℕ) → take (length front) bytes ≡ front → size ≤ length front → take size front ≡ take size bytes
begins-same bytes front size begins within = grind (arith, take-take)

pub begins-long : (bytes front : List ℕ) (size : ℕ) → take (length front) bytes ≡ front → size ≤ length front → size ≤ length bytes
begins-long bytes front size begins within = grind (arith, length-take)

-- it is the first of what comes
pub lent-first : (unread hand : List ℕ) (size : ℕ) → take (length hand) unread ≡ hand → size ≤ length hand → unread ≡ take size hand ++ drop size unread
lent-first unread hand size starts within = grind (arith, take-take, take-append-drop)

-- a packet whose interface is known is there
pub packet-there : (declared : Declared) (spans : PacketSpans) (block : List ℕ) → HasInterface declared spans
    → is_some (packet_in_unit declared spans block) ≡ true
packet-there declared spans block known = grind (arith, time-held)

-- A source ended its current unit, and took the next one, which begins at hand with a packet: the device still has it at hand, as `held`.
pub takes-next : (tells : Bool) (spans : PacketSpans) (hand held : List ℕ) (old new : SourceView) → BeginsWithPacket old.declared hand spans
    → take (length hand) held ≡ hand → (IsTrue tells → take (length hand) old.unread ≡ hand) → new.unread ≡ drop spans.size old.unread
    → new.declared ≡ old.declared → spans.size ≤ new.room → new.given ≡ old.given + spans.size → new.given < 2 ^ 63 → new.failures ≡ old.failures
    → new.sure ≡ old.sure → (0 < new.failures → HasGiven new.sure new.given) → new.room ≡ old.room → new.room ≤ most_in_unit
    → new.block ≡ take spans.size held → new.packet ≡ packet_in_unit new.declared spans (take spans.size held) → new.offset ≡ end_offset old
    → new.phase ≡ Reading → TakesNext tells old new
takes-next tells spans hand held old new begins stays starts left declared fits given bounded failures sure enough room most block packet offset phase =
    let there : spans.size ≤ length hand = begins.lies.there in
    let came = begins.came in
    let same : take spans.size hand ≡ take spans.size held = begins-same held hand spans.size stays there in
    let whole : length (take spans.size held) ≡ spans.size = length-take-le spans.size held (begins-long held hand spans.size stays there) in
    let known : HasInterface new.declared spans = rw declared begins.known in
    let some : is_some new.packet ≡ true = ap is_some packet ∙ packet-there new.declared spans (take spans.size held) known in
    let next : IsTrue tells → PacketCame old.declared old.unread held spans new.declared new.unread = grind (arith, lent-first) in
    record {
      packet = λ t. FindsPacket-next old new spans held (next t) block packet offset (omega (arith, room)) (omega (arith, whole, fits)) phase;
      bounds = search rules;
    }

-- a unit is lent, whose packet was found in the bytes at hand
pub unit-lent : {I : Type 0} (device : Ghosts I) (declared : Declared) (room : ℕ) (hand : List ℕ) (packet spans : PacketSpans)
    (old new : Lending I device) → BeginsWithPacket declared hand packet → hand ≡ drop old.lent (device.held old.input)
    → (IsTrue device.tells → take (length hand) (drop old.lent (device.unread old.input)) ≡ hand) → (spans ≡ packet) × (packet.size ≤ room)
    → Lends device packet.size old.input old.lent new.input new.lent → UnitLent device declared room old spans new
unit-lent device declared room hand packet spans old new begins same comes place lends = grind arith

-- what `take_at_hand` returns
pub if-at-hand : (tells : Bool) (old new : SourceView) (r : Bool) → old.phase ≡ Reading → (IsTrue r → TakesNext tells old new)
    → (r ≡ false → new ≡ old) → TakesIfAtHand tells old r new
if-at-hand tells old new r reading found nothing = grind arith
