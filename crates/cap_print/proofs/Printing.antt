-- What is written of a packet's line and rows, all of it or up to a failure of the device.
use Rattle.std.proofs.Common.{◌≡◌, ℕ, ◌+◌, ◌<◌, true, false, List, [], ◌++◌, length, Result, Ok, Err, refl, ap, sym, ◌∙◌, arith, length-append, append-nil}
use Rattle.std.proofs.Common.{zero, suc, ◌-◌, append_assoc}
use Rattle.std.proofs.Math.Seq.{take-append-add}
use Rattle.cap_octet.specs.Device.{AppendsOrStops, Stops, WritesAll}
use Rattle.cap_octet.{specs.Packet.Captured, specs.declared.device.Stopped.Stopped, proofs.Writing.stops-part}
use Rattle.cap_print.specs.{Dump.link_payload, Dump.rows, Dump.first_rows, Dump.row, Line.line, Rendering.printed_text, declared.print.Options.Options}

pub printed-alone : (options : Options) (p : Captured) → options.bytes ≡ false → printed_text options p ≡ line options.link p
unfolding printed_text
printed-alone options p none = rw (none, append-nil) refl

pub printed-with_rows : (options : Options) (p : Captured) → options.bytes ≡ true
    → printed_text options p ≡ line options.link p ++ rows (link_payload p.link p.bytes)
unfolding printed_text
printed-with_rows options p some = rw some refl

-- where the device fails in the line, a prefix of all is written
pub stops-in_line : (options : Options) (p : Captured) (old new : List ℕ) (stopped : Stopped)
    → stopped.written < length (line options.link p) → WritesAll old (line options.link p) (Err stopped) new → Stops old (printed_text options p) new
unfolding printed_text
stops-in_line options p old new stopped less writes =
    stops-part old old new [] _ _ _ (sym (append-nil old)) less writes

-- what follows some bytes is appended, or a prefix of it
pub appends-following : {E : Type 0} (r : Result (Unit {0}) E) (old done part mid new : List ℕ) → mid ≡ old ++ done
    → AppendsOrStops r mid part new → AppendsOrStops r old (done ++ part) new
appends-following (Ok value) old done part mid new first appends = rw (appends, first, append_assoc) refl
appends-following (Err fault) old done part mid new first stops =
    let less = stops.1 in (
      length done + stops.0,
      omega (arith, length-append done part),
      rw (stops.2, first, append_assoc, take-append-add) refl,
    )

-- the rows from the one after k others, that many
abbrev pub rows_from : List ℕ → ℕ → ℕ → List ℕ
rows_from bytes k zero = []
rows_from bytes k (suc n) = rows_from bytes k n ++ row bytes (k + n)

rows-split : (bytes : List ℕ) (k n : ℕ) → first_rows bytes (k + n) ≡ first_rows bytes k ++ rows_from bytes k n
rows-split bytes k zero = grind (arith, append-nil)
rows-split bytes k (suc n) =
    let e : k + suc n ≡ suc (k + n) = omega arith in
    rw (e, rows-split bytes k n, append_assoc) refl

-- a first row and those after it
rows_from-first : (bytes : List ℕ) (k n : ℕ) → rows_from bytes k (suc n) ≡ row bytes k ++ rows_from bytes (k + 1) n
rows_from-first bytes k zero = grind (arith, append-nil)
rows_from-first bytes k (suc n) =
    let e : k + suc n ≡ k + 1 + n = omega arith in
    rw (rows_from-first bytes k n, append_assoc, e) refl

-- the rows before one of them, that row, and those after it
pub rows-among : (bytes : List ℕ) (k n : ℕ) → k < n → first_rows bytes n ≡ first_rows bytes k ++ (row bytes k ++ rows_from bytes (k + 1) (n - k - 1))
rows-among bytes k n below =
    let e : n ≡ k + suc (n - k - 1) = omega arith in
    ap (first_rows bytes) e
    ∙ rows-split bytes k _
    ∙ ap (λ x. first_rows bytes k ++ x) (rows_from-first bytes k (n - k - 1))
