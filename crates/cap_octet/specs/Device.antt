-- What the calls of a device do to its bytes, and to the counts that contracts see.
use Rattle.std.specs.Prelude.{◌≡◌, ℕ, ◌+◌, ◌<◌, ◌≤◌, Bool, true, false, List, [], ◌++◌, length, take, drop, Option, None, Some, Result, Ok, Err, min}
use Rattle.cap_octet.specs.declared.device.{DeviceFault.DeviceFault, Stopped.Stopped}

-- the number of bytes that a call returned: 0 if it failed
abbrev pub count_of : {E : Type 0} → Result ℕ E → ℕ
count_of (Ok n) = n
count_of (Err fault) = 0

-- the number of failures of the device that a call reports: 0 or 1
abbrev pub failures_of : {X E : Type 0} → Result X E → ℕ
failures_of (Ok value) = 0
failures_of (Err fault) = 1

-- A device that failed had given at least as many bytes in all as it was sure to give. This is
-- false for one that never fails (None).
abbrev pub HasGiven : Option ℕ → ℕ → Type 0
HasGiven None given = ⊥
HasGiven (Some sure) given = sure ≤ given

-- The first n unread bytes went to the start of the buffer.
pub record Takes (unread buf : List ℕ) (n : ℕ) (unread' buf' : List ℕ) : Type 0 where
  pub there : n ≤ length unread
  pub bytes : buf' ≡ take n unread ++ drop n buf
  pub rest : unread' ≡ drop n unread

-- one read that returned n: a buffer with room gets 0 bytes only at the end
pub record TakesSome (unread buf : List ℕ) (n : ℕ) (unread' buf' : List ℕ) : Type 0 where
  pub taken : Takes unread buf n unread' buf'
  pub at_end : n ≡ 0 → 0 < length buf → unread ≡ []

-- one read; if it failed, nothing changed
abbrev pub Reads : List ℕ → List ℕ → Result ℕ DeviceFault → List ℕ → List ℕ → Type 0
Reads unread buf (Ok n) unread' buf' = TakesSome unread buf n unread' buf'
Reads unread buf (Err fault) unread' buf' = (unread' ≡ unread) × (buf' ≡ buf)

-- the next `count` unread bytes are consumed, as by a read, if the call returned true; otherwise
-- none
abbrev pub Passes : List ℕ → ℕ → Bool → List ℕ → Type 0
Passes unread count true unread' = (count ≤ length unread) × (unread' ≡ drop count unread)
Passes unread count false unread' = unread' ≡ unread

-- bytes are read until the buffer is full or the input ends
pub record TakesFull (unread buf : List ℕ) (n : ℕ) (unread' buf' : List ℕ) : Type 0 where
  pub taken : Takes unread buf n unread' buf'
  pub full : n ≡ min (length buf) (length unread)

-- If the device failed, it had given the first k bytes, fewer than the buffer has room for. They
-- are at its start, and are counted.
pub record TakesFront (unread buf : List ℕ) (given : ℕ) (unread' buf' : List ℕ)
    (given' : ℕ) : Type 0 where
  pub k : ℕ
  pub short : k < length buf
  pub counted : given' ≡ given + k
  pub taken : Takes unread buf k unread' buf'

-- bytes are read until the buffer is full or the input ends; if the device failed, the bytes that
-- came before are at the start of the buffer
abbrev pub Fills : (unread buf : List ℕ) (given : ℕ) → Result ℕ DeviceFault
    → (unread' buf' : List ℕ) (given' : ℕ) → Type 0
Fills unread buf given (Ok n) unread' buf' given' = TakesFull unread buf n unread' buf'
Fills unread buf given (Err fault) unread' buf' given' =
    TakesFront unread buf given unread' buf' given'

-- one write: the first n bytes are appended to what was written, or nothing is
abbrev pub Writes : List ℕ → List ℕ → Result ℕ DeviceFault → List ℕ → Type 0
Writes written buf (Ok n) written' = written' ≡ written ++ take n buf
Writes written buf (Err fault) written' = written' ≡ written

-- all bytes are appended to what was written, or only the prefix whose length the error states
abbrev pub WritesAll : List ℕ → List ℕ → Result (Unit {0}) Stopped → List ℕ → Type 0
WritesAll written buf (Ok _) written' = written' ≡ written ++ buf
WritesAll written buf (Err stopped) written' = written' ≡ written ++ take stopped.written buf

-- a prefix of the bytes, but not all of them, is appended to what was written
abbrev pub Stops : List ℕ → List ℕ → List ℕ → Type 0
Stops written bytes written' = (n : ℕ) × (n < length bytes) × (written' ≡ written ++ take n bytes)

-- all bytes are appended to what was written; or, if the device failed, a prefix but not all of
-- them
abbrev pub AppendsOrStops : {E : Type 0} → Result (Unit {0}) E → List ℕ → List ℕ → List ℕ → Type 0
AppendsOrStops (Ok done) written bytes written' = written' ≡ written ++ bytes
AppendsOrStops (Err fault) written bytes written' = Stops written bytes written'
