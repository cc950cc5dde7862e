-- A read into the first part of a buffer is a read into the buffer.
use Rattle.std.proofs.Common.{ℕ, ◌<◌, ◌≤◌, List, ◌++◌, length, take, drop, sym, ◌∙◌, ap, arith, Result, Ok, Err, IfOk}
use Rattle.std.proofs.lemmas.List.{drop-append-le, append_assoc, length-take-le, take-append-drop}
use Rattle.cap_octet.specs.{Device.TakesSome, Device.Reads, declared.device.DeviceFault.DeviceFault}

-- a read into the front of a buffer is a read into the buffer
TakesSome-front : (u b : List ℕ) (most n : ℕ) (u' p : List ℕ) → most ≤ length b → (0 < length b → 0 < most) → n ≤ length (take most b)
    → TakesSome u (take most b) n u' p → TakesSome u b n u' (p ++ drop most b)
TakesSome-front u b most n u' p within some upper_bound came =
    let size = length-take-le most b within in
    record {
      taken = record {
        there = came.taken.there;
        bytes =
            ap (λ x. x ++ drop most b) came.taken.bytes
            ∙ append_assoc _ (drop n _) _
            ∙ ap (λ x. take n u ++ x)
            (sym (drop-append-le n _ _ (omega arith)) ∙ ap (λ x. drop n x) (take-append-drop most b));
        rest = came.taken.rest;
      };
      at_end = λ none room. came.at_end none (let more = some room in omega arith);
    }

pub Reads-front : (u b : List ℕ) (most : ℕ) (result : Result ℕ DeviceFault) (u' p : List ℕ) → most ≤ length b → (0 < length b → 0 < most)
    → IfOk result (λ n. n ≤ length (take most b)) → Reads u (take most b) result u' p → Reads u b result u' (p ++ drop most b)
Reads-front u b most (Ok n) u' p within some upper_bound came = TakesSome-front u b most n u' p within some upper_bound came
Reads-front u b most (Err fault) u' p within some upper_bound came =
    grind (arith, take-append-drop)
