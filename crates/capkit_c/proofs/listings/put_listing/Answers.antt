-- A program has few instructions, so the longest listing has few bytes.
use Rattle.std.proofs.Common.{arith}
use Rattle.flt_bpf.proofs.Checking.{parts}
use Rattle.capkit_c.proofs.listings.put_listing.Goals as goal

pub overflow_mul-most_bytes : goal.overflow_mul-most_bytes
overflow_mul-most_bytes g c = let few = (parts _ c.insns.ensures.valid).short in omega arith
