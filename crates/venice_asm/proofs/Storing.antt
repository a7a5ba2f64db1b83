-- How a label lies in its places.
use Rattle.std.proofs.Common.{ℕ, List, ◌++◌, length, drop, replicate, sym, ap}
use Rattle.std.proofs.lemmas.List.{drop-replicate}
use Rattle.std.proofs.Math.Seq.{take-append_seam}
use Rattle.venice_asm.specs.Label.{IsLabel}
use Rattle.venice_asm.specs.Stored.{IsStored}

-- a label that is written over the first of 31 zeros
pub IsStored-written : (label : List ℕ) → IsLabel label → IsStored (label ++ drop (length label) (replicate 31 0)) (length label)
IsStored-written label h =
    let front = take-append_seam label (drop (length label) (replicate 31 0)) in
    record { is_padded = rw front (ap (λ rest. label ++ rest) (sym (drop-replicate (length label) 31 0))); len_is = ap length front; is_label = rw front h }
