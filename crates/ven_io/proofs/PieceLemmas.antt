-- What a writer holds after several pieces, where it tells it.
use Rattle.std.proofs.Common.{◌≡◌, ℕ, ◌+◌, ◌-◌, List, ◌++◌, take, drop, length, Option, Some, None, sym, ap, subst, ◌∙◌, append_assoc, length-drop, arith}
use Rattle.std.proofs.lemmas.List.{take_all}
use Rattle.std.proofs.Math.Seq.{take-add}
use Rattle.std.specs.Io.KnownBytes.{Appends}

-- two pieces, one after the other
pub Appends-then : (before now after : Option (List ℕ)) (first second : List ℕ) → Appends before now first → Appends now after second → Appends before after (first ++ second)
Appends-then None now after first second one two = tt
Appends-then (Some before) None after first second one two = absurd one
Appends-then (Some before) (Some now) None first second one two = absurd two
Appends-then (Some before) (Some now) (Some after) first second one two = two ∙ ap (λ bytes. bytes ++ second) one ∙ append_assoc before first second

-- a write of what stands behind a place goes on from what stands before it
pub Appends-on : (before now after : Option (List ℕ)) (bytes : List ℕ) (at count : ℕ) →
    Appends before now (take at bytes) → Appends now after (take count (take (length bytes - at) (drop at bytes))) → Appends before after (take (at + count) bytes)
Appends-on before now after bytes at count one two =
    let whole : take (length bytes - at) (drop at bytes) ≡ drop at bytes = take_all (length bytes - at) (drop at bytes) (omega (arith, length-drop at bytes)) in
    subst (λ piece. Appends before after piece) (sym (take-add at count bytes))
    (Appends-then before now after (take at bytes) (take count (drop at bytes)) one (subst (λ rest. Appends now after (take count rest)) whole two))
