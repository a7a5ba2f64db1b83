-- A line that grows part by part.
use Rattle.std.proofs.Common.{◌≡◌, ℕ, ◌+◌, ◌<◌, List, [], ◌∷◌, ◌++◌, map, take, length, get_or, sym, ap, ◌∙◌, append_assoc}
use Rattle.std.specs.List.{concat}
use Rattle.std.proofs.lemmas.List.{map_more, append-nil, map-append}
use Rattle.std.proofs.lemmas.List.Folds.{concat-append}
use Rattle.venice_run.specs.declared.line.Part as code
use Rattle.venice_run.specs.Line.{Part, Number, part_text, parts_text}
use Rattle.venice_run.specs.Parts.{part_of}

parts_text-more : (parts : List Part) (part : Part) → parts_text (parts ++ part ∷ []) ≡ parts_text parts ++ 32 ∷ part_text part
parts_text-more parts part =
    ap concat (map-append (λ (p : Part). 32 ∷ part_text p) parts (part ∷ []))
    ∙ concat-append (map (λ (p : Part). 32 ∷ part_text p) parts) ((32 ∷ part_text part) ∷ [])
    ∙ ap (λ (t : List ℕ). parts_text parts ++ t) (append-nil (32 ∷ part_text part))

-- a turn of the loop over a line's parts
next : {A : Type 0} (view : A → Part) (start before now : List ℕ) (items : List A) (k : ℕ) (d : A) → k < length items → before ≡ start ++ parts_text (map view (take k items))
    → now ≡ before ++ 32 ∷ part_text (view (get_or items k d)) → now ≡ start ++ parts_text (map view (take (k + 1) items))
next view start before now items k d lt so_far is =
    is ∙ ap (λ (t : List ℕ). t ++ 32 ∷ part_text (view (get_or items k d))) so_far
    ∙ append_assoc start (parts_text (map view (take k items))) (32 ∷ part_text (view (get_or items k d)))
    ∙ ap (λ (t : List ℕ). start ++ t) (sym (ap parts_text (map_more view items k d lt) ∙ parts_text-more (map view (take k items)) (view (get_or items k d))))

pub next_part : (start before now : List ℕ) (parts : List code.Part) (k : ℕ) (d : code.Part) → k < length parts → before ≡ start ++ parts_text (map part_of (take k parts))
    → now ≡ before ++ 32 ∷ part_text (part_of (get_or parts k d)) → now ≡ start ++ parts_text (map part_of (take (k + 1) parts))
next_part start before now parts k d lt so_far is = next part_of start before now parts k d lt so_far is

-- and over its numbers
pub next_number : (start before now numbers : List ℕ) (k : ℕ) → k < length numbers → before ≡ start ++ parts_text (map Number (take k numbers))
    → now ≡ before ++ 32 ∷ part_text (Number (get_or numbers k 0)) → now ≡ start ++ parts_text (map Number (take (k + 1) numbers))
next_number start before now numbers k lt so_far is = next Number start before now numbers k 0 lt so_far is
