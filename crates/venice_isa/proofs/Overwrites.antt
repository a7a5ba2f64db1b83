-- What a list holds after a part of it is overwritten.
use Rattle.std.proofs.Common.{◌≡◌, ℕ, ◌+◌, ◌-◌, ◌<◌, ◌≤◌, ◌++◌, ap, ◌∙◌, refl, arith, List, length, get_or, take, drop}
use Rattle.std.proofs.lemmas.List.{length-take-le, length-drop, length-append, get_or_append_left, get_or-append_right, get_or-take, get_or-drop, take-append-drop, nil_from_length}
use Rattle.venice_isa.specs.Cell.{overwritten}

module _ {A : Type 0} (items : List A) (place : ℕ) (new : List A) (inside : place + length new ≤ length items) where
  front : length (take place items) ≡ place
  front = length-take-le place items (omega arith)

  pub overwritten_length : length (overwritten items place new) ≡ length items
  overwritten_length =
      omega (arith, front, length-append (take place items) (new ++ drop (place + length new) items), length-append new (drop (place + length new) items), length-drop (place + length new) items)

  pub overwritten_below : (d : A) (p : ℕ) → p < place → get_or (overwritten items place new) p d ≡ get_or items p d
  overwritten_below d p below =
      get_or_append_left (take place items) (new ++ drop (place + length new) items) d p (omega (arith, front)) ∙ get_or-take place items p d below

  -- what lies past the front
  past_front : (d : A) (p : ℕ) → place ≤ p → get_or (overwritten items place new) p d ≡ get_or (new ++ drop (place + length new) items) (p - place) d
  past_front d p from = get_or-append_right (take place items) (new ++ drop (place + length new) items) place p d front from

  pub overwritten_in : (d : A) (k : ℕ) → k < length new → get_or (overwritten items place new) (place + k) d ≡ get_or new k d
  overwritten_in d k below =
      let back : (place + k) - place ≡ k = omega arith in
      past_front d (place + k) (omega arith) ∙ ap (λ q. get_or (new ++ drop (place + length new) items) q d) back ∙ get_or_append_left new (drop (place + length new) items) d k below

  pub overwritten_above : (d : A) (p : ℕ) → place + length new ≤ p → get_or (overwritten items place new) p d ≡ get_or items p d
  overwritten_above d p above =
      let back : (place + length new) + ((p - place) - length new) ≡ p = omega arith in
      past_front d p (omega arith)
      ∙ get_or-append_right new (drop (place + length new) items) (length new) (p - place) d refl (omega arith)
      ∙ get_or-drop (place + length new) items ((p - place) - length new) d
      ∙ ap (λ q. get_or items q d) back

-- to write nothing changes nothing
pub overwritten_nothing : {A : Type 0} (items : List A) (place : ℕ) (new : List A) → length new ≡ 0 → overwritten items place new ≡ items
overwritten_nothing items place new none =
    let back : place + 0 ≡ place = omega arith in
    ap (overwritten items place) (nil_from_length new none) ∙ ap (λ n. take place items ++ drop n items) back ∙ take-append-drop place items
