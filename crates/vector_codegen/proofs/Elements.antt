-- What an instruction leaves at each element, as a number and a flag.
use Rattle.std.proofs.Common.{◌≡◌, ℕ, ◌+◌, ◌<◌, ◌≤◌, inl, inr, ap, sym, ◌∙◌, subst, refl, arith, List, [], ◌∷◌, get_or, Bool, true, false, ℤ, map}
use Rattle.std.proofs.lemmas.Bool.{cases_Bool, cond-false, cond-true}
use Rattle.ven_base.specs.declared.elem.Elem.{Elem}
use Rattle.ven_base.specs.declared.elem.Elem.TheVariants.{U8, I8, U16, I16, U32, I32}
use Rattle.ven_base.specs.Elem.{size_of, IsElement}
use Rattle.ven_base.specs.Wrap.{wrapped}
use Rattle.ven_base.specs.Cell.{Cell}
use Rattle.ven_base.proofs.Wrapped.{IsElement-wrapped}
use Rattle.venice_isa.specs.declared.work.VecWork.{VecWork}
use Rattle.venice_isa.specs.Cell.{cell_at, part, byte_of, flag_of}
use Rattle.venice_isa.specs.Region.{place_in, Covers}
use Rattle.venice_isa.specs.Element.{number_at, number_of, spelled, bytes_of}
use Rattle.venice_isa.specs.Footprint.{destination, written_in_row}
use Rattle.venice_isa.specs.Whole.{number_of_a, result_at, is_left_alone, new_element, flag_for, IsWhole, sum_of_results}
use Rattle.venice_isa.specs.Laws.{SpellsNumber}
use Rattle.venice_isa.proofs.Wholes.{same_part, part_at, columns_without_sum, size_positive}
use Rattle.venice_isa.proofs.Results.{result_in_type}
use Rattle.venice_isa.proofs.Spellings.{bytes_spell}
use Rattle.vector_codegen.proofs.Held.{Spells}

-- the number that is spelled there, and the same at another name of the place and of the number
pub number_there : (elem : Elem) (cells : List Cell) (place : ℕ) (n : ℤ) → Spells elem cells place n → number_at elem cells place ≡ n
number_there elem cells place n there = there.number

pub spells_as : (elem : Elem) (cells : List Cell) (place place' : ℕ) (n n' : ℤ) → Spells elem cells place n → place ≡ place' → n ≡ n' → Spells elem cells place' n'
spells_as elem cells place place' n n' there same_place same_number = subst (λ p. Spells elem cells p n') same_place (subst (λ m. Spells elem cells place m) same_number there)

-- where the cells are the same, they spell the same
pub spells_part : (elem : Elem) (cells cells' : List Cell) (place place' : ℕ) (n : ℤ) → part cells' place' (size_of elem) ≡ part cells place (size_of elem) → Spells elem cells place n → Spells elem cells' place' n
spells_part elem cells cells' place place' n same there = subst (λ cs. SpellsNumber elem n (map byte_of cs)) (sym same) there

-- every number that an instruction takes or gives is one of its type
pub a_in_type : (work : VecWork) (cells : List Cell) (r j : ℕ) → IsElement work.kind.from (number_of_a work cells r j)
a_in_type work cells r j =
    elim (cases_Bool work.kind.a_scalar) [
      | inl scalar ↦ subst (IsElement work.kind.from) (sym (cond-true work.kind.a_scalar _ _ scalar)) (IsElement-wrapped work.kind.from _)
      | inr vector ↦ subst (IsElement work.kind.from) (sym (cond-false work.kind.a_scalar _ _ vector)) (IsElement-wrapped work.kind.from _)
    ]

pub result_at_in_type : (work : VecWork) (cells : List Cell) (r j : ℕ) → IsElement work.kind.elem (result_at work cells r j)
unfolding result_at
result_at_in_type work cells r j = result_in_type work.kind _ _ (a_in_type work cells r j)

-- ---- a spelled element

bytes_back : (bytes : List ℕ) (flag : Bool) → map byte_of (map (λ byte. (byte, flag)) bytes) ≡ bytes
bytes_back [] flag = refl
bytes_back (byte ∷ bytes) flag = ap (λ more. byte ∷ more) (bytes_back bytes flag)

first_flag : (elem : Elem) (n : ℤ) (flag : Bool) → flag_of (get_or (spelled elem n flag) 0 (0, false)) ≡ flag
first_flag U8 n flag = refl
first_flag I8 n flag = refl
first_flag U16 n flag = refl
first_flag I16 n flag = refl
first_flag U32 n flag = refl
first_flag I32 n flag = refl

-- where a number is spelled, it stands there
pub spelled_number : (elem : Elem) (n : ℤ) (flag : Bool) (cells : List Cell) (place : ℕ) → IsElement elem n → part cells place (size_of elem) ≡ spelled elem n flag → Spells elem cells place n
spelled_number elem n flag cells place range written =
    subst (λ bytes. SpellsNumber elem n bytes) (sym (ap (map byte_of) written ∙ bytes_back (bytes_of elem n) flag)) (bytes_spell elem n range)

first_of_part : (elem : Elem) (cells : List Cell) (place : ℕ) → get_or (part cells place (size_of elem)) 0 (0, false) ≡ cell_at cells place
first_of_part elem cells place = let here : place + 0 ≡ place = omega arith in part_at (0, false) cells place (size_of elem) 0 (size_positive elem) ∙ ap (cell_at cells) here

pub spelled_flag : (elem : Elem) (n : ℤ) (flag : Bool) (cells : List Cell) (place : ℕ) → part cells place (size_of elem) ≡ spelled elem n flag → flag_of (cell_at cells place) ≡ flag
spelled_flag elem n flag cells place written =
    ap flag_of (sym (first_of_part elem cells place)) ∙ ap (λ cs. flag_of (get_or cs 0 (0, false))) written ∙ first_flag elem n flag

module _ (work : VecWork) (before after : List Cell) (whole : IsWhole work before after) where
  module _ (no_sum : work.kind.acc ≡ false) (r j : ℕ) (row : r < work.rows) (column : j < work.vl) where
    new_part : part after (place_in (destination work) r j) (size_of work.kind.elem) ≡ new_element work before r j
    new_part = whole.written r j row (rw (columns_without_sum work no_sum) column) ∙ cond-false work.kind.acc _ _ no_sum

    spelled_part : is_left_alone work before r j ≡ false → part after (place_in (destination work) r j) (size_of work.kind.elem) ≡ spelled work.kind.elem (result_at work before r j) (flag_for work.kind (result_at work before r j))
    unfolding new_element
    spelled_part moved = new_part ∙ cond-false (is_left_alone work before r j) _ _ moved

    -- an element has its result
    pub number_written : is_left_alone work before r j ≡ false → Spells work.kind.elem after (place_in (destination work) r j) (result_at work before r j)
    number_written moved = spelled_number work.kind.elem _ _ after _ (result_at_in_type work before r j) (spelled_part moved)

    -- and the flag that goes with it
    pub flag_written : is_left_alone work before r j ≡ false → flag_of (cell_at after (place_in (destination work) r j)) ≡ flag_for work.kind (result_at work before r j)
    flag_written moved = spelled_flag work.kind.elem (result_at work before r j) _ after _ (spelled_part moved)

    -- an element that is left alone has the number that it had
    pub number_left : (n : ℤ) → is_left_alone work before r j ≡ true → Spells work.kind.elem before (place_in (destination work) r j) n → Spells work.kind.elem after (place_in (destination work) r j) n
    unfolding new_element
    number_left n alone there = spells_part work.kind.elem before after (place_in (destination work) r j) (place_in (destination work) r j) n (new_part ∙ cond-true (is_left_alone work before r j) _ _ alone) there

  -- with accumulate a row's first element has the row's sum
  pub sum_written : work.kind.acc ≡ true → 0 < work.vl → (r : ℕ) → r < work.rows → Spells work.kind.elem after (place_in (destination work) r 0) (wrapped work.kind.elem (sum_of_results work before r 0 work.vl))
  sum_written sums some r row =
      let column : 0 < written_in_row work = rw (cond-true work.kind.acc _ _ sums) (omega arith) in
      spelled_number work.kind.elem _ false after _ (IsElement-wrapped work.kind.elem _) (whole.written r 0 row column ∙ cond-true work.kind.acc _ _ sums)

  module _ (elem : Elem) (place : ℕ) (outside : (p : ℕ) → place ≤ p → p < place + size_of elem → ¬ Covers (destination work) p) where
    part_kept : part after place (size_of elem) ≡ part before place (size_of elem)
    part_kept = same_part (0, false) before after place (size_of elem) whole.same_length (λ p from below. whole.kept p (outside p from below))

    -- an element of which no byte is written keeps its number
    pub spells_kept : (n : ℤ) → Spells elem before place n → Spells elem after place n
    spells_kept n there = spells_part elem before after place place n part_kept there

    pub number_kept : number_at elem after place ≡ number_at elem before place
    number_kept = ap (λ cs. number_of elem (map byte_of cs)) part_kept
