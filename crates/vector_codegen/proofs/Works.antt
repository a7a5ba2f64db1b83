-- What an instruction on buffers does: it is simple, it leaves its results in its buffer, and it keeps the other buffers.
use Rattle.std.proofs.Common.{◌≡◌, ℕ, zero, suc, ◌+◌, ◌*◌, ◌/◌, ◌%◌, ◌^◌, ◌<◌, ◌≤◌, inl, inr, ap, sym, ◌∙◌, subst, refl, arith, lit<, List, Bool, true, false, cond, ℤ, pos, ◌+ℤ◌, not, ◌&&◌, min}
use Rattle.std.specs.Prelude.{if◌then◌else◌}
use Rattle.std.proofs.Math.Nat.{mul-le-mul_left, mul-le-mul_right}
use Rattle.std.proofs.lemmas.Bool.{cases_Bool, cases_eq, cond-false, cond-true, true≢false}
use Rattle.ven_base.specs.declared.elem.Elem.{Elem}
use Rattle.ven_base.specs.Elem.{size_of}
use Rattle.ven_base.specs.Wrap.{wrapped}
use Rattle.ven_base.specs.Cell.{Cell}
use Rattle.ven_base.proofs.Congruence.{AreCongruent-sym, rem_congruent}
use Rattle.ven_base.proofs.MachineWords.{wrapped-word}
use Rattle.venice_isa.specs.declared.kind.VecKind.{VecKind}
use Rattle.venice_isa.specs.declared.region.Region.{Region}
use Rattle.venice_isa.specs.Cell.{cell_at, flag_of}
use Rattle.venice_isa.specs.Mode.{uses_b, is_conditional}
use Rattle.venice_isa.specs.Region.{place_in, Covers, IsApartFrom}
use Rattle.venice_isa.specs.Element.{number_at}
use Rattle.venice_isa.specs.Answer.{result_of}
use Rattle.venice_isa.specs.Footprint.{source_b, destination}
use Rattle.venice_isa.specs.Whole.{number_of_b, result_at, is_left_alone, sum_of_results, flag_for, is_one, IsWhole, IsSimple, IsInPlaceOrApart}
use Rattle.venice_isa.proofs.Wholes.{result_without_b}
use Rattle.vector_codegen.specs.Work.{Shape, column_of, Source, Buffer, Scalar, word_of, parameter_of, is_scalar, work_of}
use Rattle.vector_codegen.proofs.Good.{IsNamed, IsIn, IsGood}
use Rattle.vector_codegen.proofs.Held.{count_of, element_place, Spells, Holds, IsFlagged}
use Rattle.vector_codegen.proofs.Elements.{number_there, spells_as, number_written, flag_written, number_left, sum_written}
use Rattle.vector_codegen.proofs.Blocks.{block_of, block_place, index_below, IsElementOf, element_of, block_bounds, block_apart, rooms_apart, in_room}
use Rattle.vector_codegen.proofs.Totals.{row_sum}

-- a number and its word wrap to the same
pub word_is : (elem : Elem) (n : ℤ) → wrapped elem (pos (word_of n)) ≡ wrapped elem n
word_is elem n = wrapped-word elem (pos (word_of n)) n (AreCongruent-sym (2 ^ 32) n (pos (word_of n)) (rem_congruent (2 ^ 32) n (lit< tt)))

-- the source has these values: its buffer, one of so many, holds them, or they are its number
abbrev pub IsSource : Source → Shape → (ℕ → Type 0) → List Cell → Elem → (ℕ → ℤ) → Type 0
IsSource (Buffer k) shape Allowed cells elem value = Allowed k × (count_of shape * size_of elem ≤ shape.room) × Holds shape elem cells k value
IsSource (Scalar n) shape Allowed cells elem value = (i : ℕ) → value i ≡ wrapped elem n

-- the number that a work takes from a source
source_number : (src : Source) (shape : Shape) (Allowed : ℕ → Type 0) (cells : List Cell) (elem : Elem) (value : ℕ → ℤ) (scalar : Bool) (r j : ℕ)
    → scalar ≡ is_scalar src → IsSource src shape Allowed cells elem value → r < shape.rows → j < shape.cols
    → cond scalar (wrapped elem (pos (parameter_of shape.room src))) (number_at elem cells (parameter_of shape.room src + r * (shape.cols * size_of elem) + j * size_of elem)) ≡ value (r * shape.cols + j)
source_number (Buffer k) shape Allowed cells elem value scalar r j none is row column =
    cond-false scalar _ _ none ∙ ap (number_at elem cells) (block_place shape elem k r j) ∙ number_there elem cells (element_place shape elem k (r * shape.cols + j)) (value (r * shape.cols + j)) (is.2.each (r * shape.cols + j) (index_below shape r j row column))
source_number (Scalar n) shape Allowed cells elem value scalar r j one is row column =
    cond-true scalar _ _ one ∙ word_is elem n ∙ sym (is (r * shape.cols + j))

-- a work's sources have these values, and a source in the work's own buffer has its results' size
pub record AreSources (shape : Shape) (Allowed : ℕ → Type 0) (cells : List Cell) (kind : VecKind) (to : ℕ) (a b : Source) (value_a value_b : ℕ → ℤ) : Type 0 where
  pub a_scalar : kind.a_scalar ≡ is_scalar a
  pub b_scalar : uses_b kind.op ≡ true → kind.b_scalar ≡ is_scalar b
  pub a_is : IsSource a shape Allowed cells kind.from value_a
  pub b_is : uses_b kind.op ≡ true → IsSource b shape Allowed cells kind.elem value_b
  pub share : a ≡ Buffer to → size_of kind.from ≡ size_of kind.elem

-- its buffer is one of those that are allowed, and has room for the results
pub record IsPlaced (shape : Shape) (Allowed : ℕ → Type 0) (elem : Elem) (to : ℕ) : Type 0 where
  pub some_rows : 0 < shape.rows
  pub some_cols : 0 < shape.cols
  pub fits : count_of shape * size_of elem ≤ shape.room
  pub one : Allowed to

one_buffer : (k k' : ℕ) → Buffer k ≡ Buffer k' → k ≡ k'
one_buffer k k' e = cc

-- where a source's elements stand
abbrev pub source_block : Shape → Source → Elem → Region
source_block shape src elem = record { place = parameter_of shape.room src; step = shape.cols * size_of elem; size = size_of elem; rows = shape.rows; columns = shape.cols }

module _ (shape : Shape) (Allowed : ℕ → Type 0) (before : List Cell) (kind : VecKind) (to : ℕ) (a b : Source) (value_a value_b : ℕ → ℤ) (placed : IsPlaced shape Allowed kind.elem to) (sources : AreSources shape Allowed before kind to a b value_a value_b) where
  pub result_is : (r j : ℕ) → r < shape.rows → j < shape.cols → result_at (work_of shape kind to a b) before r j ≡ result_of kind (value_a (r * shape.cols + j)) (value_b (r * shape.cols + j))
  unfolding result_at
  result_is r j row column =
      let first = source_number a shape Allowed before kind.from value_a kind.a_scalar r j sources.a_scalar sources.a_is row column in
      ap (λ x. result_of kind x (number_of_b (work_of shape kind to a b) before r j)) first
      ∙ elim (cases_Bool (uses_b kind.op)) [
        | inl used ↦ ap (result_of kind (value_a (r * shape.cols + j))) (source_number b shape Allowed before kind.elem value_b kind.b_scalar r j (sources.b_scalar used) (sources.b_is used) row column)
        | inr unused ↦ result_without_b kind (value_a (r * shape.cols + j)) (value_b (r * shape.cols + j)) (number_of_b (work_of shape kind to a b) before r j) unused
      ]

  -- a source that isn't a scalar lies in its buffer
  source_in : (src : Source) (elem : Elem) (value : ℕ → ℤ) → is_scalar src ≡ false → IsSource src shape Allowed before elem value → (p : ℕ) → Covers (source_block shape src elem) p → IsNamed Allowed shape.room p
  source_in (Buffer k) elem value vector is p covered = (k, is.0, in_room shape.room k _ p is.1 (block_bounds shape elem k p covered))
  source_in (Scalar n) elem value vector is p covered = absurd (true≢false vector)

  -- the results are rows of a buffer: as many as the sources', or with accumulate one element each
  module _ (rows cols : ℕ) (to_block : destination (work_of shape kind to a b) ≡ block_of (record { room = shape.room; rows = rows; cols = cols }) kind.elem to) (fits : rows * cols * size_of kind.elem ≤ shape.room) where
    target : Shape
    target = record { room = shape.room; rows = rows; cols = cols }

    pub written_in : (p : ℕ) → Covers (destination (work_of shape kind to a b)) p → IsIn (to * shape.room) shape.room p
    unfolding target
    written_in p covered = in_room shape.room to _ p fits (block_bounds target kind.elem to p (subst (λ (region : Region). Covers region p) to_block covered))

    pub keeps_rest : (after : List Cell) → IsWhole (work_of shape kind to a b) before after → (p : ℕ) → ¬ IsIn (to * shape.room) shape.room p → cell_at after p ≡ cell_at before p
    keeps_rest after whole p outside = whole.kept p (λ covered. outside (written_in p covered))

    source_apart : (src : Source) (elem : Elem) (value : ℕ → ℤ) → is_scalar src ≡ false → IsSource src shape Allowed before elem value → (src ≡ Buffer to → ⊥) → IsApartFrom (source_block shape src elem) (destination (work_of shape kind to a b))
    source_apart (Buffer k) elem value vector is apart p covered other = rooms_apart shape.room k to p (λ same. apart (ap Buffer same)) (in_room shape.room k _ p is.1 (block_bounds shape elem k p covered)) (written_in p other)
    source_apart (Scalar n) elem value vector is apart p covered other = true≢false vector

    good_where : IsSimple (work_of shape kind to a b) → IsGood Allowed shape.room (work_of shape kind to a b)
    good_where simple = record {
      simple = simple;
      reads = λ p read. elim read [
        | inl a_read ↦ source_in a kind.from value_a (sym sources.a_scalar ∙ a_read.0) sources.a_is p a_read.1
        | inr more ↦ elim more [
          | inl b_read ↦ source_in b kind.elem value_b (sym (sources.b_scalar b_read.0) ∙ b_read.1) (sources.b_is b_read.0) p b_read.2
          | inr old ↦ (to, placed.one, written_in p old.1)
        ]
      ];
      writes = λ p written. (to, placed.one, written_in p written);
    }

    -- a work whose sources stand in other buffers
    pub good_apart : (a ≡ Buffer to → ⊥) → (b ≡ Buffer to → ⊥) → IsGood Allowed shape.room (work_of shape kind to a b)
    unfolding target
    good_apart a_apart b_apart = good_where (record {
      counts = record { elements = placed.some_cols; rows = placed.some_rows };
      elements_apart = rw to_block (block_apart target kind.elem to);
      a_in_place_or_apart = λ vector. inr (source_apart a kind.from value_a (sym sources.a_scalar ∙ vector) sources.a_is a_apart);
      b_in_place_or_apart = λ used vector. inr (source_apart b kind.elem value_b (sym (sources.b_scalar used) ∙ vector) (sources.b_is used) b_apart);
    })

  module _ (no_sum : kind.acc ≡ false) where
    pub to_block : destination (work_of shape kind to a b) ≡ block_of shape kind.elem to
    to_block = ap (λ (acc : Bool). record { place = to * shape.room; step = if acc then size_of kind.elem else shape.cols * size_of kind.elem; size = size_of kind.elem; rows = shape.rows; columns = if acc then min 1 shape.cols else shape.cols }) no_sum

    -- a source in a buffer
    in_place_or_apart : (src : Source) (elem : Elem) (value : ℕ → ℤ) → is_scalar src ≡ false → IsSource src shape Allowed before elem value → (src ≡ Buffer to → size_of elem ≡ size_of kind.elem)
        → IsInPlaceOrApart (work_of shape kind to a b) (source_block shape src elem)
    in_place_or_apart (Buffer k) elem value vector is share =
        elim (cases_eq k to) [
          | inl same ↦
              let size = share (ap Buffer same) in
              rw to_block (inl (record { size = size; rows = refl; columns = refl; places = λ r j row column. ap (λ k. k * shape.room + r * (shape.cols * size_of elem) + j * size_of elem) same ∙ ap (λ size. to * shape.room + r * (shape.cols * size) + j * size) size }))
          | inr apart ↦ inr (source_apart shape.rows shape.cols to_block placed.fits (Buffer k) elem value vector is (λ e. apart (one_buffer k to e)))
        ]
    in_place_or_apart (Scalar n) elem value vector is share = absurd (true≢false vector)

    pub good : IsGood Allowed shape.room (work_of shape kind to a b)
    good = good_where shape.rows shape.cols to_block placed.fits (record {
      counts = record { elements = placed.some_cols; rows = placed.some_rows };
      elements_apart = rw to_block (block_apart shape kind.elem to);
      a_in_place_or_apart = λ vector. in_place_or_apart a kind.from value_a (sym sources.a_scalar ∙ vector) sources.a_is sources.share;
      b_in_place_or_apart = λ used vector. in_place_or_apart b kind.elem value_b (sym (sources.b_scalar used) ∙ vector) (sources.b_is used) (λ same. refl);
    })

    pub keeps : (after : List Cell) → IsWhole (work_of shape kind to a b) before after → (p : ℕ) → ¬ IsIn (to * shape.room) shape.room p → cell_at after p ≡ cell_at before p
    keeps = keeps_rest shape.rows shape.cols to_block placed.fits

    module _ (after : List Cell) (whole : IsWhole (work_of shape kind to a b) before after) where
      -- where an element of the results stands
      to_place : (i r j : ℕ) → IsElementOf shape i r j → place_in (destination (work_of shape kind to a b)) r j ≡ element_place shape kind.elem to i
      to_place i r j is = ap (λ (region : Region). place_in region r j) to_block ∙ block_place shape kind.elem to r j ∙ ap (element_place shape kind.elem to) is.index

      result_for : (i r j : ℕ) → IsElementOf shape i r j → result_at (work_of shape kind to a b) before r j ≡ result_of kind (value_a i) (value_b i)
      result_for i r j is = result_is r j is.row is.column ∙ ap (λ n. result_of kind (value_a n) (value_b n)) is.index

      module _ (plain : is_conditional kind.op ≡ false) where
        moved : (r j : ℕ) → is_left_alone (work_of shape kind to a b) before r j ≡ false
        unfolding is_left_alone
        moved r j = ap (λ c. c && not (flag_of (cell_at before (place_in (source_b (work_of shape kind to a b)) r j)))) plain

        pub gives : Holds shape kind.elem after to (λ i. result_of kind (value_a i) (value_b i))
        gives = record {
          each = λ i below.
              let is = element_of shape i placed.some_cols below in
              spells_as kind.elem after _ _ _ _ (number_written (work_of shape kind to a b) before after whole no_sum _ _ is.row is.column (moved _ _)) (to_place i _ _ is) (result_for i _ _ is);
        }

        pub gives_flags : (i : ℕ) → i < count_of shape → flag_of (cell_at after (element_place shape kind.elem to i)) ≡ flag_for kind (result_of kind (value_a i) (value_b i))
        gives_flags i below =
            let is = element_of shape i placed.some_cols below in
            ap (λ p. flag_of (cell_at after p)) (sym (to_place i _ _ is)) ∙ flag_written (work_of shape kind to a b) before after whole no_sum _ _ is.row is.column (moved _ _) ∙ ap (flag_for kind) (result_for i _ _ is)

      -- a conditional move takes A where the flag of B is set, and else what stood there
      module _ (conditional : is_conditional kind.op ≡ true) (c : ℕ) (b_buffer : b ≡ Buffer c) (value_c old : ℕ → ℤ) (flagged : IsFlagged shape kind.elem before c value_c) (there : Holds shape kind.elem before to old) where
        flag_at : (i r j : ℕ) → IsElementOf shape i r j → is_left_alone (work_of shape kind to a b) before r j ≡ not (is_one (value_c i))
        unfolding is_left_alone
        flag_at i r j is =
            let place : place_in (source_b (work_of shape kind to a b)) r j ≡ element_place shape kind.elem c i = ap (λ (src : Source). parameter_of shape.room src + r * (shape.cols * size_of kind.elem) + j * size_of kind.elem) b_buffer ∙ block_place shape kind.elem c r j ∙ ap (element_place shape kind.elem c) is.index in
            let below : i < count_of shape = subst (λ n. n < count_of shape) is.index (index_below shape r j is.row is.column) in
            ap (λ c. c && not (flag_of (cell_at before (place_in (source_b (work_of shape kind to a b)) r j)))) conditional ∙ ap (λ p. not (flag_of (cell_at before p))) place ∙ ap not (flagged.each i below)

        one_of : (i : ℕ) → IsElementOf shape i (i / shape.cols) (i % shape.cols) → i < count_of shape → Spells kind.elem after (element_place shape kind.elem to i) (if is_one (value_c i) then result_of kind (value_a i) (value_b i) else old i)
        one_of i is below =
            elim (cases_Bool (is_one (value_c i))) [
              | inl one ↦ spells_as kind.elem after _ _ _ _ (number_written (work_of shape kind to a b) before after whole no_sum _ _ is.row is.column (flag_at i _ _ is ∙ ap not one)) (to_place i _ _ is) (result_for i _ _ is ∙ sym (cond-true (is_one (value_c i)) _ _ one))
              | inr left ↦ spells_as kind.elem after _ _ _ _ (number_left (work_of shape kind to a b) before after whole no_sum _ _ is.row is.column (old i) (flag_at i _ _ is ∙ ap not left) (spells_as kind.elem before _ _ _ _ (there.each i below) (sym (to_place i _ _ is)) refl)) (to_place i _ _ is) (sym (cond-false (is_one (value_c i)) _ _ left))
            ]

        pub chooses : Holds shape kind.elem after to (λ i. if is_one (value_c i) then result_of kind (value_a i) (value_b i) else old i)
        chooses = record { each = λ i below. one_of i (element_of shape i placed.some_cols below) below }

  -- with accumulate each row leaves the sum of its results
  module _ (sums : kind.acc ≡ true) where
    pub to_column : destination (work_of shape kind to a b) ≡ block_of (record { room = shape.room; rows = shape.rows; cols = 1 }) kind.elem to
    to_column =
        let step : size_of kind.elem ≡ 1 * size_of kind.elem = omega arith in
        let one : min 1 shape.cols ≡ 1 = let some = placed.some_cols in omega arith in
        ap (λ (acc : Bool). record { place = to * shape.room; step = if acc then size_of kind.elem else shape.cols * size_of kind.elem; size = size_of kind.elem; rows = shape.rows; columns = if acc then min 1 shape.cols else shape.cols }) sums
        ∙ ap (λ step. record { place = to * shape.room; step = step; size = size_of kind.elem; rows = shape.rows; columns = min 1 shape.cols }) step
        ∙ ap (λ columns. record { place = to * shape.room; step = 1 * size_of kind.elem; size = size_of kind.elem; rows = shape.rows; columns = columns }) one

    column_fits : shape.rows * 1 * size_of kind.elem ≤ shape.room
    column_fits =
        let some = placed.some_cols in
        let rows : shape.rows * 1 ≤ shape.rows * shape.cols = mul-le-mul_left shape.rows some in
        let sizes : shape.rows * 1 * size_of kind.elem ≤ shape.rows * shape.cols * size_of kind.elem = mul-le-mul_right (size_of kind.elem) rows in
        let fits = placed.fits in
        omega arith

    pub good_sum : (a ≡ Buffer to → ⊥) → (b ≡ Buffer to → ⊥) → IsGood Allowed shape.room (work_of shape kind to a b)
    good_sum = good_apart shape.rows 1 to_column column_fits

    pub keeps_sum : (after : List Cell) → IsWhole (work_of shape kind to a b) before after → (p : ℕ) → ¬ IsIn (to * shape.room) shape.room p → cell_at after p ≡ cell_at before p
    keeps_sum = keeps_rest shape.rows 1 to_column column_fits

    results_sum : (r j count : ℕ) → r < shape.rows → j + count ≤ shape.cols → sum_of_results (work_of shape kind to a b) before r j count ≡ row_sum (λ i. result_of kind (value_a i) (value_b i)) (r * shape.cols + j) count
    results_sum r j zero row columns = refl
    results_sum r j (suc count) row columns =
        let next : r * shape.cols + (j + 1) ≡ r * shape.cols + j + 1 = omega arith in
        ap (λ x. x +ℤ sum_of_results (work_of shape kind to a b) before r (j + 1) count) (result_is r j row (omega arith))
        ∙ ap (λ x. result_of kind (value_a (r * shape.cols + j)) (value_b (r * shape.cols + j)) +ℤ x) (results_sum r (j + 1) count row (omega arith) ∙ ap (λ i. row_sum (λ i. result_of kind (value_a i) (value_b i)) i count) next)

    pub gives_sums : (after : List Cell) → IsWhole (work_of shape kind to a b) before after → Holds (column_of shape) kind.elem after to (λ r. wrapped kind.elem (row_sum (λ i. result_of kind (value_a i) (value_b i)) (r * shape.cols) shape.cols))
    gives_sums after whole = record {
      each = λ r below.
          let row : r < shape.rows = omega arith in
          let place : place_in (destination (work_of shape kind to a b)) r 0 ≡ element_place (column_of shape) kind.elem to r =
          ap (λ (region : Region). place_in region r 0) to_column ∙ (omega arith) in
          let start : r * shape.cols + 0 ≡ r * shape.cols = omega arith in
          spells_as kind.elem after _ _ _ _ (sum_written (work_of shape kind to a b) before after whole sums placed.some_cols r row) place
          (ap (wrapped kind.elem) (results_sum r 0 shape.cols row (omega arith) ∙ ap (λ i. row_sum (λ i. result_of kind (value_a i) (value_b i)) i shape.cols) start));
    }
