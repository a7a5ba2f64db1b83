-- After the fills the leaves' buffers hold the piece.
use Rattle.std.proofs.Common.{◌⊎◌, ◌≡◌, ℕ, ◌+◌, ◌*◌, ◌<◌, ◌≤◌, inl, inr, ap, sym, ◌∙◌, subst, refl, arith, List, [], ◌∷◌, ◌++◌, length, true, false, ℤ, map}
use Rattle.std.proofs.lemmas.Bool.{cases_lt, cases_eq, false≢true}
use Rattle.ven_base.specs.Elem.{size_of, IsElement}
use Rattle.ven_base.specs.Cell.{Cell}
use Rattle.ven_base.proofs.Wrapped.{wrapped_in}
use Rattle.venice_isa.specs.declared.work.VecWork.{VecWork}
use Rattle.venice_isa.specs.declared.op.VecOp.TheVariants.{Mov}
use Rattle.venice_isa.specs.Cell.{cell_at}
use Rattle.venice_isa.specs.Region.{place_in, Covers, HasRowsApart}
use Rattle.venice_isa.specs.Whole.{IsWhole, result_at, is_left_alone}
use Rattle.venice_isa.proofs.Regions.{item_fits, elements_apart, covered_or_not}
use Rattle.venice_isa.proofs.Results.{result_is as op_result}
use Rattle.venice_isa.proofs.Wholes.{size_positive}
use Rattle.dma_segments.specs.declared.segments.Fill.{Fill}
use Rattle.dma_segments.specs.Put.{cells_of_fill}
use Rattle.vector_codegen.specs.Kind.{move_kind}
use Rattle.vector_codegen.specs.Work.{Shape, Buffers, leaf_buffer}
use Rattle.vector_codegen.specs.TileList.{fill_work}
use Rattle.vector_codegen.proofs.Good.{IsIn, IsGood, IsTileBuffer, a_leaf}
use Rattle.vector_codegen.proofs.Held.{Typing, count_of, element_place, Spells, HoldsLeaves, HasRoom, TakesAll}
use Rattle.vector_codegen.proofs.Elements.{spells_as, number_written, spells_kept}
use Rattle.vector_codegen.proofs.Blocks.{rooms_apart, element_in_room}
use Rattle.vector_codegen.proofs.Works.{word_is}
use Rattle.vector_codegen.proofs.Steps.{size_positive_fits}

-- the fill's element in this row and column is element i of leaf k's buffer
pub record IsFilled (shape : Shape) (b : Buffers) (fill : Fill) (k r j i : ℕ) : Type 0 where
  pub row : r < fill.rows
  pub column : j < fill.cols
  pub place : place_in (cells_of_fill fill) r j ≡ element_place shape fill.elem (leaf_buffer b k) i

-- a fill of leaf k: each of its elements is one of the leaf's, and has its number
pub record IsLeafFill (shape : Shape) (b : Buffers) (typing : Typing) (leaf : ℕ → ℕ → ℤ) (fill : Fill) (k : ℕ) : Type 0 where
  pub leaf_is : k < typing.leaves
  pub elem_is : fill.elem ≡ typing.leaf k
  pub some_rows : 0 < fill.rows
  pub some_cols : 0 < fill.cols
  pub rows_apart : HasRowsApart (cells_of_fill fill)
  pub range : IsElement fill.elem fill.value
  pub index : (r j : ℕ) → r < fill.rows → j < fill.cols → (i : ℕ) × (i < count_of shape) × IsFilled shape b fill k r j i × (leaf i k ≡ fill.value)

abbrev pub AreFills : List Fill → Shape → Buffers → Typing → (ℕ → ℕ → ℤ) → Type 0
AreFills [] shape b typing leaf = Unit {0}
AreFills (fill ∷ fills) shape b typing leaf = ((k : ℕ) × IsLeafFill shape b typing leaf fill k) × AreFills fills shape b typing leaf

-- one of the fills writes element i of leaf k
abbrev pub IsWrittenBy : List Fill → Shape → Buffers → Typing → (k i : ℕ) → Type 0
IsWrittenBy [] shape b typing k i = ⊥
IsWrittenBy (fill ∷ fills) shape b typing k i = ((fill.elem ≡ typing.leaf k) × (r : ℕ) × (j : ℕ) × IsFilled shape b fill k r j i) ⊎ IsWrittenBy fills shape b typing k i

-- the leaves' buffers hold the piece, but for the places of these fills
abbrev pub HoldsButFills : List Fill → Shape → Buffers → Typing → (ℕ → ℕ → ℤ) → List Cell → Type 0
HoldsButFills fills shape b typing leaf cells =
    (k i : ℕ) → k < typing.leaves → i < count_of shape
    → Spells (typing.leaf k) cells (element_place shape (typing.leaf k) (leaf_buffer b k) i) (leaf i k) ⊎ IsWrittenBy fills shape b typing k i

-- two elements of one buffer that share a byte are one
pub one_element : (place size i i' p : ℕ) → place + i * size ≤ p → p < place + i * size + size → place + i' * size ≤ p → p < place + i' * size + size → i ≡ i'
one_element place size i i' p from ends from' ends' =
    elim (cases_lt i i') [
      | inl less ↦ let next = item_fits i i' size less in absurd (omega arith)
      | inr not_less ↦ elim (cases_lt i' i) [
        | inl more ↦ let next = item_fits i' i size more in absurd (omega arith)
        | inr not_more ↦ omega arith
      ]
    ]

module _ (shape : Shape) (b : Buffers) (typing : Typing) (leaf : ℕ → ℕ → ℤ) (first : List Cell) (room : HasRoom shape b typing (length first)) where
  leaf_fits : (k : ℕ) → k < typing.leaves → count_of shape * size_of (typing.leaf k) ≤ shape.room
  leaf_fits k below = size_positive_fits shape (size_of (typing.leaf k)) typing.most (room.leaf_sizes k below) room.fits

  one_leaf : (k k' : ℕ) → leaf_buffer b k ≡ leaf_buffer b k' → k ≡ k'
  one_leaf k k' same = let half = room.half in omega (arith, same)

  module _ (fill : Fill) (k : ℕ) (is : IsLeafFill shape b typing leaf fill k) where
    fits : count_of shape * size_of fill.elem ≤ shape.room
    fits = rw is.elem_is (leaf_fits k is.leaf_is)

    -- a byte that the fill writes lies in its leaf's buffer
    pub in_leaf : (p : ℕ) → Covers (cells_of_fill fill) p → IsIn (leaf_buffer b k * shape.room) shape.room p
    in_leaf p covered =
        let at = covered.2 in
        let there = is.index covered.0 covered.1 at.row at.column in
        element_in_room shape fill.elem (leaf_buffer b k) there.0 p fits there.1 (omega (arith, there.2.place, at.from)) (omega (arith, there.2.place, at.below))

    pub fill_good : IsGood (IsTileBuffer b) shape.room (fill_work fill)
    fill_good = record {
      simple = record {
        counts = record { elements = is.some_cols; rows = is.some_rows };
        elements_apart = elements_apart (cells_of_fill fill) is.rows_apart;
        a_in_place_or_apart = λ vector. absurd (false≢true (sym vector));
        b_in_place_or_apart = λ used vector. absurd (false≢true used);
      };
      reads = λ p read. elim read [ inl a_read ↦ absurd (false≢true (sym a_read.0)) | inr more ↦ elim more [ inl b_read ↦ absurd (false≢true b_read.0) | inr old ↦ absurd (false≢true old.0) ] ];
      writes = λ p written. (leaf_buffer b k, a_leaf k (let count = room.one_count in let below = is.leaf_is in omega arith) refl, in_leaf p written);
    }

    module _ (cells after : List Cell) (whole : IsWhole (fill_work fill) cells after) where
      value_there : (r j : ℕ) → r < fill.rows → j < fill.cols → Spells fill.elem after (place_in (cells_of_fill fill) r j) fill.value
      unfolding is_left_alone result_at
      value_there r j row column =
          spells_as fill.elem after _ _ _ _ (number_written (fill_work fill) cells after whole refl r j row column refl) refl
          (op_result (move_kind fill.elem true false) _ _ Mov refl ∙ word_is fill.elem fill.value ∙ wrapped_in fill.elem fill.value is.range)

      -- an element of a leaf that the fill touches has its number
      touched : (k' i p : ℕ) → k' < typing.leaves → i < count_of shape → element_place shape (typing.leaf k') (leaf_buffer b k') i ≤ p → p < element_place shape (typing.leaf k') (leaf_buffer b k') i + size_of (typing.leaf k') → Covers (cells_of_fill fill) p
          → Spells (typing.leaf k') after (element_place shape (typing.leaf k') (leaf_buffer b k') i) (leaf i k') × Covers (cells_of_fill fill) (element_place shape (typing.leaf k') (leaf_buffer b k') i)
      touched k' i p below in_piece from ends covered =
          elim (cases_eq k k') [
            | inr other ↦ absurd (rooms_apart shape.room (leaf_buffer b k) (leaf_buffer b k') p (λ e. other (one_leaf k k' e)) (in_leaf p covered) (element_in_room shape (typing.leaf k') (leaf_buffer b k') i p (leaf_fits k' below) in_piece from ends))
            | inl same ↦
                let elem : fill.elem ≡ typing.leaf k' = is.elem_is ∙ ap typing.leaf same in
                subst (λ e. Spells e after (element_place shape e (leaf_buffer b k') i) (leaf i k') × Covers (cells_of_fill fill) (element_place shape e (leaf_buffer b k') i)) elem
                (subst (λ k'. Spells fill.elem after (element_place shape fill.elem (leaf_buffer b k') i) (leaf i k') × Covers (cells_of_fill fill) (element_place shape fill.elem (leaf_buffer b k') i)) same
                (at_leaf (subst (λ k'. element_place shape fill.elem (leaf_buffer b k') i ≤ p) (sym same) (rw elem from)) (subst (λ k'. p < element_place shape fill.elem (leaf_buffer b k') i + size_of fill.elem) (sym same) (rw elem ends))))
          ]
        where
          at_leaf : element_place shape fill.elem (leaf_buffer b k) i ≤ p → p < element_place shape fill.elem (leaf_buffer b k) i + size_of fill.elem → Spells fill.elem after (element_place shape fill.elem (leaf_buffer b k) i) (leaf i k) × Covers (cells_of_fill fill) (element_place shape fill.elem (leaf_buffer b k) i)
          at_leaf from ends =
              let r = covered.0 in
              let j = covered.1 in
              let at = covered.2 in
              let there = is.index r j at.row at.column in
              let place = there.2.place in
              let one : there.0 ≡ i = one_element (leaf_buffer b k * shape.room) (size_of fill.elem) there.0 i p (omega (arith, place, at.from)) (omega (arith, place, at.below)) from ends in
              let here : place_in (cells_of_fill fill) r j ≡ element_place shape fill.elem (leaf_buffer b k) i = place ∙ ap (element_place shape fill.elem (leaf_buffer b k)) one in
              let some = size_positive fill.elem in (
                spells_as fill.elem after _ _ _ _ (value_there r j at.row at.column) here (sym there.3 ∙ ap (λ i. leaf i k) one),
                (r, j, record { row = at.row; column = at.column; from = omega (arith, here); below = omega (arith, here) }),
              )

      -- so an element that was right is right still
      right_still : (k' i : ℕ) → k' < typing.leaves → i < count_of shape → Spells (typing.leaf k') cells (element_place shape (typing.leaf k') (leaf_buffer b k') i) (leaf i k') → Spells (typing.leaf k') after (element_place shape (typing.leaf k') (leaf_buffer b k') i) (leaf i k')
      right_still k' i below in_piece right =
          let place = element_place shape (typing.leaf k') (leaf_buffer b k') i in
          let some = size_positive (typing.leaf k') in
          elim (covered_or_not (cells_of_fill fill) place) [
            | inl covered ↦ (touched k' i place below in_piece (omega arith) (omega arith) covered).0
            | inr untouched ↦ spells_kept (fill_work fill) cells after whole (typing.leaf k') place (λ p from ends covered. untouched (touched k' i p below in_piece from ends covered).1) (leaf i k') right
          ]

      -- and one that it writes becomes right
      right_now : (k' i r j : ℕ) → k' < typing.leaves → i < count_of shape → fill.elem ≡ typing.leaf k' → IsFilled shape b fill k' r j i → Spells (typing.leaf k') after (element_place shape (typing.leaf k') (leaf_buffer b k') i) (leaf i k')
      right_now k' i r j below in_piece elem filled =
          let some = size_positive (typing.leaf k') in
          let some' = size_positive fill.elem in
          let place : element_place shape (typing.leaf k') (leaf_buffer b k') i ≡ place_in (cells_of_fill fill) r j = ap (λ e. element_place shape e (leaf_buffer b k') i) (sym elem) ∙ sym filled.place in
          (touched k' i (element_place shape (typing.leaf k') (leaf_buffer b k') i) below in_piece (omega arith) (omega arith) (r, j, record { row = filled.row; column = filled.column; from = omega (arith, place); below = omega (arith, place) })).0

  module _ (Holding : List Cell → Type 0) (more : List VecWork) where
    pub fills_take : (fills : List Fill) (cells : List Cell) → length cells ≡ length first → AreFills fills shape b typing leaf → HoldsButFills fills shape b typing leaf cells
        → ((p : ℕ) → b.leaves * 2 * shape.room ≤ p → cell_at cells p ≡ cell_at first p)
        → ((middle : List Cell) → length middle ≡ length first → HoldsLeaves shape b typing leaf middle → ((p : ℕ) → b.leaves * 2 * shape.room ≤ p → cell_at middle p ≡ cell_at first p) → TakesAll more b shape middle Holding)
        → TakesAll (map fill_work fills ++ more) b shape cells Holding
    fills_take [] cells long are held rest goes_on = goes_on cells long (λ k below. record { each = λ i in_piece. elim (held k i below in_piece) [ inl right ↦ right | inr none ↦ absurd none ] }) rest
    fills_take (fill ∷ fills) cells long are held rest goes_on =
        let k = are.0.0 in
        let is = are.0.1 in (
          fill_good fill k is,
          λ after whole.
              fills_take fills after (whole.same_length ∙ long) are.1
              (λ k' i below in_piece. elim (held k' i below in_piece) [
                | inl right ↦ inl (right_still fill k is cells after whole k' i below in_piece right)
                | inr written ↦ elim written [
                  | inl here ↦ inl (right_now fill k is cells after whole k' i here.1 here.2 below in_piece here.0 here.3)
                  | inr later ↦ inr later
                ]
              ])
              (λ p behind. whole.kept p (λ covered. before_slots k is.leaf_is p behind (in_leaf fill k is p covered)) ∙ rest p behind)
              goes_on,
        )
      where
        before_slots : (k : ℕ) → k < typing.leaves → (p : ℕ) → b.leaves * 2 * shape.room ≤ p → ¬ IsIn (leaf_buffer b k * shape.room) shape.room p
        before_slots k below p behind is =
            let half = room.half in
            let count = room.one_count in
            let one : leaf_buffer b k < b.leaves * 2 = omega (arith, below) in
            let next = item_fits (leaf_buffer b k) (b.leaves * 2) shape.room one in
            omega (arith, is.ends)
