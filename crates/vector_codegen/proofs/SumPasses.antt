-- The instructions of a sum leave the rows' sums.
use Rattle.std.proofs.Common.{◌≡◌, ◌≢◌, ℕ, zero, suc, ◌+◌, ◌*◌, ◌<◌, ◌≤◌, ap, sym, ◌∙◌, subst, refl, arith, List, [], ◌∷◌, length, Bool, true, false, ℤ, pos, ◌+ℤ◌}
use Rattle.std.proofs.lemmas.Int.{ints}
use Rattle.std.proofs.Math.Nat.{mul-le-mul_left, mul-le-mul_right}
use Rattle.ven_base.specs.declared.elem.Elem.{Elem}
use Rattle.ven_base.specs.declared.ops.Op2.TheVariants as op2
use Rattle.ven_base.specs.Elem.{size_of}
use Rattle.ven_base.specs.Wrap.{wrapped}
use Rattle.ven_base.specs.Cell.{Cell}
use Rattle.ven_base.proofs.Wrapped.{wrapped-add}
use Rattle.venice_isa.specs.declared.work.VecWork.{VecWork}
use Rattle.venice_isa.specs.declared.kind.VecKind.{VecKind}
use Rattle.venice_isa.specs.declared.op.VecOp.TheVariants as vec_op
use Rattle.venice_isa.specs.Cell.{cell_at}
use Rattle.venice_isa.specs.Mode.{is_conditional, is_comparison}
use Rattle.venice_isa.specs.Answer.{result_of}
use Rattle.venice_isa.specs.Whole.{IsWhole}
use Rattle.venice_isa.proofs.Results.{result_is as op_result}
use Rattle.pass_plan.specs.declared.tree.TreeOp.TheVariants as tree_op
use Rattle.pass_plan.specs.Tree.{Select, elem_of}
use Rattle.pass_plan.specs.Normal.{is_select, is_comparison as is_compared}
use Rattle.buffer_lifetimes.specs.declared.step.Operand.{Operand}
use Rattle.buffer_lifetimes.specs.Step.{Tree, Step}
use Rattle.buffer_lifetimes.specs.Order.{State, IsArg, without, AreArgs, CanStep}
use Rattle.vector_codegen.specs.Kind.{two_kind}
use Rattle.vector_codegen.specs.Work.{Shape, column_of, Source, Buffer, Buffers, source_of, op_work, work_of, out_buffer, partial_buffer, step_work}
use Rattle.vector_codegen.specs.Root.{joining_work, sum_works}
use Rattle.vector_codegen.proofs.Good.{IsIn, IsGood, IsTileBuffer, the_output, the_partial}
use Rattle.vector_codegen.proofs.Held.{Typing, HasType, count_of, Holds, AreHeld, values_of, HasRoom, TakesAll}
use Rattle.vector_codegen.proofs.Totals.{row_sum}
use Rattle.vector_codegen.proofs.Elements.{spells_as}
use Rattle.vector_codegen.proofs.Blocks.{rooms_apart, holds_still}
use Rattle.vector_codegen.proofs.Works.{IsPlaced, AreSources, good_sum, keeps_sum, gives_sums, good, gives}
use Rattle.vector_codegen.proofs.Steps.{buffer_of_arg, held_without, step_gives, most_of, fits}
use Rattle.vector_codegen.proofs.Passes.{out_apart, root_writes}

-- the results so far: none in a row's first tile, else those in the output half
pub record HasSoFar (shape : Shape) (b : Buffers) (elem : Elem) (first : Bool) (so_far : ℕ → ℤ) (cells : List Cell) : Type 0 where
  pub none : first ≡ true → (r : ℕ) → so_far r ≡ pos 0
  pub some : first ≡ false → Holds (column_of shape) elem cells (out_buffer b) (λ r. wrapped elem (so_far r))

-- with the tile's row
abbrev pub with_row : Shape → (ℕ → ℕ → ℤ) → Tree → (ℕ → ℤ) → ℕ → ℤ
with_row shape leaf tree so_far r = so_far r +ℤ row_sum (values_of leaf tree) (r * shape.cols) shape.cols

pub same_row_sum : (f g : ℕ → ℤ) (i count : ℕ) → ((i : ℕ) → f i ≡ g i) → row_sum f i count ≡ row_sum g i count
same_row_sum f g i zero same = refl
same_row_sum f g i (suc count) same = ap (λ x. x +ℤ row_sum f (i + 1) count) (same i) ∙ ap (λ x. g i +ℤ x) (same_row_sum f g (i + 1) count same)

-- the work leaves the rows' sums of the tree's values in its buffer, and keeps all else
record GivesSums (shape : Shape) (Allowed : ℕ → Type 0) (leaf : ℕ → ℕ → ℤ) (before : List Cell) (work : VecWork) (to : ℕ) (t : Tree) : Type 0 where
  good : IsGood Allowed shape.room work
  holds : (after : List Cell) → IsWhole work before after → Holds (column_of shape) (elem_of t) after to (λ r. wrapped (elem_of t) (row_sum (values_of leaf t) (r * shape.cols) shape.cols))
  keeps : (after : List Cell) → IsWhole work before after → (p : ℕ) → ¬ IsIn (to * shape.room) shape.room p → cell_at after p ≡ cell_at before p

pub le_more : (m n : ℕ) → m ≤ m + n
le_more m n = omega arith

pub column_fits : (shape : Shape) (elem : Elem) → 0 < shape.cols → count_of shape * size_of elem ≤ shape.room → count_of (column_of shape) * size_of elem ≤ shape.room
column_fits shape elem some fits =
    let rows : shape.rows * 1 ≤ shape.rows * shape.cols = mul-le-mul_left shape.rows some in
    let sizes : 1 * shape.rows * size_of elem ≤ shape.rows * shape.cols * size_of elem = mul-le-mul_right (size_of elem) (omega arith) in
    omega arith

module _ (shape : Shape) (b : Buffers) (typing : Typing) (leaf : ℕ → ℕ → ℤ) (first : List Cell) (room : HasRoom shape b typing (length first)) (cells : List Cell) (to : ℕ) (one : IsTileBuffer b to) (behind : b.leaves * 2 + b.slots ≤ to) where
  plain_sum : (kind : VecKind) (a a' : Source) (value_a value_b : ℕ → ℤ) (t : Tree) → IsPlaced shape (IsTileBuffer b) kind.elem to → AreSources shape (IsTileBuffer b) cells kind to a a' value_a value_b
      → kind.acc ≡ true → is_conditional kind.op ≡ false → kind.elem ≡ elem_of t → (a ≡ Buffer to → ⊥) → (a' ≡ Buffer to → ⊥)
      → ((i : ℕ) → result_of kind (value_a i) (value_b i) ≡ values_of leaf t i) → (is_compared t ≡ true → is_comparison kind.op ≡ true)
      → GivesSums shape (IsTileBuffer b) leaf cells (work_of shape kind to a a') to t
  plain_sum kind a a' value_a value_b t placed sources sums plain one_elem a_apart b_apart answers compare = record {
    good = good_sum shape (IsTileBuffer b) cells kind to a a' value_a value_b placed sources sums a_apart b_apart;
    holds = λ after whole.
        let given = gives_sums shape (IsTileBuffer b) cells kind to a a' value_a value_b placed sources sums after whole in
        subst (λ elem. Holds (column_of shape) elem after to (λ r. wrapped elem (row_sum (values_of leaf t) (r * shape.cols) shape.cols))) one_elem
        (record { each = λ r below. spells_as kind.elem after _ _ _ _ (given.each r below) refl (ap (wrapped kind.elem) (same_row_sum (λ i. result_of kind (value_a i) (value_b i)) (values_of leaf t) (r * shape.cols) shape.cols answers)) });
    keeps = keeps_sum shape (IsTileBuffer b) cells kind to a a' value_a value_b placed sources sums;
  }

  arg_apart : (state : State) (arg : Operand) (x : Tree) (asked : Elem) → AreHeld shape b typing leaf first state cells → IsArg state arg x → HasType x typing asked → source_of b arg ≡ Buffer to → ⊥
  arg_apart state arg x asked held is type there = out_apart shape b typing leaf first room cells state arg to behind (buffer_of_arg shape b typing leaf first room cells state arg x asked to held is type there)

  module _ (state : State) (held : AreHeld shape b typing leaf first state cells) where
    no_select : (elem : Elem) (c x y : Tree) (arg_c arg_x arg_y : Operand) → HasType (Select elem c x y) typing elem → AreArgs state (arg_c ∷ arg_x ∷ arg_y ∷ []) (c ∷ x ∷ y ∷ []) → source_of b arg_y ≡ Buffer to
        → GivesSums shape (IsTileBuffer b) leaf cells (op_work shape true tree_op.Select elem elem (source_of b arg_c ∷ source_of b arg_x ∷ source_of b arg_y ∷ []) to) to (Select elem c x y)
    no_select elem c x y arg_c arg_x arg_y type are third =
        let held_x = held_without shape b typing leaf first room cells state arg_c held in
        let held_y = held_without shape b typing leaf first room cells (without state arg_c) arg_x held_x in
        absurd (arg_apart (without (without state arg_c) arg_x) arg_y y elem held_y are.1.1.0 type.4 third)

    sums_given : (step : Step) (tree : Tree) → CanStep b.slots state step tree → HasType tree typing (elem_of tree) → is_select tree ≡ false → GivesSums shape (IsTileBuffer b) leaf cells (step_work shape b true step to) to tree
    sums_given step tree can type root =
        let given = step_gives shape b typing leaf first room cells state held to one true (λ src. src ≡ Buffer to → ⊥) (λ n e. cc) (λ work t. GivesSums shape (IsTileBuffer b) leaf cells work to t)
        plain_sum arg_apart no_select tree step.args can.inner type can.args_are (root_writes shape b typing leaf first room cells state tree step.args to behind root held type can.args_are) in
        rw can.op_is (rw can.elem_is (rw can.from_is given))

module _ (shape : Shape) (b : Buffers) (typing : Typing) (leaf : ℕ → ℕ → ℤ) (first_cells : List Cell) (room : HasRoom shape b typing (length first_cells)) (tree : Tree) (so_far : ℕ → ℤ) (root : is_select tree ≡ false) (has : b.has_partial ≡ true) where
  abbrev Sums : List Cell → Type 0
  Sums after = Holds (column_of shape) (elem_of tree) after (out_buffer b) (λ r. wrapped (elem_of tree) (with_row shape leaf tree so_far r))

  module _ (state : State) (step : Step) (cells : List Cell) (can : CanStep b.slots state step tree) (type : HasType tree typing (elem_of tree)) (held : AreHeld shape b typing leaf first_cells state cells) where
    small : count_of (column_of shape) * size_of (elem_of tree) ≤ shape.room
    small = column_fits shape (elem_of tree) room.some_cols (fits shape b typing leaf first_cells room cells (elem_of tree) (most_of shape b typing leaf first_cells room cells tree can.inner type))

    -- the partial sums join the sums so far
    joins : (middle : List Cell) → Holds (column_of shape) (elem_of tree) middle (out_buffer b) (λ r. wrapped (elem_of tree) (so_far r))
        → Holds (column_of shape) (elem_of tree) middle (partial_buffer b) (λ r. wrapped (elem_of tree) (row_sum (values_of leaf tree) (r * shape.cols) shape.cols))
        → TakesAll (joining_work shape b (elem_of tree) ∷ []) b shape middle Sums
    joins middle out more =
        let kind = two_kind op2.Add (elem_of tree) false false false in
        let before : ℕ → ℤ = λ r. wrapped (elem_of tree) (so_far r) in
        let row : ℕ → ℤ = λ r. wrapped (elem_of tree) (row_sum (values_of leaf tree) (r * shape.cols) shape.cols) in
        let some_rows = room.some_rows in
        let placed : IsPlaced (column_of shape) (IsTileBuffer b) (elem_of tree) (out_buffer b) = record { some_rows = omega arith; some_cols = some_rows; fits = small; one = the_output refl } in
        let sources : AreSources (column_of shape) (IsTileBuffer b) middle kind (out_buffer b) (Buffer (out_buffer b)) (Buffer (partial_buffer b)) before row = record {
          a_scalar = refl;
          b_scalar = λ used. refl;
          a_is = (the_output refl, small, out);
          b_is = λ used. (the_partial has refl, small, more);
          share = λ same. refl;
        } in (
          good (column_of shape) (IsTileBuffer b) middle kind (out_buffer b) (Buffer (out_buffer b)) (Buffer (partial_buffer b)) before row placed sources refl,
          λ after whole.
              let given = gives (column_of shape) (IsTileBuffer b) middle kind (out_buffer b) (Buffer (out_buffer b)) (Buffer (partial_buffer b)) before row placed sources refl after whole refl in
              record { each = λ r below. spells_as (elem_of tree) after _ _ _ _ (given.each r below) refl (op_result kind (before r) (row r) vec_op.Add refl ∙ wrapped-add (elem_of tree) (so_far r) (row_sum (values_of leaf tree) (r * shape.cols) shape.cols)) },
        )

    pub sum_ends : (first : Bool) → HasSoFar shape b (elem_of tree) first so_far first_cells → TakesAll (sum_works shape b first step) b shape cells Sums
    sum_ends true so =
        let given = sums_given shape b typing leaf first_cells room cells (out_buffer b) (the_output refl) (omega arith) state held step tree can type root in (
          given.good,
          λ after whole.
              let holds = given.holds after whole in
              record {
                each = λ r below.
                    let none : so_far r ≡ pos 0 = so.none refl r in
                    let sum = row_sum (values_of leaf tree) (r * shape.cols) shape.cols in
                    let zero_more : pos 0 +ℤ sum ≡ sum = omega (arith, ints) in
                    spells_as (elem_of tree) after _ _ _ _ (holds.each r below) refl (ap (wrapped (elem_of tree)) (sym (ap (λ x. x +ℤ sum) none ∙ zero_more)));
              },
        )
    sum_ends false so =
        let given = sums_given shape b typing leaf first_cells room cells (partial_buffer b) (the_partial has refl) (omega arith) state held step tree can type root in
        let apart : out_buffer b ≢ partial_buffer b = λ e. let half = room.out in omega (arith, e) in (
          given.good,
          λ middle whole.
              let stood : Holds (column_of shape) (elem_of tree) cells (out_buffer b) (λ r. wrapped (elem_of tree) (so_far r)) =
              holds_still (column_of shape) first_cells cells held.long (out_buffer b) (λ p is. held.rest p (behind p is)) (elem_of tree) small (λ r. wrapped (elem_of tree) (so_far r)) (so.some refl) in
              let stands = holds_still (column_of shape) cells middle whole.same_length (out_buffer b) (λ p is. given.keeps middle whole p (rooms_apart shape.room (out_buffer b) (partial_buffer b) p apart is)) (elem_of tree) small (λ r. wrapped (elem_of tree) (so_far r)) stood in
              subst (λ elem. TakesAll (joining_work shape b elem ∷ []) b shape middle Sums) (sym can.elem_is) (joins middle stands (given.holds middle whole)),
        )
      where
        behind : (p : ℕ) → IsIn (out_buffer b * shape.room) shape.room p → (b.leaves * 2 + b.slots) * shape.room ≤ p
        behind p is = let more = mul-le-mul_right shape.room (le_more (b.leaves * 2 + b.slots) b.out_half) in omega (arith, is.begins)
