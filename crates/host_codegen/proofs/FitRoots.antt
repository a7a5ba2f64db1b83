-- The vector instructions of a tile fit in the host's 32 bits.
use Rattle.std.proofs.Common.{◌≡◌, ℕ, zero, suc, ◌+◌, ◌-◌, ◌*◌, ◌/◌, ◌<◌, ◌≤◌, refl, ap, ◌∙◌, arith, Bool, true, false, cond, eqb, List, [], ◌∷◌, All}
use Rattle.std.specs.Prelude.{map, not, ℤ, pos, negsuc}
use Rattle.std.proofs.lemmas.Bool.{cond_both}
use Rattle.std.proofs.lemmas.List.Elements.{All-nil, All-cons, All-head, All-tail}
use Rattle.std.proofs.lemmas.Nat.{mul-le}
use Rattle.ven_base.specs.declared.elem.Elem.{Elem}
use Rattle.ven_base.specs.declared.elem.Elem.TheVariants.{U8, I8, U16, I16, U32, I32}
use Rattle.ven_base.specs.declared.ops.Fold.TheVariants as fold
use Rattle.ven_base.specs.declared.ops.Op1.TheVariants as op1
use Rattle.ven_base.specs.declared.ops.Op2.{Op2}
use Rattle.ven_base.specs.declared.ops.Op2.TheVariants as op2
use Rattle.ven_base.specs.Elem.{size_of}
use Rattle.venice_isa.specs.declared.kind.VecKind.{VecKind}
use Rattle.venice_isa.specs.Host.{with_number}
use Rattle.pass_plan.specs.declared.parts.Tile.{Tile}
use Rattle.pass_plan.specs.declared.pass.PassKind.{PassKind}
use Rattle.pass_plan.specs.declared.pass.PassKind.TheVariants.{Map, Reduce}
use Rattle.pass_plan.specs.declared.tree.TreeOp.{TreeOp}
use Rattle.pass_plan.specs.declared.tree.TreeOp.TheVariants as tree_op
use Rattle.pass_plan.specs.Pass.{Pass}
use Rattle.pass_plan.specs.Tile.{first_column}
use Rattle.pass_plan.specs.Buffers.{is_map, buffer_bytes, piece_rows, piece_columns}
use Rattle.buffer_lifetimes.specs.declared.step.Operand.{Operand}
use Rattle.buffer_lifetimes.specs.declared.step.Operand.TheVariants as operand
use Rattle.buffer_lifetimes.specs.Step.{Step}
use Rattle.dma_segments.proofs.Lists.{Each}
use Rattle.vector_codegen.specs.Fit.{results_with, IsFitting, IsArgOf}
use Rattle.vector_codegen.specs.Kind.{is_turned, two_kind, move_kind, abs_kind, cast_kind, conditional_kind}
use Rattle.vector_codegen.specs.Work.{slot_buffer, out_buffer, partial_buffer}
use Rattle.vector_codegen.specs.TileList.{tile_shape, tile_buffers}
use Rattle.vector_codegen.proofs.StepCode.{buffer_fits, source_fits, rows_fit, slot_below}
use Rattle.host_programs.specs.Expr.{Expr, Number, Variable, Difference, Product, Quotient, value}
use Rattle.host_programs.specs.Program.{Program, Both, UnlessLess, Let, with_left}
use Rattle.host_programs.specs.ProgramFits.{FitsWord, VectorFits, CarriedFits, ProgramFits}
use Rattle.host_programs.proofs.Blocks.{with_same}
use Rattle.transfer_programs.specs.Axis.{scaled}
use Rattle.transfer_programs.proofs.Axes.{value_scaled}
use Rattle.transfer_programs.proofs.FitExprs.{fits_scaled, fits_plus}
use Rattle.transfer_programs.proofs.FitFills.{word_small}
use Rattle.host_codegen.specs.Geometry.{Layout, layout_of, slot_cell, partial_cell, first_or_later}
use Rattle.host_codegen.specs.StepProgram.{RowsExpr, with_row, row_bytes, SourceExpr, Buffer, Scalar, parameter_expr, is_scalar, nothing, order_with, two_order, op_order, source_expr, step_order}
use Rattle.host_codegen.specs.Sequence.{all_of}
use Rattle.host_codegen.specs.RootProgram.{all_elements, all_rows, one_column, emit, flat_program, row_sums_program, joining_order, joined_sums_program, sum_program, halving_order, halving_turns, halvings_program, last_order, halved_program, first_best_program, best_program, root_program, steps_programs, works_program}
use Rattle.host_codegen.proofs.Sequences.{all_fits}
use Rattle.host_codegen.proofs.StepOrders.{HasRows, row_bytes_value, has_row, row_names, leaf_value}
use Rattle.host_codegen.proofs.RootLists.{HasNames}

-- ---- one instruction

size_small : (elem : Elem) → size_of elem ≤ 4
size_small U8 = omega arith
size_small I8 = omega arith
size_small U16 = omega arith
size_small I16 = omega arith
size_small U32 = omega arith
size_small I32 = omega arith

-- over so many rows of so few elements, which have registers
module _ (rows : RowsExpr) (height width : ℕ) (f : ℕ → ℕ) (has : HasRows rows height width f) (few : width ≤ 1048576) (rows_word : FitsWord rows.rows f) where
  row_word : (elem : Elem) → FitsWord (row_bytes rows elem) f
  row_word elem = (tt, omega (arith, row_bytes_value rows height width f has elem, mul-le width (size_of elem) 1048576 4 few (size_small elem)))

  order_fits : (kind : VecKind) (to : Expr) (a b : SourceExpr) → FitsWord to f → FitsWord (parameter_expr a) f → FitsWord (parameter_expr b) f → VectorFits (order_with rows kind to a b) f
  order_fits kind to a b to_word a_word b_word = record {
    vl = (tt, omega (arith, has.once, few));
    rows = rows_word;
    dst = to_word;
    a = a_word;
    b = b_word;
    dst_step = cond_both kind.acc (Number (size_of kind.elem)) (row_bytes rows kind.elem) (λ e. FitsWord e f) (λ e. (tt, omega (arith, size_small kind.elem))) (λ e. row_word kind.elem);
    a_step = row_word kind.from;
    b_step = row_word kind.elem;
  }

  scalar_word : (n : ℤ) → FitsWord (parameter_expr (Scalar n)) f
  scalar_word n = (tt, word_small n)

  abbrev FitsSource : SourceExpr → Type 0
  FitsSource a = FitsWord (parameter_expr a) f

  module _ (acc : Bool) (elem from : Elem) (to : Expr) (to_word : FitsWord to f) where
    two_fits : (op : Op2) (a b : SourceExpr) → FitsSource a → FitsSource b → VectorFits (two_order rows acc op elem to a b) f
    two_fits op a b a_word b_word = order_fits (two_kind op elem (is_scalar a) (is_scalar b) acc) to a b to_word a_word b_word

    none_fits : VectorFits (order_with rows (move_kind elem true acc) to nothing nothing) f
    none_fits = order_fits (move_kind elem true acc) to nothing nothing to_word (scalar_word (pos 0)) (scalar_word (pos 0))

    op_fits : (op : TreeOp) (xs : List SourceExpr) → Each FitsSource xs → VectorFits (op_order rows acc op elem from xs to) f
    op_fits (tree_op.Two op) [] fits = none_fits
    op_fits (tree_op.Two op) (a ∷ []) fits = none_fits
    op_fits (tree_op.Two op) (a ∷ b ∷ []) fits =
        cond_both (is_turned op) (two_order rows acc op elem to b a) (two_order rows acc op elem to a b) (λ order. VectorFits order f) (λ e. two_fits op b a fits.1.0 fits.0) (λ e. two_fits op a b fits.0 fits.1.0)
    op_fits (tree_op.Two op) (a ∷ b ∷ c ∷ xs) fits = none_fits
    op_fits (tree_op.One op1.Neg) [] fits = none_fits
    op_fits (tree_op.One op1.Not) [] fits = none_fits
    op_fits (tree_op.One op1.Abs) [] fits = none_fits
    op_fits (tree_op.One op1.Neg) (a ∷ []) fits = two_fits op2.Sub (Scalar (pos 0)) a (scalar_word (pos 0)) fits.0
    op_fits (tree_op.One op1.Not) (a ∷ []) fits = two_fits op2.Sub (Scalar (negsuc 0)) a (scalar_word (negsuc 0)) fits.0
    op_fits (tree_op.One op1.Abs) (a ∷ []) fits = order_fits (abs_kind elem (is_scalar a) acc) to a nothing to_word fits.0 (scalar_word (pos 0))
    op_fits (tree_op.One op1.Neg) (a ∷ b ∷ xs) fits = none_fits
    op_fits (tree_op.One op1.Not) (a ∷ b ∷ xs) fits = none_fits
    op_fits (tree_op.One op1.Abs) (a ∷ b ∷ xs) fits = none_fits
    op_fits tree_op.Cast [] fits = none_fits
    op_fits tree_op.Cast (a ∷ []) fits = order_fits (cast_kind elem from (is_scalar a) acc) to a nothing to_word fits.0 (scalar_word (pos 0))
    op_fits tree_op.Cast (a ∷ b ∷ xs) fits = none_fits
    op_fits tree_op.Move [] fits = none_fits
    op_fits tree_op.Move (a ∷ []) fits = order_fits (move_kind elem (is_scalar a) acc) to a nothing to_word fits.0 (scalar_word (pos 0))
    op_fits tree_op.Move (a ∷ b ∷ xs) fits = none_fits
    op_fits tree_op.Select [] fits = none_fits
    op_fits tree_op.Select (c ∷ []) fits = none_fits
    op_fits tree_op.Select (c ∷ x ∷ []) fits = none_fits
    op_fits tree_op.Select (c ∷ x ∷ y ∷ []) fits = order_fits (conditional_kind elem (is_scalar x)) to x c to_word fits.1.0 fits.0
    op_fits tree_op.Select (c ∷ x ∷ y ∷ z ∷ xs) fits = none_fits

-- ---- names for rows

-- a row's length, and twice and four times as much
names_fit : (cols : Expr) (d : ℕ) (p : Program) (f : ℕ → ℕ) → FitsWord cols f → value cols f ≤ 1048576
    → (let f1 = with_number d (value cols f) f in
    let f2 = with_number (d + 1) (f1 d + f1 d) f1 in
    ProgramFits p (d + 1 + 1 + 1) (with_number (d + 1 + 1) (f2 (d + 1) + f2 (d + 1)) f2)) → ProgramFits (with_row cols d p) d f
names_fit cols d p f word few fits =
    let f1 = with_number d (value cols f) f in
    let f2 = with_number (d + 1) (f1 d + f1 d) f1 in
    let once : f1 d ≡ value cols f = with_same f d (value cols f) in
    let twice : f2 (d + 1) ≡ f1 d + f1 d = with_same f1 (d + 1) (f1 d + f1 d) in
    (word, (((tt, tt), omega (arith, once, few)), (((tt, tt), omega (arith, twice, once, few)), fits)))

-- ---- the instructions of a tile

-- the step reads the tile's leaves and slots and writes one of its slots, and its elements fit a buffer
pub record IsGoodStep (pass : Pass) (tile : Tile) (t : ℕ) (step : Step) : Type 0 where
  pub args : All (IsArgOf (tile_buffers pass tile t)) step.args
  pub to : step.to < (tile_buffers pass tile t).slots
  pub wide : piece_rows pass tile t * piece_columns pass tile t * size_of step.elem ≤ buffer_bytes pass tile

module _ (pass : Pass) (tile : Tile) (t : ℕ) (fitting : IsFitting (tile_shape pass tile t) (tile_buffers pass tile t)) (column_small : first_column pass.domain tile t < 4294967296) where
  abbrev layout : Layout
  layout = layout_of pass tile

  abbrev room : ℕ
  room = buffer_bytes pass tile

  abbrev height : ℕ
  height = piece_rows pass tile t

  abbrev width : ℕ
  width = piece_columns pass tile t

  two_results : (has_partial : Bool) → 2 ≤ results_with has_partial
  two_results true = omega arith
  two_results false = omega arith

  -- ---- the sizes of the tile

  few_rows : height ≤ 1048576
  few_rows = let l = mul-le height 1 height width (omega arith) fitting.some_cols in omega (arith, l, fitting.few)

  few_columns : width ≤ 1048576
  few_columns = let l = mul-le 1 width height width fitting.some_rows (omega arith) in omega (arith, l, fitting.few)

  -- ---- cells

  slot_word : (f : ℕ → ℕ) (s : ℕ) → s < (tile_buffers pass tile t).slots → FitsWord (Number (slot_cell layout s)) f
  slot_word f s below = (tt, source_fits (tile_shape pass tile t) (tile_buffers pass tile t) (operand.Slot s) fitting below)

  output_word : (f : ℕ → ℕ) → HasNames pass tile t f → FitsWord (Variable 10) f
  output_word f names =
      let two = two_results (tile_buffers pass tile t).has_partial in
      let below = buffer_fits (tile_shape pass tile t) (tile_buffers pass tile t) (out_buffer (tile_buffers pass tile t)) fitting (omega (arith, two, fitting.out)) in
      (tt, omega (arith, names.output, below))

  partial_word : (f : ℕ → ℕ) → is_map pass.kind ≡ false → FitsWord (Number (partial_cell layout)) f
  partial_word f reduces =
      let three : results_with (tile_buffers pass tile t).has_partial ≡ 3 = ap (λ b. results_with (not b)) reduces in
      (tt, buffer_fits (tile_shape pass tile t) (tile_buffers pass tile t) (partial_buffer (tile_buffers pass tile t)) fitting (omega (arith, three)))

  source_word : (f : ℕ → ℕ) (arg : Operand) → HasNames pass tile t f → IsArgOf (tile_buffers pass tile t) arg → FitsWord (parameter_expr (source_expr layout 8 arg)) f
  source_word f (operand.Leaf number) names within =
      let below = source_fits (tile_shape pass tile t) (tile_buffers pass tile t) (operand.Leaf number) fitting within in
      (fits_plus (Number (number * 2 * room)) (Variable 8) f tt tt, omega (arith, leaf_value pass tile t 8 f names.half number, below))
  source_word f (operand.Literal n) names within = (tt, word_small n)
  source_word f (operand.Slot s) names within = slot_word f s within

  sources_word : (f : ℕ → ℕ) (args : List Operand) → HasNames pass tile t f → All (IsArgOf (tile_buffers pass tile t)) args → Each (λ x. FitsWord (parameter_expr x) f) (map (source_expr layout 8) args)
  sources_word f [] names within = tt
  sources_word f (arg ∷ args) names within = (source_word f arg names (All-head (IsArgOf (tile_buffers pass tile t)) arg args within), sources_word f args names (All-tail (IsArgOf (tile_buffers pass tile t)) arg args within))

  -- ---- steps

  abbrev IsGood : Step → Type 0
  IsGood step = IsGoodStep pass tile t step

  abbrev HasAll : (ℕ → ℕ) → Type 0
  HasAll f = HasRows all_elements 1 (height * width) f

  abbrev HasEach : (ℕ → ℕ) → Type 0
  HasEach f = HasRows all_rows height width f

  step_fits : (rows : RowsExpr) (h w : ℕ) (f : ℕ → ℕ) → HasRows rows h w f → w ≤ 1048576 → FitsWord rows.rows f → (acc : Bool) (step : Step) (to : Expr) → HasNames pass tile t f → IsGood step → FitsWord to f
      → VectorFits (step_order layout 8 rows acc step to) f
  step_fits rows h w f has few rows_word acc step to names good to_word = op_fits rows h w f has few rows_word acc step.elem step.from to to_word step.op (map (source_expr layout 8) step.args) (sources_word f step.args names good.args)

  flat_fits : (d : ℕ) (f : ℕ → ℕ) (step : Step) (to : Expr) → HasNames pass tile t f → HasAll f → IsGood step → FitsWord to f → ProgramFits (flat_program layout step to) d f
  flat_fits d f step to names all good to_word = step_fits all_elements 1 (height * width) f all fitting.few (tt, omega arith) false step to names good to_word

  height_word : (f : ℕ → ℕ) → HasNames pass tile t f → FitsWord (Variable 5) f
  height_word f names = (tt, omega (arith, names.rows, few_rows))

  row_sums_fit : (d : ℕ) (f : ℕ → ℕ) (step : Step) (to : Expr) → HasNames pass tile t f → HasEach f → IsGood step → FitsWord to f → ProgramFits (row_sums_program layout step to) d f
  row_sums_fit d f step to names rows good to_word = step_fits all_rows height width f rows few_columns (height_word f names) true step to names good to_word

  -- one program in a row's first tile, another in a later one
  either_fits : (d : ℕ) (f : ℕ → ℕ) (p q : Program) → f 4 < 4294967296 → ProgramFits p d f → ProgramFits q d f → ProgramFits (first_or_later layout 4 p q) d f
  either_fits d f p q small fits_p fits_q =
      cond_both (eqb layout.per_row 1) p (Both (UnlessLess (Number 0) (Variable 4) p) (UnlessLess (Variable 4) (Number 1) q)) (λ r. ProgramFits r d f) (λ e. fits_p)
      (λ e. (((tt, omega arith), (tt, small), λ a. fits_p), ((tt, small), (tt, omega arith), λ a. fits_q)))

  -- ---- sums

  joined_sums_fit : (f : ℕ → ℕ) (step : Step) → is_map pass.kind ≡ false → HasNames pass tile t f → HasEach f → IsGood step → ProgramFits (joined_sums_program layout step) 17 f
  joined_sums_fit f step reduces names rows good =
      let g = row_names 17 (f 5) f in
      let there : HasNames pass tile t g = record { column = names.column; rows = names.rows; columns = names.columns; half = names.half; output = names.output } in
      let column = has_row one_column 1 height g (f 5) names.rows refl refl refl refl in (
        row_sums_fit 17 f step (Number (partial_cell layout)) names rows good (partial_word f reduces),
        names_fit (Variable 5) 17 (emit (joining_order layout step.elem)) f (height_word f names) (omega (arith, names.rows, few_rows))
            (order_fits one_column 1 height g column few_rows (tt, omega arith) (two_kind op2.Add step.elem false false false) (Variable 10) (Buffer (Variable 10)) (Buffer (Number (partial_cell layout)))
            (output_word g there) (output_word g there) (partial_word g reduces)),
      )

  -- ---- least and greatest values

  row_end : (step : Step) → IsGood step → slot_cell layout step.to + width * size_of step.elem < 4294967296
  row_end step good =
      let rows = rows_fit (tile_shape pass tile t) (tile_buffers pass tile t) step.elem (slot_buffer (tile_buffers pass tile t) step.to) fitting (slot_below (tile_buffers pass tile t) step.to good.to) good.wide in
      omega (arith, rows.row)

  module _ (f : ℕ → ℕ) (names : HasNames pass tile t f) (all : HasAll f) (rows : HasEach f) (step : Step) (good : IsGood step) (least : Bool) where
    abbrev turn_names : (left count : ℕ) → (ℕ → ℕ)
    turn_names left count = with_number 19 (count / 2) (with_left f 17 left count)

    abbrev high : Expr
    high = Difference (Variable 18) (Variable 19)

    halving_fits : (left count : ℕ) → count ≤ width → VectorFits (halving_order layout least step.elem step.to high) (turn_names left count)
    halving_fits left count few =
        let g = turn_names left count in
        let there : HasNames pass tile t g = record { column = names.column; rows = names.rows; columns = names.columns; half = names.half; output = names.output } in
        let rows_there : HasEach g = record { rows_are = rows.rows_are; once = rows.once; twice = rows.twice; four_times = rows.four_times } in
        let step_word = row_word all_rows height width g rows_there few_columns (height_word g there) step.elem in
        let size = size_of step.elem in
        let far : value (scaled high size) g ≡ (count - count / 2) * size = value_scaled high size g in
        let l = mul-le (count - count / 2) size width size (omega (arith, few)) (omega arith) in
        record {
          vl = (tt, omega (arith, few, few_columns));
          rows = height_word g there;
          dst = slot_word g step.to good.to;
          a = slot_word g step.to good.to;
          b = (fits_scaled high size g (tt, tt, omega arith), omega (arith, far, l, row_end step good));
          dst_step = step_word;
          a_step = step_word;
          b_step = step_word;
        }

    -- each turn fits, with how many elements are left at most
    turns_fit : (most n count : ℕ) → most ≤ 2 → count ≤ width
        → CarriedFits n count (λ left carried. value (Difference (Variable 18) (Quotient (Variable 18) (Number 2))) (with_left f 17 left carried))
        (λ left carried. FitsWord (Difference (Variable 18) (Quotient (Variable 18) (Number 2))) (with_left f 17 left carried)
        × ProgramFits (UnlessLess (Variable 18) (Number (most + 1)) (Let (Quotient (Variable 18) (Number 2)) (emit (halving_order layout least step.elem step.to high)))) 19 (with_left f 17 left carried))
    turns_fit most zero count small few = tt
    turns_fit most (suc n) count small few =
        let below : count < 4294967296 = omega (arith, few, few_columns) in (
          (
            ((tt, (tt, tt, below, omega arith, omega arith), omega arith), omega (arith, below)),
            ((tt, below), (tt, omega (arith, small)), λ e. (((tt, tt, below, omega arith, omega arith), omega (arith, below)), halving_fits (suc n) count few)),
          ),
          turns_fit most n (count - count / 2) small (omega (arith, few)),
        )

    halvings_fit : (most : ℕ) → most ≤ 2 → ProgramFits (halvings_program layout least step.elem step.to most) 17 f
    halvings_fit most small =
        ((tt, omega arith), (tt, omega (arith, names.columns, few_columns)), turns_fit most (halving_turns tile.w) (f 6) small (omega (arith, names.columns)))

    last_fits : (first : Bool) → VectorFits (last_order layout least step.elem first step.to) f
    last_fits true =
        let step_word = row_word all_rows height width f rows few_columns (height_word f names) step.elem in
        let size : FitsWord (Number (size_of step.elem)) f = (tt, omega (arith, size_small step.elem)) in
        let one = mul-le 1 (size_of step.elem) width (size_of step.elem) fitting.some_cols (omega arith) in
        record { vl = (tt, omega arith); rows = height_word f names; dst = output_word f names; a = (tt, omega (arith, one, row_end step good)); b = slot_word f step.to good.to; dst_step = size; a_step = step_word; b_step = step_word }
    last_fits false =
        let step_word = row_word all_rows height width f rows few_columns (height_word f names) step.elem in
        let size : FitsWord (Number (size_of step.elem)) f = (tt, omega (arith, size_small step.elem)) in
        record { vl = (tt, omega arith); rows = height_word f names; dst = output_word f names; a = output_word f names; b = slot_word f step.to good.to; dst_step = size; a_step = size; b_step = step_word }

    halved_fits : (first : Bool) → ProgramFits (halved_program layout least first step) 17 f
    halved_fits first = (
      flat_fits 17 f step (Number (slot_cell layout step.to)) names all good (slot_word f step.to good.to),
      (halvings_fit (cond first 2 1) (cond_both first 2 1 (λ n. n ≤ 2) (λ e. omega arith) (λ e. omega arith)), last_fits first),
    )

    best_fits : ProgramFits (best_program layout least step) 17 f
    best_fits =
        let columns : f 6 < 4294967296 = omega (arith, names.columns, few_columns) in
        either_fits 17 f (first_best_program layout least step) (halved_program layout least false step) (omega (arith, names.column, column_small))
        (((tt, omega arith), (tt, columns), λ e. flat_fits 17 f step (Variable 10) names all good (output_word f names)), ((tt, columns), (tt, omega arith), λ e. halved_fits true)) (halved_fits false)

  -- ---- any root

  columns_word : (f : ℕ → ℕ) → HasNames pass tile t f → FitsWord (Variable 6) f
  columns_word f names = (tt, omega (arith, names.columns, few_columns))

  sum_fits : (f : ℕ → ℕ) (step : Step) → is_map pass.kind ≡ false → HasNames pass tile t f → HasEach f → IsGood step → ProgramFits (sum_program layout step) 17 f
  sum_fits f step reduces names rows good =
      either_fits 17 f (row_sums_program layout step (Variable 10)) (joined_sums_program layout step) (omega (arith, names.column, column_small))
      (row_sums_fit 17 f step (Variable 10) names rows good (output_word f names)) (joined_sums_fit f step reduces names rows good)

  module _ (f : ℕ → ℕ) (names : HasNames pass tile t f) (all : HasAll f) where
    -- the registers once the rows' length has a name
    abbrev in_rows : ℕ → ℕ
    in_rows = row_names 14 (f 6) f

    names_in_rows : HasNames pass tile t in_rows
    names_in_rows = record { column = names.column; rows = names.rows; columns = names.columns; half = names.half; output = names.output }

    all_in_rows : HasAll in_rows
    all_in_rows = record { rows_are = refl; once = all.once; twice = all.twice; four_times = all.four_times }

    rows_in_rows : HasEach in_rows
    rows_in_rows = has_row all_rows height width in_rows (f 6) names.columns names.rows refl refl refl

    in_rows_fits : (p : Program) → ProgramFits p 17 in_rows → ProgramFits (with_row (Variable 6) 14 p) 14 f
    in_rows_fits p fits = names_fit (Variable 6) 14 p f (columns_word f names) (omega (arith, names.columns, few_columns)) fits

    root_fits : (kind : PassKind) (step : Step) → pass.kind ≡ kind → IsGood step → ProgramFits (root_program kind layout step) 14 f
    root_fits Map step is good = flat_fits 14 f step (Variable 10) names all good (output_word f names)
    root_fits (Reduce fold.Sum) step is good = in_rows_fits (sum_program layout step) (sum_fits in_rows step (ap is_map is) names_in_rows rows_in_rows good)
    root_fits (Reduce fold.Min) step is good = in_rows_fits (best_program layout true step) (best_fits in_rows names_in_rows all_in_rows rows_in_rows step good true)
    root_fits (Reduce fold.Max) step is good = in_rows_fits (best_program layout false step) (best_fits in_rows names_in_rows all_in_rows rows_in_rows step good false)

    abbrev FitsHere : Program → Type 0
    FitsHere p = ProgramFits p 14 f

    steps_fit : (kind : PassKind) (steps : List Step) → pass.kind ≡ kind → Each IsGood steps → All FitsHere (steps_programs kind layout steps)
    steps_fit kind [] is good = All-nil FitsHere
    steps_fit kind (step ∷ []) is good = All-cons FitsHere (root_program kind layout step) [] (root_fits kind step is good.0) (All-nil FitsHere)
    steps_fit kind (step ∷ next ∷ steps) is good =
        All-cons FitsHere (flat_program layout step (Number (slot_cell layout step.to))) (steps_programs kind layout (next ∷ steps)) (flat_fits 14 f step (Number (slot_cell layout step.to)) names all good.0 (slot_word f step.to good.0.to))
        (steps_fit kind (next ∷ steps) is good.1)

  pub works_fit : (f : ℕ → ℕ) (steps : List Step) → HasNames pass tile t f → Each IsGood steps → ProgramFits (works_program pass.kind layout steps) 11 f
  works_fit f steps names good =
      let count : f 5 * f 6 ≡ height * width = ap (λ m. m * f 6) names.rows ∙ ap (λ m. height * m) names.columns in
      let g = row_names 11 (f 5 * f 6) f in
      let there : HasNames pass tile t g = record { column = names.column; rows = names.rows; columns = names.columns; half = names.half; output = names.output } in
      let all = has_row all_elements 1 (height * width) g (f 5 * f 6) count refl refl refl refl in
      names_fit (Product (Variable 5) (Variable 6)) 11 (all_of (steps_programs pass.kind layout steps)) f ((tt, tt), omega (arith, count, fitting.few)) (omega (arith, count, fitting.few))
      (all_fits (steps_programs pass.kind layout steps) 14 g (steps_fit g there all pass.kind steps refl good))
