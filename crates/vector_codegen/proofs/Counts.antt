-- How many instructions and beats the steps and fills of a tile take.
use Rattle.std.proofs.Common.{◌≡◌, ℕ, ◌+◌, ◌-◌, ◌*◌, ◌<◌, ◌≤◌, inl, inr, ap, sym, ◌∙◌, subst, refl, arith, List, [], ◌∷◌, ◌++◌, length, length-append, Bool, true, false, map}
use Rattle.std.proofs.Math.Nat.{mul-le-mul_left, mul-le-mul_right}
use Rattle.std.proofs.lemmas.Bool.{cases_Bool, cond-true, cond-false}
use Rattle.ven_base.specs.declared.elem.Elem.{Elem}
use Rattle.ven_base.specs.declared.ops.Op1.TheVariants as op1
use Rattle.venice_isa.specs.declared.work.VecWork.{VecWork}
use Rattle.venice_isa.specs.Beat.{vector_beats, beats_of_row, lane_group_items}
use Rattle.venice_isa.proofs.Beats.{some_group}
use Rattle.venice_isa.proofs.Counts.{begin_before_end, some_beats}
use Rattle.pass_plan.specs.declared.tree.TreeOp.{TreeOp}
use Rattle.pass_plan.specs.declared.tree.TreeOp.TheVariants as tree_op
use Rattle.buffer_lifetimes.specs.Step.{Step}
use Rattle.dma_segments.specs.declared.segments.Fill.{Fill}
use Rattle.vector_codegen.specs.Work.{Shape, Source, Buffers, op_work, two_work, step_work, slot_buffer, out_buffer, partial_buffer, source_of}
use Rattle.vector_codegen.specs.Kind.{is_turned}
use Rattle.vector_codegen.specs.Root.{joining_work, sum_works}
use Rattle.vector_codegen.specs.TileList.{fill_work, works_with}
use Rattle.vector_codegen.specs.Count.{vector_beats_of_all, AreAtMost}
use Rattle.vector_codegen.proofs.Held.{count_of}

-- no fill is empty, and together they have at most so many elements
abbrev pub HasElements : List Fill → ℕ → Type 0
HasElements [] most = Unit {0}
HasElements (fill ∷ fills) most = (0 < fill.rows) × (0 < fill.cols) × (rest : ℕ) × (fill.rows * fill.cols + rest ≤ most) × HasElements fills rest

-- a work takes at most one beat an element
pub few_beats : (work : VecWork) (lanes : ℕ) → 0 < lanes → 0 < work.vl → vector_beats work lanes ≤ work.rows * work.vl
few_beats work lanes some columns =
    let group = lane_group_items work.kind lanes in
    let positive = some_group work lanes some in
    let beats = beats_of_row work.vl group in
    let one = some_beats work.vl group columns positive in
    let last = begin_before_end work.vl group columns positive (beats - 1) (omega arith) in
    let wide : (beats - 1) * 1 ≤ (beats - 1) * group = mul-le-mul_left (beats - 1) positive in
    mul-le-mul_left work.rows (omega arith)

-- a step's work has the tile's rows and columns
record HasShape (shape : Shape) (work : VecWork) : Type 0 where
  rows : work.rows ≡ shape.rows
  columns : work.vl ≡ shape.cols

op_shape : (op : TreeOp) (sources : List Source) (shape : Shape) (acc : Bool) (elem from : Elem) (to : ℕ) → HasShape shape (op_work shape acc op elem from sources to)
op_shape (tree_op.Two op) (a ∷ b ∷ []) shape acc elem from to =
    elim (cases_Bool (is_turned op)) [
      | inl turned ↦ subst (λ work. HasShape shape work) (sym (cond-true (is_turned op) (two_work shape acc op elem to b a) (two_work shape acc op elem to a b) turned)) (record { rows = refl; columns = refl })
      | inr straight ↦ subst (λ work. HasShape shape work) (sym (cond-false (is_turned op) (two_work shape acc op elem to b a) (two_work shape acc op elem to a b) straight)) (record { rows = refl; columns = refl })
    ]
op_shape (tree_op.One op1.Neg) (a ∷ []) shape acc elem from to = record { rows = refl; columns = refl }
op_shape (tree_op.One op1.Not) (a ∷ []) shape acc elem from to = record { rows = refl; columns = refl }
op_shape (tree_op.One op1.Abs) (a ∷ []) shape acc elem from to = record { rows = refl; columns = refl }
op_shape tree_op.Cast (a ∷ []) shape acc elem from to = record { rows = refl; columns = refl }
op_shape tree_op.Move (a ∷ []) shape acc elem from to = record { rows = refl; columns = refl }
op_shape tree_op.Select (c ∷ x ∷ y ∷ []) shape acc elem from to = record { rows = refl; columns = refl }
op_shape _ _ shape acc elem from to = record { rows = refl; columns = refl }

module _ (shape : Shape) (b : Buffers) (lanes : ℕ) (some_rows : 0 < shape.rows) (some_cols : 0 < shape.cols) (some : 0 < lanes) where
  pub some_elements : 1 ≤ count_of shape
  some_elements = let more : 1 * 1 ≤ shape.rows * 1 = mul-le-mul_right 1 some_rows in let wide : shape.rows * 1 ≤ shape.rows * shape.cols = mul-le-mul_left shape.rows some_cols in omega arith

  pub step_beats : (acc : Bool) (step : Step) (to : ℕ) → vector_beats (step_work shape b acc step to) lanes ≤ count_of shape
  step_beats acc step to =
      let is = op_shape step.op (map (source_of b) step.args) shape acc step.elem step.from to in
      let few = few_beats (step_work shape b acc step to) lanes some (rw is.columns some_cols) in
      let size : (step_work shape b acc step to).rows * (step_work shape b acc step to).vl ≡ count_of shape = ap (λ rows. rows * (step_work shape b acc step to).vl) is.rows ∙ ap (λ cols. shape.rows * cols) is.columns in
      omega (arith, few, size)

  pub nothing_more : (most : ℕ) → AreAtMost [] lanes most
  nothing_more most = record { count = omega arith; beats = omega arith }

  pub one_more : (work : VecWork) (works : List VecWork) (m more : ℕ) → 1 ≤ m → vector_beats work lanes ≤ m → AreAtMost works lanes more → AreAtMost (work ∷ works) lanes (m + more)
  one_more work works m more some_m few rest = let c = rest.count in let bs = rest.beats in record { count = omega arith; beats = omega arith }

  beats_both : (works works' : List VecWork) → vector_beats_of_all (works ++ works') lanes ≡ vector_beats_of_all works lanes + vector_beats_of_all works' lanes
  beats_both [] works' = omega arith
  beats_both (work ∷ works) works' = let rest = beats_both works works' in omega arith

  pub both : (works works' : List VecWork) (m m' : ℕ) → AreAtMost works lanes m → AreAtMost works' lanes m' → AreAtMost (works ++ works') lanes (m + m')
  both works works' m m' first second =
      let c = first.count in
      let bs = first.beats in
      let c' = second.count in
      let bs' = second.beats in
      record { count = omega (arith, length-append works works'); beats = omega (arith, beats_both works works') }

  pub within : (works : List VecWork) (m m' : ℕ) → m ≤ m' → AreAtMost works lanes m → AreAtMost works lanes m'
  within works m m' less most = let c = most.count in let bs = most.beats in record { count = omega arith; beats = omega arith }

  pub fills_few : (fills : List Fill) (most : ℕ) → HasElements fills most → AreAtMost (map fill_work fills) lanes most
  fills_few [] most has = nothing_more most
  fills_few (fill ∷ fills) most has =
      let few = few_beats (fill_work fill) lanes some has.1 in
      let size : 1 * 1 ≤ fill.rows * 1 = mul-le-mul_right 1 has.0 in
      let sizes : fill.rows * 1 ≤ fill.rows * fill.cols = mul-le-mul_left fill.rows has.1 in
      within (map fill_work (fill ∷ fills)) (fill.rows * fill.cols + has.2) most has.3
      (one_more (fill_work fill) (map fill_work fills) (fill.rows * fill.cols) has.2 (omega arith) few (fills_few fills has.2 has.4))

  -- each step has one work, the last so many more
  pub steps_few : (root : Step → List VecWork) (more : ℕ) → ((step : Step) → AreAtMost (root step) lanes (count_of shape * (1 + more))) → (steps : List Step) → AreAtMost (works_with root shape b steps) lanes (count_of shape * (length steps + more))
  steps_few root more few [] = nothing_more (count_of shape * (0 + more))
  steps_few root more few (step ∷ []) = few step
  steps_few root more few (step ∷ next ∷ steps) =
      let rest = steps_few root more few (next ∷ steps) in
      let split : count_of shape + count_of shape * (length (next ∷ steps) + more) ≤ count_of shape * (length (step ∷ next ∷ steps) + more) = omega arith in
      within (works_with root shape b (step ∷ next ∷ steps)) (count_of shape + count_of shape * (length (next ∷ steps) + more)) (count_of shape * (length (step ∷ next ∷ steps) + more)) split
      (one_more (step_work shape b false step (slot_buffer b step.to)) (works_with root shape b (next ∷ steps)) (count_of shape) (count_of shape * (length (next ∷ steps) + more)) some_elements (step_beats false step (slot_buffer b step.to)) rest)

  pub sum_few : (first : Bool) (step : Step) → AreAtMost (sum_works shape b first step) lanes (count_of shape * (1 + 1))
  sum_few true step = let few = step_beats true step (out_buffer b) in let one = some_elements in record { count = omega arith; beats = omega arith }
  sum_few false step =
      let few = step_beats true step (partial_buffer b) in
      let one = some_elements in
      let join = joining_work shape b step.elem in
      let few' = few_beats join lanes some some_rows in
      let wide : shape.rows * 1 ≤ shape.rows * shape.cols = mul-le-mul_left shape.rows some_cols in
      let all : vector_beats (step_work shape b true step (partial_buffer b)) lanes + (vector_beats join lanes + 0) ≤ count_of shape * (1 + 1) = omega arith in
      record { count = omega arith; beats = all }
