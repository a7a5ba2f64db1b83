-- The instructions of a tile's root, by the kind of its pass.
use Rattle.std.specs.Prelude.{ℕ, zero, suc, ◌+◌, ◌-◌, ◌*◌, ◌/◌, Bool, true, false, List, [], ◌∷◌, ◌++◌, nat_le, if◌then◌else◌}
use Rattle.ven_base.specs.declared.elem.Elem.{Elem}
use Rattle.ven_base.specs.declared.ops.Op2.{Op2}
use Rattle.ven_base.specs.declared.ops.Op2.TheVariants as op2
use Rattle.ven_base.specs.declared.ops.Fold.TheVariants as fold
use Rattle.ven_base.specs.Elem.{size_of}
use Rattle.venice_isa.specs.declared.work.VecWork.{VecWork}
use Rattle.pass_plan.specs.declared.pass.PassKind.{PassKind}
use Rattle.pass_plan.specs.declared.pass.PassKind.TheVariants.{Map, Reduce}
use Rattle.buffer_lifetimes.specs.Step.{Step}
use Rattle.vector_codegen.specs.Kind.{two_kind}
use Rattle.vector_codegen.specs.Work.{Shape, flat, column_of, Buffer, work_of, Buffers, slot_buffer, out_buffer, partial_buffer, step_work}

-- ---- sums

-- the partial sums of a later tile join the results so far
abbrev pub joining_work : Shape → Buffers → Elem → VecWork
joining_work shape b elem =
    work_of (column_of shape) (two_kind op2.Add elem false false false) (out_buffer b) (Buffer (out_buffer b))
    (Buffer (partial_buffer b))

-- a row's first tile sets its results, a later one adds its own to them
abbrev pub sum_works : Shape → Buffers → (first : Bool) → Step → List VecWork
sum_works shape b first step =
    if first
    then step_work shape b true step (out_buffer b) ∷ []
    else step_work shape b true step (partial_buffer b) ∷ joining_work shape b step.elem ∷ []

-- ---- least and greatest values

-- the operation that takes the least of two, or the greatest
abbrev pub better_of : (least : Bool) → Op2
better_of true = op2.Min
better_of false = op2.Max

-- the first `low` elements of each row meet those from `high` on
abbrev pub halving_work : Shape → (least : Bool) → Elem → (buffer low high : ℕ) → VecWork
halving_work shape least elem buffer low high = record {
  kind = two_kind (better_of least) elem false false false;
  vl = low;
  rows = shape.rows;
  dst = buffer * shape.room;
  a = buffer * shape.room;
  b = buffer * shape.room + high * size_of elem;
  dst_step = shape.cols * size_of elem;
  a_step = shape.cols * size_of elem;
  b_step = shape.cols * size_of elem;
}

-- rows of `count` elements are halved until at most `left` are left; in at most so many turns
abbrev pub halvings : (turns : ℕ) → Shape → (least : Bool) → Elem → (buffer left count : ℕ) → List VecWork
halvings zero shape least elem buffer left count = []
halvings (suc turns) shape least elem buffer left count =
    if nat_le count left
    then []
    else halving_work shape least elem buffer (count / 2) (count - count / 2)
    ∷ halvings turns shape least elem buffer left (count - count / 2)

-- of each row the first element meets the second, and the result is set; or it meets the result so far
abbrev pub last_work : Shape → (least : Bool) → Elem → (first : Bool) → (from to : ℕ) → VecWork
last_work shape least elem first from to = record {
  kind = two_kind (better_of least) elem false false false;
  vl = 1;
  rows = shape.rows;
  dst = to * shape.room;
  a = if first then from * shape.room + size_of elem else to * shape.room;
  b = from * shape.room;
  dst_step = size_of elem;
  a_step = if first then shape.cols * size_of elem else size_of elem;
  b_step = shape.cols * size_of elem;
}

-- the rows' values in a slot are halved: to two in a row's first tile, else to one
abbrev pub halved_works : Shape → Buffers → (least first : Bool) → Step → List VecWork
halved_works shape b least first step =
    step_work (flat shape) b false step (slot_buffer b step.to)
    ∷ (halvings shape.cols shape least step.elem (slot_buffer b step.to) (if first then 2 else 1) shape.cols
    ++ last_work shape least step.elem first (slot_buffer b step.to) (out_buffer b) ∷ [])

-- rows of one element in a row's first tile are their own results
abbrev pub best_works : Shape → Buffers → (least first : Bool) → Step → List VecWork
best_works shape b least true step =
    if nat_le shape.cols 1
    then step_work (flat shape) b false step (out_buffer b) ∷ []
    else halved_works shape b least true step
best_works shape b least false step = halved_works shape b least false step

-- ---- any root

-- `first` says whether the tile is its rows' first
abbrev pub root_works : PassKind → Shape → Buffers → (first : Bool) → Step → List VecWork
root_works Map shape b first step = step_work (flat shape) b false step (out_buffer b) ∷ []
root_works (Reduce fold.Sum) shape b first step = sum_works shape b first step
root_works (Reduce fold.Min) shape b first step = best_works shape b true first step
root_works (Reduce fold.Max) shape b first step = best_works shape b false first step
