-- The sources of a step as the code reads them.
use Rattle.std.proofs.Common.{◌≡◌, ℕ, ◌+◌, ◌*◌, ◌^◌, ◌<◌, ◌≤◌, ap, sym, ◌∙◌, refl, arith, List, [], ◌∷◌, length, get_or, map, Bool}
use Rattle.std.proofs.Math.Nat.{mul-le-mul_right}
use Rattle.ven_base.specs.declared.elem.Elem.{Elem}
use Rattle.ven_base.specs.Elem.{size_of}
use Rattle.ven_base.specs.declared.ops.Op1.{Op1}
use Rattle.ven_base.specs.declared.ops.Op1.TheVariants as op1
use Rattle.pass_plan.specs.declared.tree.TreeOp.{TreeOp}
use Rattle.pass_plan.specs.declared.tree.TreeOp.TheVariants as tree_op
use Rattle.buffer_lifetimes.specs.declared.step.Operand.{Operand}
use Rattle.buffer_lifetimes.specs.declared.step.Operand.TheVariants as operand
use Rattle.buffer_lifetimes.specs.Order.{no_operand}
use Rattle.venice_isa.specs.declared.work.VecWork.{VecWork}
use Rattle.venice_isa.proofs.Regions.{item_fits}
use Rattle.vector_codegen.specs.Kind.{conditional_kind}
use Rattle.vector_codegen.specs.Work.{Shape, Source, Buffers, slot_buffer, source_of, is_scalar, work_of, op_work}
use Rattle.vector_codegen.specs.Fit.{buffer_count, IsFitting, FitsSource, HasRowsFitting, IsArgOf, arity_of}
use Rattle.vector_codegen.proofs.Runs.{with_partial}

-- a buffer below the count begins below 2 to the 32
pub buffer_fits : (shape : Shape) (b : Buffers) (k : ℕ) → IsFitting shape b → k < buffer_count b → k * shape.room < 2 ^ 32
buffer_fits shape b k is below = let next = item_fits k (buffer_count b) shape.room below in let all = is.rooms in omega arith

pub source_fits : (shape : Shape) (b : Buffers) (arg : Operand) → IsFitting shape b → IsArgOf b arg → FitsSource shape.room (source_of b arg)
source_fits shape b (operand.Leaf k) is within = let two = with_partial b.has_partial in let half = is.half in buffer_fits shape b (k * 2 + b.in_half) is (omega (arith, within))
source_fits shape b (operand.Literal n) is within = tt
source_fits shape b (operand.Slot s) is within = let two = with_partial b.has_partial in buffer_fits shape b (b.leaves * 2 + s) is (omega (arith, within))

module _ (b : Buffers) where
  pub one_source : (args : List Operand) → length args ≡ 1 → map (source_of b) args ≡ source_of b (get_or args 0 no_operand) ∷ []
  one_source [] is = absurd (omega arith)
  one_source (x ∷ []) is = refl
  one_source (x ∷ y ∷ args) is = absurd (omega arith)

  pub three_sources : (args : List Operand) → length args ≡ 3 → map (source_of b) args ≡ source_of b (get_or args 0 no_operand) ∷ source_of b (get_or args 1 no_operand) ∷ source_of b (get_or args 2 no_operand) ∷ []
  three_sources [] is = absurd (omega arith)
  three_sources (x ∷ []) is = absurd (omega arith)
  three_sources (x ∷ y ∷ []) is = absurd (omega arith)
  three_sources (x ∷ y ∷ z ∷ []) is = refl
  three_sources (x ∷ y ∷ z ∷ w ∷ args) is = absurd (omega arith)

-- the type of the operand says nothing but in a cast
pub same_on_one : (op : Op1) (shape : Shape) (acc : Bool) (elem from : Elem) (a : Source) (to : ℕ) → op_work shape acc (tree_op.One op) elem elem (a ∷ []) to ≡ op_work shape acc (tree_op.One op) elem from (a ∷ []) to
same_on_one op1.Neg shape acc elem from a to = refl
same_on_one op1.Not shape acc elem from a to = refl
same_on_one op1.Abs shape acc elem from a to = refl

-- ---- a step's instruction by its operation and its sources

module _ (shape : Shape) (b : Buffers) (acc : Bool) (elem from : Elem) (args read : List Operand) (to : ℕ) (same : read ≡ args) where
  source_there : (a : Source) (place : ℕ) → a ≡ source_of b (get_or read place no_operand) → source_of b (get_or args place no_operand) ≡ a
  source_there a place is = sym (is ∙ ap (λ xs. source_of b (get_or xs place no_operand)) same)

  pub with_one : (op op' : TreeOp) (a : Source) (work : VecWork) → op ≡ op' → length args ≡ arity_of op → arity_of op' ≡ 1 → a ≡ source_of b (get_or read 0 no_operand)
      → work ≡ op_work shape acc op' elem from (a ∷ []) to → work ≡ op_work shape acc op elem from (map (source_of b) args) to
  with_one op op' a work op_is count one a_is is =
      let sources : map (source_of b) args ≡ a ∷ [] = one_source b args (count ∙ ap arity_of op_is ∙ one) ∙ ap (λ s. s ∷ []) (source_there a 0 a_is) in
      is ∙ ap (λ sources. op_work shape acc op' elem from sources to) (sym sources) ∙ ap (λ op. op_work shape acc op elem from (map (source_of b) args) to) (sym op_is)

  pub with_select : (op : TreeOp) (condition a : Source) (work : VecWork) → op ≡ tree_op.Select → length args ≡ arity_of op → condition ≡ source_of b (get_or read 0 no_operand) → a ≡ source_of b (get_or read 1 no_operand)
      → work ≡ work_of shape (conditional_kind elem (is_scalar a)) to a condition → work ≡ op_work shape acc op elem from (map (source_of b) args) to
  with_select op condition a work op_is count c_is a_is is =
      let y = source_of b (get_or args 2 no_operand) in
      let sources : map (source_of b) args ≡ condition ∷ a ∷ y ∷ [] = three_sources b args (count ∙ ap arity_of op_is) ∙ ap (λ s. s ∷ source_of b (get_or args 1 no_operand) ∷ y ∷ []) (source_there condition 0 c_is) ∙ ap (λ s. condition ∷ s ∷ y ∷ []) (source_there a 1 a_is) in
      is ∙ ap (λ sources. op_work shape acc tree_op.Select elem from sources to) (sym sources) ∙ ap (λ op. op_work shape acc op elem from (map (source_of b) args) to) (sym op_is)

-- ---- rows of a buffer

pub rows_fit : (shape : Shape) (b : Buffers) (elem : Elem) (k : ℕ) → IsFitting shape b → k < buffer_count b → shape.rows * shape.cols * size_of elem ≤ shape.room → HasRowsFitting shape elem k
rows_fit shape b elem k is below wide =
    let next = item_fits k (buffer_count b) shape.room below in
    let all = is.rooms in
    let one : 1 * shape.cols ≤ shape.rows * shape.cols = mul-le-mul_right shape.cols is.some_rows in
    let row : 1 * shape.cols * size_of elem ≤ shape.rows * shape.cols * size_of elem = mul-le-mul_right (size_of elem) one in
    let few = is.few in
    record { few = omega arith; some = is.some_cols; row = omega arith }

pub slot_below : (b : Buffers) (s : ℕ) → s < b.slots → slot_buffer b s < buffer_count b
slot_below b s below = let two = with_partial b.has_partial in omega arith
