-- A lawful step keeps what the buffers hold.
use Rattle.std.proofs.Common.{◌≡◌, ◌≢◌, ℕ, ◌+◌, ◌*◌, ◌<◌, ◌≤◌, inl, inr, ap, sym, ◌∙◌, subst, refl, arith, List, [], ◌∷◌, length, Bool, true, false, ℤ}
use Rattle.std.specs.Prelude.{map, get_or, Some, None}
use Rattle.std.proofs.Math.Nat.{mul-le-mul_left}
use Rattle.std.proofs.lemmas.Bool.{cases_eq, false≢true}
use Rattle.ven_base.specs.declared.elem.Elem.{Elem}
use Rattle.ven_base.specs.Elem.{size_of}
use Rattle.ven_base.specs.Cell.{Cell}
use Rattle.ven_base.proofs.Wrapped.{wrapped_in}
use Rattle.venice_isa.specs.declared.work.VecWork.{VecWork}
use Rattle.venice_isa.specs.declared.kind.VecKind.{VecKind}
use Rattle.venice_isa.specs.Cell.{cell_at}
use Rattle.venice_isa.specs.Mode.{is_conditional, is_comparison}
use Rattle.venice_isa.specs.Answer.{result_of}
use Rattle.venice_isa.specs.Whole.{IsWhole}
use Rattle.venice_isa.proofs.Regions.{item_fits}
use Rattle.pass_plan.specs.declared.tree.TreeOp.{TreeOp}
use Rattle.pass_plan.specs.declared.tree.TreeOp.TheVariants as tree_op
use Rattle.pass_plan.specs.Tree.{AtLeaf, Literal, One, Two, Move, Select, Cast, op_of, elem_of, from_of, operands_of, is_computed}
use Rattle.pass_plan.specs.Normal.{is_comparison as is_compared}
use Rattle.buffer_lifetimes.specs.declared.step.Operand.{Operand}
use Rattle.buffer_lifetimes.specs.declared.step.Operand.TheVariants as operand
use Rattle.buffer_lifetimes.specs.Step.{Tree, Step}
use Rattle.buffer_lifetimes.specs.Order.{State, IsArg, without, without_all, AreArgs, no_operand, KeepsPlace, CanStep, after_step}
use Rattle.buffer_lifetimes.proofs.Slots.{put_same, put_other, none_some, some_same}
use Rattle.vector_codegen.specs.Work.{Shape, Source, Buffer, Scalar, op_work, work_of, Buffers, leaf_buffer, slot_buffer, source_of, step_work}
use Rattle.vector_codegen.proofs.Good.{IsIn, IsTileBuffer, a_leaf, a_slot}
use Rattle.vector_codegen.proofs.Held.{Typing, HasType, count_of, Holds, AreHeld, values_of, HasRoom, Takes}
use Rattle.vector_codegen.proofs.Blocks.{rooms_apart, holds_still, flagged_still}
use Rattle.vector_codegen.proofs.Works.{IsSource, IsPlaced, AreSources}
use Rattle.vector_codegen.proofs.Operations.{GivesTree, plain_tree, gives_one, gives_two, gives_cast, gives_move, gives_select}

pub size_positive_fits : (shape : Shape) (size most : ℕ) → size ≤ most → count_of shape * most ≤ shape.room → count_of shape * size ≤ shape.room
size_positive_fits shape size most small fits = let less = mul-le-mul_left (count_of shape) small in omega arith

module _ (shape : Shape) (b : Buffers) (typing : Typing) (leaf : ℕ → ℕ → ℤ) (first : List Cell) (room : HasRoom shape b typing (length first)) (cells : List Cell) where
  -- a slot that was read is read no more
  pub held_without : (state : State) (arg : Operand) → AreHeld shape b typing leaf first state cells → AreHeld shape b typing leaf first (without state arg) cells
  held_without state (operand.Leaf k) held = held
  held_without state (operand.Literal n) held = held
  held_without state (operand.Slot s) held = record {
    long = held.long;
    rest = held.rest;
    leaves = held.leaves;
    slots = λ k t is. elim (cases_eq k s) [
      | inl same ↦ absurd (none_some t (sym (put_same state s None k same) ∙ is))
      | inr other ↦ held.slots k t (sym (put_other state s None k other) ∙ is)
    ];
  }

  pub held_without_all : (state : State) (args : List Operand) → AreHeld shape b typing leaf first state cells → AreHeld shape b typing leaf first (without_all state args) cells
  held_without_all state [] held = held
  held_without_all state (arg ∷ args) held = held_without_all (without state arg) args (held_without state arg held)

  pub fits : (elem : Elem) → size_of elem ≤ typing.most → count_of shape * size_of elem ≤ shape.room
  fits elem small = size_positive_fits shape (size_of elem) typing.most small room.fits

  -- a slot with a tree is a source of its values
  slot_is : (state : State) (t : Tree) (asked : Elem) (s : ℕ) → AreHeld shape b typing leaf first state cells → elem_of t ≡ asked → size_of asked ≤ typing.most → state s ≡ Some t → IsSource (Buffer (slot_buffer b s)) shape (IsTileBuffer b) cells asked (values_of leaf t)
  slot_is state t asked s held elem small is =
      let there = held.slots s t is in
      (a_slot s there.0 refl, fits asked small, subst (λ e. Holds shape e cells (slot_buffer b s) (values_of leaf t)) elem there.2.numbers)

  -- an argument is a source of its operand's values
  pub operand_is : (state : State) (arg : Operand) (t : Tree) (asked : Elem) → AreHeld shape b typing leaf first state cells → IsArg state arg t → HasType t typing asked → IsSource (source_of b arg) shape (IsTileBuffer b) cells asked (values_of leaf t)
  operand_is state arg (AtLeaf k) asked held is type =
      let below : k < b.leaves = omega (arith, type.0, room.one_count) in
      rw is (a_leaf k below refl, fits asked type.2, subst (λ e. Holds shape e cells (leaf_buffer b k) (λ i. leaf i k)) type.1 (held.leaves k type.0))
  operand_is state arg (Literal n) asked held is type = rw is (λ i. sym (wrapped_in asked n type))
  operand_is state arg (One op elem x) asked held is type = rw is.1 (slot_is state (One op elem x) asked is.0 held type.0 (subst (λ e. size_of e ≤ typing.most) type.0 type.1) is.2)
  operand_is state arg (Two op elem x y) asked held is type = rw is.1 (slot_is state (Two op elem x y) asked is.0 held type.0 (subst (λ e. size_of e ≤ typing.most) type.0 type.1) is.2)
  operand_is state arg (Cast elem from x) asked held is type = rw is.1 (slot_is state (Cast elem from x) asked is.0 held type.0 (subst (λ e. size_of e ≤ typing.most) type.0 type.1) is.2)
  operand_is state arg (Move elem x) asked held is type = rw is.1 (slot_is state (Move elem x) asked is.0 held type.0 (subst (λ e. size_of e ≤ typing.most) type.0 type.1) is.2)
  operand_is state arg (Select elem c x y) asked held is type = rw is.1 (slot_is state (Select elem c x y) asked is.0 held type.0 (subst (λ e. size_of e ≤ typing.most) type.0 type.1) is.2)

  -- where a step may write: a select where its third operand stands, a size-changing cast not where its operand stands
  abbrev pub MayWrite : TreeOp → Elem → Elem → List Operand → ℕ → Type 0
  MayWrite tree_op.Select elem from args to = source_of b (get_or args 2 no_operand) ≡ Buffer to
  MayWrite tree_op.Cast elem from args to = source_of b (get_or args 0 no_operand) ≡ Buffer to → size_of from ≡ size_of elem
  MayWrite _ elem from args to = Unit {0}

  placed : (elem : Elem) (to : ℕ) → size_of elem ≤ typing.most → IsTileBuffer b to → IsPlaced shape (IsTileBuffer b) elem to
  placed elem to small one = record { some_rows = room.some_rows; some_cols = room.some_cols; fits = fits elem small; one = one }

  module _ (state : State) (held : AreHeld shape b typing leaf first state cells) (to : ℕ) (one : IsTileBuffer b to) where
    -- the condition of a select
    select_gives : (elem : Elem) (c x y : Tree) (arg_c arg_x arg_y : Operand) → HasType (Select elem c x y) typing elem → AreArgs state (arg_c ∷ arg_x ∷ arg_y ∷ []) (c ∷ x ∷ y ∷ []) → source_of b arg_y ≡ Buffer to
        → GivesTree shape (IsTileBuffer b) leaf cells (op_work shape false tree_op.Select elem elem (source_of b arg_c ∷ source_of b arg_x ∷ source_of b arg_y ∷ []) to) to (Select elem c x y)
    select_gives elem (Two op e l r) x y arg_c arg_x arg_y type are third =
        let held_x = held_without state arg_c held in
        let held_y = held_without (without state arg_c) arg_x held_x in
        let a_is = operand_is (without state arg_c) arg_x x elem held_x are.1.0 type.3 in
        let y_is = operand_is (without (without state arg_c) arg_x) arg_y y elem held_y are.1.1.0 type.4 in
        let y_held : IsSource (Buffer to) shape (IsTileBuffer b) cells elem (values_of leaf y) = rw third at y_is in
        let s = are.0.0 in
        let there = held.slots s (Two op e l r) are.0.2 in
        let given = gives_select shape (IsTileBuffer b) leaf cells to e (placed e to type.2.1 one) op l r x y (slot_buffer b s) (source_of b arg_x) type.5 (a_slot s there.0 refl) there.2 (subst (λ elem. IsSource (source_of b arg_x) shape (IsTileBuffer b) cells elem (values_of leaf x)) (sym type.2.0) a_is) (subst (λ elem. Holds shape elem cells to (values_of leaf y)) (sym type.2.0) y_held.2) in
        let moved = subst (λ e'. GivesTree shape (IsTileBuffer b) leaf cells (op_work shape false tree_op.Select e' e' (Buffer (slot_buffer b s) ∷ source_of b arg_x ∷ Buffer to ∷ []) to) to (Select e' (Two op e l r) x y)) type.2.0 given in
        subst (λ src. GivesTree shape (IsTileBuffer b) leaf cells (op_work shape false tree_op.Select elem elem (src ∷ source_of b arg_x ∷ source_of b arg_y ∷ []) to) to (Select elem (Two op e l r) x y)) (sym (ap (source_of b) are.0.1)) moved
    select_gives elem (AtLeaf k) x y arg_c arg_x arg_y type are third = absurd (false≢true type.5)
    select_gives elem (Literal n) x y arg_c arg_x arg_y type are third = absurd (false≢true type.5)
    select_gives elem (One op e l) x y arg_c arg_x arg_y type are third = absurd (false≢true type.5)
    select_gives elem (Cast e from l) x y arg_c arg_x arg_y type are third = absurd (false≢true type.5)
    select_gives elem (Move e l) x y arg_c arg_x arg_y type are third = absurd (false≢true type.5)
    select_gives elem (Select e l m n) x y arg_c arg_x arg_y type are third = absurd (false≢true type.5)

  -- a step's work, said of any kind of outcome: with accumulate or without
  module _ (state : State) (held : AreHeld shape b typing leaf first state cells) (to : ℕ) (one : IsTileBuffer b to) (acc : Bool) (May : Source → Type 0) (may_scalar : (n : ℤ) → May (Scalar n)) (Outcome : VecWork → Tree → Type 0)
      (plain : (kind : VecKind) (a a' : Source) (value_a value_b : ℕ → ℤ) (t : Tree) → IsPlaced shape (IsTileBuffer b) kind.elem to → AreSources shape (IsTileBuffer b) cells kind to a a' value_a value_b
      → kind.acc ≡ acc → is_conditional kind.op ≡ false → kind.elem ≡ elem_of t → May a → May a'
      → ((i : ℕ) → result_of kind (value_a i) (value_b i) ≡ values_of leaf t i) → (is_compared t ≡ true → is_comparison kind.op ≡ true)
      → Outcome (work_of shape kind to a a') t)
      (may_arg : (state : State) (arg : Operand) (x : Tree) (asked : Elem) → AreHeld shape b typing leaf first state cells → IsArg state arg x → HasType x typing asked → May (source_of b arg))
      (select : (elem : Elem) (c x y : Tree) (arg_c arg_x arg_y : Operand) → HasType (Select elem c x y) typing elem → AreArgs state (arg_c ∷ arg_x ∷ arg_y ∷ []) (c ∷ x ∷ y ∷ []) → source_of b arg_y ≡ Buffer to
      → Outcome (op_work shape acc tree_op.Select elem elem (source_of b arg_c ∷ source_of b arg_x ∷ source_of b arg_y ∷ []) to) (Select elem c x y)) where
    pub step_gives : (t : Tree) (args : List Operand) → is_computed t ≡ true → HasType t typing (elem_of t) → AreArgs state args (operands_of t) → MayWrite (op_of t) (elem_of t) (from_of t) args to
        → Outcome (op_work shape acc (op_of t) (elem_of t) (from_of t) (map (source_of b) args) to) t
    step_gives (AtLeaf k) args inner type are may = absurd (false≢true inner)
    step_gives (Literal n) args inner type are may = absurd (false≢true inner)
    step_gives (One op elem x) (arg ∷ []) inner type are may = gives_one shape (IsTileBuffer b) leaf cells to acc May may_scalar Outcome plain elem (placed elem to type.1 one) x (source_of b arg) (operand_is state arg x elem held are.0 type.2) (may_arg state arg x elem held are.0 type.2) op
    step_gives (One op elem x) [] inner type are may = absurd are
    step_gives (One op elem x) (arg ∷ more ∷ args) inner type are may = absurd are.1
    step_gives (Move elem x) (arg ∷ []) inner type are may = gives_move shape (IsTileBuffer b) leaf cells to acc May may_scalar Outcome plain elem (placed elem to type.1 one) x (source_of b arg) (operand_is state arg x elem held are.0 type.2) (may_arg state arg x elem held are.0 type.2)
    step_gives (Move elem x) [] inner type are may = absurd are
    step_gives (Move elem x) (arg ∷ more ∷ args) inner type are may = absurd are.1
    step_gives (Cast elem from x) (arg ∷ []) inner type are may = gives_cast shape (IsTileBuffer b) leaf cells to acc May may_scalar Outcome plain elem (placed elem to type.1 one) from x (source_of b arg) (operand_is state arg x from held are.0 type.2) may (may_arg state arg x from held are.0 type.2)
    step_gives (Cast elem from x) [] inner type are may = absurd are
    step_gives (Cast elem from x) (arg ∷ more ∷ args) inner type are may = absurd are.1
    step_gives (Two op elem x y) (arg ∷ arg' ∷ []) inner type are may =
        gives_two shape (IsTileBuffer b) leaf cells to acc May may_scalar Outcome plain elem (placed elem to type.1 one) x (source_of b arg) (operand_is state arg x elem held are.0 type.2) (may_arg state arg x elem held are.0 type.2)
        y (source_of b arg') (operand_is (without state arg) arg' y elem (held_without state arg held) are.1.0 type.3) (may_arg (without state arg) arg' y elem (held_without state arg held) are.1.0 type.3) op
    step_gives (Two op elem x y) [] inner type are may = absurd are
    step_gives (Two op elem x y) (arg ∷ []) inner type are may = absurd are.1
    step_gives (Two op elem x y) (arg ∷ arg' ∷ more ∷ args) inner type are may = absurd are.1.1
    step_gives (Select elem c x y) (arg_c ∷ arg_x ∷ arg_y ∷ []) inner type are may = select elem c x y arg_c arg_x arg_y type are may
    step_gives (Select elem c x y) [] inner type are may = absurd are
    step_gives (Select elem c x y) (arg ∷ []) inner type are may = absurd are.1
    step_gives (Select elem c x y) (arg ∷ arg' ∷ []) inner type are may = absurd are.1.1
    step_gives (Select elem c x y) (arg ∷ arg' ∷ arg'' ∷ more ∷ args) inner type are may = absurd are.1.1.1

  -- ---- the step as a whole

  -- a leaf's buffer is no slot's, and slots have buffers of their own
  pub leaf_apart : (k s : ℕ) → k < typing.leaves → leaf_buffer b k ≢ slot_buffer b s
  leaf_apart k s below same = let half = room.half in let count = room.one_count in omega arith

  pub most_of : (t : Tree) → is_computed t ≡ true → HasType t typing (elem_of t) → size_of (elem_of t) ≤ typing.most
  most_of (AtLeaf k) inner type = absurd (false≢true inner)
  most_of (Literal n) inner type = absurd (false≢true inner)
  most_of (One op elem x) inner type = type.1
  most_of (Two op elem x y) inner type = type.1
  most_of (Cast elem from x) inner type = type.1
  most_of (Move elem x) inner type = type.1
  most_of (Select elem c x y) inner type = type.1

  -- where the buffer of an argument is
  pub data IsBufferOf (state : State) (arg : Operand) (k : ℕ) : Type 0 where
    of_leaf : (j : ℕ) → j < typing.leaves → k ≡ leaf_buffer b j → IsBufferOf state arg k
    of_slot : (s : ℕ) → arg ≡ operand.Slot s → s < b.slots → k ≡ slot_buffer b s → IsBufferOf state arg k

  one_buffer : (k k' : ℕ) → Buffer k ≡ Buffer k' → k' ≡ k
  one_buffer k k' e = cc

  no_scalar : (n : ℤ) (k : ℕ) → Scalar n ≡ Buffer k → ⊥
  no_scalar n k e = cc

  slot_of_arg : (state : State) (arg : Operand) (x : Tree) (k : ℕ) → AreHeld shape b typing leaf first state cells → (s : ℕ) × (arg ≡ operand.Slot s) × (state s ≡ Some x) → source_of b arg ≡ Buffer k → IsBufferOf state arg k
  slot_of_arg state arg x k held is there = of_slot is.0 is.1 (held.slots is.0 x is.2).0 (one_buffer _ k (sym (ap (source_of b) is.1) ∙ there))

  pub buffer_of_arg : (state : State) (arg : Operand) (x : Tree) (asked : Elem) (k : ℕ) → AreHeld shape b typing leaf first state cells → IsArg state arg x → HasType x typing asked → source_of b arg ≡ Buffer k → IsBufferOf state arg k
  buffer_of_arg state arg (AtLeaf j) asked k held is type there = of_leaf j type.0 (one_buffer _ k (sym (ap (source_of b) is) ∙ there))
  buffer_of_arg state arg (Literal n) asked k held is type there = absurd (no_scalar n k (sym (ap (source_of b) is) ∙ there))
  buffer_of_arg state arg (One op elem x) asked k held is type there = slot_of_arg state arg (One op elem x) k held is there
  buffer_of_arg state arg (Two op elem x y) asked k held is type there = slot_of_arg state arg (Two op elem x y) k held is there
  buffer_of_arg state arg (Cast elem from x) asked k held is type there = slot_of_arg state arg (Cast elem from x) k held is there
  buffer_of_arg state arg (Move elem x) asked k held is type there = slot_of_arg state arg (Move elem x) k held is there
  buffer_of_arg state arg (Select elem c x y) asked k held is type there = slot_of_arg state arg (Select elem c x y) k held is there

  -- a slot's buffer is an operand's only where the operand's slot is that one
  pub same_slot : (state : State) (arg : Operand) (to : ℕ) → IsBufferOf state arg (slot_buffer b to) → arg ≡ operand.Slot to
  same_slot state arg to (of_leaf j below same) = absurd (leaf_apart j to below (sym same))
  same_slot state arg to (of_slot s is below same) = let e : s ≡ to = omega (arith, same) in is ∙ ap operand.Slot e

  -- so a lawful step may write its slot
  pub may_write : (state : State) (t : Tree) (args : List Operand) (to : ℕ) → AreHeld shape b typing leaf first state cells → HasType t typing (elem_of t) → AreArgs state args (operands_of t) → KeepsPlace (op_of t) (elem_of t) (from_of t) args to → MayWrite (op_of t) (elem_of t) (from_of t) args (slot_buffer b to)
  may_write state (Select elem c x y) args to held type are place = ap (source_of b) place
  may_write state (Cast elem from x) (arg ∷ args) to held type are place = λ there. place (same_slot state arg to (buffer_of_arg state arg x from (slot_buffer b to) held are.0 type.2 there))
  may_write state (Cast elem from x) [] to held type are place = absurd are
  may_write state (AtLeaf k) args to held type are place = tt
  may_write state (Literal n) args to held type are place = tt
  may_write state (One op elem x) args to held type are place = tt
  may_write state (Two op elem x y) args to held type are place = tt
  may_write state (Move elem x) args to held type are place = tt

  module _ (state : State) (held : AreHeld shape b typing leaf first state cells) (step : Step) (t : Tree) (can : CanStep b.slots state step t) (type : HasType t typing (elem_of t)) where
    -- the work of a lawful step
    pub work_gives : (to : ℕ) → IsTileBuffer b to → MayWrite (op_of t) (elem_of t) (from_of t) step.args to → GivesTree shape (IsTileBuffer b) leaf cells (step_work shape b false step to) to t
    work_gives to one may =
        let given = step_gives state held to one false (λ src. Unit {0}) (λ n. tt) (λ work t. GivesTree shape (IsTileBuffer b) leaf cells work to t)
        (λ kind a a' value_a value_b t placed sources no_sum plain one_elem may_a may_b. plain_tree shape (IsTileBuffer b) leaf cells to kind a a' value_a value_b t placed sources no_sum plain one_elem)
        (λ state arg x asked held is type. tt) (select_gives state held to one) t step.args can.inner type can.args_are may in
        rw can.op_is (rw can.elem_is (rw can.from_is given))

    -- the buffer of a slot lies before what stands behind the slots
    slot_before : (s p : ℕ) → s < b.slots → (b.leaves * 2 + b.slots) * shape.room ≤ p → ¬ IsIn (slot_buffer b s * shape.room) shape.room p
    slot_before s p below behind is =
        let one : slot_buffer b s < b.leaves * 2 + b.slots = omega (arith, below) in
        let next = item_fits (slot_buffer b s) (b.leaves * 2 + b.slots) shape.room one in
        omega (arith, is.ends)

    pub held_after : (after : List Cell) → GivesTree shape (IsTileBuffer b) leaf cells (step_work shape b false step (slot_buffer b step.to)) (slot_buffer b step.to) t → IsWhole (step_work shape b false step (slot_buffer b step.to)) cells after → AreHeld shape b typing leaf first (after_step state step t) after
    held_after after given whole =
        let before = held_without_all state step.args held in
        let same : (k : ℕ) → k ≢ slot_buffer b step.to → (p : ℕ) → IsIn (k * shape.room) shape.room p → cell_at after p ≡ cell_at cells p = λ k apart p is. given.keeps after whole p (rooms_apart shape.room k (slot_buffer b step.to) p apart is) in
        record {
          long = whole.same_length ∙ held.long;
          rest = λ p behind. given.keeps after whole p (slot_before step.to p can.within behind) ∙ held.rest p behind;
          leaves = λ k below. holds_still shape cells after whole.same_length (leaf_buffer b k) (same (leaf_buffer b k) (leaf_apart k step.to below)) (typing.leaf k) (fits (typing.leaf k) (room.leaf_sizes k below)) (λ i. leaf i k) (held.leaves k below);
          slots = λ s u is. elim (cases_eq s step.to) [
            | inl there ↦
                let one : t ≡ u = some_same t u (sym (put_same (without_all state step.args) step.to (Some t) s there) ∙ is) in
                (omega (arith, can.within), rw one at type, rw there (rw one at (given.holds after whole)), rw one at can.inner)
            | inr other ↦
                let there = before.slots s u (sym (put_other (without_all state step.args) step.to (Some t) s other) ∙ is) in
                let apart : slot_buffer b s ≢ slot_buffer b step.to = λ e. other (omega (arith, e)) in
                let room_for = fits (elem_of u) (most_of u there.3 there.1) in (
                  there.0,
                  there.1,
                  record {
                    numbers = holds_still shape cells after whole.same_length (slot_buffer b s) (same (slot_buffer b s) apart) (elem_of u) room_for (values_of leaf u) there.2.numbers;
                    flags = λ is. flagged_still shape cells after whole.same_length (slot_buffer b s) (same (slot_buffer b s) apart) (elem_of u) room_for (values_of leaf u) (there.2.flags is);
                  },
                  there.3,
                )
          ];
        }

pub step_keeps : (shape : Shape) (b : Buffers) (typing : Typing) (leaf : ℕ → ℕ → ℤ) (first : List Cell) (state : State) (step : Step) (t : Tree) (cells : List Cell)
    → HasRoom shape b typing (length first) → CanStep b.slots state step t → HasType t typing (elem_of t) → AreHeld shape b typing leaf first state cells
    → Takes b shape (step_work shape b false step (slot_buffer b step.to)) cells (AreHeld shape b typing leaf first (after_step state step t))
step_keeps shape b typing leaf first state step t cells room can type held =
    let given = work_gives shape b typing leaf first room cells state held step t can type (slot_buffer b step.to) (a_slot step.to can.within refl) (may_write shape b typing leaf first room cells state t step.args step.to held type can.args_are can.place) in
    record { good = given.good; takes = λ after whole. held_after shape b typing leaf first room cells state held step t can type after given whole }
