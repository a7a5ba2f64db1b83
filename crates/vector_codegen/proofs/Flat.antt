-- A tile's elements as one row: what buffers hold is the same.
use Rattle.std.proofs.Common.{◌≡◌, ℕ, ◌*◌, ◌≤◌, ap, arith, lit<, List, [], ◌∷◌, ℤ}
use Rattle.std.proofs.Math.Nat.{mul-le-mul_left, mul-le-mul_right}
use Rattle.ven_base.specs.declared.elem.Elem.{Elem}
use Rattle.ven_base.specs.Cell.{Cell}
use Rattle.venice_isa.specs.declared.work.VecWork.{VecWork}
use Rattle.buffer_lifetimes.specs.Order.{State}
use Rattle.vector_codegen.specs.Work.{Shape, flat, Buffers}
use Rattle.vector_codegen.proofs.Held.{Typing, count_of, Holds, IsFlagged, HoldsLeaves, AreHeld, HasRoom, TakesAll}

module _ (shape : Shape) where
  pub one_count : count_of (flat shape) ≡ count_of shape
  one_count = omega arith

  module _ (elem : Elem) (cells : List Cell) (k : ℕ) (value : ℕ → ℤ) where
    pub holds_grid : Holds (flat shape) elem cells k value → Holds shape elem cells k value
    holds_grid held = record { each = λ i below. held.each i (omega (arith, one_count)) }

    pub holds_flat : Holds shape elem cells k value → Holds (flat shape) elem cells k value
    holds_flat held = record { each = λ i below. held.each i (omega (arith, one_count)) }

    flags_grid : IsFlagged (flat shape) elem cells k value → IsFlagged shape elem cells k value
    flags_grid held = record { each = λ i below. held.each i (omega (arith, one_count)) }

  module _ (b : Buffers) (typing : Typing) where
    pub room_flat : (cells : ℕ) → HasRoom shape b typing cells → HasRoom (flat shape) b typing cells
    room_flat cells room =
        let rows : 1 * 1 ≤ shape.rows * 1 = mul-le-mul_right 1 room.some_rows in
        let cols : shape.rows * 1 ≤ shape.rows * shape.cols = mul-le-mul_left shape.rows room.some_cols in
        let same = ap (λ n. n * typing.most) one_count in
        let fits = room.fits in
        record { some_rows = lit< tt; some_cols = omega arith; fits = omega (arith, same, fits); leaf_sizes = room.leaf_sizes; one_count = room.one_count; half = room.half; out = room.out; inside = room.inside }

    module _ (leaf : ℕ → ℕ → ℤ) where
      pub leaves_flat : (cells : List Cell) → HoldsLeaves shape b typing leaf cells → HoldsLeaves (flat shape) b typing leaf cells
      leaves_flat cells held k below = holds_flat (typing.leaf k) cells _ _ (held k below)

      pub held_grid : (first : List Cell) (state : State) (cells : List Cell) → AreHeld (flat shape) b typing leaf first state cells → AreHeld shape b typing leaf first state cells
      held_grid first state cells held = record {
        long = held.long;
        leaves = λ k below. holds_grid (typing.leaf k) cells _ _ (held.leaves k below);
        slots = λ s t is.
            let there = held.slots s t is in
            (there.0, there.1, record { numbers = holds_grid _ cells _ _ there.2.numbers; flags = λ compared. flags_grid _ cells _ _ (there.2.flags compared) }, there.3);
        rest = held.rest;
      }

  pub takes_flat : (works : List VecWork) (b : Buffers) (cells : List Cell) (Holding : List Cell → Type 0) → TakesAll works b shape cells Holding → TakesAll works b (flat shape) cells Holding
  takes_flat [] b cells Holding takes = takes
  takes_flat (work ∷ works) b cells Holding takes = (takes.0, λ after whole. takes_flat works b after Holding (takes.1 after whole))

  pub takes_grid : (works : List VecWork) (b : Buffers) (cells : List Cell) (Holding : List Cell → Type 0) → TakesAll works b (flat shape) cells Holding → TakesAll works b shape cells Holding
  takes_grid [] b cells Holding takes = takes
  takes_grid (work ∷ works) b cells Holding takes = (takes.0, λ after whole. takes_grid works b after Holding (takes.1 after whole))
