-- The instructions of a least or greatest leave the rows' best values.
use Rattle.std.proofs.Common.{◌≡◌, ◌≢◌, ℕ, zero, suc, ◌+◌, ◌-◌, ◌*◌, ◌/◌, ◌%◌, ◌<◌, ◌≤◌, inl, inr, ap, sym, ◌∙◌, subst, refl, arith, List, [], ◌∷◌, ◌++◌, length, Bool, true, false, ℤ, lit<}
use Rattle.std.specs.Prelude.{if◌then◌else◌, nat_le, Some}
use Rattle.std.proofs.lemmas.Int.{ints}
use Rattle.std.proofs.Math.Nat.{mul-le-mul_right}
use Rattle.std.proofs.lemmas.Nat.{div-add-mod', mod_below}
use Rattle.std.proofs.lemmas.Bool.{cases_lt, cond-true, cond-false, le-leb, lt-leb}
use Rattle.ven_base.specs.declared.elem.Elem.{Elem}
use Rattle.ven_base.specs.Elem.{size_of, IsElement}
use Rattle.ven_base.specs.Operation.{applied2}
use Rattle.ven_base.specs.Cell.{Cell}
use Rattle.venice_isa.specs.declared.work.VecWork.{VecWork}
use Rattle.venice_isa.specs.Cell.{cell_at}
use Rattle.venice_isa.specs.Region.{place_in, IsAt}
use Rattle.venice_isa.specs.Element.{number_at}
use Rattle.venice_isa.specs.Footprint.{source_b, destination}
use Rattle.venice_isa.specs.Whole.{IsWhole, result_at}
use Rattle.venice_isa.proofs.Regions.{item_fits, elements_apart}
use Rattle.pass_plan.specs.Tree.{elem_of}
use Rattle.pass_plan.specs.Normal.{is_select}
use Rattle.buffer_lifetimes.specs.Step.{Tree, Step}
use Rattle.buffer_lifetimes.specs.Order.{State, CanStep, after_step, without_all}
use Rattle.buffer_lifetimes.proofs.Slots.{put_same}
use Rattle.vector_codegen.specs.Work.{Shape, flat, column_of, Buffers, slot_buffer, out_buffer, step_work}
use Rattle.vector_codegen.specs.Root.{better_of, halving_work, halvings, last_work, halved_works, best_works}
use Rattle.vector_codegen.proofs.Good.{IsIn, IsGood, IsTileBuffer, a_slot, the_output}
use Rattle.vector_codegen.proofs.Held.{Typing, HasType, count_of, element_place, Spells, Holds, AreHeld, values_of, HasRoom, TakesAll}
use Rattle.vector_codegen.proofs.Elements.{number_there, spells_as, number_written}
use Rattle.vector_codegen.proofs.Blocks.{block_place, block_bounds, index_below, in_room, rooms_apart, element_in_room, holds_still}
use Rattle.vector_codegen.proofs.Steps.{step_keeps, most_of, fits}
use Rattle.vector_codegen.proofs.Passes.{map_ends}
use Rattle.vector_codegen.proofs.SumPasses.{column_fits, le_more}
use Rattle.vector_codegen.proofs.Flat.{room_flat, held_grid, takes_grid}
use Rattle.vector_codegen.proofs.Runs.{takes_more}
use Rattle.vector_codegen.proofs.Halving.{IsAsGood, IsBest, better, as_good, entry, entry_in_type, halved, halving_good, halving_keeps, op_plain, op_moves}

good_refl : (least : Bool) (x : ℤ) → IsAsGood least x x
good_refl true x = omega (arith, ints)
good_refl false x = omega (arith, ints)

-- ---- the halvings

module _ (shape : Shape) (b : Buffers) (least : Bool) (elem : Elem) (first_cells : List Cell) (row : ℕ → ℕ → ℤ) (s : ℕ) (below : s < b.slots)
    (some_rows : 0 < shape.rows) (some_cols : 0 < shape.cols) (fit : count_of shape * size_of elem ≤ shape.room) where
  -- the slot's rows are halved to so many elements: what is best of them is best of the row
  pub record IsHalved (count : ℕ) (cells : List Cell) : Type 0 where
    pub long : length cells ≡ length first_cells
    pub rest : (p : ℕ) → (b.leaves * 2 + b.slots) * shape.room ≤ p → cell_at cells p ≡ cell_at first_cells p
    pub best : (r : ℕ) (x : ℤ) → r < shape.rows → IsBest least count (entry shape elem (slot_buffer b s) cells r) x → IsBest least shape.cols (row r) x

  slot_before : (p : ℕ) → (b.leaves * 2 + b.slots) * shape.room ≤ p → ¬ IsIn (slot_buffer b s * shape.room) shape.room p
  slot_before p behind is =
      let one : slot_buffer b s < b.leaves * 2 + b.slots = omega (arith, below) in
      let next = item_fits (slot_buffer b s) (b.leaves * 2 + b.slots) shape.room one in
      omega (arith, is.ends)

  halves : (m : ℕ) → m / 2 * 2 + m % 2 ≡ m
  halves m = div-add-mod' m 2

  module _ (left : ℕ) (some_left : 1 ≤ left) (few_left : left ≤ 2) (Holding : List Cell → Type 0) (more : List VecWork) where
    pub halvings_take : (turns m : ℕ) (cells : List Cell) → left ≤ m → m ≤ turns + left → m ≤ shape.cols → IsHalved m cells → ((cells : List Cell) → IsHalved left cells → TakesAll more b shape cells Holding) → TakesAll (halvings turns shape least elem (slot_buffer b s) left m ++ more) b shape cells Holding
    halvings_take zero m cells some enough inside is goes_on = let last : m ≡ left = omega arith in goes_on cells (rw last at is)
    halvings_take (suc turns) m cells some enough inside is goes_on =
        let low = m / 2 in
        let high = m - m / 2 in
        elim (cases_lt left m) [
          | inr no_more ↦
              let last : m ≡ left = omega arith in
              subst (λ works. TakesAll (works ++ more) b shape cells Holding) (sym (cond-true (nat_le m left) [] (halving_work shape least elem (slot_buffer b s) low high ∷ halvings turns shape least elem (slot_buffer b s) left high) (le-leb m left (omega arith))))
              (goes_on cells (rw last at is))
          | inl two ↦
              let split = halves m in
              let rest = mod_below m 2 (lit< tt) in
              let some_low : 0 < low = omega (arith, split, rest) in
              let less : low ≤ high = omega (arith, split, rest) in
              let all : low + high ≡ m = omega (arith, split, rest) in
              subst (λ works. TakesAll (works ++ more) b shape cells Holding) (sym (cond-false (nat_le m left) [] (halving_work shape least elem (slot_buffer b s) low high ∷ halvings turns shape least elem (slot_buffer b s) left high) (lt-leb m left two))) (
                halving_good shape least elem (slot_buffer b s) low high some_rows some_low less (omega (arith, all)) fit (IsTileBuffer b) (a_slot s below refl),
                λ after whole. halvings_take turns high after (omega (arith, all, less)) (omega (arith, all, some_low)) (omega (arith, all)) (record {
                  long = whole.same_length ∙ is.long;
                  rest = λ p behind. halving_keeps shape least elem (slot_buffer b s) low high some_rows some_low less (omega (arith, all)) fit cells after whole p (slot_before p behind) ∙ is.rest p behind;
                  best = λ r x in_rows best. is.best r x in_rows (subst (λ m. IsBest least m (entry shape elem (slot_buffer b s) cells r) x) all (halved shape least elem (slot_buffer b s) low high some_rows some_low less (omega (arith, all)) fit cells after whole r x in_rows best));
                }) goes_on,
              )
        ]

-- ---- the last instruction: of each row the first element meets the second, or the result so far

module _ (shape : Shape) (b : Buffers) (least : Bool) (elem : Elem) (k : ℕ) (k_named : IsTileBuffer b k) (apart : k ≢ out_buffer b) (some_rows : 0 < shape.rows) (some_cols : 0 < shape.cols) (fit : count_of shape * size_of elem ≤ shape.room) (column_fit : count_of (column_of shape) * size_of elem ≤ shape.room) where
  -- an element in one column of the slot
  in_slot : (place c r j p : ℕ) → place ≡ k * shape.room + c * size_of elem → c < shape.cols → IsAt (record { place = place; step = shape.cols * size_of elem; size = size_of elem; rows = shape.rows; columns = 1 }) r j p → IsIn (k * shape.room) shape.room p
  in_slot place c r j p is column at = in_room shape.room k _ p fit (block_bounds shape elem k p (r, c + j, record { row = at.row; column = omega (arith, at.column, column); from = omega (arith, at.from, is); below = omega (arith, at.below, is) }))

  in_first : (r j p : ℕ) → IsAt (record { place = k * shape.room; step = shape.cols * size_of elem; size = size_of elem; rows = shape.rows; columns = 1 }) r j p → IsIn (k * shape.room) shape.room p
  in_first r j p at = in_slot (k * shape.room) 0 r j p (omega arith) some_cols at

  in_second : (r j p : ℕ) → 1 < shape.cols → IsAt (record { place = k * shape.room + size_of elem; step = shape.cols * size_of elem; size = size_of elem; rows = shape.rows; columns = 1 }) r j p → IsIn (k * shape.room) shape.room p
  in_second r j p two at = in_slot (k * shape.room + size_of elem) 1 r j p (omega arith) two at

  -- a row's result
  result_place : (r j : ℕ) → j < 1 → out_buffer b * shape.room + r * size_of elem + j * size_of elem ≡ element_place (column_of shape) elem (out_buffer b) r
  result_place r j one = let none : j ≡ 0 = omega arith in rw none (omega arith)

  in_out : (r j p : ℕ) → IsAt (record { place = out_buffer b * shape.room; step = size_of elem; size = size_of elem; rows = shape.rows; columns = 1 }) r j p → IsIn (out_buffer b * shape.room) shape.room p
  in_out r j p at =
      let place = result_place r j at.column in
      element_in_room (column_of shape) elem (out_buffer b) r p column_fit (omega (arith, at.row)) (omega (arith, at.from, place)) (omega (arith, at.below, place))

  last_good : (first : Bool) → (first ≡ true → 1 < shape.cols) → IsGood (IsTileBuffer b) shape.room (last_work shape least elem first k (out_buffer b))
  last_good true two = record {
    simple = record {
      counts = record { elements = lit< tt; rows = some_rows };
      elements_apart = elements_apart (destination (last_work shape least elem true k (out_buffer b))) (λ more. omega arith);
      a_in_place_or_apart = λ vector. inr (λ p read written. rooms_apart shape.room k (out_buffer b) p apart (in_second read.0 read.1 p (two refl) read.2) (in_out written.0 written.1 p written.2));
      b_in_place_or_apart = λ used vector. inr (λ p read written. rooms_apart shape.room k (out_buffer b) p apart (in_first read.0 read.1 p read.2) (in_out written.0 written.1 p written.2));
    };
    reads = λ p read. elim read [ inl a_read ↦ (k, k_named, in_second a_read.1.0 a_read.1.1 p (two refl) a_read.1.2) | inr more ↦ elim more [ inl b_read ↦ (k, k_named, in_first b_read.2.0 b_read.2.1 p b_read.2.2) | inr old ↦ (out_buffer b, the_output refl, in_out old.1.0 old.1.1 p old.1.2) ] ];
    writes = λ p written. (out_buffer b, the_output refl, in_out written.0 written.1 p written.2);
  }
  last_good false two = record {
    simple = record {
      counts = record { elements = lit< tt; rows = some_rows };
      elements_apart = elements_apart (destination (last_work shape least elem false k (out_buffer b))) (λ more. omega arith);
      a_in_place_or_apart = λ vector. inl (record { size = refl; rows = refl; columns = refl; places = λ r j row column. refl });
      b_in_place_or_apart = λ used vector. inr (λ p read written. rooms_apart shape.room k (out_buffer b) p apart (in_first read.0 read.1 p read.2) (in_out written.0 written.1 p written.2));
    };
    reads = λ p read. elim read [ inl a_read ↦ (out_buffer b, the_output refl, in_out a_read.1.0 a_read.1.1 p a_read.1.2) | inr more ↦ elim more [ inl b_read ↦ (k, k_named, in_first b_read.2.0 b_read.2.1 p b_read.2.2) | inr old ↦ (out_buffer b, the_output refl, in_out old.1.0 old.1.1 p old.1.2) ] ];
    writes = λ p written. (out_buffer b, the_output refl, in_out written.0 written.1 p written.2);
  }

  -- where the first and the second element of a row stand
  first_place : (r : ℕ) → k * shape.room + r * (shape.cols * size_of elem) + 0 * size_of elem ≡ element_place shape elem k (r * shape.cols + 0)
  first_place r = block_place shape elem k r 0

  second_place : (r : ℕ) → k * shape.room + size_of elem + r * (shape.cols * size_of elem) + 0 * size_of elem ≡ element_place shape elem k (r * shape.cols + 1)
  second_place r = let there : k * shape.room + size_of elem + r * (shape.cols * size_of elem) + 0 * size_of elem ≡ k * shape.room + r * (shape.cols * size_of elem) + 1 * size_of elem = omega arith in there ∙ block_place shape elem k r 1

  module _ (cells after : List Cell) where
    last_set : IsWhole (last_work shape least elem true k (out_buffer b)) cells after → (r : ℕ) → r < shape.rows → Spells elem after (element_place (column_of shape) elem (out_buffer b) r) (applied2 (better_of least) elem (entry shape elem k cells r 1) (entry shape elem k cells r 0))
    unfolding result_at
    last_set whole r row =
        let work = last_work shape least elem true k (out_buffer b) in
        spells_as elem after _ _ _ _ (number_written work cells after whole refl r 0 row (lit< tt) (op_moves least work cells r 0 refl)) (result_place r 0 (lit< tt))
        (op_plain least elem _ _
        ∙ ap (λ p. applied2 (better_of least) elem (number_at elem cells p) (number_at elem cells (place_in (source_b work) r 0))) (second_place r)
        ∙ ap (λ p. applied2 (better_of least) elem (entry shape elem k cells r 1) (number_at elem cells p)) (first_place r))

    last_join : IsWhole (last_work shape least elem false k (out_buffer b)) cells after → (r : ℕ) → r < shape.rows → Spells elem after (element_place (column_of shape) elem (out_buffer b) r) (applied2 (better_of least) elem (number_at elem cells (element_place (column_of shape) elem (out_buffer b) r)) (entry shape elem k cells r 0))
    unfolding result_at
    last_join whole r row =
        let work = last_work shape least elem false k (out_buffer b) in
        spells_as elem after _ _ _ _ (number_written work cells after whole refl r 0 row (lit< tt) (op_moves least work cells r 0 refl)) (result_place r 0 (lit< tt))
        (op_plain least elem _ _
        ∙ ap (λ p. applied2 (better_of least) elem (number_at elem cells p) (number_at elem cells (place_in (source_b work) r 0))) (result_place r 0 (lit< tt))
        ∙ ap (λ p. applied2 (better_of least) elem (number_at elem cells (element_place (column_of shape) elem (out_buffer b) r)) (number_at elem cells p)) (first_place r))

-- ---- the pass

best_same : (least : Bool) (count : ℕ) (v w : ℕ → ℤ) (x : ℤ) → ((j : ℕ) → j < count → v j ≡ w j) → IsBest least count v x → IsBest least count w x
best_same least count v w x same is = record {
  one = (is.one.0, is.one.1, sym (same is.one.0 is.one.1) ∙ is.one.2);
  best = λ j below. subst (IsAsGood least x) (same j below) (is.best j below);
}

best_of_one : (least : Bool) (v : ℕ → ℤ) → IsBest least 1 v (v 0)
best_of_one least v = record { one = (0, lit< tt, refl); best = λ j below. let only : 0 ≡ j = omega arith in subst (λ j. IsAsGood least (v 0) (v j)) only (good_refl least (v 0)) }

best_of_two : (least : Bool) (elem : Elem) (v : ℕ → ℤ) → ((j : ℕ) → IsElement elem (v j)) → IsBest least 2 v (applied2 (better_of least) elem (v 1) (v 0))
best_of_two least elem v in_type = record {
  one = elim (better elem (v 1) (v 0) (in_type 1) (in_type 0) least) [ inl second ↦ (1, lit< tt, sym second) | inr first ↦ (0, lit< tt, sym first) ];
  best = λ j below. elim (cases_lt j 1) [
    | inl first ↦ let is : 0 ≡ j = omega arith in subst (λ j. IsAsGood least (applied2 (better_of least) elem (v 1) (v 0)) (v j)) is (as_good elem (v 1) (v 0) (in_type 1) (in_type 0) least).1
    | inr second ↦ let is : 1 ≡ j = omega arith in subst (λ j. IsAsGood least (applied2 (better_of least) elem (v 1) (v 0)) (v j)) is (as_good elem (v 1) (v 0) (in_type 1) (in_type 0) least).0
  ];
}

-- a row of the piece
abbrev pub row_of : Shape → (ℕ → ℕ → ℤ) → Tree → ℕ → ℕ → ℤ
row_of shape leaf tree r j = values_of leaf tree (r * shape.cols + j)

-- the rows' best values, joined to those so far where the tile isn't a row's first
pub record HoldsBest (shape : Shape) (b : Buffers) (leaf : ℕ → ℕ → ℤ) (tree : Tree) (least first : Bool) (so_far : ℕ → ℤ) (cells : List Cell) : Type 0 where
  pub best : ℕ → ℤ
  pub is_best : (r : ℕ) → r < shape.rows → IsBest least shape.cols (row_of shape leaf tree r) (best r)
  pub holds : Holds (column_of shape) (elem_of tree) cells (out_buffer b) (λ r. if first then best r else applied2 (better_of least) (elem_of tree) (so_far r) (best r))

-- the results so far stand in the output half, where the tile isn't a row's first
pub record HasBestSoFar (shape : Shape) (b : Buffers) (elem : Elem) (first : Bool) (so_far : ℕ → ℤ) (cells : List Cell) : Type 0 where
  pub some : first ≡ false → Holds (column_of shape) elem cells (out_buffer b) so_far

module _ (shape : Shape) (b : Buffers) (typing : Typing) (leaf : ℕ → ℕ → ℤ) (first_cells : List Cell) (room : HasRoom shape b typing (length first_cells)) (tree : Tree) (least : Bool) (so_far : ℕ → ℤ) (root : is_select tree ≡ false) where
  module _ (state : State) (step : Step) (cells : List Cell) (can : CanStep b.slots state step tree) (type : HasType tree typing (elem_of tree)) (held : AreHeld shape b typing leaf first_cells state cells) where
    fit : count_of shape * size_of (elem_of tree) ≤ shape.room
    fit = fits shape b typing leaf first_cells room cells (elem_of tree) (most_of shape b typing leaf first_cells room cells tree can.inner type)

    small : count_of (column_of shape) * size_of (elem_of tree) ≤ shape.room
    small = column_fits shape (elem_of tree) room.some_cols fit

    behind : (p : ℕ) → IsIn (out_buffer b * shape.room) shape.room p → (b.leaves * 2 + b.slots) * shape.room ≤ p
    behind p is = let more = mul-le-mul_right shape.room (le_more (b.leaves * 2 + b.slots) b.out_half) in omega (arith, is.begins)

    apart : slot_buffer b step.to ≢ out_buffer b
    apart e = let within = can.within in omega (arith, e, within)

    abbrev Halved : ℕ → List Cell → Type 0
    Halved m cells = IsHalved shape b least (elem_of tree) first_cells (row_of shape leaf tree) step.to can.within room.some_rows room.some_cols fit m cells

    -- after the root's step the slot has the whole rows
    begun : (after : List Cell) → AreHeld shape b typing leaf first_cells (after_step state step tree) after → Halved shape.cols after
    begun after held' =
        let there = held'.slots step.to tree (put_same (without_all state step.args) step.to (Some tree) step.to refl) in
        record {
          long = held'.long;
          rest = held'.rest;
          best = λ r x row best. best_same least shape.cols (entry shape (elem_of tree) (slot_buffer b step.to) after r) (row_of shape leaf tree r) x
              (λ j below. number_there (elem_of tree) after _ _ (there.2.numbers.each (r * shape.cols + j) (index_below shape r j row below))) best;
        }

    ends_with : (first : Bool) → (first ≡ true → 1 < shape.cols) → HasBestSoFar shape b (elem_of tree) first so_far first_cells → (cells : List Cell) → Halved (if first then 2 else 1) cells → TakesAll (last_work shape least (elem_of tree) first (slot_buffer b step.to) (out_buffer b) ∷ []) b shape cells (HoldsBest shape b leaf tree least first so_far)
    ends_with true two so cells is = (
      last_good shape b least (elem_of tree) (slot_buffer b step.to) (a_slot step.to can.within refl) apart room.some_rows room.some_cols fit small true two,
      λ after whole. record {
        best = λ r. applied2 (better_of least) (elem_of tree) (entry shape (elem_of tree) (slot_buffer b step.to) cells r 1) (entry shape (elem_of tree) (slot_buffer b step.to) cells r 0);
        is_best = λ r row. is.best r _ row (best_of_two least (elem_of tree) (entry shape (elem_of tree) (slot_buffer b step.to) cells r) (entry_in_type shape (elem_of tree) (slot_buffer b step.to) cells r));
        holds = record { each = λ r below. last_set shape b least (elem_of tree) (slot_buffer b step.to) (a_slot step.to can.within refl) apart room.some_rows room.some_cols fit small cells after whole r (omega arith) };
      },
    )
    ends_with false two so cells is =
        let stands : Holds (column_of shape) (elem_of tree) cells (out_buffer b) so_far = holds_still (column_of shape) first_cells cells is.long (out_buffer b) (λ p inside. is.rest p (behind p inside)) (elem_of tree) small so_far (so.some refl) in (
          last_good shape b least (elem_of tree) (slot_buffer b step.to) (a_slot step.to can.within refl) apart room.some_rows room.some_cols fit small false two,
          λ after whole. record {
            best = λ r. entry shape (elem_of tree) (slot_buffer b step.to) cells r 0;
            is_best = λ r row. is.best r _ row (best_of_one least (entry shape (elem_of tree) (slot_buffer b step.to) cells r));
            holds = record {
              each = λ r below. spells_as (elem_of tree) after _ _ _ _ (last_join shape b least (elem_of tree) (slot_buffer b step.to) (a_slot step.to can.within refl) apart room.some_rows room.some_cols fit small cells after whole r (omega arith)) refl
                  (ap (λ x. applied2 (better_of least) (elem_of tree) x (entry shape (elem_of tree) (slot_buffer b step.to) cells r 0)) (number_there (elem_of tree) cells _ _ (stands.each r below)));
            };
          },
        )

    left_of : (first : Bool) → (1 ≤ (if first then 2 else 1)) × ((if first then 2 else 1) ≤ 2)
    left_of true = (omega arith, omega arith)
    left_of false = (omega arith, omega arith)

    left_within : (first : Bool) → (first ≡ true → 1 < shape.cols) → (if first then 2 else 1) ≤ shape.cols
    left_within true two = two refl
    left_within false two = room.some_cols

    halved_end : (held_flat : AreHeld (flat shape) b typing leaf first_cells state cells) (first : Bool) → (first ≡ true → 1 < shape.cols) → HasBestSoFar shape b (elem_of tree) first so_far first_cells → TakesAll (halved_works shape b least first step) b shape cells (HoldsBest shape b leaf tree least first so_far)
    halved_end held_flat first two so =
        let one = step_keeps (flat shape) b typing leaf first_cells state step tree cells (room_flat shape b typing (length first_cells) room) can type held_flat in
        let left : ℕ = if first then 2 else 1 in (
          one.good,
          λ after whole.
              subst (λ elem. TakesAll (halvings shape.cols shape least elem (slot_buffer b step.to) left shape.cols ++ last_work shape least elem first (slot_buffer b step.to) (out_buffer b) ∷ []) b shape after (HoldsBest shape b leaf tree least first so_far)) (sym can.elem_is)
              (halvings_take shape b least (elem_of tree) first_cells (row_of shape leaf tree) step.to can.within room.some_rows room.some_cols fit left (left_of first).0 (left_of first).1 (HoldsBest shape b leaf tree least first so_far) (last_work shape least (elem_of tree) first (slot_buffer b step.to) (out_buffer b) ∷ [])
              shape.cols shape.cols after (left_within first two) (omega arith) (omega arith) (begun after (held_grid shape b typing leaf first_cells (after_step state step tree) after (one.takes after whole))) (ends_with first two so)),
        )

    -- rows of one element are their own results
    one_column : (held_flat : AreHeld (flat shape) b typing leaf first_cells state cells) → shape.cols ≤ 1 → TakesAll (step_work (flat shape) b false step (out_buffer b) ∷ []) b shape cells (HoldsBest shape b leaf tree least true so_far)
    one_column held_flat few =
        takes_grid shape (step_work (flat shape) b false step (out_buffer b) ∷ []) b cells (HoldsBest shape b leaf tree least true so_far)
        (takes_more (step_work (flat shape) b false step (out_buffer b) ∷ []) b (flat shape) cells (λ after. Holds (flat shape) (elem_of tree) after (out_buffer b) (values_of leaf tree)) (HoldsBest shape b leaf tree least true so_far) begins
        (map_ends (flat shape) b typing leaf tree first_cells (room_flat shape b typing (length first_cells) room) root state step cells can type held_flat))
      where
        one : shape.cols ≡ 1
        one = let some = room.some_cols in omega arith

        index : (r : ℕ) → r * shape.cols + 0 ≡ r
        index r = let same : r * shape.cols ≡ r * 1 = ap (λ c. r * c) one in omega (arith, same)

        begins : (after : List Cell) → Holds (flat shape) (elem_of tree) after (out_buffer b) (values_of leaf tree) → HoldsBest shape b leaf tree least true so_far after
        begins after holds = record {
          best = λ r. row_of shape leaf tree r 0;
          is_best = λ r row. subst (λ c. IsBest least c (row_of shape leaf tree r) (row_of shape leaf tree r 0)) (sym one) (best_of_one least (row_of shape leaf tree r));
          holds = record {
            each = λ r below.
                let same : shape.rows * shape.cols ≡ shape.rows * 1 = ap (λ c. shape.rows * c) one in
                spells_as (elem_of tree) after _ _ _ _ (holds.each r (omega (arith, same))) refl (ap (values_of leaf tree) (sym (index r)));
          };
        }

    pub best_ends : (held_flat : AreHeld (flat shape) b typing leaf first_cells state cells) (first : Bool) → HasBestSoFar shape b (elem_of tree) first so_far first_cells → TakesAll (best_works shape b least first step) b shape cells (HoldsBest shape b leaf tree least first so_far)
    best_ends held_flat false so = halved_end held_flat false (λ is. absurd (cc)) so
    best_ends held_flat true so =
        elim (cases_lt 1 shape.cols) [
          | inl two ↦ subst (λ works. TakesAll works b shape cells (HoldsBest shape b leaf tree least true so_far)) (sym (cond-false (nat_le shape.cols 1) (step_work (flat shape) b false step (out_buffer b) ∷ []) (halved_works shape b least true step) (lt-leb shape.cols 1 two))) (halved_end held_flat true (λ is. two) so)
          | inr one ↦ subst (λ works. TakesAll works b shape cells (HoldsBest shape b leaf tree least true so_far)) (sym (cond-true (nat_le shape.cols 1) (step_work (flat shape) b false step (out_buffer b) ∷ []) (halved_works shape b least true step) (le-leb shape.cols 1 (omega arith)))) (one_column held_flat (omega arith))
        ]
