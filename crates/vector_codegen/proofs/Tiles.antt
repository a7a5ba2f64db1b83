-- A tile's whole list leaves its results, and is short.
use Rattle.std.proofs.Common.{◌≡◌, ℕ, zero, suc, ◌+◌, ◌-◌, ◌*◌, ◌/◌, ◌<◌, ◌≤◌, inl, inr, ap, sym, subst, refl, arith, lit<, lit≤, List, [], ◌∷◌, ◌++◌, length, Bool, true, false, not, ℤ, map}
use Rattle.std.specs.Prelude.{nat_le, if◌then◌else◌}
use Rattle.std.proofs.Math.Nat.{mul-le-mul_left, mul-le-mul_right}
use Rattle.std.proofs.lemmas.Nat.{div-add-mod', mod_below}
use Rattle.std.proofs.lemmas.Bool.{cases_lt, cond-true, cond-false, le-leb, lt-leb}
use Rattle.ven_base.specs.declared.elem.Elem.{Elem}
use Rattle.ven_base.specs.declared.ops.Fold.TheVariants as fold
use Rattle.ven_base.specs.Wrap.{wrapped}
use Rattle.ven_base.specs.Cell.{Cell}
use Rattle.venice_isa.specs.Beat.{vector_beats}
use Rattle.pass_plan.specs.declared.pass.PassKind.{PassKind}
use Rattle.pass_plan.specs.declared.pass.PassKind.TheVariants.{Map, Reduce}
use Rattle.pass_plan.specs.Tree.{elem_of}
use Rattle.pass_plan.specs.Normal.{is_select}
use Rattle.pass_plan.specs.Buffers.{is_map}
use Rattle.buffer_lifetimes.specs.Step.{Tree, Step}
use Rattle.buffer_lifetimes.specs.Order.{State, CanStep, IsOrder}
use Rattle.dma_segments.specs.declared.segments.Fill.{Fill}
use Rattle.vector_codegen.specs.Work.{Shape, flat, column_of, Buffers, slot_buffer, out_buffer, step_work}
use Rattle.vector_codegen.specs.Root.{halving_work, halvings, last_work, halved_works, best_works, root_works}
use Rattle.vector_codegen.specs.TileList.{fill_work, works_with, works_in}
use Rattle.vector_codegen.specs.Count.{AreAtMost}
use Rattle.vector_codegen.proofs.Held.{Typing, HasType, count_of, Holds, AreHeld, values_of, HasRoom, TakesAll}
use Rattle.vector_codegen.proofs.Runs.{takes_more}
use Rattle.vector_codegen.proofs.Passes.{pass_takes, map_ends}
use Rattle.vector_codegen.proofs.SumPasses.{HasSoFar, with_row, sum_ends, le_more}
use Rattle.vector_codegen.proofs.Flat.{one_count, holds_grid, room_flat, leaves_flat, held_grid, takes_flat, takes_grid}
use Rattle.vector_codegen.proofs.BestPasses.{HoldsBest, HasBestSoFar, best_ends}
use Rattle.vector_codegen.proofs.Fills.{AreFills, HoldsButFills, fills_take}
use Rattle.vector_codegen.proofs.Counts.{HasElements, few_beats, both, within, fills_few, steps_few, sum_few, step_beats, some_elements, one_more, nothing_more}

-- what the output half holds before a later tile of a cut row
abbrev pub HasResults : PassKind → Shape → Buffers → Tree → Bool → (ℕ → ℤ) → List Cell → Type 0
HasResults Map shape b tree first so_far cells = Unit {0}
HasResults (Reduce fold.Sum) shape b tree first so_far cells = HasSoFar shape b (elem_of tree) first so_far cells
HasResults (Reduce fold.Min) shape b tree first so_far cells = HasBestSoFar shape b (elem_of tree) first so_far cells
HasResults (Reduce fold.Max) shape b tree first so_far cells = HasBestSoFar shape b (elem_of tree) first so_far cells

-- and after the tile
abbrev pub HoldsResults : PassKind → Shape → Buffers → (ℕ → ℕ → ℤ) → Tree → Bool → (ℕ → ℤ) → List Cell → Type 0
HoldsResults Map shape b leaf tree first so_far cells = Holds shape (elem_of tree) cells (out_buffer b) (values_of leaf tree)
HoldsResults (Reduce fold.Sum) shape b leaf tree first so_far cells = Holds (column_of shape) (elem_of tree) cells (out_buffer b) (λ r. wrapped (elem_of tree) (with_row shape leaf tree so_far r))
HoldsResults (Reduce fold.Min) shape b leaf tree first so_far cells = HoldsBest shape b leaf tree true first so_far cells
HoldsResults (Reduce fold.Max) shape b leaf tree first so_far cells = HoldsBest shape b leaf tree false first so_far cells

module _ (shape : Shape) (b : Buffers) (typing : Typing) (leaf : ℕ → ℕ → ℤ) (first_cells : List Cell) (room : HasRoom shape b typing (length first_cells)) (tree : Tree) (first : Bool) (so_far : ℕ → ℤ) (root : is_select tree ≡ false) where
  -- the last step's instructions, by the kind of the pass
  root_ends : (kind : PassKind) → b.has_partial ≡ not (is_map kind) → HasResults kind shape b tree first so_far first_cells
      → (state : State) (step : Step) (cells : List Cell) → CanStep b.slots state step tree → HasType tree typing (elem_of tree) → AreHeld (flat shape) b typing leaf first_cells state cells
      → TakesAll (root_works kind shape b first step) b (flat shape) cells (HoldsResults kind shape b leaf tree first so_far)
  root_ends Map has so state step cells can type held =
      takes_more (step_work (flat shape) b false step (out_buffer b) ∷ []) b (flat shape) cells (λ after. Holds (flat shape) (elem_of tree) after (out_buffer b) (values_of leaf tree)) (HoldsResults Map shape b leaf tree first so_far)
      (λ after. holds_grid shape (elem_of tree) after (out_buffer b) (values_of leaf tree))
      (map_ends (flat shape) b typing leaf tree first_cells (room_flat shape b typing (length first_cells) room) root state step cells can type held)
  root_ends (Reduce fold.Sum) has so state step cells can type held =
      takes_flat shape (root_works (Reduce fold.Sum) shape b first step) b cells (HoldsResults (Reduce fold.Sum) shape b leaf tree first so_far)
      (sum_ends shape b typing leaf first_cells room tree so_far root has state step cells can type (held_grid shape b typing leaf first_cells state cells held) first so)
  root_ends (Reduce fold.Min) has so state step cells can type held =
      takes_flat shape (root_works (Reduce fold.Min) shape b first step) b cells (HoldsResults (Reduce fold.Min) shape b leaf tree first so_far)
      (best_ends shape b typing leaf first_cells room tree true so_far root state step cells can type (held_grid shape b typing leaf first_cells state cells held) held first so)
  root_ends (Reduce fold.Max) has so state step cells can type held =
      takes_flat shape (root_works (Reduce fold.Max) shape b first step) b cells (HoldsResults (Reduce fold.Max) shape b leaf tree first so_far)
      (best_ends shape b typing leaf first_cells room tree false so_far root state step cells can type (held_grid shape b typing leaf first_cells state cells held) held first so)

  pub tile_takes : (kind : PassKind) (fills : List Fill) (steps : List Step) (to : ℕ) → b.has_partial ≡ not (is_map kind) → AreFills fills shape b typing leaf
      → IsOrder tree b.slots steps to → HasType tree typing (elem_of tree) → HoldsButFills fills shape b typing leaf first_cells → HasResults kind shape b tree first so_far first_cells
      → TakesAll (works_in kind shape b first fills steps) b shape first_cells (HoldsResults kind shape b leaf tree first so_far)
  tile_takes kind fills steps to has are order type held so =
      let Holding : List Cell → Type 0 = HoldsResults kind shape b leaf tree first so_far in
      let works = works_with (root_works kind shape b first) (flat shape) b steps in
      fills_take shape b typing leaf first_cells room Holding works fills first_cells refl are held (λ p behind. refl)
      (λ middle long leaves rest. takes_grid shape works b middle Holding
      (pass_takes (flat shape) b typing leaf tree first_cells (room_flat shape b typing (length first_cells) room) (root_works kind shape b first) Holding
      (root_ends kind has so) steps to middle long (leaves_flat shape b typing leaf middle leaves)
      (λ p behind. rest p (let less = mul-le-mul_right shape.room (le_more (b.leaves * 2) b.slots) in omega arith)) order type))

-- ---- how many instructions and beats

module _ (shape : Shape) (b : Buffers) (lanes : ℕ) (some_rows : 0 < shape.rows) (some_cols : 0 < shape.cols) (some : 0 < lanes) where
  -- halving rows of m elements takes fewer than m beats a row
  halvings_few : (turns m left : ℕ) (least : Bool) (elem : Elem) (k : ℕ) → 1 ≤ left → 1 ≤ m → AreAtMost (halvings turns shape least elem k left m) lanes (shape.rows * (m - 1))
  halvings_few zero m left least elem k some_left one = nothing_more shape b lanes some_rows some_cols some (shape.rows * (m - 1))
  halvings_few (suc turns) m left least elem k some_left one =
      let low = m / 2 in
      let high = m - m / 2 in
      elim (cases_lt left m) [
        | inr no_more ↦ subst (λ works. AreAtMost works lanes (shape.rows * (m - 1))) (sym (cond-true (nat_le m left) [] (halving_work shape least elem k low high ∷ halvings turns shape least elem k left high) (le-leb m left (omega arith)))) (nothing_more shape b lanes some_rows some_cols some (shape.rows * (m - 1)))
        | inl two ↦
            let split = div-add-mod' m 2 in
            let rest = mod_below m 2 (lit< tt) in
            let some_low : 0 < low = omega (arith, split, rest) in
            let some_high : 1 ≤ high = omega (arith, split, rest) in
            let all : low + (high - 1) ≡ m - 1 = omega (arith, split, rest) in
            let work = halving_work shape least elem k low high in
            let few : vector_beats work lanes ≤ shape.rows * low = few_beats work lanes some some_low in
            let positive : 1 * 1 ≤ shape.rows * 1 = mul-le-mul_right 1 some_rows in
            let wide : shape.rows * 1 ≤ shape.rows * low = mul-le-mul_left shape.rows some_low in
            let sum : shape.rows * low + shape.rows * (high - 1) ≡ shape.rows * (m - 1) = let more = ap (λ n. shape.rows * n) all in omega (arith, more) in
            subst (λ works. AreAtMost works lanes (shape.rows * (m - 1))) (sym (cond-false (nat_le m left) [] (halving_work shape least elem k low high ∷ halvings turns shape least elem k left high) (lt-leb m left two)))
            (within shape b lanes some_rows some_cols some (work ∷ halvings turns shape least elem k left high) (shape.rows * low + shape.rows * (high - 1)) (shape.rows * (m - 1)) (omega (arith, sum))
            (one_more shape b lanes some_rows some_cols some work (halvings turns shape least elem k left high) (shape.rows * low) (shape.rows * (high - 1)) (omega arith) few (halvings_few turns high left least elem k some_left some_high)))
      ]

  some_all : 0 < shape.rows * shape.cols
  some_all = some_elements shape b lanes some_rows some_cols some

  flat_beats : (step : Step) (to : ℕ) → vector_beats (step_work (flat shape) b false step to) lanes ≤ count_of shape
  flat_beats step to = let few = step_beats (flat shape) b lanes (lit< tt) some_all some false step to in let same = one_count shape in omega arith

  flat_few : (step : Step) → AreAtMost (step_work (flat shape) b false step (out_buffer b) ∷ []) lanes (count_of shape * (1 + 1))
  flat_few step = let few = flat_beats step (out_buffer b) in let one = some_all in record { count = omega arith; beats = omega arith }

  left_of : (first : Bool) → 1 ≤ (if first then 2 else 1)
  left_of true = lit≤ tt
  left_of false = lit≤ tt

  halved_few : (least first : Bool) (step : Step) → AreAtMost (halved_works shape b least first step) lanes (count_of shape * (1 + 1))
  halved_few least first step =
      let k = slot_buffer b step.to in
      let last = last_work shape least step.elem first k (out_buffer b) in
      let left : ℕ = if first then 2 else 1 in
      let halved = halvings_few shape.cols shape.cols left least step.elem k (left_of first) (omega arith) in
      let few = few_beats last lanes some (lit< tt) in
      let one : 1 * 1 ≤ shape.rows * 1 = mul-le-mul_right 1 some_rows in
      let ending : AreAtMost (last ∷ []) lanes (shape.rows * 1) = record { count = omega arith; beats = omega arith } in
      let all : shape.rows * (shape.cols - 1) + shape.rows * 1 ≤ count_of shape = let sum : shape.cols - 1 + 1 ≡ shape.cols = omega arith in let more = ap (λ n. shape.rows * n) sum in omega (arith, more) in
      within shape b lanes some_rows some_cols some (halved_works shape b least first step) (count_of shape + (shape.rows * (shape.cols - 1) + shape.rows * 1)) (count_of shape * (1 + 1)) (omega (arith, all))
      (one_more shape b lanes some_rows some_cols some (step_work (flat shape) b false step k) (halvings shape.cols shape least step.elem k left shape.cols ++ last ∷ []) (count_of shape) (shape.rows * (shape.cols - 1) + shape.rows * 1) some_all (flat_beats step k)
      (both shape b lanes some_rows some_cols some (halvings shape.cols shape least step.elem k left shape.cols) (last ∷ []) (shape.rows * (shape.cols - 1)) (shape.rows * 1) halved ending))

  best_few : (least first : Bool) (step : Step) → AreAtMost (best_works shape b least first step) lanes (count_of shape * (1 + 1))
  best_few least false step = halved_few least false step
  best_few least true step =
      elim (cases_lt 1 shape.cols) [
        | inl two ↦ subst (λ works. AreAtMost works lanes (count_of shape * (1 + 1))) (sym (cond-false (nat_le shape.cols 1) (step_work (flat shape) b false step (out_buffer b) ∷ []) (halved_works shape b least true step) (lt-leb shape.cols 1 two))) (halved_few least true step)
        | inr one ↦ subst (λ works. AreAtMost works lanes (count_of shape * (1 + 1))) (sym (cond-true (nat_le shape.cols 1) (step_work (flat shape) b false step (out_buffer b) ∷ []) (halved_works shape b least true step) (le-leb shape.cols 1 (omega arith)))) (flat_few step)
      ]

  root_few : (kind : PassKind) (first : Bool) (step : Step) → AreAtMost (root_works kind shape b first step) lanes (count_of shape * (1 + 1))
  root_few Map first step = flat_few step
  root_few (Reduce fold.Sum) first step = sum_few shape b lanes some_rows some_cols some first step
  root_few (Reduce fold.Min) first step = best_few true first step
  root_few (Reduce fold.Max) first step = best_few false first step

  pub tile_is_short : (kind : PassKind) (first : Bool) (fills : List Fill) (steps : List Step) (elements : ℕ) → HasElements fills elements → AreAtMost (works_in kind shape b first fills steps) lanes (elements + count_of shape * (length steps + 1))
  tile_is_short kind first fills steps elements has =
      let n = count_of shape in
      let works = works_with (root_works kind shape b first) (flat shape) b steps in
      let roots : (step : Step) → AreAtMost (root_works kind shape b first step) lanes (count_of (flat shape) * (1 + 1)) = λ step. subst (λ n. AreAtMost (root_works kind shape b first step) lanes (n * (1 + 1))) (sym (one_count shape)) (root_few kind first step) in
      let few : AreAtMost works lanes (n * (length steps + 1)) = subst (λ n. AreAtMost works lanes (n * (length steps + 1))) (one_count shape) (steps_few (flat shape) b lanes (lit< tt) some_all some (root_works kind shape b first) 1 roots steps) in
      both shape b lanes some_rows some_cols some (map fill_work fills) works elements (n * (length steps + 1)) (fills_few shape b lanes some_rows some_cols some fills elements has) few
