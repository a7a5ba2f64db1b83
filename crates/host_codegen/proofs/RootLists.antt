-- The programs of a tile's steps issue the instructions of its list.
use Rattle.std.proofs.Common.{◌≡◌, ℕ, zero, suc, ◌+◌, ◌-◌, ◌*◌, ◌/◌, ◌%◌, ◌^◌, ◌<◌, ◌≤◌, ◌⊎◌, inl, inr, refl, sym, ap, ◌∙◌, arith, Bool, true, false, cond, ltb, leb, List, [], ◌∷◌, ◌++◌}
use Rattle.std.specs.Prelude.{map}
use Rattle.std.specs.List.{flat_map}
use Rattle.std.proofs.lemmas.Bool.{cond_both, cases_lt, le-leb, lt-leb, lt-ltb, le-ltb}
use Rattle.std.proofs.lemmas.List.{append-nil, map-append}
use Rattle.ven_base.specs.declared.elem.Elem.{Elem}
use Rattle.ven_base.specs.declared.ops.Fold.TheVariants as fold
use Rattle.ven_base.specs.Elem.{size_of}
use Rattle.venice_isa.specs.declared.issue.Issue.{Issue}
use Rattle.venice_isa.specs.declared.issue.Issue.TheVariants.{Vector}
use Rattle.venice_isa.specs.declared.work.VecWork.{VecWork}
use Rattle.venice_isa.specs.Host.{with_number}
use Rattle.pass_plan.specs.declared.parts.Tile.{Tile}
use Rattle.pass_plan.specs.declared.pass.PassKind.{PassKind}
use Rattle.pass_plan.specs.declared.pass.PassKind.TheVariants.{Map, Reduce}
use Rattle.pass_plan.specs.Pass.{Pass}
use Rattle.pass_plan.specs.Tile.{first_column}
use Rattle.pass_plan.specs.Buffers.{buffer_bytes, piece_rows, piece_columns, begins_row}
use Rattle.buffer_lifetimes.specs.Step.{Step}
use Rattle.vector_codegen.specs.Work.{flat, slot_buffer, out_buffer, partial_buffer, step_work}
use Rattle.vector_codegen.specs.Root.{joining_work, sum_works, halving_work, halvings, last_work, halved_works, best_works, root_works}
use Rattle.vector_codegen.specs.TileList.{works_with, tile_shape, tile_buffers}
use Rattle.host_programs.specs.Expr.{Expr, Number, Variable, Offset, Difference, value}
use Rattle.host_programs.specs.Program.{vector_by, with_left, carried_list, list_by}
use Rattle.transfer_programs.specs.Axis.{scaled}
use Rattle.transfer_programs.proofs.Axes.{value_scaled}
use Rattle.host_codegen.specs.Geometry.{Layout, layout_of, slot_cell, partial_cell}
use Rattle.host_codegen.specs.RootProgram.{all_elements, all_rows, one_column, flat_program, row_sums_program, joining_order, joined_sums_program, sum_program, halving_order, halving_turns, halvings_program, last_order, halved_program, first_best_program, best_program, root_program, steps_programs, works_program}
use Rattle.host_codegen.proofs.Sequences.{below_power, all_lists}
use Rattle.host_codegen.proofs.StepOrders.{HasRows, row_names, has_row, row_bytes_value, step_value}
use Rattle.host_codegen.proofs.HalvingTurns.{enough_turns, same_halvings, done_halvings}
use Rattle.host_codegen.proofs.Choices.{one_of_two, first_or_later_list}

-- registers that have what a tile's instructions need
pub record HasNames (pass : Pass) (tile : Tile) (t : ℕ) (f : ℕ → ℕ) : Type 0 where
  pub column : f 4 ≡ first_column pass.domain tile t
  pub rows : f 5 ≡ piece_rows pass tile t
  pub columns : f 6 ≡ piece_columns pass tile t
  pub half : f 8 ≡ t % 2 * buffer_bytes pass tile
  pub output : f 10 ≡ out_buffer (tile_buffers pass tile t) * buffer_bytes pass tile

abbrev pub issued : List VecWork → List Issue
issued works = map (λ work. Vector work) works

issued_either : (b : Bool) (xs ys : List Issue) (first later : List VecWork) → xs ≡ issued first → ys ≡ issued later → cond b xs ys ≡ issued (cond b first later)
issued_either true xs ys first later is_first is_later = is_first
issued_either false xs ys first later is_first is_later = is_later

module _ (pass : Pass) (tile : Tile) (t : ℕ) where
  abbrev layout : Layout
  layout = layout_of pass tile

  abbrev room : ℕ
  room = buffer_bytes pass tile

  abbrev height : ℕ
  height = piece_rows pass tile t

  abbrev width : ℕ
  width = piece_columns pass tile t

  -- ---- buffers and instructions of the tile

  abbrev slot : ℕ → ℕ
  slot s = slot_buffer (tile_buffers pass tile t) s

  abbrev out : ℕ
  out = out_buffer (tile_buffers pass tile t)

  abbrev partial : ℕ
  partial = partial_buffer (tile_buffers pass tile t)

  abbrev flat_work : Step → (place : ℕ) → VecWork
  flat_work step place = step_work (flat (tile_shape pass tile t)) (tile_buffers pass tile t) false step place

  abbrev sums_work : Step → (place : ℕ) → VecWork
  sums_work step place = step_work (tile_shape pass tile t) (tile_buffers pass tile t) true step place

  abbrev join_work : Elem → VecWork
  join_work elem = joining_work (tile_shape pass tile t) (tile_buffers pass tile t) elem

  abbrev halve_work : (least : Bool) → Elem → (s count : ℕ) → VecWork
  halve_work least elem s count = halving_work (tile_shape pass tile t) least elem (slot s) (count / 2) (count - count / 2)

  abbrev halve_works : (turns : ℕ) → (least : Bool) → Elem → (s left count : ℕ) → List VecWork
  halve_works turns least elem s left count = halvings turns (tile_shape pass tile t) least elem (slot s) left count

  abbrev end_work : (least : Bool) → Elem → (first : Bool) → (s : ℕ) → VecWork
  end_work least elem first s = last_work (tile_shape pass tile t) least elem first (slot s) out

  abbrev halved : (least first : Bool) → Step → List VecWork
  halved least first step = halved_works (tile_shape pass tile t) (tile_buffers pass tile t) least first step

  abbrev best : (least first : Bool) → Step → List VecWork
  best least first step = best_works (tile_shape pass tile t) (tile_buffers pass tile t) least first step

  abbrev root : PassKind → Step → List VecWork
  root kind step = root_works kind (tile_shape pass tile t) (tile_buffers pass tile t) (begins_row pass tile t) step

  abbrev works : PassKind → List Step → List VecWork
  works kind steps = works_with (root kind) (flat (tile_shape pass tile t)) (tile_buffers pass tile t) steps

  -- ---- what the registers have

  -- how many elements the tile has, and its rows
  abbrev HasAll : (ℕ → ℕ) → Type 0
  HasAll f = HasRows all_elements 1 (height * width) f

  abbrev HasEach : (ℕ → ℕ) → Type 0
  HasEach f = HasRows all_rows height width f

  flat_list : (d : ℕ) (f : ℕ → ℕ) (step : Step) (to : Expr) (place : ℕ) → HasNames pass tile t f → HasAll f → value to f ≡ place * room
      → list_by value (flat_program layout step to) d f ≡ issued (flat_work step place ∷ [])
  flat_list d f step to place names all at = ap (λ w. Vector w ∷ []) (step_value pass tile t 8 f names.half all_elements 1 (height * width) all false step to place at)

  row_sums_list : (d : ℕ) (f : ℕ → ℕ) (step : Step) (to : Expr) (place : ℕ) → HasNames pass tile t f → HasEach f → value to f ≡ place * room
      → list_by value (row_sums_program layout step to) d f ≡ issued (sums_work step place ∷ [])
  row_sums_list d f step to place names rows at = ap (λ w. Vector w ∷ []) (step_value pass tile t 8 f names.half all_rows height width rows true step to place at)

  -- ---- sums

  joining_value : (f : ℕ → ℕ) (elem : Elem) → HasNames pass tile t f → HasRows one_column 1 height f → vector_by (λ e. value e f) (joining_order layout elem) ≡ join_work elem
  joining_value f elem names column =
      let e0 : f 17 ≡ height = column.once in
      let e1 : f 10 ≡ out * room = names.output in
      let e2 = row_bytes_value one_column 1 height f column elem in
      cc

  joined_sums_list : (f : ℕ → ℕ) (step : Step) → HasNames pass tile t f → HasEach f
      → list_by value (joined_sums_program layout step) 17 f ≡ issued (sums_work step partial ∷ join_work step.elem ∷ [])
  joined_sums_list f step names rows =
      let g = row_names 17 (f 5) f in
      let there : HasNames pass tile t g = record { column = names.column; rows = names.rows; columns = names.columns; half = names.half; output = names.output } in
      ap (λ xs. xs ++ (Vector (vector_by (λ e. value e g) (joining_order layout step.elem)) ∷ [])) (row_sums_list 17 f step (Number (partial_cell layout)) partial names rows refl)
      ∙ ap (λ w. issued (sums_work step partial ∷ w ∷ [])) (joining_value g step.elem there (has_row one_column 1 height g (f 5) names.rows refl refl refl refl))

  sum_list : (f : ℕ → ℕ) (step : Step) → 1 ≤ tile.w → HasNames pass tile t f → HasEach f
      → list_by value (sum_program layout step) 17 f ≡ issued (sum_works (tile_shape pass tile t) (tile_buffers pass tile t) (begins_row pass tile t) step)
  sum_list f step some names rows =
      first_or_later_list pass tile t 17 f 4 (row_sums_program layout step (Variable 10)) (joined_sums_program layout step) some names.column
      ∙ issued_either (begins_row pass tile t) _ _ _ _ (row_sums_list 17 f step (Variable 10) out names rows names.output) (joined_sums_list f step names rows)

  -- ---- least and greatest values

  -- the registers of a turn of halving, with so many elements in each row
  abbrev halving_names : (left count : ℕ) → (ℕ → ℕ) → (ℕ → ℕ)
  halving_names left count f = with_number 19 (count / 2) (with_left f 17 left count)

  halving_value : (f : ℕ → ℕ) (least : Bool) (elem : Elem) (s left count : ℕ) → HasNames pass tile t f → HasEach f
      → vector_by (λ e. value e (halving_names left count f)) (halving_order layout least elem s (Difference (Variable 18) (Variable 19))) ≡ halve_work least elem s count
  halving_value f least elem s left count names rows =
      let g = halving_names left count f in
      let there : HasEach g = record { rows_are = rows.rows_are; once = rows.once; twice = rows.twice; four_times = rows.four_times } in
      let high = Difference (Variable 18) (Variable 19) in
      let e0 : g 5 ≡ height = names.rows in
      let e1 : value (Offset (scaled high (size_of elem)) (slot_cell layout s)) g ≡ slot s * room + (count - count / 2) * size_of elem = ap (λ n. n + slot_cell layout s) (value_scaled high (size_of elem) g) ∙ omega arith in
      let e2 = row_bytes_value all_rows height width g there elem in
      cc

  turned : (least : Bool) (elem : Elem) (s left n count : ℕ) → 1 ≤ left
      → cond (ltb count (left + 1)) [] (issued (halve_work least elem s count ∷ [])) ++ issued (halve_works n least elem s left (count - count / 2)) ≡ issued (halve_works (suc n) least elem s left count)
  turned least elem s left n count some = go (cases_lt left count)
    where
      w : VecWork
      w = halve_work least elem s count

      rest : List VecWork
      rest = halve_works n least elem s left (count - count / 2)

      go : ((left < count) ⊎ (count ≤ left)) → cond (ltb count (left + 1)) [] (issued (w ∷ [])) ++ issued rest ≡ issued (cond (leb count left) [] (w ∷ rest))
      go (inl lt) =
          ap (λ t. cond t [] (issued (w ∷ [])) ++ issued rest) (le-ltb count (left + 1) (omega (arith, lt)))
          ∙ sym (ap (λ t. issued (cond t [] (w ∷ rest))) (lt-leb count left lt))
      go (inr le) =
          ap (λ t. cond t [] (issued (w ∷ [])) ++ issued rest) (lt-ltb count (left + 1) (omega (arith, le)))
          ∙ ap issued (done_halvings pass tile t least elem (slot s) left some n (count - count / 2) (omega (arith, le)))
          ∙ sym (ap (λ t. issued (cond t [] (w ∷ rest))) (le-leb count left le))

  carried_halvings : (least : Bool) (elem : Elem) (s left : ℕ) → 1 ≤ left → (turn : ℕ → ℕ → List Issue)
      → ((k count : ℕ) → turn k count ≡ cond (ltb count (left + 1)) [] (issued (halve_work least elem s count ∷ [])))
      → (n count : ℕ) → carried_list n count (λ k count. count - count / 2) turn ≡ issued (halve_works n least elem s left count)
  carried_halvings least elem s left some turn is zero count = refl
  carried_halvings least elem s left some turn is (suc n) count =
      ap (λ xs. xs ++ carried_list n (count - count / 2) (λ k count. count - count / 2) turn) (is (suc n) count)
      ∙ ap (λ ys. cond (ltb count (left + 1)) [] (issued (halve_work least elem s count ∷ [])) ++ ys) (carried_halvings least elem s left some turn is n (count - count / 2))
      ∙ turned least elem s left n count some

  halvings_list : (f : ℕ → ℕ) (least : Bool) (elem : Elem) (s left : ℕ) → 1 ≤ left → 1 ≤ tile.w → tile.w < 2 ^ 32 → HasNames pass tile t f → HasEach f
      → list_by value (halvings_program layout least elem s left) 17 f ≡ issued (halve_works width least elem s left width)
  halvings_list f least elem s left some_left some small names rows =
      let n = halving_turns tile.w in
      let turn : ℕ → ℕ → List Issue = λ k count. cond (ltb count (left + 1)) []
      (Vector (vector_by (λ e. value e (halving_names k count f)) (halving_order layout least elem s (Difference (Variable 18) (Variable 19)))) ∷ []) in
      ap (λ count. carried_list n count (λ k count. count - count / 2) turn) names.columns
      ∙ carried_halvings least elem s left some_left turn (λ k count. ap (λ w. cond (ltb count (left + 1)) [] (Vector w ∷ [])) (halving_value f least elem s k count names rows)) n width
      ∙ ap issued (same_halvings pass tile t least elem (slot s) left some_left n width width (omega (arith, enough_turns tile.w some small)) (below_power width))

  end_value : (f : ℕ → ℕ) (least : Bool) (elem : Elem) (first : Bool) (s : ℕ) → HasNames pass tile t f → HasEach f
      → vector_by (λ e. value e f) (last_order layout least elem first s) ≡ end_work least elem first s
  end_value f least elem true s names rows =
      let e0 : f 5 ≡ height = names.rows in
      let e1 : f 10 ≡ out * room = names.output in
      let e2 = row_bytes_value all_rows height width f rows elem in
      cc
  end_value f least elem false s names rows =
      let e0 : f 5 ≡ height = names.rows in
      let e1 : f 10 ≡ out * room = names.output in
      let e2 = row_bytes_value all_rows height width f rows elem in
      cc

  module _ (f : ℕ → ℕ) (some : 1 ≤ tile.w) (small : tile.w < 2 ^ 32) (names : HasNames pass tile t f) (all : HasAll f) (rows : HasEach f) where
    halved_list : (least first : Bool) (step : Step) → list_by value (halved_program layout least first step) 17 f ≡ issued (halved least first step)
    halved_list least first step =
        let left : ℕ = cond first 2 1 in
        let begin : VecWork = flat_work step (slot step.to) in
        let turns : List VecWork = halve_works width least step.elem step.to left width in
        let end : List Issue = Vector (vector_by (λ e. value e f) (last_order layout least step.elem first step.to)) ∷ [] in
        let some_left : 1 ≤ cond first 2 1 = cond_both first 2 1 (λ n. 1 ≤ n) (λ e. omega arith) (λ e. omega arith) in
        ap (λ xs. xs ++ (list_by value (halvings_program layout least step.elem step.to left) 17 f ++ end)) (flat_list 17 f step (Number (slot_cell layout step.to)) (slot step.to) names all refl)
        ∙ ap (λ xs. Vector begin ∷ (xs ++ end)) (halvings_list f least step.elem step.to left some_left some small names rows)
        ∙ ap (λ w. Vector begin ∷ (issued turns ++ (Vector w ∷ []))) (end_value f least step.elem first step.to names rows)
        ∙ ap (λ xs. Vector begin ∷ xs) (sym (map-append (λ w. Vector w) turns (end_work least step.elem first step.to ∷ [])))

    first_best_list : (least : Bool) (step : Step) → list_by value (first_best_program layout least step) 17 f ≡ issued (best least true step)
    first_best_list least step =
        let direct = list_by value (flat_program layout step (Variable 10)) 17 f in
        let in_turns = list_by value (halved_program layout least true step) 17 f in
        one_of_two (f 6) 1 direct in_turns
        ∙ ap (λ n. cond (leb n 1) direct in_turns) names.columns
        ∙ issued_either (leb width 1) direct in_turns _ _ (flat_list 17 f step (Variable 10) out names all names.output) (halved_list least true step)

    by_first : (least first : Bool) (step : Step) → cond first (best least true step) (halved least false step) ≡ best least first step
    by_first least true step = refl
    by_first least false step = refl

    best_list : (least : Bool) (step : Step) → list_by value (best_program layout least step) 17 f ≡ issued (best least (begins_row pass tile t) step)
    best_list least step =
        first_or_later_list pass tile t 17 f 4 (first_best_program layout least step) (halved_program layout least false step) some names.column
        ∙ issued_either (begins_row pass tile t) _ _ _ _ (first_best_list least step) (halved_list least false step)
        ∙ ap issued (by_first least (begins_row pass tile t) step)

  -- ---- all steps

  module _ (f : ℕ → ℕ) (some : 1 ≤ tile.w) (small : tile.w < 2 ^ 32) (names : HasNames pass tile t f) (all : HasAll f) where
    abbrev with_rows : ℕ → ℕ
    with_rows = row_names 14 (f 6) f

    names_there : HasNames pass tile t with_rows
    names_there = record { column = names.column; rows = names.rows; columns = names.columns; half = names.half; output = names.output }

    all_there : HasAll with_rows
    all_there = record { rows_are = refl; once = all.once; twice = all.twice; four_times = all.four_times }

    rows_there : HasEach with_rows
    rows_there = has_row all_rows height width with_rows (f 6) names.columns names.rows refl refl refl

    root_list : (kind : PassKind) (step : Step) → list_by value (root_program kind layout step) 14 f ≡ issued (root kind step)
    root_list Map step = flat_list 14 f step (Variable 10) out names all names.output
    root_list (Reduce fold.Sum) step = sum_list with_rows step some names_there rows_there
    root_list (Reduce fold.Min) step = best_list with_rows some small names_there all_there rows_there true step
    root_list (Reduce fold.Max) step = best_list with_rows some small names_there all_there rows_there false step

    steps_list : (kind : PassKind) (steps : List Step) → flat_map (λ p. list_by value p 14 f) (steps_programs kind layout steps) ≡ issued (works kind steps)
    steps_list kind [] = refl
    steps_list kind (step ∷ []) = append-nil (list_by value (root_program kind layout step) 14 f) ∙ root_list kind step
    steps_list kind (step ∷ next ∷ steps) =
        ap (λ xs. xs ++ flat_map (λ p. list_by value p 14 f) (steps_programs kind layout (next ∷ steps))) (flat_list 14 f step (Number (slot_cell layout step.to)) (slot step.to) names all refl)
        ∙ ap (λ xs. Vector (flat_work step (slot step.to)) ∷ xs) (steps_list kind (next ∷ steps))

  pub works_list : (f : ℕ → ℕ) → 1 ≤ tile.w → tile.w < 2 ^ 32 → HasNames pass tile t f → (kind : PassKind) (steps : List Step)
      → list_by value (works_program kind layout steps) 11 f ≡ issued (works kind steps)
  works_list f some small names kind steps =
      let g = row_names 11 (f 5 * f 6) f in
      let elements : f 5 * f 6 ≡ height * width = ap (λ n. n * f 6) names.rows ∙ ap (λ n. height * n) names.columns in
      let names_there : HasNames pass tile t g = record { column = names.column; rows = names.rows; columns = names.columns; half = names.half; output = names.output } in
      all_lists value (steps_programs kind layout steps) 14 g ∙ steps_list g some small names_there (has_row all_elements 1 (height * width) g (f 5 * f 6) elements refl refl refl refl) kind steps
