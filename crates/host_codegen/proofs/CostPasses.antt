-- How many steps and beats a pass takes.
use Rattle.std.proofs.Common.{◌≡◌, ℕ, zero, suc, ◌+◌, ◌-◌, ◌*◌, ◌<◌, ◌≤◌, ◌⊎◌, inl, inr, List, [], ◌∷◌, ◌++◌, length, get_or, refl, sym, ap, subst, arith, cond, ltb}
use Rattle.std.specs.Prelude.{map}
use Rattle.std.proofs.lemmas.Bool.{cond_both, cond-false, cond-true, lt-ltb, le-ltb, cases_lt}
use Rattle.std.proofs.lemmas.List.{length-append}
use Rattle.std.proofs.lemmas.Nat.{mul-le}
use Rattle.ven_base.specs.declared.mapping.Mapping.{Mapping}
use Rattle.ven_base.specs.declared.mapping.Mapping.TheVariants.{Identity, Shift, Rotate, Section, Stretch, Transpose}
use Rattle.ven_base.specs.declared.ops.Fold.TheVariants as fold
use Rattle.ven_base.specs.Extent.{elements_of}
use Rattle.ven_base.specs.Mapping.{result_shape}
use Rattle.venice_isa.specs.declared.issue.Issue.{Issue}
use Rattle.venice_isa.specs.declared.issue.Issue.TheVariants.{Vector, Read, Write, RWait, WWait, VWait, TWait}
use Rattle.venice_isa.specs.declared.work.VecWork.{VecWork}
use Rattle.venice_isa.specs.declared.work.DmaWork.{DmaWork}
use Rattle.venice_isa.specs.Beat.{transfer_beats, beats_of_all}
use Rattle.venice_isa.specs.Host.{with_number}
use Rattle.pass_plan.specs.declared.parts.Piece.{Piece}
use Rattle.pass_plan.specs.declared.parts.Tile.{Tile}
use Rattle.pass_plan.specs.declared.pass.PassKind.{PassKind}
use Rattle.pass_plan.specs.declared.pass.PassKind.TheVariants.{Map, Reduce}
use Rattle.pass_plan.specs.declared.split.ArrayPlace.{ArrayPlace}
use Rattle.pass_plan.specs.Numbers.{inner_of}
use Rattle.pass_plan.specs.Tree.{TreeOver, AtLeaf, Literal, One, Two, Cast, Move, Select, nodes_of, leaves_of}
use Rattle.pass_plan.specs.Need.{pass_need, pass_work}
use Rattle.pass_plan.specs.Pass.{Pass, no_leaf}
use Rattle.pass_plan.specs.Tile.{tile_of, tiles_of, piece_of, IsPieceOf}
use Rattle.pass_plan.specs.Buffers.{is_map, output_half, ends_row, piece_results}
use Rattle.pass_plan.specs.Sound.{IsSoundPass, IsSoundLeaf, no_place}
use Rattle.pass_plan.proofs.Tilings.{tile_some, some_ceil, piece_inside}
use Rattle.dma_segments.specs.Laws.{leaf_of, leaf_cell, with_tag, result_piece, result_cell}
use Rattle.dma_segments.specs.WriteList.{write_list}
use Rattle.vector_codegen.specs.Effect.{AreFew}
use Rattle.vector_codegen.specs.Count as count
use Rattle.vector_codegen.proofs.PassLaws.{nodes_at_least, leaves_occur}
use Rattle.dma_schedule.specs.Blocks.{Blocks, next_reads, tile_step, tile_steps, pass_list, leaf_half, row_half, write_tag}
use Rattle.dma_schedule.specs.PipeList.{leaf_segments, leaf_reads, tile_reads, tile_works, destination, tile_writes, blocks_of}
use Rattle.host_programs.specs.Expr.{Variable, value}
use Rattle.host_programs.specs.Program.{in_turn}
use Rattle.host_programs.specs.ProgramCode.{turns_steps}
use Rattle.transfer_programs.specs.ReadProgram.{Target}
use Rattle.transfer_programs.specs.ReadLaws.{piece_value}
use Rattle.transfer_programs.specs.Cost.{most_steps}
use Rattle.transfer_programs.specs.CostLaws.{leaf_steps, fill_room}
use Rattle.transfer_programs.proofs.CostPrograms.{most_least}
use Rattle.transfer_programs.proofs.CostLeaves.{leaves_take_few_steps}
use Rattle.transfer_programs.proofs.CostSteps.{total}
use Rattle.host_codegen.specs.Sequence.{each_of}
use Rattle.host_codegen.specs.Geometry.{layout_of, leaf_expr, piece_at}
use Rattle.host_codegen.specs.TileProgram.{leaf_reads_program, reads_program, rest_program}
use Rattle.host_codegen.specs.PassProgram.{turn_program, pass_program}
use Rattle.host_codegen.specs.CodeRoom.{step_share}
use Rattle.host_codegen.proofs.TileNumbers.{is_wide}
use Rattle.host_codegen.proofs.TileLists.{HasTile, has_read_tile, tile_names}
use Rattle.host_codegen.proofs.CostSums.{sum_of_each, sum_from, sums_both, sums_whole, each_sums, sums_added, sums_most, sums_times}
use Rattle.host_codegen.proofs.CostRoots.{root_steps}
use Rattle.host_codegen.proofs.CostTiles.{leaf_expr_size, tile_spent, map_of, steps_count, fills_share, rest_costs}
use Rattle.host_codegen.proofs.CostRooms.{steps_are}
use Rattle.host_codegen.proofs.CostAreas.{area_of, areas_few}
use Rattle.host_codegen.proofs.CostBeats.{read_beats, write_beats}

-- ---- turns

turns_sum : (n t : ℕ) (turn : ℕ → ℕ) → turns_steps n t turn ≡ sum_from t n (λ u. 3 + turn u)
turns_sum zero t turn = refl
turns_sum (suc n) t turn =
    let g : ℕ → ℕ = λ u. 3 + turn u in
    let next : 1 + n ≡ suc n = omega arith in
    let here : t + 0 ≡ t = omega arith in
    omega (arith, sums_both t 1 n g, ap (λ m. sum_from t m g) next, ap turn here, turns_sum n (t + 1) turn)

-- a turn more than there are tiles: what each reads, and the rest of the one before
reads_sum : (n : ℕ) (r : ℕ → ℕ) → sum_of_each (n + 1) (λ u. cond (ltb u n) (r u) 0) ≡ sum_of_each n r
reads_sum n r =
    let next : n + 1 ≡ suc n = omega arith in
    let last = cond-false (ltb n n) (r n) 0 (le-ltb n n (omega arith)) in
    omega (arith, ap (λ m. sum_of_each m (λ u. cond (ltb u n) (r u) 0)) next, last, go n (omega arith))
  where
    go : (k : ℕ) → k ≤ n → sum_of_each k (λ u. cond (ltb u n) (r u) 0) ≡ sum_of_each k r
    go zero le = refl
    go (suc k) le = omega (arith, go k (omega (arith, le)), cond-true (ltb k n) (r k) 0 (lt-ltb k n (omega (arith, le))))

rest_sum : (n rest : ℕ) → sum_of_each (n + 1) (λ u. cond (ltb u 1) 0 rest) ≡ n * rest
rest_sum n rest =
    let next : n + 1 ≡ suc n = omega arith in
    omega (arith, ap (λ m. sum_of_each m (λ u. cond (ltb u 1) 0 rest)) next, go n)
  where
    go : (k : ℕ) → sum_of_each (suc k) (λ u. cond (ltb u 1) 0 rest) ≡ k * rest
    go zero = omega arith
    go (suc k) = omega (arith, go k, cond-false (ltb (suc k) 1) 0 rest (le-ltb (suc k) 1 (omega arith)))

constant_sum : (n c : ℕ) → sum_of_each n (λ u. c) ≡ n * c
constant_sum zero c = omega arith
constant_sum (suc n) c = omega (arith, constant_sum n c)

-- the first tile's and each next one's are all tiles'
next_sum : (n : ℕ) (r : ℕ → ℕ) → 1 ≤ n → r 0 + sum_of_each n (λ t. cond (ltb (t + 1) n) (r (t + 1)) 0) ≡ sum_of_each n r
next_sum zero r some = absurd (omega (arith, some))
next_sum (suc m) r some =
    let last = cond-false (ltb (m + 1) (suc m)) (r (m + 1)) 0 (le-ltb (m + 1) (suc m) (omega arith)) in
    omega (arith, last, go m (omega arith))
  where
    go : (k : ℕ) → k ≤ m → r 0 + sum_of_each k (λ t. cond (ltb (t + 1) (suc m)) (r (t + 1)) 0) ≡ sum_of_each (suc k) r
    go zero le = omega arith
    go (suc k) le =
        let here : k + 1 ≡ suc k = omega arith in
        omega (arith, go k (omega (arith, le)), cond-true (ltb (k + 1) (suc m)) (r (k + 1)) 0 (lt-ltb (k + 1) (suc m) (omega (arith, le))), ap r here)

-- ---- beats of lists

pub beats_append : (xs ys : List Issue) (lanes : ℕ) → beats_of_all (xs ++ ys) lanes ≡ beats_of_all xs lanes + beats_of_all ys lanes
beats_append [] ys lanes = omega arith
beats_append (x ∷ xs) ys lanes = omega (arith, beats_append xs ys lanes)

read_total : (tag lanes : ℕ) (works : List DmaWork) → beats_of_all (map (λ work. Read (with_tag tag work)) works) lanes ≡ total transfer_beats works
read_total tag lanes [] = refl
read_total tag lanes (work ∷ works) = omega (arith, read_total tag lanes works)

write_total : (tag lanes : ℕ) (works : List DmaWork) → beats_of_all (map (λ work. Write (with_tag tag work)) works) lanes ≡ total transfer_beats works
write_total tag lanes [] = refl
write_total tag lanes (work ∷ works) = omega (arith, write_total tag lanes works)

vector_total : (lanes : ℕ) (works : List VecWork) → beats_of_all (map (λ work. Vector work) works) lanes ≡ count.vector_beats_of_all works lanes
vector_total lanes [] = refl
vector_total lanes (work ∷ works) = omega (arith, vector_total lanes works)

-- ---- nodes

occurrences : (t : TreeOver ℕ) → length (leaves_of t) ≤ 2 * inner_of t + 1
occurrences (AtLeaf k) = omega arith
occurrences (Literal n) = omega arith
occurrences (One op elem a) = omega (arith, occurrences a)
occurrences (Cast elem from a) = omega (arith, occurrences a)
occurrences (Move elem a) = omega (arith, occurrences a)
occurrences (Two op elem a b) = omega (arith, occurrences a, occurrences b, length-append (leaves_of a) (leaves_of b))
occurrences (Select elem c x y) = omega (arith, occurrences c, occurrences x, occurrences y, length-append (leaves_of c) (leaves_of x ++ leaves_of y), length-append (leaves_of x) (leaves_of y))

map_most : (mapping : Mapping) → leaf_steps mapping + fill_room mapping ≤ 363
map_most Identity = omega arith
map_most (Shift dr dc value) = omega arith
map_most (Rotate dr dc) = omega arith
map_most (Section r0 nr sr c0 nc sc) = omega arith
map_most (Stretch kr kc) = omega arith
map_most Transpose = omega arith

root_most : (kind : PassKind) → root_steps kind ≤ 1690
root_most Map = omega arith
root_most (Reduce fold.Sum) = omega arith
root_most (Reduce fold.Min) = omega arith
root_most (Reduce fold.Max) = omega arith

-- ---- a pass

module _ (arrays : List ArrayPlace) (later : List ℕ) (spad : ℕ) (pass : Pass) (sound : IsSoundPass arrays later pass) (holds : pass_need pass ≤ spad) where
  abbrev tile : Tile
  tile = tile_of pass spad

  abbrev tiles : ℕ
  tiles = tiles_of pass.domain tile

  abbrev area : (t : ℕ) → ℕ
  area t = area_of pass.domain tile t

  abbrev leaves : ℕ
  leaves = length pass.leaves

  abbrev map_number : (n : ℕ) → Mapping
  map_number n = map_of arrays pass tile n

  some : (1 ≤ tile.h) × (1 ≤ tile.w)
  some = tile_some pass tile sound.shaped (record { spad = spad; holds = holds; is = refl })

  inside : (t : ℕ) → t < tiles → IsPieceOf pass.domain (piece_of pass.domain tile t)
  inside t below = piece_inside pass.domain tile sound.shaped some.0 some.1 t below

  some_area : (t : ℕ) → t < tiles → 1 ≤ area t
  some_area t below = let within = inside t below in mul-le 1 1 (piece_of pass.domain tile t).h (piece_of pass.domain tile t).w within.some_rows within.some_cols

  leaf_sound : (n : ℕ) → n < leaves → IsSoundLeaf arrays later pass.domain (leaf_of pass n)
  leaf_sound n below = sound.leaves n no_leaf below

  leaf_inside : (n t : ℕ) → n < leaves → t < tiles → IsPieceOf (result_shape (leaf_of pass n).map (leaf_of pass n).shape) (piece_of pass.domain tile t)
  leaf_inside n t within below = subst (λ e. IsPieceOf e (piece_of pass.domain tile t)) (sym (leaf_sound n within).gives) (inside t below)

  -- ---- steps

  leaf_spent : (n : ℕ) (f : ℕ → ℕ) (t : ℕ) → n < leaves → t < tiles → HasTile pass tile t 2 f → most_steps (leaf_reads_program arrays pass tile n) 8 f ≤ 1 + leaf_steps (map_number n) * area t
  leaf_spent n f t within below has =
      let leaf = leaf_of pass n in
      let from = get_or arrays leaf.array no_place in
      let target : Target = record { buffer = Variable 8; tag = Variable 6 } in
      let g = with_number 8 (value (leaf_expr (layout_of pass tile) 7 n) f) f in
      let here : piece_value (piece_at 2) g ≡ piece_of pass.domain tile t = has.piece_is in
      let ok = leaf_sound n within in
      let steps = leaves_take_few_steps leaf from (piece_at 2) target 9 g ok.shaped ok.fits (subst (λ q. IsPieceOf (result_shape leaf.map leaf.shape) q) (sym here) (leaf_inside n t within below))
      (record { r0 = refl; c0 = refl; h = refl; w = refl; buffer = refl; tag = refl })
      (record { r0 = omega arith; c0 = omega arith; h = omega arith; w = omega arith; buffer = omega arith; tag = omega arith }) in
      let size = ap (λ (q : Piece). leaf_steps leaf.map * (q.h * q.w)) here in
      omega (arith, most_least (leaf_expr (layout_of pass tile) 7 n) f, leaf_expr_size (layout_of pass tile) 7 n, steps, size)

  abbrev leaf_total : ℕ
  leaf_total = sum_of_each leaves (λ n. leaf_steps (map_number n))

  reads_spent : (g : ℕ → ℕ) → g 1 < tiles → most_steps (reads_program arrays pass tile) 2 g ≤ 30 + (leaves + leaf_total * area (g 1))
  reads_spent g below =
      let t = g 1 in
      let f = tile_names (layout_of pass tile) 1 2 g in
      let has = has_read_tile pass tile (is_wide pass tile some.1) g in
      let each = leaf_reads_program arrays pass tile in
      let most = sums_most leaves (λ n. most_steps (each n) 8 f) (λ n. 1 + leaf_steps (map_number n) * area t) (λ n within. leaf_spent n f t within below has) in
      omega (
        arith,
        tile_spent (layout_of pass tile) (each_of leaves each) g,
        each_sums (λ p. most_steps p 8 f) refl (λ p q. refl) each leaves,
        most,
        sums_added leaves (λ n. 1) (λ n. leaf_steps (map_number n) * area t),
        constant_sum leaves 1,
        sums_times leaves (area t) (λ n. leaf_steps (map_number n)),
      )

  abbrev rest_total : ℕ
  rest_total = 123 + (fills_share arrays pass tile + (step_share * steps_count arrays pass tile + root_steps pass.kind))

  turn_spent : (u : ℕ) (g : ℕ → ℕ) → g 0 ≡ tiles + 1 - u → g 1 ≡ u
      → most_steps (turn_program arrays pass tile) 2 g ≤ 4 + (cond (ltb u tiles) (30 + (leaves + leaf_total * area u)) 0 + cond (ltb u 1) 0 rest_total)
  turn_spent u g left number = omega (arith, read_part (cases_lt u tiles), rest_part (cases_lt u 1))
    where
      read_part : ((u < tiles) ⊎ (tiles ≤ u)) → cond (ltb (g 0) 2) 0 (most_steps (reads_program arrays pass tile) 2 g) ≤ cond (ltb u tiles) (30 + (leaves + leaf_total * area u)) 0
      read_part (inl lt) =
          let a = cond-false (ltb (g 0) 2) 0 (most_steps (reads_program arrays pass tile) 2 g) (le-ltb (g 0) 2 (omega (arith, left, lt))) in
          let b = cond-true (ltb u tiles) (30 + (leaves + leaf_total * area u)) 0 (lt-ltb u tiles lt) in
          omega (arith, a, b, reads_spent g (omega (arith, number, lt)), ap (λ t. leaf_total * area t) number)
      read_part (inr le) =
          let a = cond-true (ltb (g 0) 2) 0 (most_steps (reads_program arrays pass tile) 2 g) (lt-ltb (g 0) 2 (omega (arith, left, le))) in
          omega (arith, a)

      rest_part : ((u < 1) ⊎ (1 ≤ u)) → cond (ltb (g 1) 1) 0 (most_steps (rest_program arrays pass tile) 2 g) ≤ cond (ltb u 1) 0 rest_total
      rest_part (inl lt) =
          let a = cond-true (ltb (g 1) 1) 0 (most_steps (rest_program arrays pass tile) 2 g) (lt-ltb (g 1) 1 (omega (arith, number, lt))) in
          omega (arith, a)
      rest_part (inr le) =
          let a = cond-false (ltb (g 1) 1) 0 (most_steps (rest_program arrays pass tile) 2 g) (le-ltb (g 1) 1 (omega (arith, number, le))) in
          let b = cond-false (ltb u 1) 0 rest_total (le-ltb u 1 le) in
          omega (arith, a, b, (rest_costs arrays pass tile).spent 2 g)

  all_steps : (f : ℕ → ℕ) → most_steps (pass_program arrays pass tile) 0 f ≤ 15 + (tiles * (37 + leaves + rest_total) + leaf_total * sum_of_each tiles area)
  all_steps f =
      let turn : ℕ → ℕ = λ u. most_steps (turn_program arrays pass tile) 2 (in_turn f 0 (tiles + 1) u) in
      let reads : ℕ → ℕ = λ u. 30 + (leaves + leaf_total * area u) in
      let read : ℕ → ℕ = λ u. cond (ltb u tiles) (reads u) 0 in
      let rest : ℕ → ℕ = λ u. cond (ltb u 1) 0 rest_total in
      let most = sums_most (tiles + 1) (λ u. 3 + turn u) (λ u. 7 + (read u + rest u)) (λ u below. omega (arith, turn_spent u (in_turn f 0 (tiles + 1) u) refl refl)) in
      let product = sums_times tiles leaf_total area in
      let turned : sum_of_each tiles (λ u. leaf_total * area u) ≡ leaf_total * sum_of_each tiles area = scaled tiles in
      omega (
        arith,
        turns_sum (tiles + 1) 0 turn,
        sums_whole (tiles + 1) (λ u. 3 + turn u),
        most,
        sums_added (tiles + 1) (λ u. 7) (λ u. read u + rest u),
        constant_sum (tiles + 1) 7,
        sums_added (tiles + 1) read rest,
        reads_sum tiles reads,
        rest_sum tiles rest_total,
        sums_added tiles (λ u. 30) (λ u. leaves + leaf_total * area u),
        constant_sum tiles 30,
        sums_added tiles (λ u. leaves) (λ u. leaf_total * area u),
        constant_sum tiles leaves,
        turned,
      )
    where
      scaled : (n : ℕ) → sum_of_each n (λ u. leaf_total * area u) ≡ leaf_total * sum_of_each n area
      scaled zero = omega arith
      scaled (suc n) = omega (arith, scaled n)

  -- ---- beats

  leaf_beats : (n t lanes : ℕ) → n < leaves → t < tiles → beats_of_all (leaf_reads arrays pass tile n t) lanes ≤ area t
  leaf_beats n t lanes within below =
      let ok = leaf_sound n within in
      omega (arith, read_total (leaf_half t) lanes (leaf_segments arrays pass tile n t).commands, read_beats (leaf_of pass n) (get_or arrays (leaf_of pass n).array no_place) (piece_of pass.domain tile t) (leaf_cell pass tile n t) ok.shaped ok.fits (leaf_inside n t within below))

  reads_beats : (k t lanes : ℕ) → k ≤ leaves → t < tiles → beats_of_all (tile_reads arrays pass tile k t) lanes ≤ k * area t
  reads_beats zero t lanes le below = omega arith
  reads_beats (suc k) t lanes le below =
      omega (arith, beats_append (tile_reads arrays pass tile k t) (leaf_reads arrays pass tile k t) lanes, reads_beats k t lanes (omega (arith, le)) below, leaf_beats k t lanes (omega (arith, le)) below)

  results_few : (t : ℕ) → t < tiles → (result_piece pass tile t).h * (result_piece pass tile t).w ≤ area t
  results_few t below =
      let within = inside t below in
      let narrow : piece_results pass tile t ≤ (piece_of pass.domain tile t).w =
      cond_both (is_map pass.kind) (piece_of pass.domain tile t).w 1 (λ w. w ≤ (piece_of pass.domain tile t).w) (λ e. omega arith) (λ e. omega (arith, within.some_cols)) in
      mul-le (piece_of pass.domain tile t).h (piece_results pass tile t) (piece_of pass.domain tile t).h (piece_of pass.domain tile t).w (omega arith) narrow

  writes_beats : (t lanes : ℕ) → t < tiles → beats_of_all (tile_writes arrays pass tile t) lanes ≤ area t
  writes_beats t lanes below =
      let to = destination arrays pass tile in
      let works = write_list to (result_piece pass tile t) (result_cell pass tile t) in
      let all = map (λ work. Write (with_tag (write_tag (output_half pass tile t)) work)) works in
      cond_both (ends_row pass tile t) all [] (λ xs. beats_of_all xs lanes ≤ area t)
      (λ e. omega (arith, write_total (write_tag (output_half pass tile t)) lanes works, write_beats to (result_piece pass tile t) (result_cell pass tile t), results_few t below)) (λ e. omega arith)

  module _ (lanes : ℕ) (some_lanes : 0 < lanes) (few : (t : ℕ) → t < tiles → AreFew pass tile t (tile_works arrays pass tile t)) where
    abbrev blocks : Blocks
    blocks = blocks_of arrays pass tile

    compute_beats : (t : ℕ) → t < tiles → beats_of_all (blocks.compute t) lanes ≤ area t * (nodes_of pass.tree + 3)
    compute_beats t below = omega (arith, vector_total lanes (tile_works arrays pass tile t), (few t below lanes some_lanes).beats)

    next_beats : (t : ℕ) → beats_of_all (next_reads blocks t) lanes ≤ cond (ltb (t + 1) tiles) (leaves * area (t + 1)) 0
    next_beats t = go (cases_lt (t + 1) tiles)
      where
        go : ((t + 1 < tiles) ⊎ (tiles ≤ t + 1)) → beats_of_all (cond (ltb (t + 1) tiles) (blocks.reads (t + 1)) []) lanes ≤ cond (ltb (t + 1) tiles) (leaves * area (t + 1)) 0
        go (inl lt) =
            let e = lt-ltb (t + 1) tiles lt in
            let a = ap (λ b. beats_of_all (cond b (blocks.reads (t + 1)) []) lanes) e in
            let b = cond-true (ltb (t + 1) tiles) (leaves * area (t + 1)) 0 e in
            omega (arith, a, b, reads_beats leaves (t + 1) lanes (omega arith) lt)
        go (inr le) = let a = ap (λ b. beats_of_all (cond b (blocks.reads (t + 1)) []) lanes) (le-ltb (t + 1) tiles le) in omega (arith, a)

    step_beats : (t : ℕ) → t < tiles → beats_of_all (tile_step blocks t) lanes ≤ cond (ltb (t + 1) tiles) (leaves * area (t + 1)) 0 + area t * (nodes_of pass.tree + 4)
    step_beats t below =
        omega (arith, beats_append (next_reads blocks t) (TWait (leaf_half t) ∷ TWait (write_tag (row_half blocks t)) ∷ (blocks.compute t ++ (VWait ∷ blocks.writes t))) lanes, beats_append (blocks.compute t) (VWait ∷ blocks.writes t) lanes, next_beats t, compute_beats t below, writes_beats t lanes below)

    steps_beats : (n : ℕ) → n ≤ tiles → beats_of_all (tile_steps blocks n) lanes ≤ sum_of_each n (λ t. cond (ltb (t + 1) tiles) (leaves * area (t + 1)) 0) + sum_of_each n area * (nodes_of pass.tree + 4)
    steps_beats zero le = omega arith
    steps_beats (suc n) le = omega (arith, beats_append (tile_steps blocks n) (tile_step blocks n) lanes, steps_beats n (omega (arith, le)), step_beats n (omega (arith, le)))

    some_tiles : 1 ≤ tiles
    some_tiles = mul-le 1 1 _ _ (some_ceil pass.domain.cols tile.w some.1 sound.shaped.some_cols) (some_ceil pass.domain.rows tile.h some.0 sound.shaped.some_rows)

    all_beats : beats_of_all (pass_list blocks) lanes ≤ sum_of_each tiles area * (leaves + nodes_of pass.tree + 4)
    all_beats =
        let turned : sum_of_each tiles (λ t. leaves * area t) ≡ leaves * sum_of_each tiles area = scaled tiles in
        omega (
          arith,
          beats_append (blocks.reads 0) (tile_steps blocks tiles ++ (RWait 0 ∷ WWait 0 ∷ [])) lanes,
          beats_append (tile_steps blocks tiles) (RWait 0 ∷ WWait 0 ∷ []) lanes,
          reads_beats leaves 0 lanes (omega arith) some_tiles,
          steps_beats tiles (omega arith),
          next_sum tiles (λ t. leaves * area t) some_tiles,
          turned,
        )
      where
        scaled : (n : ℕ) → sum_of_each n (λ t. leaves * area t) ≡ leaves * sum_of_each n area
        scaled zero = omega arith
        scaled (suc n) = omega (arith, scaled n)

    -- ---- both together

    tiles_areas : (n : ℕ) → n ≤ tiles → n ≤ sum_of_each n area
    tiles_areas zero le = omega arith
    tiles_areas (suc n) le = omega (arith, tiles_areas n (omega (arith, le)), some_area n (omega (arith, le)))

    -- what an element costs is at most its share of the bound
    share : 52 + leaves + rest_total + leaf_total + (leaves + nodes_of pass.tree + 4) ≤ 256 * (nodes_of pass.tree + 8)
    share =
        let maps = sums_most leaves (λ n. leaf_steps (map_number n) + fill_room (map_number n)) (λ n. 363) (λ n below. map_most (map_number n)) in
        omega (
          arith,
          maps,
          sums_added leaves (λ n. leaf_steps (map_number n)) (λ n. fill_room (map_number n)),
          constant_sum leaves 363,
          root_most pass.kind,
          steps_are arrays later pass sound,
          nodes_at_least pass.tree,
          occurrences pass.tree,
          leaves_occur (leaves_of pass.tree) 0 leaves sound.numbered,
        )

    pub pass_is_short : (f : ℕ → ℕ) → most_steps (pass_program arrays pass tile) 0 f + beats_of_all (pass_list blocks) lanes ≤ 256 * pass_work pass
    pass_is_short f =
        let sum = sum_of_each tiles area in
        let each = 52 + leaves + rest_total + leaf_total + (leaves + nodes_of pass.tree + 4) in
        let many : 1 ≤ sum = omega (arith, tiles_areas tiles (omega arith), some_tiles) in
        let a = mul-le tiles (37 + leaves + rest_total) sum (37 + leaves + rest_total) (tiles_areas tiles (omega arith)) (omega arith) in
        let b = mul-le sum each (elements_of pass.domain) (256 * (nodes_of pass.tree + 8)) (areas_few pass.domain tile) share in
        omega (arith, all_steps f, all_beats, a, b, many)
