-- The program of a pass issues its pipelined list, and that of a split its passes' lists.
use Rattle.std.proofs.Common.{◌≡◌, ℕ, zero, suc, ◌+◌, ◌-◌, ◌<◌, ◌≤◌, ◌⊎◌, inl, inr, refl, sym, ap, ◌∙◌, arith, cond, ltb, List, [], ◌∷◌, ◌++◌, length, All}
use Rattle.std.specs.Int.{div_ceil}
use Rattle.std.specs.List.{flat_map}
use Rattle.std.proofs.lemmas.Bool.{lt-ltb, le-ltb, cases_lt}
use Rattle.std.proofs.lemmas.List.{append-nil, append_assoc}
use Rattle.std.proofs.lemmas.List.Elements.{All-head, All-tail}
use Rattle.std.proofs.lemmas.Nat.{mul-le}
use Rattle.ven_base.specs.Extent.{IsExtent}
use Rattle.venice_isa.specs.declared.issue.Issue.{Issue}
use Rattle.venice_isa.specs.declared.issue.Issue.TheVariants.{RWait, WWait}
use Rattle.pass_plan.specs.declared.parts.Tile.{Tile}
use Rattle.pass_plan.specs.declared.split.ArrayPlace.{ArrayPlace}
use Rattle.pass_plan.specs.Pass.{Pass}
use Rattle.pass_plan.specs.Need.{pass_need}
use Rattle.pass_plan.specs.Tile.{tile_of, tiles_of, across, piece_of}
use Rattle.pass_plan.specs.Sound.{IsSoundPass, AreSound}
use Rattle.pass_plan.proofs.Tilings.{tile_some, some_ceil, columns_few, piece_inside}
use Rattle.pass_plan.proofs.Sums.{each_below}
use Rattle.dma_schedule.specs.Blocks.{Blocks, next_reads, tile_step, tile_steps, pass_list}
use Rattle.dma_schedule.specs.PipeList.{tile_reads, blocks_of}
use Rattle.host_programs.specs.Expr.{value}
use Rattle.host_programs.specs.Program.{in_turn, turns_list, list_by}
use Rattle.host_programs.specs.ProgramLaws.{no_registers}
use Rattle.host_programs.proofs.Programs.{turns_same}
use Rattle.transfer_programs.specs.ReadLaws.{HasElements}
use Rattle.host_codegen.specs.TileProgram.{reads_program, rest_program}
use Rattle.host_codegen.specs.PassProgram.{turn_program, pass_program}
use Rattle.host_codegen.specs.SplitProgram.{passes_programs}
use Rattle.host_codegen.specs.CodeLaws.{ProgramsIssueTheirLists}
use Rattle.host_codegen.proofs.Sequences.{all_lists}
use Rattle.host_codegen.proofs.TileLists.{TransferLaws, IsTiled, rest_of, reads_list, rest_list}

-- ---- a turn more than there are tiles

-- turn u reads tile u, where there is one, and does the rest of the tile before
abbrev turn_of : (tiles : ℕ) → (reads rest : ℕ → List Issue) → ℕ → List Issue
turn_of tiles reads rest u = cond (ltb u tiles) (reads u) [] ++ cond (ltb u 1) [] (rest (u - 1))

module _ (blocks : Blocks) (rest : ℕ → List Issue) (is_rest : (t : ℕ) → next_reads blocks t ++ rest t ≡ tile_step blocks t) where
  abbrev turn : ℕ → List Issue
  turn = turn_of blocks.tiles blocks.reads rest

  later_turn : (t : ℕ) → turn (t + 1) ≡ tile_step blocks t
  later_turn t =
      let before : t + 1 - 1 ≡ t = omega arith in
      ap (λ b. next_reads blocks t ++ cond b [] (rest (t + 1 - 1))) (le-ltb (t + 1) 1 (omega arith)) ∙ ap (λ n. next_reads blocks t ++ rest n) before ∙ is_rest t

  later_turns : (k t : ℕ) → tile_steps blocks t ++ turns_list k (t + 1) turn ≡ tile_steps blocks (t + k)
  later_turns zero t =
      let none : t ≡ t + 0 = omega arith in
      append-nil (tile_steps blocks t) ∙ ap (tile_steps blocks) none
  later_turns (suc k) t =
      let next : t + 1 ≡ suc t = omega arith in
      let all : suc t + k ≡ t + suc k = omega arith in
      sym (append_assoc (tile_steps blocks t) (turn (t + 1)) (turns_list k (t + 1 + 1) turn))
      ∙ ap (λ xs. (tile_steps blocks t ++ xs) ++ turns_list k (t + 1 + 1) turn) (later_turn t)
      ∙ ap (λ n. tile_steps blocks (suc t) ++ turns_list k (n + 1) turn) next
      ∙ later_turns k (suc t) ∙ ap (tile_steps blocks) all

  -- the code of the reads stands once: one turn more makes the same list
  one_copy : 1 ≤ blocks.tiles → turns_list (suc blocks.tiles) 0 turn ≡ blocks.reads 0 ++ tile_steps blocks blocks.tiles
  one_copy some =
      let n = blocks.tiles in
      let all : 0 + n ≡ n = omega arith in
      ap (λ b. (cond b (blocks.reads 0) [] ++ []) ++ turns_list n 1 turn) (lt-ltb 0 n (omega (arith, some)))
      ∙ ap (λ xs. xs ++ turns_list n 1 turn) (append-nil (blocks.reads 0))
      ∙ ap (λ xs. blocks.reads 0 ++ xs) (later_turns n 0 ∙ ap (tile_steps blocks) all)

-- ---- a pass

-- what a sound pass has, with a tile that isn't empty
record IsReadyPass (pass : Pass) (tile : Tile) : Type 0 where
  domain : IsExtent pass.domain
  some_rows : 1 ≤ tile.h
  tiled : IsTiled pass tile

module _ (arrays : List ArrayPlace) (pass : Pass) (tile : Tile) (laws : TransferLaws) (ready : IsReadyPass pass tile) where
  abbrev tiles : ℕ
  tiles = tiles_of pass.domain tile

  some_tiles : 1 ≤ tiles
  some_tiles =
      mul-le 1 1 (across pass.domain tile) (div_ceil pass.domain.rows tile.h) (some_ceil pass.domain.cols tile.w ready.tiled.some_columns ready.domain.some_cols)
      (some_ceil pass.domain.rows tile.h ready.some_rows ready.domain.some_rows)

  has_elements : (t : ℕ) → t < tiles → HasElements (piece_of pass.domain tile t)
  has_elements t below =
      let inside = piece_inside pass.domain tile ready.domain ready.some_rows ready.tiled.some_columns t below in
      record { some_rows = inside.some_rows; some_cols = inside.some_cols }

  read_part : (u : ℕ) (f : ℕ → ℕ) → f 0 ≡ tiles + 1 - u → f 1 ≡ u → cond (ltb (f 0) 2) [] (list_by value (reads_program arrays pass tile) 2 f) ≡ cond (ltb u tiles) (tile_reads arrays pass tile (length pass.leaves) u) []
  read_part u f left number = go (cases_lt u tiles)
    where
      xs : List Issue
      xs = list_by value (reads_program arrays pass tile) 2 f

      ys : List Issue
      ys = tile_reads arrays pass tile (length pass.leaves) u

      go : ((u < tiles) ⊎ (tiles ≤ u)) → cond (ltb (f 0) 2) [] xs ≡ cond (ltb u tiles) ys []
      go (inl lt) =
          let read = reads_list arrays pass tile laws ready.tiled f (has_elements (f 1) (omega (arith, number, lt))) ∙ ap (tile_reads arrays pass tile (length pass.leaves)) number in
          ap (λ b. cond b [] xs) (le-ltb (f 0) 2 (omega (arith, left, lt))) ∙ read ∙ sym (ap (λ b. cond b ys []) (lt-ltb u tiles lt))
      go (inr le) = ap (λ b. cond b [] xs) (lt-ltb (f 0) 2 (omega (arith, left, le))) ∙ sym (ap (λ b. cond b ys []) (le-ltb u tiles le))

  rest_part : (u : ℕ) (f : ℕ → ℕ) → u < tiles + 1 → f 1 ≡ u → cond (ltb (f 1) 1) [] (list_by value (rest_program arrays pass tile) 2 f) ≡ cond (ltb u 1) [] (rest_of arrays pass tile laws ready.tiled (u - 1))
  rest_part u f below number = go (cases_lt u 1)
    where
      xs : List Issue
      xs = list_by value (rest_program arrays pass tile) 2 f

      go : ((u < 1) ⊎ (1 ≤ u)) → cond (ltb (f 1) 1) [] xs ≡ cond (ltb u 1) [] (rest_of arrays pass tile laws ready.tiled (u - 1))
      go (inl lt) = ap (λ b. cond b [] xs) (lt-ltb (f 1) 1 (omega (arith, number, lt))) ∙ sym (ap (λ b. cond b [] (rest_of arrays pass tile laws ready.tiled (u - 1))) (lt-ltb u 1 lt))
      go (inr le) =
          ap (λ b. cond b [] xs) (le-ltb (f 1) 1 (omega (arith, number, le)))
          ∙ rest_list arrays pass tile laws ready.tiled (u - 1) f (has_elements (u - 1) (omega (arith, below, le))) (omega (arith, number, le))
          ∙ sym (ap (λ b. cond b [] (rest_of arrays pass tile laws ready.tiled (u - 1))) (le-ltb u 1 le))

  pass_program_list : (f : ℕ → ℕ) → list_by value (pass_program arrays pass tile) 0 f ≡ pass_list (blocks_of arrays pass tile)
  pass_program_list f =
      let blocks = blocks_of arrays pass tile in
      let reads : ℕ → List Issue = tile_reads arrays pass tile (length pass.leaves) in
      let rest : ℕ → List Issue = rest_of arrays pass tile laws ready.tiled in
      let waits = RWait 0 ∷ WWait 0 ∷ [] in
      let in_turns : ℕ → List Issue = λ u. list_by value (turn_program arrays pass tile) 2 (in_turn f 0 (tiles + 1) u) in
      let all : tiles + 1 ≡ suc tiles = omega arith in
      ap (λ xs. xs ++ waits) (turns_same (tiles + 1) 0 (tiles + 1) in_turns (turn_of tiles reads rest) (omega arith) (λ u below. each_turn f u below) ∙ ap (λ n. turns_list n 0 (turn_of tiles reads rest)) all ∙ one_copy blocks rest (λ t. refl) some_tiles)
      ∙ append_assoc (blocks.reads 0) (tile_steps blocks tiles) waits
    where
      each_turn : (f : ℕ → ℕ) (u : ℕ) → u < tiles + 1
          → list_by value (turn_program arrays pass tile) 2 (in_turn f 0 (tiles + 1) u) ≡ turn_of tiles (tile_reads arrays pass tile (length pass.leaves)) (rest_of arrays pass tile laws ready.tiled) u
      each_turn f u below =
          let g = in_turn f 0 (tiles + 1) u in
          ap (λ xs. xs ++ cond (ltb (g 1) 1) [] (list_by value (rest_program arrays pass tile) 2 g)) (read_part u g refl refl)
          ∙ ap (λ ys. cond (ltb u tiles) (tile_reads arrays pass tile (length pass.leaves) u) [] ++ ys) (rest_part u g below refl)

-- ---- a split

ready_pass : (arrays : List ArrayPlace) (later : List ℕ) (pass : Pass) (spad : ℕ) → IsSoundPass arrays later pass → pass_need pass ≤ spad → IsReadyPass pass (tile_of pass spad)
ready_pass arrays later pass spad sound holds =
    let some = tile_some pass (tile_of pass spad) sound.shaped (record { spad = spad; holds = holds; is = refl }) in
    let few = columns_few pass.domain sound.shaped in
    record {
      domain = sound.shaped;
      some_rows = some.0;
      tiled = record { some_columns = some.1; small = omega (arith, few); shaped = λ k d below. (sound.leaves k d below).shaped };
    }

module _ (laws : TransferLaws) (arrays : List ArrayPlace) (spad : ℕ) where
  passes_list : (passes : List Pass) → AreSound arrays passes → All (λ pass. pass_need pass ≤ spad) passes
      → flat_map (λ p. list_by value p 0 no_registers) (passes_programs arrays spad passes) ≡ flat_map (λ pass. pass_list (blocks_of arrays pass (tile_of pass spad))) passes
  passes_list [] sound holds = refl
  passes_list (pass ∷ passes) sound holds =
      let Holds : Pass → Type 0 = λ pass. pass_need pass ≤ spad in
      let rest = flat_map (λ p. list_by value p 0 no_registers) (passes_programs arrays spad passes) in
      ap (λ xs. xs ++ rest) (pass_program_list arrays pass (tile_of pass spad) laws (ready_pass arrays _ pass spad sound.0 (All-head Holds pass passes holds)) no_registers)
      ∙ ap (λ ys. pass_list (blocks_of arrays pass (tile_of pass spad)) ++ ys) (passes_list passes sound.1 (All-tail Holds pass passes holds))

pub programs_issue_their_lists : TransferLaws → ProgramsIssueTheirLists
programs_issue_their_lists laws split spad sound holds small =
    let each = each_below pass_need split.passes in
    all_lists value (passes_programs split.arrays spad split.passes) 0 no_registers
    ∙ passes_list laws split.arrays spad split.passes sound.passes (λ k d below. omega (arith, each k d below, holds))
