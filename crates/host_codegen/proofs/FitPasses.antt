-- The program of a sound split fits in the host's 32 bits.
use Rattle.std.proofs.Common.{◌≡◌, ℕ, ◌+◌, ◌-◌, ◌<◌, ◌≤◌, refl, arith, List, [], ◌∷◌, All}
use Rattle.std.proofs.lemmas.Bool.{ltb-false}
use Rattle.std.proofs.lemmas.List.Elements.{All-nil, All-cons, All-head, All-tail}
use Rattle.pass_plan.specs.declared.parts.Tile.{Tile}
use Rattle.pass_plan.specs.declared.split.ArrayPlace.{ArrayPlace}
use Rattle.pass_plan.specs.Pass.{Pass}
use Rattle.pass_plan.specs.Need.{pass_need}
use Rattle.pass_plan.specs.Tile.{tile_of, tiles_of}
use Rattle.pass_plan.specs.Sound.{destinations_of, AreSound, ArePlaced}
use Rattle.pass_plan.proofs.Sums.{each_below}
use Rattle.dma_schedule.specs.Plan.{IsPlanned, IsReady}
use Rattle.host_programs.specs.Program.{Program, in_turn}
use Rattle.host_programs.specs.ProgramFits.{ProgramFits}
use Rattle.host_programs.specs.ProgramLaws.{no_registers}
use Rattle.host_codegen.specs.PassProgram.{turn_program, pass_program}
use Rattle.host_codegen.specs.SplitProgram.{passes_programs}
use Rattle.host_codegen.specs.SplitFits.{ProgramsFit}
use Rattle.host_codegen.proofs.Sequences.{all_fits}
use Rattle.host_codegen.proofs.FitTiles.{tiles_small, reads_program_fits, rest_program_fits}

module _ (arrays : List ArrayPlace) (pass : Pass) (tile : Tile) (ready : IsReady arrays pass tile) where
  abbrev tiles : ℕ
  tiles = tiles_of pass.domain tile

  turn_fits : (u : ℕ) (f : ℕ → ℕ) → u < tiles + 1 → f 0 ≡ tiles + 1 - u → f 1 ≡ u → ProgramFits (turn_program arrays pass tile) 2 f
  turn_fits u f below left number =
      let small = tiles_small arrays pass tile ready in
      let left_small : f 0 < 4294967296 = omega (arith, left, small) in
      let number_small : f 1 < 4294967296 = omega (arith, number, below, small) in (
        ((tt, left_small), (tt, omega arith), λ e. reads_program_fits arrays pass tile ready u f (omega (arith, left, ltb-false (f 0) 2 e)) number),
        (
          (tt, number_small),
          (tt, omega arith),
          λ e.
              let some = ltb-false (f 1) 1 e in
              rest_program_fits arrays pass tile ready (u - 1) f (omega (arith, number, some, below)) (omega (arith, number, some)),
        ),
      )

  pass_fits : (f : ℕ → ℕ) → ProgramFits (pass_program arrays pass tile) 0 f
  pass_fits f =
      let small = tiles_small arrays pass tile ready in
      (((tt, omega (arith, small)), λ u below. turn_fits u (in_turn f 0 (tiles + 1) u) below refl refl), ((tt, omega arith), (tt, omega arith)))

module _ (arrays : List ArrayPlace) (memory spad : ℕ) (placed : ArePlaced arrays memory) (few : spad < 4294967296) where
  abbrev Holds : Pass → Type 0
  Holds pass = pass_need pass ≤ spad

  abbrev FitsHere : Program → Type 0
  FitsHere p = ProgramFits p 0 no_registers

  passes_fit : (passes : List Pass) → AreSound arrays passes → All Holds passes → All FitsHere (passes_programs arrays spad passes)
  passes_fit [] sound holds = All-nil FitsHere
  passes_fit (pass ∷ passes) sound holds =
      let plan : IsPlanned arrays memory (destinations_of (pass ∷ passes)) spad pass = record { sound = sound.0; placed = placed; own = (0, omega arith, refl); holds = All-head Holds pass passes holds; few = few } in
      let ready : IsReady arrays pass (tile_of pass spad) = record { memory = memory; later = destinations_of (pass ∷ passes); spad = spad; planned = plan; is = refl } in
      All-cons FitsHere (pass_program arrays pass (tile_of pass spad)) (passes_programs arrays spad passes) (pass_fits arrays pass (tile_of pass spad) ready no_registers)
      (passes_fit passes sound.1 (All-tail Holds pass passes holds))

pub programs_fit : ProgramsFit
programs_fit split spad sound holds small =
    let each = each_below pass_need split.passes in
    all_fits (passes_programs split.arrays spad split.passes) 0 no_registers
    (passes_fit split.arrays split.memory spad sound.placed small split.passes sound.passes (λ k d below. omega (arith, each k d below, holds)))
