-- The program of a split can be coded, and its code is the split's.
use Rattle.std.proofs.Common.{ℕ, ◌^◌, ◌<◌, ◌≤◌, [], ◌∷◌, length-append, Some, ap, ◌∙◌, refl, arith}
use Rattle.venice_isa.specs.declared.instr.Instr.TheVariants.{Halt}
use Rattle.pass_plan.specs.Need.{need_of}
use Rattle.pass_plan.specs.Sound.{Split, IsSound}
use Rattle.host_programs.specs.Block.{instrs_at}
use Rattle.host_programs.specs.Program.{Program}
use Rattle.host_programs.specs.ProgramCode.{block_of, steps_of}
use Rattle.host_programs.specs.ProgramLaws.{no_registers}
use Rattle.host_programs.specs.Coded.{IsCodable, listing_of, ProgramsAreCode}
use Rattle.host_programs.proofs.Blocks.{instrs_length}
use Rattle.host_codegen.specs.SplitProgram.{split_program}
use Rattle.host_codegen.specs.CodeRoom.{code_room}
use Rattle.host_codegen.specs.CodeLaws.{ProgramsIssueTheirLists, ProgramsAreClosed, ProgramsTakeFew}
use Rattle.host_codegen.specs.CostLaws.{CodeFitsItsRoom, StepsAreBounded}
use Rattle.host_codegen.specs.SplitFits.{ProgramsFit}
use Rattle.host_codegen.specs.CodeOf.{IsCodeOf}

-- what is known of splits' programs
pub record SplitLaws : Type 0 where
  pub code : ProgramsAreCode
  pub lists : ProgramsIssueTheirLists
  pub closed : ProgramsAreClosed
  pub registers : ProgramsTakeFew
  pub fit : ProgramsFit
  pub room : CodeFitsItsRoom
  pub steps : StepsAreBounded

module _ (laws : SplitLaws) (split : Split) (spad : ℕ) (sound : IsSound split) (holds : need_of split.passes ≤ spad) (few : spad < 2 ^ 32) (room : code_room split < 2 ^ 32) where
  abbrev the_program : Program
  the_program = split_program split spad

  pub codable : IsCodable (split_program split spad)
  codable = record {
    closed = laws.closed split spad;
    registers = laws.registers split spad;
    places = omega (arith, laws.room split spad sound holds few, room);
  }

  pub code_is : IsCodeOf split spad (listing_of (split_program split spad))
  code_is =
      let fits = laws.fit split spad sound holds few in
      record {
        version = refl;
        few = omega (arith, length-append (instrs_at (block_of the_program 0) 0) (Halt ∷ []), instrs_length (block_of the_program 0) 0, laws.room split spad sound holds few);
        steps = steps_of (split_program split spad) 0 no_registers;
        issues = λ n more. laws.code.issues the_program codable fits n more ∙ ap (λ list. Some list) (laws.lists split spad sound holds few);
        within = λ lanes some. laws.steps split spad sound holds few fits lanes some;
      }
