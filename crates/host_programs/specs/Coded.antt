-- The code of a whole program.
use Rattle.std.specs.Prelude.{◌≡◌, ℕ, ◌+◌, ◌<◌, ◌≤◌, ◌^◌, [], ◌∷◌, ◌++◌, true, Some}
use Rattle.venice_isa.specs.declared.instr.Instr.TheVariants.{Halt}
use Rattle.venice_isa.specs.declared.instr.Version.TheVariants.{Two}
use Rattle.venice_isa.specs.Code.{Listing, IsCode}
use Rattle.venice_isa.specs.Host.{issue_list}
use Rattle.host_programs.specs.Block.{size, instrs_at}
use Rattle.host_programs.specs.Expr.{value}
use Rattle.host_programs.specs.Program.{Program, list_by}
use Rattle.host_programs.specs.ProgramCode.{block_of, steps_of, is_closed}
use Rattle.host_programs.specs.ProgramFits.{ProgramFits}
use Rattle.host_programs.specs.ProgramLaws.{no_registers}
use Rattle.host_programs.specs.Room.{program_room}

-- a program that no register is in use before, and that has registers and places enough
pub record IsCodable (p : Program) : Type 0 where
  pub closed : is_closed p 0 ≡ true
  pub registers : program_room p ≤ 32
  pub places : size (block_of p 0) + 1 < 2 ^ 32

-- its instructions, and a halt behind them
abbrev pub listing_of : Program → Listing
listing_of p = record { version = Two; instrs = instrs_at (block_of p 0) 0 ++ Halt ∷ [] }

-- the code has the program's list, by exact values, as its issue list, within any more steps than the program's
abbrev pub IssuesItsList : Program → Listing → Type 0
IssuesItsList p code = ProgramFits p 0 no_registers → (n : ℕ) → steps_of p 0 no_registers < n
    → issue_list code.instrs n ≡ Some (list_by value p 0 no_registers)

-- what can be coded is code, with that issue list
pub record ProgramsAreCode : Type 0 where
  pub is_code : (p : Program) → IsCodable p → IsCode (listing_of p)
  pub issues : (p : Program) → IsCodable p → IssuesItsList p (listing_of p)
