-- What holds of programs and their code.
use Rattle.std.specs.Prelude.{◌≡◌, ℕ, ◌<◌, List, [], ◌∷◌, ◌++◌, true, Some}
use Rattle.venice_isa.specs.declared.issue.Issue.{Issue}
use Rattle.venice_isa.specs.declared.instr.Instr.TheVariants.{Halt}
use Rattle.venice_isa.specs.Host.{issue_list}
use Rattle.host_programs.specs.Contents.{RegisterContents, AreWords}
use Rattle.host_programs.specs.Block.{Block, instrs_at, after, issues, steps, is_sound}
use Rattle.host_programs.specs.Expr.{value, machine_value}
use Rattle.host_programs.specs.ExprLaws.{Agree}
use Rattle.host_programs.specs.Program.{Program, list_by}
use Rattle.host_programs.specs.ProgramCode.{block_of, steps_of, is_closed}
use Rattle.host_programs.specs.ProgramFits.{ProgramFits}

-- wherever the registers below n have the numbers f, the block passes on this list in so many steps; it keeps the
-- registers below d
pub record Gives (x : Block) (n d : ℕ) (f : ℕ → ℕ) (list : List Issue) (count : ℕ) : Type 0 where
  pub gives : (held : RegisterContents) → AreWords held → Agree n held.register f → issues x held ≡ list
  pub keeps : (held : RegisterContents) (r : ℕ) → r < d → (after x held).register r ≡ held.register r
  pub takes : (held : RegisterContents) → AreWords held → Agree n held.register f → steps x held ≡ count

abbrev pub no_registers : ℕ → ℕ
no_registers r = 0

pub record ProgramsCompile : Type 0 where
  -- a program's code passes on its list by the host's numbers, in its steps
  pub gives : (p : Program) (d : ℕ) (f : ℕ → ℕ) → is_closed p d ≡ true
      → Gives (block_of p d) d d f (list_by machine_value p d f) (steps_of p d f)
  pub sound : (p : Program) (d : ℕ) → is_sound (block_of p d) ≡ true
  -- and where it fits this is its list by exact values
  pub exact : (p : Program) (d : ℕ) (f : ℕ → ℕ) → ProgramFits p d f
      → list_by machine_value p d f ≡ list_by value p d f
  -- so with a halt behind it, it is code with this issue list
  pub whole : (p : Program) (n : ℕ) → is_closed p 0 ≡ true → ProgramFits p 0 no_registers
      → steps_of p 0 no_registers < n
      → issue_list (instrs_at (block_of p 0) 0 ++ Halt ∷ []) n ≡ Some (list_by value p 0 no_registers)
