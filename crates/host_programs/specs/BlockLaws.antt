-- What holds of blocks.
use Rattle.std.specs.Prelude.{◌≡◌, ℕ, ◌+◌, ◌<◌, List, [], ◌∷◌, ◌++◌, true, false, Some, slice_get}
use Rattle.venice_isa.specs.declared.instr.Instr.{Instr}
use Rattle.venice_isa.specs.declared.instr.Instr.TheVariants.{Halt}
use Rattle.venice_isa.specs.Host.{after_steps, passed_in, issue_list}
use Rattle.host_programs.specs.Contents.{RegisterContents, standing, first_contents, AreWords}
use Rattle.host_programs.specs.Block.{Block, size, instrs_at, after, issues, steps, writes, is_sound}

-- these instructions stand in the code from this place on
abbrev pub HasAt : (code : List Instr) → (place : ℕ) → List Instr → Type 0
HasAt code place [] = Unit {0}
HasAt code place (instr ∷ rest) = (slice_get code place ≡ Some instr) × HasAt code (place + 1) rest

-- begun at its place the block passes on its issues in its steps, and the host is then behind it with what it leaves
pub record RunsThrough (code : List Instr) (place : ℕ) (x : Block) (held : RegisterContents) : Type 0 where
  pub arrives : after_steps code (steps x held) (standing place held) ≡ standing (place + size x) (after x held)
  pub passes : passed_in code (steps x held) (standing place held) ≡ issues x held

-- every sound block does that wherever it stands, whatever the host holds
abbrev pub RunsOn : Type 0
RunsOn = (code : List Instr) (place : ℕ) (x : Block) (held : RegisterContents) → is_sound x ≡ true → AreWords held
    → HasAt code place (instrs_at x place) → RunsThrough code place x held

-- a register that it doesn't change is as before
abbrev pub KeepsOthers : Type 0
KeepsOthers = (x : Block) (r : ℕ) (held : RegisterContents) → writes x r ≡ false
    → (after x held).register r ≡ held.register r

-- a sound block with a halt behind it is code, whose issue list the block's is, within any more steps than its own
abbrev pub IsItsCode : Type 0
IsItsCode = (x : Block) (n : ℕ) → is_sound x ≡ true → steps x first_contents < n
    → issue_list (instrs_at x 0 ++ Halt ∷ []) n ≡ Some (issues x first_contents)

pub record BlocksRun : Type 0 where
  pub runs_on : RunsOn
  pub keeps_others : KeepsOthers
  pub is_its_code : IsItsCode
