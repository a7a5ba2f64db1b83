-- Code: instructions that the host can run.
use Rattle.std.specs.Prelude.{◌≡◌, ℕ, ◌<◌, ◌-◌, ◌^◌, List, length, All, Some, IfSome, slice_get}
use Rattle.venice_isa.specs.declared.instr.Version.{Version}
use Rattle.venice_isa.specs.declared.instr.Instr.{Instr}
use Rattle.venice_isa.specs.declared.instr.Instr.TheVariants.{Halt}
use Rattle.venice_isa.specs.Instr.{IsInstr, target_of}

-- instructions, and the version that they are of
pub record Listing : Type 0 where
  pub version : Version
  pub instrs : List Instr

-- an instruction goes to no place from this one on, unless it is the next one
abbrev pub HasTargetBelow : ℕ → Instr → Type 0
HasTargetBelow end instr = IfSome (target_of instr) (λ to. to < end)

-- the last instruction ends the run
abbrev pub EndsWithHalt : List Instr → Type 0
EndsWithHalt instrs = slice_get instrs (length instrs - 1) ≡ Some Halt

-- instructions of the version, the last of which ends the run, and none of which goes to a place outside
pub record IsCode (code : Listing) : Type 0 where
  pub each : All (IsInstr code.version) code.instrs
  pub targets : All (HasTargetBelow (length code.instrs)) code.instrs
  pub ends : EndsWithHalt code.instrs
  pub few : length code.instrs < 2 ^ 32
