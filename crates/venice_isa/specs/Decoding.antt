-- What it is to read eight bytes as an instruction.
use Rattle.std.specs.Prelude.{◌≡◌, ℕ, List, Result, Ok, Err, IfOk, IfErr}
use Rattle.venice_isa.specs.declared.instr.Version.{Version}
use Rattle.venice_isa.specs.declared.instr.Instr.{Instr}
use Rattle.venice_isa.specs.declared.encoding.InstrFault.{InstrFault}
use Rattle.venice_isa.specs.Instr.{IsInstr}
use Rattle.venice_isa.specs.Encoding.{encoded}
use Rattle.venice_isa.specs.Form.{IsInstrFault}

-- the answer is the instruction of the version that is spelled so, and else the first fault
pub record IsDecoding (version : Version) (bytes : List ℕ) (result : Result Instr InstrFault) : Type 0 where
  pub found : IfOk result (IsInstr version)
  pub spelled : IfOk result (λ instr. encoded instr ≡ bytes)
  pub only : (instr : Instr) → IsInstr version instr → encoded instr ≡ bytes → result ≡ Ok instr
  pub fault : IfErr result (IsInstrFault version bytes)
  pub exact : (fault : InstrFault) → IsInstrFault version bytes fault → result ≡ Err fault
