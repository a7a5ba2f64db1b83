-- Inner: what may fail for want of memory alone.
use Rattle.venice_asm.specs.declared.fault.AsmFault.{AsmFault}
use Rattle.venice_asm.specs.declared.fault.AsmFault.TheVariants.{Memory}

-- out of memory alone
abbrev pub IsMemory : AsmFault → Type 0
IsMemory Memory = Unit {0}
IsMemory fault = ⊥
