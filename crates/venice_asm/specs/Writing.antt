-- Inner: what can be written.
use Rattle.std.specs.Prelude.{◌<◌}
use Rattle.venice_asm.specs.declared.operand.Operand.{Operand}
use Rattle.venice_asm.specs.declared.operand.Operand.TheVariants.{Parameter}

-- a parameter that is written is one of the machine's
abbrev pub HasWord : Operand → Type 0
HasWord (Parameter number) = number < 14
HasWord operand = Unit {0}
