use Rattle.std.proofs.Common.{sym, subst}
use Rattle.venice_asm.specs.Parts.{IsInstrOf}
use Rattle.venice_asm.proofs.Instrs.{host_is}
use Rattle.venice_asm.proofs.statement.instr_of.Goals as goal

pub returns-in_default : goal.returns-in_default
returns-in_default c = subst (IsInstrOf c.args.head c.args.operands.now) (sym c.host_instr.ensures) (host_is c.args.head c.args.operands.now c.in_default.not-Vec c.requires)
