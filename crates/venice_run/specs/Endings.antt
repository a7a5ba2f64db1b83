-- The end that a command comes to at a fault of a text, of an image or of a run: the refusal, or that memory ran out.
use Rattle.array_syntax.specs.declared.fault.ParseFault.{ParseFault}
use Rattle.array_syntax.specs.declared.fault.ParseFault.TheVariants as parse_fault
use Rattle.shape_check.specs.declared.fault.CheckFault.{CheckFault}
use Rattle.shape_check.specs.declared.fault.CheckFault.TheVariants as check_fault
use Rattle.array_file.specs.declared.fault.ArrayFault.{ArrayFault}
use Rattle.array_file.specs.declared.fault.ArrayFault.TheVariants as array_fault
use Rattle.image_loader.specs.declared.fault.ImageFault.{ImageFault}
use Rattle.image_loader.specs.declared.fault.ImageFault.TheVariants as image_fault
use Rattle.venice_asm.specs.declared.fault.AsmFault.{AsmFault}
use Rattle.venice_asm.specs.declared.fault.AsmFault.TheVariants as asm_fault
use Rattle.venice_machine.specs.declared.grants.GrantFault.{GrantFault}
use Rattle.venice_machine.specs.declared.grants.GrantFault.TheVariants as grant_fault
use Rattle.venice_machine.specs.declared.stop.Stop.{Stop}
use Rattle.venice_run.specs.declared.ending.Ending.{Ending}
use Rattle.venice_run.specs.declared.ending.Ending.TheVariants.{Refused, Failed}
use Rattle.venice_run.specs.declared.ending.Fault.TheVariants.{Memory}
use Rattle.venice_run.specs.declared.refusal.Refusal.TheVariants.{Parse, Check, Arrays, Grants, Image, Text, Machine}

abbrev pub parse_ending : ParseFault → Ending
parse_ending parse_fault.Memory = Failed Memory
parse_ending fault = Refused (Parse fault)

abbrev pub check_ending : CheckFault → Ending
check_ending check_fault.Memory = Failed Memory
check_ending fault = Refused (Check fault)

abbrev pub array_ending : ArrayFault → Ending
array_ending array_fault.Memory = Failed Memory
array_ending fault = Refused (Arrays fault)

abbrev pub grant_ending : GrantFault → Ending
grant_ending grant_fault.Memory = Failed Memory
grant_ending fault = Refused (Grants fault)

abbrev pub image_ending : ImageFault → Ending
image_ending image_fault.Memory = Failed Memory
image_ending fault = Refused (Image fault)

abbrev pub assembler_ending : AsmFault → Ending
assembler_ending asm_fault.Memory = Failed Memory
assembler_ending fault = Refused (Text fault)

abbrev pub machine_ending : Stop → Ending
machine_ending stop = Refused (Machine stop)
