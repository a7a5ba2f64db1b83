use Rattle.ven_base.specs.declared.elem.Elem.TheVariants.{I8}
use Rattle.shape_check.specs.Checked.{program_of}
use Rattle.language_tests.proofs.Samples.{all_fits}
use Rattle.language_tests.proofs.meaning.checked_program.Goals as goal

pub returns-in-Ok-check : goal.returns-in-Ok-check
returns-in-Ok-check c = λ inputs has.
    all_fits inputs c.args.a I8 (record { rows = 1; cols = 3 }) c.in-Ok.program.stmts (program_of c.in-Ok-check.checked) has c.in-Ok-check.ensures.ok.typings c.in-Ok.ensures.input
