use Rattle.pass_plan.specs.Shown.{split_of}
use Rattle.venice_run.proofs.compiling.image_of.Goals as goal

pub invariant_of-result : goal.invariant_of-result
invariant_of-result c =
    let of = c.requires.of_program in
    c.good_laws.ensures.images of.program (split_of c.args.split) c.args.spad _ of.is_checked of.is_split c.requires.holds c.requires.few c.in_ok-code.ensures.fits

pub returns-clause-good : goal.returns-clause-good
returns-clause-good c = λ program is_checked is_split.
    c.good_laws.ensures.good program (split_of c.args.split) c.args.spad _ is_checked is_split c.requires.holds c.requires.few c.in_ok-code.ensures.fits
