use Rattle.shape_check.specs.Judge.{fits}
use Rattle.shape_check.proofs.Decisions.{same_answer, fits-FitsShape}
use Rattle.shape_check.proofs.rules.fits.Goals as goal

pub returns : goal.returns
returns c = same_answer c.fits.result (fits c.args.mapping c.args.of) c.fits.ensures (fits-FitsShape c.args.mapping c.args.of)
