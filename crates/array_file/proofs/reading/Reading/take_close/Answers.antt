use Rattle.std.proofs.Common.{refl}
use Rattle.array_file.specs.declared.phase.Heading.{Heading}
use Rattle.array_file.proofs.Functions.{shaped}
use Rattle.array_file.proofs.reading.Reading.take_close.Goals as goal

pub returns-in-Some : goal.returns-in-Some
returns-in-Some c =
    let opening = c.in-AfterCols.opening in
    let heading : Heading = record { name = opening.name; elem = opening.elem; shape = c.in-Some.shape } in
    shaped c.args.self.now _ heading opening c.in-AfterCols.rows c.in-AfterCols.cols c.args.at c.in-AfterCols.is c.requires refl refl refl refl
    refl refl c.in-Some.ensures.value (c.in-Some.ensures.found.0 refl)
