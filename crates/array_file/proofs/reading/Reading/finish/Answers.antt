use Rattle.std.proofs.Common.{◌∙◌, ◌++◌, ◌∷◌, [], ap}
use Rattle.array_file.specs.Steps.{grid_of}
use Rattle.array_file.proofs.Functions.{all_read}
use Rattle.array_file.proofs.reading.Reading.finish.Goals as goal

pub returns-in-Ok : goal.returns-in-Ok
returns-in-Ok c =
    let heading = c.in-Values.heading in
    all_read c.args.self.now _ heading c.in-Values.is c.in-Ok.ensures.whole
    (c.in-Ok.ensures.end ∙ ap (λ v. c.args.self.now.arrays ++ (heading.name, grid_of heading v.items) ∷ []) c.replace-values.ensures.value)
