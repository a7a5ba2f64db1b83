use Rattle.std.proofs.Common.{◌∙◌, ◌≡◌, ◌++◌, ◌∷◌, [], ap, refl, sym, subst}
use Rattle.array_file.specs.Steps.{grid_of, IsWrongEnd}
use Rattle.array_file.proofs.Functions.{comes_again, named, miscounted, test_false}
use Rattle.array_file.proofs.reading.Reading.next_array.Goals as goal

pub returns-then-comes_again : goal.returns-then-comes_again
returns-then-comes_again c =
    comes_again c.args.self.now c.args.heading.now c.args.name c.args.at c.requires.values (c.comes_again.ensures.0 c.if-comes_again.true)

pub returns-in-Ok : goal.returns-in-Ok
returns-in-Ok c =
    let heading = c.args.heading.now in
    named c.args.self.now _ heading c.args.name c.args.at c.requires.values (test_false c.comes_again.result _ c.comes_again.ensures c.if-comes_again.false) c.in-Ok.ensures.whole
    (c.in-Ok.ensures.end ∙ ap (λ v. c.args.self.now.arrays ++ (heading.name, grid_of heading v.items) ∷ []) c.replace-values.ensures.value)
    refl (ap (λ v. v.items) c.replace-values.ensures.after ∙ c.new.ensures.items) refl

pub returns-in-Err : goal.returns-in-Err
returns-in-Err c =
    let heading = c.args.heading.now in
    miscounted c.args.self.now heading c.args.name c.args.at c.in-Err.fault c.requires.values (test_false c.comes_again.result _ c.comes_again.ensures c.if-comes_again.false)
    (subst (λ v. IsWrongEnd heading v.items c.in-Err.fault) c.replace-values.ensures.value c.in-Err.ensures.end)
