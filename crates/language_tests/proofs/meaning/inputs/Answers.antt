use Rattle.std.proofs.Common.{◌≡◌, ◌∙◌, ◌∷◌, [], ◌++◌, refl, sym, ap, subst, true, Some, None}
use Rattle.std.specs.Prelude.{cond}
use Rattle.std.specs.Str.{bytes_eq}
use Rattle.std.proofs.lemmas.Slice.Eq.{bytes_eq-Decides}
use Rattle.ven_base.specs.Grid.{Grid, IsGrid}
use Rattle.ven_base.specs.Pairs.{Pairs, array_named}
use Rattle.language_tests.proofs.meaning.inputs.Goals as goal

pub returns-in-Ok-true : goal.returns-in-Ok-true
returns-in-Ok-true c =
    let name = c.args.name in
    let grid : Grid = c.in_ok-array.array in
    let put : c.add.new.self ≡ (name, grid) ∷ [] = c.in-Ok-true.ensures.added c.in-Ok-true.field-0-test ∙ ap (λ (xs : Pairs). xs ++ (name, grid) ∷ []) c.new-inputs.ensures in
    let same : bytes_eq name name ≡ true = (bytes_eq-Decides name name).1 refl in
    record {
      array = grid;
      found = ap (λ (xs : Pairs). array_named xs name) put ∙ ap (λ b. cond b (Some grid) None) same;
      elem_is = ap (λ (g : Grid). g.elem) c.in_ok-array.ensures.value;
      shape_is = ap (λ (g : Grid). g.shape) c.in_ok-array.ensures.value ∙ c.in_ok-new.ensures.value;
      is_grid = subst IsGrid (sym c.in_ok-array.ensures.value) (c.in_ok-array.ensures.found.0 refl);
    }
