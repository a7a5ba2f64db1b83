-- Inner: programs with one input, which tests build.
use Rattle.std.specs.Prelude.{◌≡◌, ℕ, List, [], ◌∷◌}
use Rattle.ven_base.specs.declared.elem.Elem.{Elem}
use Rattle.ven_base.specs.Extent.{Extent}
use Rattle.array_syntax.specs.declared.program.Stmt.{Stmt}
use Rattle.array_syntax.specs.declared.program.Stmt.TheVariants.{Input}
use Rattle.shape_check.specs.Typing.{extent_of}

abbrev pub NoInput : List Stmt → Type 0
NoInput [] = Unit {0}
NoInput (Input name at elem rows cols shape_at ∷ more) = ⊥
NoInput (stmt ∷ more) = NoInput more

pub record IsInput (name : List ℕ) (elem : Elem) (shape : Extent) (n : List ℕ) (e : Elem) (s : Extent) : Type 0 where
  pub name_is : n ≡ name
  pub elem_is : e ≡ elem
  pub shape_is : s ≡ shape

-- the first statement is this input, and no other is one
abbrev pub OnlyInput : List ℕ → Elem → Extent → List Stmt → Type 0
OnlyInput name elem shape [] = ⊥
OnlyInput name elem shape (Input n at e rows cols shape_at ∷ more) =
    IsInput name elem shape n e (extent_of rows cols) × NoInput more
OnlyInput name elem shape (stmt ∷ more) = ⊥
