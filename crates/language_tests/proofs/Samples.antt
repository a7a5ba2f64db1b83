-- Programs with one input, which fits.
use Rattle.std.proofs.Common.{◌≡◌, ℕ, List, [], ◌∷◌, ◌++◌, ◌∙◌, sym, subst}
use Rattle.ven_base.specs.declared.elem.Elem.{Elem}
use Rattle.ven_base.specs.Extent.{Extent}
use Rattle.ven_base.specs.Pairs.{Pairs}
use Rattle.array_syntax.specs.declared.program.Stmt.{Stmt}
use Rattle.array_syntax.specs.declared.program.Stmt.TheVariants as stmts
use Rattle.shape_check.specs.Statement.{Statement, Input}
use Rattle.shape_check.specs.Scope.{Scope, entry_of}
use Rattle.shape_check.specs.Typing.{AreTypings}
use Rattle.shape_check.specs.Meaning.{HasInput, FitsStatement, FitInputs}
use Rattle.language_tests.specs.Samples.{NoInput, OnlyInput}

rest_fits : (inputs : Pairs) (scope : Scope) (more : List Stmt) (rest : List Statement) → AreTypings scope more rest → NoInput more → FitInputs rest inputs
rest_fits inputs scope [] [] h none = tt
rest_fits inputs scope [] (s ∷ rest) h none = absurd h
rest_fits inputs scope (stmts.Input n at e rows cols shape_at ∷ more) rest h none = absurd none
rest_fits inputs scope (stmts.Let n at value ∷ more) [] h none = absurd h
rest_fits inputs scope (stmts.Let n at value ∷ more) (s ∷ rest) h none = (subst (FitsStatement inputs) (sym h.0.spells.is) tt, rest_fits inputs (scope ++ entry_of s ∷ []) more rest h.1 none)
rest_fits inputs scope (stmts.Output n at value ∷ more) [] h none = absurd h
rest_fits inputs scope (stmts.Output n at value ∷ more) (s ∷ rest) h none = (subst (FitsStatement inputs) (sym h.0.spells.is) tt, rest_fits inputs (scope ++ entry_of s ∷ []) more rest h.1 none)

pub all_fits : (inputs : Pairs) (name : List ℕ) (elem : Elem) (shape : Extent) (all : List Stmt) (program : List Statement) → HasInput inputs name elem shape → AreTypings [] all program → OnlyInput name elem shape all → FitInputs program inputs
all_fits inputs name elem shape [] program has h only = absurd only
all_fits inputs name elem shape (stmts.Input n at e rows cols shape_at ∷ more) [] has h only = absurd h
all_fits inputs name elem shape (stmts.Input n at e rows cols shape_at ∷ more) (s ∷ rest) has h only =
    let same : Input name elem shape ≡ s = (λ k. Input (sym only.0.name_is k) (sym only.0.elem_is k) (sym only.0.shape_is k)) ∙ sym h.0.spells in
    (subst (FitsStatement inputs) same has, rest_fits inputs (entry_of s ∷ []) more rest h.1 only.1)
all_fits inputs name elem shape (stmts.Let n at value ∷ more) program has h only = absurd only
all_fits inputs name elem shape (stmts.Output n at value ∷ more) program has h only = absurd only
